-- A well-formed chart is drawn step by step.
use Rattle.std.proofs.Common.{◌≡◌, ℕ, suc, ◌+◌, ◌<◌, ◌≤◌, true, false, eqb, ltb, List, [], ◌∷◌, ◌++◌, map, length, get_or, take, Some, count_by, sym, refl, ap, ◌∙◌, subst, add-one, arith}
use Rattle.std.specs.List.{flat_map, AllByRecursion as All}
use Rattle.std.proofs.ByRecursion.{All-get_or}
use Rattle.std.proofs.lemmas.List.{append_assoc, append-nil, length-append, length-map, length-take-le, get_or_at, get_or-take, get_or-map, take_at, take_all, take_more, take-take, take-map}
use Rattle.std.proofs.lemmas.List.Sums.{sum_by-append}
use Rattle.std.proofs.lemmas.Bool.{and_parts, eq-eqb, ltb-true, le-ltb, eqb-false, not-true}
use Rattle.chart.specs.Words.{Text, is_name}
use Rattle.chart.specs.Lookup.{seek, among}
use Rattle.chart.specs.Content.{Content, Happening, sent, received, Post, nobody, message_names, sender_of, receiver_of, is_sending, is_received, numbered, NamesApart, WellFormed}
use Rattle.chart.specs.Drafting.{message_called, times_received}
use Rattle.chart.proofs.Additions.{same_content}
use Rattle.chart.proofs.Counting.{count_yes, count_no}
use Rattle.chart.proofs.Numbering.{at_send, at_receipt}
use Rattle.chart.proofs.Repeating.{seek_apart}
use Rattle.reader.specs.Meaning.{further_names, instance_name, message_name, line_of}
use Rattle.reader.proofs.Accepting.{sends, receives}
use Rattle.reader.proofs.Moving.{listing, drawing, Moves, lists, draws, Many, done, again}

-- a title and these instances, and no line yet
abbrev pub only : Text → List Text → Content
only title instances = record { title = title; instances = instances; messages = []; events = [] }

pub list_built : (title : Text) (ys xs : List Text) → NamesApart (ys ++ xs) → All (λ t. is_name t ≡ true) xs → length (ys ++ xs) ≤ 16 → Many listing (only title ys) (further_names xs) (only title (ys ++ xs))
list_built title ys [] apart named few = subst (λ (l : List Text). Many listing (only title ys) [] (only title l)) (sym (append-nil ys)) done
list_built title ys (t ∷ xs) apart named few =
    let same : (ys ++ t ∷ []) ++ xs ≡ ys ++ t ∷ xs = append_assoc ys (t ∷ []) xs in
    let long = length-append ys (t ∷ xs) in
    let new : among t ys ≡ false = (let h = apart (length ys) (omega arith) in let a = get_or_at ys t xs [] (length ys) refl in let b = take_at ys (t ∷ xs) (length ys) refl in cc) in
    again (lists named.0 (omega arith) new)
    (subst (λ (l : List Text). Many listing (only title (ys ++ t ∷ [])) (further_names xs) (only title l)) same
    (list_built title (ys ++ t ∷ []) xs (subst NamesApart (sym same) apart) named.1 (omega (arith, ap length same))))

-- names that are apart stay so at the front
apart_take : (ts : List Text) (k : ℕ) → k ≤ length ts → NamesApart ts → NamesApart (take k ts)
apart_take ts k low apart i l =
    let long = length-take-le k ts low in
    let h = apart i (omega arith) in
    let a = get_or-take k ts i [] (omega arith) in
    let b = take-take i k ts (omega arith) in
    cc

module _ (c : Content) (wf : WellFormed c) where
  -- the chart up to the events es, in which k messages are sent
  abbrev up_to : List Happening → ℕ → Content
  up_to es k = record { title = c.title; instances = c.instances; messages = take k c.messages; events = es }

  named_instance : (i : ℕ) → i < length c.instances → is_name (instance_name c i) ≡ true
  named_instance i l = All-get_or (λ t. is_name t ≡ true) c.instances i [] l wf.instance_names

  named_message : (m : ℕ) → m < length c.messages → is_name (message_name c m) ≡ true
  named_message m l = ap is_name (sym (get_or-map (λ (p : Post). p.name) c.messages m nobody [] l)) ∙ All-get_or (λ t. is_name t ≡ true) (message_names c) m [] (omega (arith, length-map c.messages (λ (p : Post). p.name))) wf.names_of_messages

  ends : (m : ℕ) → m < length c.messages → (sender_of c m < length c.instances) × (receiver_of c m < length c.instances) × (sender_of c m ≡ receiver_of c m → ⊥)
  ends m l =
      let a = and_parts (ltb (sender_of c m) (length c.instances)) _ (wf.all_join m nobody l) in
      let b = and_parts (ltb (receiver_of c m) (length c.instances)) _ a.1 in
      (ltb-true _ _ a.0, ltb-true _ _ b.0, eqb-false _ _ (not-true (eqb (sender_of c m) (receiver_of c m)) b.1))

  found_instance : (i : ℕ) → i < length c.instances → seek (λ x. x) (instance_name c i) c.instances ≡ Some i
  found_instance i l = seek_apart c.instances i wf.instances_apart l

  -- the names of the first k messages
  front_names : (k : ℕ) → map (λ (p : Post). p.name) (take k c.messages) ≡ take k (message_names c)
  front_names k = sym (take-map (λ (p : Post). p.name) k c.messages)

  send_built : (es : List Happening) (k : ℕ) → k < length c.messages → Moves (up_to es k) drawing (line_of c (sent k)) (up_to (es ++ sent k ∷ []) (suc k))
  send_built es k low =
      let e = ends k low in
      let long = length-take-le k c.messages (omega arith) in
      let names-long = length-map c.messages (λ (p : Post). p.name) in
      let new : message_called (up_to es k) (message_name c k) ≡ false =
      (let h = wf.messages_apart k (omega arith) in let a = front_names k in let b = get_or-map (λ (p : Post). p.name) c.messages k nobody [] low in cc) in
      subst (Moves (up_to es k) drawing (line_of c (sent k)))
      (same_content c.title refl (sym (take_more c.messages k nobody low) ∙ ap (λ j. take j c.messages) (add-one k)) (ap (λ j. es ++ sent j ∷ []) long))
      (draws (named_instance (sender_of c k) e.0) (found_instance (sender_of c k) e.0)
      (sends (named_message k low) (named_instance (receiver_of c k) e.1) new (omega (arith, wf.few_messages)) (found_instance (receiver_of c k) e.1) e.2))

  receipt_built : (es rest : List Happening) (k m : ℕ) → c.events ≡ es ++ received m ∷ rest → m < k → k ≤ length c.messages → Moves (up_to es k) drawing (line_of c (received m)) (up_to (es ++ received m ∷ []) k)
  receipt_built es rest k m here low high =
      let inside : m < length c.messages = omega arith in
      let e = ends m inside in
      let long = length-take-le k c.messages high in
      let same : get_or (take k c.messages) m nobody ≡ get_or c.messages m nobody = get_or-take k c.messages m nobody low in
      let names-long = length-map c.messages (λ (p : Post). p.name) in
      let front_long = length-take-le k (message_names c) (omega arith) in
      let name_at : get_or (take k (message_names c)) m [] ≡ message_name c m = get_or-take k (message_names c) m [] low ∙ get_or-map (λ (p : Post). p.name) c.messages m nobody [] inside in
      let found : seek (λ x. x) (message_name c m) (message_names (up_to es k)) ≡ Some m =
      ap (seek (λ x. x) (message_name c m)) (front_names k) ∙ ap (λ t. seek (λ x. x) t (take k (message_names c))) (sym name_at) ∙ seek_apart (take k (message_names c)) m (apart_take (message_names c) k (omega arith) wf.messages_apart) (omega arith) in
      let once = wf.received_once m inside in
      let total = ap (count_by (is_received m)) here ∙ sum_by-append _ es (received m ∷ rest) in
      let one = count_yes (is_received m) (received m) rest (eq-eqb m m refl) in
      let new : ltb 0 (times_received (up_to es k) m) ≡ false = le-ltb 0 _ (omega arith) in
      draws (named_instance (receiver_of c m) e.1) (found_instance (receiver_of c m) e.1)
      (receives (named_message m inside) (named_instance (sender_of c m) e.0) found new (ap (λ p. p.receiver) same) (found_instance (sender_of c m) e.0 ∙ ap (λ p. Some p.sender) (sym same)))

  pub lines_built : (es rest : List Happening) (k : ℕ) → c.events ≡ es ++ rest → numbered k rest ≡ true → k + count_by is_sending rest ≡ length c.messages → Many drawing (up_to es k) (flat_map (line_of c) rest) c
  lines_built es [] k here good total =
      subst (Many drawing (up_to es k) []) (same_content c.title refl (take_all k c.messages (omega arith)) (sym (here ∙ append-nil es))) done
  lines_built es (sent m ∷ rest) k here good total =
      let n = at_send k m rest good in
      let one = count_yes is_sending (sent m) rest refl in
      subst (λ (j : ℕ). Many drawing (up_to es k) (flat_map (line_of c) (sent j ∷ rest)) c) (sym n.0)
      (again (send_built es k (omega arith))
      (lines_built (es ++ sent k ∷ []) rest (suc k) (here ∙ ap (λ j. es ++ sent j ∷ rest) n.0 ∙ sym (append_assoc es (sent k ∷ []) rest)) n.1 (omega arith)))
  lines_built es (received m ∷ rest) k here good total =
      let n = at_receipt k m rest good in
      let none = count_no is_sending (received m) rest refl in
      again (receipt_built es rest k m here n.0 (omega arith))
      (lines_built (es ++ received m ∷ []) rest k (here ∙ sym (append_assoc es (received m ∷ []) rest)) n.1 (omega arith))
