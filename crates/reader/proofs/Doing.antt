-- A step of the reading succeeds where its tokens stand and it fits.
use Rattle.std.proofs.Common.{◌≡◌, ℕ, zero, suc, ◌<◌, true, false, not, ◌&&◌, eqb, ltb, leb, Bool, List, [], ◌∷◌, ◌++◌, length, Some, Ok, Err, codes, refl, ap, ◌∙◌, subst, inl, inr, arith}
use Rattle.std.specs.Str.{bytes_eq}
use Rattle.std.proofs.lemmas.List.{append_assoc}
use Rattle.std.proofs.lemmas.Bool.{cases_Bool, cond-true, cond-false, and_parts, leb-true, lt-leb, le-ltb, eq-eqb, ne_eqb}
use Rattle.chart.specs.Words.{Text, name_like, is_name}
use Rattle.chart.specs.Lookup.{seek, among}
use Rattle.chart.specs.Content.{Content, message_names, sender_of, receiver_of}
use Rattle.chart.specs.Drafting.{message_called, times_received, listed, with_instance, with_message, with_receipt}
use Rattle.chart.specs.declared.drafting.InstanceRefusal.TheVariants as instance
use Rattle.chart.proofs.Seeking.{is_same, same_is}
use Rattle.reader.specs.Lexemes.{Lexeme, word, semicolon, comma, colon, finish, stray, place_of, lexeme, left}
use Rattle.reader.specs.Meaning.{Sign, written, semicolon_sign, comma_sign, colon_sign}
use Rattle.reader.specs.Reading.{Outcome, then, word_of, on_semicolon, on_colon, on_comma_or_semicolon, name_by, name_at, known_by, instance_at, listed_by, further_at, new_message_at, receiver_at, sent_by, sent_message_at, sender_is, keyword_from, semicolon_from, out_line, in_line, event_line, more, ended, go_on, steps_from}
use Rattle.reader.specs.declared.refusals.Refusal.TheVariants.{NamedTwice, TooManyMessages, SentToItself, NotAsSent}
use Rattle.reader.proofs.Lexing.{Shows}
use Rattle.reader.proofs.Taking.{Takes, all_shorter}
use Rattle.reader.proofs.Accepting.{Adds, sends, receives}
use Rattle.reader.proofs.Moving.{Part, listing, drawing, step_of, Moves, lists, draws, Many, done, again, last_sign, some_tokens}

pub then_does : {X Y : Type 0} {r : Outcome X} {x : X} (f : X → Outcome Y) → r ≡ Ok x → then r f ≡ f x
then_does f e = ap (λ s. then s f) e

pub word_does : (l : Lexeme) (t : Text) → Shows (written t) l → word_of l ≡ Ok (t, place_of l)
word_does (word u p) t h = ap (λ x. Ok (x, p)) h
word_does (semicolon u p) t h = absurd h
word_does (comma u p) t h = absurd h
word_does (colon u p) t h = absurd h
word_does (finish p) t h = absurd h
word_does (stray p) t h = absurd h

module _ {Y : Type 0} where
  semicolon_does : (l : Lexeme) (y : Outcome Y) → Shows semicolon_sign l → on_semicolon l y ≡ y
  semicolon_does (word u p) y h = absurd h
  semicolon_does (semicolon u p) y h = refl
  semicolon_does (comma u p) y h = absurd (omega arith)
  semicolon_does (colon u p) y h = absurd (omega arith)
  semicolon_does (finish p) y h = absurd h
  semicolon_does (stray p) y h = absurd h

  colon_does : (l : Lexeme) (y : Outcome Y) → Shows colon_sign l → on_colon l y ≡ y
  colon_does (word u p) y h = absurd h
  colon_does (semicolon u p) y h = absurd (omega arith)
  colon_does (comma u p) y h = absurd (omega arith)
  colon_does (colon u p) y h = refl
  colon_does (finish p) y h = absurd h
  colon_does (stray p) y h = absurd h

  comma_does : (l : Lexeme) (y z : Outcome Y) → Shows comma_sign l → on_comma_or_semicolon l y z ≡ y
  comma_does (word u p) y z h = absurd h
  comma_does (semicolon u p) y z h = absurd (omega arith)
  comma_does (comma u p) y z h = refl
  comma_does (colon u p) y z h = absurd (omega arith)
  comma_does (finish p) y z h = absurd h
  comma_does (stray p) y z h = absurd h

  list_ends : (l : Lexeme) (y z : Outcome Y) → Shows semicolon_sign l → on_comma_or_semicolon l y z ≡ z
  list_ends (word u p) y z h = absurd h
  list_ends (semicolon u p) y z h = refl
  list_ends (comma u p) y z h = absurd (omega arith)
  list_ends (colon u p) y z h = absurd (omega arith)
  list_ends (finish p) y z h = absurd h
  list_ends (stray p) y z h = absurd h

pub keyword_does : (w : Text) (n : ℕ) (bs r : Text) → Takes n bs (written w ∷ []) r → keyword_from w n bs ≡ Ok r
keyword_does w n bs r h = then_does _ (word_does (lexeme n bs) w h.0) ∙ cond-true (bytes_eq w w) (Ok (left bs)) _ (is_same w) ∙ ap Ok h.1

pub semicolon_taken : (n : ℕ) (bs r : Text) → Takes n bs (semicolon_sign ∷ []) r → semicolon_from n bs ≡ Ok r
semicolon_taken n bs r h = semicolon_does (lexeme n bs) (Ok (left bs)) h.0 ∙ ap Ok h.1

pub name_does : (t : Text) (p : ℕ) → is_name t ≡ true → name_at t p ≡ Ok t
name_does t p good =
    let a = and_parts (name_like t) (leb (length t) 24) good in
    ap (name_by p) (cond-true (name_like t) _ _ a.0 ∙ cond-false (ltb 24 (length t)) _ _ (le-ltb 24 (length t) (leb-true (length t) 24 a.1)))

instance_does : (c : Content) (t : Text) (p i : ℕ) → is_name t ≡ true → seek (λ x. x) t c.instances ≡ Some i → instance_at c t p ≡ Ok i
instance_does c t p i good found = then_does (λ u. known_by p (seek (λ x. x) u c.instances)) (name_does t p good) ∙ ap (known_by p) found

-- a name is not `endmsc`
not_end : (t : Text) → is_name t ≡ true → bytes_eq t (codes "endmsc") ≡ false
not_end t good =
    elim (cases_Bool (bytes_eq t (codes "endmsc"))) [
      | inl same ↦ (let bad : ◌≡◌ {A = Bool} false true = subst (λ w. is_name w ≡ true) (same_is t (codes "endmsc") same) good in cc)
      | inr other ↦ other
    ]

module _ (n : ℕ) (c : Content) where
  out_does : (s : ℕ) (bs q : Text) (u v : Text) (r : ℕ) → is_name u ≡ true → is_name v ≡ true → message_called c u ≡ false → length c.messages < 64 → seek (λ x. x) v c.instances ≡ Some r → (s ≡ r → ⊥)
      → Takes n bs (written u ∷ written (codes "to") ∷ written v ∷ semicolon_sign ∷ []) q → out_line n c s bs ≡ Ok (with_message c u s r, q)
  out_does s bs q u v r name other new few found apart h =
      let p : ℕ = place_of (lexeme n bs) in
      let b₁ : Text = left (left bs) in
      let q₁ : ℕ = place_of (lexeme n b₁) in
      let m : new_message_at c u p ≡ Ok u = then_does _ (name_does u p name) ∙ cond-false (message_called c u) (Err (NamedTwice p)) _ new ∙ cond-false (leb 64 (length c.messages)) (Err (TooManyMessages p)) (Ok u) (lt-leb 64 (length c.messages) few) in
      let o : receiver_at c s v q₁ ≡ Ok r = then_does _ (instance_does c v q₁ r other found) ∙ cond-false (eqb s r) (Err (SentToItself q₁)) (Ok r) (ne_eqb s r apart) in
      then_does _ (word_does (lexeme n bs) u h.0) ∙ then_does _ m ∙ then_does _ (keyword_does (codes "to") n (left bs) b₁ (h.1.0, refl))
      ∙ then_does _ (word_does (lexeme n b₁) v h.1.1.0) ∙ then_does _ o ∙ then_does (λ bs₂. Ok (with_message c u s r, bs₂)) (semicolon_taken n (left b₁) q h.1.1.1)

  in_does : (i : ℕ) (bs q : Text) (u v : Text) (m : ℕ) → is_name u ≡ true → is_name v ≡ true → seek (λ x. x) u (message_names c) ≡ Some m → ltb 0 (times_received c m) ≡ false → receiver_of c m ≡ i → seek (λ x. x) v c.instances ≡ Some (sender_of c m)
      → Takes n bs (written u ∷ written (codes "from") ∷ written v ∷ semicolon_sign ∷ []) q → in_line n c i bs ≡ Ok (with_receipt c m, q)
  in_does i bs q u v m name other found new at from' h =
      let p : ℕ = place_of (lexeme n bs) in
      let b₁ : Text = left (left bs) in
      let q₁ : ℕ = place_of (lexeme n b₁) in
      let f : sent_message_at c i u p ≡ Ok m =
      then_does _ (name_does u p name) ∙ ap (sent_by c i p) found ∙ cond-false (ltb 0 (times_received c m)) (Err (NotAsSent p)) _ new ∙ cond-true (eqb (receiver_of c m) i) (Ok m) (Err (NotAsSent p)) (eq-eqb (receiver_of c m) i at) in
      let o : sender_is c (sender_of c m) v q₁ ≡ Ok tt = then_does _ (instance_does c v q₁ (sender_of c m) other from') ∙ cond-true (eqb (sender_of c m) (sender_of c m)) (Ok tt) (Err (NotAsSent q₁)) (eq-eqb (sender_of c m) (sender_of c m) refl) in
      then_does _ (word_does (lexeme n bs) u h.0) ∙ then_does _ f ∙ then_does _ (keyword_does (codes "from") n (left bs) b₁ (h.1.0, refl))
      ∙ then_does _ (word_does (lexeme n b₁) v h.1.1.0) ∙ then_does _ o ∙ then_does (λ bs₂. Ok (with_receipt c m, bs₂)) (semicolon_taken n (left b₁) q h.1.1.1)

  event_does : {i : ℕ} {ts : List Sign} {d : Content} (bs q : Text) → Adds c i ts d → Takes n bs ts q → event_line n c i bs ≡ Ok (d, q)
  event_does {i} bs q (sends {u} {v} {r} name other new few found apart) h =
      colon_does (lexeme n bs) _ h.0 ∙ then_does _ (word_does (lexeme n (left bs)) (codes "out") h.1.0) ∙ out_does i (left (left bs)) q u v r name other new few found apart h.1.1
  event_does {i} bs q (receives {u} {v} {m} name other found new at from') h =
      colon_does (lexeme n bs) _ h.0 ∙ then_does _ (word_does (lexeme n (left bs)) (codes "in") h.1.0) ∙ in_does i (left (left bs)) q u v m name other found new at from' h.1.1

listed_does : (c : Content) (t : Text) (p : ℕ) → is_name t ≡ true → length c.instances < 16 → among t c.instances ≡ false → further_at c t p ≡ Ok (with_instance c t)
listed_does c t p name few new =
    then_does (λ u. listed_by p (listed c u)) (name_does t p name)
    ∙ ap (listed_by p) (cond-false (leb 16 (length c.instances)) (Err instance.TooMany) _ (lt-leb 16 (length c.instances) few) ∙ cond-false (among t c.instances) (Err instance.NamedTwice) (Ok (with_instance c t)) new)

step_does : (n : ℕ) {c d : Content} {part : Part} {ts : List Sign} (bs q : Text) → Moves c part ts d → Takes n bs ts q → step_of part n c bs ≡ Ok (more d q)
step_does n {c} bs q (lists {t} name few new) h =
    comma_does (lexeme n bs) _ _ h.0 ∙ then_does _ (word_does (lexeme n (left bs)) t h.1.0) ∙ then_does _ (listed_does c t (place_of (lexeme n (left bs))) name few new) ∙ ap (λ l. Ok (more (with_instance c t) l)) h.1.1
step_does n {c} {d} bs q (draws {t} {i} {ts} name found adds) h =
    then_does _ (word_does (lexeme n bs) t h.0) ∙ cond-false (bytes_eq t (codes "endmsc")) (Ok (ended c (place_of (lexeme n bs)) (left bs))) _ (not_end t name)
    ∙ then_does _ (instance_does c t (place_of (lexeme n bs)) i name found) ∙ then_does _ (event_does n c (left bs) q adds h.1)

end_does : (part : Part) (n : ℕ) (c : Content) (bs q : Text) → Takes n bs (last_sign part ∷ []) q → step_of part n c bs ≡ Ok (ended c (place_of (lexeme n bs)) q)
end_does listing n c bs q h = list_ends (lexeme n bs) _ _ h.0 ∙ ap (λ l. Ok (ended c (place_of (lexeme n bs)) l)) h.1
end_does drawing n c bs q h = then_does _ (word_does (lexeme n bs) (codes "endmsc") h.0) ∙ ap (λ l. Ok (ended c (place_of (lexeme n bs)) l)) h.1

-- what is taken first, and what then
split_takes : (n : ℕ) (bs : Text) (ts us : List Sign) (r : Text) → Takes n bs (ts ++ us) r → (q : Text) × Takes n bs ts q × Takes n q us r
split_takes n bs [] us r h = (bs, refl, h)
split_takes n bs (s ∷ ts) us r h = let a = split_takes n (left bs) ts us r h.1 in (a.0, (h.0, a.1), a.2)

pub steps_do : {part : Part} (f n : ℕ) {c d : Content} {ts : List Sign} (bs r : Text) → Many part c ts d → Takes n bs (ts ++ last_sign part ∷ []) r → length bs < f → (p : ℕ) × (steps_from (step_of part) f n c bs ≡ Ok (d, p, r))
steps_do zero n bs r m h l = absurd (omega arith)
steps_do {part} (suc f) n {c} bs r done h l =
    (place_of (lexeme n bs), then_does (go_on (steps_from (step_of part) f n)) (end_does part n c bs r h))
steps_do {part} (suc f) n {c} bs r (again {d = c'} {ts = ts} {us = us} m rest) h l =
    let a = split_takes n bs ts (us ++ last_sign part ∷ []) r (subst (λ (x : List Sign). Takes n bs x r) (append_assoc ts us (last_sign part ∷ [])) h) in
    let k = steps_do f n a.0 r rest a.2 (omega (arith, all_shorter n bs ts a.0 a.1, some_tokens m)) in
    (k.0, then_does (go_on (steps_from (step_of part) f n)) (step_does n bs a.0 m a.1) ∙ k.1)
