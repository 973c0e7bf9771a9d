-- What a step of the reading that succeeded took from the text, and what it added.
use Rattle.std.proofs.Common.{◌≡◌, ℕ, ◌<◌, Bool, true, false, cond, eqb, ltb, ◌⊎◌, List, [], ◌∷◌, length, Some, Ok, Err, codes, Result, sym, refl, ap, ◌∙◌, subst, inl, inr}
use Rattle.std.specs.Str.{bytes_eq}
use Rattle.std.proofs.lemmas.Slice.Eq.{bytes_eq-Decides}
use Rattle.std.proofs.lemmas.Bool.{cases_Bool, cond-true, cond-false, and_from, le-leb, ltb-false, eqb-true}
use Rattle.chart.specs.Words.{Text, name_like, is_name}
use Rattle.chart.specs.Names.{judged}
use Rattle.chart.specs.Lookup.{seek}
use Rattle.chart.specs.Content.{Content, message_names, sender_of, receiver_of}
use Rattle.chart.specs.Drafting.{message_called, times_received, with_message, with_receipt}
use Rattle.chart.specs.declared.names.NameRefusal.{NameRefusal}
use Rattle.chart.specs.declared.names.NameRefusal.TheVariants.{NotAName, TooLong}
use Rattle.reader.specs.Lexemes.{Lexeme, word, semicolon, comma, colon, finish, stray, lexeme, left}
use Rattle.reader.specs.Meaning.{Sign, written, semicolon_sign, comma_sign, colon_sign}
use Rattle.reader.specs.Reading.{Outcome, on_word, on_semicolon, on_colon, on_end, on_comma_or_semicolon, name_by, name_at, instance_at, new_message_at, receiver_at, sent_message_at, sender_is, keyword_from, semicolon_from, out_line, in_line, event_line}
use Rattle.reader.specs.declared.refusals.Refusal.TheVariants.{Unexpected, NotAsSent}
use Rattle.reader.proofs.Inversion.{same_ok, then_ok, passes, instance_ok, receiver_ok, new_message_ok, sent_message_all}
use Rattle.reader.proofs.Lexing.{Shows}
use Rattle.reader.proofs.Taking.{Takes, takes_then}

module _ {Y : Type 0} (y : Y) where
  pub word_ok : (l : Lexeme) (f : Text → ℕ → Outcome Y) → on_word l f ≡ Ok y → (t : Text) × (p : ℕ) × Shows (written t) l × (f t p ≡ Ok y)
  word_ok (word t p) f h = (t, p, refl, h)
  word_ok (semicolon t p) f h = absurd cc
  word_ok (comma t p) f h = absurd cc
  word_ok (colon t p) f h = absurd cc
  word_ok (finish p) f h = absurd cc
  word_ok (stray p) f h = absurd cc

  semicolon_ok : (l : Lexeme) (r : Outcome Y) → on_semicolon l r ≡ Ok y → Shows semicolon_sign l × (r ≡ Ok y)
  semicolon_ok (word t p) r h = absurd cc
  semicolon_ok (semicolon t p) r h = (refl, h)
  semicolon_ok (comma t p) r h = absurd cc
  semicolon_ok (colon t p) r h = absurd cc
  semicolon_ok (finish p) r h = absurd cc
  semicolon_ok (stray p) r h = absurd cc

  colon_ok : (l : Lexeme) (r : Outcome Y) → on_colon l r ≡ Ok y → Shows colon_sign l × (r ≡ Ok y)
  colon_ok (word t p) r h = absurd cc
  colon_ok (semicolon t p) r h = absurd cc
  colon_ok (comma t p) r h = absurd cc
  colon_ok (colon t p) r h = (refl, h)
  colon_ok (finish p) r h = absurd cc
  colon_ok (stray p) r h = absurd cc

  pub end_ok : (l : Lexeme) (r : Outcome Y) → on_end l r ≡ Ok y → (p : ℕ) × (l ≡ finish p) × (r ≡ Ok y)
  end_ok (word t p) r h = absurd cc
  end_ok (semicolon t p) r h = absurd cc
  end_ok (comma t p) r h = absurd cc
  end_ok (colon t p) r h = absurd cc
  end_ok (finish p) r h = (p, refl, h)
  end_ok (stray p) r h = absurd cc

  pub list_ok : (l : Lexeme) (r q : Outcome Y) → on_comma_or_semicolon l r q ≡ Ok y → (Shows comma_sign l × (r ≡ Ok y)) ⊎ (Shows semicolon_sign l × (q ≡ Ok y))
  list_ok (word t p) r q h = absurd cc
  list_ok (semicolon t p) r q h = inr (refl, h)
  list_ok (comma t p) r q h = inl (refl, h)
  list_ok (colon t p) r q h = absurd cc
  list_ok (finish p) r q h = absurd cc
  list_ok (stray p) r q h = absurd cc

pub same_text : (t w : Text) → bytes_eq t w ≡ true → t ≡ w
same_text t w e = (bytes_eq-Decides t w).0 e

pub keyword_ok : (w : Text) (n : ℕ) (bs r : Text) → keyword_from w n bs ≡ Ok r → Takes n bs (written w ∷ []) r
keyword_ok w n bs r h =
    let a = word_ok r (lexeme n bs) (λ t p. cond (bytes_eq t w) (Ok (left bs)) (Err (Unexpected p))) h in
    let b = passes (bytes_eq a.0 w) _ (Ok (left bs)) r a.3 in
    (subst (λ (t : Text). Shows (written t) (lexeme n bs)) (same_text a.0 w b.0) a.2, same_ok (left bs) r b.1)

pub semicolon_read : (n : ℕ) (bs r : Text) → semicolon_from n bs ≡ Ok r → Takes n bs (semicolon_sign ∷ []) r
semicolon_read n bs r h = let a = semicolon_ok r (lexeme n bs) (Ok (left bs)) h in (a.0, same_ok (left bs) r a.1)

judged_ok : (t u : Text) (x y : Bool) → ◌≡◌ {A = Result Text NameRefusal} (cond x (cond y (Err TooLong) (Ok t)) (Err NotAName)) (Ok u) → (t ≡ u) × (x ≡ true) × (y ≡ false)
judged_ok t u true true h = absurd cc
judged_ok t u true false h = (cc, refl, refl)
judged_ok t u false y h = absurd cc

pub name_ok : (t : Text) (p : ℕ) (u : Text) → name_at t p ≡ Ok u → (t ≡ u) × (is_name t ≡ true)
name_ok t p u h =
    let a = judged_ok t u (name_like t) (ltb 24 (length t)) (unrefused (judged t) h) in
    (a.0, and_from _ _ a.1 (le-leb _ 24 (ltb-false 24 _ a.2)))
  where
    unrefused : (r : Result Text NameRefusal) → name_by p r ≡ Ok u → r ≡ Ok u
    unrefused (Ok v) e = ap Ok (same_ok v u e)
    unrefused (Err NotAName) e = absurd cc
    unrefused (Err TooLong) e = absurd cc

-- what an event line at instance i adds to a draft, past the instance's name
pub data Adds (c : Content) (i : ℕ) : List Sign → Content → Type 0 where
  sends : {u v : Text} {r : ℕ} → is_name u ≡ true → is_name v ≡ true → message_called c u ≡ false → length c.messages < 64 → seek (λ x. x) v c.instances ≡ Some r → (i ≡ r → ⊥)
      → Adds c i (colon_sign ∷ written (codes "out") ∷ written u ∷ written (codes "to") ∷ written v ∷ semicolon_sign ∷ []) (with_message c u i r)
  receives : {u v : Text} {m : ℕ} → is_name u ≡ true → is_name v ≡ true → seek (λ x. x) u (message_names c) ≡ Some m → ltb 0 (times_received c m) ≡ false → receiver_of c m ≡ i → seek (λ x. x) v c.instances ≡ Some (sender_of c m)
      → Adds c i (colon_sign ∷ written (codes "in") ∷ written u ∷ written (codes "from") ∷ written v ∷ semicolon_sign ∷ []) (with_receipt c m)

-- a name that was found among the instances
pub found_ok : (c : Content) (t : Text) (p i : ℕ) → instance_at c t p ≡ Ok i → (is_name t ≡ true) × (seek (λ x. x) t c.instances ≡ Some i)
found_ok c t p i h =
    let a = instance_ok c t p i h in
    let b = name_ok t p a.0 a.1 in
    (b.1, ap (λ u. seek (λ x. x) u c.instances) b.0 ∙ a.2)

module _ (n : ℕ) (c : Content) where
  out_ok : (s : ℕ) (bs : Text) (d : Content × Text) → out_line n c s bs ≡ Ok d
      → (u : Text) × (v : Text) × (r : ℕ) × Takes n bs (written u ∷ written (codes "to") ∷ written v ∷ semicolon_sign ∷ []) d.1
      × (is_name u ≡ true) × (is_name v ≡ true) × (message_called c u ≡ false) × (length c.messages < 64) × (seek (λ x. x) v c.instances ≡ Some r) × (s ≡ r → ⊥) × (d.0 ≡ with_message c u s r)
  out_ok s bs d h =
      let w₁ = word_ok d (lexeme n bs) _ h in
      let t₁ = then_ok (new_message_at c w₁.0 w₁.1) _ d w₁.3 in
      let k = then_ok (keyword_from (codes "to") n (left bs)) _ d t₁.2 in
      let w₂ = word_ok d (lexeme n k.0) _ k.2 in
      let t₂ = then_ok (receiver_at c s w₂.0 w₂.1) _ d w₂.3 in
      let e = then_ok (semicolon_from n (left k.0)) _ d t₂.2 in
      let new = new_message_ok c w₁.0 w₁.1 t₁.0 t₁.1 in
      let name = name_ok w₁.0 w₁.1 t₁.0 new.0 in
      let other = receiver_ok c s w₂.0 w₂.1 t₂.0 t₂.1 in
      let found = found_ok c w₂.0 w₂.1 t₂.0 other.0 in
      let result : (with_message c t₁.0 s t₂.0, e.0) ≡ d = same_ok _ d e.2 in (
        w₁.0,
        w₂.0,
        t₂.0,
        (w₁.2, takes_then n (left bs) (written (codes "to") ∷ []) (written w₂.0 ∷ semicolon_sign ∷ []) k.0 d.1 (keyword_ok (codes "to") n (left bs) k.0 k.1) (w₂.2, subst (Takes n (left k.0) (semicolon_sign ∷ [])) (ap (λ x. x.1) result) (semicolon_read n (left k.0) e.0 e.1))),
        name.1,
        found.0,
        ap (message_called c) name.0 ∙ new.1,
        new.2,
        found.1,
        other.1,
        sym (ap (λ x. x.0) result) ∙ ap (λ u. with_message c u s t₂.0) (sym name.0),
      )

  sender_ok : (s : ℕ) (t : Text) (p : ℕ) (x : Unit {0}) → sender_is c s t p ≡ Ok x → (is_name t ≡ true) × (seek (λ x. x) t c.instances ≡ Some s)
  sender_ok s t p x h =
      let a = then_ok (instance_at c t p) (λ i. cond (eqb i s) (Ok tt) (Err (NotAsSent p))) x h in
      let b = passes (eqb a.0 s) _ (Ok tt) x a.2 in
      let f = found_ok c t p a.0 a.1 in
      (f.0, f.1 ∙ ap Some (eqb-true a.0 s b.0))

  in_ok : (r : ℕ) (bs : Text) (d : Content × Text) → in_line n c r bs ≡ Ok d
      → (u : Text) × (v : Text) × (m : ℕ) × Takes n bs (written u ∷ written (codes "from") ∷ written v ∷ semicolon_sign ∷ []) d.1
      × (is_name u ≡ true) × (is_name v ≡ true) × (seek (λ x. x) u (message_names c) ≡ Some m) × (ltb 0 (times_received c m) ≡ false) × (receiver_of c m ≡ r) × (seek (λ x. x) v c.instances ≡ Some (sender_of c m)) × (d.0 ≡ with_receipt c m)
  in_ok r bs d h =
      let w₁ = word_ok d (lexeme n bs) _ h in
      let t₁ = then_ok (sent_message_at c r w₁.0 w₁.1) _ d w₁.3 in
      let k = then_ok (keyword_from (codes "from") n (left bs)) _ d t₁.2 in
      let w₂ = word_ok d (lexeme n k.0) _ k.2 in
      let t₂ = then_ok (sender_is c (sender_of c t₁.0) w₂.0 w₂.1) _ d w₂.3 in
      let e = then_ok (semicolon_from n (left k.0)) _ d t₂.2 in
      let sent = sent_message_all c r w₁.0 w₁.1 t₁.0 t₁.1 in
      let name = name_ok w₁.0 w₁.1 sent.0 sent.1 in
      let from' = sender_ok (sender_of c t₁.0) w₂.0 w₂.1 t₂.0 t₂.1 in
      let result : (with_receipt c t₁.0, e.0) ≡ d = same_ok _ d e.2 in (
        w₁.0,
        w₂.0,
        t₁.0,
        (w₁.2, takes_then n (left bs) (written (codes "from") ∷ []) (written w₂.0 ∷ semicolon_sign ∷ []) k.0 d.1 (keyword_ok (codes "from") n (left bs) k.0 k.1) (w₂.2, subst (Takes n (left k.0) (semicolon_sign ∷ [])) (ap (λ x. x.1) result) (semicolon_read n (left k.0) e.0 e.1))),
        name.1,
        from'.0,
        ap (λ u. seek (λ x. x) u (message_names c)) name.0 ∙ sent.2,
        sent.3,
        sent.4,
        from'.1,
        sym (ap (λ x. x.0) result),
      )

  pub event_ok : (i : ℕ) (bs : Text) (d : Content × Text) → event_line n c i bs ≡ Ok d → (ts : List Sign) × Takes n bs ts d.1 × Adds c i ts d.0
  event_ok i bs d h =
      let m = colon_ok d (lexeme n bs) _ h in
      let w = word_ok d (lexeme n (left bs)) _ m.1 in
      elim (cases_Bool (bytes_eq w.0 (codes "out"))) [
        | inl out ↦
            (let o = out_ok i (left (left bs)) d (sym (cond-true (bytes_eq w.0 (codes "out")) _ _ out) ∙ w.3) in (
              colon_sign ∷ written (codes "out") ∷ written o.0 ∷ written (codes "to") ∷ written o.1 ∷ semicolon_sign ∷ [],
              (m.0, (subst (λ (t : Text). Shows (written t) (lexeme n (left bs))) (same_text w.0 (codes "out") out) w.2, o.3)),
              subst (Adds c i _) (sym o.10) (sends o.4 o.5 o.6 o.7 o.8 o.9),
            ))
        | inr other ↦
            (let b = passes (bytes_eq w.0 (codes "in")) _ _ d (sym (cond-false (bytes_eq w.0 (codes "out")) _ _ other) ∙ w.3) in
            let o = in_ok i (left (left bs)) d b.1 in (
              colon_sign ∷ written (codes "in") ∷ written o.0 ∷ written (codes "from") ∷ written o.1 ∷ semicolon_sign ∷ [],
              (m.0, (subst (λ (t : Text). Shows (written t) (lexeme n (left bs))) (same_text w.0 (codes "in") b.0) w.2, o.3)),
              subst (Adds c i _) (sym o.10) (receives o.4 o.5 o.6 o.7 o.8 o.9),
            ))
      ]
