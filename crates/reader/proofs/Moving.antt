-- What the steps of a part that succeeded took from the text, and what they added.
use Rattle.std.proofs.Common.{◌≡◌, ℕ, zero, suc, ◌<◌, Bool, true, false, cond, leb, List, [], ◌∷◌, ◌++◌, length, Some, Ok, Err, codes, sym, refl, ap, ◌∙◌, subst, inl, inr, arith}
use Rattle.std.specs.Str.{bytes_eq}
use Rattle.std.proofs.lemmas.List.{append_assoc}
use Rattle.std.proofs.lemmas.Bool.{cases_Bool, cond-true, cond-false, leb-false}
use Rattle.chart.specs.Words.{Text, is_name}
use Rattle.chart.specs.Lookup.{seek, among}
use Rattle.chart.specs.Content.{Content}
use Rattle.chart.specs.Drafting.{listed, with_instance}
use Rattle.chart.specs.declared.drafting.InstanceRefusal.TheVariants as instance
use Rattle.reader.specs.Lexemes.{lexeme, left}
use Rattle.reader.specs.Meaning.{Sign, written, semicolon_sign, comma_sign}
use Rattle.reader.specs.Reading.{name_at, instance_at, listed_by, further_at, event_line, Step, more, ended, instance_step, line_step, Stepping, go_on, steps_from}
use Rattle.reader.proofs.Inversion.{same_ok, then_ok}
use Rattle.reader.proofs.Lexing.{Shows}
use Rattle.reader.proofs.Taking.{Takes, takes_then, all_shorter}
use Rattle.reader.proofs.Accepting.{word_ok, list_ok, same_text, name_ok, found_ok, Adds, event_ok}

-- the parts of a text that repeat
pub data Part : Type 0 where
  listing : Part
  drawing : Part

abbrev pub step_of : Part → Stepping
step_of listing = instance_step
step_of drawing = line_step

-- the token that ends a part
abbrev pub last_sign : Part → Sign
last_sign listing = semicolon_sign
last_sign drawing = written (codes "endmsc")

-- one step that goes on
pub data Moves (c : Content) : Part → List Sign → Content → Type 0 where
  lists : {t : Text} → is_name t ≡ true → length c.instances < 16 → among t c.instances ≡ false → Moves c listing (comma_sign ∷ written t ∷ []) (with_instance c t)
  draws : {t : Text} {i : ℕ} {ts : List Sign} {d : Content} → is_name t ≡ true → seek (λ x. x) t c.instances ≡ Some i → Adds c i ts d → Moves c drawing (written t ∷ ts) d

-- all steps of a part
pub data Many (part : Part) : Content → List Sign → Content → Type 0 where
  done : {c : Content} → Many part c [] c
  again : {c d e : Content} {ts us : List Sign} → Moves c part ts d → Many part d us e → Many part c (ts ++ us) e

abbrev pub Took : Part → ℕ → Content → Text → Step → Type 0
Took part n c bs (more d r) = (ts : List Sign) × Takes n bs ts r × Moves c part ts d
Took part n c bs (ended d p r) = (c ≡ d) × Takes n bs (last_sign part ∷ []) r

listed_ok : (c : Content) (u : Text) (p : ℕ) (d : Content) → listed_by p (listed c u) ≡ Ok d → (length c.instances < 16) × (among u c.instances ≡ false) × (with_instance c u ≡ d)
listed_ok c u p d h = let a = on (leb 16 (length c.instances)) (among u c.instances) (with_instance c u) h in (leb-false 16 _ a.0, a.1, a.2)
  where
    on : (many twice : Bool) (e : Content) → listed_by p (cond many (Err instance.TooMany) (cond twice (Err instance.NamedTwice) (Ok e))) ≡ Ok d → (many ≡ false) × (twice ≡ false) × (e ≡ d)
    on true twice e k = absurd cc
    on false true e k = absurd cc
    on false false e k = (refl, refl, cc)

instance_took : (n : ℕ) (c : Content) (bs : Text) (s : Step) → instance_step n c bs ≡ Ok s → Took listing n c bs s
instance_took n c bs s h =
    elim (list_ok s (lexeme n bs) _ _ h) [
      | inl a ↦
          (let w = word_ok s (lexeme n (left bs)) _ a.1 in
          let f = then_ok (further_at c w.0 w.1) _ s w.3 in
          let g = then_ok (name_at w.0 w.1) _ f.0 f.1 in
          let name = name_ok w.0 w.1 g.0 g.1 in
          let l = listed_ok c g.0 w.1 f.0 g.2 in
          subst (Took listing n c bs) (same_ok _ s f.2)
          (comma_sign ∷ written w.0 ∷ [], (a.0, (w.2, refl)), subst (Moves c listing _) (ap (with_instance c) name.0 ∙ l.2) (lists name.1 l.0 (ap (λ u. among u c.instances) name.0 ∙ l.1))))
      | inr a ↦ subst (Took listing n c bs) (same_ok _ s a.1) (refl, (a.0, refl))
    ]

line_took : (n : ℕ) (c : Content) (bs : Text) (s : Step) → line_step n c bs ≡ Ok s → Took drawing n c bs s
line_took n c bs s h =
    let w = word_ok s (lexeme n bs) _ h in
    elim (cases_Bool (bytes_eq w.0 (codes "endmsc"))) [
      | inl last ↦ subst (Took drawing n c bs) (same_ok _ s (sym (cond-true (bytes_eq w.0 (codes "endmsc")) _ _ last) ∙ w.3)) (refl, (subst (λ (t : Text). Shows (written t) (lexeme n bs)) (same_text w.0 (codes "endmsc") last) w.2, refl))
      | inr other ↦
          (let i = then_ok (instance_at c w.0 w.1) _ s (sym (cond-false (bytes_eq w.0 (codes "endmsc")) _ _ other) ∙ w.3) in
          let e = then_ok (event_line n c i.0 (left bs)) _ s i.2 in
          let found = found_ok c w.0 w.1 i.0 i.1 in
          let line = event_ok n c i.0 (left bs) e.0 e.1 in
          subst (Took drawing n c bs) (same_ok _ s e.2) (written w.0 ∷ line.0, (w.2, line.1), draws found.0 found.1 line.2))
    ]

pub step_took : (part : Part) (n : ℕ) (c : Content) (bs : Text) (s : Step) → step_of part n c bs ≡ Ok s → Took part n c bs s
step_took listing n c bs s h = instance_took n c bs s h
step_took drawing n c bs s h = line_took n c bs s h

pub some_tokens : {c d : Content} {part : Part} {ts : List Sign} → Moves c part ts d → 0 < length ts
some_tokens (lists a b e) = omega arith
some_tokens (draws a b e) = omega arith

-- a step that goes on leaves less
pub step_shorter : (part : Part) (n : ℕ) (c : Content) (bs : Text) (d : Content) (r : Text) → step_of part n c bs ≡ Ok (more d r) → length r < length bs
step_shorter part n c bs d r h = let a = step_took part n c bs (more d r) h in omega (arith, all_shorter n bs a.0 r a.1, some_tokens a.2)

abbrev Whole : Part → ℕ → Content → Text → Content × ℕ × Text → Type 0
Whole part n c bs x = (ts : List Sign) × Takes n bs (ts ++ last_sign part ∷ []) x.2 × Many part c ts x.0

pub steps_took : (part : Part) (f n : ℕ) (c : Content) (bs : Text) (x : Content × ℕ × Text) → steps_from (step_of part) f n c bs ≡ Ok x → Whole part n c bs x
steps_took part zero n c bs x h = absurd cc
steps_took part (suc f) n c bs x h =
    let a = then_ok (step_of part n c bs) (go_on (steps_from (step_of part) f n)) x h in
    on a.0 (step_took part n c bs a.0 a.1) a.2 (λ d r. steps_took part f n d r x)
  where
    on : (s : Step) → Took part n c bs s → go_on (steps_from (step_of part) f n) s ≡ Ok x → ((d : Content) (r : Text) → steps_from (step_of part) f n d r ≡ Ok x → Whole part n d r x) → Whole part n c bs x
    on (more d r) t e rest =
        let b = rest d r e in
        (t.0 ++ b.0, subst (λ (l : List Sign). Takes n bs l x.2) (sym (append_assoc t.0 b.0 (last_sign part ∷ []))) (takes_then n bs t.0 (b.0 ++ last_sign part ∷ []) r x.2 t.1 b.1), again t.2 b.2)
    on (ended d p r) t e rest =
        let same : (d, p, r) ≡ x = same_ok _ x e in
        ([], subst (Takes n bs (last_sign part ∷ [])) (ap (λ y. y.2) same) t.1, subst (λ (y : Content). Many part c [] y) (t.0 ∙ ap (λ y. y.0) same) done)
