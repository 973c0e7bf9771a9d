-- What a walk over the reversible pairs gives.
use Rattle.std.proofs.Common.{◌≡◌, ℕ, ◌+◌, ◌*◌, ◌<◌, ◌≤◌, List, ◌∷◌, [], length, get_or, Some, None, MatchOption, Option, add-zero, sym, ap, ◌∙◌, subst, arith}
use Rattle.std.specs.Iterator.{Yields, SkipsThenYields}
use Rattle.std.specs.List.{All}
use Rattle.std.proofs.lemmas.Iterator.{YieldsList}
use Rattle.std.proofs.lemmas.Iterator.Consumers.{YieldsList-from_shown, YieldsList-turn, YieldsList-end}
use Rattle.std.proofs.lemmas.List.{map-id}
use Rattle.analysis.specs.Records.{records}
use Rattle.analysis.specs.Walking.{Course, Gives}
use Rattle.analysis.specs.Writing.{Wrote}
use Rattle.analysis.specs.declared.races.Race.{Race}
use Rattle.analysis.specs.declared.writing.Writer.{Writer}
use Rattle.analysis.proofs.Room.{wrote_length}
use Rattle.analysis.proofs.Telling.{length_records}

pub walked : (s : Course) (xs : List Race) → s.left ≡ xs → YieldsList Gives (λ x. x) s xs
walked s xs e = subst (λ (ys : List Race). YieldsList Gives (λ x. x) s ys) e (YieldsList-from_shown Gives (λ x. x) (λ c. c.left) (λ c d g. ap length g.0) (λ c x d g. g.0) s)

-- what holds of each pair holds of the next
pub of_next : (P : Race → Type 0) (s : Course) (xs : List Race) → s.left ≡ xs → All P xs → (ys : List Race) (t : Course) → Yields Gives s ys t → (r : Option Race) (u : Course) (x : Race) → r ≡ Some x → Gives t r u → P x
of_next P s xs e all ys t yielded r u x is step =
    let k = YieldsList-turn (walked s xs e) ys t yielded r u x is step in subst P (sym k.1) (all (length ys) x k.0)

-- there is room for its record
pub record_fits : (xs : List Race) (s : Course) → s.left ≡ xs → (ys : List Race) (t : Course) → Yields Gives s ys t → (r : Option Race) (u : Course) (x : Race) → r ≡ Some x → Gives t r u → (old : List ℕ) (w : Writer) → 4 * length xs ≤ length old → Wrote old (records ys) w → w.len + 4 ≤ length w.buffer.now
record_fits xs s e ys t yielded r u x is step old w room wrote =
    let k = (YieldsList-turn (walked s xs e) ys t yielded r u x is step).0 in
    let n = length_records ys in
    let l = wrote_length old (records ys) w wrote (omega arith) in
    let at = wrote.long in
    omega arith

-- where it ends, all were given
pub all_given : (xs : List Race) (s : Course) → s.left ≡ xs → (ys : List Race) (t : Course) → Yields Gives s ys t → (r : Option Race) (u : Course) → r ≡ None → Gives t r u → ys ≡ xs
all_given xs s e ys t yielded r u is step = sym (map-id ys) ∙ (YieldsList-end (walked s xs e) ys t yielded r u is step).0

-- how many were given
given_after : (s : Course) (ys : List Race) (t : Course) → Yields Gives s ys t → t.given ≡ s.given + length ys
given_after s [] t e = sym (ap (λ (w : Course). w.given) e) ∙ sym (add-zero s.given)
given_after s (y ∷ ys) t (j, step, rest) = let n = given_after j ys t rest in omega (arith, step.1)

-- the pair number n of a walk at its start, or none, and then all were given
module _ (xs : List Race) (s : Course) (is : s ≡ record { left = xs; given = 0 }) (n : ℕ) (r : Option Race) (u : Course) (ran : SkipsThenYields Gives s n r u) where
  started : s.left ≡ xs
  started = ap (λ (w : Course). w.left) is

  pub nth_given : (x : Race) → r ≡ Some x → (n < length xs) × (x ≡ get_or xs n x)
  nth_given x e =
      let many : length ran.0 ≡ n = subst (λ (o : Option Race). MatchOption o (length ran.0 ≤ n) (λ _. length ran.0 ≡ n)) e ran.2 in
      subst (λ (k : ℕ). (k < length xs) × (x ≡ get_or xs k x)) many (YieldsList-turn (walked s xs started) ran.0 ran.1.0 ran.1.1 r u x e ran.1.2)

  pub nth_lacking : r ≡ None → (length xs ≤ n) × (u.given ≡ length xs)
  nth_lacking e =
      let few : length ran.0 ≤ n = subst (λ (o : Option Race). MatchOption o (length ran.0 ≤ n) (λ _. length ran.0 ≡ n)) e ran.2 in
      let all = ap length (all_given xs s started ran.0 ran.1.0 ran.1.1 r u e ran.1.2) in
      let last : u.given ≡ ran.1.0.given = (subst (λ (o : Option Race). Gives ran.1.0 o u) e ran.1.2).2 in
      let none = ap (λ (w : Course). w.given) is in
      let count = given_after s ran.0 ran.1.0 ran.1.1 in
      (omega arith, omega arith)
