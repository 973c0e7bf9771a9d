-- Which refusal is the one with the smallest number.
use Rattle.std.proofs.Common.{◌≡◌, ℕ, ◌<◌, ◌≤◌, length, Some, None, Option, MatchOption, Ok, Err, Result, MatchResult, IsErrAnd, is_ok, true, sym, refl, ap, subst, arith}
use Rattle.std.proofs.lemmas.Bool.{true≢false}
use Rattle.chart.specs.Charted.{drawn}
use Rattle.chart.specs.Content.{Happening, sent, received, message_of}
use Rattle.chart.specs.declared.numbers.EventId.{EventId}
use Rattle.chart.specs.declared.pieces.Side.TheVariants.{Out, In}
use Rattle.order.specs.Lists.{Has}
use Rattle.order.specs.Scenes.{event_at}
use Rattle.bench.specs.Firings.{Lacks, FirstLacking, Stops, Bars, firing_of}
use Rattle.bench.specs.Records.{past}
use Rattle.bench.specs.Refusals.{obstacle_number, refusal_number}
use Rattle.bench.specs.States.{Stage, State, Least}
use Rattle.bench.specs.Steps.{LeastObstacle, Against}
use Rattle.bench.specs.declared.refusal.Firing.{Firing}
use Rattle.bench.specs.declared.refusal.Obstacle.{Obstacle}
use Rattle.bench.specs.declared.refusal.Obstacle.TheVariants.{InRecord, AboveMissing, OutMissing, Full, Held}
use Rattle.bench.specs.declared.refusal.Refusal.{Refusal}
use Rattle.bench.specs.declared.refusal.Refusal.TheVariants.{PlayOpen, NotInChart, Unfired, RecordNotEmpty, BadSchedule, NoPlay, NoEventLeft}

not_out : Out ≡ In → ⊥
not_out e = let z : ◌≡◌ {A = ℕ} 0 1 = cc in omega arith

-- no obstacle has a smaller number than being in the record
none_lower : (q : Obstacle) → obstacle_number q < 20 → ⊥
none_lower InRecord l = omega arith
none_lower (AboveMissing x) l = omega arith
none_lower OutMissing l = omega arith
none_lower (Full y) l = omega arith
none_lower (Held m y) l = omega arith

module _ (g : Stage) (s : State) (e : EventId) where
  pub in_record : (h : Happening) → Has e s.fired → LeastObstacle g s e h InRecord
  in_record (sent n) k = (k, λ q l z. none_lower q l)
  in_record (received n) k = (k, λ q l z. none_lower q l)

  module _ (out : Has e s.fired → ⊥) where
    pub above_missing : (h : Happening) (x : EventId) → (drawn g.chart h).side ≡ Out → FirstLacking g.chart s.fired e x → LeastObstacle g s e h (AboveMissing x)
    above_missing (received n) x is first = absurd (not_out (sym is))
    above_missing (sent n) x is first = (first, lower)
      where
        lower : (q : Obstacle) → obstacle_number q < 21 → Stops g s e (sent n) q → ⊥
        lower InRecord l k = out k
        lower (AboveMissing y) l k = omega arith
        lower OutMissing l k = k
        lower (Full y) l k = omega arith
        lower (Held m y) l k = k

    pub none_above : (h : Happening) → (drawn g.chart h).side ≡ Out → ((x : EventId) → Lacks g.chart s.fired e x → ⊥) → Against g s e h (Ok tt)
    none_above (received n) is none = absurd (not_out (sym is))
    none_above (sent n) is none = lower
      where
        lower : (q : Obstacle) → obstacle_number q < 23 → Stops g s e (sent n) q → ⊥
        lower InRecord l k = out k
        lower (AboveMissing y) l k = none y k.0
        lower OutMissing l k = k
        lower (Full y) l k = omega arith
        lower (Held m y) l k = k

    -- told by the first event that lacks
    pub above_told :
        (h : Happening) → (drawn g.chart h).side ≡ Out → (o : Option EventId) (r : Result Unit Obstacle) →
        MatchOption o ((x : EventId) → Lacks g.chart s.fired e x → ⊥) (λ x. FirstLacking g.chart s.fired e x) →
        MatchOption o (r ≡ Ok tt) (λ x. r ≡ Err (AboveMissing x)) → Against g s e h r
    above_told h is None r none told = subst (Against g s e h) (sym told) (none_above h is none)
    above_told h is (Some x) r first told = subst (Against g s e h) (sym told) (above_missing h x is first)

    pub out_missing : (h : Happening) → (drawn g.chart h).side ≡ In → (Has (sent (message_of h)) (past g.chart s.fired) → ⊥) → LeastObstacle g s e h OutMissing
    out_missing (sent n) is none = absurd (not_out is)
    out_missing (received n) is none = (none, lower)
      where
        lower : (q : Obstacle) → obstacle_number q < 22 → Stops g s e (received n) q → ⊥
        lower InRecord l k = out k
        lower (AboveMissing y) l k = k
        lower OutMissing l k = omega arith
        lower (Full y) l k = k
        lower (Held m y) l k = omega arith

    pub out_there : (h : Happening) → (drawn g.chart h).side ≡ In → Has (sent (message_of h)) (past g.chart s.fired) → Against g s e h (Ok tt)
    out_there (sent n) is there = absurd (not_out is)
    out_there (received n) is there = lower
      where
        lower : (q : Obstacle) → obstacle_number q < 23 → Stops g s e (received n) q → ⊥
        lower InRecord l k = out k
        lower (AboveMissing y) l k = k
        lower OutMissing l k = k there
        lower (Full y) l k = k
        lower (Held m y) l k = omega arith

  pub outside : length g.chart.events ≤ e.0 → Least (Bars g s e) (NotInChart e)
  outside far = ((far, refl), lower)
    where
      lower : (f : Refusal) → refusal_number f < 19 → Bars g s e f → ⊥
      lower PlayOpen l k = k
      lower (NotInChart x) l k = omega arith
      lower (Unfired f o) l k = let i : e.0 < length g.chart.events = k.0 in omega arith
      lower RecordNotEmpty l k = k
      lower (BadSchedule p) l k = k
      lower NoPlay l k = k
      lower NoEventLeft l k = k

  module _ (i : e.0 < length g.chart.events) where
    pub stopped : (f : Firing) (o : Obstacle) → f ≡ firing_of g.chart e → LeastObstacle g s e (event_at g.chart e.0) o → Least (Bars g s e) (Unfired f o)
    stopped f o named least = ((i, named, least.0), lower)
      where
        lower : (q : Refusal) → refusal_number q < obstacle_number o → Bars g s e q → ⊥
        lower PlayOpen l k = k
        lower (NotInChart x) l k = let j : length g.chart.events ≤ e.0 = k.0 in omega arith
        lower (Unfired f' o') l k = least.1 o' l k.2
        lower RecordNotEmpty l k = k
        lower (BadSchedule p) l k = k
        lower NoPlay l k = k
        lower NoEventLeft l k = k

    pub unbarred : ((o : Obstacle) → Stops g s e (event_at g.chart e.0) o → ⊥) → (q : Refusal) → Bars g s e q → ⊥
    unbarred none PlayOpen k = k
    unbarred none (NotInChart x) k = let j : length g.chart.events ≤ e.0 = k.0 in omega arith
    unbarred none (Unfired f o) k = none o k.2
    unbarred none RecordNotEmpty k = k
    unbarred none (BadSchedule p) k = k
    unbarred none NoPlay k = k
    unbarred none NoEventLeft k = k

-- a refused step of a firing, as its refusal
pub told_as :
    {Told : Obstacle → Type 0} (q : Result (Unit {0}) Refusal) (r : Result (Unit {0}) Obstacle) (f : Refusal) →
    IsErrAnd q (λ y. y ≡ f) → MatchResult r (λ x. ◌≡◌ {A = Result (Unit {0}) Refusal} (Err f) (Ok x)) Told → (o : Obstacle) × (r ≡ Err o) × (q ≡ Err f) × Told o
told_as (Ok u) r f same gave = absurd same
told_as (Err y) (Ok u) f same gave = absurd (let z : ◌≡◌ {A = ℕ} 0 1 = cc in omega arith)
told_as (Err y) (Err o) f same gave = (o, refl, ap (λ (x : Refusal). Err x) same, gave)

pub passed : (r : Result (Unit {0}) Obstacle) → true ≡ is_ok r → r ≡ Ok tt
passed (Ok u) e = refl
passed (Err o) e = absurd (true≢false e)
