-- What a client of a bench does, told of a bench that is sound.
use Rattle.std.specs.Prelude.{◌≡◌, ℕ, ◌+◌, ◌≤◌, List, vec_len, vec_capacity, Result}
use Rattle.delivery.specs.declared.meaning.Delivery.{Ghosts}
use Rattle.bench.specs.Benches.{Remains, OnSound}
use Rattle.bench.specs.Plays.{Begun}
use Rattle.bench.specs.declared.refusal.Refusal.{Refusal}
use Rattle.promise.specs.Sessions.{slips_after, Made, Session}
use Rattle.promise.specs.declared.calls.Answer.{Answer}
use Rattle.promise.specs.declared.calls.Call.{Call}
use Rattle.promise.specs.declared.performing.Client.{Client}

module _ {D : Type 0} (G : Ghosts D) where
  -- what stays: the bench's chart and rules, that it is sound, and the room of the pool
  pub record Onward (a b : Client D) : Type 0 where
    pub remains : Remains G a.bench b.bench
    pub room : vec_capacity b.slips ≡ vec_capacity a.slips

  -- a begin, whose slip joins the pool if it is accepted
  abbrev pub Begins : Client D → List ℕ → Result (Unit {0}) Refusal → Client D → Type 0
  Begins a bytes r b = (vec_len b.slips ≡ slips_after r (vec_len a.slips)) × OnSound G a.bench b.bench (λ g s t. Begun g s bytes r t)

  -- a call and its answer, and then calls one after the other, by which the pool gains one slip at most for each
  abbrev pub Makes : Client D → Call → Answer → Client D → Type 0
  Makes a x y b = (vec_len b.slips ≤ vec_len a.slips + 1) × OnSound G a.bench b.bench (λ g s t. Made g s (vec_len a.slips) x y t (vec_len b.slips))

  abbrev pub Performs : Client D → List Call → List Answer → Client D → Type 0
  Performs a calls answers b = OnSound G a.bench b.bench (λ g s t. Session g s (vec_len a.slips) calls answers t (vec_len b.slips))
