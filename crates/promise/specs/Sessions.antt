-- Calls on a bench, one after the other, and what they answer.
use Rattle.std.specs.Prelude.{◌≡◌, ℕ, ◌+◌, ◌<◌, ◌≤◌, List, [], ◌∷◌, ◌++◌, Ok, Err, Result}
use Rattle.std.specs.Borrow.{Bor}
use Rattle.chart.specs.declared.numbers.EventId.{EventId}
use Rattle.bench.specs.declared.refusal.Refusal.{Refusal}
use Rattle.bench.specs.States.{Stage, State}
use Rattle.bench.specs.Firings.{Fired, Cleared}
use Rattle.bench.specs.Plays.{Begun, Advanced, Closed}
use Rattle.promise.specs.declared.calls.Call.{Call}
use Rattle.promise.specs.declared.calls.Call.TheVariants as call
use Rattle.promise.specs.declared.calls.Answer.{Answer}
use Rattle.promise.specs.declared.calls.Answer.TheVariants as answer

-- how many slips the pool has after a begin
abbrev pub slips_after : Result (Unit {0}) Refusal → ℕ → ℕ
slips_after (Ok u) k = k + 1
slips_after (Err f) k = k

-- a call on a bench in state s, with k slips in the pool: its answer, the state t after it, and how many slips are left
pub data Made (g : Stage) : State → ℕ → Call → Answer → State → ℕ → Type 0 where
  fire : {s t : State} {k : ℕ} {e : EventId} {r : Result (Unit {0}) Refusal} → Fired g s e r t → Made g s k (call.Fire e) (answer.Fired r) t k
  clear : {s t : State} {k : ℕ} {r : Result (Unit {0}) Refusal} → Cleared s r t → Made g s k call.Clear (answer.Cleared r) t k
  begin : {s t : State} {k : ℕ} {bytes : Bor (List ℕ)} {r : Result (Unit {0}) Refusal} → Begun g s bytes.now r t → Made g s k (call.Begin bytes) (answer.Begun r) t (slips_after r k)
  advance : {s t : State} {k i : ℕ} {r : Result (Unit {0}) Refusal} → i < k → Advanced g s r t → Made g s k (call.Advance i) (answer.Advanced r) t k
  close : {s t : State} {k l i : ℕ} {r : Result ℕ Refusal} → i < k → l + 1 ≡ k → Closed s r t → Made g s k (call.Close i) (answer.Closed r) t l
  -- without a slip there is no call
  no_advance : {s : State} {k i : ℕ} → k ≤ i → Made g s k (call.Advance i) answer.NoSlip s k
  no_close : {s : State} {k i : ℕ} → k ≤ i → Made g s k (call.Close i) answer.NoSlip s k

-- calls one after the other, from state s and k slips on
pub data Session (g : Stage) (s : State) (k : ℕ) : List Call → List Answer → State → ℕ → Type 0 where
  start : Session g s k [] [] s k
  next :
      {calls : List Call} {answers : List Answer} {t u : State} {l m : ℕ} {x : Call} {y : Answer} →
      Session g s k calls answers t l → Made g t l x y u m → Session g s k (calls ++ x ∷ []) (answers ++ y ∷ []) u m
