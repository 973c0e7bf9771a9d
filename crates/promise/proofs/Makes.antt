-- Calls that are known by their kind, and calls after calls.
use Rattle.std.proofs.Common.{◌≡◌, ℕ, ◌+◌, ◌≤◌, List, [], ◌∷◌, ◌++◌, Ok, Err, Result, refl, ◌∙◌, arith}
use Rattle.chart.specs.declared.numbers.EventId.{EventId}
use Rattle.chart.specs.Content.{Content}
use Rattle.delivery.specs.declared.meaning.Delivery.{Ghosts}
use Rattle.bench.specs.Benches.{Same, stage_of}
use Rattle.bench.specs.Firings.{Fired, Cleared}
use Rattle.bench.specs.Plays.{Begun}
use Rattle.bench.specs.States.{Stage, State}
use Rattle.bench.specs.declared.refusal.Refusal.{Refusal}
use Rattle.bench.specs.declared.stand.Bench.{Bench}
use Rattle.promise.specs.Clients.{Onward}
use Rattle.promise.specs.Sessions.{slips_after, Made, fire, clear, begin, Session, next}
use Rattle.promise.specs.declared.calls.Call.{Call}
use Rattle.promise.specs.declared.calls.Call.TheVariants as call
use Rattle.promise.specs.declared.calls.Answer.{Answer}
use Rattle.promise.specs.declared.calls.Answer.TheVariants as answer
use Rattle.promise.specs.declared.performing.Client.{Client}

module _ {g : Stage} {s t : State} {k : ℕ} {x : Call} where
  pub as_fire : {e : EventId} {r : Result (Unit {0}) Refusal} → x ≡ call.Fire e → Fired g s e r t → Made g s k x (answer.Fired r) t k
  as_fire p h = rw p (fire h)

  pub as_clear : {r : Result (Unit {0}) Refusal} → x ≡ call.Clear → Cleared s r t → Made g s k x (answer.Cleared r) t k
  as_clear p h = rw p (clear h)

  pub as_begin : {bytes : _} {r : Result (Unit {0}) Refusal} → x ≡ call.Begin bytes → Begun g s bytes.now r t → (l : ℕ) → l ≡ slips_after r k → Made g s k x (answer.Begun r) t l
  as_begin p h l e = rw (p, e) (begin h)

  pub same_call : {y : Call} {a : Answer} {l : ℕ} → x ≡ y → Made g s k y a t l → Made g s k x a t l
  same_call p h = rw p h

pub slips_few : (r : Result (Unit {0}) Refusal) (k : ℕ) → slips_after r k ≤ k + 1
slips_few (Ok u) k = omega arith
slips_few (Err f) k = omega arith

-- the rules of a bench stay
pub same_stage : {D : Type 0} (G : Ghosts D) (c : Content) (a b : Bench D) → Same G a b → stage_of G c b ≡ stage_of G c a
same_stage G c a b e = let p = e.rule in let q = e.room in let r = e.layer in cc

-- one call more
module _ {D : Type 0} (G : Ghosts D) (c : Content) (a b : Bench D) where
  pub one_more :
      {s t u : State} {k l m : ℕ} {calls more : List Call} {answers after : List Answer} {x : Call} {y : Answer} →
      Same G a b → Session (stage_of G c a) s k calls answers t l → Made (stage_of G c b) t l x y u m →
      more ≡ calls ++ x ∷ [] → after ≡ answers ++ y ∷ [] → Session (stage_of G c a) s k more after u m
  one_more e h made p q = rw (p, q) (next h (rw (same_stage G c a b e) at made))

-- what stays, stays from call to call
module _ {D : Type 0} (G : Ghosts D) where
  pub onward_all : (a : Client D) → Onward G a a
  onward_all a = record { remains = record { same = record { layout = refl; rule = refl; room = refl; layer = refl }; sound = λ d s. s }; room = refl }

  pub onward_more : (a b d : Client D) → Onward G a b → Onward G b d → Onward G a d
  onward_more a b d p q =
      let x = p.remains.same in
      let y = q.remains.same in
      record {
        remains = record {
          same = record { layout = y.layout ∙ x.layout; rule = y.rule ∙ x.rule; room = y.room ∙ x.room; layer = y.layer ∙ x.layer };
          sound = λ c s. q.remains.sound c (p.remains.sound c s);
        };
        room = q.room ∙ p.room;
      }
