-- How a bench stays sound.
use Rattle.std.proofs.Common.{◌≡◌, ℕ, ◌<◌, ◌≤◌, false, List, [], ◌∷◌, ◌++◌, length, is_some, Some, None, Ok, Err, vec_items, vec_len, Option, Result, sym, refl, ap, ◌∙◌, subst, inr, ⊎_elim, arith}
use Rattle.std.proofs.lemmas.Bool.{both_ways, true≢false}
use Rattle.chart.specs.Charted.{content}
use Rattle.chart.specs.Content.{Content}
use Rattle.chart.specs.declared.charting.Chart.{Chart}
use Rattle.chart.specs.declared.numbers.EventId.{EventId}
use Rattle.chart.proofs.Stored.{message_count}
use Rattle.delivery.specs.Waiting.{message_limit}
use Rattle.delivery.specs.declared.meaning.Delivery.{Ghosts}
use Rattle.delivery.specs.declared.parcel.Parcel.{Parcel}
use Rattle.order.specs.Lists.{Has}
use Rattle.order.specs.Parcels.{waiting_after}
use Rattle.order.specs.Runs.{MayFire, Run}
use Rattle.order.specs.Runs as runs
use Rattle.order.specs.Scenes.{Laid}
use Rattle.order.proofs.Lists.{has_cases}
use Rattle.order.proofs.Scenes.{Transitive, laws}
use Rattle.bench.specs.Benches.{InStep, stage_of, state_of, Sound, Same}
use Rattle.bench.specs.Firings.{Bars, BarsFire, ByRules, MayFireNext, Tried, Fired}
use Rattle.bench.specs.Layouts.{copied}
use Rattle.bench.specs.Records.{past}
use Rattle.bench.specs.States.{Stage, scene_on, Play, play_at, play_of, State}
use Rattle.bench.specs.declared.refusal.Refusal.{Refusal}
use Rattle.bench.specs.declared.refusal.Refusal.TheVariants.{PlayOpen, NotInChart, Unfired, RecordNotEmpty, BadSchedule, NoPlay, NoEventLeft}
use Rattle.bench.specs.declared.schedule.Entry.{Entry}
use Rattle.bench.specs.declared.schedule.Script.{Script}
use Rattle.bench.specs.declared.stand.Bench.{Bench}
use Rattle.bench.proofs.Firings.{Ready, unstopped, next_run}
use Rattle.bench.proofs.Refusing.{unbarred}

pub same_state : {f f' : List EventId} {w w' : List Parcel} {p p' : Option Play} → f ≡ f' → w ≡ w' → p ≡ p' → ◌≡◌ {A = State} (record { fired = f; waiting = w; play = p }) (record { fired = f'; waiting = w'; play = p' })
same_state {f} {f'} {w} {w'} {p} {p'} a b d =
    ap (λ x. record { fired = x; waiting = w; play = p }) a ∙ ap (λ x. record { fired = f'; waiting = x; play = p }) b ∙ ap (λ x. record { fired = f'; waiting = w'; play = x }) d

pub none_from : {X : Type 0} (o : Option X) → is_some o ≡ false → o ≡ None
none_from None e = refl
none_from (Some x) e = absurd (true≢false e)

pub open_same : (k : Option ℕ) (es : List Entry) → is_some (play_at k es) ≡ is_some k
open_same None es = refl
open_same (Some k) es = refl

-- while no play is open, its entries are not seen
pub unseen : (s t : Script) → is_some s.done ≡ false → t.done ≡ s.done → play_of t ≡ play_of s
unseen s t closed same =
    ap (λ k. play_at k (vec_items t.entries)) (same ∙ none_from s.done closed) ∙ sym (ap (λ k. play_at k (vec_items s.entries)) (none_from s.done closed))

pub few_messages : (chart : Chart) → length (content chart).messages ≤ message_limit
few_messages chart =
    let few : vec_len chart.parts.messages ≤ 64 = chart.parts.few_messages in
    let count = message_count chart.parts in
    omega arith

module _ {D : Type 0} (G : Ghosts D) (c : Content) where
  -- an empty record and an empty delivery stand at the start of a run
  pub cleared_sound :
      (b : Bench D) → G.started b.delivery → Laid c → length c.messages ≤ message_limit → vec_items b.log.layout.places ≡ copied c →
      vec_items b.log.fired ≡ [] → G.waiting b.delivery ≡ [] → b.play.done ≡ None → Sound G c b
  cleared_sound b started laid few copy none empty closed =
      record {
        started = started;
        laid = laid;
        few_messages = few;
        copy = copy;
        inside = λ e h. absurd (subst (λ r. Has e r) none h);
        run = subst (λ r. Run (scene_on (stage_of G c b)) (past c r)) (sym none) runs.cleared;
        waits = empty ∙ sym (ap (λ r. waiting_after c (past c r)) none);
        in_step = subst (λ n. InStep (vec_items b.log.fired) (play_at n (vec_items b.play.entries))) (sym closed) tt;
      }

  pub ready : (b : Bench D) → Transitive (G.rule b.delivery) → 1 ≤ G.room b.delivery → Sound G c b → Ready (stage_of G c b) (state_of G b)
  ready b passes some s =
      record {
        laid = s.laid;
        few_messages = s.few_messages;
        law = laws c (G.rule b.delivery) (G.room b.delivery) s.laid passes some;
        inside = s.inside;
        run = s.run;
        waits = s.waits;
      }

  module _ (a b : Bench D) (s : Sound G c a) (same : Same G a b) (started : G.started b.delivery) where
    -- hold rule and capacity stay, so a run stays one
    moved : (r : List EventId) → Run (scene_on (stage_of G c a)) (past c r) → Run (scene_on (stage_of G c b)) (past c r)
    moved r run =
        subst (λ m. Run (scene_on (record { chart = c; rule = G.rule b.delivery; room = m; layer = G.layer b.delivery })) (past c r)) (sym same.room)
        (subst (λ q. Run (scene_on (record { chart = c; rule = q; room = G.room a.delivery; layer = G.layer b.delivery })) (past c r)) (sym same.rule) run)

    copy : vec_items b.log.layout.places ≡ copied c
    copy = ap (λ l. vec_items l.places) same.layout ∙ s.copy

    -- nothing was fired
    pub stays : vec_items b.log.fired ≡ vec_items a.log.fired → G.waiting b.delivery ≡ G.waiting a.delivery → InStep (vec_items b.log.fired) (play_of b.play) → Sound G c b
    stays r w step =
        record {
          started = started;
          laid = s.laid;
          few_messages = s.few_messages;
          copy = copy;
          inside = λ e h. s.inside e (subst (λ q. Has e q) r h);
          run = subst (λ q. Run (scene_on (stage_of G c b)) (past c q)) (sym r) (moved (vec_items a.log.fired) s.run);
          waits = w ∙ s.waits ∙ sym (ap (λ q. waiting_after c (past c q)) r);
          in_step = step;
        }

    -- an event was fired
    pub goes :
        (e : EventId) → Transitive (G.rule a.delivery) → 1 ≤ G.room a.delivery → MayFireNext (stage_of G c a) (state_of G a) e →
        vec_items b.log.fired ≡ vec_items a.log.fired ++ e ∷ [] → G.waiting b.delivery ≡ waiting_after c (past c (vec_items a.log.fired ++ e ∷ [])) →
        InStep (vec_items b.log.fired) (play_of b.play) → Sound G c b
    goes e passes some may r w step =
        record {
          started = started;
          laid = s.laid;
          few_messages = s.few_messages;
          copy = copy;
          inside = λ x h. ⊎_elim (s.inside x) (⊎_elim (λ p. subst (λ (y : EventId). y.0 < length c.events) (sym p) may.0) (λ z. absurd z)) (has_cases x (vec_items a.log.fired) (e ∷ []) (subst (λ q. Has x q) r h));
          run = subst (λ q. Run (scene_on (stage_of G c b)) (past c q)) (sym r) (moved (vec_items a.log.fired ++ e ∷ []) (next_run (stage_of G c a) (state_of G a) (ready a passes some s) e may.0 may.1));
          waits = w ∙ sym (ap (λ q. waiting_after c (past c q)) r);
          in_step = step;
        }

    pub unchanged : state_of G b ≡ state_of G a → Sound G c b
    unchanged t =
        stays (ap (λ (q : State). q.fired) t) (ap (λ (q : State). q.waiting) t)
        (subst (λ (q : State). InStep q.fired q.play) (sym t) s.in_step)

    pub tried : (e : EventId) → Transitive (G.rule a.delivery) → 1 ≤ G.room a.delivery → is_some (state_of G a).play ≡ false →
        (r : Result (Unit {0}) Refusal) → Tried (stage_of G c a) (state_of G a) e r (state_of G b) → Sound G c b
    tried e passes some closed (Ok u) k =
        let t = k.1.1 in
        goes e passes some k.1.0 (ap (λ (q : State). q.fired) t) (ap (λ (q : State). q.waiting) t)
        (subst (λ q. InStep (vec_items b.log.fired) q) (sym (ap (λ (q : State). q.play) t ∙ none_from (state_of G a).play closed)) tt)
    tried e passes some closed (Err f) k = unchanged k.1

-- fire, from a firing with no play open
module _ (g : Stage) (s : State) (e : EventId) (closed : is_some s.play ≡ false) where
  to_fire : (f : Refusal) → Bars g s e f → BarsFire g s e f
  to_fire PlayOpen k = absurd k
  to_fire (NotInChart x) k = k
  to_fire (Unfired f o) k = k
  to_fire RecordNotEmpty k = k
  to_fire (BadSchedule p) k = k
  to_fire NoPlay k = k
  to_fire NoEventLeft k = k

  from_fire : (f : Refusal) → BarsFire g s e f → Bars g s e f
  from_fire PlayOpen k = both_ways (is_some s.play) closed k
  from_fire (NotInChart x) k = k
  from_fire (Unfired f o) k = k
  from_fire RecordNotEmpty k = k
  from_fire (BadSchedule p) k = k
  from_fire NoPlay k = k
  from_fire NoEventLeft k = k

  pub fire_does : (a : Result (Unit {0}) Refusal) (t : State) → Tried g s e a t → Fired g s e a t
  fire_does (Ok u) t k = ((λ f j. k.0 f (from_fire f j)), k.1)
  fire_does (Err f) t k = ((to_fire f k.0.0, λ q l j. k.0.1 q l (from_fire q j)), k.1)

  pub by_rules : (a : Result (Unit {0}) Refusal) (t : State) → Ready g s → Tried g s e a t → ByRules g s e a
  by_rules (Ok u) t r k = (none_from s.play closed, k.1.0)
  by_rules (Err f) t r k = inr (λ may. unbarred g s e may.0 (unstopped g s r e may.0 may.1) f k.0.0)
