-- The tests of a firing are the rules of runs.
use Rattle.std.proofs.Common.{◌≡◌, ℕ, zero, suc, ◌<◌, ◌≤◌, false, ◌&&◌, T, eqb, ltb, List, [], ◌∷◌, ◌++◌, length, Some, None, Ok, Err, Result, sym, refl, ap, ◌∙◌, subst, arith}
use Rattle.std.proofs.lemmas.Bool.{and_parts, eqb-true, ltb-true}
use Rattle.chart.specs.Charted.{drawn}
use Rattle.chart.specs.Content.{Happening, sent, received, message_of, Content, sender_of, sent_at}
use Rattle.chart.specs.declared.numbers.EventId.{EventId}
use Rattle.delivery.specs.Waiting.{message_limit, waits_in, parcel_of, ahead_of, without, first_holder}
use Rattle.delivery.specs.declared.parcel.Parcel.{Parcel}
use Rattle.order.specs.Lists.{Has}
use Rattle.order.specs.Order.{Laws}
use Rattle.order.specs.Parcels.{parcel_of_message, waiting_after}
use Rattle.order.specs.Runs.{waits, MaySend, MayReceive, MayFire, Run, fired}
use Rattle.order.specs.Scenes.{Laid, instance_of, number_of, above, tag_of, event_at, PairAt}
use Rattle.order.proofs.Parcels.{parcels_length, parcels_push, waits_in_not, parcel_of_has, parcels_without, unheld}
use Rattle.order.proofs.Runs.{waiting, waited, waits_once}
use Rattle.order.proofs.Scenes.{event_inside, number_of_event, event_of_message, pair_above}
use Rattle.order.proofs.Tests.{to_true, from_true, has?}
use Rattle.bench.specs.Firings.{Lacks, StopsSend, StopsReceipt, Stops}
use Rattle.bench.specs.Records.{past}
use Rattle.bench.specs.Refusals.{obstacle_number}
use Rattle.bench.specs.States.{Stage, scene_on, State}
use Rattle.bench.specs.Steps.{LeastObstacle, Against, HandedOn}
use Rattle.bench.specs.declared.refusal.Obstacle.{Obstacle}
use Rattle.bench.specs.declared.refusal.Obstacle.TheVariants.{InRecord, AboveMissing, OutMissing, Full, Held}
use Rattle.bench.proofs.Records.{past_push, past_has, past_was}

-- a bench as far as its firings go
pub record Ready (g : Stage) (s : State) : Type 0 where
  pub laid : Laid g.chart
  pub few_messages : length g.chart.messages ≤ message_limit
  pub law : Laws (scene_on g)
  pub inside : (e : EventId) → Has e s.fired → e.0 < length g.chart.events
  pub run : Run (scene_on g) (past g.chart s.fired)
  pub waits : s.waiting ≡ waiting_after g.chart (past g.chart s.fired)

module _ (g : Stage) (s : State) (ready : Ready g s) where
  abbrev c : Content
  c = g.chart

  abbrev r : List EventId
  r = s.fired

  abbrev before : List Happening
  before = past c r

  waiting_count : length s.waiting ≡ length (waits before)
  waiting_count = ap length ready.waits ∙ parcels_length c (waits before)

  module _ (e : EventId) (l : e.0 < length c.events) where
    -- an event is in the record exactly if a run has it
    fresh : (h : Happening) → event_at c e.0 ≡ h → (Has e r → ⊥) → Has h before → ⊥
    fresh h is out k = out (past_was c ready.laid e l r ready.inside (subst (λ x. Has x before) (sym is) k))

    stale : (h : Happening) → event_at c e.0 ≡ h → Has e r → Has h before
    stale h is k = subst (λ x. Has x before) is (past_has c e r k)

    module _ (n : ℕ) (is : event_at c e.0 ≡ sent n) where
      message_in : n < length c.messages
      message_in = subst (λ x. message_of x < length c.messages) is (event_inside c ready.laid e.0 l)

      own_number : sent_at n c.events ≡ e.0
      own_number = ap (number_of c) (sym is) ∙ number_of_event c ready.laid e.0 l

      -- what a run asks of the events above is what the record is asked for
      all_above : ((x : EventId) → Lacks c r e x → ⊥) → (f : Happening) → T (above c f n) → Has f before
      all_above none f t = go (has? f before)
        where
          low : message_of f < length c.messages
          low = let a : message_of f < n = ready.law.low f n t in let b = message_in in omega arith

          at : (i : ℕ) × (i < length c.events) × (event_at c i ≡ f)
          at = event_of_message c ready.laid f low

          lacks : (Has f before → ⊥) → Lacks c r e (record { 0 = at.0 })
          lacks out =
              let u = and_parts (ltb n (length c.messages)) (eqb (instance_of c f) (sender_of c n) && ltb (number_of c f) (sent_at n c.events)) (to_true (above c f n) t) in
              let v = and_parts (eqb (instance_of c f) (sender_of c n)) (ltb (number_of c f) (sent_at n c.events)) u.1 in
              let m : number_of c f < sent_at n c.events = ltb-true (number_of c f) (sent_at n c.events) v.1 in
              let o : sent_at n c.events ≡ e.0 = own_number in
              let i : number_of c f ≡ at.0 = ap (number_of c) (sym at.2) ∙ number_of_event c ready.laid at.0 at.1 in
              record {
                above = omega arith;
                together = ap (instance_of c) at.2 ∙ eqb-true (instance_of c f) (sender_of c n) v.0 ∙ ap (instance_of c) (sym is);
                missing = λ k. out (subst (λ x. Has x before) at.2 (past_has c (record { 0 = at.0 }) r k));
              }

          go : Dec (Has f before) → Has f before
          go (yes h) = h
          go (no h) = absurd (none (record { 0 = at.0 }) (lacks h))

      pub may_send : (Has e r → ⊥) → ((x : EventId) → Lacks c r e x → ⊥) → length s.waiting < g.room → MaySend (scene_on g) n before
      may_send out none free =
          record {
            inside = message_in;
            fresh = fresh (sent n) is out;
            local = all_above none;
            room = let k = waiting_count in omega arith;
          }

      pub sendable : MaySend (scene_on g) n before → (o : Obstacle) → StopsSend g s e o → ⊥
      sendable may InRecord k = may.fresh (stale (sent n) is k)
      sendable may (AboveMissing x) k =
          let a : x.0 < e.0 = k.0.above in
          let p : PairAt c x.0 e.0 = record { drawn = a; inside = l; together = k.0.together } in
          let h : Has (event_at c x.0) before = may.local (event_at c x.0) (from_true _ (pair_above c ready.laid x.0 e.0 n p is)) in
          k.0.missing (past_was c ready.laid x (omega arith) r ready.inside h)
      sendable may OutMissing k = k
      sendable may (Full y) k = let a : length (waits before) < g.room = may.room in let b = waiting_count in let d : g.room ≤ length s.waiting = k.0 in omega arith
      sendable may (Held m y) k = k

      -- the delivery takes the message, for it carries its number and does not have it
      pub carried : n < message_limit
      carried = let a = message_in in let b = ready.few_messages in omega arith

      pub not_waiting : (Has e r → ⊥) → waits_in n s.waiting ≡ false
      not_waiting out =
          ap (waits_in n) ready.waits ∙ waits_in_not c n (waits before) (λ h. fresh (sent n) is out (waited (scene_on g) n before ready.run h).0)

      pub sent_waits : (w : List Parcel) (p : Parcel) → p ≡ parcel_of_message c n → w ≡ s.waiting ++ p ∷ [] → w ≡ waiting_after c (past c (r ++ e ∷ []))
      sent_waits w p own put =
          put ∙ ap (λ q. s.waiting ++ q ∷ []) own ∙ ap (λ v. v ++ parcel_of_message c n ∷ []) ready.waits ∙ parcels_push c n (waits before)
          ∙ ap (waiting_after c) (sym (past_push c r e ∙ ap (λ h. h ∷ before) is))

    module _ (n : ℕ) (is : event_at c e.0 ≡ received n) where
      waits_there : (Has e r → ⊥) → Has (sent n) before → Has n (waits before)
      waits_there out sent-off = waiting n before sent-off (fresh (received n) is out)

      pub parcel_there : (Has e r → ⊥) → Has (sent n) before → parcel_of n s.waiting ≡ Some (parcel_of_message c n)
      parcel_there out sent-off = ap (parcel_of n) ready.waits ∙ parcel_of_has c n (waits before) (waits_there out sent-off)

      pub may_receive : (Has e r → ⊥) → Has (sent n) before → first_holder g.rule (tag_of c n) (ahead_of n s.waiting) ≡ None → MayReceive (scene_on g) n before
      may_receive out sent-off none =
          record {
            fresh = fresh (received n) is out;
            after = sent-off;
            free = (unheld c n g.rule (waits before) (waits_once (scene_on g) before ready.run) (waits_there out sent-off)).0 (subst (λ w. first_holder g.rule (tag_of c n) (ahead_of n w) ≡ None) ready.waits none);
          }

      pub receivable : MayReceive (scene_on g) n before → (o : Obstacle) → StopsReceipt g s e n o → ⊥
      receivable may InRecord k = may.fresh (stale (received n) is k)
      receivable may (AboveMissing x) k = k
      receivable may OutMissing k = k may.after
      receivable may (Full y) k = k
      receivable may (Held m y) k =
          let there : Has n (waits before) = waiting n before may.after may.fresh in
          let none : first_holder g.rule (tag_of c n) (ahead_of n s.waiting) ≡ None =
          subst (λ w. first_holder g.rule (tag_of c n) (ahead_of n w) ≡ None) (sym ready.waits)
          ((unheld c n g.rule (waits before) (waits_once (scene_on g) before ready.run) there).1 may.free) in
          let clash : Some m ≡ None = sym k.0 ∙ none in
          let z : ◌≡◌ {A = ℕ} 0 1 = cc in
          omega arith

      pub received_waits : (w : List Parcel) → w ≡ without n s.waiting → w ≡ waiting_after c (past c (r ++ e ∷ []))
      received_waits w took =
          took ∙ ap (without n) ready.waits ∙ parcels_without c n (waits before) (waits_once (scene_on g) before ready.run)
          ∙ ap (waiting_after c) (sym (past_push c r e ∙ ap (λ h. h ∷ before) is))

    -- an event that may be fired has nothing in its way
    pub unstopped : MayFire (scene_on g) (event_at c e.0) before → (o : Obstacle) → Stops g s e (event_at c e.0) o → ⊥
    unstopped may o k = go (event_at c e.0) refl may k
      where
        go : (h : Happening) → event_at c e.0 ≡ h → MayFire (scene_on g) h before → Stops g s e h o → ⊥
        go (sent n) is may k = sendable n is may o k
        go (received n) is may k = receivable n is may o k

    pub next_run : MayFire (scene_on g) (event_at c e.0) before → Run (scene_on g) (past c (r ++ e ∷ []))
    next_run may = subst (λ p. Run (scene_on g) p) (sym (past_push c r e)) (fired ready.run may)

    -- what the record says against an event, and then the delivery, is all there is
    module _ (none : (h : Happening) → event_at c e.0 ≡ h → Against g s e h (Ok tt)) where
      not_fired : (h : Happening) → event_at c e.0 ≡ h → Has e r → ⊥
      not_fired (sent n) is k = none (sent n) is InRecord (omega arith) k
      not_fired (received n) is k = none (received n) is InRecord (omega arith) k

      -- what has no first has none
      none_lacking : (n : ℕ) → event_at c e.0 ≡ sent n → (m : ℕ) (x : EventId) → x.0 < m → Lacks c r e x → ⊥
      none_lacking n is zero x l k = omega arith
      none_lacking n is (suc m) x l k = none (sent n) is (AboveMissing x) (omega arith) (k, λ y b j. none_lacking n is m y (omega arith) j)

      was_sent : (n : ℕ) → event_at c e.0 ≡ received n → Has (sent n) before
      was_sent n is = go (has? (sent n) before)
        where
          go : Dec (Has (sent n) before) → Has (sent n) before
          go (yes h) = h
          go (no h) = absurd (none (received n) is OutMissing (omega arith) h)

      module _ (w : List Parcel) where
        abbrev Handing : Happening → Result (Unit {0}) Obstacle → Type 0
        Handing h a = HandedOn g.rule g.room (g.layer (length s.waiting)) s.waiting (drawn c h).side (drawn c h).message (tag_of c (message_of h)) a w

        pub accepted : (h : Happening) (u : Unit {0}) → event_at c e.0 ≡ h → Handing h (Ok u) → MayFire (scene_on g) h before × (w ≡ waiting_after c (past c (r ++ e ∷ [])))
        accepted (sent n) u is k = (
          may_send n is (not_fired (sent n) is) (λ x j. none_lacking n is (suc x.0) x (omega arith) j) k.0,
          sent_waits n is w (parcel_of_message c n) refl k.1,
        )
        accepted (received n) u is k =
            let out = not_fired (received n) is in
            let there : parcel_of n s.waiting ≡ Some (parcel_of_message c n) = parcel_there n is out (was_sent n is) in
            let took : parcel_of n s.waiting ≡ Some k.0 = k.1 in
            let one : parcel_of_message c n ≡ k.0 = cc in (
              may_receive n is out (was_sent n is) (subst (λ (p : Parcel). first_holder g.rule p.tag (ahead_of n s.waiting) ≡ None) (sym one) k.2),
              received_waits n is w k.3,
            )

        pub refused : (h : Happening) (o : Obstacle) → event_at c e.0 ≡ h → Handing h (Err o) → LeastObstacle g s e h o × (w ≡ s.waiting)
        refused (sent n) o is k =
            let full = k.1 (carried n is, not_waiting n is (not_fired (sent n) is)) in
            (subst (λ q. LeastObstacle g s e (sent n) q) (sym full.1) ((full.2, full.3), none (sent n) is), k.0)
        refused (received n) o is k =
            let by = k.1 (parcel_of_message c n) (parcel_there n is (not_fired (received n) is) (was_sent n is)) in
            (subst (λ q. LeastObstacle g s e (received n) q) (sym by.2) ((by.3, by.4), lower), k.0)
          where
            lower : (q : Obstacle) → obstacle_number q < 24 → Stops g s e (received n) q → ⊥
            lower InRecord l j = none (received n) is InRecord (omega arith) j
            lower (AboveMissing x) l j = j
            lower OutMissing l j = none (received n) is OutMissing (omega arith) j
            lower (Full y) l j = j
            lower (Held m y) l j = omega arith
