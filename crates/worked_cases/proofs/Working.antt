-- The worked cases, by computing.
use Rattle.std.proofs.Common.{◌≡◌, ℕ, zero, suc, ◌<◌, ◌≤◌, Bool, true, ◌&&◌, T, eqb, List, length, count_by, sym, refl, ◌∙◌, subst, ⊎_elim, arith, lit≤, eqb→eq}
use Rattle.std.specs.List.{AllByRecursion}
use Rattle.std.proofs.ByRecursion.{All-get_or}
use Rattle.std.proofs.lemmas.Bool.{and_parts, and_from, eqb-true, eq-eqb}
use Rattle.chart.specs.Content.{Content, joins, is_received, Numbered, AllSent}
use Rattle.delivery.specs.declared.parcel.Tag.{Tag}
use Rattle.order.specs.Scenes.{Laid, station}
use Rattle.order.specs.Report.{Reports, report}
use Rattle.delivery.specs.declared.station.Station.{Station}
use Rattle.wirings.specs.Rules.{no_hold, same_pair, same_receiver}
use Rattle.layers.specs.Shown.{shown}
use Rattle.worked_cases.specs.Cases.{step, twin, throng, detour, first_two, relayed, relay_of_two, WorkedCases}
use Rattle.order.proofs.Lists.{below_suc}
use Rattle.order.proofs.Tests.{both_of}
use Rattle.order.proofs.Scenes.{Transitive, laws}
use Rattle.order.proofs.Report.{reports}

-- a test of each number below n
abbrev pub every : (ℕ → Bool) → ℕ → Bool
every p zero = true
every p (suc n) = every p n && p n

pub every_at : (p : ℕ → Bool) (n x : ℕ) → T (every p n) → x < n → T (p x)
every_at p zero x t l = absurd (omega arith)
every_at p (suc n) x t l =
    let u = both_of (every p n) (p n) t in
    ⊎_elim (λ b. every_at p n x u.0 b) (λ e. subst (λ z. T (p z)) (sym e) u.1) (below_suc x n l)

-- a chart that is written out is told by tests
laid_by :
    (c : Content) → length c.instances ≤ 16 → AllByRecursion (λ p. joins (length c.instances) p ≡ true) c.messages → Numbered c → AllSent c →
    T (every (λ m. eqb (count_by (is_received m) c.events) 1) (length c.messages)) → Laid c
laid_by c few joined numbered all_sent received = record {
  few_instances = few;
  all_join = λ m d l. All-get_or (λ p. joins (length c.instances) p ≡ true) c.messages m d l joined;
  is_numbered = numbered;
  all_sent = all_sent;
  received_once = λ m l. eqb→eq _ _ (every_at (λ m. eqb (count_by (is_received m) c.events) 1) (length c.messages) m received l);
}

pub step_laid : Laid step
step_laid = laid_by step (lit≤ tt) (refl, (refl, (refl, (refl, tt)))) refl refl tt

pub twin_laid : Laid twin
twin_laid = laid_by twin (lit≤ tt) (refl, (refl, tt)) refl refl tt

pub throng_laid : Laid throng
throng_laid = laid_by throng (lit≤ tt) (refl, (refl, (refl, (refl, tt)))) refl refl tt

pub detour_laid : Laid detour
detour_laid = laid_by detour (lit≤ tt) (refl, (refl, (refl, (refl, tt)))) refl refl tt

pub bag_transitive : Transitive no_hold
bag_transitive a b c p q = p

pub paired_line_transitive : Transitive same_pair
paired_line_transitive a b c p q =
    let x = and_parts _ _ p in
    let y = and_parts _ _ q in
    let ss : a.sender.number ≡ b.sender.number = eqb-true _ _ x.0 in
    let rr : a.receiver.number ≡ b.receiver.number = eqb-true _ _ x.1 in
    and_from _ _ (eq-eqb _ _ (ss ∙ eqb-true _ _ y.0)) (eq-eqb _ _ (rr ∙ eqb-true _ _ y.1))

pub mailbox_transitive : Transitive same_receiver
mailbox_transitive a b c p q = eq-eqb _ _ (eqb-true _ _ p ∙ eqb-true _ _ q)

relayed_transitive : (group : List Bool) (relay : Station) (below : Tag → Tag → Bool) → Transitive below → Transitive (relayed group relay below)
relayed_transitive group relay below t a b c = t (shown group relay a) (shown group relay b) (shown group relay c)

by : (c : Content) (rule : Tag → Tag → Bool) (room : ℕ) → Laid c → Transitive rule → 1 ≤ room → Reports c rule room (report c rule room)
by c rule room laid t some = reports c rule room laid (laws c rule room laid t some)

pub worked_cases : WorkedCases
worked_cases = record {
  step_bag = by step no_hold 64 step_laid bag_transitive (lit≤ tt);
  step_meeting = by step no_hold 1 step_laid bag_transitive (lit≤ tt);
  step_paired_line = by step same_pair 64 step_laid paired_line_transitive (lit≤ tt);
  twin_bag = by twin no_hold 64 twin_laid bag_transitive (lit≤ tt);
  twin_paired_line = by twin same_pair 64 twin_laid paired_line_transitive (lit≤ tt);
  twin_mailbox = by twin same_receiver 64 twin_laid mailbox_transitive (lit≤ tt);
  throng_paired_line = by throng same_pair 64 throng_laid paired_line_transitive (lit≤ tt);
  throng_mailbox = by throng same_receiver 64 throng_laid mailbox_transitive (lit≤ tt);
  throng_relay = by throng relay_of_two 64 throng_laid (relayed_transitive first_two (station 16) same_pair paired_line_transitive) (lit≤ tt);
  throng_bound_three = by throng same_pair 3 throng_laid paired_line_transitive (lit≤ tt);
  throng_bound_two = by throng same_pair 2 throng_laid paired_line_transitive (lit≤ tt);
}
