-- What the three misreadings say, and what the runs do.
use Rattle.std.proofs.Common.{◌≡◌, ℕ, ◌<◌, Bool, not, ◌&&◌, ◌||◌, T, eqb, ltb, ◌⊎◌, refl, ap, subst, inl, inr, ⊎_elim, arith, lit<, lit≤, eqb→eq, ltb→lt, T_not}
use Rattle.chart.specs.Content.{Happening, sent, received, message_of, sender_of, sent_at}
use Rattle.order.specs.Order.{Scene, Laws, Enforced}
use Rattle.order.specs.Pass.{rows, enforces}
use Rattle.order.specs.Scenes.{above, instance_of, number_of}
use Rattle.wirings.specs.Rules.{no_hold, same_pair, same_receiver}
use Rattle.worked_cases.specs.Cases.{twin, throng, detour}
use Rattle.worked_cases.specs.Misread.{ReversibleBy, Unheld, drawn, own, chain, HeldOnce, unheld, once, HeldInLine, held, InLine, TwoFit, detour_over_paired_line, throng_over_mailbox, twin_over_bag, throng_over_bound_two, Misreadings}
use Rattle.worked_cases.specs.Misread as misread
use Rattle.order.proofs.Tests.{both, both_of, or_either, send_not_receipt, same_message}
use Rattle.order.proofs.Pass.{all_right, enforces_is, crowd_is, reverses_is}
use Rattle.order.proofs.Exact.{needed, sufficient}
use Rattle.order.proofs.Scenes.{laws}
use Rattle.worked_cases.proofs.Working.{every, every_at, twin_laid, throng_laid, detour_laid, bag_transitive, paired_line_transitive, mailbox_transitive}

detour_laws : Laws detour_over_paired_line
detour_laws = laws detour same_pair 64 detour_laid paired_line_transitive (lit≤ tt)

twin_laws : Laws twin_over_bag
twin_laws = laws twin no_hold 64 twin_laid bag_transitive (lit≤ tt)

mailbox_laws : Laws throng_over_mailbox
mailbox_laws = laws throng same_receiver 64 throng_laid mailbox_transitive (lit≤ tt)

throng_laws : Laws throng_over_bound_two
throng_laws = laws throng same_pair 2 throng_laid paired_line_transitive (lit≤ tt)

ordered : (s : Scene) → Laws s → (e f : Happening) → message_of f < s.messages → T (enforces (rows s s.messages) e f) → Enforced s e f
ordered s law e f l t = (enforces_is s law (rows s s.messages) (all_right s law) e f l).0 t

-- by rules 1 and 2 nothing comes after in(0)
nothing_after : {e f : Happening} → Unheld detour_over_paired_line e f → e ≡ received 0 → ⊥
nothing_after (drawn {e} {n} l) p =
    let t : T (above detour (received 0) n) = subst (λ x. T (above detour x n)) p l in
    let i : n < 4 = ltb→lt n 4 (both_of (ltb n 4) (eqb (instance_of detour (received 0)) (sender_of detour n) && ltb (number_of detour (received 0)) (sent_at n detour.events)) t).0 in
    T_not (above detour (received 0) n) (every_at (λ n. not (above detour (received 0) n)) 4 n tt i) t
nothing_after (own i) p = send_not_receipt p
nothing_after (chain d₁ d₂) p = nothing_after d₁ p

not_once : {e f : Happening} → HeldOnce detour_over_paired_line e f → e ≡ received 0 → f ≡ received 3 → ⊥
not_once (unheld u) p q = nothing_after u p
not_once (once {m} {n} d h) p q = subst (λ f. T (detour_over_paired_line.holds 0 (message_of f))) q (subst (λ e. T (detour_over_paired_line.holds (message_of e) n)) p h)

-- of the in events at r, rule 3 between out events of one instance has only in(0) before in(1), so in(3) comes after neither
abbrev fellow : ℕ → ℕ → Bool
fellow m n = not (above throng (sent m) n && throng_over_mailbox.holds m n) || eqb n 1

abbrev AtR : Happening → Type 0
AtR e = (e ≡ received 0) ⊎ (e ≡ received 1)

-- no out event stands below these two
none_below : (e : Happening) (n : ℕ) → AtR e → T (above throng e n) → ⊥
none_below e n at t = ⊎_elim (λ p. go (received 0) tt (subst (λ x. T (above throng x n)) p t)) (λ p. go (received 1) tt (subst (λ x. T (above throng x n)) p t)) at
  where
    go : (e : Happening) → T (every (λ n. not (above throng e n)) 4) → T (above throng e n) → ⊥
    go e none t = T_not (above throng e n) (every_at (λ n. not (above throng e n)) 4 n none (ltb→lt n 4 (both_of (ltb n 4) _ t).0)) t

held_by : (m n : ℕ) → T (every (fellow m) 4) → T (above throng (sent m) n) → T (throng_over_mailbox.holds m n) → n ≡ 1
held_by m n all t h =
    ⊎_elim
    (λ u. absurd (T_not (above throng (sent m) n && throng_over_mailbox.holds m n) u (both (above throng (sent m) n) (throng_over_mailbox.holds m n) t h)))
    (λ u. eqb→eq n 1 u)
    (or_either (not (above throng (sent m) n && throng_over_mailbox.holds m n)) (eqb n 1) (every_at (fellow m) 4 n all (ltb→lt n 4 (both_of (ltb n 4) _ t).0)))

only_one : {e f : Happening} → HeldInLine throng_over_mailbox e f → AtR e → f ≡ received 1
only_one (drawn {e} {n} l) at = absurd (none_below e n at l)
only_one (own i) at = absurd (⊎_elim send_not_receipt send_not_receipt at)
only_one (held {m} {n} l h) at =
    ap received (⊎_elim (λ p. by m 0 tt (same_message p) l h) (λ p. by m 1 tt (same_message p) l h) at)
  where
    by : (m k : ℕ) → T (every (fellow k) 4) → m ≡ k → T (above throng (sent m) n) → T (throng_over_mailbox.holds m n) → n ≡ 1
    by m k all e l h = held_by k n all (subst (λ x. T (above throng (sent x) n)) e l) (subst (λ x. T (throng_over_mailbox.holds x n)) e h)
only_one (chain d₁ d₂) at = only_one d₂ (inr (only_one d₁ at))

not_in_line : HeldInLine throng_over_mailbox (received 0) (received 3) → ⊥
not_in_line d = let z : ◌≡◌ {A = ℕ} 3 1 = same_message (only_one d (inl refl)) in omega arith

pub misreadings : Misreadings
misreadings = record {
  held_once = (
    (λ d. not_once d refl refl),
    inr (_, crowd_is detour_over_paired_line detour_laws (rows detour_over_paired_line 4) (all_right detour_over_paired_line detour_laws) 0 3 (lit< tt) (ordered detour_over_paired_line detour_laws (sent 0) (sent 3) (lit< tt) tt), lit≤ tt),
  );
  never_overtakes = λ (r, v). (needed detour_over_paired_line detour_laws (received 0) 3 r v.run v.reversed).0 (ordered detour_over_paired_line detour_laws (received 0) (received 3) (lit< tt) tt);
  held_in_line = (
    not_in_line,
    inr (_, crowd_is throng_over_mailbox mailbox_laws (rows throng_over_mailbox 4) (all_right throng_over_mailbox mailbox_laws) 0 3 (lit< tt) (ordered throng_over_mailbox mailbox_laws (sent 0) (sent 3) (lit< tt) tt), lit≤ tt),
  );
  never_passes = λ (r, v). (needed throng_over_mailbox mailbox_laws (received 0) 3 r v.run v.reversed).0 (ordered throng_over_mailbox mailbox_laws (received 0) (received 3) (lit< tt) tt);
  in_line = λ v. v.0 (misread.above refl (lit< tt));
  overtakes = sufficient twin_over_bag twin_laws 1 (lit< tt) (received 0) ((reverses_is twin_over_bag twin_laws (received 0) (received 1) (lit< tt)).0 tt);
  crowd_of_two =
      ((λ d. (enforces_is throng_over_bound_two throng_laws (rows throng_over_bound_two 4) (all_right throng_over_bound_two throng_laws) (received 0) (received 3) (lit< tt)).1 d), inr (lit≤ tt));
  too_crowded = λ (r, v). (reverses_is throng_over_bound_two throng_laws (received 0) (received 3) (lit< tt)).1 (needed throng_over_bound_two throng_laws (received 0) 3 r v.run v.reversed);
}
