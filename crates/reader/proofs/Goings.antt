-- The reading goes on past a heading that was read, and past a body that was read to `endmsc`.
use Rattle.std.proofs.Common.{◌≡◌, ℕ, ◌≤◌, Bool, true, false, cond, ltb, length, Option, Some, None, Ok, Err, ap, ◌∙◌, sym}
use Rattle.std.proofs.lemmas.Bool.{cond-false, le-ltb}
use Rattle.chart.specs.Words.{Text}
use Rattle.chart.specs.Content.{Content}
use Rattle.chart.specs.Drafting.{begun, all_received, finished}
use Rattle.reader.specs.Reading.{Outcome, then, instance_step, line_step, part_from, ending, body_from, heading_from, chart_from, reading}
use Rattle.reader.specs.declared.refusals.Refusal.{Refusal}
use Rattle.reader.specs.declared.refusals.Refusal.TheVariants.{TextTooLong, NotReceived}

chart_given : (b : Bool) (c d : Content) (r : Outcome (Unit {0})) (e : Refusal) → ◌≡◌ {A = Option Content} (Some d) (cond b (Some c) None) → cond b (then r (λ _. Ok c)) (Err e) ≡ then r (λ _. Ok d)
chart_given true c d r e h = let same : c ≡ d = cc in ap (λ x. then r (λ _. Ok x)) same
chart_given false c d r e h = absurd cc

pub body_goes : (n : ℕ) (c : Content) (bs : Text) (i l : Content × ℕ × Text) (d : Content) → Ok i ≡ part_from instance_step n c bs → Ok l ≡ part_from line_step n i.0 i.2 → Some d ≡ finished l.0
    → body_from n c bs ≡ then (ending n l.2) (λ _. Ok d)
body_goes n c bs i l d instances lines given =
    ap (λ r. then r (λ i. then (part_from line_step n i.0 i.2) (λ l. cond (all_received l.0) (then (ending n l.2) (λ _. Ok l.0)) (Err (NotReceived l.1))))) (sym instances)
    ∙ ap (λ r. then r (λ l. cond (all_received l.0) (then (ending n l.2) (λ _. Ok l.0)) (Err (NotReceived l.1)))) (sym lines)
    ∙ chart_given (all_received l.0) l.0 d (ending n l.2) (NotReceived l.1) given

pub heading_goes : (bs : Text) (h : Text × Text × Text) (c : Content) → length bs ≤ 16384 → Ok h ≡ heading_from (length bs) bs → c ≡ begun h.0 h.1 → reading bs ≡ body_from (length bs) c h.2
heading_goes bs h c short heading draft =
    cond-false (ltb 16384 (length bs)) (Err TextTooLong) (chart_from (length bs) bs) (le-ltb 16384 (length bs) short)
    ∙ ap (λ r. then r (λ h. body_from (length bs) (begun h.0 h.1) h.2)) (sym heading)
    ∙ ap (λ d. body_from (length bs) d h.2) (sym draft)
