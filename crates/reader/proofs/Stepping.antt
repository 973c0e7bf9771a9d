-- The steps of a part, one after the other.
use Rattle.std.proofs.Common.{◌≡◌, ℕ, zero, suc, ◌<◌, length, None, Some, Ok, Err, refl, ap, ◌∙◌, sym, arith}
use Rattle.chart.specs.Drafted.{drafted}
use Rattle.reader.specs.Answers.{at, step_read, part_read}
use Rattle.reader.specs.Reading.{Outcome, Step, Stepping, then, go_on, steps_from, part_from}
use Rattle.reader.specs.declared.lines.Drawing.{Drawing}
use Rattle.reader.specs.declared.refusals.Refusal.{Refusal}

-- the steps from the drawing d on end as those from the first one, with enough of them left
pub record Goes (steps : Stepping) (first d : Drawing) : Type 0 where
  pub fuel : ℕ
  pub enough : length d.scanner.rest.now < fuel
  pub same : at (steps_from steps fuel) d ≡ at (part_from steps) first

pub at_first : (steps : Stepping) (d : Drawing) → Goes steps d d
at_first steps d = record { fuel = suc (length d.scanner.rest.now); enough = omega arith; same = refl }

module _ (steps : Stepping) (first d e : Drawing) where
  -- one step of the definition
  unroll : (s : Outcome Step) → (fuel : ℕ) → length d.scanner.rest.now < fuel → s ≡ at steps d → (k : ℕ) × (fuel ≡ suc k) × (at (steps_from steps fuel) d ≡ then s (go_on (steps_from steps k d.scanner.whole)))
  unroll s zero l h = absurd (omega arith)
  unroll s (suc k) l h = (k, refl, ap (λ r. then r (go_on (steps_from steps k d.scanner.whole))) (sym h))

  pub refused_there : (why : Refusal) → Goes steps first d → step_read (Err why) e ≡ at steps d → part_read (Err why) e ≡ at (part_from steps) first
  refused_there why g h = sym (unroll (Err why) g.fuel g.enough h).2 ∙ g.same

  pub ended_there : (p : ℕ) → Goes steps first d → step_read (Ok (Some p)) e ≡ at steps d → part_read (Ok p) e ≡ at (part_from steps) first
  ended_there p g h = sym (unroll (step_read (Ok (Some p)) e) g.fuel g.enough h).2 ∙ g.same

  pub goes_on : Goes steps first d → step_read (Ok None) e ≡ at steps d → e.scanner.whole ≡ d.scanner.whole → length e.scanner.rest.now < length d.scanner.rest.now → Goes steps first e
  goes_on g h whole less =
      let u = unroll (step_read (Ok None) e) g.fuel g.enough h in
      record {
        fuel = u.0;
        enough = omega (arith, u.1, g.enough);
        same = ap (λ n. steps_from steps u.0 n (drafted e.draft) e.scanner.rest.now) whole ∙ sym u.2 ∙ g.same;
      }
