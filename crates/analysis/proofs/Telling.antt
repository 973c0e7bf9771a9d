-- What the report and the listing say, from what was written.
use Rattle.std.proofs.Common.{◌≡◌, ℕ, zero, suc, ◌*◌, ◌<◌, ◌≤◌, true, false, ltb, List, [], ◌∷◌, ◌++◌, map, length, get_or, take, drop, Ok, Err, decimal, sym, refl, ap, ◌∙◌, subst, arith}
use Rattle.std.proofs.lemmas.Fmt.{length-decimal-le}
use Rattle.std.proofs.lemmas.List.{length-append, length-map, get_or_append_left, get_or_at, get_or-map}
use Rattle.std.proofs.lemmas.Bool.{cond-true, cond-false, lt-ltb, le-ltb}
use Rattle.chart.specs.Charted.{content}
use Rattle.chart.specs.Content.{Content}
use Rattle.chart.specs.declared.charting.Chart.{Chart}
use Rattle.order.proofs.Verdict.{chart_laid}
use Rattle.analysis.specs.Listing.{race_line, count_line, line_of, line_answer, line_written}
use Rattle.analysis.specs.Races.{InChart}
use Rattle.analysis.specs.Records.{record_of, records, Small}
use Rattle.analysis.specs.Reporting.{counted, reported}
use Rattle.analysis.specs.Writing.{Fronted}
use Rattle.analysis.specs.declared.races.Race.{Race}
use Rattle.analysis.specs.declared.refusals.ReportRefusal.TheVariants as report
use Rattle.analysis.specs.declared.refusals.ListingRefusal.TheVariants as list
use Rattle.analysis.proofs.Sweeping.{few_events}

pub small : (chart : Chart) (x : Race) → InChart (content chart) x → Small x
small chart x k =
    let e = few_events chart in
    let i = (chart_laid chart).few_instances in
    let a = k.first in
    let b = k.second in
    let d = k.instance in
    record { first = omega arith; second = omega arith; instance = omega arith }

pub length_records : (xs : List Race) → length (records xs) ≡ 4 * length xs
length_records [] = refl
length_records (x ∷ xs) = let e = length_records xs in omega (arith, length-append (record_of x) (records xs))

module _ (xs : List Race) where
  -- the report's answers
  pub report_short : (old : List ℕ) (n : ℕ) → n ≡ length xs → length old < 4 * n → (Err (report.TooShort n) ≡ counted xs old) × (old ≡ reported xs old)
  report_short old n e l =
      let t : ltb (length old) (4 * length xs) ≡ true = lt-ltb (length old) (4 * length xs) (omega arith) in
      (ap (λ k. Err (report.TooShort k)) e ∙ sym (cond-true _ _ _ t), sym (cond-true _ _ _ t))

  pub report_whole : (old new : List ℕ) (n : ℕ) → n ≡ length xs → 4 * n ≤ length old → Fronted old (records xs) new → (Ok n ≡ counted xs old) × (new ≡ reported xs old)
  report_whole old new n e l h =
      let t : ltb (length old) (4 * length xs) ≡ false = le-ltb (length old) (4 * length xs) (omega arith) in
      (ap Ok e ∙ sym (cond-false _ _ _ t), h ∙ ap (λ k. records xs ++ drop k old) (length_records xs) ∙ sym (cond-false _ _ _ t))

  module _ (c : Content) where
    pub line_race : (k : ℕ) (x : Race) → k < length xs → x ≡ get_or xs k x → line_of c xs k ≡ race_line c x
    line_race k x l here =
        get_or_append_left (map (race_line c) xs) (count_line (length xs) ∷ []) [] k (omega (arith, length-map xs (race_line c)))
        ∙ get_or-map (race_line c) xs k x [] l
        ∙ ap (race_line c) (sym here)

    pub line_count : (k : ℕ) → k ≡ length xs → line_of c xs k ≡ count_line (length xs)
    line_count k e = get_or_at (map (race_line c) xs) (count_line (length xs)) [] [] k (length-map xs (race_line c) ∙ sym e)

    -- the answers to a call for a line
    module _ (k : ℕ) (old : List ℕ) (room : 48 ≤ length old) where
      pub line_beyond : length xs < k → (Err list.BeyondLast ≡ line_answer c xs k old) × (old ≡ line_written c xs k old)
      line_beyond l =
          let t = le-ltb (length old) 48 room in
          let u = lt-ltb (length xs) k l in
          (sym (cond-false _ _ _ t ∙ cond-true _ _ _ u), sym (cond-false _ _ _ t ∙ cond-true _ _ _ u))

      pub line_told : (line new : List ℕ) (r : ℕ) → k ≤ length xs → line_of c xs k ≡ line → Fronted old line new → r ≡ length line → (Ok r ≡ line_answer c xs k old) × (new ≡ line_written c xs k old)
      line_told line new r l is h r-is =
          let t = le-ltb (length old) 48 room in
          let u = le-ltb (length xs) k l in (
            ap Ok (r-is ∙ ap length (sym is)) ∙ sym (cond-false _ _ _ t ∙ cond-false _ _ _ u),
            subst (λ ys. Fronted old ys new) (sym is) h ∙ sym (cond-false _ _ _ t ∙ cond-false _ _ _ u),
          )

-- lengths
pub length_take_most : (k : ℕ) (xs : List ℕ) → length (take k xs) ≤ k
length_take_most zero xs = omega arith
length_take_most (suc k) [] = omega arith
length_take_most (suc k) (x ∷ xs) = let e = length_take_most k xs in omega arith

pub digits_three : (n : ℕ) → n < 1000 → length (decimal n) ≤ 3
digits_three n l = length-decimal-le 3 n (omega arith) l (omega arith)

pub digits_five : (n : ℕ) → n < 100000 → length (decimal n) ≤ 5
digits_five n l = length-decimal-le 5 n (omega arith) l (omega arith)
