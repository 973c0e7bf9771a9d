-- The number of each refusal, and the values that it tells.
use Rattle.std.specs.Prelude.{ℕ, List, [], ◌∷◌}
use Rattle.analysis.specs.declared.refusals.ReportRefusal.{ReportRefusal}
use Rattle.analysis.specs.declared.refusals.ReportRefusal.TheVariants as report
use Rattle.analysis.specs.declared.refusals.ListingRefusal.{ListingRefusal}
use Rattle.analysis.specs.declared.refusals.ListingRefusal.TheVariants as listing

abbrev pub report_refusal : ReportRefusal → ℕ × List ℕ
report_refusal (report.TooShort pairs) = (13, pairs ∷ [])

abbrev pub listing_refusal : ListingRefusal → ℕ × List ℕ
listing_refusal listing.TooShort = (17, [])
listing_refusal listing.BeyondLast = (17, [])
