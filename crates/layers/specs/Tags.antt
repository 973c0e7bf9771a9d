-- Waiting parcels with the tags as given above: as many wait, of the same messages.
use Rattle.std.specs.Prelude.{◌≡◌, ℕ, not, ◌&&◌, ◌||◌, List, [], ◌∷◌, length, ◌==◌, refl}
use Rattle.std.proofs.Common.{ap, ◌∙◌}
use Rattle.std.proofs.lemmas.List.{length-map}
use Rattle.delivery.specs.declared.parcel.Parcel.{Parcel}
use Rattle.delivery.specs.declared.parcel.Tag.{Tag}
use Rattle.delivery.specs.Waiting.{waits_in, distinct}
use Rattle.layers.specs.Shown.{lifted, as_given}

module _ (given : List Tag) where
  pub length_as_given : (w : List Parcel) → length (as_given given w) ≡ length w
  length_as_given w = length-map w (lifted given)

  pub waits_as_given : (n : ℕ) (w : List Parcel) → waits_in n (as_given given w) ≡ waits_in n w
  waits_as_given n [] = refl
  waits_as_given n (p ∷ w) = ap (λ b. (p.message.0 == n) || b) (waits_as_given n w)

  pub distinct_as_given : (w : List Parcel) → distinct (as_given given w) ≡ distinct w
  distinct_as_given [] = refl
  distinct_as_given (p ∷ w) =
      ap (λ b. not b && distinct (as_given given w)) (waits_as_given p.message.0 w) ∙ ap (λ d. not (waits_in p.message.0 w) && d) (distinct_as_given w)
