-- What is said of a delivery's answers, and of a layer that is not made.
use Rattle.std.specs.Prelude.{ℕ, Bool, cond, [], ◌++◌, Ok, Err, Some, None, codes, decimal, Option, Result}
use Rattle.chart.specs.Content.{Content}
use Rattle.chart.specs.Words.{Text}
use Rattle.delivery.specs.declared.parcel.Parcel.{Parcel}
use Rattle.delivery.specs.declared.parcel.Tag.{Tag}
use Rattle.delivery.specs.declared.refusal.Accepted.{Accepted}
use Rattle.delivery.specs.declared.refusal.PutRefusal.{PutRefusal}
use Rattle.delivery.specs.declared.refusal.PutRefusal.TheVariants.{Far, Double, Full}
use Rattle.delivery.specs.declared.refusal.TakeRefusal.{TakeRefusal}
use Rattle.delivery.specs.declared.refusal.TakeRefusal.TheVariants.{Absent, Held}
use Rattle.order.specs.Scenes.{known_tag}
use Rattle.layers.specs.declared.unbuilt.Unbuilt.{Unbuilt}
use Rattle.layers.specs.declared.unbuilt.Unbuilt.TheVariants.{BoundNumber, RelayNumber}
use Rattle.rehearse_wired.specs.Names.{ends_words, message_words}
use Rattle.rehearse_wired.specs.declared.misuse.Misuse.{Misuse}
use Rattle.rehearse_wired.specs.declared.misuse.Misuse.TheVariants as misuse

abbrev pub refused_words : Text → ℕ → Text
refused_words words l = codes "refused: " ++ (words ++ (codes ", layer " ++ decimal l))

abbrev pub put_refusal_words : PutRefusal → Text
put_refusal_words (Far l) = refused_words (codes "far") l
put_refusal_words (Double l) = refused_words (codes "double") l
put_refusal_words (Full l) = refused_words (codes "full") l

abbrev pub put_words : Result Accepted PutRefusal → Text
put_words (Ok a) = codes "accepted"
put_words (Err e) = put_refusal_words e

abbrev pub unbuilt_of : {D : Type 0} → Unbuilt D → Misuse
unbuilt_of (BoundNumber n below) = misuse.Unbuilt (BoundNumber n tt)
unbuilt_of (RelayNumber n below) = misuse.Unbuilt (RelayNumber n tt)

-- what the hold rule says of a holder's tag, if it has one, and a message's
abbrev pub rule_words : Content → (Tag → Tag → Bool) → Option Tag → Tag → Text
rule_words c rule (Some h) t = codes "; " ++ (ends_words c h ++ (codes " " ++ (cond (rule h t) (codes "holds") (codes "does not hold") ++ (codes " " ++ ends_words c t))))
rule_words c rule None t = []

-- the answer to the take of a message with the tag t
abbrev pub take_words : Content → (Tag → Tag → Bool) → Tag → Result Parcel TakeRefusal → Text
take_words c rule t (Ok p) = codes "taken, " ++ ends_words c p.tag
take_words c rule t (Err (Absent l)) = refused_words (codes "absent") l
take_words c rule t (Err (Held by l)) =
    codes "refused: held by message " ++ (message_words c by ++ (codes ", layer " ++ (decimal l ++ rule_words c rule (known_tag c by.0) t)))
