-- What the words of the command line ask for.
use Rattle.std.specs.Prelude.{◌≡◌, ℕ, ◌⊎◌, String, ◌^◌, ◌<◌, Bool, true, false, cond, [], ◌∷◌, ◌++◌, length, is_some, Some, None, Ok, Err, vec_items, string_bytes, codes, Option, Result, MatchOption, ◌≢◌, slice_index}
use Rattle.std.specs.Option.{unwrap_or}
use Rattle.std.specs.declared.alloc.Global.{Global}
use Rattle.std.specs.Str.Parse.{IsNumeral, digits_value, without_leading_plus}
use Rattle.std.specs.Str.{bytes_eq}
use Rattle.chart.specs.Words.{Text}
use Rattle.console.specs.Options.{dashed}
use Rattle.console.specs.declared.failures.Failure.{Failure as FailureOf}
use Rattle.console.specs.declared.failures.Failure.TheVariants as failure
use Rattle.console.specs.declared.source.Source.{Source}
use Rattle.console.specs.declared.source.Source.TheVariants as source
use Rattle.rehearse_wired.specs.declared.arguments.Choices.{Choices}
use Rattle.rehearse_wired.specs.declared.arguments.Key.{Key}
use Rattle.rehearse_wired.specs.declared.arguments.Key.TheVariants as key
use Rattle.rehearse_wired.specs.declared.arguments.Kind.{Kind}
use Rattle.rehearse_wired.specs.declared.arguments.Kind.TheVariants as kind
use Rattle.rehearse_wired.specs.declared.arguments.Request.{Request}
use Rattle.rehearse_wired.specs.declared.arguments.Request.TheVariants as request
use Rattle.rehearse_wired.specs.declared.misuse.Misuse.{Misuse}
use Rattle.rehearse_wired.specs.declared.misuse.Misuse.TheVariants as misuse
use Rattle.rehearse_wired.specs.declared.wiring.Bottom.{Bottom}
use Rattle.rehearse_wired.specs.declared.wiring.Bottom.TheVariants as bottom
use Rattle.rehearse_wired.specs.declared.wiring.RelayWish.{RelayWish}

abbrev pub kind_of : Text → Kind
kind_of t =
    cond (bytes_eq t (codes "--wiring")) (kind.Option key.Wiring)
    (cond (bytes_eq t (codes "--bound")) (kind.Option key.Bound)
    (cond (bytes_eq t (codes "--relay")) (kind.Option key.Relay)
    (cond (bytes_eq t (codes "--fire")) (kind.Option key.Fire)
    (cond (bytes_eq t (codes "--help")) kind.Help
    (cond (bytes_eq t (codes "-")) kind.Input
    (cond (dashed t) kind.Stray kind.File))))))

abbrev pub bottom_of : Text → Option Bottom
bottom_of t =
    cond (bytes_eq t (codes "bag")) (Some bottom.Bag)
    (cond (bytes_eq t (codes "paired")) (Some bottom.PairedLine)
    (cond (bytes_eq t (codes "mailbox")) (Some bottom.Mailbox)
    (cond (bytes_eq t (codes "meeting")) (Some bottom.Meeting) None)))

-- decimal digits, perhaps after a plus sign, of a number below 65536
abbrev pub IsNumber : Text → Type 0
IsNumber t = IsNumeral 10 (without_leading_plus t) × (digits_value 10 (without_leading_plus t) < 2 ^ 16)

abbrev pub NumberRead : Text → Option ℕ → Type 0
NumberRead t r = MatchOption r (IsNumber t → ⊥) (λ n. IsNumber t × (n ≡ digits_value 10 (without_leading_plus t)))

abbrev pub NoColon : Text → Type 0
NoColon t = (i : ℕ) → i < length t → slice_index t i ≢ 58

-- the number before the first colon, and what stands behind it
abbrev pub RelayRead : Text → Option RelayWish → Type 0
RelayRead t r =
    MatchOption r ((xs ys : Text) → t ≡ xs ++ (58 ∷ ys) → NoColon xs → IsNumber xs → ⊥)
    (λ w. (xs : Text) × (t ≡ xs ++ (58 ∷ string_bytes w.members)) × NoColon xs × IsNumber xs × (w.number ≡ digits_value 10 (without_leading_plus xs)))

abbrev pub Failure : Type 0
Failure = FailureOf Misuse

-- an option stands at most once
abbrev pub Once : {X : Type 0} → Option X → Key → Result Choices Failure → Type 0 → Type 0
Once o k r P = (is_some o ≡ true → r ≡ Err (failure.Misused (misuse.Twice k))) × (is_some o ≡ false → P)

-- what was read joins the choices, or else the word is a bad one
abbrev pub chosen : {X : Type 0} → Option X → (X → Choices) → Failure → Result Choices Failure
chosen (Some x) join bad = Ok (join x)
chosen None join bad = Err bad

abbrev pub source_in : Choices → Source → Choices
source_in c s = record { source = Some s; bottom = c.bottom; bound = c.bound; relay = c.relay; events = c.events }

abbrev pub bottom_in : Choices → Bottom → Choices
bottom_in c b = record { source = c.source; bottom = Some b; bound = c.bound; relay = c.relay; events = c.events }

abbrev pub bound_in : Choices → ℕ → Choices
bound_in c n = record { source = c.source; bottom = c.bottom; bound = Some n; relay = c.relay; events = c.events }

abbrev pub relay_in : Choices → RelayWish → Choices
relay_in c w = record { source = c.source; bottom = c.bottom; bound = c.bound; relay = Some w; events = c.events }

abbrev pub bad_value : Key → String Global → Failure
bad_value k w = failure.Misused (misuse.BadValue k w)

abbrev pub value_of : {X : Type 0} → Option X → Key → String Global → Result (Option X) Failure
value_of (Some x) k w = Ok (Some x)
value_of None k w = Err (bad_value k w)

abbrev pub stands : Choices → Key → Bool
stands c key.Wiring = is_some c.bottom
stands c key.Bound = is_some c.bound
stands c key.Relay = is_some c.relay
stands c key.Fire = is_some c.events

-- the choices and an option with its word; memory for a relay's names may be wanting
abbrev pub Joined : Choices → Key → String Global → Result Choices Failure → Type 0
Joined c key.Wiring w r = Once c.bottom key.Wiring r (r ≡ chosen (bottom_of (string_bytes w)) (bottom_in c) (bad_value key.Wiring w))
Joined c key.Bound w r = Once c.bound key.Bound r ((o : Option ℕ) × NumberRead (string_bytes w) o × (r ≡ chosen o (bound_in c) (bad_value key.Bound w)))
Joined c key.Relay w r =
    Once c.relay key.Relay r ((r ≡ Err failure.OutOfMemory) ⊎ ((o : Option RelayWish) × RelayRead (string_bytes w) o × (r ≡ chosen o (relay_in c) (bad_value key.Relay w))))
Joined c key.Fire w r = is_some c.events ≡ true → r ≡ Err (failure.Misused (misuse.Twice key.Fire))

-- one file at most
abbrev pub source_set : Choices → Source → Result Choices Failure
source_set c s = cond (is_some c.source) (Err (failure.Misused misuse.SecondFile)) (Ok (source_in c s))

-- standard input, the paired line and no event to fire, where nothing else was chosen
abbrev pub AsksFor : Choices → Request → Type 0
AsksFor c request.Help = ⊥
AsksFor c (request.Rehearse s w es) =
    (s ≡ unwrap_or c.source source.Input)
    × (w ≡ record { bottom = unwrap_or c.bottom bottom.PairedLine; bound = c.bound; relay = c.relay })
    × MatchOption c.events (vec_items es ≡ []) (λ v. es ≡ v)
