-- The words for a program that was called wrongly.
use Rattle.std.specs.Prelude.{ℕ, ◌++◌, string_bytes, codes, decimal}
use Rattle.chart.specs.Words.{Text}
use Rattle.layers.specs.Refusals.{refusal_number}
use Rattle.layers.specs.declared.unbuilt.Unbuilt.{Unbuilt}
use Rattle.layers.specs.declared.unbuilt.Unbuilt.TheVariants.{BoundNumber, RelayNumber}
use Rattle.rehearse_wired.specs.declared.arguments.Key.{Key}
use Rattle.rehearse_wired.specs.declared.arguments.Key.TheVariants as key
use Rattle.rehearse_wired.specs.declared.misuse.Misuse.{Misuse}
use Rattle.rehearse_wired.specs.declared.misuse.Misuse.TheVariants as misuse

abbrev pub key_words : Key → Text
key_words key.Wiring = codes "--wiring"
key_words key.Bound = codes "--bound"
key_words key.Relay = codes "--relay"
key_words key.Fire = codes "--fire"

-- what may stand after an option
abbrev pub expected_words : Key → Text
expected_words key.Wiring = codes "expected bag, paired, mailbox or meeting"
expected_words key.Bound = codes "expected a number 1 to 64"
expected_words key.Relay = codes "expected a number 16 to 31, a colon, and names of instances with commas between"
expected_words key.Fire = codes "expected numbers of events with commas between"

-- the option that asks for a layer
abbrev pub key_of : {D : Type 0} → Unbuilt D → Key
key_of (BoundNumber n below) = key.Bound
key_of (RelayNumber n below) = key.Relay

abbrev pub number_of : {D : Type 0} → Unbuilt D → ℕ
number_of (BoundNumber n below) = n
number_of (RelayNumber n below) = n

-- the refusal's number, then the option with the number that was asked for
abbrev pub unbuilt_words : {D : Type 0} → Unbuilt D → Text
unbuilt_words u =
    codes "refused " ++ (decimal (refusal_number u) ++ (codes "\n" ++ (key_words (key_of u) ++ (codes " " ++ (decimal (number_of u) ++ (codes ": " ++ expected_words (key_of u)))))))

abbrev pub misuse_words : Misuse → Text
misuse_words (misuse.Stray w) = codes "unknown option '" ++ (string_bytes w ++ codes "': expected --wiring, --bound, --relay, --help or the name of a file")
misuse_words misuse.SecondFile = codes "a second file: expected one"
misuse_words (misuse.Twice k) = codes "a second " ++ (key_words k ++ codes ": expected one")
misuse_words (misuse.NoValue k) = codes "nothing after " ++ (key_words k ++ (codes ": " ++ expected_words k))
misuse_words (misuse.BadValue k w) = key_words k ++ (codes " '" ++ (string_bytes w ++ (codes "': " ++ expected_words k)))
misuse_words (misuse.Unbuilt u) = unbuilt_words u
misuse_words (misuse.UnknownMember name known) =
    codes "--relay: the chart has no instance '" ++ (string_bytes name ++ (codes "': expected some of " ++ string_bytes known))
