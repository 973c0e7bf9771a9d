-- The words for a wiring, from the top of the pile to its bottom.
use Rattle.std.specs.Prelude.{ℕ, [], ◌++◌, Some, None, string_bytes, codes, decimal, Option}
use Rattle.chart.specs.Words.{Text}
use Rattle.rehearse_wired.specs.declared.wiring.Bottom.{Bottom}
use Rattle.rehearse_wired.specs.declared.wiring.Bottom.TheVariants.{Bag, PairedLine, Mailbox, Meeting}
use Rattle.rehearse_wired.specs.declared.wiring.RelayWish.{RelayWish}
use Rattle.rehearse_wired.specs.declared.wiring.Wiring.{Wiring}

abbrev pub bottom_words : Bottom → Text
bottom_words Bag = codes "bag"
bottom_words PairedLine = codes "paired line"
bottom_words Mailbox = codes "mailbox"
bottom_words Meeting = codes "meeting"

abbrev pub bound_words : Option ℕ → Text
bound_words (Some n) = codes "bound " ++ (decimal n ++ codes " over ")
bound_words None = []

abbrev pub relay_words : Option RelayWish → Text
relay_words (Some w) = codes "relay " ++ (decimal w.number ++ (codes " of " ++ (string_bytes w.members ++ codes " over ")))
relay_words None = []

abbrev pub wiring_words : Wiring → Text
wiring_words w = relay_words w.relay ++ (bound_words w.bound ++ bottom_words w.bottom)
