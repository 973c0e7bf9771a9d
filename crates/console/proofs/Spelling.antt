-- The text of a name is text.
use Rattle.std.proofs.Common.{◌≡◌, ℕ, ◌<◌, true, [], ◌∷◌, IsUtf8, IsAscii, arith}
use Rattle.std.proofs.lemmas.Str.Ascii.{IsAscii-nil, IsAscii-cons}
use Rattle.std.proofs.lemmas.Str.{IsUtf8-from_ascii}
use Rattle.std.proofs.lemmas.Bool.{and_parts}
use Rattle.std.proofs.lemmas.Bool.Decides.{nat_tests}
use Rattle.chart.specs.Words.{Text, is_word_byte, all_of, is_name}

word_byte_low : (b : ℕ) → is_word_byte b ≡ true → b < 128
word_byte_low b h = grind (arith, nat_tests)

word_ascii : (t : Text) → all_of is_word_byte t ≡ true → IsAscii t
word_ascii [] h = IsAscii-nil
word_ascii (b ∷ bs) h = let both = and_parts _ _ h in IsAscii-cons b bs (word_byte_low b both.0) (word_ascii bs both.1)

pub name_utf8 : (t : Text) → is_name t ≡ true → IsUtf8 t
name_utf8 t h = IsUtf8-from_ascii t (word_ascii t (and_parts _ _ (and_parts _ _ h).0).0)
