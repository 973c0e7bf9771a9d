-- Words and names, as lists of bytes.
use Rattle.std.specs.Prelude.{ℕ, Bool, false, not, ◌&&◌, ◌||◌, List, [], ◌∷◌, length, codes, ◌==◌, nat_le}
use Rattle.std.specs.List.{list_all, list_any}
use Rattle.std.specs.Str.{bytes_eq}

abbrev pub Text : Type 0
Text = List ℕ

abbrev pub between : ℕ → ℕ → ℕ → Bool
between low high b = nat_le low b && nat_le b high

-- A to Z, a to z
abbrev pub is_letter : ℕ → Bool
is_letter b = between 65 90 b || between 97 122 b

-- a letter, a digit or an underscore
abbrev pub is_word_byte : ℕ → Bool
is_word_byte b = is_letter b || (between 48 57 b || b == 95)

abbrev pub all_of : (ℕ → Bool) → Text → Bool
all_of p t = list_all p t

abbrev pub lettered : Text → Bool
lettered [] = false
lettered (b ∷ bs) = is_letter b

-- the words that the text of a chart is made of
abbrev pub reserved : Text → Bool
reserved t =
    list_any (λ w. bytes_eq w t)
    (codes "msc" ∷ codes "inst" ∷ codes "out" ∷ codes "in" ∷ codes "to" ∷ codes "from" ∷ codes "endmsc" ∷ [])

-- a word that may name something, if it is not too long
abbrev pub name_like : Text → Bool
name_like t = all_of is_word_byte t && (lettered t && not (reserved t))

abbrev pub is_name : Text → Bool
is_name t = name_like t && nat_le (length t) 24
