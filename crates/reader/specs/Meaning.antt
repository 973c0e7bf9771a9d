-- What a text means: blanks may stand between its tokens, and the tokens are those of a chart.
use Rattle.std.specs.Prelude.{◌≡◌, ℕ, ◌≤◌, Bool, true, false, ◌||◌, List, [], ◌∷◌, ◌++◌, length, get_or, codes, ◌==◌, slice_index_or}
use Rattle.std.specs.List.{flat_map}
use Rattle.chart.specs.Words.{Text, is_word_byte, all_of}
use Rattle.chart.specs.Content.{Content, Happening, sent, received, nobody, sender_of, receiver_of, WellFormed}
use Rattle.reader.specs.Lexemes.{is_blank}

-- a token: a word, or a mark
pub data Sign : Type 0 where
  written : Text → Sign
  mark : ℕ → Sign

abbrev pub semicolon_sign : Sign
semicolon_sign = mark 59

abbrev pub comma_sign : Sign
comma_sign = mark 44

abbrev pub colon_sign : Sign
colon_sign = mark 58

abbrev pub is_mark : ℕ → Bool
is_mark b = b == 59 || (b == 44 || b == 58)

-- whether the text begins with a byte that passes
abbrev pub begins : (ℕ → Bool) → Text → Bool
begins p [] = false
begins p (b ∷ bs) = p b

abbrev pub is_word : Text → Bool
is_word [] = false
is_word (b ∷ bs) = all_of is_word_byte (b ∷ bs)

-- the text is these tokens in their order, with blanks between them or not; a word ends where no word byte follows
abbrev pub Spells : List Sign → Text → Type 0
Spells [] bs = all_of is_blank bs ≡ true
Spells (written w ∷ ts) bs =
    (blanks : Text) × (rest : Text) × (bs ≡ blanks ++ (w ++ rest)) × (all_of is_blank blanks ≡ true) × (is_word w ≡ true) × (begins is_word_byte rest ≡ false) × Spells ts rest
Spells (mark m ∷ ts) bs =
    (blanks : Text) × (rest : Text) × (bs ≡ blanks ++ m ∷ rest) × (all_of is_blank blanks ≡ true) × (is_mark m ≡ true) × Spells ts rest

abbrev pub further_names : List Text → List Sign
further_names [] = []
further_names (t ∷ ts) = comma_sign ∷ written t ∷ further_names ts

abbrev pub names : List Text → List Sign
names [] = []
names (t ∷ ts) = written t ∷ further_names ts

module _ (c : Content) where
  abbrev pub instance_name : ℕ → Text
  instance_name i = slice_index_or c.instances i []

  abbrev pub message_name : ℕ → Text
  message_name m = (get_or c.messages m nobody).name

  abbrev pub line_of : Happening → List Sign
  line_of (sent m) =
      written (instance_name (sender_of c m)) ∷ colon_sign ∷ written (codes "out") ∷ written (message_name m)
      ∷ written (codes "to") ∷ written (instance_name (receiver_of c m)) ∷ semicolon_sign ∷ []
  line_of (received m) =
      written (instance_name (receiver_of c m)) ∷ colon_sign ∷ written (codes "in") ∷ written (message_name m)
      ∷ written (codes "from") ∷ written (instance_name (sender_of c m)) ∷ semicolon_sign ∷ []

  abbrev pub tokens : List Sign
  tokens =
      written (codes "msc") ∷ written c.title ∷ semicolon_sign ∷ written (codes "inst")
      ∷ (names c.instances ++ semicolon_sign ∷ (flat_map line_of c.events ++ written (codes "endmsc") ∷ semicolon_sign ∷ []))

  -- the bytes are a text of this chart
  pub record TextOf (bs : Text) : Type 0 where
    pub fits : length bs ≤ 16384
    pub well_formed : WellFormed c
    pub spelled : Spells tokens bs
