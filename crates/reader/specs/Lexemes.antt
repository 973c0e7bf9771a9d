-- The next token of a text, by its kind, its bytes and its place.
use Rattle.std.specs.Prelude.{ℕ, ◌-◌, Bool, cond, ◌||◌, [], ◌∷◌, length, take, drop, ◌==◌}
use Rattle.std.specs.List.{prefix_len}
use Rattle.chart.specs.Words.{Text, is_word_byte}
use Rattle.reader.specs.declared.tokens.Token.{Token}
use Rattle.reader.specs.declared.tokens.Token.TheVariants.{Word, Semicolon, Comma, Colon, End, Stray}

-- space, tab, carriage return, line feed
abbrev pub is_blank : ℕ → Bool
is_blank b = b == 32 || (b == 9 || (b == 13 || b == 10))

pub data Lexeme : Type 0 where
  word : Text → ℕ → Lexeme
  semicolon : Text → ℕ → Lexeme
  comma : Text → ℕ → Lexeme
  colon : Text → ℕ → Lexeme
  finish : ℕ → Lexeme
  stray : ℕ → Lexeme

abbrev pub place_of : Lexeme → ℕ
place_of (word t p) = p
place_of (semicolon t p) = p
place_of (comma t p) = p
place_of (colon t p) = p
place_of (finish p) = p
place_of (stray p) = p

-- a token of the code, without its reference
abbrev pub seen : Token → Lexeme
seen (Word t p) = word t.now p
seen (Semicolon t p) = semicolon t.now p
seen (Comma t p) = comma t.now p
seen (Colon t p) = colon t.now p
seen (End p) = finish p
seen (Stray p) = stray p

-- what lies past the longest front of bytes that pass
abbrev pub past : (ℕ → Bool) → Text → Text
past p bs = drop (prefix_len p bs) bs

abbrev pub front : (ℕ → Bool) → Text → Text
front p bs = take (prefix_len p bs) bs

-- the token at the place p of a text that goes on with these bytes, the first of them no blank
abbrev pub token_at : ℕ → Text → Lexeme
token_at p [] = finish p
token_at p (b ∷ bs) =
    cond (is_word_byte b) (word (front is_word_byte (b ∷ bs)) p)
    (cond (b == 59) (semicolon (b ∷ []) p) (cond (b == 44) (comma (b ∷ []) p) (cond (b == 58) (colon (b ∷ []) p) (stray p))))

-- what is left past that token
abbrev pub beyond : Text → Text
beyond [] = []
beyond (b ∷ bs) = cond (is_word_byte b) (past is_word_byte (b ∷ bs)) bs

-- the next token where bs is left of a text of n bytes; and what is left after it
abbrev pub lexeme : ℕ → Text → Lexeme
lexeme n bs = token_at (n - length (past is_blank bs)) (past is_blank bs)

abbrev pub left : Text → Text
left bs = beyond (past is_blank bs)
