-- Tokens that were read one after the other.
use Rattle.std.proofs.Common.{◌≡◌, ℕ, suc, ◌+◌, ◌<◌, ◌≤◌, Bool, true, false, cond, List, [], ◌∷◌, ◌++◌, length, drop, sym, refl, ap, subst, arith, length-drop}
use Rattle.std.specs.List.{prefix_len}
use Rattle.chart.specs.Words.{Text, is_word_byte}
use Rattle.reader.specs.Lexemes.{is_blank, past, token_at, beyond, lexeme, left}
use Rattle.reader.specs.Meaning.{Sign, written, mark, Spells}
use Rattle.reader.proofs.Lexing.{Shows, read_spells, spells_read}

-- the tokens ts are read from bs, and r is left
abbrev pub Takes : ℕ → Text → List Sign → Text → Type 0
Takes n bs [] r = bs ≡ r
Takes n bs (s ∷ ts) r = Shows s (lexeme n bs) × Takes n (left bs) ts r

pub takes_spells : (n : ℕ) (bs : Text) (ts us : List Sign) (r : Text) → Takes n bs ts r → Spells us r → Spells (ts ++ us) bs
takes_spells n bs [] us r h rest = subst (Spells us) (sym h) rest
takes_spells n bs (s ∷ ts) us r h rest = read_spells n bs s (ts ++ us) h.0 (takes_spells n (left bs) ts us r h.1 rest)

pub spells_takes : (n : ℕ) (bs : Text) (ts us : List Sign) → Spells (ts ++ us) bs → (r : Text) × Takes n bs ts r × Spells us r
spells_takes n bs [] us h = (bs, refl, h)
spells_takes n bs (s ∷ ts) us h =
    let a = spells_read n bs s (ts ++ us) h in
    let b = spells_takes n (left bs) ts us a.1 in
    (b.0, (a.0, b.1), b.2)

pub takes_then : (n : ℕ) (bs : Text) (ts us : List Sign) (q r : Text) → Takes n bs ts q → Takes n q us r → Takes n bs (ts ++ us) r
takes_then n bs [] us q r h k = subst (λ (b : Text). Takes n b us r) (sym h) k
takes_then n bs (s ∷ ts) us q r h k = (h.0, takes_then n (left bs) ts us q r h.1 k)

-- each token takes a byte
past_le : (p : ℕ → Bool) (bs : Text) → length (past p bs) ≤ length bs
past_le p bs = omega (arith, length-drop (prefix_len p bs) bs)

shorter : (s : Sign) (q : ℕ) (v : Text) → Shows s (token_at q v) → length (beyond v) < length v
shorter (written w) q [] h = absurd h
shorter (mark m) q [] h = absurd h
shorter s q (b ∷ r) h =
    elim (is_word_byte b) as (λ t. length (cond t (drop (cond t (1 + prefix_len is_word_byte r) 0) (b ∷ r)) r) < suc (length r))
    [ true ↦ omega (arith, length-drop (1 + prefix_len is_word_byte r) (b ∷ r)) | false ↦ omega arith ]

pub one_shorter : (n : ℕ) (bs : Text) (s : Sign) → Shows s (lexeme n bs) → length (left bs) < length bs
one_shorter n bs s h = omega (arith, shorter s _ (past is_blank bs) h, past_le is_blank bs)

pub all_shorter : (n : ℕ) (bs : Text) (ts : List Sign) (r : Text) → Takes n bs ts r → length r + length ts ≤ length bs
all_shorter n bs [] r h = omega (arith, ap length h)
all_shorter n bs (s ∷ ts) r h = omega (arith, one_shorter n bs s h.0, all_shorter n (left bs) ts r h.1)
