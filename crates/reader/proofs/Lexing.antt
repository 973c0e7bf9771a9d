-- A token that was read is one that the text spells, and the other way round.
use Rattle.std.proofs.Common.{◌≡◌, ℕ, ◌+◌, ◌-◌, Bool, true, false, cond, ◌||◌, eqb, List, [], ◌∷◌, ◌++◌, length, take, drop, sym, refl, ap, ◌∙◌, subst, inl, inr, one-add, arith}
use Rattle.std.specs.List.{prefix_len}
use Rattle.std.proofs.lemmas.List.{take-append-drop, append-nil}
use Rattle.std.proofs.lemmas.Bool.{cases_Bool, cond-true, cond-false, and_parts, and_from, eqb-true}
use Rattle.std.proofs.lemmas.Bool.Decides.{nat_tests}
use Rattle.chart.specs.Words.{Text, is_word_byte, all_of}
use Rattle.reader.specs.Lexemes.{Lexeme, word, semicolon, comma, colon, finish, stray, is_blank, past, front, token_at, beyond, lexeme, left}
use Rattle.reader.specs.Meaning.{Sign, written, mark, is_mark, is_word, begins, Spells}

module _ (p : ℕ → Bool) where
  front_more : (b : ℕ) (bs : Text) → p b ≡ true → front p (b ∷ bs) ≡ b ∷ front p bs
  front_more b bs e = ap (λ t. take (cond t (1 + prefix_len p bs) 0) (b ∷ bs)) e ∙ ap (λ n. take n (b ∷ bs)) (one-add (prefix_len p bs))

  front_none : (b : ℕ) (bs : Text) → p b ≡ false → front p (b ∷ bs) ≡ []
  front_none b bs e = ap (λ t. take (cond t (1 + prefix_len p bs) 0) (b ∷ bs)) e

  past_more : (b : ℕ) (bs : Text) → p b ≡ true → past p (b ∷ bs) ≡ past p bs
  past_more b bs e = ap (λ t. drop (cond t (1 + prefix_len p bs) 0) (b ∷ bs)) e ∙ ap (λ n. drop n (b ∷ bs)) (one-add (prefix_len p bs))

  past_none : (b : ℕ) (bs : Text) → p b ≡ false → past p (b ∷ bs) ≡ b ∷ bs
  past_none b bs e = ap (λ t. drop (cond t (1 + prefix_len p bs) 0) (b ∷ bs)) e

  all_front : (bs : Text) → all_of p (front p bs) ≡ true
  all_front [] = refl
  all_front (b ∷ bs) =
      elim (cases_Bool (p b)) [
        | inl more ↦ ap (all_of p) (front_more b bs more) ∙ and_from _ _ more (all_front bs)
        | inr none ↦ ap (all_of p) (front_none b bs none)
      ]

  past_stops : (bs : Text) → begins p (past p bs) ≡ false
  past_stops [] = refl
  past_stops (b ∷ bs) =
      elim (cases_Bool (p b)) [
        | inl more ↦ ap (begins p) (past_more b bs more) ∙ past_stops bs
        | inr none ↦ ap (begins p) (past_none b bs none) ∙ none
      ]

  -- a run ends where a byte follows that does not pass
  run_front : (xs ys : Text) → all_of p xs ≡ true → begins p ys ≡ false → front p (xs ++ ys) ≡ xs
  run_front [] [] all stop = refl
  run_front [] (y ∷ ys) all stop = front_none y ys stop
  run_front (x ∷ xs) ys all stop = let a = and_parts (p x) (all_of p xs) all in front_more x (xs ++ ys) a.0 ∙ ap (λ l. x ∷ l) (run_front xs ys a.1 stop)

  run_past : (xs ys : Text) → all_of p xs ≡ true → begins p ys ≡ false → past p (xs ++ ys) ≡ ys
  run_past [] [] all stop = refl
  run_past [] (y ∷ ys) all stop = past_none y ys stop
  run_past (x ∷ xs) ys all stop = let a = and_parts (p x) (all_of p xs) all in past_more x (xs ++ ys) a.0 ∙ run_past xs ys a.1 stop

  joined_again : (bs : Text) → front p bs ++ past p bs ≡ bs
  joined_again bs = take-append-drop (prefix_len p bs) bs

-- no byte is of two classes
word_not_blank : (b : ℕ) → is_word_byte b ≡ true → is_blank b ≡ false
word_not_blank b e = grind (arith, nat_tests)

mark_not_blank : (b : ℕ) → is_mark b ≡ true → is_blank b ≡ false
mark_not_blank b e = grind (arith, nat_tests)

mark_not_word : (b : ℕ) → is_mark b ≡ true → is_word_byte b ≡ false
mark_not_word b e = grind (arith, nat_tests)

-- the lexeme is this token
abbrev pub Shows : Sign → Lexeme → Type 0
Shows (written w) (word t p) = t ≡ w
Shows (written w) (semicolon t p) = ⊥
Shows (written w) (comma t p) = ⊥
Shows (written w) (colon t p) = ⊥
Shows (written w) (finish p) = ⊥
Shows (written w) (stray p) = ⊥
Shows (mark m) (word t p) = ⊥
Shows (mark m) (semicolon t p) = m ≡ 59
Shows (mark m) (comma t p) = m ≡ 44
Shows (mark m) (colon t p) = m ≡ 58
Shows (mark m) (finish p) = ⊥
Shows (mark m) (stray p) = ⊥

-- the token at a byte that is no word byte
abbrev by_mark : ℕ → ℕ → Lexeme
by_mark q b = cond (eqb b 59) (semicolon (b ∷ []) q) (cond (eqb b 44) (comma (b ∷ []) q) (cond (eqb b 58) (colon (b ∷ []) q) (stray q)))

no_word : (q b : ℕ) (w : Text) → Shows (written w) (by_mark q b) → ⊥
no_word q b w = on (eqb b 59) (eqb b 44) (eqb b 58)
  where
    on : (x y z : Bool) → Shows (written w) (cond x (semicolon (b ∷ []) q) (cond y (comma (b ∷ []) q) (cond z (colon (b ∷ []) q) (stray q)))) → ⊥
    on true y z h = h
    on false true z h = h
    on false false true h = h
    on false false false h = h

which_mark : (q b m : ℕ) → Shows (mark m) (by_mark q b) → (b ≡ m) × (is_mark m ≡ true)
which_mark q b m = on (eqb b 59) (eqb b 44) (eqb b 58) refl refl refl
  where
    on : (x y z : Bool) → eqb b 59 ≡ x → eqb b 44 ≡ y → eqb b 58 ≡ z → Shows (mark m) (cond x (semicolon (b ∷ []) q) (cond y (comma (b ∷ []) q) (cond z (colon (b ∷ []) q) (stray q)))) → (b ≡ m) × (is_mark m ≡ true)
    on true y z d e f h = (eqb-true b 59 d ∙ sym h, ap is_mark h)
    on false true z d e f h = (eqb-true b 44 e ∙ sym h, ap is_mark h)
    on false false true d e f h = (eqb-true b 58 f ∙ sym h, ap is_mark h)
    on false false false d e f h = absurd h

-- a word at the front of a text
word_at : (q : ℕ) (v w : Text) → Shows (written w) (token_at q v) → (is_word w ≡ true) × (v ≡ w ++ beyond v) × (begins is_word_byte (beyond v) ≡ false)
word_at q [] w h = absurd h
word_at q (b ∷ r) w h =
    elim (cases_Bool (is_word_byte b)) [
      | inl yes' ↦
          (let s : front is_word_byte (b ∷ r) ≡ w = subst (Shows (written w)) (cond-true (is_word_byte b) (word (front is_word_byte (b ∷ r)) q) (by_mark q b) yes') h in
          let e : beyond (b ∷ r) ≡ past is_word_byte (b ∷ r) = cond-true (is_word_byte b) (past is_word_byte (b ∷ r)) r yes' in (
            ap is_word (sym s ∙ front_more is_word_byte b r yes') ∙ and_from _ _ yes' (all_front is_word_byte r),
            sym (joined_again is_word_byte (b ∷ r)) ∙ ap (λ l. l ++ past is_word_byte (b ∷ r)) s ∙ ap (λ l. w ++ l) (sym e),
            ap (begins is_word_byte) e ∙ past_stops is_word_byte (b ∷ r),
          ))
      | inr no' ↦ absurd (no_word q b w (subst (Shows (written w)) (cond-false (is_word_byte b) (word (front is_word_byte (b ∷ r)) q) (by_mark q b) no') h))
    ]

mark_at : (q m : ℕ) (v : Text) → Shows (mark m) (token_at q v) → (is_mark m ≡ true) × (v ≡ m ∷ beyond v)
mark_at q m [] h = absurd h
mark_at q m (b ∷ r) h =
    elim (cases_Bool (is_word_byte b)) [
      | inl yes' ↦ absurd (subst (Shows (mark m)) (cond-true (is_word_byte b) (word (front is_word_byte (b ∷ r)) q) (by_mark q b) yes') h)
      | inr no' ↦
          (let s = which_mark q b m (subst (Shows (mark m)) (cond-false (is_word_byte b) (word (front is_word_byte (b ∷ r)) q) (by_mark q b) no') h) in
          (s.1, ap (λ x. x ∷ r) s.0 ∙ ap (λ l. m ∷ l) (sym (cond-false (is_word_byte b) (past is_word_byte (b ∷ r)) r no'))))
    ]

-- and the other way round
at_word : (q : ℕ) (w rest : Text) → is_word w ≡ true → begins is_word_byte rest ≡ false → Shows (written w) (token_at q (w ++ rest)) × (beyond (w ++ rest) ≡ rest) × (begins is_blank (w ++ rest) ≡ false)
at_word q [] rest good stop = absurd cc
at_word q (b ∷ w) rest good stop =
    let first = (and_parts (is_word_byte b) (all_of is_word_byte w) good).0 in (
      subst (Shows (written (b ∷ w))) (sym (cond-true (is_word_byte b) (word (front is_word_byte (b ∷ (w ++ rest))) q) (by_mark q b) first)) (run_front is_word_byte (b ∷ w) rest good stop),
      cond-true (is_word_byte b) (past is_word_byte (b ∷ (w ++ rest))) (w ++ rest) first ∙ run_past is_word_byte (b ∷ w) rest good stop,
      word_not_blank b first,
    )

by_mark_lem : (q m : ℕ) → is_mark m ≡ true → Shows (mark m) (by_mark q m)
by_mark_lem q m = on (eqb m 59) (eqb m 44) (eqb m 58) refl refl refl
  where
    on : (x y z : Bool) → eqb m 59 ≡ x → eqb m 44 ≡ y → eqb m 58 ≡ z → (x || (y || z)) ≡ true → Shows (mark m) (cond x (semicolon (m ∷ []) q) (cond y (comma (m ∷ []) q) (cond z (colon (m ∷ []) q) (stray q))))
    on true y z d e f good = eqb-true m 59 d
    on false true z d e f good = eqb-true m 44 e
    on false false true d e f good = eqb-true m 58 f
    on false false false d e f good = absurd cc

at_mark : (q m : ℕ) (rest : Text) → is_mark m ≡ true → Shows (mark m) (token_at q (m ∷ rest)) × (beyond (m ∷ rest) ≡ rest) × (begins is_blank (m ∷ rest) ≡ false)
at_mark q m rest good =
    let other = mark_not_word m good in (
      subst (Shows (mark m)) (sym (cond-false (is_word_byte m) (word (front is_word_byte (m ∷ rest)) q) (by_mark q m) other)) (by_mark_lem q m good),
      cond-false (is_word_byte m) (past is_word_byte (m ∷ rest)) rest other,
      mark_not_blank m good,
    )

abbrev Ended : Lexeme → Type 0
Ended (word t p) = ⊥
Ended (semicolon t p) = ⊥
Ended (comma t p) = ⊥
Ended (colon t p) = ⊥
Ended (finish p) = Unit {0}
Ended (stray p) = ⊥

not_ended : (q b : ℕ) (w : Text) (t x y z : Bool) → Ended (cond t (word w q) (cond x (semicolon (b ∷ []) q) (cond y (comma (b ∷ []) q) (cond z (colon (b ∷ []) q) (stray q))))) → ⊥
not_ended q b w true x y z h = h
not_ended q b w false true y z h = h
not_ended q b w false false true z h = h
not_ended q b w false false false true h = h
not_ended q b w false false false false h = h

nothing_left : (q p : ℕ) (v : Text) → token_at q v ≡ finish p → v ≡ []
nothing_left q p [] e = refl
nothing_left q p (b ∷ r) e = absurd (not_ended q b (front is_word_byte (b ∷ r)) (is_word_byte b) (eqb b 59) (eqb b 44) (eqb b 58) (subst Ended (sym e) tt))

module _ (n : ℕ) (bs : Text) where
  -- a token that was read is spelled
  pub read_spells : (s : Sign) (ts : List Sign) → Shows s (lexeme n bs) → Spells ts (left bs) → Spells (s ∷ ts) bs
  read_spells (written w) ts h rest =
      let a = word_at _ (past is_blank bs) w h in
      (front is_blank bs, left bs, sym (joined_again is_blank bs) ∙ ap (λ l. front is_blank bs ++ l) a.1, all_front is_blank bs, a.0, a.2, rest)
  read_spells (mark m) ts h rest =
      let a = mark_at _ m (past is_blank bs) h in
      (front is_blank bs, left bs, sym (joined_again is_blank bs) ∙ ap (λ l. front is_blank bs ++ l) a.1, all_front is_blank bs, a.0, rest)

  -- a token that is spelled is read
  pub spells_read : (s : Sign) (ts : List Sign) → Spells (s ∷ ts) bs → Shows s (lexeme n bs) × Spells ts (left bs)
  spells_read (written w) ts h =
      let a = at_word (n - length (past is_blank bs)) w h.1 h.4 h.5 in
      let e : past is_blank bs ≡ w ++ h.1 = ap (past is_blank) h.2 ∙ run_past is_blank h.0 (w ++ h.1) h.3 a.2 in
      (subst (λ (v : Text). Shows (written w) (token_at (n - length (past is_blank bs)) v)) (sym e) a.0, subst (Spells ts) (sym (ap beyond e ∙ a.1)) h.6)
  spells_read (mark m) ts h =
      let a = at_mark (n - length (past is_blank bs)) m h.1 h.4 in
      let e : past is_blank bs ≡ m ∷ h.1 = ap (past is_blank) h.2 ∙ run_past is_blank h.0 (m ∷ h.1) h.3 a.2 in
      (subst (λ (v : Text). Shows (mark m) (token_at (n - length (past is_blank bs)) v)) (sym e) a.0, subst (Spells ts) (sym (ap beyond e ∙ a.1)) h.5)

  -- the end of the text
  pub read_end : (p : ℕ) → lexeme n bs ≡ finish p → Spells [] bs
  read_end p h = ap (all_of is_blank) (sym (joined_again is_blank bs) ∙ ap (λ l. front is_blank bs ++ l) (nothing_left _ p (past is_blank bs) h) ∙ append-nil (front is_blank bs)) ∙ all_front is_blank bs

  pub end_read : Spells [] bs → (p : ℕ) × (lexeme n bs ≡ finish p)
  end_read h =
      let e : past is_blank bs ≡ [] = ap (past is_blank) (sym (append-nil bs)) ∙ run_past is_blank bs [] h refl in
      (n - length (past is_blank bs), ap (token_at (n - length (past is_blank bs))) e)
