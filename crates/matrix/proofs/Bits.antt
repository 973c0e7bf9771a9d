-- Bits, membership and counting.
use Rattle.std.proofs.Common.{◌≡◌, ℕ, zero, suc, ◌+◌, ◌*◌, ◌/◌, ◌%◌, ◌^◌, ◌<◌, ◌≤◌, Bool, true, false, cond, ◌&&◌, ◌||◌, eqb, List, [], ◌∷◌, length, get_or, set, replicate, map, sum, sym, refl, ap, ◌∙◌, ap₂, inl, inr, w64, add-zero, add_assoc, add-suc, pow-suc, one-add, arith, get_or-set_other, get_or-set_same}
use Rattle.std.specs.List.{zip}
use Rattle.std.proofs.Math.Bool.{or-false, or-true}
use lib.Bits.{bit_and, bit_or, and_mask, and_le_l}
use lib.Count.{ones, ones_step}
use Rattle.std.proofs.lemmas.List.{get_or_past, get_or-replicate, length-replicate}
use Rattle.std.proofs.lemmas.List.Sums.{sum_by-cons}
use Rattle.std.proofs.lemmas.Nat.Bits.{bit_at_and, bit_at_or, bit_at-suc, bit_at-zero, bit_at_set_same, bit_at_set_other}
use Rattle.std.proofs.lemmas.Bool.Decides.{nat_tests}
use Rattle.std.proofs.lemmas.Bool.{eq-eqb, ne_eqb, cases_eq, cases_lt}
use Rattle.matrix.specs.Sets.{bit, member, count_below}

pub bit_and_lem : (a b k : ℕ) → bit (bit_and a b) k ≡ (bit a k && bit b k)
unfolding bit
bit_and_lem a b k = rw bit_at_and (grind (arith, nat_tests))

pub bit_or_lem : (a b k : ℕ) → bit (bit_or a b) k ≡ (bit a k || bit b k)
unfolding bit
bit_or_lem a b k = rw bit_at_or (grind (arith, nat_tests))

-- counts
pub count_add : (p : ℕ → Bool) (m n : ℕ) → count_below p (m + n) ≡ count_below p m + count_below (λ j. p (m + j)) n
unfolding count_below
count_add p m zero = simp add-zero
count_add p m (suc n) = rw add-suc (rw (count_add p m n) (add_assoc _ _ _))

pub count_same : (p q : ℕ → Bool) (n : ℕ) → ((k : ℕ) → k < n → p k ≡ q k) → count_below p n ≡ count_below q n
unfolding count_below
count_same p q zero h = refl
count_same p q (suc n) h = ap₂ (λ x b. x + cond b 1 0) (count_same p q n (λ k l. h k (omega arith))) (h n (omega arith))

pub count_le : (p : ℕ → Bool) (n : ℕ) → count_below p n ≤ n
unfolding count_below
count_le p zero = omega arith
count_le p (suc n) = elim (p n) as (λ b. count_below p n + cond b 1 0 ≤ suc n) [ true ↦ omega (arith, count_le p n) | false ↦ omega (arith, count_le p n) ]

bit_zero : (n : ℕ) → cond (bit n 0) 1 0 ≡ n % 2
unfolding bit
bit_zero n = grind (arith, nat_tests)

bit_suc : (n k : ℕ) → bit n (1 + k) ≡ bit (n / 2) k
unfolding bit
bit_suc n k = rw one-add (ap (λ x. eqb x 1) (bit_at-suc n k))

pub ones_count : (k n : ℕ) → n < 2 ^ k → ones n ≡ count_below (bit n) k
unfolding count_below ones
ones_count zero n h = let z : n ≡ 0 = omega arith in rw z
ones_count (suc k) n h =
    let q : n / 2 < 2 ^ k = omega (arith, pow-suc 2 k) in
    let s : count_below (bit n) (1 + k) ≡ (0 + cond (bit n 0) 1 0) + count_below (λ j. bit n (1 + j)) k = count_add (bit n) 1 k in
    let t : count_below (λ j. bit n (1 + j)) k ≡ count_below (bit (n / 2)) k = count_same (λ j. bit n (1 + j)) (bit (n / 2)) k (λ j _. bit_suc n j) in
    let u : count_below (bit n) (1 + k) ≡ count_below (bit n) (suc k) = ap (count_below (bit n)) (one-add k) in
    omega (arith, ones_step n, s, t, u, bit_zero n, ones_count k (n / 2) q)

pub member_read : (ws : List ℕ) (e : ℕ) → eqb (bit_and (get_or ws (e / 64) 0 / 2 ^ (e % 64)) 1) 1 ≡ member ws e
unfolding member
member_read ws e = ap (λ (x : ℕ). eqb x 1) (and_mask (get_or ws (e / 64) 0 / 2 ^ (e % 64)) 1)

pub member_insert : (ws : List ℕ) (e x : ℕ) → e / 64 < length ws → member (set ws (e / 64) (bit_or (get_or ws (e / 64) 0) ((1 * 2 ^ (e % 64)) % 2 ^ 64))) x ≡ (member ws x || eqb x e)
unfolding member bit
member_insert ws e x h =
    let m : e % 64 < 64 = omega arith in
    let n : ℕ = get_or ws (e / 64) 0 in
    let w : ℕ = bit_or n ((1 * 2 ^ (e % 64)) % 2 ^ 64) in
    let at : (u : ℕ) → u ≡ e / 64 → get_or (set ws (e / 64) w) u 0 ≡ w = λ u q. rw q (get_or-set_same ws (e / 64) w 0 h) in
    elim (cases_eq x e) [
      | inl q ↦
          rw q (ap (λ (v : ℕ). eqb (v / 2 ^ (e % 64) % 2) 1) (at (e / 64) refl) ∙ ap (λ (b : ℕ). eqb b 1) (bit_at_set_same w64 n (e % 64) m)
          ∙ sym (ap (λ b. member ws e || b) (eq-eqb e e refl) ∙ or-true (member ws e)))
      | inr f ↦ elim (cases_eq (x / 64) (e / 64)) [
        | inl q ↦
            ap (λ (v : ℕ). eqb (v / 2 ^ (x % 64) % 2) 1) (at (x / 64) q) ∙ ap (λ (b : ℕ). eqb b 1) (bit_at_set_other w64 n (e % 64) m (x % 64) (λ z. f (omega arith)))
            ∙ ap (λ (u : ℕ). eqb (get_or ws u 0 / 2 ^ (x % 64) % 2) 1) (sym q) ∙ sym (ap (λ b. member ws x || b) (ne_eqb x e f) ∙ or-false (member ws x))
        | inr g ↦
            ap (λ (v : ℕ). eqb (v / 2 ^ (x % 64) % 2) 1) (get_or-set_other ws (e / 64) (x / 64) w 0 g) ∙ sym (ap (λ b. member ws x || b) (ne_eqb x e f) ∙ or-false (member ws x))
      ]
    ]

-- a union, word by word, of any number of words
pub member_or : (ws us vs : List ℕ) (n : ℕ) → length ws ≡ n → length us ≡ n → length vs ≡ n
    → ((k : ℕ) → k < n → get_or ws k 0 ≡ bit_or (get_or us k 0) (get_or vs k 0)) → (x : ℕ) → member ws x ≡ (member us x || member vs x)
unfolding member
member_or ws us vs n lw lu lv h x =
    let k : ℕ = x / 64 in
    let word : get_or ws k 0 ≡ bit_or (get_or us k 0) (get_or vs k 0) = elim (cases_lt k n) [
      | inl l ↦ h k l
      | inr l ↦
          let a : get_or us k 0 ≡ 0 = get_or_past us k 0 (omega arith) in
          let b : get_or vs k 0 ≡ 0 = get_or_past vs k 0 (omega arith) in
          rw (a, b) (get_or_past ws k 0 (omega arith))
    ] in
    ap (λ (w : ℕ). bit w (x % 64)) word ∙ bit_or_lem (get_or us k 0) (get_or vs k 0) (x % 64)

-- the first word has the places below 64, and the rest of the words those from 64 on
member_front : (w : ℕ) (ws : List ℕ) (j : ℕ) → j < 64 → member (w ∷ ws) j ≡ bit w j
unfolding member
member_front w ws j l =
    let d : j / 64 ≡ 0 = omega arith in
    let m : j % 64 ≡ j = omega arith in
    rw (d, m)

member_rest : (w : ℕ) (ws : List ℕ) (j : ℕ) → member (w ∷ ws) (64 + j) ≡ member ws j
unfolding member
member_rest w ws j =
    let d : (64 + j) / 64 ≡ suc (j / 64) = omega arith in
    let m : (64 + j) % 64 ≡ j % 64 = omega arith in
    rw (d, m)

-- the places that are in all three sets
abbrev pub meet : List ℕ → List ℕ → List ℕ → ℕ → Bool
meet us vs ts x = member us x && (member vs x && member ts x)

-- how many bits three words share
abbrev pub shared : (ℕ × ℕ) × ℕ → ℕ
shared w = ones (bit_and w.0.0 (bit_and w.0.1 w.1))

shared_count : (u v t : ℕ) → u < 2 ^ 64 → shared ((u, v), t) ≡ count_below (λ j. bit u j && (bit v j && bit t j)) 64
shared_count u v t h =
    ones_count 64 (bit_and u (bit_and v t)) (omega (arith, and_le_l u (bit_and v t)))
    ∙ count_same (bit (bit_and u (bit_and v t))) _ 64 (λ j _. bit_and_lem u (bit_and v t) j ∙ ap (λ b. bit u j && b) (bit_and_lem v t j))

-- a meet, word by word, of any number of words
meet_sum : (us vs ts : List ℕ) → length vs ≡ length us → length ts ≡ length us → ((k : ℕ) → get_or us k 0 < 2 ^ 64)
    → sum (map shared (zip (zip us vs) ts)) ≡ count_below (meet us vs ts) (length us * 64)
meet_sum [] vs ts lv lt h = unfold count_below in refl
meet_sum (u ∷ us) [] ts lv lt h = absurd (omega arith)
meet_sum (u ∷ us) (v ∷ vs) [] lv lt h = absurd (omega arith)
meet_sum (u ∷ us) (v ∷ vs) (t ∷ ts) lv lt h =
    let p : ℕ → Bool = meet (u ∷ us) (v ∷ vs) (t ∷ ts) in
    let front : count_below p 64 ≡ shared ((u, v), t) = count_same p _ 64 (λ j l. simp (member_front u us j l, member_front v vs j l, member_front t ts j l)) ∙ sym (shared_count u v t (h 0)) in
    let rest : count_below (λ j. p (64 + j)) (length us * 64) ≡ count_below (meet us vs ts) (length us * 64) = count_same _ _ _ (λ j _. simp member_rest) in
    let whole : count_below p (64 + length us * 64) ≡ count_below p 64 + count_below (λ j. p (64 + j)) (length us * 64) = count_add p 64 (length us * 64) in
    let size : 64 + length us * 64 ≡ length (u ∷ us) * 64 = omega arith in
    let tail : sum (map shared (zip (zip us vs) ts)) ≡ count_below (meet us vs ts) (length us * 64) = meet_sum us vs ts (omega arith) (omega arith) (λ k. h (suc k)) in
    sum_by-cons (λ x. x) (shared ((u, v), t)) (map shared (zip (zip us vs) ts)) ∙ ap₂ (λ (a b : ℕ). a + b) (sym front) (tail ∙ sym rest) ∙ sym whole ∙ ap (count_below p) size

pub meet_words : (n : ℕ) (us vs ts : List ℕ) → length us ≡ n → length vs ≡ n → length ts ≡ n → ((k : ℕ) → get_or us k 0 < 2 ^ 64)
    → sum (map shared (zip (zip us vs) ts)) ≡ count_below (meet us vs ts) (n * 64)
meet_words n us vs ts lu lv lt h = meet_sum us vs ts (lv ∙ sym lu) (lt ∙ sym lu) h ∙ ap (λ (m : ℕ). count_below (meet us vs ts) (m * 64)) lu

-- no word has a bit
pub member_none : (n x : ℕ) → member (replicate n 0) x ≡ false
unfolding member bit
member_none n x =
    let word : get_or {A = ℕ} (replicate n 0) (x / 64) 0 ≡ 0 = elim (cases_lt (x / 64) n) [
      | inl l ↦ get_or-replicate n (x / 64) 0 0 l
      | inr l ↦ get_or_past (replicate n 0) (x / 64) 0 (simp length-replicate l)
    ] in
    rw word (ap (λ (b : ℕ). eqb b 1) (bit_at-zero (x % 64)))
