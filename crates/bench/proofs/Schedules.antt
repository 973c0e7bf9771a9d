-- What the bytes of a schedule say, and which record is the first bad one.
use Rattle.std.proofs.Common.{◌≡◌, ℕ, zero, suc, ◌*◌, ◌/◌, ◌%◌, ◌<◌, ◌≤◌, ◌≢◌, Bool, true, false, List, [], ◌∷◌, map, length, get_or, take, Some, None, Option, sym, refl, ap, ◌∙◌, subst, inl, inr, arith}
use Rattle.std.specs.Bool.{then_some}
use Rattle.std.specs.Borrow.{Bor}
use Rattle.std.specs.Option.{option_or}
use Rattle.std.specs.Simd.{first_chunks}
use Rattle.std.proofs.lemmas.List.{get_or-take, length-take-le, take_all}
use Rattle.std.proofs.lemmas.Bool.{both_ways}
use Rattle.chart.specs.Content.{Content}
use Rattle.chart.specs.Repeats.{Apart, FirstRepeat}
use Rattle.bench.specs.Schedules.{entry, entry_of, decoded, Cut, entry_at, same_event, fits, BadAt, FirstBad, Walked, Read}
use Rattle.bench.specs.declared.schedule.Entry.{Entry}

-- the bytes in pairs say what the bytes say
pub decoded_pairs : (n : ℕ) (bs : List ℕ) → length bs ≡ 2 * n → map entry_of (first_chunks 2 n bs) ≡ decoded bs
decoded_pairs zero [] e = refl
decoded_pairs zero (x ∷ bs) e = absurd (omega arith)
decoded_pairs (suc n) [] e = absurd (omega arith)
decoded_pairs (suc n) (x ∷ []) e = absurd (omega arith)
decoded_pairs (suc n) (x ∷ y ∷ bs) e = ap (λ es. entry x y ∷ es) (decoded_pairs n bs (omega arith))

pub cut_of : (bytes : List ℕ) (n : ℕ) (records : Bor (List (List ℕ))) (b : Bool) → records.now ≡ first_chunks 2 (length bytes / 2) bytes → length records.now ≡ length bytes / 2 → (b ≡ true → (length bytes % 2 ≡ 0) × (length records.now ≡ n)) → (b ≡ false → length bytes ≢ 2 * n) → Cut bytes n (then_some b records)
cut_of bytes n records true front many fit other =
    let whole : length bytes % 2 ≡ 0 = (fit refl).0 in
    let count : length records.now ≡ n = (fit refl).1 in
    let long : length bytes ≡ 2 * n = omega arith in
    (long, count, ap (map entry_of) (front ∙ ap (λ k. first_chunks 2 k bytes) (sym many ∙ count)) ∙ decoded_pairs n bytes long)
cut_of bytes n records false front many fit other = other refl

module _ (c : Content) (es : List Entry) where
  -- no record is bad of those that fit and are apart
  not_bad : (m n : ℕ) → ((j : ℕ) → j < m → fits c (entry_at es j) ≡ true) → Apart same_event (take m es) n → (j : ℕ) → j < m → j < n → BadAt c es j → ⊥
  not_bad m n fit apart j jm jn (inl k) = both_ways (fits c (entry_at es j)) k (fit j jm)
  not_bad m n fit apart j jm jn (inr (i, l, k)) =
      let il : i < m = omega arith in
      let a = get_or-take m es i (entry 0 0) il in
      let b = get_or-take m es j (entry 0 0) jm in
      let off : same_event (get_or (take m es) i (entry 0 0)) (get_or (take m es) j (entry 0 0)) ≡ false = apart j jn i l (entry 0 0) in
      both_ways (same_event (entry_at es i) (entry_at es j)) (sym (ap (λ (x : Entry). same_event x (get_or (take m es) j (entry 0 0))) a ∙ ap (λ (x : Entry). same_event (entry_at es i) x) b) ∙ off) (k (entry 0 0))

  bad_repeat : (m k : ℕ) → m ≤ length es → ((j : ℕ) → j < m → fits c (entry_at es j) ≡ true) → FirstRepeat same_event (take m es) (Some k) → FirstBad c es k
  bad_repeat m k low fit (l, (i, il, same), apart) =
      let n = length-take-le m es low in
      let km : k < m = omega arith in
      let im : i < m = omega arith in (
        omega arith,
        inr (i, il, λ d. sym (ap (λ (x : Entry). same_event x (get_or (take m es) k d)) (get_or-take m es i d im) ∙ ap (λ (x : Entry). same_event (get_or es i d) x) (get_or-take m es k d km)) ∙ same d),
        λ j jk. not_bad m k fit apart j (omega arith) jk,
      )

  read_repeat : (u : Option ℕ) (taken : List Entry) (k : ℕ) → Walked c es u taken → FirstRepeat same_event taken (Some k) → FirstBad c es k
  read_repeat None taken k (all, fit) r = bad_repeat (length es) k (omega arith) fit (subst (λ q. FirstRepeat same_event q (Some k)) (all ∙ sym (take_all (length es) es (omega arith))) r)
  read_repeat (Some n) taken k (l, part, misfit, fit) r = bad_repeat n k (omega arith) fit (subst (λ q. FirstRepeat same_event q (Some k)) part r)

  read_clean : (u : Option ℕ) (taken : List Entry) → Walked c es u taken → FirstRepeat same_event taken None → Read c es u taken
  read_clean None taken (all, fit) r =
      (all, λ k l. not_bad (length es) (length es) fit (apart all r) k l l)
    where
      apart : taken ≡ es → Apart same_event taken (length taken) → Apart same_event (take (length es) es) (length es)
      apart all r = subst (λ q. Apart same_event q (length es)) (sym (take_all (length es) es (omega arith))) (subst (λ q. Apart same_event q (length q)) all r)
  read_clean (Some n) taken (l, part, misfit, fit) r =
      (l, inl misfit, λ j jn. not_bad n n fit (apart part r) j jn jn)
    where
      apart : taken ≡ take n es → Apart same_event taken (length taken) → Apart same_event (take n es) n
      apart part r k kn = let size = length-take-le n es (omega arith) in subst (λ q. Apart same_event q (length q)) part r k (omega arith)

  -- a repeat among the records that were copied comes before the one that was not
  pub read_first : (u f : Option ℕ) (taken : List Entry) → Walked c es u taken → FirstRepeat same_event taken f → Read c es (option_or f u) taken
  read_first u None taken walked r = read_clean u taken walked r
  read_first u (Some k) taken walked r = read_repeat u taken k walked r
