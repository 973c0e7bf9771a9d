-- Which answer a line gets.
use Rattle.std.proofs.Common.{◌≡◌, ℕ, ◌<◌, Bool, true, false, not, ltb, length, Ok, sym, ap, ◌∙◌, zero-add, arith}
use Rattle.std.proofs.lemmas.Bool.{cond-false, lt-leb, ne_eqb, and_from, lt-ltb}
use Rattle.std.proofs.lemmas.List.Elements.{All-from_get_or}
use Rattle.std.proofs.lemmas.List.FromFn.{length-range_with_len, get_or-range_with_len}
use Rattle.std.proofs.lemmas.List.Sums.{AllPass-from_list_all, list_all-from_AllPass}
use Rattle.std.specs.List.{range_with_len}
use Rattle.chart.specs.Words.{Text}
use Rattle.chart.specs.Content.{Content, Post, joins}
use Rattle.chart.specs.Drafting.{message_called, times_received, dispatched, delivered, with_message, with_receipt, all_below}

module _ (c : Content) (t : Text) (s r : ℕ) (new : message_called c t ≡ false) (few : length c.messages < 64) (sender : s < length c.instances) (receiver : r < length c.instances) where
  pub is_sent : (s ≡ r → ⊥) → Ok (with_message c t s r) ≡ dispatched c t s r
  is_sent apart = sym (cond-false _ _ _ new ∙ cond-false _ _ _ (lt-leb 64 _ few) ∙ cond-false _ _ _ (lt-leb _ s sender) ∙ cond-false _ _ _ (lt-leb _ r receiver) ∙ cond-false _ _ _ (ne_eqb s r apart))

pub joined : (n : ℕ) (p : Post) → p.sender < n → p.receiver < n → (p.sender ≡ p.receiver → ⊥) → joins n p ≡ true
joined n p sender receiver apart = and_from _ _ (lt-ltb _ n sender) (and_from _ _ (lt-ltb _ n receiver) (ap not (ne_eqb _ _ apart)))

pub is_received_lem : (c : Content) (m : ℕ) → m < length c.messages → ltb 0 (times_received c m) ≡ false → Ok (with_receipt c m) ≡ delivered c m
is_received_lem c m known new = sym (cond-false _ _ _ (lt-leb _ m known) ∙ cond-false _ _ _ new)

-- a test of each number below a bound
pub all_below_lem : (p : ℕ → Bool) (n : ℕ) → ((m : ℕ) → m < n → p m ≡ true) → all_below p n ≡ true
all_below_lem p n all =
    list_all-from_AllPass p (range_with_len 0 n)
    (All-from_get_or (λ m. p m ≡ true) (range_with_len 0 n) 0
    (λ m l. let low : m < n = omega (arith, length-range_with_len 0 n) in ap p (get_or-range_with_len 0 n m 0 low ∙ zero-add m) ∙ all m low))

pub each_below : (p : ℕ → Bool) (n m : ℕ) → all_below p n ≡ true → m < n → p m ≡ true
each_below p n m all l =
    ap p (sym (get_or-range_with_len 0 n m 0 l ∙ zero-add m))
    ∙ AllPass-from_list_all p (range_with_len 0 n) all m 0 (omega (arith, length-range_with_len 0 n))
