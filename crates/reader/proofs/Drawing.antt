-- A line that was read fits the draft.
use Rattle.std.proofs.Common.{◌≡◌, ℕ, ◌<◌, length, Ok, sym}
use Rattle.chart.specs.Words.{Text}
use Rattle.chart.specs.Content.{Content}
use Rattle.chart.specs.Drafting.{dispatched, delivered, with_message, with_receipt}
use Rattle.chart.proofs.Judging.{is_sent, is_received_lem}
use Rattle.reader.specs.Reading.{new_message_at, receiver_at, sent_message_at}
use Rattle.reader.proofs.Inversion.{instance_in, receiver_ok, new_message_ok, sent_message_ok}

module _ (c : Content) (s : ℕ) (t : Text) (p : ℕ) (u t₂ : Text) (p₂ r : ℕ) where
  pub sending : s < length c.instances → new_message_at c t p ≡ Ok u → receiver_at c s t₂ p₂ ≡ Ok r → dispatched c u s r ≡ Ok (with_message c u s r)
  sending sender new other =
      let a = new_message_ok c t p u new in
      let b = receiver_ok c s t₂ p₂ r other in
      sym (is_sent c u s r a.1 a.2 sender (instance_in c t₂ p₂ r b.0) b.1)

module _ (c : Content) (r : ℕ) (t : Text) (p m : ℕ) where
  pub receiving : sent_message_at c r t p ≡ Ok m → delivered c m ≡ Ok (with_receipt c m)
  receiving found = let a = sent_message_ok c r t p m found in sym (is_received_lem c m a.0 a.1)
