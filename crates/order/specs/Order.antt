-- The enforced order of a chart over a delivery.
use Rattle.std.specs.Prelude.{ℕ, ◌<◌, Bool, T}
use Rattle.chart.specs.Content.{Happening, sent, received, message_of}

-- what the order depends on, free of names, tags and numbers of lines:
-- local e n says that e stands at the sender of message n, above its out event; holds m n that m's tag holds n's
pub record Scene : Type 0 where
  pub messages : ℕ
  pub local : Happening → ℕ → Bool
  pub holds : ℕ → ℕ → Bool
  pub capacity : ℕ

-- above an out event stand only events of messages with smaller numbers, and its own message is one of the scene's;
-- the hold rule is transitive; at least one message may wait
pub record Laws (s : Scene) : Type 0 where
  pub low : (e : Happening) (n : ℕ) → T (s.local e n) → message_of e < n
  pub inside : (e : Happening) (n : ℕ) → T (s.local e n) → n < s.messages
  pub passes : (l m n : ℕ) → T (s.holds l m) → T (s.holds m n) → T (s.holds l n)
  pub room : 0 < s.capacity

-- the least transitive relation with three rules: an event comes before each later out event of its instance,
-- an out event before its in event, and, where one out event comes before another whose message its own holds, so do the in events
pub data Enforced (s : Scene) : Happening → Happening → Type 0 where
  drawn : {e : Happening} {n : ℕ} → T (s.local e n) → Enforced s e (sent n)
  own : {m : ℕ} → m < s.messages → Enforced s (sent m) (received m)
  held : {m n : ℕ} → Enforced s (sent m) (sent n) → T (s.holds m n) → Enforced s (received m) (received n)
  chain : {e f g : Happening} → Enforced s e f → Enforced s f g → Enforced s e g
