-- What is told of two events that are to come the other way round.
use Rattle.std.specs.Prelude.{◌≡◌, ℕ, ◌<◌, Ok, Err, Result}
use Rattle.chart.specs.Content.{sent, message_of, Content}
use Rattle.matrix.specs.Places.{place_of}
use Rattle.matrix.specs.Models.{has}
use Rattle.order.specs.Order.{Scene}
use Rattle.order.specs.Pass.{rows, enforces}
use Rattle.order.specs.Reversible.{Reversible}
use Rattle.order.specs.Scenes.{event_at, PairAt}
use Rattle.analysis.specs.declared.outlook.Outlook.{Outlook}
use Rattle.analysis.specs.declared.refusals.JudgeRefusal.{JudgeRefusal}
use Rattle.analysis.specs.declared.refusals.JudgeRefusal.TheVariants.{NotPair, Fixed}

-- of the messages of the scene, the sets have the out events before that of n, those after that of m, and those of the messages that m holds
pub record Outlooks (s : Scene) (m n : ℕ) (o : Outlook) : Type 0 where
  pub first : o.first.0 ≡ m
  pub second : o.second.0 ≡ n
  pub before : (h : ℕ) → h < s.messages → has o.before (place_of (sent h)) ≡ enforces (rows s s.messages) (sent h) (sent n)
  pub after : (h : ℕ) → h < s.messages → has o.after (place_of (sent h)) ≡ enforces (rows s s.messages) (sent m) (sent h)
  pub held : (h : ℕ) → h < s.messages → has o.held (place_of (sent h)) ≡ s.holds m h

-- the outlook on the events number a and b, or why there is none, whatever these numbers are
abbrev pub Judges : Content → Scene → ℕ → ℕ → Result Outlook JudgeRefusal → Type 0
Judges c s a b (Err NotPair) = ¬ PairAt c a b
Judges c s a b (Err Fixed) = PairAt c a b × (¬ Reversible s (event_at c a) (event_at c b))
Judges c s a b (Ok o) =
    PairAt c a b × Reversible s (event_at c a) (event_at c b) × Outlooks s (message_of (event_at c a)) (message_of (event_at c b)) o
