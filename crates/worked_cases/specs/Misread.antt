-- Ways to misread the order, each with a chart on which it gives another answer than the runs do.
use Rattle.std.specs.Prelude.{◌≡◌, ℕ, ◌<◌, ◌≤◌, T, ◌⊎◌}
use Rattle.chart.specs.Content.{Happening, sent, received, message_of, Content}
use Rattle.order.specs.Order.{Scene, Enforced}
use Rattle.order.specs.Runs.{CanReverse}
use Rattle.order.specs.Reversible.{CrowdFits}
use Rattle.order.specs.Scenes.{instance_of, number_of, scene_of, event_at}
use Rattle.wirings.specs.Rules.{no_hold, same_pair, same_receiver}
use Rattle.worked_cases.specs.Cases.{twin, throng, detour}

-- reversible, by another order or by another test of the crowd
abbrev pub ReversibleBy : (Happening → Happening → Type 0) → (ℕ → ℕ → Type 0) → Happening → Happening → Type 0
ReversibleBy Before Fits a b = (¬ Before a b) × ((¬ Before (sent (message_of a)) (sent (message_of b))) ⊎ Fits (message_of a) (message_of b))

-- rules 1 and 2 alone
pub data Unheld (s : Scene) : Happening → Happening → Type 0 where
  drawn : {e : Happening} {n : ℕ} → T (s.local e n) → Unheld s e (sent n)
  own : {m : ℕ} → m < s.messages → Unheld s (sent m) (received m)
  chain : {e f g : Happening} → Unheld s e f → Unheld s f g → Unheld s e g

-- rule 3 applied only once, after the other two, with nothing drawn from it
pub data HeldOnce (s : Scene) : Happening → Happening → Type 0 where
  unheld : {e f : Happening} → Unheld s e f → HeldOnce s e f
  once : {m n : ℕ} → Unheld s (sent m) (sent n) → T (s.holds m n) → HeldOnce s (received m) (received n)

-- rule 3 applied only once, before the others: only to two out events of one instance, whatever else orders them
pub data HeldInLine (s : Scene) : Happening → Happening → Type 0 where
  drawn : {e : Happening} {n : ℕ} → T (s.local e n) → HeldInLine s e (sent n)
  own : {m : ℕ} → m < s.messages → HeldInLine s (sent m) (received m)
  held : {m n : ℕ} → T (s.local (sent m) n) → T (s.holds m n) → HeldInLine s (received m) (received n)
  chain : {e f g : Happening} → HeldInLine s e f → HeldInLine s f g → HeldInLine s e g

-- rule 1 for in events too: every event waits for those above it at its instance
pub data InLine (c : Content) (s : Scene) : Happening → Happening → Type 0 where
  above : {e f : Happening} → instance_of c e ≡ instance_of c f → number_of c e < number_of c f → InLine c s e f
  own : {m : ℕ} → m < s.messages → InLine c s (sent m) (received m)
  held : {m n : ℕ} → InLine c s (sent m) (sent n) → T (s.holds m n) → InLine c s (received m) (received n)
  chain : {e f g : Happening} → InLine c s e f → InLine c s f g → InLine c s e g

-- the crowd of any two messages taken as two
abbrev pub TwoFit : Scene → ℕ → ℕ → Type 0
TwoFit s m n = 2 ≤ s.capacity

abbrev pub detour_over_paired_line : Scene
detour_over_paired_line = scene_of detour same_pair 64

abbrev pub throng_over_mailbox : Scene
throng_over_mailbox = scene_of throng same_receiver 64

abbrev pub twin_over_bag : Scene
twin_over_bag = scene_of twin no_hold 64

abbrev pub throng_over_bound_two : Scene
throng_over_bound_two = scene_of throng same_pair 2

pub record Misreadings : Type 0 where
  -- with rule 3 applied only once, after the others or before them, a pair would be reported that no run reverses
  pub held_once : ReversibleBy (HeldOnce detour_over_paired_line) (CrowdFits detour_over_paired_line) (event_at detour 6) (event_at detour 7)
  pub never_overtakes : ¬ CanReverse detour_over_paired_line (event_at detour 6) (event_at detour 7)
  pub held_in_line : ReversibleBy (HeldInLine throng_over_mailbox) (CrowdFits throng_over_mailbox) (event_at throng 5) (event_at throng 7)
  pub never_passes : ¬ CanReverse throng_over_mailbox (event_at throng 5) (event_at throng 7)
  -- if an in event waited for those above it, a pair that some run reverses would be left out
  pub in_line : ¬ ReversibleBy (InLine twin twin_over_bag) (CrowdFits twin_over_bag) (event_at twin 2) (event_at twin 3)
  pub overtakes : CanReverse twin_over_bag (event_at twin 2) (event_at twin 3)
  -- with the crowd taken as two, a pair would be reported that no run reverses
  pub crowd_of_two : ReversibleBy (Enforced throng_over_bound_two) (TwoFit throng_over_bound_two) (event_at throng 5) (event_at throng 7)
  pub too_crowded : ¬ CanReverse throng_over_bound_two (event_at throng 5) (event_at throng 7)
