-- Schedules of the charts to work by.
use Rattle.std.specs.Prelude.{◌≡◌, ℕ, Bool, List, [], ◌∷◌, reverse}
use Rattle.chart.specs.Content.{Happening, sent, received, message_of, Content}
use Rattle.delivery.specs.declared.parcel.Tag.{Tag}
use Rattle.delivery.specs.Waiting.{message_limit}
use Rattle.wirings.specs.Rules.{no_hold, same_pair}
use Rattle.order.specs.Runs.{peak}
use Rattle.order.specs.Scenes.{scene_of, event_at}
use Rattle.schedules.specs.Plan.{schedule_of}
use Rattle.worked_cases.specs.Cases.{step, twin, throng}

-- the schedule of the chart's events a and b, and the most that wait at once in it
abbrev pub Goes : Content → (Tag → Tag → Bool) → ℕ → ℕ → List Happening → ℕ → Type 0
Goes c rule a b firings most =
    (schedule_of (scene_of c rule message_limit) (message_of (event_at c a)) (message_of (event_at c b)) ≡ firings) × (peak (reverse firings) ≡ most)

pub record WorkedSchedules : Type 0 where
  -- lvl arrives before read is sent
  pub step_bag : Goes step no_hold 2 5 (sent 0 ∷ received 0 ∷ sent 2 ∷ received 2 ∷ sent 1 ∷ received 1 ∷ sent 3 ∷ received 3 ∷ []) 1
  -- val arrives before lvl is sent
  pub step_answers : Goes step no_hold 5 7 (sent 0 ∷ received 0 ∷ sent 1 ∷ received 1 ∷ sent 3 ∷ received 3 ∷ sent 2 ∷ received 2 ∷ []) 1
  -- m1 overtakes m0
  pub twin_bag : Goes twin no_hold 2 3 (sent 0 ∷ sent 1 ∷ received 1 ∷ received 0 ∷ []) 2
  -- m3 overtakes m0, which holds m1 back too
  pub throng_paired_line : Goes throng same_pair 5 7 (sent 0 ∷ sent 1 ∷ sent 2 ∷ received 2 ∷ sent 3 ∷ received 3 ∷ received 0 ∷ received 1 ∷ []) 3
  -- m3 overtakes m1, once m0 is out of the way
  pub throng_second : Goes throng same_pair 6 7 (sent 0 ∷ received 0 ∷ sent 1 ∷ sent 2 ∷ received 2 ∷ sent 3 ∷ received 3 ∷ received 1 ∷ []) 2
