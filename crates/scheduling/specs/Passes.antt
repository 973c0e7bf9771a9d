-- What each stage of a schedule sends and receives, told by the outlook on the two messages.
use Rattle.std.specs.Prelude.{ℕ, Bool, false, cond, not, ◌&&◌, ◌||◌, List, [], ◌∷◌, ◌++◌, ◌==◌, nat_lt}
use Rattle.chart.specs.Content.{Happening, sent, received}
use Rattle.matrix.specs.Places.{place_of, message_limit}
use Rattle.matrix.specs.Models.{has}
use Rattle.matrix.specs.declared.sets.EventSet.{EventSet}
use Rattle.schedules.specs.Plan.{pass}
use Rattle.analysis.specs.declared.outlook.Outlook.{Outlook}
use Rattle.scheduling.specs.declared.passes.Stage.{Stage}
use Rattle.scheduling.specs.declared.passes.Stage.TheVariants.{Early, Late, Kept, Other}

-- whether the set has the out event of message h
abbrev pub has_out : EventSet → ℕ → Bool
has_out x h = nat_lt h message_limit && has x (place_of (sent h))

module _ (o : Outlook) where
  abbrev pub leads_in : ℕ → Bool
  leads_in h = h == o.second.0 || has_out o.before h

  abbrev pub follows_in : ℕ → Bool
  follows_in h = has_out o.before o.first.0 && (h == o.first.0 || has_out o.after h)

  abbrev pub stuck_in : ℕ → Bool
  stuck_in h = h == o.first.0 || has_out o.held h

  abbrev pub sends : Stage → ℕ → Bool
  sends Early h = leads_in h && not (follows_in h)
  sends Late h = leads_in h && follows_in h
  sends Kept h = false
  sends Other h = not (leads_in h)

  abbrev pub receives : Stage → ℕ → Bool
  receives Early h = sends Early h
  receives Late h = sends Late h && not (stuck_in h)
  receives Kept h = sends Late h && stuck_in h
  receives Other h = sends Other h

  -- what a stage does with message h
  abbrev pub turn_of : Stage → ℕ → List Happening
  turn_of t h = cond (sends t h) (sent h ∷ []) [] ++ cond (receives t h) (received h ∷ []) []

  -- the four stages over the first k messages
  abbrev pub listed : ℕ → List Happening
  listed k =
      pass (sends Early) (receives Early) k
      ++ (pass (sends Late) (receives Late) k
      ++ (pass (sends Kept) (receives Kept) k
      ++ pass (sends Other) (receives Other) k))
