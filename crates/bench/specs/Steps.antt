-- The steps of a firing: what the record says against an event, and what the delivery then answers.
use Rattle.std.specs.Prelude.{◌≡◌, ℕ, ◌<◌, ◌≤◌, Bool, List, [], ◌∷◌, ◌++◌, length, Some, None, Ok, Err, Option, Result}
use Rattle.chart.specs.Content.{Happening}
use Rattle.chart.specs.declared.numbers.EventId.{EventId}
use Rattle.chart.specs.declared.numbers.MessageId.{MessageId}
use Rattle.chart.specs.declared.pieces.Side.{Side}
use Rattle.chart.specs.declared.pieces.Side.TheVariants.{Out, In}
use Rattle.delivery.specs.Answers.{Ground, full, held, Welcome, Named}
use Rattle.delivery.specs.Waiting.{parcel_of, ahead_of, without, first_holder}
use Rattle.delivery.specs.declared.meaning.Delivery.{Ghosts}
use Rattle.delivery.specs.declared.parcel.Parcel.{Parcel}
use Rattle.delivery.specs.declared.parcel.Tag.{Tag}
use Rattle.bench.specs.declared.layout.Placed.{Placed}
use Rattle.bench.specs.declared.refusal.Obstacle.{Obstacle}
use Rattle.bench.specs.declared.refusal.Obstacle.TheVariants.{Full, Held}
use Rattle.bench.specs.Firings.{Stops}
use Rattle.bench.specs.Refusals.{obstacle_number}
use Rattle.bench.specs.States.{Stage, State}

-- of the obstacles in an event's way, the one with the smallest number
abbrev pub LeastObstacle : Stage → State → EventId → Happening → Obstacle → Type 0
LeastObstacle g s e h o = Stops g s e h o × ((q : Obstacle) → obstacle_number q < obstacle_number o → Stops g s e h q → ⊥)

-- what the record says against an event: the obstacles below 23 are all of those that it can tell
abbrev pub Against : Stage → State → EventId → Happening → Result (Unit {0}) Obstacle → Type 0
Against g s e h (Ok u) = (q : Obstacle) → obstacle_number q < 23 → Stops g s e h q → ⊥
Against g s e h (Err o) = LeastObstacle g s e h o

module _ (rule : Tag → Tag → Bool) (room : ℕ) (layer : Ground → Option ℕ) (w : List Parcel) where
  -- a parcel is put: refused as full, if the delivery can carry it at all
  abbrev pub SentOff : Parcel → Result (Unit {0}) Obstacle → List Parcel → Type 0
  SentOff p (Ok u) w' = (length w < room) × (w' ≡ w ++ p ∷ [])
  SentOff p (Err o) w' = (w' ≡ w) × (Welcome p.message.0 w → (l : ℕ) × (o ≡ Full l) × (room ≤ length w) × Named (layer full) l)

  -- the parcel of message n is taken: refused as held, if it waits at all
  abbrev pub TakenIn : ℕ → Result (Unit {0}) Obstacle → List Parcel → Type 0
  TakenIn n (Ok u) w' = (p : Parcel) × (parcel_of n w ≡ Some p) × (first_holder rule p.tag (ahead_of n w) ≡ None) × (w' ≡ without n w)
  TakenIn n (Err o) w' =
      (w' ≡ w)
      × ((p : Parcel) → parcel_of n w ≡ Some p → (m : MessageId) × (l : ℕ) × (o ≡ Held m l) × (first_holder rule p.tag (ahead_of n w) ≡ Some m) × Named (layer held) l)

  -- the message of an event is handed over on its side
  abbrev pub HandedOn : Side → MessageId → Tag → Result (Unit {0}) Obstacle → List Parcel → Type 0
  HandedOn Out m t r w' = SentOff (record { message = m; tag = t }) r w'
  HandedOn In m t r w' = TakenIn m.0 r w'

  abbrev pub Handed : Placed → Result (Unit {0}) Obstacle → List Parcel → Type 0
  Handed p r w' = HandedOn p.line.side p.line.message p.tag r w'

module _ {D : Type 0} (G : Ghosts D) where
  -- a delivery goes on meaning what it meant, but for what waits in it
  pub record Serves (a b : D) : Type 0 where
    pub rule : G.rule b ≡ G.rule a
    pub room : G.room b ≡ G.room a
    pub layer : G.layer b ≡ G.layer a
    pub starts : G.started a → G.started b

  -- the steps above on a delivery, from what waits in it
  abbrev pub SendsOff : D → Parcel → Result (Unit {0}) Obstacle → D → Type 0
  SendsOff a p r b = G.started a → SentOff (G.rule a) (G.room a) (G.layer a (length (G.waiting a))) (G.waiting a) p r (G.waiting b)

  abbrev pub TakesIn : D → ℕ → Result (Unit {0}) Obstacle → D → Type 0
  TakesIn a n r b = G.started a → TakenIn (G.rule a) (G.room a) (G.layer a (length (G.waiting a))) (G.waiting a) n r (G.waiting b)

  abbrev pub HandsOver : D → Placed → Result (Unit {0}) Obstacle → D → Type 0
  HandsOver a p r b = G.started a → Handed (G.rule a) (G.room a) (G.layer a (length (G.waiting a))) (G.waiting a) p r (G.waiting b)
