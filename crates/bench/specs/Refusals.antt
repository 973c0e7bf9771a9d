-- The number of each refusal, and the refusals of a delivery as obstacles.
use Rattle.std.specs.Prelude.{ℕ}
use Rattle.delivery.specs.declared.refusal.PutRefusal.{PutRefusal}
use Rattle.delivery.specs.declared.refusal.PutRefusal.TheVariants as put
use Rattle.delivery.specs.declared.refusal.TakeRefusal.{TakeRefusal}
use Rattle.delivery.specs.declared.refusal.TakeRefusal.TheVariants as take
use Rattle.bench.specs.declared.refusal.Obstacle.{Obstacle}
use Rattle.bench.specs.declared.refusal.Obstacle.TheVariants.{InRecord, AboveMissing, OutMissing, Full, Held}
use Rattle.bench.specs.declared.refusal.Refusal.{Refusal}
use Rattle.bench.specs.declared.refusal.Refusal.TheVariants.{PlayOpen, NotInChart, Unfired, RecordNotEmpty, BadSchedule, NoPlay, NoEventLeft}

abbrev pub obstacle_number : Obstacle → ℕ
obstacle_number InRecord = 20
obstacle_number (AboveMissing x) = 21
obstacle_number OutMissing = 22
obstacle_number (Full l) = 23
obstacle_number (Held m l) = 24

abbrev pub refusal_number : Refusal → ℕ
refusal_number PlayOpen = 18
refusal_number (NotInChart e) = 19
refusal_number (Unfired f o) = obstacle_number o
refusal_number RecordNotEmpty = 25
refusal_number (BadSchedule k) = 26
refusal_number NoPlay = 27
refusal_number NoEventLeft = 28

-- a refused put and a refused take, as what stands in the way of an event
abbrev pub obstacle_of_put : PutRefusal → Obstacle
obstacle_of_put (put.Far l) = Full l
obstacle_of_put (put.Double l) = Full l
obstacle_of_put (put.Full l) = Full l

abbrev pub obstacle_of_take : TakeRefusal → Obstacle
obstacle_of_take (take.Absent l) = OutMissing
obstacle_of_take (take.Held m l) = Held m l
