-- How refusals come up through a layer, and which layers they name.
use Rattle.std.specs.Prelude.{ℕ, ◌+◌, min, Bool, cond, not, ◌&&◌, List, length, Some, Option, Result, nat_le, nat_lt}
use Rattle.std.specs.Option.{option_map}
use Rattle.std.specs.Result.{result_map_both}
use Rattle.delivery.specs.declared.parcel.Parcel.{Parcel}
use Rattle.delivery.specs.declared.refusal.PutRefusal.{PutRefusal}
use Rattle.delivery.specs.declared.refusal.PutRefusal.TheVariants.{Far, Double, Full}
use Rattle.delivery.specs.declared.refusal.TakeRefusal.{TakeRefusal}
use Rattle.delivery.specs.declared.refusal.TakeRefusal.TheVariants.{Absent, Held}
use Rattle.delivery.specs.Answers.{Ground, far, double, full, absent, held}
use Rattle.delivery.specs.Waiting.{message_limit, waits_in}

-- a layer of the pile below, counted from one layer higher
abbrev pub deeper : ℕ → ℕ
deeper l = min (l + 1) 255

abbrev pub put_deeper : PutRefusal → PutRefusal
put_deeper (Far l) = Far (deeper l)
put_deeper (Double l) = Double (deeper l)
put_deeper (Full l) = Full (deeper l)

abbrev pub take_deeper : TakeRefusal → TakeRefusal
take_deeper (Absent l) = Absent (deeper l)
take_deeper (Held by l) = Held by (deeper l)

-- what the delivery below answers, told one layer higher
abbrev pub told : {T R : Type 0} → (R → R) → Result T R → Result T R
told higher answer = result_map_both (λ x. x) higher answer

-- the layer that the delivery below names, counted from one layer higher
abbrev pub layer_below : (Ground → Option ℕ) → Ground → Option ℕ
layer_below below why = option_map deeper (below why)

-- a bound that is full by its own number names itself; every other refusal comes from below
abbrev pub bound_layer : ℕ → ℕ → (Ground → Option ℕ) → Ground → Option ℕ
bound_layer limit count below far = layer_below below far
bound_layer limit count below double = layer_below below double
bound_layer limit count below full = cond (nat_le limit count) (Some 0) (layer_below below full)
bound_layer limit count below absent = layer_below below absent
bound_layer limit count below held = layer_below below held

-- whether a bound refuses message n as full by its own number
abbrev pub shut_at : ℕ → ℕ → List Parcel → Bool
shut_at limit n w = nat_lt n message_limit && (not (waits_in n w) && nat_le limit (length w))
