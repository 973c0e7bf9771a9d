-- What a bound answers, from what the delivery below answers.
use Rattle.std.proofs.Common.{◌≡◌, ℕ, ◌<◌, ◌≤◌, min, Bool, false, List, length, Some, None, Ok, Err, Option, Result, sym, ap, arith}
use Rattle.std.proofs.lemmas.List.{length_push}
use Rattle.std.proofs.lemmas.Bool.{lt-ltb, lt-leb, leb-false}
use Rattle.std.specs.Option.{option_map}
use Rattle.delivery.specs.declared.parcel.Parcel.{Parcel}
use Rattle.delivery.specs.declared.parcel.Tag.{Tag}
use Rattle.delivery.specs.declared.refusal.Accepted.{Accepted}
use Rattle.delivery.specs.declared.refusal.PutRefusal.{PutRefusal}
use Rattle.delivery.specs.declared.refusal.PutRefusal.TheVariants.{Far, Double, Full}
use Rattle.delivery.specs.declared.refusal.TakeRefusal.{TakeRefusal}
use Rattle.delivery.specs.declared.refusal.TakeRefusal.TheVariants.{Absent, Held}
use Rattle.delivery.specs.Answers.{Ground, far, double, full, absent, held, Welcome, Put, Take, Named, PutNames, TakeNames}
use Rattle.delivery.specs.Waiting.{message_limit}
use Rattle.delivery.proofs.Distinct.{length_without}
use Rattle.layers.specs.Layers.{deeper, put_deeper, take_deeper, told, bound_layer, shut_at}

pub told_ok : {T R : Type 0} (higher : R → R) (r : Result T R) (x : T) → Ok x ≡ told higher r → r ≡ Ok x
told_ok higher (Ok y) x e = sym e
told_ok higher (Err f) x e = cc

pub named_deeper : (o : Option ℕ) (l : ℕ) → Named o l → Named (option_map deeper o) (deeper l)
named_deeper None l n = tt
named_deeper (Some k) l n = ap deeper n

-- a put that the bound lets through
module _ (limit room : ℕ) (w : List Parcel) (p : Parcel) (unshut : shut_at limit p.message.0 w ≡ false) where
  spare : Welcome p.message.0 w → length w < limit
  spare ok =
      let inner = rw (lt-ltb p.message.0 message_limit ok.0, ok.1) at unshut in
      leb-false limit (length w) inner

  pub bound_put : (r : Result Accepted PutRefusal) (w' : List Parcel) → Put room w p r w' → Put (min limit room) w p (told put_deeper r) w'
  bound_put (Ok a) w' h = let lt = spare h.0 in (h.0, omega (arith, h.1), h.2)
  bound_put (Err (Far l)) w' h = h
  bound_put (Err (Double l)) w' h = h
  bound_put (Err (Full l)) w' h = ((h.0.0, omega (arith, h.0.1)), h.1)

  pub bound_length : (r : Result Accepted PutRefusal) (w' : List Parcel) → length w ≤ limit → Put room w p r w' → length w' ≤ limit
  bound_length (Ok a) w' le h = let lt = spare h.0 in omega (arith, ap length h.2, length_push w p)
  bound_length (Err e) w' le h = omega (arith, ap length h.1)

  pub bound_named : (below : Ground → Option ℕ) (r : Result Accepted PutRefusal) (w' : List Parcel) → Put room w p r w' → PutNames below r → PutNames (bound_layer limit (length w) below) (told put_deeper r)
  bound_named below (Ok a) w' h n = tt
  bound_named below (Err (Far l)) w' h n = named_deeper (below far) l n
  bound_named below (Err (Double l)) w' h n = named_deeper (below double) l n
  bound_named below (Err (Full l)) w' h n = rw (lt-leb limit (length w) (spare h.0.0)) (named_deeper (below full) l n)

module _ (rule : Tag → Tag → Bool) (w : List Parcel) (n : ℕ) where
  pub taken_within : (r : Result Parcel TakeRefusal) (w' : List Parcel) → Take rule w n r w' → length w' ≤ length w
  taken_within (Ok p) w' h = omega (arith, ap length h.2, length_without n w)
  taken_within (Err e) w' h = omega (arith, ap length h.1)

  pub bound_take : (r : Result Parcel TakeRefusal) (w' : List Parcel) → Take rule w n r w' → Take rule w n (told take_deeper r) w'
  bound_take (Ok p) w' h = h
  bound_take (Err (Absent l)) w' h = h
  bound_take (Err (Held by l)) w' h = h

pub bound_take_named : (limit count : ℕ) (below : Ground → Option ℕ) (r : Result Parcel TakeRefusal) → TakeNames below r → TakeNames (bound_layer limit count below) (told take_deeper r)
bound_take_named limit count below (Ok p) n = tt
bound_take_named limit count below (Err (Absent l)) n = named_deeper (below absent) l n
bound_take_named limit count below (Err (Held by l)) n = named_deeper (below held) l n

pub ruleset bound_puts = (bound_put, bound_length, bound_named)

pub ruleset bound_takes = (taken_within, bound_take, bound_take_named)
