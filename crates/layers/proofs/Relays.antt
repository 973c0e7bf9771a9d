-- What a relay answers, from what the delivery below answers.
use Rattle.std.proofs.Common.{◌≡◌, ℕ, Bool, List, length, set, Ok, Err, Option, Result, sym, ap, ◌∙◌}
use Rattle.std.specs.Option.{option_map}
use Rattle.std.proofs.lemmas.List.{get_or-set_same}
use Rattle.delivery.specs.declared.parcel.Parcel.{Parcel}
use Rattle.delivery.specs.declared.parcel.Tag.{Tag}
use Rattle.delivery.specs.declared.refusal.Accepted.{Accepted}
use Rattle.delivery.specs.declared.refusal.PutRefusal.{PutRefusal}
use Rattle.delivery.specs.declared.refusal.PutRefusal.TheVariants.{Far, Double, Full}
use Rattle.delivery.specs.declared.refusal.TakeRefusal.{TakeRefusal}
use Rattle.delivery.specs.declared.refusal.TakeRefusal.TheVariants.{Absent, Held}
use Rattle.delivery.specs.Answers.{Ground, far, double, full, absent, held, Put, Take, Named, PutNames, TakeNames}
use Rattle.delivery.specs.Waiting.{message_limit, ahead_of, first_holder}
use Rattle.layers.specs.Layers.{deeper, put_deeper, take_deeper, told, layer_below}
use Rattle.layers.specs.Shown.{given_tag, lifted, take_lifted, as_given, Agree}
use Rattle.layers.proofs.Bounds.{named_deeper, told_ok}
use Rattle.layers.specs.Tags.{length_as_given, waits_as_given}
use Rattle.layers.proofs.Tags.{parcel_as_given, without_as_given, as_given_push, agree_without, agree_push, agree_of, holder_as_given, as_given_noted, agree_noted}

-- the layers named, where w waits below
module _ (below : ℕ → Ground → Option ℕ) (given : List Tag) (w : List Parcel) where
  passed : (ground : Ground) (l : ℕ) → Named (below (length w) ground) l → Named (layer_below (below (length (as_given given w))) ground) (deeper l)
  passed ground l n = rw (length_as_given given w) (named_deeper (below (length w) ground) l n)

  pub put_named : (r : Result Accepted PutRefusal) → PutNames (below (length w)) r → PutNames (layer_below (below (length (as_given given w)))) (told put_deeper r)
  put_named (Ok a) n = tt
  put_named (Err (Far l)) n = passed far l n
  put_named (Err (Double l)) n = passed double l n
  put_named (Err (Full l)) n = passed full l n

  pub take_named : (r : Result Parcel TakeRefusal) → TakeNames (below (length w)) r → TakeNames (layer_below (below (length (as_given given w)))) (take_lifted given (told take_deeper r))
  take_named (Ok p) n = tt
  take_named (Err (Absent l)) n = passed absent l n
  take_named (Err (Held by l)) n = passed held l n

-- a take of message n, where w waits below
module _ (show : Tag → Tag) (given : List Tag) (rule : Tag → Tag → Bool) (w : List Parcel) (agree : Agree show given w) (n : ℕ) where
  holder_above : (p : Parcel) → p.tag ≡ show (given_tag given p) → first_holder (λ x y. rule (show x) (show y)) (given_tag given p) (ahead_of n (as_given given w)) ≡ first_holder rule p.tag (ahead_of n w)
  holder_above p e =
      holder_as_given given show rule (given_tag given p) n w agree ∙ ap (λ t. first_holder rule t (ahead_of n w)) (sym e)

  pub relay_take : (r : Result Parcel TakeRefusal) (w' : List Parcel) → Take rule w n r w' → Take (λ x y. rule (show x) (show y)) (as_given given w) n (take_lifted given (told take_deeper r)) (as_given given w')
  relay_take (Ok p) w' h =
      (parcel_as_given given n w ∙ ap (option_map (lifted given)) h.0, holder_above p (agree_of given show n w p agree h.0) ∙ h.1, ap (as_given given) h.2 ∙ sym (without_as_given given n w))
  relay_take (Err (Absent l)) w' h = (parcel_as_given given n w ∙ ap (option_map (lifted given)) h.0, ap (as_given given) h.1)
  relay_take (Err (Held by l)) w' h =
      let p : Parcel = h.0.0 in
      ((lifted given p, parcel_as_given given n w ∙ ap (option_map (lifted given)) h.0.1, holder_above p (agree_of given show n w p agree h.0.1) ∙ h.0.2), ap (as_given given) h.1)

  pub relay_take_agree : (r : Result Parcel TakeRefusal) (w' : List Parcel) → Take rule w n r w' → Agree show given w'
  relay_take_agree (Ok p) w' h = rw h.2 (agree_without given show n w agree)
  relay_take_agree (Err e) w' h = rw h.1 agree

-- a put of p, where w waits below
module _ (show : Tag → Tag) (given : List Tag) (room : ℕ) (w : List Parcel) (agree : Agree show given w) (p : Parcel) where
  abbrev pub shown_as : Parcel
  shown_as = record { message = p.message; tag = show p.tag }

  abbrev pub noted : List Tag
  noted = set given p.message.0 p.tag

  module _ (r : Result Accepted PutRefusal) (w' : List Parcel) where
    module _ (long : length given ≡ message_limit) (a : Accepted) (ok : Ok a ≡ told put_deeper r) (h : Put room w shown_as r w') where
      joined : Put room w shown_as (Ok a) w'
      joined = rw (told_ok put_deeper r a ok) at h

      own : given_tag noted shown_as ≡ p.tag
      own = get_or-set_same given p.message.0 p.tag (show p.tag) (rw long joined.0.0)

      pub relay_put : Put room (as_given given w) p (Ok a) (as_given noted w')
      relay_put =
          ((joined.0.0, waits_as_given given p.message.0 w ∙ joined.0.1), rw (length_as_given given w) joined.1, ap (as_given noted) joined.2 ∙ as_given_push noted w shown_as ∙ rw (as_given_noted given p.message.0 p.tag w joined.0.1, own))

      pub relay_put_agree : Agree show noted w'
      relay_put_agree =
          rw joined.2 (agree_push noted show w shown_as (agree_noted given p.message.0 p.tag show w joined.0.1 agree) (ap show (sym own)))

  pub relay_refuse : (r : Result Accepted PutRefusal) (w' : List Parcel) (e : PutRefusal) → Err e ≡ told put_deeper r → Put room w shown_as r w' → Put room (as_given given w) p (told put_deeper r) (as_given given w')
  relay_refuse (Ok a) w' e came h = cc
  relay_refuse (Err (Far l)) w' e came h = (h.0, ap (as_given given) h.1)
  relay_refuse (Err (Double l)) w' e came h = ((h.0.0, waits_as_given given p.message.0 w ∙ h.0.1), ap (as_given given) h.1)
  relay_refuse (Err (Full l)) w' e came h =
      (((h.0.0.0, waits_as_given given p.message.0 w ∙ h.0.0.1), rw (length_as_given given w) h.0.1), ap (as_given given) h.1)

pub ruleset relay_takes = (relay_take, relay_take_agree, take_named)
