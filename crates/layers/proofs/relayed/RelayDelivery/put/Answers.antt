use Rattle.std.proofs.Common.{Err, ap, ◌∙◌}
use Rattle.std.proofs.lemmas.Result.{err_from_is_err_and}
use Rattle.layers.specs.Shown.{shown}
use Rattle.layers.proofs.Relays.{put_named, relay_put, relay_put_agree}
use Rattle.layers.proofs.relayed.RelayDelivery.put.Goals as goal

pub returns-then-i-lt-MESSAGE_PLACES-clause-starts : goal.returns-then-i-lt-MESSAGE_PLACES-clause-starts
returns-then-i-lt-MESSAGE_PLACES-clause-starts g c s =
    let m = g.D.Delivery in
    let this = c.args.self.now in
    (c.put.ensures.starts s.0, relay_put_agree (shown this.group.0 this.station) this.given (m.room this.below) (m.waiting this.below) s.1 c.args.parcel c.put.result (m.waiting c.put.new.self) this.places c.in_ok-accepted.accepted c.in_ok-accepted.ensures (rw c.show-tag.ensures at (c.put.ensures.puts s.0)))

pub returns-then-i-lt-MESSAGE_PLACES-clause-puts : goal.returns-then-i-lt-MESSAGE_PLACES-clause-puts
returns-then-i-lt-MESSAGE_PLACES-clause-puts g c s =
    let m = g.D.Delivery in
    let this = c.args.self.now in
    relay_put (shown this.group.0 this.station) this.given (m.room this.below) (m.waiting this.below) s.1 c.args.parcel c.put.result (m.waiting c.put.new.self) this.places c.in_ok-accepted.accepted c.in_ok-accepted.ensures (rw c.show-tag.ensures at (c.put.ensures.puts s.0))

pub returns-in_err-accepted-clause-names : goal.returns-in_err-accepted-clause-names
returns-in_err-accepted-clause-names g c s =
    let m = g.D.Delivery in
    let this = c.args.self.now in
    let back = err_from_is_err_and c.from_residual.result c.from_residual.ensures.1 in
    rw (back.1 ∙ ap Err back.2 ∙ c.in_err-accepted.ensures) (put_named (m.layer this.below) this.given (m.waiting this.below) c.put.result (c.put.ensures.names s.0))
