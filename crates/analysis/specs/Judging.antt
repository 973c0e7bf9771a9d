-- What a filled matrix tells of two events.
use Rattle.std.specs.Prelude.{◌≡◌, ℕ, ◌+◌, ◌<◌, Bool, false, not, ◌&&◌, ◌||◌, length, nat_le, nat_lt}
use Rattle.chart.specs.Content.{Content, Happening, sent, received, message_of}
use Rattle.matrix.specs.Places.{place_of}
use Rattle.matrix.specs.Sets.{count_below, place_count}
use Rattle.matrix.specs.Models.{has, precedes}
use Rattle.matrix.specs.declared.matrices.OrderMatrix.{OrderMatrix}
use Rattle.order.specs.Order.{Scene}
use Rattle.order.specs.Pass.{rows, enforces}
use Rattle.order.specs.Scenes.{event_at}
use Rattle.analysis.specs.Filling.{holds}
use Rattle.analysis.specs.declared.judging.Prospect.{Prospect}

-- the matrix answers as the one pass does
abbrev pub Filled : Scene → OrderMatrix → Type 0
Filled s o = (e f : Happening) → message_of e < s.messages → message_of f < s.messages → holds o e f ≡ enforces (rows s s.messages) e f

-- whether e is the out event of one of the first k messages, and that message is held
abbrev pub is_held : (ℕ → Bool) → ℕ → Happening → Bool
is_held held k (sent h) = nat_lt h k && held h
is_held held k (received h) = false

-- the prospect has the out events after that of message m, and those of the messages that m holds
pub record Foreseen (s : Scene) (m : ℕ) (p : Prospect) : Type 0 where
  pub after : (h : ℕ) → h < s.messages → has p.after (place_of (sent h)) ≡ enforces (rows s s.messages) (sent m) (sent h)
  pub held : (e : Happening) → has p.held (place_of e) ≡ is_held (s.holds m) s.messages e

-- the prospect is that of an event of the chart, as the first of pairs
pub record Foresees (c : Content) (s : Scene) (p : Prospect) : Type 0 where
  pub inside : p.first.0 < length c.events
  pub seen : Foreseen s (message_of (event_at c p.first.0)) p

-- how many are in the column, in the row of the out event of message n and in the hold row; and two
abbrev pub crowd_in : OrderMatrix → Prospect → ℕ → ℕ
crowd_in o p n = count_below (λ x. has p.after x && (precedes o x (place_of (sent n)) && has p.held x)) place_count + 2

-- whether the matrix shows that b can come before a
abbrev pub turns_in : OrderMatrix → Prospect → ℕ → Happening → Happening → Bool
turns_in o p room a b =
    not (holds o a b) && (not (holds o (sent (message_of a)) (sent (message_of b))) || nat_le (crowd_in o p (message_of b)) room)
