-- What a write into a buffer leaves.
use Rattle.std.specs.Prelude.{◌≡◌, ℕ, ◌+◌, ◌<◌, List, ◌++◌, length, drop, Ok, Err, Result}
use Rattle.analysis.specs.declared.writing.NoRoom.{NoRoom}
use Rattle.analysis.specs.declared.writing.Writer.{Writer}

-- zs is xs with ys in front, and the rest as it was
abbrev pub Fronted : List ℕ → List ℕ → List ℕ → Type 0
Fronted xs ys zs = zs ≡ ys ++ drop (length ys) xs

-- a writer whose buffer was xs has put ys in front
pub record Wrote (xs ys : List ℕ) (w : Writer) : Type 0 where
  pub front : Fronted xs ys w.buffer.now
  pub long : w.len ≡ length ys

-- new is old once it has put these bytes after what it had put before
pub record Puts (old : Writer) (bytes : List ℕ) (new : Writer) : Type 0 where
  pub same_reference : new.buffer.ghost_name ≡ old.buffer.ghost_name
  pub len : new.len ≡ old.len + length bytes
  pub room : length new.buffer.now ≡ length old.buffer.now
  pub adds : (xs ys : List ℕ) → Wrote xs ys old → Wrote xs (ys ++ bytes) new

-- the bytes are put, or they have no room and nothing changes
abbrev pub Tries : Writer → List ℕ → Result (Unit {0}) NoRoom → Writer → Type 0
Tries old bytes (Ok u) new = Puts old bytes new
Tries old bytes (Err e) new = (length old.buffer.now < old.len + length bytes) × (new ≡ old)
