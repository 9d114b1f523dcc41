-- A stream that is read to its end, or up to a stop.
use Rattle.std.specs.Prelude.{◌≡◌, ◌≤◌, ℕ, List, [], ◌++◌, Option, Bool, true, false, length}
use Rattle.std.specs.Io.KnownBytes.{Consumes, IsAtEnd}
use Rattle.venue_world.specs.Seen.{Seen}
use Rattle.once_session.specs.Course.{Went, Wrote}

-- the most bytes read at once
abbrev pub longest_piece : ℕ
longest_piece = 4096

-- a piece was read onto the line
pub record IsMore (old new : Seen) (left left' : Option (List ℕ)) : Type 0 where
  pub piece : List ℕ
  pub consumed : Consumes left left' piece
  pub came : (t : ℕ) → Went t old new piece []

-- nothing is left to read
pub record IsEnd (old new : Seen) (left left' : Option (List ℕ)) : Type 0 where
  pub same : new ≡ old
  pub consumed : Consumes left left' []
  pub ends : IsAtEnd left'

-- the result of a read, with and without a piece
abbrev pub IsRead : Seen → Seen → Option (List ℕ) → Option (List ℕ) → Bool → Type 0
IsRead old new left left' true = IsMore old new left left'
IsRead old new left left' false = IsEnd old new left left'

-- a piece was read, and did not get onto the line
pub record IsLost (left left' : Option (List ℕ)) : Type 0 where
  pub piece : List ℕ
  pub consumed : Consumes left left' piece
  pub short : length piece ≤ longest_piece

-- the bytes read so far arrived on the line, and what that gave was written
pub record IsSoFar (t : ℕ) (old new : Seen) (left left' held held' : Option (List ℕ)) : Type 0 where
  pub came : List ℕ
  pub consumed : Consumes left left' came
  pub wrote : Wrote t old new came held held'

-- some state, with the piece after it, if any, not on the line
pub record Halts (t : ℕ) (old : Seen) (left left' held held' : Option (List ℕ)) : Type 0 where
  pub then : Seen
  pub came : List ℕ
  pub lost : List ℕ
  pub consumed : Consumes left left' (came ++ lost)
  pub short : length lost ≤ longest_piece
  pub wrote : Wrote t old then came held held'
