-- The model of a connection, and the effect of reads and writes on it.
use Rattle.std.specs.Prelude.{◌≡◌, ◌≢◌, ℕ, ◌≤◌, Bool, true, false, List, [], ◌++◌, length, min, take, Option, None, Some}
use Rattle.std.specs.Io.KnownBytes.{Appends, Consumes, Keeps, IsAtEnd, append_known}
use Rattle.gateway.specs.declared.line.Read.{Read}
use Rattle.gateway.specs.declared.line.Read.TheVariants as read

-- what is to come, where that is known; what of it was read ahead; what the system took, where that is known; and what
-- waits to be given to it
pub record Link : Type 0 where
  pub coming : Option (List ℕ)
  pub ahead : List ℕ
  pub taken : Option (List ℕ)
  pub waiting : List ℕ

-- what the system took or is to be given
abbrev pub promised : Link → Option (List ℕ)
promised l = append_known l.taken l.waiting

-- what is to be given to the system once these are written
abbrev pub due : Link → List ℕ → List ℕ
due l bytes = l.waiting ++ bytes

-- these wait after those that waited, or nothing changed
abbrev pub kept : Bool → Link → List ℕ → Link
kept true l bytes = record l { waiting = l.waiting ++ bytes }
kept false l bytes = l

-- a first part of these was taken
abbrev pub TookPart : Option (List ℕ) → Option (List ℕ) → List ℕ → Type 0
TookPart old new bytes = (part : List ℕ) × (park : List ℕ) × (bytes ≡ part ++ park) × Appends old new part

-- the bytes that came are at the front of the buffer; the peer has ended only where nothing is to come, and else
-- nothing came
abbrev pub HasRead : Option (List ℕ) → Option (List ℕ) → Read → List ℕ → Type 0
HasRead old new (read.Got count) buffer = Consumes old new (take count buffer)
HasRead old new read.Quiet buffer = Keeps old new
HasRead old new read.Ended buffer = Keeps old new × IsAtEnd new
HasRead old new read.Fault buffer = Keeps old new

-- 1 to 256 bytes are given, the first of those read ahead where there were any, and the others stay ahead; where none
-- are given, none are ahead
abbrev pub GivesAhead : Read → List ℕ → List ℕ → List ℕ → Type 0
GivesAhead (read.Got count) old new buffer = (1 ≤ count) × (count ≤ 256) × (old ≢ [] → (count ≡ min (length old) 256) × (old ≡ take count buffer ++ new))
GivesAhead read.Quiet old new buffer = (old ≡ []) × (new ≡ [])
GivesAhead read.Ended old new buffer = (old ≡ []) × (new ≡ [])
GivesAhead read.Fault old new buffer = (old ≡ []) × (new ≡ [])

-- there is a connection, of which bytes were read and are to be given
abbrev pub IsHeard : Option Link → Type 0
IsHeard None = ⊥
IsHeard (Some l) = l.ahead ≢ []

-- all that waited was given to the system
abbrev pub GivesAll : Link → Link → Type 0
GivesAll old new = Appends old.taken new.taken old.waiting × (new.waiting ≡ [])

-- all that waited was given to the system, or a first part of it where a fault was reported; and nothing of it while
-- something is read ahead
abbrev pub HasFlushed : Read → Link → Link → Type 0
HasFlushed (read.Got count) old new = (old.ahead ≡ [] → GivesAll old new) × (old.ahead ≢ [] → (new.taken ≡ old.taken) × (new.waiting ≡ old.waiting))
HasFlushed read.Quiet old new = GivesAll old new
HasFlushed read.Ended old new = GivesAll old new
HasFlushed read.Fault old new = TookPart old.taken new.taken old.waiting
