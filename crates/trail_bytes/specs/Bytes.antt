-- The database that the bytes of a file and of its log hold.
use Rattle.std.specs.Prelude.{◌≡◌, ◌⊎◌, ℕ, Bool, true, false, List}
use Rattle.sqlite_wal.specs.Recovery.{Image}
use Rattle.sqlite_trees.specs.Tree.{Trees}
use Rattle.sqlite.specs.Effect.{Database, IsDatabase}
use Rattle.sqlite.specs.Files.{AreFoundIn, HoldsDatabase, IsNothing}
use Rattle.sqlite.specs.declared.error.Error.{Error}
use Rattle.sqlite.specs.declared.error.Error.TheVariants.{SqliteFailure}
use Rattle.sqlite.specs.declared.error.ErrorCode.TheVariants.{NotADatabase, DatabaseCorrupt, OutOfMemory, SystemIoFailure, DiskFull}

-- the two files as SQLite's format describes them: a log of frames next to the pages
abbrev pub image : (log db : List ℕ) → Image
image log db = record { log = log; db = db }

-- The database is that of these bytes: what they recover to by SQLite's rules for a log, with the schema that they
-- list; or, where they begin none, an empty one.
pub record IsOf (log db : List ℕ) (of : Database) : Type 0 where
  pub holds : (trees : Trees) → HoldsDatabase (image log db) trees → of.trees ≡ trees
  pub found : AreFoundIn (image log db) of.trees
  pub sound : IsDatabase of

-- no database is found in these bytes, and they are not the empty beginning of one
abbrev pub HoldNone : (log db : List ℕ) → Type 0
HoldNone log db = ((trees : Trees) → HoldsDatabase (image log db) trees → ⊥) × (IsNothing (image log db) → ⊥)

-- an error that refuses the bytes
abbrev pub is_refusal : Error → Bool
is_refusal (SqliteFailure NotADatabase) = true
is_refusal (SqliteFailure DatabaseCorrupt) = true
is_refusal _ = false

-- It refuses the bytes, or an allocation failed: of a copy, of the pages, or within a file in memory, which counts as a
-- failure of its disk; or the bytes are too long.
abbrev pub IsOpenFault : Error → Type 0
IsOpenFault e = (is_refusal e ≡ true) ⊎ ((e ≡ SqliteFailure OutOfMemory) ⊎ ((e ≡ SqliteFailure SystemIoFailure) ⊎ (e ≡ SqliteFailure DiskFull)))
