-- A report on the trail that the bytes of two files hold.
use Rattle.std.specs.Prelude.{◌≡◌, ◌⊎◌, ℕ, List, Option, IsTrue}
use Rattle.sqlite.specs.Effect.{Database}
use Rattle.sqlite.specs.Opening.{is_open_error}
use Rattle.sqlite.specs.Files.{file_state}
use Rattle.sqlite.specs.Held.{Held}
use Rattle.sqlite_disk.specs.contracts.memory.MemoryDisk.TheImpl as memory
use Rattle.sqlite_disk.specs.declared.memory.Memory.{Memory}
use Rattle.sqlite_store.specs.declared.store.FileStore.{FileStore}
use Rattle.sqlite.specs.declared.error.Error.{Error}
use Rattle.audit_trail.specs.Reading.{IsTrailLike, RefusesToOpen}
use Rattle.trail_bytes.specs.Bytes.{HoldNone, IsOf}
use Rattle.sef_replay.specs.declared.failure.Failure.{Failure}
use Rattle.sef_replay.specs.declared.failure.Failure.TheVariants.{Trail as TrailRefused}
use Rattle.trail_questions.specs.declared.question.Question.{Question}
use Rattle.sef_replay.specs.Failures.{open_failure}
use Rattle.sef_replay.specs.Reports.{BeginsWanted, EmitsWanted, IsWantedFailure}
use Rattle.sef_replay.specs.Stops.{StopsAfter}

-- the output is the report on the database of these bytes
abbrev pub EmitsOver : Option Question → (log db : List ℕ) → (before after : Option (List ℕ)) → Type 0
EmitsOver wanted log db before after = (of : Database) × IsOf log db of × EmitsWanted wanted of before after

-- or a first part of it
abbrev pub BeginsOver : Option Question → (log db : List ℕ) → (before after : Option (List ℕ)) → Type 0
BeginsOver wanted log db before after = (of : Database) × IsOf log db of × BeginsWanted wanted of before after

-- the bytes are not opened as a database: they hold none, where the failure has a number, or the store failed over them
abbrev pub IsUnopened : (log db : List ℕ) → Failure → Type 0
IsUnopened log db failure = (e : Error) × (failure ≡ open_failure e) × IsTrue (is_open_error e) × ((number : ℕ) → failure ≡ TrailRefused number → HoldNone log db)

-- the report on the database of these bytes is refused, or stops, for a reason
pub record IsFailureOn (wanted : Option Question) (log db : List ℕ) (before after : Option (List ℕ)) (failure : Failure) : Type 0 where
  pub of : Database
  pub is_of : IsOf log db of
  pub fault : IsWantedFailure wanted before after of failure
  -- the connection to a copy of the bytes, as it was opened, and as the report left it
  pub conn : Held (FileStore Memory memory.ghosts)
  pub back : Held (FileStore Memory memory.ghosts)
  pub shows : (file_state conn).now ≡ of
  pub cause : failure ≡ TrailRefused 1 → RefusesToOpen (file_state conn) (file_state back)
  pub understood : failure ≡ TrailRefused 4 → IsTrailLike (file_state conn)
  pub stopped : StopsAfter failure (file_state conn) (file_state back)

-- why a report on these bytes ends so
abbrev pub FailsOver : Option Question → (log db : List ℕ) → (before after : Option (List ℕ)) → Failure → Type 0
FailsOver wanted log db before after failure = IsUnopened log db failure ⊎ IsFailureOn wanted log db before after failure
