-- What is read of a log.
use Rattle.std.specs.Prelude.{◌≡◌, ℕ, List, length}
use Rattle.desk_log.specs.declared.reading.Reading.{Reading}
use Rattle.desk_log.specs.Frames.{bodies_in, first_broken, outside}
use Rattle.desk_log.specs.Numbered.{Logged, logged_in, numbered_in}
use Rattle.desk_log.specs.Once.{IsOnce, conflict_from}

-- the application messages of a log from the one to the other, repeats too, in the order of the log
abbrev pub messages_in : (from to log : List ℕ) → List Logged
messages_in from to log = logged_in (numbered_in from to log (bodies_in log))

pub record IsReading (from to log : List ℕ) (r : Reading) : Type 0 where
  pub bodies : r.bodies ≡ length (bodies_in log)
  pub outside : r.outside ≡ outside log
  pub broken : r.broken ≡ first_broken log
  pub frames : r.frames.items ≡ numbered_in from to log (bodies_in log)
  pub logged : r.logged.items ≡ messages_in from to log
  pub once : IsOnce (messages_in from to log) r.once.items
  pub conflict : r.conflict ≡ conflict_from log (messages_in from to log) (messages_in from to log)
