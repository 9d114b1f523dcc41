-- The line below a refusal.
use Rattle.std.specs.Prelude.{◌≡◌, ℕ, List, codes}
use Rattle.file_diagnosis.specs.Instruments.{instruments_cause}
use Rattle.file_diagnosis.specs.Line.{IsLineOn}
use Rattle.file_diagnosis.specs.Participants.{participants_cause}
use Rattle.venue_main.specs.declared.failure.Failure.{Failure}
use Rattle.venue_main.specs.declared.failure.Failure.TheVariants.{Participants, Instruments, Stopped}
use Rattle.once_session.specs.declared.fault.OnceFault.TheVariants.{Input}

-- a line is on the file that is refused, or names an input that cannot be read; another failure has none
abbrev pub IsReason : List ℕ → List ℕ → Failure → List ℕ → Type 0
IsReason participants instruments (Participants n) line = IsLineOn participants_cause participants line
IsReason participants instruments (Instruments n) line = IsLineOn instruments_cause instruments line
IsReason participants instruments (Stopped Input) line = line ≡ codes "standard input"
IsReason participants instruments _ line = ⊥
