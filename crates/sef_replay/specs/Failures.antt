-- The program's exit statuses other than 0.
use Rattle.std.specs.Prelude.{ℕ}
use Rattle.sqlite.specs.declared.error.Error.{Error}
use Rattle.program_shell.specs.TrailEnd.{end_of_error, end_of_fault}
use Rattle.program_shell.specs.declared.trail_end.TrailEnd.{TrailEnd}
use Rattle.program_shell.specs.declared.trail_end.TrailEnd.TheVariants as end
use Rattle.program_shell.specs.declared.words.WordsFault.{WordsFault}
use Rattle.program_shell.specs.declared.words.WordsFault.TheVariants as words
use Rattle.venue_rules.specs.declared.trail.TrailFault.{TrailFault}
use Rattle.venue_rules.specs.declared.trail.TrailFault.TheVariants as trail
use Rattle.trail_questions.specs.declared.fault.AskedFault.{AskedFault}
use Rattle.trail_questions.specs.declared.fault.AskedFault.TheVariants as asked
use Rattle.sef_replay.specs.declared.failure.Failure.{Failure}
use Rattle.sef_replay.specs.declared.failure.Failure.TheVariants.{Stopped, CommandLine, Trail as TrailRefused, Unknown as UnknownNamed, File, Differs}
use Rattle.sef_replay.specs.declared.failure.Stop.{Stop}
use Rattle.sef_replay.specs.declared.failure.Stop.TheVariants as stop

-- the exit status
abbrev pub status_of : Failure → ℕ
status_of (Stopped cause) = 1
status_of CommandLine = 2
status_of (TrailRefused number) = 3
status_of (UnknownNamed what) = 3
status_of File = 3
status_of Differs = 4

-- the end of the program where a trail ends it
abbrev pub end_failure : TrailEnd → Failure
end_failure (end.Refused number) = TrailRefused number
end_failure end.Memory = Stopped stop.Memory
end_failure end.Stopped = Stopped stop.Trail

abbrev pub trail_failure : TrailFault → Failure
trail_failure fault = end_failure (end_of_fault fault)

-- and where a question is not answered
abbrev pub asked_failure : AskedFault → Failure
asked_failure asked.Memory = Stopped stop.Memory
asked_failure asked.Output = Stopped stop.Output
asked_failure (asked.Unknown what) = UnknownNamed what
asked_failure asked.Differs = Differs

-- the cause of status 1 where an opened trail does not give its rows
abbrev pub rows_stop : TrailFault → Stop
rows_stop trail.NoMemory = stop.Memory
rows_stop _ = stop.Trail

-- and where the file is not opened
abbrev pub open_failure : Error → Failure
open_failure error = end_failure (end_of_error error)

-- and where the words are not there
abbrev pub words_failure : WordsFault → Failure
words_failure words.Memory = Stopped stop.Memory
words_failure words.Refused = CommandLine
