-- The program's exit statuses other than 0.
use Rattle.std.specs.Prelude.{ℕ}
use Rattle.participants.specs.declared.fault.FileFault.{FileFault as ParticipantsFault}
use Rattle.participants.specs.declared.fault.FileFault.TheVariants as participants
use Rattle.instruments.specs.declared.fault.FileFault.{FileFault as InstrumentsFault}
use Rattle.instruments.specs.declared.fault.FileFault.TheVariants as instruments
use Rattle.venue_main.specs.declared.check.CheckFault.{CheckFault}
use Rattle.venue_main.specs.declared.check.CheckFault.TheVariants as check
use Rattle.venue_main.specs.declared.market.FilesFault.{FilesFault}
use Rattle.venue_main.specs.declared.market.FilesFault.TheVariants as files
use Rattle.venue_main.specs.declared.failure.Failure.{Failure}
use Rattle.venue_main.specs.declared.failure.Failure.TheVariants.{Stopped, Served, CommandLine, HeadsWithoutTrail, SharedHeads, SharedMetrics, Participants, Instruments, Trail as TrailRefused}
use Rattle.once_session.specs.declared.fault.OnceFault.TheVariants.{Memory, Output}
use Rattle.gateway.specs.declared.threads.RunFault.{RunFault}
use Rattle.gateway.specs.declared.threads.RunFault.TheVariants as run
use Rattle.program_shell.specs.TrailEnd.{end_of_fault}
use Rattle.program_shell.specs.declared.trail_end.TrailEnd.{TrailEnd}
use Rattle.program_shell.specs.declared.trail_end.TrailEnd.TheVariants as end
use Rattle.program_shell.specs.declared.words.WordsFault.{WordsFault}
use Rattle.program_shell.specs.declared.words.WordsFault.TheVariants as words
use Rattle.venue_rules.specs.declared.trail.TrailFault.{TrailFault}
use Rattle.venue_main.specs.declared.serve.ServeFault.{ServeFault}
use Rattle.venue_main.specs.declared.serve.ServeFault.TheVariants as serve

-- the exit status
abbrev pub status_of : Failure → ℕ
status_of (Stopped fault) = 1
status_of (Served fault) = 1
status_of CommandLine = 2
status_of HeadsWithoutTrail = 2
status_of SharedHeads = 2
status_of SharedMetrics = 2
status_of (Participants number) = 3
status_of (Instruments number) = 3
status_of (TrailRefused number) = 3

-- the end of the program where the participant file has this fault
abbrev pub participants_failure : ParticipantsFault → Failure
participants_failure participants.NotToml = Participants 1
participants_failure participants.Missing = Participants 2
participants_failure participants.Twice = Participants 3
participants_failure participants.UnknownName = Participants 4
participants_failure participants.TooMany = Participants 5
participants_failure participants.BadValue = Participants 6
participants_failure participants.NoMemory = Stopped Memory

-- and where the instrument file has it
abbrev pub instruments_failure : InstrumentsFault → Failure
instruments_failure instruments.NotToml = Instruments 1
instruments_failure instruments.Missing = Instruments 2
instruments_failure instruments.Twice = Instruments 3
instruments_failure instruments.TooMany = Instruments 5
instruments_failure instruments.BadValue = Instruments 6
instruments_failure instruments.NoMemory = Stopped Memory

-- and where one of the two has it
abbrev pub files_failure : FilesFault → Failure
files_failure (files.Participants fault) = participants_failure fault
files_failure (files.Instruments fault) = instruments_failure fault

abbrev pub check_failure : CheckFault → Failure
check_failure (check.Participants fault) = participants_failure fault
check_failure (check.Instruments fault) = instruments_failure fault
check_failure check.Output = Stopped Output

-- why a venue is not served, where its run ends with this fault
abbrev pub run_fault : RunFault → ServeFault
run_fault run.NoMemory = serve.Memory
run_fault run.NoThread = serve.Thread
run_fault run.TrailRefused = serve.Trail

-- the end of the program where a trail ends it
abbrev pub end_failure : TrailEnd → Failure
end_failure (end.Refused number) = TrailRefused number
end_failure end.Memory = Stopped Memory
end_failure end.Stopped = Served serve.Trail

abbrev pub trail_failure : TrailFault → Failure
trail_failure fault = end_failure (end_of_fault fault)

-- and where its words are not there
abbrev pub words_failure : WordsFault → Failure
words_failure words.Memory = Stopped Memory
words_failure words.Refused = CommandLine
