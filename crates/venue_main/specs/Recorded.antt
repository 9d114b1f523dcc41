-- The trail that a served venue leaves, and its output as it closes.
use Rattle.std.specs.Prelude.{◌≡◌, ◌⊎◌, ℕ, true, List, length, Option, IsTrue, ⊤}
use Rattle.std.specs.Io.KnownBytes.{Appends}
use Rattle.sqlite_trees.specs.declared.store.Store.{Ghosts}
use Rattle.sqlite.specs.State.{State, HasCleanDisk}
use Rattle.audit_trail.specs.Trail.{shown_rows}
use Rattle.audit_trail.specs.declared.files.Files.{Files}
use Rattle.trail_journal.specs.Journal.{Began, Recording}
use Rattle.venue_runtime.specs.Closing.{Closing}
use Rattle.venue_rules.specs.Market.{Market}
use Rattle.venue_rules.specs.declared.trail.TrailFault.{TrailFault}
use Rattle.venue_rules.specs.declared.trail.TrailFault.TheVariants.{Refused}
use Rattle.venue_main.specs.Failures.{trail_failure}
use Rattle.venue_main.specs.Serve.{HasServed, UnlessWriting, closing_line}
use Rattle.venue_main.specs.declared.failure.Failure.{Failure}
use Rattle.venue_main.specs.declared.failure.Failure.TheVariants.{Stopped, Served, CommandLine, HeadsWithoutTrail, SharedHeads, SharedMetrics, Participants, Instruments, Trail as TrailRefused}
use Rattle.venue_main.specs.declared.serve.ServeFault.TheVariants.{Trail}

-- A journal began with what was found in the database as a trail of these files; a venue of this market ran from its
-- rows, and was closed, with a session for each participant. Where the disk returned what was written, the database
-- shows the rows of what was closed, and the output is the one line with the count of its sessions and of the messages
-- among these rows.
pub record HasRecorded {S : Type 0} (g : Ghosts S) (turns : ℕ) (m : Market) (files : Files) (old new : State) (before after : Option (List ℕ)) : Type 0 where
  pub start : Recording S
  pub began : Began g files old start
  pub closed : Closing
  pub served : HasServed turns m start.rows true closed
  pub sessions : length closed.sessions ≡ length m.participants.names
  pub is_open : HasCleanDisk new → IsTrue new.is_open
  pub shows : HasCleanDisk new → shown_rows new ≡ closed.rows
  pub written : HasCleanDisk new → Appends before after (closing_line (length m.participants.names) closed.rows)

-- the fact, unless the closing line was not written
abbrev pub UnlessEmitting : Failure → Type 0 → Type 0
UnlessEmitting (Stopped fault) fact = fact
UnlessEmitting (Served fault) fact = UnlessWriting fault fact
UnlessEmitting CommandLine fact = fact
UnlessEmitting HeadsWithoutTrail fact = fact
UnlessEmitting SharedHeads fact = fact
UnlessEmitting SharedMetrics fact = fact
UnlessEmitting (Participants number) fact = fact
UnlessEmitting (Instruments number) fact = fact
UnlessEmitting (TrailRefused number) fact = fact

-- A trail with this fault ends the program so: as its number says, or, where the store refused it, as a trail whose
-- disk failed.
abbrev pub IsRefusalOf : TrailFault → Failure → Type 0
IsRefusalOf fault failure = (failure ≡ trail_failure fault) ⊎ ((fault ≡ Refused) × (failure ≡ Served Trail))

-- the number of a refusal is that of a fault of a trail, and neither the command line nor a file is at fault
abbrev pub IsRecordingFailure : Failure → Type 0
IsRecordingFailure (Stopped fault) = ⊤
IsRecordingFailure (Served fault) = ⊤
IsRecordingFailure CommandLine = ⊥
IsRecordingFailure HeadsWithoutTrail = ⊥
IsRecordingFailure SharedHeads = ⊥
IsRecordingFailure SharedMetrics = ⊥
IsRecordingFailure (Participants number) = ⊥
IsRecordingFailure (Instruments number) = ⊥
IsRecordingFailure (TrailRefused number) = (fault : TrailFault) × (trail_failure fault ≡ TrailRefused number)
