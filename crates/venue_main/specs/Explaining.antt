-- What is written of a log of frames.
use Rattle.std.specs.Prelude.{ℕ, ◌≡◌, List, IfSome, Ok, Option}
use Rattle.std.specs.Io.KnownBytes.{Appends}
use Rattle.participants.specs.ParticipantFile.{ParticipantFile}
use Rattle.participants.specs.Reading.{Reads}
use Rattle.venue_rules.specs.Market.{Market}
use Rattle.frame_explanation.specs.Explanation.{Explains}
use Rattle.frame_explanation.specs.declared.fault.ExplainFault.{ExplainFault}
use Rattle.frame_explanation.specs.declared.fault.ExplainFault.TheVariants as explain
use Rattle.once_session.specs.declared.fault.OnceFault.{OnceFault}
use Rattle.once_session.specs.declared.fault.OnceFault.TheVariants as once
use Rattle.venue_main.specs.declared.failure.Failure.{Failure}
use Rattle.venue_main.specs.declared.failure.Failure.TheVariants.{Stopped, Served, CommandLine, HeadsWithoutTrail, SharedHeads, SharedMetrics, Participants, Instruments, Trail}
use Rattle.venue_main.specs.Check.{AreRead}

-- The explanation of all bytes of the input, by the participants and a new venue of the two files, was written, and
-- nothing else.
pub record HasExplained (participants_text instruments_text : List ℕ) (input before after : Option (List ℕ)) : Type 0 where
  pub names : ParticipantFile
  pub market : Market
  pub log : List ℕ
  pub text : List ℕ
  pub named : Reads participants_text (Ok names)
  pub read : AreRead participants_text instruments_text market.participants market.instruments
  pub whole : IfSome input (λ bytes. log ≡ bytes)
  pub explains : Explains market names log text
  pub written : Appends before after text

-- the end of the program where no explanation was made, or not all of it written
abbrev pub explain_failure : ExplainFault → Failure
explain_failure explain.Memory = Stopped once.Memory
explain_failure explain.Output = Stopped once.Output

-- the fact, unless the output failed
abbrev pub unless_output : OnceFault → Type 0 → Type 0
unless_output once.Output fact = Unit {0}
unless_output fault fact = fact

abbrev pub UnlessOutput : Failure → Type 0 → Type 0
UnlessOutput (Stopped fault) fact = unless_output fault fact
UnlessOutput (Served fault) fact = fact
UnlessOutput CommandLine fact = fact
UnlessOutput HeadsWithoutTrail fact = fact
UnlessOutput SharedHeads fact = fact
UnlessOutput SharedMetrics fact = fact
UnlessOutput (Participants number) fact = fact
UnlessOutput (Instruments number) fact = fact
UnlessOutput (Trail number) fact = fact
