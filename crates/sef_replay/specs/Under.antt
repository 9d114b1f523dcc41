-- The rows of the trail that the bytes of two files hold, under its own rules (A) and under those of another file (B).
use Rattle.std.specs.Prelude.{◌≢◌, ◌⊎◌, ℕ, Bool, true, false, List, Option, None, ⊤}
use Rattle.std.specs.Io.KnownBytes.{Appends, Keeps}
use Rattle.venue_rules.specs.Market.{Market}
use Rattle.trail_digest.specs.Comparison.{Side}
use Rattle.trail_digest.specs.Head.{head_text}
use Rattle.trail_digest.specs.declared.head.HeadForm.TheVariants.{Line}
use Rattle.trail_comparison.specs.Comparison.{market_of}
use Rattle.trail_comparison.specs.Rules.{AreOther, IsRefused}
use Rattle.trail_comparison.specs.Under.{EmitsUnder, IsBegun}
use Rattle.trail_comparison.specs.declared.rules.Parts.{Parts}
use Rattle.trail_comparison.specs.declared.rules.RulesFault.{RulesFault}
use Rattle.trail_comparison.specs.declared.rules.RulesFault.TheVariants as fault
use Rattle.sef_replay.specs.declared.copied.Copied.{Copied}
use Rattle.sef_replay.specs.declared.under.UnderFailure.{UnderFailure}
use Rattle.sef_replay.specs.declared.under.UnderFailure.TheVariants.{OfTrail, OfFile, Differ, Memory, Output}
use Rattle.sef_replay.specs.Compared.{IsDayOver}
use Rattle.sef_replay.specs.Copied.{FailsOver}

-- Behind the head of the trail: how the answers to its rows differ, and the trades. The text is that of the other file.
pub record EmitsSideUnder (same : Bool) (side : Side) (text : List ℕ) (before after : Option (List ℕ)) : Type 0 where
  pub parts : Parts
  pub other : Market
  pub of_file : AreOther parts text (market_of side) other
  pub mid : Option (List ℕ)
  pub headed : Appends before mid (head_text Line side.trail)
  pub emits : EmitsUnder parts same (market_of side) other side.trail.rows mid after

-- or the head, and a first part
pub record BeginsSideUnder (side : Side) (text : List ℕ) (before after : Option (List ℕ)) : Type 0 where
  pub parts : Parts
  pub other : Market
  pub of_file : AreOther parts text (market_of side) other
  pub mid : Option (List ℕ)
  pub headed : Appends before mid (head_text Line side.trail)
  pub begins : IsBegun parts (market_of side) other side.trail.rows mid after

-- the failure where the rows cannot be answered under a file
abbrev pub file_failure : RulesFault → UnderFailure
file_failure fault.Memory = Memory
file_failure (fault.NoFile one other) = OfFile (fault.NoFile one other)
file_failure (fault.BadParticipants why) = OfFile (fault.BadParticipants why)
file_failure (fault.BadInstruments why) = OfFile (fault.BadInstruments why)
file_failure fault.Venue = OfFile fault.Venue
file_failure (fault.Participant k) = OfFile (fault.Participant k)
file_failure (fault.Instrument k) = OfFile (fault.Instrument k)

-- why the answers are not said to be the same: the file is refused, and nothing was written; they differ, as the output
-- says; or an allocation or a write failed
abbrev pub FailsSideUnder : Side → List ℕ → (before after : Option (List ℕ)) → UnderFailure → Type 0
FailsSideUnder side text before after (OfTrail failure) = ⊥
FailsSideUnder side text before after (OfFile why) = IsRefused text (market_of side) why × (why ≢ fault.Memory) × Keeps before after
FailsSideUnder side text before after Differ = EmitsSideUnder false side text before after
FailsSideUnder side text before after Memory = Keeps before after ⊎ BeginsSideUnder side text before after
FailsSideUnder side text before after Output = ⊤

-- the bytes hold a trail, and the output says that all answers to its rows are the same
pub record EmitsUnderFile (copied : Copied) (text : List ℕ) (before after : Option (List ℕ)) : Type 0 where
  pub side : Side
  pub day : IsDayOver copied.log.items copied.db.items side
  pub emits : EmitsSideUnder true side text before after

-- the bytes hold a trail, of whose rows that is not said
pub record IsFailureUnder (copied : Copied) (text : List ℕ) (before after : Option (List ℕ)) (failure : UnderFailure) : Type 0 where
  pub side : Side
  pub day : IsDayOver copied.log.items copied.db.items side
  pub fails : FailsSideUnder side text before after failure

-- the trail is refused, or reading it stopped, for a reason that its bytes have, and nothing was written; or its rows
-- are not answered the same
abbrev pub FailsUnderFile : Copied → List ℕ → (before after : Option (List ℕ)) → UnderFailure → Type 0
FailsUnderFile copied text before after (OfTrail failure) = FailsOver None copied.log.items copied.db.items None None failure × Keeps before after
FailsUnderFile copied text before after (OfFile why) = IsFailureUnder copied text before after (OfFile why)
FailsUnderFile copied text before after Differ = IsFailureUnder copied text before after Differ
FailsUnderFile copied text before after Memory = IsFailureUnder copied text before after Memory
FailsUnderFile copied text before after Output = IsFailureUnder copied text before after Output
