-- How the printing of an answer ends.
use Rattle.std.specs.Prelude.{◌⊎◌, ℕ, List, Option, ⊤}
use Rattle.std.specs.Io.KnownBytes.{Keeps}
use Rattle.participants.specs.ParticipantFile.{ParticipantFile}
use Rattle.instruments.specs.declared.instruments.Instrument.{Instrument}
use Rattle.venue_rules.specs.Market.{Market}
use Rattle.trail_questions.specs.declared.fault.AskedFault.{AskedFault}
use Rattle.trail_questions.specs.declared.fault.AskedFault.TheVariants.{Differs, Memory, Output, Unknown as UnknownNamed}
use Rattle.trail_questions.specs.declared.fault.Unknown.{Unknown}

-- the market of these participants and instruments
abbrev pub market_of : ParticipantFile → List Instrument → Market
market_of file rows = record { participants = file; instruments = rows }

-- the question names nothing
abbrev pub IsNever : Unknown → Type 0
IsNever what = ⊥

-- Where no answer is printed: an allocation failed, and nothing was written, or a first part; a write failed; or what
-- the question names is not there, and nothing was written. And where one is printed which says that two things differ.
abbrev pub Fails : (Begun Differing : Type 0) → (IsUnknown : Unknown → Type 0) → (before after : Option (List ℕ)) → AskedFault → Type 0
Fails Begun Differing IsUnknown before after Memory = Keeps before after ⊎ Begun
Fails Begun Differing IsUnknown before after Output = ⊤
Fails Begun Differing IsUnknown before after (UnknownNamed what) = IsUnknown what × Keeps before after
Fails Begun Differing IsUnknown before after Differs = Differing
