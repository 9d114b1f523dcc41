-- The number of a refusal, by its cause and by the reader's answer.
use Rattle.std.specs.Prelude.{◌≡◌, ℕ, List, Option, Some, None, option_map, Result, Ok, Err}
use Rattle.toml.specs.Data.{Data}
use Rattle.participants.specs.ParticipantFile.{ParticipantFile}
use Rattle.participants.specs.Reading.{read_of as participants_of}
use Rattle.participants.specs.declared.fault.FileFault.{FileFault as ParticipantsFault}
use Rattle.participants.specs.declared.fault.FileFault.TheVariants as participants
use Rattle.instruments.specs.Reading.{read_of as instruments_of}
use Rattle.instruments.specs.declared.fault.FileFault.{FileFault as InstrumentsFault}
use Rattle.instruments.specs.declared.fault.FileFault.TheVariants as instruments
use Rattle.instruments.specs.declared.instruments.Instrument.{Instrument}
use Rattle.file_diagnosis.specs.declared.cause.Cause.{Cause}
use Rattle.file_diagnosis.specs.declared.cause.Wrong.{Wrong}
use Rattle.file_diagnosis.specs.declared.cause.Wrong.TheVariants as wrong
use Rattle.file_diagnosis.specs.Participants.{participants_cause}
use Rattle.file_diagnosis.specs.Instruments.{instruments_cause}

abbrev pub number_of : Wrong → ℕ
number_of wrong.Absent = 2
number_of wrong.NoEntry = 2
number_of (wrong.Lacks k) = 2
number_of wrong.NoList = 6
number_of wrong.NoTable = 6
number_of wrong.NoVenue = 6
number_of (wrong.NoName k) = 6
number_of (wrong.NoNumber k) = 6
number_of wrong.Same = 6
number_of wrong.TooMany = 5
number_of wrong.OfVenue = 3
number_of wrong.Twice = 3
number_of (wrong.Unknown k) = 4

-- the number of a cause, if there is one
abbrev pub number_in : Option Cause → Option ℕ
number_in c = option_map (λ (found : Cause). number_of found.wrong) c

-- the number with which a document is refused, if it is
abbrev pub participants_refusal : Result ParticipantFile ParticipantsFault → Option ℕ
participants_refusal (Ok rows) = None
participants_refusal (Err participants.NotToml) = Some 1
participants_refusal (Err participants.Missing) = Some 2
participants_refusal (Err participants.Twice) = Some 3
participants_refusal (Err participants.UnknownName) = Some 4
participants_refusal (Err participants.TooMany) = Some 5
participants_refusal (Err participants.BadValue) = Some 6
participants_refusal (Err participants.NoMemory) = None

abbrev pub instruments_refusal : Result (List Instrument) InstrumentsFault → Option ℕ
instruments_refusal (Ok rows) = None
instruments_refusal (Err instruments.NotToml) = Some 1
instruments_refusal (Err instruments.Missing) = Some 2
instruments_refusal (Err instruments.Twice) = Some 3
instruments_refusal (Err instruments.TooMany) = Some 5
instruments_refusal (Err instruments.BadValue) = Some 6
instruments_refusal (Err instruments.NoMemory) = None

-- a document has a cause with the number of its refusal, and none where it is read
abbrev pub ParticipantsAgree : Type 0
ParticipantsAgree = (file : Data) → number_in (participants_cause file) ≡ participants_refusal (participants_of file)

abbrev pub InstrumentsAgree : Type 0
InstrumentsAgree = (file : Data) → number_in (instruments_cause file) ≡ instruments_refusal (instruments_of file)
