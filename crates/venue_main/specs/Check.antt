-- The output for the two files.
use Rattle.std.specs.Prelude.{ℕ, ◌++◌, List, [], ◌∷◌, length, codes, decimal, Ok}
use Rattle.participants.specs.ParticipantFile.{ParticipantFile}
use Rattle.participants.specs.Reading.{IsFaultOf as IsParticipantsFaultOf, Reads as ReadsParticipants}
use Rattle.instruments.specs.declared.instruments.Instrument.{Instrument}
use Rattle.instruments.specs.Reading.{IsFaultOf as IsInstrumentsFaultOf, Reads as ReadsInstruments}
use Rattle.venue_main.specs.declared.check.CheckFault.{CheckFault}
use Rattle.venue_main.specs.declared.check.CheckFault.TheVariants.{Participants, Instruments, Output}
use Rattle.venue_main.specs.declared.market.FilesFault.{FilesFault}
use Rattle.venue_main.specs.declared.market.FilesFault.TheVariants as files

-- both texts are read
pub record AreRead (participants_text instruments_text : List ℕ) (file : ParticipantFile) (rows : List Instrument) : Type 0 where
  pub participants : ReadsParticipants participants_text (Ok file)
  pub instruments : ReadsInstruments instruments_text (Ok rows)

-- these counts, as a line of text
abbrev pub counted : ℕ → ℕ → ℕ → List ℕ
counted names pairs rows = codes "participants " ++ (decimal names ++ (codes " related " ++ (decimal pairs ++ (codes " instruments " ++ (decimal rows ++ 10 ∷ [])))))

-- the counts of the files
abbrev pub summary : ParticipantFile → List Instrument → List ℕ
summary file rows = counted (length file.names) (length file.pairs) (length rows)

-- the first fault of the two files: one of the participant file's text, or, where that is read, one of the instrument
-- file's
abbrev pub IsFaultOfFiles : List ℕ → List ℕ → FilesFault → Type 0
IsFaultOfFiles participants_text instruments_text (files.Participants fault) = IsParticipantsFaultOf participants_text fault
IsFaultOfFiles participants_text instruments_text (files.Instruments fault) = (file : ParticipantFile) × ReadsParticipants participants_text (Ok file) × IsInstrumentsFaultOf instruments_text fault

-- why the check stops: the first fault of the files, or, where both are read, the output
abbrev pub Stops : List ℕ → List ℕ → CheckFault → Type 0
Stops participants_text instruments_text (Participants fault) = IsFaultOfFiles participants_text instruments_text (files.Participants fault)
Stops participants_text instruments_text (Instruments fault) = IsFaultOfFiles participants_text instruments_text (files.Instruments fault)
Stops participants_text instruments_text Output = (file : ParticipantFile) × (rows : List Instrument) × AreRead participants_text instruments_text file rows

-- the fact, unless the output failed
abbrev pub UnlessWriting : CheckFault → Type 0 → Type 0
UnlessWriting (Participants fault) fact = fact
UnlessWriting (Instruments fault) fact = fact
UnlessWriting Output fact = Unit {0}
