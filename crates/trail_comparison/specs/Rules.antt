-- The participants and instruments of another file, for the rows of a trail: who sent a row, and what it is about, has
-- to be the same; which participants are related, and each instrument's figures, may be others. What the file lacks
-- stays the trail's own.
use Rattle.std.specs.Prelude.{◌≡◌, ◌≢◌, ◌⊎◌, ℕ, ◌<◌, max, List, length, Ok}
use Rattle.instruments.specs.declared.instruments.Instrument.{Instrument}
use Rattle.instruments.specs.Listing.{symbol_of}
use Rattle.instruments.specs.Reading as instruments
use Rattle.instruments.specs.declared.fault.FileFault.TheVariants as of_instruments
use Rattle.participants.specs.ParticipantFile.{ParticipantFile}
use Rattle.participants.specs.Reading as participants
use Rattle.participants.specs.Relations.{name_of}
use Rattle.participants.specs.declared.fault.FileFault.TheVariants as of_participants
use Rattle.venue_rules.specs.Market.{Market}
use Rattle.trail_comparison.specs.declared.rules.Parts.{Parts}
use Rattle.trail_comparison.specs.declared.rules.Parts.TheVariants.{Both, Instruments, Participants}
use Rattle.trail_comparison.specs.declared.rules.RulesFault.{RulesFault}
use Rattle.trail_comparison.specs.declared.rules.RulesFault.TheVariants as fault

abbrev pub SameBefore : (one other : ℕ → List ℕ) → ℕ → Type 0
SameBefore one other n = (k : ℕ) → k < n → one k ≡ other k

-- the first place at which they differ; past the end of a file there is no name
abbrev pub IsFirstOther : (one other : ℕ → List ℕ) → ℕ → Type 0
IsFirstOther one other k = SameBefore one other k × (one k ≢ other k)

abbrev pub SameNames : ParticipantFile → ParticipantFile → Type 0
SameNames one other = SameBefore (name_of one) (name_of other) (max (length one.names) (length other.names))

abbrev pub SameSymbols : List Instrument → List Instrument → Type 0
SameSymbols one other = SameBefore (symbol_of one) (symbol_of other) (max (length one) (length other))

-- the participants of the file, who are those of the trail
pub record AreParticipants (text : List ℕ) (own other : ParticipantFile) : Type 0 where
  pub read : participants.Reads text (Ok other)
  pub venue : own.venue ≡ other.venue
  pub names : SameNames own other

pub record AreInstruments (text : List ℕ) (own other : List Instrument) : Type 0 where
  pub read : instruments.Reads text (Ok other)
  pub symbols : SameSymbols own other

-- these parts are of the file; it lacks the other, which is the trail's own
abbrev pub AreOther : Parts → (text : List ℕ) → (own other : Market) → Type 0
AreOther Both text own other = AreParticipants text own.participants other.participants × AreInstruments text own.instruments other.instruments
AreOther Participants text own other = AreParticipants text own.participants other.participants × (other.instruments ≡ own.instruments) × instruments.IsFaultOf text of_instruments.Missing
AreOther Instruments text own other = AreInstruments text own.instruments other.instruments × (other.participants ≡ own.participants) × participants.IsFaultOf text of_participants.Missing

-- why not

abbrev pub IsOtherParticipants : (own other : ParticipantFile) → RulesFault → Type 0
IsOtherParticipants own other fault.Venue = own.venue ≢ other.venue
IsOtherParticipants own other (fault.Participant k) = IsFirstOther (name_of own) (name_of other) k
IsOtherParticipants own other _ = ⊥

abbrev pub IsOtherInstruments : (own other : List Instrument) → RulesFault → Type 0
IsOtherInstruments own other (fault.Instrument k) = IsFirstOther (symbol_of own) (symbol_of other) k
IsOtherInstruments own other _ = ⊥

-- the file reads neither as participants nor as instruments; or as such, and they are others
abbrev pub IsNoFile : List ℕ → RulesFault → Type 0
IsNoFile text (fault.NoFile one other) = participants.IsFaultOf text one × instruments.IsFaultOf text other
IsNoFile text _ = ⊥

-- it reads as the one, and has a fault as the other
abbrev pub IsBadPart : List ℕ → RulesFault → Type 0
IsBadPart text (fault.BadParticipants why) = participants.IsFaultOf text why × ((file : List Instrument) × instruments.Reads text (Ok file))
IsBadPart text (fault.BadInstruments why) = instruments.IsFaultOf text why × ((file : ParticipantFile) × participants.Reads text (Ok file))
IsBadPart text _ = ⊥

abbrev pub IsRefused : List ℕ → Market → RulesFault → Type 0
IsRefused text own why =
    (why ≡ fault.Memory) ⊎ (IsNoFile text why ⊎ (IsBadPart text why
    ⊎ (((file : ParticipantFile) × participants.Reads text (Ok file) × IsOtherParticipants own.participants file why)
    ⊎ ((file : List Instrument) × instruments.Reads text (Ok file) × IsOtherInstruments own.instruments file why))))
