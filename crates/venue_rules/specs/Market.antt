use Rattle.std.specs.Prelude.{List}
use Rattle.participants.specs.ParticipantFile.{ParticipantFile}
use Rattle.instruments.specs.declared.instruments.Instrument.{Instrument}
use Rattle.venue_rules.specs.declared.market.Market.{Market as Files}

-- participants and instruments, as the two files give them
pub record Market : Type 0 where
  pub participants : ParticipantFile
  pub instruments : List Instrument

-- the market of two files
abbrev pub market : ParticipantFile → List Instrument → Market
market participants instruments = record { participants = participants; instruments = instruments }

-- the market of the files lent
abbrev pub market_of : Files → Market
market_of files = market files.participants.now files.instruments.now
