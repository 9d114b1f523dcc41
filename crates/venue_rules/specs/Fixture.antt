use Rattle.std.specs.Prelude.{ℕ, List, [], ◌∷◌, codes}
use Rattle.participants.specs.ParticipantFile.{ParticipantFile}
use Rattle.instruments.specs.declared.instruments.Instrument.{Instrument}

-- the venue SEF with five participants; BETA and GAMMA are related
abbrev pub fixture_participants : ParticipantFile
fixture_participants = record { venue = codes "SEF"; names = codes "ALPHA" ∷ codes "BETA" ∷ codes "GAMMA" ∷ codes "DELTA" ∷ codes "EPSILON" ∷ []; pairs = (1, 2) ∷ [] }

-- tick 0.0025, least quantity 1, requests open for 30 seconds
abbrev pub fixture_instrument : List ℕ → ℕ → Instrument
fixture_instrument symbol delay = record { symbol = symbol; tick = 2500; least = 1; request_life = 30; delay = delay }

-- two such instruments, with this delay between linked orders
abbrev pub fixture_instruments : ℕ → List Instrument
fixture_instruments delay = fixture_instrument (codes "IRS5Y") delay ∷ fixture_instrument (codes "BASIS1Y") delay ∷ []
