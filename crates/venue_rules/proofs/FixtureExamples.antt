use Rattle.std.proofs.Common.{◌≡◌, refl, true, false, length, Some, None, codes}
use Rattle.std.specs.Fmt.{digits}
use Rattle.participants.specs.Relations.{find_participant, name_of, related}
use Rattle.participants.specs.Rows.{is_participant_file}
use Rattle.instruments.specs.Listing.{delay_of, instrument_of, least_of, request_life_of, symbol_of, tick_of}
use Rattle.instruments.specs.Rows.{is_instrument_file}
use Rattle.venue_rules.specs.Fixture.{fixture_instruments, fixture_participants}
use Rattle.venue_rules.specs.Rooms.{printed}

-- The small market of the examples, and the venue's printed numbers.

pub five_participants : (length fixture_participants.names ≡ 5) × (fixture_participants.venue ≡ codes "SEF") × (find_participant fixture_participants (codes "EPSILON") ≡ Some 4) × (find_participant fixture_participants (codes "SEF") ≡ None) × (name_of fixture_participants 3 ≡ codes "DELTA")
five_participants = (refl, refl, refl, refl, refl)

pub two_related : (related fixture_participants 2 1 ≡ true) × (related fixture_participants 1 2 ≡ true) × (related fixture_participants 0 1 ≡ false)
two_related = (refl, refl, refl)

pub two_instruments : (length (fixture_instruments 15000) ≡ 2) × (instrument_of (fixture_instruments 15000) (codes "BASIS1Y") ≡ 1) × (symbol_of (fixture_instruments 15000) 1 ≡ codes "BASIS1Y") × (tick_of (fixture_instruments 15000) 1 ≡ 2500) × (least_of (fixture_instruments 15000) 1 ≡ 1)
    × (request_life_of (fixture_instruments 15000) 0 ≡ 30000) × (delay_of (fixture_instruments 15000) 0 ≡ 15000)
two_instruments = (refl, refl, refl, refl, refl, refl, refl)

pub rules_of_files : (is_participant_file fixture_participants ≡ true) × (is_instrument_file (fixture_instruments 1000) ≡ true) × (is_instrument_file (fixture_instruments 999) ≡ false)
rules_of_files = (refl, refl, refl)

pub printed_numbers : (printed 84 907 ≡ codes "T907") × (printed 79 0 ≡ codes "O0")
unfolding digits
printed_numbers = (refl, refl)
