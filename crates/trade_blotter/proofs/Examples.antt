-- Worked lines: trades in the book, and in a room with nothing and with an order shown.
use Rattle.std.proofs.Common.{◌≡◌, refl, pos, negsuc, [], ◌∷◌, None, Some, codes}
use Rattle.std.specs.Fmt.{digits}
use Rattle.venue_rules.specs.Fixture.{fixture_instruments, fixture_participants}
use Rattle.venue_rules.specs.Market.{Market}
use Rattle.trade_blotter.specs.Line.{line}

abbrev market : Market
market = record { participants = fixture_participants; instruments = fixture_instruments 15_000 }

pub trade_in_the_book : line market (record { number = 1; instrument = 0; quantity = 60; price = pos 2_500_000; buyer = 0; seller = 1; room = None }) None
    ≡ codes "T1 book IRS5Y 60 @ 2.5 buyer ALPHA seller BETA\n"
unfolding digits
trade_in_the_book = refl

pub trade_below_zero : line market (record { number = 2; instrument = 1; quantity = 1; price = negsuc 249_999; buyer = 3; seller = 0; room = None }) None
    ≡ codes "T2 book BASIS1Y 1 @ -0.25 buyer DELTA seller ALPHA\n"
unfolding digits
trade_below_zero = refl

pub trade_with_nothing_shown : line market (record { number = 1; instrument = 0; quantity = 100; price = pos 2_500_000; buyer = 0; seller = 3; room = Some 1 })
    (Some (record { number = 1; requester = 0; asked = 1 ∷ 2 ∷ 3 ∷ 4 ∷ []; first = 1; shown = [] }))
    ≡ codes "T1 rfq IRS5Y 100 @ 2.5 buyer ALPHA seller DELTA room R1 asked BETA,GAMMA,DELTA,EPSILON first Q1 shown none\n"
unfolding digits
trade_with_nothing_shown = refl

pub trade_with_orders_shown : line market (record { number = 3; instrument = 0; quantity = 100; price = pos 2_500_000; buyer = 0; seller = 4; room = Some 1 })
    (Some (record { number = 1; requester = 0; asked = 1 ∷ 2 ∷ 3 ∷ 4 ∷ []; first = 1; shown = record { order = 2; left = 30 } ∷ record { order = 4; left = 5 } ∷ [] }))
    ≡ codes "T3 rfq IRS5Y 100 @ 2.5 buyer ALPHA seller EPSILON room R1 asked BETA,GAMMA,DELTA,EPSILON first Q1 shown O2x30,O4x5\n"
unfolding digits
trade_with_orders_shown = refl
