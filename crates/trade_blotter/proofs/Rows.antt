-- Worked rows: the names of the fields; a trade in the book, and in a room with orders shown; and one of a party whose
-- name holds a quote.
use Rattle.std.proofs.Common.{◌≡◌, refl, pos, [], ◌∷◌, None, Some, codes}
use Rattle.std.specs.Fmt.{digits}
use Rattle.csv.specs.Writing.{escaped, fields_text, is_blank, row_text}
use Rattle.venue_rules.specs.Fixture.{fixture_instruments, fixture_participants}
use Rattle.venue_rules.specs.Market.{Market}
use Rattle.trade_blotter.specs.Table.{field_names, setup, trade_fields}

abbrev market : Market
market = record { participants = fixture_participants; instruments = fixture_instruments 15_000 }

pub names : row_text setup field_names ≡ codes "trade,kind,instrument,quantity,price,buyer,seller,room,asked,first,shown\r\n"
unfolding escaped fields_text is_blank
names = refl

pub trade_in_the_book : row_text setup (trade_fields market (record { number = 1; instrument = 0; quantity = 60; price = pos 2_500_000; buyer = 0; seller = 1; room = None }) None)
    ≡ codes "T1,book,IRS5Y,60,2.5,ALPHA,BETA,,,,\r\n"
unfolding digits escaped fields_text is_blank
trade_in_the_book = refl

pub trade_with_orders_shown : row_text setup (trade_fields market (record { number = 3; instrument = 0; quantity = 100; price = pos 2_500_000; buyer = 0; seller = 4; room = Some 1 })
    (Some (record { number = 1; requester = 0; asked = 1 ∷ 2 ∷ 3 ∷ 4 ∷ []; first = 1; shown = record { order = 2; left = 30 } ∷ record { order = 4; left = 5 } ∷ [] })))
    ≡ codes "T3,rfq,IRS5Y,100,2.5,ALPHA,EPSILON,R1,\"BETA,GAMMA,DELTA,EPSILON\",Q1,\"O2x30,O4x5\"\r\n"
unfolding digits escaped fields_text is_blank
trade_with_orders_shown = refl

pub quote_in_a_name : row_text setup (codes "T1" ∷ codes "A\"B" ∷ []) ≡ codes "T1,\"A\"\"B\"\r\n"
unfolding escaped fields_text is_blank
quote_in_a_name = refl
