use Rattle.std.proofs.Common.{◌≡◌, refl, ℕ, ◌+◌, ℤ, pos, List, [], ◌∷◌, map, flat_map, Option, Some, None, codes}
use Rattle.std.specs.Fmt.{digits}
use Rattle.fix_dictionary.specs.declared.values.Side.TheVariants.{Buy, Sell}
use Rattle.venue_rules.specs.Run.{Input, answer_input, run}
use Rattle.venue_rules.proofs.ExampleInputs.{venue, alpha, beta, delta, start, swap, basis, two_and_a_half, sends, order, cancel, replace, market_data, cross, request, quote, withdraw, respond}
use Rattle.fix_dictionary.specs.declared.values.Side.{Side}
use Rattle.fix_dictionary.specs.declared.messages.App.{App}
use Rattle.fix_dictionary.specs.declared.messages.App.TheVariants.{NewOrderSingle, Quote, QuoteStatusReport, Unsupported, BusinessMessageReject}
use Rattle.venue_rules.specs.Facts.{History}
use Rattle.venue_rules.specs.Fixture.{fixture_instrument}
use Rattle.venue_rules.specs.Market.{Market}
use Rattle.venue_rules.specs.Messages.{message}
use Rattle.venue_rules.proofs.Spelling.{spelled}

-- Refusals, by message type, in the order in which their causes are checked.

-- the venue of the examples with a least quantity of 10
abbrev pub coarse : Market
coarse = record venue { instruments = record (fixture_instrument swap 15000) { least = 10 } ∷ record (fixture_instrument basis 15000) { least = 10 } ∷ [] }

-- a resting sell and a resting buy, a held side, an open request with a quote
abbrev pub before : History
before = (run coarse (
    sends beta 2 (order (codes "b1") swap Sell 60 two_and_a_half) start
    ∷ sends alpha 2 (order (codes "a1") basis Buy 10 (pos 1000000)) start
    ∷ sends delta 2 (cross (codes "c1") 2 (codes "x1") (codes "x2") basis 10 two_and_a_half) start
    ∷ sends alpha 3 (request (codes "q1") swap (Some Buy) 100 (codes "BETA" ∷ codes "GAMMA" ∷ codes "DELTA" ∷ codes "EPSILON" ∷ [])) start
    ∷ sends delta 3 (quote (codes "d1") (codes "R1") swap (Some (pos 2497500)) (Some two_and_a_half) None) start
    ∷ sends alpha 4 (request (codes "q2") swap None 100 (codes "BETA" ∷ codes "GAMMA" ∷ codes "DELTA" ∷ codes "EPSILON" ∷ [])) start
    ∷ sends delta 4 (quote (codes "d2") (codes "R2") swap (Some (pos 2497500)) None None) start ∷ [])).history

-- the replies to each message, were it the next one
abbrev pub said_to_each : List Input → List (List ℕ)
said_to_each is = flat_map (λ i. map (λ r. spelled (message r.what)) (answer_input coarse before i).replies) is

abbrev pub order_with : List ℕ → List ℕ → Side → ℕ → Option ℤ → Option ℕ → App
order_with id symbol side quantity price life = NewOrderSingle (record { order_id = id; link_id = None; symbol = symbol; side = side; quantity = quantity; order_type = 50; price = price; time_in_force = life; transact_time = None })

pub orders_refused : said_to_each (
    sends alpha 5 (order_with (codes "a1") (codes "X") Sell 1 None (Some 49)) (start + 1)
    ∷ sends alpha 5 (order_with (codes "a1") basis Sell 1 None (Some 49)) (start + 1)
    ∷ sends alpha 5 (order_with (codes "a2") basis Sell 1 None (Some 49)) (start + 1)
    ∷ sends alpha 5 (order_with (codes "a2") basis Sell 1 None (Some 48)) (start + 1)
    ∷ sends alpha 5 (order_with (codes "a2") basis Sell 1 (Some (pos 1)) None) (start + 1)
    ∷ sends alpha 5 (order_with (codes "a2") basis Sell 9 (Some (pos 1000000)) None) (start + 1)
    ∷ sends alpha 5 (order_with (codes "a2") basis Sell 10 (Some (pos 1000000)) None) (start + 1) ∷ [])
    ≡ codes "35=8|37=NONE|17=E4|150=8|39=8|55=X|54=2|151=0|14=0|11=a1|103=1|58=Unknown instrument|"
    ∷ codes "35=8|37=O2|17=E4|150=8|39=8|55=BASIS1Y|54=2|151=0|14=0|11=a1|103=6|58=Duplicate ClOrdID|"
    ∷ codes "35=8|37=NONE|17=E4|150=8|39=8|55=BASIS1Y|54=2|151=0|14=0|11=a2|103=11|58=Unsupported order|"
    ∷ codes "35=j|45=5|372=D|380=5|58=Price missing|"
    ∷ codes "35=8|37=NONE|17=E4|150=8|39=8|55=BASIS1Y|54=2|151=0|14=0|11=a2|103=99|58=Price off tick|"
    ∷ codes "35=8|37=NONE|17=E4|150=8|39=8|55=BASIS1Y|54=2|151=0|14=0|11=a2|103=13|58=Quantity below least|"
    ∷ codes "35=8|37=NONE|17=E4|150=8|39=8|55=BASIS1Y|54=2|151=0|14=0|11=a2|103=99|58=Linked order too recent|" ∷ []
unfolding digits
orders_refused = refl

pub changes_refused : said_to_each (
    sends delta 5 (cancel (codes "x1") (codes "nothing")) (start + 1)
    ∷ sends delta 5 (cancel (codes "x1") (codes "x1")) (start + 1)
    ∷ sends delta 5 (cancel (codes "x1") (codes "x2")) (start + 1)
    ∷ sends delta 5 (replace (codes "x3") (codes "x1") 10 two_and_a_half) (start + 1)
    ∷ sends beta 5 (replace (codes "b2") (codes "b1") 9 (pos 1)) (start + 1)
    ∷ sends beta 5 (replace (codes "b2") (codes "b1") 9 two_and_a_half) (start + 1) ∷ [])
    ≡ codes "35=9|37=NONE|11=x1|41=nothing|39=8|434=1|102=1|58=Unknown order|"
    ∷ codes "35=9|37=NONE|11=x1|41=x1|39=8|434=1|102=6|58=Duplicate ClOrdID|"
    ∷ codes "35=9|37=O3|11=x1|41=x2|39=0|434=1|102=6|58=Duplicate ClOrdID|"
    ∷ codes "35=9|37=NONE|11=x3|41=x1|39=8|434=2|102=99|58=Held side|"
    ∷ codes "35=9|37=O1|11=b2|41=b1|39=0|434=2|102=99|58=Price off tick|"
    ∷ codes "35=9|37=O1|11=b2|41=b1|39=0|434=2|102=99|58=Quantity below least|" ∷ []
unfolding digits
changes_refused = refl

-- the cross sent again names its first side, which rests; its held side has no number
pub crosses_refused : said_to_each (
    sends delta 5 (cross (codes "c1") 1 (codes "x1") (codes "x2") basis 10 two_and_a_half) (start + 1)
    ∷ sends delta 5 (cross (codes "c1") 1 (codes "y1") (codes "y2") basis 10 two_and_a_half) (start + 1)
    ∷ sends delta 5 (cross (codes "c2") 1 (codes "x1") (codes "y2") basis 10 two_and_a_half) (start + 1)
    ∷ sends delta 5 (cross (codes "c2") 3 (codes "y1") (codes "y2") basis 10 two_and_a_half) (start + 1)
    ∷ sends delta 5 (cross (codes "c2") 1 (codes "y1") (codes "y2") basis 9 two_and_a_half) (start + 1)
    ∷ sends delta 5 (cross (codes "c2") 1 (codes "y1") (codes "y2") basis 10 two_and_a_half) (start + 1) ∷ [])
    ≡ codes "35=8|37=NONE|17=E4|150=8|39=8|55=BASIS1Y|54=1|151=0|14=0|11=x1|103=6|58=Duplicate CrossID|"
    ∷ codes "35=8|37=O3|17=E5|150=8|39=8|55=BASIS1Y|54=2|151=0|14=0|11=x2|103=6|58=Duplicate CrossID|"
    ∷ codes "35=8|37=NONE|17=E4|150=8|39=8|55=BASIS1Y|54=1|151=0|14=0|11=y1|103=6|58=Duplicate CrossID|"
    ∷ codes "35=8|37=NONE|17=E5|150=8|39=8|55=BASIS1Y|54=2|151=0|14=0|11=y2|103=6|58=Duplicate CrossID|"
    ∷ codes "35=8|37=NONE|17=E4|150=8|39=8|55=BASIS1Y|54=1|151=0|14=0|11=x1|103=6|58=Duplicate ClOrdID|"
    ∷ codes "35=8|37=NONE|17=E5|150=8|39=8|55=BASIS1Y|54=2|151=0|14=0|11=y2|103=6|58=Duplicate ClOrdID|"
    ∷ codes "35=8|37=NONE|17=E4|150=8|39=8|55=BASIS1Y|54=1|151=0|14=0|11=y1|103=11|58=Unsupported order|"
    ∷ codes "35=8|37=NONE|17=E5|150=8|39=8|55=BASIS1Y|54=2|151=0|14=0|11=y2|103=11|58=Unsupported order|"
    ∷ codes "35=8|37=NONE|17=E4|150=8|39=8|55=BASIS1Y|54=1|151=0|14=0|11=y1|103=13|58=Quantity|"
    ∷ codes "35=8|37=NONE|17=E5|150=8|39=8|55=BASIS1Y|54=2|151=0|14=0|11=y2|103=13|58=Quantity|"
    ∷ codes "35=8|37=NONE|17=E4|150=8|39=8|55=BASIS1Y|54=1|151=0|14=0|11=y1|103=99|58=Linked order too recent|"
    ∷ codes "35=8|37=NONE|17=E5|150=8|39=8|55=BASIS1Y|54=2|151=0|14=0|11=y2|103=99|58=Linked order too recent|" ∷ []
unfolding digits
crosses_refused = refl

pub requests_refused : said_to_each (
    sends alpha 5 (request (codes "q1") (codes "X") None 1 []) (start + 1)
    ∷ sends alpha 5 (request (codes "q3") (codes "X") None 1 []) (start + 1)
    ∷ sends alpha 5 (request (codes "q3") swap None 9 []) (start + 1)
    ∷ sends alpha 5 (request (codes "q3") swap None 10 (codes "ALPHA" ∷ codes "ZETA" ∷ [])) (start + 1)
    ∷ sends alpha 5 (request (codes "q3") swap None 10 (codes "ALPHA" ∷ codes "BETA" ∷ codes "BETA" ∷ [])) (start + 1)
    ∷ sends alpha 5 (request (codes "q3") swap None 10 (codes "BETA" ∷ codes "BETA" ∷ [])) (start + 1)
    ∷ sends alpha 5 (request (codes "q3") swap None 10 (codes "BETA" ∷ codes "DELTA" ∷ [])) (start + 1) ∷ [])
    ≡ codes "35=AG|131=q1|658=99|146=1|55=X|58=Duplicate request|"
    ∷ codes "35=AG|131=q3|658=1|146=1|55=X|58=Unknown instrument|"
    ∷ codes "35=AG|131=q3|658=99|146=1|55=IRS5Y|58=Quantity below least|"
    ∷ codes "35=AG|131=q3|658=99|146=1|55=IRS5Y|58=Unknown participant|"
    ∷ codes "35=AG|131=q3|658=6|146=1|55=IRS5Y|58=Requester among recipients|"
    ∷ codes "35=AG|131=q3|658=99|146=1|55=IRS5Y|58=Recipient twice|"
    ∷ codes "35=AG|131=q3|658=99|146=1|55=IRS5Y|58=Too few recipients|" ∷ []
unfolding digits
requests_refused = refl

abbrev pub quote_with : List ℕ → List ℕ → Option ℕ → Option ℕ → App
quote_with id symbol kind size = Quote (record { quote_id = id; request_id = codes "R1"; quote_type = kind; parties = []; symbol = symbol; bid_price = None; offer_price = Some two_and_a_half; bid_size = None; offer_size = size; valid_until = Some start })

pub quotes_refused : said_to_each (
    sends delta 5 (quote (codes "d1") (codes "R9") basis None None None) (start + 30001)
    ∷ sends alpha 5 (quote (codes "d1") (codes "R1") basis None None None) (start + 30001)
    ∷ sends delta 5 (quote (codes "d1") (codes "R1") basis None None None) (start + 30001)
    ∷ sends delta 5 (quote (codes "d1") (codes "R1") basis None None None) (start + 30000)
    ∷ sends delta 5 (quote (codes "d1") (codes "R1") swap None None None) (start + 30000)
    ∷ sends delta 5 (quote_with (codes "d3") swap (Some 48) (Some 99)) (start + 1)
    ∷ sends delta 5 (quote (codes "d3") (codes "R1") swap (Some (pos 2502500)) (Some two_and_a_half) None) (start + 1)
    ∷ sends delta 5 (quote_with (codes "d3") swap (Some 49) (Some 99)) (start + 1)
    ∷ sends delta 5 (quote_with (codes "d3") swap (Some 49) (Some 100)) (start + 1) ∷ [])
    ≡ codes "35=AI|117=d1|131=R9|297=5|300=99|58=Unknown request|"
    ∷ codes "35=AI|117=d1|131=R1|55=IRS5Y|297=5|300=9|58=Not asked|"
    ∷ codes "35=AI|117=d1|131=R1|55=IRS5Y|297=5|300=4|58=Too late|"
    ∷ codes "35=AI|117=d1|131=R1|55=IRS5Y|297=5|300=1|58=Unknown instrument|"
    ∷ codes "35=AI|117=d1|131=R1|55=IRS5Y|297=5|300=6|58=Duplicate quote|"
    ∷ codes "35=AI|117=d3|131=R1|55=IRS5Y|297=5|300=99|58=Not tradeable|"
    ∷ codes "35=AI|117=d3|131=R1|55=IRS5Y|297=5|300=8|58=Invalid price|"
    ∷ codes "35=AI|117=d3|131=R1|55=IRS5Y|297=5|300=99|58=Size|"
    ∷ codes "35=AI|117=d3|131=R1|55=IRS5Y|297=5|300=4|58=Too late|" ∷ []
unfolding digits
quotes_refused = refl

pub responses_refused : said_to_each (
    sends beta 5 (respond (codes "h1") (codes "Q9") 2 None) (start + 1)
    ∷ sends beta 5 (respond (codes "h1") (codes "Q9") 1 None) (start + 1)
    ∷ sends beta 5 (respond (codes "h1") (codes "Q1") 1 None) (start + 1)
    ∷ sends alpha 5 (respond (codes "h1") (codes "Q1") 1 (Some Sell)) (start + 1)
    ∷ sends alpha 5 (respond (codes "h1") (codes "Q2") 1 (Some Buy)) (start + 1) ∷ [])
    ≡ codes "35=AI|117=Q9|693=h1|297=5|300=99|58=Unsupported response|"
    ∷ codes "35=AI|117=Q9|693=h1|297=9|"
    ∷ codes "35=AI|117=Q1|693=h1|297=5|300=9|58=Not yours|"
    ∷ codes "35=AI|117=Q1|131=q1|693=h1|55=IRS5Y|297=5|300=99|58=Side|"
    ∷ codes "35=AI|117=Q2|131=q2|693=h1|55=IRS5Y|297=5|300=8|58=Invalid price|" ∷ []
unfolding digits
responses_refused = refl

pub others_refused : said_to_each (
    sends delta 5 (withdraw None 5) (start + 1)
    ∷ sends delta 5 (withdraw (Some (codes "d9")) 5) (start + 1)
    ∷ sends delta 5 (withdraw (Some (codes "d1")) 6) (start + 1)
    ∷ sends delta 5 (market_data (codes "v1") (codes "X") 49) (start + 1)
    ∷ sends delta 5 (Unsupported (codes "AE")) (start + 1)
    ∷ sends delta 5 (QuoteStatusReport (record { quote_id = None; request_id = None; response_id = None; symbol = None; status = 0; reject_reason = None; text = None })) (start + 1)
    ∷ sends delta 5 (BusinessMessageReject (record { reference_number = 1; reference_type = codes "S"; reject_reason = 3; text = None })) (start + 1) ∷ [])
    ≡ codes "35=j|45=5|372=Z|380=5|58=Quote missing|"
    ∷ codes "35=AI|117=d9|297=9|"
    ∷ codes "35=AI|117=d1|297=5|300=99|58=Unsupported cancel|"
    ∷ codes "35=Y|262=v1|281=0|58=Unknown instrument|"
    ∷ codes "35=j|45=5|372=AE|380=3|58=Unsupported message type|"
    ∷ codes "35=j|45=5|372=AI|380=3|58=Unsupported message type|" ∷ []
unfolding digits
others_refused = refl
