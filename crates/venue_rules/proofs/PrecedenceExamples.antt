use Rattle.std.proofs.Common.{◌≡◌, refl, ℕ, ◌+◌, ℤ, pos, List, [], ◌∷◌, map, flat_map, Option, Some, None, codes}
use Rattle.std.specs.Fmt.{digits}
use Rattle.fix_dictionary.specs.declared.values.Side.{Side}
use Rattle.fix_dictionary.specs.declared.values.Side.TheVariants.{Buy, Sell}
use Rattle.fix_dictionary.specs.declared.messages.App.TheVariants.{NewOrderSingle, OrderCancelReplaceRequest, NewOrderCross, Quote, MarketDataRequest}
use Rattle.fix_dictionary.specs.declared.messages.CrossSide.{CrossSide}
use Rattle.venue_rules.specs.Facts.{History}
use Rattle.venue_rules.specs.Messages.{message}
use Rattle.venue_rules.specs.Run.{Input, answer_input, run, run_from}
use Rattle.venue_rules.proofs.ExampleInputs.{alpha, beta, gamma, delta, start, swap, basis, two_and_a_half, sends, order, request, quote, withdraw, respond}
use Rattle.venue_rules.proofs.RefusalExamples.{coarse, before, said_to_each}
use Rattle.venue_rules.proofs.Spelling.{spelled}

-- Where two causes hold, the one checked first is given.

-- the history after further inputs, and the replies to each message, were it the next one
abbrev pub after_more : History → List Input → History
after_more h is = (run_from coarse h is).history

abbrev pub said_then : History → List Input → List (List ℕ)
said_then h is = flat_map (λ i. map (λ r. spelled (message r.what)) (answer_input coarse h i).replies) is

-- an order that is no limit order and has no price
pub market_order_refused : said_to_each (sends alpha 5 (NewOrderSingle (record { order_id = codes "a2"; link_id = None; symbol = basis; side = Sell; quantity = 10; order_type = 49; price = None; time_in_force = None; transact_time = None })) (start + 1) ∷ [])
    ≡ codes "35=8|37=NONE|17=E4|150=8|39=8|55=BASIS1Y|54=2|151=0|14=0|11=a2|103=11|58=Unsupported order|" ∷ []
unfolding digits
market_order_refused = refl

-- replacements: a sell of 60 with 20 filled, and a related participant's buy below it

abbrev pub partly_filled : History
partly_filled = (run coarse (
    sends beta 2 (order (codes "b1") swap Sell 60 two_and_a_half) start
    ∷ sends alpha 2 (order (codes "a1") swap Buy 20 two_and_a_half) start
    ∷ sends gamma 2 (order (codes "g1") swap Buy 10 (pos 2497500)) start ∷ [])).history

abbrev pub replace_with : List ℕ → List ℕ → ℕ → ℕ → Option ℤ → Input
replace_with id original quantity kind price = sends beta 5 (OrderCancelReplaceRequest (record { order_id = id; original_id = original; quantity = quantity; order_type = kind; price = price })) (start + 1)

pub replacements_in_order : said_then partly_filled (
    replace_with (codes "b1") (codes "zz") 9 49 None
    ∷ replace_with (codes "b1") (codes "b1") 9 49 None
    ∷ replace_with (codes "b2") (codes "b1") 9 49 None
    ∷ replace_with (codes "b2") (codes "b1") 9 50 None
    ∷ replace_with (codes "b2") (codes "b1") 9 50 (Some (pos 1))
    ∷ replace_with (codes "b2") (codes "b1") 9 50 (Some two_and_a_half)
    ∷ replace_with (codes "b2") (codes "b1") 20 50 (Some (pos 2497500))
    ∷ replace_with (codes "b2") (codes "b1") 21 50 (Some (pos 2497500)) ∷ [])
    ≡ codes "35=9|37=NONE|11=b1|41=zz|39=8|434=2|102=1|58=Unknown order|"
    ∷ codes "35=9|37=O1|11=b1|41=b1|39=1|434=2|102=6|58=Duplicate ClOrdID|"
    ∷ codes "35=9|37=O1|11=b2|41=b1|39=1|434=2|102=99|58=Unsupported order|"
    ∷ codes "35=j|45=5|372=G|380=5|58=Price missing|"
    ∷ codes "35=9|37=O1|11=b2|41=b1|39=1|434=2|102=99|58=Price off tick|"
    ∷ codes "35=9|37=O1|11=b2|41=b1|39=1|434=2|102=99|58=Quantity below least|"
    ∷ codes "35=9|37=O1|11=b2|41=b1|39=1|434=2|102=99|58=Quantity already filled|"
    ∷ codes "35=9|37=O1|11=b2|41=b1|39=1|434=2|102=99|58=Linked order too recent|" ∷ []
unfolding digits
replacements_in_order = refl

-- a duplicate is checked before a held side
pub held_replacement_duplicate : said_to_each (sends delta 5 (OrderCancelReplaceRequest (record { order_id = codes "x2"; original_id = codes "x1"; quantity = 10; order_type = 50; price = Some two_and_a_half })) (start + 1) ∷ [])
    ≡ codes "35=9|37=NONE|11=x2|41=x1|39=8|434=2|102=6|58=Duplicate ClOrdID|" ∷ []
unfolding digits
held_replacement_duplicate = refl

-- crosses of a participant with the resting sell x2 and the held buy x1

abbrev pub side_of : Side → List ℕ → ℕ → CrossSide
side_of side id quantity = record { side = side; order_id = id; quantity = quantity }

abbrev pub cross_with : List ℕ → List ℕ → ℕ → ℕ → CrossSide → CrossSide → ℕ → Option ℤ → Input
cross_with id symbol type first one other kind price = sends delta 5 (NewOrderCross (record { cross_id = id; cross_type = type; prioritization = first; first = one; second = other; symbol = symbol; order_type = kind; price = price })) (start + 1)

pub crosses_in_order : said_then before (
    cross_with (codes "c1") (codes "X") 4 1 (side_of Buy (codes "x1") 10) (side_of Sell (codes "y2") 10) 50 (Some two_and_a_half)
    ∷ cross_with (codes "c1") basis 4 1 (side_of Buy (codes "x1") 10) (side_of Sell (codes "y2") 10) 50 (Some two_and_a_half)
    ∷ cross_with (codes "c2") basis 1 1 (side_of Buy (codes "y1") 10) (side_of Sell (codes "x2") 10) 50 None
    ∷ cross_with (codes "c2") basis 1 1 (side_of Buy (codes "y1") 10) (side_of Sell (codes "y1") 10) 50 None
    ∷ cross_with (codes "c2") basis 1 1 (side_of Buy (codes "y1") 10) (side_of Sell (codes "y2") 10) 50 None
    ∷ cross_with (codes "c2") basis 4 1 (side_of Buy (codes "y1") 10) (side_of Sell (codes "y2") 10) 49 None ∷ [])
    ≡ codes "35=8|37=NONE|17=E4|150=8|39=8|55=X|54=1|151=0|14=0|11=x1|103=1|58=Unknown instrument|"
    ∷ codes "35=8|37=NONE|17=E5|150=8|39=8|55=X|54=2|151=0|14=0|11=y2|103=1|58=Unknown instrument|"
    ∷ codes "35=8|37=NONE|17=E4|150=8|39=8|55=BASIS1Y|54=1|151=0|14=0|11=x1|103=6|58=Duplicate CrossID|"
    ∷ codes "35=8|37=NONE|17=E5|150=8|39=8|55=BASIS1Y|54=2|151=0|14=0|11=y2|103=6|58=Duplicate CrossID|"
    ∷ codes "35=8|37=NONE|17=E4|150=8|39=8|55=BASIS1Y|54=1|151=0|14=0|11=y1|103=6|58=Duplicate ClOrdID|"
    ∷ codes "35=8|37=O3|17=E5|150=8|39=8|55=BASIS1Y|54=2|151=0|14=0|11=x2|103=6|58=Duplicate ClOrdID|"
    ∷ codes "35=8|37=NONE|17=E4|150=8|39=8|55=BASIS1Y|54=1|151=0|14=0|11=y1|103=6|58=Duplicate ClOrdID|"
    ∷ codes "35=8|37=NONE|17=E5|150=8|39=8|55=BASIS1Y|54=2|151=0|14=0|11=y1|103=6|58=Duplicate ClOrdID|"
    ∷ codes "35=8|37=NONE|17=E4|150=8|39=8|55=BASIS1Y|54=1|151=0|14=0|11=y1|103=11|58=Unsupported order|"
    ∷ codes "35=8|37=NONE|17=E5|150=8|39=8|55=BASIS1Y|54=2|151=0|14=0|11=y2|103=11|58=Unsupported order|"
    ∷ codes "35=8|37=NONE|17=E4|150=8|39=8|55=BASIS1Y|54=1|151=0|14=0|11=y1|103=11|58=Unsupported order|"
    ∷ codes "35=8|37=NONE|17=E5|150=8|39=8|55=BASIS1Y|54=2|151=0|14=0|11=y2|103=11|58=Unsupported order|" ∷ []
unfolding digits
crosses_in_order = refl

pub cross_terms_in_order : said_then before (
    cross_with (codes "c2") basis 4 1 (side_of Buy (codes "y1") 10) (side_of Buy (codes "y2") 10) 50 None
    ∷ cross_with (codes "c2") basis 4 1 (side_of Buy (codes "y1") 10) (side_of Buy (codes "y2") 11) 50 (Some (pos 1))
    ∷ cross_with (codes "c2") basis 4 1 (side_of Buy (codes "y1") 10) (side_of Sell (codes "y2") 11) 50 (Some (pos 2500001))
    ∷ cross_with (codes "c2") basis 4 1 (side_of Buy (codes "y1") 10) (side_of Sell (codes "y2") 11) 50 (Some two_and_a_half) ∷ [])
    ≡ codes "35=j|45=5|372=s|380=5|58=Price missing|"
    ∷ codes "35=8|37=NONE|17=E4|150=8|39=8|55=BASIS1Y|54=1|151=0|14=0|11=y1|103=99|58=One buy and one sell|"
    ∷ codes "35=8|37=NONE|17=E5|150=8|39=8|55=BASIS1Y|54=1|151=0|14=0|11=y2|103=99|58=One buy and one sell|"
    ∷ codes "35=8|37=NONE|17=E4|150=8|39=8|55=BASIS1Y|54=1|151=0|14=0|11=y1|103=99|58=Price off tick|"
    ∷ codes "35=8|37=NONE|17=E5|150=8|39=8|55=BASIS1Y|54=2|151=0|14=0|11=y2|103=99|58=Price off tick|"
    ∷ codes "35=8|37=NONE|17=E4|150=8|39=8|55=BASIS1Y|54=1|151=0|14=0|11=y1|103=13|58=Quantity|"
    ∷ codes "35=8|37=NONE|17=E5|150=8|39=8|55=BASIS1Y|54=2|151=0|14=0|11=y2|103=13|58=Quantity|" ∷ []
unfolding digits
cross_terms_in_order = refl

-- a request below the least quantity, to a participant that is not in the file
pub request_below_least : said_to_each (sends alpha 5 (request (codes "q3") swap None 9 (codes "ZETA" ∷ [])) (start + 1) ∷ [])
    ≡ codes "35=AG|131=q3|658=99|146=1|55=IRS5Y|58=Quantity below least|" ∷ []
unfolding digits
request_below_least = refl

-- quotes

abbrev pub quote_of : List ℕ → List ℕ → Option ℤ → Option ℤ → Option ℕ → Option ℕ → Input
quote_of id room bid offer kind size = sends delta 5 (Quote (record { quote_id = id; request_id = room; quote_type = kind; parties = []; symbol = swap; bid_price = bid; offer_price = offer; bid_size = size; offer_size = None; valid_until = Some start })) (start + 1)

pub quotes_in_order : said_then before (
    quote_of (codes "d1") (codes "R1") None None (Some 48) (Some 99)
    ∷ quote_of (codes "d3") (codes "R1") None None (Some 48) (Some 99)
    ∷ quote_of (codes "d3") (codes "R1") (Some two_and_a_half) None None (Some 99)
    ∷ quote_of (codes "d3") (codes "R1") (Some (pos 1)) (Some two_and_a_half) None (Some 99)
    ∷ quote_of (codes "d3") (codes "R2") None None None (Some 99)
    ∷ quote_of (codes "d3") (codes "R2") (Some two_and_a_half) None None (Some 99) ∷ [])
    ≡ codes "35=AI|117=d1|131=R1|55=IRS5Y|297=5|300=6|58=Duplicate quote|"
    ∷ codes "35=AI|117=d3|131=R1|55=IRS5Y|297=5|300=99|58=Not tradeable|"
    ∷ codes "35=AI|117=d3|131=R1|55=IRS5Y|297=5|300=8|58=Invalid price|"
    ∷ codes "35=AI|117=d3|131=R1|55=IRS5Y|297=5|300=8|58=Invalid price|"
    ∷ codes "35=AI|117=d3|131=R2|55=IRS5Y|297=5|300=8|58=Invalid price|"
    ∷ codes "35=AI|117=d3|131=R2|55=IRS5Y|297=5|300=99|58=Size|" ∷ []
unfolding digits
quotes_in_order = refl

-- a maker asked to sell gives a bid; a bid and an offer may be equal
pub sides_of_quotes : said_then (after_more before (sends alpha 5 (request (codes "q3") swap (Some Sell) 100 (codes "BETA" ∷ codes "GAMMA" ∷ codes "DELTA" ∷ codes "EPSILON" ∷ [])) start ∷ [])) (
    sends delta 5 (quote (codes "d3") (codes "R3") swap None (Some two_and_a_half) None) (start + 1)
    ∷ sends delta 5 (quote (codes "d3") (codes "R2") swap (Some two_and_a_half) (Some two_and_a_half) None) (start + 1) ∷ [])
    ≡ codes "35=AI|117=d3|131=R3|55=IRS5Y|297=5|300=8|58=Invalid price|"
    ∷ codes "35=AI|117=d3|131=R2|55=IRS5Y|297=0|"
    ∷ codes "35=S|117=Q3|131=q2|537=1|453=1|448=DELTA|447=D|452=35|55=IRS5Y|132=2.5|133=2.5|134=100|135=100|62=20250303-14:30:30.000|" ∷ []
unfolding digits
sides_of_quotes = refl

-- quote responses: to a quote withdrawn, then past its end, then traded

abbrev pub withdrawn_quote : History
withdrawn_quote = after_more before (sends delta 5 (withdraw (Some (codes "d1")) 5) (start + 1) ∷ [])

abbrev pub traded_room : History
traded_room = after_more withdrawn_quote (sends beta 5 (quote (codes "b1") (codes "R1") swap None (Some two_and_a_half) None) (start + 1) ∷ sends alpha 6 (respond (codes "h1") (codes "Q3") 1 None) (start + 1) ∷ [])

pub response_to_withdrawn : said_then withdrawn_quote (sends alpha 7 (respond (codes "h2") (codes "Q1") 1 None) (start + 30001) ∷ [])
    ≡ codes "35=AI|117=Q1|131=q1|693=h2|55=IRS5Y|297=17|" ∷ []
unfolding digits
response_to_withdrawn = refl

pub responses_to_traded : said_then traded_room (
    sends beta 7 (respond (codes "h2") (codes "Q1") 1 None) (start + 2)
    ∷ sends alpha 7 (respond (codes "h2") (codes "Q1") 1 None) (start + 2) ∷ [])
    ≡ codes "35=AI|117=Q1|693=h2|297=5|300=9|58=Not yours|"
    ∷ codes "35=AI|117=Q1|131=q1|693=h2|55=IRS5Y|297=9|" ∷ []
unfolding digits
responses_to_traded = refl

-- a pass after the quote's end, and one that names the other side
pub passes : said_then before (
    sends alpha 7 (respond (codes "h2") (codes "Q1") 6 None) (start + 30001)
    ∷ sends alpha 7 (respond (codes "h2") (codes "Q1") 6 (Some Sell)) (start + 30000) ∷ [])
    ≡ codes "35=AI|117=Q1|131=q1|693=h2|55=IRS5Y|297=7|"
    ∷ codes "35=AI|117=Q1|131=q1|693=h2|55=IRS5Y|297=11|"
    ∷ codes "35=AI|117=d1|131=R1|55=IRS5Y|297=11|" ∷ []
unfolding digits
passes = refl

-- market data

abbrev pub data_with : ℕ → ℕ → Input
data_with kind depth = sends delta 5 (MarketDataRequest (record { request_id = codes "v1"; subscription_type = kind; depth = depth; entry_types = 48 ∷ []; symbol = swap })) (start + 1)

pub market_data_in_order : said_then before (data_with 49 1 ∷ data_with 48 1 ∷ [])
    ≡ codes "35=Y|262=v1|281=4|58=Snapshots only|" ∷ codes "35=Y|262=v1|281=5|58=Full depth only|" ∷ []
unfolding digits
market_data_in_order = refl
