-- The two days of examples/, as inputs.
use Rattle.std.proofs.Common.{ℕ, ℤ, pos, negsuc, ◌+◌, List, [], ◌∷◌, ◌++◌, map, Option, Some, None, codes}
use Rattle.fix_dictionary.specs.declared.values.Side.{Side}
use Rattle.fix_dictionary.specs.declared.values.Side.TheVariants.{Buy, Sell}
use Rattle.fix_dictionary.specs.declared.messages.App.{App}
use Rattle.fix_dictionary.specs.declared.messages.App.TheVariants.{QuoteRequest, Quote, QuoteCancel, QuoteResponse, NewOrderSingle, OrderCancelRequest, OrderCancelReplaceRequest, NewOrderCross}
use Rattle.fix_dictionary.specs.declared.messages.Party.{Party}
use Rattle.participants.specs.ParticipantFile.{ParticipantFile}
use Rattle.venue_rules.specs.Fixture.{fixture_instrument, fixture_participants}
use Rattle.venue_rules.specs.Market.{Market}
use Rattle.venue_rules.specs.Run.{Input, Message, Tick}

-- linked orders wait for 15 seconds in the one, and for a second in the other
abbrev pub venue : Market
venue = record { participants = fixture_participants; instruments = fixture_instrument (codes "IRS5Y") 15000 ∷ fixture_instrument (codes "BASIS1Y") 1000 ∷ [] }

abbrev pub alpha : ℕ
alpha = 0

abbrev pub beta : ℕ
beta = 1

abbrev pub gamma : ℕ
gamma = 2

abbrev pub delta : ℕ
delta = 3

abbrev pub epsilon : ℕ
epsilon = 4

abbrev pub zeta : ℕ
zeta = 5

abbrev pub swap : List ℕ
swap = codes "IRS5Y"

abbrev pub basis : List ℕ
basis = codes "BASIS1Y"

abbrev pub sends : ℕ → ℕ → App → ℕ → Input
sends who n app t = Message (record { from = who; item = record { era = 1; number = n; app = app } }) t

-- a limit order with this time in force (59)
abbrev pub order : List ℕ → List ℕ → Side → ℕ → ℤ → Option ℕ → App
order id symbol side quantity price life = NewOrderSingle (record { order_id = id; link_id = None; symbol = symbol; side = side; quantity = quantity; order_type = 50; price = Some price; time_in_force = life; transact_time = None })

abbrev pub replace : List ℕ → List ℕ → ℕ → ℤ → App
replace id original quantity price = OrderCancelReplaceRequest (record { order_id = id; original_id = original; quantity = quantity; order_type = 50; price = Some price })

abbrev pub cancel : List ℕ → List ℕ → App
cancel id original = OrderCancelRequest (record { order_id = id; original_id = original })

abbrev pub asked_party : List ℕ → Party
asked_party name = record { id = name; source = 68; role = 35 }

-- a request to buy
abbrev pub request : List ℕ → ℕ → List (List ℕ) → App
request id quantity names = QuoteRequest (record { request_id = id; symbol = swap; side = Some Buy; quantity = quantity; parties = map asked_party names })

-- an offer in the first request, with this end (62)
abbrev pub offer : List ℕ → ℤ → Option ℕ → App
offer id price end = Quote (record { quote_id = id; request_id = codes "R1"; quote_type = None; parties = []; symbol = swap; bid_price = None; offer_price = Some price; bid_size = None; offer_size = None; valid_until = end })

abbrev pub withdraw : List ℕ → App
withdraw id = QuoteCancel (record { quote_id = Some id; cancel_type = 5 })

abbrev pub respond : List ℕ → List ℕ → ℕ → Option Side → App
respond id quote kind side = QuoteResponse (record { response_id = id; quote_id = quote; response_type = kind; side = side })

-- 14:30:00 on 3 March 2025
abbrev pub start : ℕ
start = 1741012200000

abbrev pub two_and_a_half : ℤ
two_and_a_half = pos 2500000

abbrev pub cross : App
cross = NewOrderCross (record { cross_id = codes "c1"; cross_type = 4; prioritization = 1; first = record { side = Buy; order_id = codes "x1"; quantity = 10 }; second = record { side = Sell; order_id = codes "x2"; quantity = 10 }; symbol = swap; order_type = 50; price = Some (pos 2400000) })

-- examples/sample_day
abbrev pub sample_day : List Input
sample_day =
    sends beta 2 (order (codes "b1") swap Sell 60 two_and_a_half None) start
    ∷ sends delta 2 (order (codes "d1") swap Sell 70 two_and_a_half None) (start + 1)
    ∷ sends alpha 2 (order (codes "a1") swap Buy 100 two_and_a_half None) (start + 1)
    ∷ sends alpha 3 (order (codes "a2") basis Sell 1 (negsuc 249999) None) (start + 2)
    ∷ sends gamma 2 (order (codes "g1") swap Buy 31 two_and_a_half (Some 52)) (start + 2)
    ∷ sends alpha 4 (request (codes "q1") 100 (codes "BETA" ∷ codes "GAMMA" ∷ codes "DELTA" ∷ codes "EPSILON" ∷ [])) (start + 10000)
    ∷ sends epsilon 2 (offer (codes "e1") two_and_a_half None) (start + 12500)
    ∷ sends alpha 5 (respond (codes "h1") (codes "Q1") 1 (Some Buy)) (start + 15000)
    ∷ sends alpha 6 cross (start + 20000)
    ∷ Tick (start + 35000)
    ∷ sends gamma 3 (order (codes "g2") basis Buy 5 (negsuc 999999) None) (start + 40000)
    ∷ sends beta 3 (order (codes "b2") basis Sell 5 (negsuc 999999) None) (start + 40999)
    ∷ sends beta 2 (order (codes "b3") basis Sell 5 (negsuc 999999) None) (start + 41000)
    ∷ []

-- 9:00 on 4 March 2025
abbrev pub morning : ℕ
morning = 1741078800000

abbrev pub six : ParticipantFile
six = record { venue = codes "SEF"; names = codes "ALPHA" ∷ codes "BETA" ∷ codes "GAMMA" ∷ codes "DELTA" ∷ codes "EPSILON" ∷ codes "ZETA" ∷ []; pairs = (1, 2) ∷ [] }

abbrev pub quotes_venue : Market
quotes_venue = record { participants = six; instruments = fixture_instrument swap 15000 ∷ [] }

-- the first rows of examples/quotes_day
abbrev pub five_offers : List Input
five_offers =
    sends alpha 2 (request (codes "q1") 100 (codes "BETA" ∷ codes "GAMMA" ∷ codes "DELTA" ∷ codes "EPSILON" ∷ codes "ZETA" ∷ [])) morning
    ∷ sends beta 2 (offer (codes "b1") (pos 2505000) None) (morning + 1000)
    ∷ sends gamma 2 (offer (codes "g1") (pos 2497500) (Some (morning + 4000))) (morning + 2000)
    ∷ sends delta 2 (offer (codes "d1") (pos 2500000) None) (morning + 3000)
    ∷ sends epsilon 2 (offer (codes "e1") (pos 2507500) None) (morning + 4000)
    ∷ sends zeta 2 (offer (codes "z1") (pos 2502500) None) (morning + 5000)
    ∷ []

-- examples/quotes_day
abbrev pub quotes_day : List Input
quotes_day = five_offers ++
    sends beta 3 (offer (codes "b2") (pos 2510000) None) (morning + 6000)
    ∷ sends delta 3 (withdraw (codes "d1")) (morning + 7000)
    ∷ sends alpha 3 (respond (codes "h1") (codes "Q4") 6 None) (morning + 8000)
    ∷ sends alpha 4 (respond (codes "h2") (codes "Q5") 1 None) (morning + 9000)
    ∷ []
