use Rattle.std.proofs.Common.{ℕ, ℤ, pos, List, [], ◌∷◌, map, drop, Option, Some, None, codes}
use Rattle.fix_dictionary.specs.declared.values.Side.{Side}
use Rattle.fix_dictionary.specs.declared.values.Side.TheVariants.{Buy, Sell}
use Rattle.fix_dictionary.specs.declared.messages.App.{App}
use Rattle.fix_dictionary.specs.declared.messages.Party.{Party}
use Rattle.fix_dictionary.specs.declared.messages.App.TheVariants.{QuoteRequest, Quote, QuoteCancel, QuoteResponse, NewOrderSingle, OrderCancelRequest, OrderCancelReplaceRequest, NewOrderCross, MarketDataRequest}
use Rattle.venue_rules.specs.Fixture.{fixture_instruments, fixture_participants}
use Rattle.venue_rules.specs.Market.{Market}
use Rattle.venue_rules.specs.Run.{Input, Message, run}
use Rattle.venue_rules.specs.Messages.{message}
use Rattle.venue_rules.proofs.Spelling.{spelled}

-- the venue of the examples: linked orders wait for 15 seconds
abbrev pub venue : Market
venue = record { participants = fixture_participants; instruments = fixture_instruments 15000 }

abbrev pub alpha : ℕ
alpha = 0

abbrev pub beta : ℕ
beta = 1

abbrev pub gamma : ℕ
gamma = 2

abbrev pub delta : ℕ
delta = 3

abbrev pub epsilon : ℕ
epsilon = 4

-- 14:30:00 on 3 March 2025
abbrev pub start : ℕ
start = 1741012200000

abbrev pub swap : List ℕ
swap = codes "IRS5Y"

abbrev pub basis : List ℕ
basis = codes "BASIS1Y"

-- 2.5
abbrev pub two_and_a_half : ℤ
two_and_a_half = pos 2500000

-- a message numbered n
abbrev pub sends : ℕ → ℕ → App → ℕ → Input
sends who n app t = Message (record { from = who; item = record { era = 1; number = n; app = app } }) t

-- a limit order without time in force or link
abbrev pub order : List ℕ → List ℕ → Side → ℕ → ℤ → App
order id symbol side quantity price = NewOrderSingle (record { order_id = id; link_id = None; symbol = symbol; side = side; quantity = quantity; order_type = 50; price = Some price; time_in_force = None; transact_time = None })

abbrev pub fill_or_kill : List ℕ → List ℕ → Side → ℕ → ℤ → App
fill_or_kill id symbol side quantity price = NewOrderSingle (record { order_id = id; link_id = None; symbol = symbol; side = side; quantity = quantity; order_type = 50; price = Some price; time_in_force = Some 52; transact_time = None })

abbrev pub immediate : List ℕ → List ℕ → Side → ℕ → ℤ → App
immediate id symbol side quantity price = NewOrderSingle (record { order_id = id; link_id = None; symbol = symbol; side = side; quantity = quantity; order_type = 50; price = Some price; time_in_force = Some 51; transact_time = None })

abbrev pub linked_order : List ℕ → List ℕ → List ℕ → Side → ℕ → ℤ → App
linked_order link id symbol side quantity price = NewOrderSingle (record { order_id = id; link_id = Some link; symbol = symbol; side = side; quantity = quantity; order_type = 50; price = Some price; time_in_force = None; transact_time = None })

abbrev pub cancel : List ℕ → List ℕ → App
cancel id original = OrderCancelRequest (record { order_id = id; original_id = original })

abbrev pub replace : List ℕ → List ℕ → ℕ → ℤ → App
replace id original quantity price = OrderCancelReplaceRequest (record { order_id = id; original_id = original; quantity = quantity; order_type = 50; price = Some price })

-- the replies of a venue from the n-th on: addressee and text
abbrev pub said_in : Market → ℕ → List Input → List (ℕ × List ℕ)
said_in m n is = map (λ r. (r.to, spelled (message r.what))) (drop n (run m is).replies)

abbrev pub said_from : ℕ → List Input → List (ℕ × List ℕ)
said_from n is = said_in venue n is

-- a request for market data; SubscriptionRequestType (263) is a character
abbrev pub market_data : List ℕ → List ℕ → ℕ → App
market_data id symbol kind = MarketDataRequest (record { request_id = id; subscription_type = kind; depth = 0; entry_types = 48 ∷ 49 ∷ []; symbol = symbol })

-- a cross of one quantity and price, the buy first in the message; 550 is the side that enters first
abbrev pub cross : List ℕ → ℕ → List ℕ → List ℕ → List ℕ → ℕ → ℤ → App
cross id first buy sell symbol quantity price = NewOrderCross (record { cross_id = id; cross_type = 4; prioritization = first; first = record { side = Buy; order_id = buy; quantity = quantity }; second = record { side = Sell; order_id = sell; quantity = quantity }; symbol = symbol; order_type = 50; price = Some price })

-- a recipient of a request
abbrev pub recipient : List ℕ → Party
recipient name = record { id = name; source = 68; role = 35 }

abbrev pub request : List ℕ → List ℕ → Option Side → ℕ → List (List ℕ) → App
request id symbol side quantity names = QuoteRequest (record { request_id = id; symbol = symbol; side = side; quantity = quantity; parties = map recipient names })

abbrev pub quote : List ℕ → List ℕ → List ℕ → Option ℤ → Option ℤ → Option ℕ → App
quote id room symbol bid offer until = Quote (record { quote_id = id; request_id = room; quote_type = None; parties = []; symbol = symbol; bid_price = bid; offer_price = offer; bid_size = None; offer_size = None; valid_until = until })

abbrev pub withdraw : Option (List ℕ) → ℕ → App
withdraw id kind = QuoteCancel (record { quote_id = id; cancel_type = kind })

abbrev pub respond : List ℕ → List ℕ → ℕ → Option Side → App
respond id quote kind side = QuoteResponse (record { response_id = id; quote_id = quote; response_type = kind; side = side })
