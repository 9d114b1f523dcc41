-- A worked example: the refused order of BETA in the sample day.
use Rattle.std.specs.Prelude.{◌≡◌, ℕ, ℤ, pos, negsuc, true, false, List, [], ◌∷◌, codes, Option, Some, None}
use Rattle.std.specs.List.{flat_map}
use Rattle.fix_dictionary.specs.declared.values.Side.{Side}
use Rattle.fix_dictionary.specs.declared.values.Side.TheVariants.{Buy, Sell}
use Rattle.fix_dictionary.specs.declared.messages.App.{App}
use Rattle.fix_dictionary.specs.declared.messages.App.TheVariants.{QuoteRequest, Quote, QuoteResponse, NewOrderSingle, NewOrderCross}
use Rattle.fix_dictionary.specs.declared.messages.Party.{Party}
use Rattle.instruments.specs.Listing.{delay_of, instrument_of}
use Rattle.venue_rules.specs.declared.replies.Reply.{Reply}
use Rattle.venue_rules.specs.Facts.{History}
use Rattle.venue_rules.specs.Fixture.{fixture_instrument, fixture_participants}
use Rattle.venue_rules.specs.Market.{Market}
use Rattle.venue_rules.specs.Run.{Input, Message, Tick, answer_input, run}
use Rattle.refusal_causes.specs.Places.{waits}
use Rattle.refusal_causes.specs.Printed.{met_lines, verdict}
use Rattle.refusal_causes.specs.Why.{count_at, place_at}

-- five participants, of whom BETA and GAMMA are related; linked orders in BASIS1Y wait for a second
abbrev pub market : Market
market = record { participants = fixture_participants; instruments = fixture_instrument (codes "IRS5Y") 15000 ∷ fixture_instrument (codes "BASIS1Y") 1000 ∷ [] }

abbrev pub sends : (who number : ℕ) → App → ℕ → Input
sends who number app t = Message (record { from = who; item = record { era = 1; number = number; app = app } }) t

abbrev pub order : (id symbol : List ℕ) → Side → ℕ → ℤ → Option ℕ → App
order id symbol side quantity price life = NewOrderSingle (record { order_id = id; link_id = None; symbol = symbol; side = side; quantity = quantity; order_type = 50; price = Some price; time_in_force = life; transact_time = None })

-- a recipient of a request
abbrev pub asked : List ℕ → Party
asked name = record { id = name; source = 68; role = 35 }

-- the rows before it; the first at 14:30:00 on 3 March 2025
abbrev pub earlier : List Input
earlier =
    sends 1 2 (order (codes "b1") (codes "IRS5Y") Sell 60 (pos 2500000) None) 1741012200000
    ∷ sends 3 2 (order (codes "d1") (codes "IRS5Y") Sell 70 (pos 2500000) None) 1741012200001
    ∷ sends 0 2 (order (codes "a1") (codes "IRS5Y") Buy 100 (pos 2500000) None) 1741012200001
    ∷ sends 0 3 (order (codes "a2") (codes "BASIS1Y") Sell 1 (negsuc 249999) None) 1741012200002
    ∷ sends 2 2 (order (codes "g1") (codes "IRS5Y") Buy 31 (pos 2500000) (Some 52)) 1741012200002
    ∷ sends 0 4 (QuoteRequest (record { request_id = codes "q1"; symbol = codes "IRS5Y"; side = Some Buy; quantity = 100; parties = asked (codes "BETA") ∷ asked (codes "GAMMA") ∷ asked (codes "DELTA") ∷ asked (codes "EPSILON") ∷ [] })) 1741012210000
    ∷ sends 4 2 (Quote (record { quote_id = codes "e1"; request_id = codes "R1"; quote_type = None; parties = []; symbol = codes "IRS5Y"; bid_price = None; offer_price = Some (pos 2500000); bid_size = None; offer_size = None; valid_until = None })) 1741012212500
    ∷ sends 0 5 (QuoteResponse (record { response_id = codes "h1"; quote_id = codes "Q1"; response_type = 1; side = Some Buy })) 1741012215000
    ∷ sends 0 6 (NewOrderCross (record {
      cross_id = codes "c1";
      cross_type = 4;
      prioritization = 1;
      first = record { side = Buy; order_id = codes "x1"; quantity = 10 };
      second = record { side = Sell; order_id = codes "x2"; quantity = 10 };
      symbol = codes "IRS5Y";
      order_type = 50;
      price = Some (pos 2400000);
    })) 1741012220000
    ∷ Tick 1741012235000
    ∷ sends 2 3 (order (codes "g2") (codes "BASIS1Y") Buy 5 (negsuc 999999) None) 1741012240000
    ∷ []

-- BETA's sell, a millisecond too early
abbrev pub early : App
early = order (codes "b2") (codes "BASIS1Y") Sell 5 (negsuc 999999) None

abbrev pub history : History
history = (run market earlier).history

abbrev pub replies : ℕ → List Reply
replies t = (answer_input market history (sends 1 3 early t)).replies

-- BETA is refused for cause 7 of 8, at 14:30:40.999, a second after GAMMA's O8 less a millisecond
abbrev pub WorkedRow : Type 0
WorkedRow =
    (place_at (sends 1 3 early 1741012240999) (replies 1741012240999) ≡ 7)
    × (count_at (sends 1 3 early 1741012240999) (replies 1741012240999) ≡ 8)
    × (waits early (replies 1741012240999) ≡ true)
    × (waits early (replies 1741012241000) ≡ false)
    × (verdict market (sends 1 3 early 1741012240999) 7 8 (replies 1741012240999)
    ≡ codes "refused for cause 7 of 8: it would trade with a linked order that entered less than the instrument's delay before (17 CFR 37.9(b)(1), (b)(2))\n    instrument BASIS1Y\n    causes 1 to 6 do not hold")
    × (flat_map (met_lines market.participants 1 (Some 9)) (replies 1741012241000) ≡ codes "\n    it would trade with O8 of GAMMA, who is related to the sender")
    × (delay_of market.instruments (instrument_of market.instruments (codes "BASIS1Y")) ≡ 1000)
