use Rattle.std.proofs.Common.{◌≡◌, refl, ◌+◌, pos, List, [], ◌∷◌, ◌++◌, map, Option, Some, None, codes, ℕ, ℤ}
use Rattle.std.specs.Fmt.{digits}
use Rattle.fix_dictionary.specs.declared.messages.App.{App}
use Rattle.fix_dictionary.specs.declared.messages.App.TheVariants.{Quote, QuoteRequest}
use Rattle.fix_dictionary.specs.declared.messages.Party.{Party}
use Rattle.fix_dictionary.specs.declared.values.Side.TheVariants.{Buy, Sell}
use Rattle.venue_rules.specs.declared.replies.Reply.{Reply}
use Rattle.venue_rules.specs.Messages.{message}
use Rattle.venue_rules.specs.Run.{Input, run}
use Rattle.venue_rules.proofs.ExampleInputs.{venue, alpha, beta, delta, epsilon, start, swap, two_and_a_half, sends, order, linked_order, cancel, replace, market_data, recipient, request, quote, withdraw, respond, said_from}
use Rattle.venue_rules.proofs.RoomExamples.{asked}

-- Edges of rules, where another rule would read much the same.

-- what only the venue sends is not processed: types 8, 9, W, Y, AG and AI, as the venue sent them
abbrev pub answered : List Input
answered =
    sends alpha 2 (order (codes "a1") (codes "X") Sell 1 two_and_a_half) start
    ∷ sends alpha 3 (cancel (codes "a2") (codes "a9")) start
    ∷ sends alpha 4 (market_data (codes "m1") swap 48) start
    ∷ sends alpha 5 (market_data (codes "m2") (codes "X") 48) start
    ∷ sends alpha 6 (request (codes "q1") (codes "X") None 1 []) start
    ∷ sends alpha 7 (withdraw None 4) start ∷ []

pub answers_are_not_processed : said_from 6 (answered ++ map (λ (r : Reply). sends beta 9 (message r.what) start) (run venue answered).replies)
    ≡ (beta, codes "35=j|45=9|372=8|380=3|58=Unsupported message type|")
    ∷ (beta, codes "35=j|45=9|372=9|380=3|58=Unsupported message type|")
    ∷ (beta, codes "35=j|45=9|372=W|380=3|58=Unsupported message type|")
    ∷ (beta, codes "35=j|45=9|372=Y|380=3|58=Unsupported message type|")
    ∷ (beta, codes "35=j|45=9|372=AG|380=3|58=Unsupported message type|")
    ∷ (beta, codes "35=j|45=9|372=AI|380=3|58=Unsupported message type|") ∷ []
unfolding digits
answers_are_not_processed = refl

-- only parties with source D and role 35 are recipients: two among four parties are too few; other parties need not be
-- known, nor differ
abbrev pub party : List ℕ → ℕ → ℕ → Party
party name source role = record { id = name; source = source; role = role }

abbrev pub request_with : List ℕ → List Party → App
request_with id parties = QuoteRequest (record { request_id = id; symbol = swap; side = Some Buy; quantity = 100; parties = parties })

pub other_parties_are_no_recipients : said_from 0 (
    sends alpha 2 (request_with (codes "q1") (recipient (codes "BETA") ∷ recipient (codes "DELTA") ∷ party (codes "EPSILON") 67 35 ∷ party (codes "GAMMA") 68 36 ∷ [])) start
    ∷ sends alpha 3 (request_with (codes "q2") (party (codes "ZETA") 67 35 ∷ recipient (codes "BETA") ∷ recipient (codes "DELTA") ∷ party (codes "ALPHA") 68 36 ∷ recipient (codes "EPSILON") ∷ [])) start ∷ [])
    ≡ (alpha, codes "35=AG|131=q1|658=99|146=1|55=IRS5Y|58=Too few recipients|")
    ∷ (beta, codes "35=R|131=R1|146=1|55=IRS5Y|54=1|38=100|")
    ∷ (delta, codes "35=R|131=R1|146=1|55=IRS5Y|54=1|38=100|")
    ∷ (epsilon, codes "35=R|131=R1|146=1|55=IRS5Y|54=1|38=100|") ∷ []
unfolding digits
other_parties_are_no_recipients = refl

-- a size is compared on the side without a price too; that side's size is not sent on
abbrev pub sized_quote : List ℕ → Option ℤ → Option ℤ → Option ℕ → Option ℕ → App
sized_quote id bid offer bid_size offer_size = Quote (record { quote_id = id; request_id = codes "R1"; quote_type = None; parties = []; symbol = swap; bid_price = bid; offer_price = offer; bid_size = bid_size; offer_size = offer_size; valid_until = None })

pub sizes_without_a_price : said_from 4 (asked ++
    sends delta 2 (sized_quote (codes "d1") None (Some two_and_a_half) (Some 99) None) start
    ∷ sends delta 3 (sized_quote (codes "d1") None (Some two_and_a_half) None (Some 101)) start
    ∷ sends delta 4 (sized_quote (codes "d1") None (Some two_and_a_half) (Some 100) None) start ∷ [])
    ≡ (delta, codes "35=AI|117=d1|131=R1|55=IRS5Y|297=5|300=99|58=Size|")
    ∷ (delta, codes "35=AI|117=d1|131=R1|55=IRS5Y|297=5|300=99|58=Size|")
    ∷ (delta, codes "35=AI|117=d1|131=R1|55=IRS5Y|297=0|")
    ∷ (alpha, codes "35=W|262=q1|55=IRS5Y|268=1|269=J|")
    ∷ (alpha, codes "35=S|117=Q1|131=q1|537=1|453=1|448=DELTA|447=D|452=35|55=IRS5Y|133=2.5|135=100|62=20250303-14:30:30.000|") ∷ []
unfolding digits
sizes_without_a_price = refl

-- a replacement keeps the link (583) of the order that it replaces
pub replacement_keeps_its_link : said_from 2 (
    sends alpha 2 (linked_order (codes "L") (codes "a1") swap Sell 10 two_and_a_half) start
    ∷ sends alpha 3 (replace (codes "a2") (codes "a1") 10 two_and_a_half) (start + 1)
    ∷ sends delta 2 (linked_order (codes "L") (codes "d1") swap Buy 10 two_and_a_half) (start + 15000)
    ∷ sends delta 3 (linked_order (codes "M") (codes "d2") swap Buy 10 two_and_a_half) (start + 15000) ∷ [])
    ≡ (delta, codes "35=8|37=NONE|17=E3|150=8|39=8|55=IRS5Y|54=1|151=0|14=0|11=d1|103=99|58=Linked order too recent|")
    ∷ (delta, codes "35=8|37=O3|17=E4|150=0|39=0|55=IRS5Y|54=1|151=10|14=0|11=d2|")
    ∷ (delta, codes "35=8|37=O3|17=E5|150=F|39=2|55=IRS5Y|54=1|151=0|14=10|11=d2|31=2.5|32=10|880=T1|")
    ∷ (alpha, codes "35=8|37=O2|17=E6|150=F|39=2|55=IRS5Y|54=2|151=0|14=10|11=a2|31=2.5|32=10|880=T1|") ∷ []
unfolding digits
replacement_keeps_its_link = refl

-- another participant may use the same identifier of a request (131) or of a quote (117)
pub identifiers_of_others : said_from 4 (asked ++
    sends beta 2 (request (codes "q1") swap (Some Buy) 100 (codes "ALPHA" ∷ codes "DELTA" ∷ codes "EPSILON" ∷ [])) start
    ∷ sends delta 2 (quote (codes "x1") (codes "R1") swap None (Some two_and_a_half) None) start
    ∷ sends epsilon 2 (quote (codes "x1") (codes "R1") swap None (Some two_and_a_half) None) start ∷ [])
    ≡ (alpha, codes "35=R|131=R2|146=1|55=IRS5Y|54=1|38=100|")
    ∷ (delta, codes "35=R|131=R2|146=1|55=IRS5Y|54=1|38=100|")
    ∷ (epsilon, codes "35=R|131=R2|146=1|55=IRS5Y|54=1|38=100|")
    ∷ (delta, codes "35=AI|117=x1|131=R1|55=IRS5Y|297=0|")
    ∷ (alpha, codes "35=W|262=q1|55=IRS5Y|268=1|269=J|")
    ∷ (alpha, codes "35=S|117=Q1|131=q1|537=1|453=1|448=DELTA|447=D|452=35|55=IRS5Y|133=2.5|135=100|62=20250303-14:30:30.000|")
    ∷ (epsilon, codes "35=AI|117=x1|131=R1|55=IRS5Y|297=0|")
    ∷ (alpha, codes "35=S|117=Q2|131=q1|537=1|453=1|448=EPSILON|447=D|452=35|55=IRS5Y|133=2.5|135=100|62=20250303-14:30:30.000|") ∷ []
unfolding digits
identifiers_of_others = refl

-- a quote that would outlive its room ends with it
pub quote_ends_with_its_room : said_from 4 (asked ++
    sends delta 2 (quote (codes "d1") (codes "R1") swap None (Some two_and_a_half) (Some (start + 40000))) start
    ∷ sends alpha 4 (respond (codes "h1") (codes "Q1") 1 None) (start + 30001) ∷ [])
    ≡ (delta, codes "35=AI|117=d1|131=R1|55=IRS5Y|297=0|")
    ∷ (alpha, codes "35=W|262=q1|55=IRS5Y|268=1|269=J|")
    ∷ (alpha, codes "35=S|117=Q1|131=q1|537=1|453=1|448=DELTA|447=D|452=35|55=IRS5Y|133=2.5|135=100|62=20250303-14:30:30.000|")
    ∷ (alpha, codes "35=AI|117=Q1|131=q1|693=h1|55=IRS5Y|297=7|") ∷ []
unfolding digits
quote_ends_with_its_room = refl

-- a snapshot has the receiver's own orders too: with the first quote, and on request
pub own_orders_are_shown : said_from 5 (
    sends alpha 2 (order (codes "a1") swap Sell 30 (pos 2502500)) start
    ∷ asked ++
    sends delta 2 (quote (codes "d1") (codes "R1") swap None (Some two_and_a_half) None) start
    ∷ sends alpha 4 (market_data (codes "m1") swap 48) start ∷ [])
    ≡ (delta, codes "35=AI|117=d1|131=R1|55=IRS5Y|297=0|")
    ∷ (alpha, codes "35=W|262=q1|55=IRS5Y|268=1|269=1|270=2.5025|271=30|278=O1|")
    ∷ (alpha, codes "35=S|117=Q1|131=q1|537=1|453=1|448=DELTA|447=D|452=35|55=IRS5Y|133=2.5|135=100|62=20250303-14:30:30.000|")
    ∷ (alpha, codes "35=W|262=m1|55=IRS5Y|268=1|269=1|270=2.5025|271=30|278=O1|") ∷ []
unfolding digits
own_orders_are_shown = refl
