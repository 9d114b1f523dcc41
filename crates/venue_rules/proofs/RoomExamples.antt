use Rattle.std.proofs.Common.{◌≡◌, refl, ◌+◌, pos, negsuc, List, [], ◌∷◌, ◌++◌, Some, None, codes}
use Rattle.std.specs.Fmt.{digits}
use Rattle.fix_dictionary.specs.declared.values.Side.TheVariants.{Buy, Sell}
use Rattle.venue_rules.specs.Readings.{trade_facts, room_fact}
use Rattle.venue_rules.specs.Run.{run, Input}
use Rattle.venue_rules.proofs.ExampleInputs.{venue, alpha, beta, gamma, delta, epsilon, start, swap, basis, two_and_a_half, sends, order, fill_or_kill, request, quote, withdraw, respond, said_from}

-- Requests for quotes: recipients, quotes, snapshots, hits, withdrawals.

-- a request to three, two related, is refused
pub three_recipients_not_unrelated : said_from 0 (sends alpha 2 (request (codes "q1") swap (Some Buy) 100 (codes "BETA" ∷ codes "GAMMA" ∷ codes "DELTA" ∷ [])) start ∷ [])
    ≡ (alpha, codes "35=AG|131=q1|658=99|146=1|55=IRS5Y|58=Recipients not unrelated|") ∷ []
unfolding digits
three_recipients_not_unrelated = refl

-- the same request to four goes out in one answer
abbrev pub asked : List Input
asked = sends alpha 3 (request (codes "q1") swap (Some Buy) 100 (codes "BETA" ∷ codes "GAMMA" ∷ codes "DELTA" ∷ codes "EPSILON" ∷ [])) start ∷ []

pub four_recipients : said_from 0 asked
    ≡ (beta, codes "35=R|131=R1|146=1|55=IRS5Y|54=1|38=100|")
    ∷ (gamma, codes "35=R|131=R1|146=1|55=IRS5Y|54=1|38=100|")
    ∷ (delta, codes "35=R|131=R1|146=1|55=IRS5Y|54=1|38=100|")
    ∷ (epsilon, codes "35=R|131=R1|146=1|55=IRS5Y|54=1|38=100|") ∷ []
unfolding digits
four_recipients = refl

-- a quote off the tick, one that ends after ten seconds, and one that lives as long as the room
abbrev pub quoted : List Input
quoted = asked ++
    sends beta 2 (quote (codes "b1") (codes "R1") swap None (Some (pos 2501000)) None) start
    ∷ sends beta 3 (quote (codes "b1") (codes "R1") swap None (Some (pos 2502500)) (Some (start + 10000))) start
    ∷ sends delta 2 (quote (codes "d1") (codes "R1") swap None (Some two_and_a_half) None) start ∷ []

-- with the first response alone, the requester is shown the book
pub quotes_are_sent_on : said_from 4 quoted
    ≡ (beta, codes "35=AI|117=b1|131=R1|55=IRS5Y|297=5|300=8|58=Invalid price|")
    ∷ (beta, codes "35=AI|117=b1|131=R1|55=IRS5Y|297=0|")
    ∷ (alpha, codes "35=W|262=q1|55=IRS5Y|268=1|269=J|")
    ∷ (alpha, codes "35=S|117=Q1|131=q1|537=1|453=1|448=BETA|447=D|452=35|55=IRS5Y|133=2.5025|135=100|62=20250303-14:30:10.000|")
    ∷ (delta, codes "35=AI|117=d1|131=R1|55=IRS5Y|297=0|")
    ∷ (alpha, codes "35=S|117=Q2|131=q1|537=1|453=1|448=DELTA|447=D|452=35|55=IRS5Y|133=2.5|135=100|62=20250303-14:30:30.000|") ∷ []
unfolding digits
quotes_are_sent_on = refl

-- a hit after the quote's end, a hit at the room's end, and the same again
pub hits : said_from 10 (quoted ++
    sends alpha 4 (respond (codes "h1") (codes "Q1") 1 None) (start + 10001)
    ∷ sends alpha 5 (respond (codes "h2") (codes "Q2") 1 (Some Buy)) (start + 30000)
    ∷ sends alpha 6 (respond (codes "h2") (codes "Q2") 1 (Some Buy)) (start + 30000) ∷ [])
    ≡ (alpha, codes "35=AI|117=Q1|131=q1|693=h1|55=IRS5Y|297=7|")
    ∷ (alpha, codes "35=8|37=R1|17=E1|150=F|39=2|55=IRS5Y|54=1|151=0|14=100|31=2.5|32=100|880=T1|693=h2|")
    ∷ (delta, codes "35=8|37=R1|17=E2|150=F|39=2|55=IRS5Y|54=2|151=0|14=100|31=2.5|32=100|880=T1|")
    ∷ (alpha, codes "35=AI|117=Q2|131=q1|693=h2|55=IRS5Y|297=9|") ∷ []
unfolding digits
hits = refl

-- instead: a quote is withdrawn and then hit, the other is passed, and its maker finds none to withdraw
pub withdrawals : said_from 10 (quoted ++
    sends delta 3 (withdraw (Some (codes "d1")) 5) (start + 1)
    ∷ sends alpha 4 (respond (codes "h1") (codes "Q2") 1 None) (start + 2)
    ∷ sends alpha 5 (respond (codes "h2") (codes "Q1") 6 None) (start + 5000)
    ∷ sends beta 4 (withdraw None 4) (start + 5001) ∷ [])
    ≡ (delta, codes "35=AI|117=d1|131=R1|55=IRS5Y|297=17|")
    ∷ (alpha, codes "35=AI|117=Q2|131=q1|55=IRS5Y|297=17|")
    ∷ (alpha, codes "35=AI|117=Q2|131=q1|693=h1|55=IRS5Y|297=17|")
    ∷ (alpha, codes "35=AI|117=Q1|131=q1|693=h2|55=IRS5Y|297=11|")
    ∷ (beta, codes "35=AI|117=b1|131=R1|55=IRS5Y|297=11|")
    ∷ (beta, codes "35=AI|297=9|") ∷ []
unfolding digits
withdrawals = refl

-- a book with one resting offer of 30
abbrev pub book_then_request : List Input
book_then_request =
    sends beta 2 (order (codes "b1") swap Sell 60 two_and_a_half) start
    ∷ sends delta 2 (order (codes "d1") swap Sell 70 two_and_a_half) (start + 1)
    ∷ sends alpha 2 (order (codes "a1") swap Buy 100 two_and_a_half) (start + 2)
    ∷ sends alpha 3 (order (codes "a2") basis Sell 1 (negsuc 249999)) (start + 3)
    ∷ sends gamma 2 (fill_or_kill (codes "g1") swap Buy 31 two_and_a_half) (start + 4)
    ∷ sends alpha 4 (request (codes "q1") swap (Some Buy) 100 (codes "BETA" ∷ codes "GAMMA" ∷ codes "DELTA" ∷ codes "EPSILON" ∷ [])) (start + 5)
    ∷ sends epsilon 2 (quote (codes "e1") (codes "R1") swap None (Some two_and_a_half) None) (start + 6) ∷ []

pub first_response_with_the_book : said_from 14 book_then_request
    ≡ (epsilon, codes "35=AI|117=e1|131=R1|55=IRS5Y|297=0|")
    ∷ (alpha, codes "35=W|262=q1|55=IRS5Y|268=1|269=1|270=2.5|271=30|278=O2|")
    ∷ (alpha, codes "35=S|117=Q1|131=q1|537=1|453=1|448=EPSILON|447=D|452=35|55=IRS5Y|133=2.5|135=100|62=20250303-14:30:30.005|") ∷ []
unfolding digits
first_response_with_the_book = refl

-- after the first quote was withdrawn, the second comes without the book
pub second_response_without_the_book : said_from 17 (book_then_request ++
    sends epsilon 3 (withdraw (Some (codes "e1")) 5) (start + 7)
    ∷ sends delta 3 (quote (codes "d2") (codes "R1") swap None (Some two_and_a_half) None) (start + 8) ∷ [])
    ≡ (epsilon, codes "35=AI|117=e1|131=R1|55=IRS5Y|297=17|")
    ∷ (alpha, codes "35=AI|117=Q1|131=q1|55=IRS5Y|297=17|")
    ∷ (delta, codes "35=AI|117=d2|131=R1|55=IRS5Y|297=0|")
    ∷ (alpha, codes "35=S|117=Q2|131=q1|537=1|453=1|448=DELTA|447=D|452=35|55=IRS5Y|133=2.5|135=100|62=20250303-14:30:30.005|") ∷ []
unfolding digits
second_response_without_the_book = refl

-- a request for both sides: the response names one, and the requester sells at the bid
pub both_sides : said_from 4 (
    sends alpha 2 (request (codes "q1") swap None 100 (codes "BETA" ∷ codes "GAMMA" ∷ codes "DELTA" ∷ codes "EPSILON" ∷ [])) start
    ∷ sends delta 2 (quote (codes "d1") (codes "R1") swap (Some (pos 2497500)) (Some (pos 2502500)) None) start
    ∷ sends alpha 9 (respond (codes "h1") (codes "Q1") 1 None) (start + 1)
    ∷ sends alpha 10 (respond (codes "h2") (codes "Q1") 1 (Some Sell)) (start + 2) ∷ [])
    ≡ (delta, codes "35=AI|117=d1|131=R1|55=IRS5Y|297=0|")
    ∷ (alpha, codes "35=W|262=q1|55=IRS5Y|268=1|269=J|")
    ∷ (alpha, codes "35=S|117=Q1|131=q1|537=1|453=1|448=DELTA|447=D|452=35|55=IRS5Y|132=2.4975|133=2.5025|134=100|135=100|62=20250303-14:30:30.000|")
    ∷ (alpha, codes "35=j|45=9|372=AJ|380=5|58=Side missing|")
    ∷ (alpha, codes "35=8|37=R1|17=E1|150=F|39=2|55=IRS5Y|54=2|151=0|14=100|31=2.4975|32=100|880=T1|693=h2|")
    ∷ (delta, codes "35=8|37=R1|17=E2|150=F|39=2|55=IRS5Y|54=1|151=0|14=100|31=2.4975|32=100|880=T1|") ∷ []
unfolding digits
both_sides = refl

-- readings of the requests, the quotes and a hit after the book: three trades, and the room with what was shown
pub trades_read_back : trade_facts (run venue (book_then_request ++ sends alpha 5 (respond (codes "h1") (codes "Q1") 1 (Some Buy)) (start + 7) ∷ [])).history.facts
    ≡ record { number = 1; instrument = 0; quantity = 60; price = two_and_a_half; buyer = alpha; seller = beta; room = None }
    ∷ record { number = 2; instrument = 0; quantity = 40; price = two_and_a_half; buyer = alpha; seller = delta; room = None }
    ∷ record { number = 3; instrument = 0; quantity = 100; price = two_and_a_half; buyer = alpha; seller = epsilon; room = Some 1 } ∷ []
unfolding digits
trades_read_back = refl

pub room_read_back : room_fact (run venue (book_then_request ++ sends alpha 5 (respond (codes "h1") (codes "Q1") 1 (Some Buy)) (start + 7) ∷ [])).history.facts 1
    ≡ Some (record { number = 1; requester = alpha; asked = beta ∷ gamma ∷ delta ∷ epsilon ∷ []; first = 1; shown = record { order = 2; left = 30 } ∷ [] })
unfolding digits
room_read_back = refl
