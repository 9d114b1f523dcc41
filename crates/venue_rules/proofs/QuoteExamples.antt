use Rattle.std.proofs.Common.{◌≡◌, refl, ◌+◌, pos, List, [], ◌∷◌, ◌++◌, map, Some, None, codes}
use Rattle.std.specs.Fmt.{digits}
use Rattle.sef_moment.specs.Utc.{greatest}
use Rattle.fix_dictionary.specs.declared.values.Side.TheVariants.{Buy, Sell}
use Rattle.venue_rules.specs.declared.facts.Room.{Room}
use Rattle.venue_rules.specs.declared.facts.RoomQuote.{RoomQuote}
use Rattle.venue_rules.specs.Facts.{rooms, quotes}
use Rattle.venue_rules.specs.Run.{run, Input}
use Rattle.venue_rules.proofs.ExampleInputs.{venue, alpha, beta, delta, start, swap, two_and_a_half, sends, request, quote, withdraw, respond, said_from}
use Rattle.venue_rules.proofs.RoomExamples.{asked}

-- Replaced quotes, mass withdrawals, and rooms that end by time.

-- two rooms of one requester; BETA quotes in the second first, DELTA in the first
abbrev pub two_rooms : List Input
two_rooms = asked ++
    sends alpha 4 (request (codes "q2") swap (Some Buy) 100 (codes "BETA" ∷ codes "GAMMA" ∷ codes "DELTA" ∷ codes "EPSILON" ∷ [])) start
    ∷ sends beta 2 (quote (codes "b1") (codes "R2") swap None (Some two_and_a_half) None) start
    ∷ sends beta 3 (quote (codes "b2") (codes "R1") swap None (Some two_and_a_half) None) start
    ∷ sends delta 2 (quote (codes "d1") (codes "R1") swap None (Some two_and_a_half) None) start ∷ []

-- all live quotes of a participant, and nobody else's, are withdrawn by number, whatever quote the message names
pub all_quotes_withdrawn : said_from 16 (two_rooms ++
    sends beta 4 (withdraw (Some (codes "b2")) 4) (start + 1)
    ∷ sends beta 5 (withdraw (Some (codes "b2")) 4) (start + 2)
    ∷ sends alpha 5 (respond (codes "h1") (codes "Q3") 1 None) (start + 3) ∷ [])
    ≡ (beta, codes "35=AI|117=b1|131=R2|55=IRS5Y|297=17|")
    ∷ (alpha, codes "35=AI|117=Q1|131=q2|55=IRS5Y|297=17|")
    ∷ (beta, codes "35=AI|117=b2|131=R1|55=IRS5Y|297=17|")
    ∷ (alpha, codes "35=AI|117=Q2|131=q1|55=IRS5Y|297=17|")
    ∷ (beta, codes "35=AI|297=9|")
    ∷ (alpha, codes "35=8|37=R1|17=E1|150=F|39=2|55=IRS5Y|54=1|151=0|14=100|31=2.5|32=100|880=T1|693=h1|")
    ∷ (delta, codes "35=8|37=R1|17=E2|150=F|39=2|55=IRS5Y|54=2|151=0|14=100|31=2.5|32=100|880=T1|") ∷ []
unfolding digits
all_quotes_withdrawn = refl

-- neither a replaced quote nor one withdrawn before a later one is hit or withdrawn; the last one is hit
pub replaced_quotes : said_from 15 (asked ++
    sends delta 2 (quote (codes "d1") (codes "R1") swap None (Some (pos 2502500)) None) start
    ∷ sends delta 3 (quote (codes "d2") (codes "R1") swap None (Some two_and_a_half) None) start
    ∷ sends beta 2 (quote (codes "b1") (codes "R1") swap None (Some two_and_a_half) None) start
    ∷ sends beta 3 (withdraw (Some (codes "b1")) 5) start
    ∷ sends beta 4 (quote (codes "b2") (codes "R1") swap None (Some two_and_a_half) None) start
    ∷ sends alpha 5 (respond (codes "h1") (codes "Q1") 1 None) (start + 1)
    ∷ sends alpha 6 (respond (codes "h2") (codes "Q3") 1 None) (start + 1)
    ∷ sends delta 4 (withdraw (Some (codes "d1")) 5) (start + 1)
    ∷ sends alpha 7 (respond (codes "h3") (codes "Q2") 1 None) (start + 1) ∷ [])
    ≡ (alpha, codes "35=AI|117=Q1|131=q1|693=h1|55=IRS5Y|297=9|")
    ∷ (alpha, codes "35=AI|117=Q3|131=q1|693=h2|55=IRS5Y|297=9|")
    ∷ (delta, codes "35=AI|117=d1|297=9|")
    ∷ (alpha, codes "35=8|37=R1|17=E1|150=F|39=2|55=IRS5Y|54=1|151=0|14=100|31=2.5|32=100|880=T1|693=h3|")
    ∷ (delta, codes "35=8|37=R1|17=E2|150=F|39=2|55=IRS5Y|54=2|151=0|14=100|31=2.5|32=100|880=T1|") ∷ []
unfolding digits
replaced_quotes = refl

-- a room that would end past the greatest moment ends then, and so do its quotes, which may still be hit
abbrev pub last_room : List Input
last_room =
    sends alpha 3 (request (codes "q1") swap (Some Sell) 100 (codes "BETA" ∷ codes "GAMMA" ∷ codes "DELTA" ∷ codes "EPSILON" ∷ [])) 253402300790000
    ∷ sends delta 2 (quote (codes "d1") (codes "R1") swap (Some two_and_a_half) None None) 253402300790000 ∷ []

pub room_ends_with_time : map (λ (r : Room). r.end) (rooms (run venue last_room).history.facts) ≡ 253402300799999 ∷ []
unfolding digits
room_ends_with_time = refl

pub quote_ends_with_time : map (λ (q : RoomQuote). q.end) (quotes (run venue last_room).history.facts) ≡ 253402300799999 ∷ []
unfolding digits
quote_ends_with_time = refl

pub hit_at_the_end_of_time : said_from 7 (last_room ++ sends alpha 4 (respond (codes "h1") (codes "Q1") 1 (Some Sell)) greatest ∷ [])
    ≡ (alpha, codes "35=8|37=R1|17=E1|150=F|39=2|55=IRS5Y|54=2|151=0|14=100|31=2.5|32=100|880=T1|693=h1|")
    ∷ (delta, codes "35=8|37=R1|17=E2|150=F|39=2|55=IRS5Y|54=1|151=0|14=100|31=2.5|32=100|880=T1|") ∷ []
unfolding digits
hit_at_the_end_of_time = refl
