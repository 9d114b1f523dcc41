use Rattle.std.proofs.Common.{◌≡◌, refl, ◌+◌, true, false, List, [], ◌∷◌, ◌++◌, codes}
use Rattle.std.specs.Fmt.{digits}
use Rattle.fix_dictionary.specs.declared.values.Side.TheVariants.{Buy, Sell}
use Rattle.venue_rules.specs.Run.{Input, Tick, is_timely}
use Rattle.venue_rules.proofs.ExampleInputs.{venue, alpha, delta, start, swap, basis, two_and_a_half, sends, order, linked_order, cancel, replace, cross, said_from}

-- Linked orders and crosses: fifteen seconds between their entries.

-- two sells; the buyer is linked to the second
abbrev pub own_sell_rests : List Input
own_sell_rests =
    sends delta 2 (order (codes "d1") swap Sell 15 two_and_a_half) start
    ∷ sends alpha 2 (order (codes "a1") swap Sell 10 two_and_a_half) (start + 1) ∷ []

-- a buy that would reach its own sell a millisecond early is refused whole, though another order ranks before it
pub own_sell_too_recent : said_from 2 (own_sell_rests ++ sends alpha 3 (order (codes "a2") swap Buy 20 two_and_a_half) (start + 15000) ∷ [])
    ≡ (alpha, codes "35=8|37=NONE|17=E3|150=8|39=8|55=IRS5Y|54=1|151=0|14=0|11=a2|103=99|58=Linked order too recent|") ∷ []
unfolding digits
own_sell_too_recent = refl

pub own_sell_old_enough : said_from 2 (own_sell_rests ++ sends alpha 3 (order (codes "a2") swap Buy 20 two_and_a_half) (start + 15001) ∷ [])
    ≡ (alpha, codes "35=8|37=O3|17=E3|150=0|39=0|55=IRS5Y|54=1|151=20|14=0|11=a2|")
    ∷ (alpha, codes "35=8|37=O3|17=E4|150=F|39=1|55=IRS5Y|54=1|151=5|14=15|11=a2|31=2.5|32=15|880=T1|")
    ∷ (delta, codes "35=8|37=O1|17=E5|150=F|39=2|55=IRS5Y|54=2|151=0|14=15|11=d1|31=2.5|32=15|880=T1|")
    ∷ (alpha, codes "35=8|37=O3|17=E6|150=F|39=2|55=IRS5Y|54=1|151=0|14=20|11=a2|31=2.5|32=5|880=T2|")
    ∷ (alpha, codes "35=8|37=O2|17=E7|150=F|39=1|55=IRS5Y|54=2|151=5|14=5|11=a1|31=2.5|32=5|880=T2|") ∷ []
unfolding digits
own_sell_old_enough = refl

-- two participants with one link; the refused identifier is usable again
pub one_link : said_from 1 (
    sends alpha 2 (linked_order (codes "L") (codes "a1") swap Sell 10 two_and_a_half) start
    ∷ sends delta 2 (linked_order (codes "L") (codes "d1") swap Buy 10 two_and_a_half) (start + 14999)
    ∷ sends delta 3 (linked_order (codes "L") (codes "d1") swap Buy 10 two_and_a_half) (start + 15000) ∷ [])
    ≡ (delta, codes "35=8|37=NONE|17=E2|150=8|39=8|55=IRS5Y|54=1|151=0|14=0|11=d1|103=99|58=Linked order too recent|")
    ∷ (delta, codes "35=8|37=O2|17=E3|150=0|39=0|55=IRS5Y|54=1|151=10|14=0|11=d1|")
    ∷ (delta, codes "35=8|37=O2|17=E4|150=F|39=2|55=IRS5Y|54=1|151=0|14=10|11=d1|31=2.5|32=10|880=T1|")
    ∷ (alpha, codes "35=8|37=O1|17=E5|150=F|39=2|55=IRS5Y|54=2|151=0|14=10|11=a1|31=2.5|32=10|880=T1|") ∷ []
unfolding digits
one_link = refl

-- a cross whose buy enters first
abbrev pub crossed : List Input
crossed = sends alpha 2 (cross (codes "c1") 1 (codes "x1") (codes "x2") swap 10 two_and_a_half) start ∷ []

-- another seller takes the buy before the other side enters, which then rests
abbrev pub crossed_and_taken : List Input
crossed_and_taken = crossed ++ sends delta 2 (order (codes "d1") swap Sell 10 two_and_a_half) (start + 5000) ∷ Tick (start + 15000) ∷ []

pub cross_taken_by_another : said_from 0 crossed_and_taken
    ≡ (alpha, codes "35=8|37=O1|17=E1|150=0|39=0|55=IRS5Y|54=1|151=10|14=0|11=x1|")
    ∷ (delta, codes "35=8|37=O2|17=E2|150=0|39=0|55=IRS5Y|54=2|151=10|14=0|11=d1|")
    ∷ (delta, codes "35=8|37=O2|17=E3|150=F|39=2|55=IRS5Y|54=2|151=0|14=10|11=d1|31=2.5|32=10|880=T1|")
    ∷ (alpha, codes "35=8|37=O1|17=E4|150=F|39=2|55=IRS5Y|54=1|151=0|14=10|11=x1|31=2.5|32=10|880=T1|")
    ∷ (alpha, codes "35=8|37=O3|17=E5|150=0|39=0|55=IRS5Y|54=2|151=10|14=0|11=x2|") ∷ []
unfolding digits
cross_taken_by_another = refl

-- with nobody between, the two sides trade; an earlier tick does nothing
pub cross_trades_with_itself : said_from 1 (crossed ++ Tick (start + 14999) ∷ Tick (start + 15000) ∷ [])
    ≡ (alpha, codes "35=8|37=O2|17=E2|150=0|39=0|55=IRS5Y|54=2|151=10|14=0|11=x2|")
    ∷ (alpha, codes "35=8|37=O2|17=E3|150=F|39=2|55=IRS5Y|54=2|151=0|14=10|11=x2|31=2.5|32=10|880=T1|")
    ∷ (alpha, codes "35=8|37=O1|17=E4|150=F|39=2|55=IRS5Y|54=1|151=0|14=10|11=x1|31=2.5|32=10|880=T1|") ∷ []
unfolding digits
cross_trades_with_itself = refl

-- the held side is cancelled, and nothing enters
pub held_side_cancelled : said_from 1 (crossed ++ sends alpha 3 (cancel (codes "x3") (codes "x2")) (start + 1) ∷ Tick (start + 15000) ∷ [])
    ≡ (alpha, codes "35=8|37=NONE|17=E2|150=4|39=4|55=IRS5Y|54=2|151=0|14=0|11=x3|41=x2|") ∷ []
unfolding digits
held_side_cancelled = refl

-- a held side cannot be replaced
pub held_side_not_replaced : said_from 1 (crossed ++ sends alpha 3 (replace (codes "x4") (codes "x2") 20 two_and_a_half) (start + 1) ∷ [])
    ≡ (alpha, codes "35=9|37=NONE|11=x4|41=x2|39=8|434=2|102=99|58=Held side|") ∷ []
unfolding digits
held_side_not_replaced = refl

-- a tick before a message, at the side's due moment, makes the list timely; the message alone does not
pub tick_first_is_timely : is_timely venue (crossed ++ Tick (start + 15000) ∷ sends delta 2 (order (codes "d1") swap Sell 10 two_and_a_half) (start + 15000) ∷ []) ≡ true
tick_first_is_timely = refl

pub message_first_is_not_timely : is_timely venue (crossed ++ sends delta 2 (order (codes "d1") swap Sell 10 two_and_a_half) (start + 15000) ∷ []) ≡ false
message_first_is_not_timely = refl

pub idle_tick_is_not_timely : is_timely venue (crossed ++ Tick (start + 14999) ∷ []) ≡ false
idle_tick_is_not_timely = refl

-- a participant that sells to its own buy of the same moment is refused
pub own_buy_at_once : said_from 1 (sends alpha 2 (order (codes "a1") swap Buy 100 two_and_a_half) start ∷ sends alpha 3 (order (codes "a2") swap Sell 40 two_and_a_half) start ∷ [])
    ≡ (alpha, codes "35=8|37=NONE|17=E2|150=8|39=8|55=IRS5Y|54=2|151=0|14=0|11=a2|103=99|58=Linked order too recent|") ∷ []
unfolding digits
own_buy_at_once = refl

-- of two sides due at one moment the first to arrive enters, by a tick of its own
pub two_sides_due : said_from 2 (
    sends alpha 2 (cross (codes "c1") 1 (codes "x1") (codes "x2") swap 10 two_and_a_half) start
    ∷ sends delta 2 (cross (codes "c1") 1 (codes "x1") (codes "x2") basis 10 two_and_a_half) start
    ∷ Tick (start + 15000) ∷ [])
    ≡ (alpha, codes "35=8|37=O3|17=E3|150=0|39=0|55=IRS5Y|54=2|151=10|14=0|11=x2|")
    ∷ (alpha, codes "35=8|37=O3|17=E4|150=F|39=2|55=IRS5Y|54=2|151=0|14=10|11=x2|31=2.5|32=10|880=T1|")
    ∷ (alpha, codes "35=8|37=O1|17=E5|150=F|39=2|55=IRS5Y|54=1|151=0|14=10|11=x1|31=2.5|32=10|880=T1|") ∷ []
unfolding digits
two_sides_due = refl
