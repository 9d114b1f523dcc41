use Rattle.std.proofs.Common.{◌≡◌, refl, ◌+◌, pos, false, [], ◌∷◌, codes}
use Rattle.std.specs.Fmt.{digits}
use Rattle.sef_moment.specs.Utc.{greatest}
use Rattle.fix_dictionary.specs.declared.values.Side.TheVariants.{Buy, Sell}
use Rattle.venue_rules.specs.Fixture.{fixture_instrument}
use Rattle.venue_rules.specs.Market.{Market}
use Rattle.venue_rules.specs.Run.{Tick, is_timely}
use Rattle.venue_rules.proofs.ExampleInputs.{venue, alpha, beta, gamma, delta, epsilon, start, swap, basis, two_and_a_half, sends, order, fill_or_kill, immediate, cancel, replace, cross, said_from, said_in}

-- Fills and delays: related participants, orders that may not rest, replaced orders, held sides.

-- orders of two related participants are linked
pub related_participants_wait : said_from 1 (
    sends beta 2 (order (codes "b1") swap Sell 10 two_and_a_half) start
    ∷ sends gamma 2 (order (codes "g1") swap Buy 10 two_and_a_half) (start + 14999)
    ∷ sends gamma 3 (order (codes "g1") swap Buy 10 two_and_a_half) (start + 15000) ∷ [])
    ≡ (gamma, codes "35=8|37=NONE|17=E2|150=8|39=8|55=IRS5Y|54=1|151=0|14=0|11=g1|103=99|58=Linked order too recent|")
    ∷ (gamma, codes "35=8|37=O2|17=E3|150=0|39=0|55=IRS5Y|54=1|151=10|14=0|11=g1|")
    ∷ (gamma, codes "35=8|37=O2|17=E4|150=F|39=2|55=IRS5Y|54=1|151=0|14=10|11=g1|31=2.5|32=10|880=T1|")
    ∷ (beta, codes "35=8|37=O1|17=E5|150=F|39=2|55=IRS5Y|54=2|151=0|14=10|11=b1|31=2.5|32=10|880=T1|") ∷ []
unfolding digits
related_participants_wait = refl

-- an immediate-or-cancel order takes what rests; its own rest is cancelled
pub immediate_order : said_from 1 (
    sends delta 2 (order (codes "d1") swap Sell 10 two_and_a_half) start
    ∷ sends alpha 2 (immediate (codes "a1") swap Buy 15 two_and_a_half) (start + 1)
    ∷ sends delta 3 (order (codes "d2") swap Sell 5 two_and_a_half) (start + 2) ∷ [])
    ≡ (alpha, codes "35=8|37=O2|17=E2|150=0|39=0|55=IRS5Y|54=1|151=15|14=0|11=a1|")
    ∷ (alpha, codes "35=8|37=O2|17=E3|150=F|39=1|55=IRS5Y|54=1|151=5|14=10|11=a1|31=2.5|32=10|880=T1|")
    ∷ (delta, codes "35=8|37=O1|17=E4|150=F|39=2|55=IRS5Y|54=2|151=0|14=10|11=d1|31=2.5|32=10|880=T1|")
    ∷ (alpha, codes "35=8|37=O2|17=E5|150=4|39=4|55=IRS5Y|54=1|151=0|14=10|11=a1|")
    ∷ (delta, codes "35=8|37=O3|17=E6|150=0|39=0|55=IRS5Y|54=2|151=5|14=0|11=d2|") ∷ []
unfolding digits
immediate_order = refl

-- an order's filled quantity carries over its replacements: resting, and entering again
pub replaced_order_goes_on : said_from 4 (
    sends delta 2 (order (codes "d1") swap Sell 70 two_and_a_half) start
    ∷ sends alpha 2 (order (codes "a1") swap Buy 40 two_and_a_half) (start + 1)
    ∷ sends delta 3 (replace (codes "d2") (codes "d1") 50 (pos 2502500)) (start + 2)
    ∷ sends beta 2 (order (codes "b1") swap Buy 4 (pos 2502500)) (start + 3)
    ∷ sends epsilon 2 (order (codes "e1") swap Buy 3 two_and_a_half) (start + 4)
    ∷ sends delta 4 (replace (codes "d3") (codes "d2") 50 two_and_a_half) (start + 5) ∷ [])
    ≡ (delta, codes "35=8|37=O3|17=E5|150=5|39=1|55=IRS5Y|54=2|151=10|14=40|11=d2|41=d1|")
    ∷ (beta, codes "35=8|37=O4|17=E6|150=0|39=0|55=IRS5Y|54=1|151=4|14=0|11=b1|")
    ∷ (beta, codes "35=8|37=O4|17=E7|150=F|39=2|55=IRS5Y|54=1|151=0|14=4|11=b1|31=2.5025|32=4|880=T2|")
    ∷ (delta, codes "35=8|37=O3|17=E8|150=F|39=1|55=IRS5Y|54=2|151=6|14=44|11=d2|31=2.5025|32=4|880=T2|")
    ∷ (epsilon, codes "35=8|37=O5|17=E9|150=0|39=0|55=IRS5Y|54=1|151=3|14=0|11=e1|")
    ∷ (delta, codes "35=8|37=O6|17=E10|150=5|39=1|55=IRS5Y|54=2|151=6|14=44|11=d3|41=d2|")
    ∷ (delta, codes "35=8|37=O6|17=E11|150=F|39=1|55=IRS5Y|54=2|151=3|14=47|11=d3|31=2.5|32=3|880=T3|")
    ∷ (epsilon, codes "35=8|37=O5|17=E12|150=F|39=2|55=IRS5Y|54=1|151=0|14=3|11=e1|31=2.5|32=3|880=T3|") ∷ []
unfolding digits
replaced_order_goes_on = refl

-- a fill-or-kill order for more than rests has no fills, so none with a linked order; for exactly what rests, its own
-- order included, it is refused
pub kill_counts_linked_orders : said_from 2 (
    sends alpha 2 (order (codes "a1") swap Sell 10 two_and_a_half) start
    ∷ sends delta 2 (order (codes "d1") swap Sell 5 two_and_a_half) start
    ∷ sends alpha 3 (fill_or_kill (codes "a2") swap Buy 16 two_and_a_half) (start + 1)
    ∷ sends alpha 4 (fill_or_kill (codes "a3") swap Buy 15 two_and_a_half) (start + 1) ∷ [])
    ≡ (alpha, codes "35=8|37=O3|17=E3|150=0|39=0|55=IRS5Y|54=1|151=16|14=0|11=a2|")
    ∷ (alpha, codes "35=8|37=O3|17=E4|150=4|39=4|55=IRS5Y|54=1|151=0|14=0|11=a2|")
    ∷ (alpha, codes "35=8|37=NONE|17=E5|150=8|39=8|55=IRS5Y|54=1|151=0|14=0|11=a3|103=99|58=Linked order too recent|") ∷ []
unfolding digits
kill_counts_linked_orders = refl

-- a held side that would meet a later order of its own participant is refused at its moment, and gone; its identifier
-- stays used
pub held_side_refused : said_from 2 (
    sends alpha 2 (cross (codes "c1") 1 (codes "x1") (codes "x2") swap 10 two_and_a_half) start
    ∷ sends alpha 3 (order (codes "a1") swap Buy 5 (pos 2502500)) (start + 5000)
    ∷ Tick (start + 15000)
    ∷ Tick (start + 30000)
    ∷ sends alpha 4 (cancel (codes "x3") (codes "x2")) (start + 30001)
    ∷ sends alpha 5 (order (codes "x2") swap Buy 5 two_and_a_half) (start + 30002) ∷ [])
    ≡ (alpha, codes "35=8|37=NONE|17=E3|150=8|39=8|55=IRS5Y|54=2|151=0|14=0|11=x2|103=99|58=Linked order too recent|")
    ∷ (alpha, codes "35=9|37=NONE|11=x3|41=x2|39=8|434=1|102=1|58=Unknown order|")
    ∷ (alpha, codes "35=8|37=NONE|17=E4|150=8|39=8|55=IRS5Y|54=1|151=0|14=0|11=x2|103=6|58=Duplicate ClOrdID|") ∷ []
unfolding digits
held_side_refused = refl

-- a used identifier names the order that rests under it: none that is filled, replaced or cancelled, and none of
-- another participant
pub duplicates_named : said_from 6 (
    sends beta 2 (order (codes "b1") swap Sell 60 two_and_a_half) start
    ∷ sends alpha 2 (order (codes "b1") swap Sell 5 two_and_a_half) start
    ∷ sends alpha 3 (order (codes "a2") swap Buy 10 two_and_a_half) (start + 20000)
    ∷ sends alpha 4 (replace (codes "a3") (codes "b1") 5 (pos 2502500)) (start + 20000)
    ∷ sends alpha 5 (order (codes "b1") swap Buy 5 two_and_a_half) (start + 20000)
    ∷ sends alpha 6 (order (codes "a2") swap Buy 5 two_and_a_half) (start + 20000)
    ∷ sends alpha 7 (order (codes "a3") swap Buy 5 two_and_a_half) (start + 20000)
    ∷ sends beta 3 (order (codes "b1") swap Buy 5 two_and_a_half) (start + 20000)
    ∷ sends alpha 8 (cancel (codes "a4") (codes "a3")) (start + 20000)
    ∷ sends alpha 9 (order (codes "a3") swap Buy 5 two_and_a_half) (start + 20000) ∷ [])
    ≡ (alpha, codes "35=8|37=NONE|17=E7|150=8|39=8|55=IRS5Y|54=1|151=0|14=0|11=b1|103=6|58=Duplicate ClOrdID|")
    ∷ (alpha, codes "35=8|37=NONE|17=E8|150=8|39=8|55=IRS5Y|54=1|151=0|14=0|11=a2|103=6|58=Duplicate ClOrdID|")
    ∷ (alpha, codes "35=8|37=O4|17=E9|150=8|39=8|55=IRS5Y|54=1|151=0|14=0|11=a3|103=6|58=Duplicate ClOrdID|")
    ∷ (beta, codes "35=8|37=O1|17=E10|150=8|39=8|55=IRS5Y|54=1|151=0|14=0|11=b1|103=6|58=Duplicate ClOrdID|")
    ∷ (alpha, codes "35=8|37=O4|17=E11|150=4|39=4|55=IRS5Y|54=2|151=0|14=0|11=a4|41=a3|")
    ∷ (alpha, codes "35=8|37=NONE|17=E12|150=8|39=8|55=IRS5Y|54=1|151=0|14=0|11=a3|103=6|58=Duplicate ClOrdID|") ∷ []
unfolding digits
duplicates_named = refl

-- with two different delays, the side due first enters first, though it arrived later
abbrev pub uneven_delays : Market
uneven_delays = record venue { instruments = fixture_instrument swap 15000 ∷ fixture_instrument basis 1000 ∷ [] }

pub earlier_due_enters_first : said_in uneven_delays 2 (
    sends alpha 2 (cross (codes "c1") 1 (codes "x1") (codes "x2") swap 10 two_and_a_half) start
    ∷ sends delta 2 (cross (codes "c1") 1 (codes "y1") (codes "y2") basis 10 two_and_a_half) (start + 10)
    ∷ Tick (start + 15000)
    ∷ Tick (start + 15000) ∷ [])
    ≡ (delta, codes "35=8|37=O3|17=E3|150=0|39=0|55=BASIS1Y|54=2|151=10|14=0|11=y2|")
    ∷ (delta, codes "35=8|37=O3|17=E4|150=F|39=2|55=BASIS1Y|54=2|151=0|14=10|11=y2|31=2.5|32=10|880=T1|")
    ∷ (delta, codes "35=8|37=O2|17=E5|150=F|39=2|55=BASIS1Y|54=1|151=0|14=10|11=y1|31=2.5|32=10|880=T1|")
    ∷ (alpha, codes "35=8|37=O4|17=E6|150=0|39=0|55=IRS5Y|54=2|151=10|14=0|11=x2|")
    ∷ (alpha, codes "35=8|37=O4|17=E7|150=F|39=2|55=IRS5Y|54=2|151=0|14=10|11=x2|31=2.5|32=10|880=T2|")
    ∷ (alpha, codes "35=8|37=O1|17=E8|150=F|39=2|55=IRS5Y|54=1|151=0|14=10|11=x1|31=2.5|32=10|880=T2|") ∷ []
unfolding digits
earlier_due_enters_first = refl

-- a cross in the last seconds of time: its second side is due past the greatest moment, which no tick reaches
pub never_due : is_timely venue (sends alpha 2 (cross (codes "c1") 1 (codes "x1") (codes "x2") swap 10 two_and_a_half) greatest ∷ Tick greatest ∷ []) ≡ false
never_due = refl
