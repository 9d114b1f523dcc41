use Rattle.std.proofs.Common.{◌≡◌, refl, ◌+◌, pos, negsuc, List, [], ◌∷◌, ◌++◌, codes}
use Rattle.std.specs.Fmt.{digits}
use Rattle.fix_dictionary.specs.declared.values.Side.TheVariants.{Buy, Sell}
use Rattle.venue_rules.specs.Run.{Input}
use Rattle.venue_rules.proofs.ExampleInputs.{alpha, beta, gamma, delta, epsilon, start, swap, basis, two_and_a_half, sends, order, fill_or_kill, cancel, replace, market_data, said_from}

-- The order book: fills, cancels, replacements, market data.

-- two sellers at one price, a buyer of 100, and a seller in another instrument
abbrev pub first_orders : List Input
first_orders =
    sends beta 2 (order (codes "b1") swap Sell 60 two_and_a_half) start
    ∷ sends delta 2 (order (codes "d1") swap Sell 70 two_and_a_half) (start + 1)
    ∷ sends alpha 2 (order (codes "a1") swap Buy 100 two_and_a_half) (start + 2)
    ∷ sends alpha 3 (order (codes "a2") basis Sell 1 (negsuc 249999)) (start + 3) ∷ []

-- the earlier seller fills the buyer first; the other order rests
pub buyer_meets_two_sellers : said_from 0 first_orders
    ≡ (beta, codes "35=8|37=O1|17=E1|150=0|39=0|55=IRS5Y|54=2|151=60|14=0|11=b1|")
    ∷ (delta, codes "35=8|37=O2|17=E2|150=0|39=0|55=IRS5Y|54=2|151=70|14=0|11=d1|")
    ∷ (alpha, codes "35=8|37=O3|17=E3|150=0|39=0|55=IRS5Y|54=1|151=100|14=0|11=a1|")
    ∷ (alpha, codes "35=8|37=O3|17=E4|150=F|39=1|55=IRS5Y|54=1|151=40|14=60|11=a1|31=2.5|32=60|880=T1|")
    ∷ (beta, codes "35=8|37=O1|17=E5|150=F|39=2|55=IRS5Y|54=2|151=0|14=60|11=b1|31=2.5|32=60|880=T1|")
    ∷ (alpha, codes "35=8|37=O3|17=E6|150=F|39=2|55=IRS5Y|54=1|151=0|14=100|11=a1|31=2.5|32=40|880=T2|")
    ∷ (delta, codes "35=8|37=O2|17=E7|150=F|39=1|55=IRS5Y|54=2|151=30|14=40|11=d1|31=2.5|32=40|880=T2|")
    ∷ (alpha, codes "35=8|37=O4|17=E8|150=0|39=0|55=BASIS1Y|54=2|151=1|14=0|11=a2|") ∷ []
unfolding digits
buyer_meets_two_sellers = refl

-- then a fill-or-kill order for 1 more than rests
abbrev pub after_kill : List Input
after_kill = first_orders ++ sends gamma 2 (fill_or_kill (codes "g1") swap Buy 31 two_and_a_half) (start + 4) ∷ []

pub kill_fills_nothing : said_from 8 after_kill
    ≡ (gamma, codes "35=8|37=O5|17=E9|150=0|39=0|55=IRS5Y|54=1|151=31|14=0|11=g1|")
    ∷ (gamma, codes "35=8|37=O5|17=E10|150=4|39=4|55=IRS5Y|54=1|151=0|14=0|11=g1|") ∷ []
unfolding digits
kill_fills_nothing = refl

-- then a replacement, a cancel, and a cancel of an order that is gone
pub seller_replaces_and_cancels : said_from 10 (after_kill ++
    sends delta 3 (replace (codes "d2") (codes "d1") 50 (pos 2502500)) (start + 5)
    ∷ sends delta 4 (cancel (codes "d3") (codes "d2")) (start + 6)
    ∷ sends delta 5 (cancel (codes "d4") (codes "d2")) (start + 7) ∷ [])
    ≡ (delta, codes "35=8|37=O6|17=E11|150=5|39=1|55=IRS5Y|54=2|151=10|14=40|11=d2|41=d1|")
    ∷ (delta, codes "35=8|37=O6|17=E12|150=4|39=4|55=IRS5Y|54=2|151=0|14=40|11=d3|41=d2|")
    ∷ (delta, codes "35=9|37=NONE|11=d4|41=d2|39=8|434=1|102=1|58=Unknown order|") ∷ []
unfolding digits
seller_replaces_and_cancels = refl

-- then market data: one order, an empty book, and a subscription
pub market_data_after_cancel : said_from 13 (after_kill ++
    sends delta 3 (replace (codes "d2") (codes "d1") 50 (pos 2502500)) (start + 5)
    ∷ sends delta 4 (cancel (codes "d3") (codes "d2")) (start + 6)
    ∷ sends delta 5 (cancel (codes "d4") (codes "d2")) (start + 7)
    ∷ sends epsilon 2 (market_data (codes "v1") basis 48) (start + 8)
    ∷ sends epsilon 3 (market_data (codes "v2") swap 48) (start + 9)
    ∷ sends epsilon 4 (market_data (codes "v3") swap 49) (start + 10) ∷ [])
    ≡ (epsilon, codes "35=W|262=v1|55=BASIS1Y|268=1|269=1|270=-0.25|271=1|278=O4|")
    ∷ (epsilon, codes "35=W|262=v2|55=IRS5Y|268=1|269=J|")
    ∷ (epsilon, codes "35=Y|262=v3|281=4|58=Snapshots only|") ∷ []
unfolding digits
market_data_after_cancel = refl

-- after the killed order, a replacement to no more than is filled
pub replacement_below_filled : said_from 10 (after_kill ++ sends delta 3 (replace (codes "d9") (codes "d1") 40 two_and_a_half) (start + 5) ∷ [])
    ≡ (delta, codes "35=9|37=O2|11=d9|41=d1|39=1|434=2|102=99|58=Quantity already filled|") ∷ []
unfolding digits
replacement_below_filled = refl

-- after the killed order, a fill-or-kill order for exactly what rests
pub kill_fills_all : said_from 10 (after_kill ++ sends gamma 3 (fill_or_kill (codes "g2") swap Buy 30 two_and_a_half) (start + 5) ∷ [])
    ≡ (gamma, codes "35=8|37=O6|17=E11|150=0|39=0|55=IRS5Y|54=1|151=30|14=0|11=g2|")
    ∷ (gamma, codes "35=8|37=O6|17=E12|150=F|39=2|55=IRS5Y|54=1|151=0|14=30|11=g2|31=2.5|32=30|880=T3|")
    ∷ (delta, codes "35=8|37=O2|17=E13|150=F|39=2|55=IRS5Y|54=2|151=0|14=70|11=d1|31=2.5|32=30|880=T3|") ∷ []
unfolding digits
kill_fills_all = refl
