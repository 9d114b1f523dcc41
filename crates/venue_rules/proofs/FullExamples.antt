use Rattle.std.proofs.Common.{◌≡◌, refl, ℕ, zero, suc, ◌+◌, pos, List, [], ◌∷◌, ◌++◌, length, Some, None, codes}
use Rattle.std.specs.Fmt.{digits}
use Rattle.fix_dictionary.specs.declared.values.Side.TheVariants.{Buy, Sell}
use Rattle.venue_rules.specs.declared.facts.Fact.{Fact}
use Rattle.venue_rules.specs.declared.facts.Fact.TheVariants.{Asked, Entered, Held}
use Rattle.venue_rules.specs.declared.facts.TimeInForce.TheVariants.{Day}
use Rattle.venue_rules.specs.Facts.{History}
use Rattle.venue_rules.specs.Run.{Tick}
use Rattle.venue_rules.proofs.ExampleInputs.{alpha, beta, start, swap, two_and_a_half, sends, order, cross, request}
use Rattle.venue_rules.proofs.LimitExamples.{twelve_names, said_in_large_venue, full_side, said_to}

-- Limits reached: a side of the book at a cross, the held sides, the open rooms.

-- a name twice among thirteen
pub twice_among_thirteen : said_in_large_venue (sends 0 2 (request (codes "q1") swap (Some Buy) 100 (twelve_names ++ codes "P01" ∷ [])) start ∷ [])
    ≡ (0, codes "35=AG|131=q1|658=99|146=1|55=IRS5Y|58=Recipient twice|") ∷ []
unfolding digits
twice_among_thirteen = refl

-- 200 sells rest, below an own buy that entered just before
abbrev pub own_buy_below_full_side : History
own_buy_below_full_side = record full_side { facts = full_side.facts ++ Entered (record { number = 201; order = record { who = beta; id = codes "b1"; link = None; instrument = 0; side = Buy; quantity = 1; price = pos 2497500; life = Day }; filled_before = 0; moment = start }) ∷ [] }

-- a sell or a cross that would meet the own buy, and rest with its leaves quantity, is refused as linked
pub linked_before_full : said_to own_buy_below_full_side (sends beta 2 (order (codes "b2") swap Sell 2 (pos 2497500)) (start + 1))
    ≡ (beta, codes "35=8|37=NONE|17=E201|150=8|39=8|55=IRS5Y|54=2|151=0|14=0|11=b2|103=99|58=Linked order too recent|") ∷ []
unfolding digits
linked_before_full = refl

pub cross_linked_before_full : said_to own_buy_below_full_side (sends beta 2 (cross (codes "c1") 2 (codes "b2") (codes "b3") swap 2 (pos 2497500)) (start + 1))
    ≡ (beta, codes "35=8|37=NONE|17=E201|150=8|39=8|55=IRS5Y|54=1|151=0|14=0|11=b2|103=99|58=Linked order too recent|")
    ∷ (beta, codes "35=8|37=NONE|17=E202|150=8|39=8|55=IRS5Y|54=2|151=0|14=0|11=b3|103=99|58=Linked order too recent|") ∷ []
unfolding digits
cross_linked_before_full = refl

-- a cross whose sell enters first finds the side full
pub cross_side_full : said_to full_side (sends beta 2 (cross (codes "c1") 2 (codes "b1") (codes "b2") swap 2 two_and_a_half) (start + 1))
    ≡ (beta, codes "35=8|37=NONE|17=E201|150=8|39=8|55=IRS5Y|54=1|151=0|14=0|11=b1|103=3|58=Book side full|")
    ∷ (beta, codes "35=8|37=NONE|17=E202|150=8|39=8|55=IRS5Y|54=2|151=0|14=0|11=b2|103=3|58=Book side full|") ∷ []
unfolding digits
cross_side_full = refl

-- a held sell that comes due on a full side
pub held_side_full : said_to (record full_side { facts = full_side.facts ++ Held (record { order = record { who = beta; id = codes "b2"; link = None; instrument = 0; side = Sell; quantity = 1; price = two_and_a_half; life = Day }; cross = codes "c1"; due = start }) ∷ [] }) (Tick start)
    ≡ (beta, codes "35=8|37=NONE|17=E201|150=8|39=8|55=IRS5Y|54=2|151=0|14=0|11=b2|103=3|58=Book side full|") ∷ []
unfolding digits
held_side_full = refl

-- and one that would meet the own buy, and rest with its leaves quantity
pub held_linked_before_full : said_to (record own_buy_below_full_side { facts = own_buy_below_full_side.facts ++ Held (record { order = record { who = beta; id = codes "b2"; link = None; instrument = 0; side = Sell; quantity = 2; price = pos 2497500; life = Day }; cross = codes "c1"; due = start + 1 }) ∷ [] }) (Tick (start + 1))
    ≡ (beta, codes "35=8|37=NONE|17=E201|150=8|39=8|55=IRS5Y|54=2|151=0|14=0|11=b2|103=99|58=Linked order too recent|") ∷ []
unfolding digits
held_linked_before_full = refl

-- held sides of one participant
abbrev pub many_held : ℕ → List Fact
many_held zero = []
many_held (suc n) = Held (record { order = record { who = 3; id = codes "d"; link = None; instrument = 0; side = Sell; quantity = 1; price = two_and_a_half; life = Day }; cross = codes "c"; due = start + 15000 }) ∷ many_held n

abbrev pub held_and : ℕ → List Fact → History
held_and n facts = record { facts = facts ++ many_held n; reports = 0 }

-- with 1,000 sides held, a cross whose first side may enter is refused; with 999 it is accepted
pub too_many_held : said_to (held_and 1000 []) (sends beta 2 (cross (codes "c1") 2 (codes "b1") (codes "b2") swap 2 two_and_a_half) start)
    ≡ (beta, codes "35=8|37=NONE|17=E1|150=8|39=8|55=IRS5Y|54=1|151=0|14=0|11=b1|103=3|58=Too many held|")
    ∷ (beta, codes "35=8|37=NONE|17=E2|150=8|39=8|55=IRS5Y|54=2|151=0|14=0|11=b2|103=3|58=Too many held|") ∷ []
unfolding digits
too_many_held = refl

pub one_more_held : said_to (held_and 999 []) (sends beta 2 (cross (codes "c1") 2 (codes "b1") (codes "b2") swap 2 two_and_a_half) start)
    ≡ (beta, codes "35=8|37=O1|17=E1|150=0|39=0|55=IRS5Y|54=2|151=2|14=0|11=b2|") ∷ []
unfolding digits
one_more_held = refl

pub side_full_before_held : said_to (held_and 1000 full_side.facts) (sends beta 2 (cross (codes "c1") 2 (codes "b1") (codes "b2") swap 2 two_and_a_half) start)
    ≡ (beta, codes "35=8|37=NONE|17=E1|150=8|39=8|55=IRS5Y|54=1|151=0|14=0|11=b1|103=3|58=Book side full|")
    ∷ (beta, codes "35=8|37=NONE|17=E2|150=8|39=8|55=IRS5Y|54=2|151=0|14=0|11=b2|103=3|58=Book side full|") ∷ []
unfolding digits
side_full_before_held = refl

-- open rooms, by their count
abbrev pub many_rooms : ℕ → List Fact
many_rooms zero = []
many_rooms (suc n) = Asked (record { number = n; requester = alpha; id = codes "q"; instrument = 0; side = Some Buy; quantity = 1; recipients = []; end = start }) ∷ many_rooms n

abbrev pub rooms_open : ℕ → History
rooms_open n = record { facts = many_rooms n; reports = 0 }

-- with 1,000 rooms open, a request with enough recipients is refused; with 999, or a moment after their end, it is sent
pub too_many_requests : said_to (rooms_open 1000) (sends alpha 2 (request (codes "q1") swap (Some Buy) 1 (codes "BETA" ∷ codes "DELTA" ∷ codes "EPSILON" ∷ [])) start)
    ≡ (alpha, codes "35=AG|131=q1|658=3|146=1|55=IRS5Y|58=Too many requests|") ∷ []
unfolding digits
too_many_requests = refl

pub related_before_too_many : said_to (rooms_open 1000) (sends alpha 2 (request (codes "q1") swap (Some Buy) 1 (codes "BETA" ∷ codes "GAMMA" ∷ codes "DELTA" ∷ [])) start)
    ≡ (alpha, codes "35=AG|131=q1|658=99|146=1|55=IRS5Y|58=Recipients not unrelated|") ∷ []
unfolding digits
related_before_too_many = refl

pub one_more_request : length (said_to (rooms_open 999) (sends alpha 2 (request (codes "q1") swap (Some Buy) 1 (codes "BETA" ∷ codes "DELTA" ∷ codes "EPSILON" ∷ [])) start)) ≡ 3
one_more_request = refl

pub rooms_over : length (said_to (rooms_open 1000) (sends alpha 2 (request (codes "q1") swap (Some Buy) 1 (codes "BETA" ∷ codes "DELTA" ∷ codes "EPSILON" ∷ [])) (start + 1))) ≡ 3
rooms_over = refl
