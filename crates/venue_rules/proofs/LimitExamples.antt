use Rattle.std.proofs.Common.{◌≡◌, refl, ℕ, zero, suc, ◌+◌, true, false, List, [], ◌∷◌, ◌++◌, length, map, Some, None, codes}
use Rattle.std.specs.Fmt.{digits}
use Rattle.fix_dictionary.specs.declared.values.Side.TheVariants.{Buy, Sell}
use Rattle.venue_rules.specs.Run.{Input, answer_input, run}
use Rattle.venue_rules.proofs.ExampleInputs.{venue, alpha, beta, gamma, delta, epsilon, start, swap, two_and_a_half, sends, order, request}
use Rattle.venue_rules.specs.declared.facts.Fact.{Fact}
use Rattle.venue_rules.specs.declared.facts.Fact.TheVariants.{Entered}
use Rattle.venue_rules.specs.declared.facts.TimeInForce.TheVariants.{Day}
use Rattle.venue_rules.specs.Facts.{History}
use Rattle.participants.specs.Relations.{three_unrelated}
use Rattle.venue_rules.specs.Market.{Market}
use Rattle.venue_rules.specs.Messages.{message}
use Rattle.venue_rules.proofs.Spelling.{spelled}

-- Limits and relations: thirteen recipients, a full side of the book, three unrelated recipients.

-- a larger venue, with its last participant related to the first recipient
abbrev pub large_venue : Market
large_venue = record venue { participants = record { venue = codes "SEF"; names = codes "P00" ∷ codes "P01" ∷ codes "P02" ∷ codes "P03" ∷ codes "P04" ∷ codes "P05" ∷ codes "P06" ∷ codes "P07" ∷ codes "P08" ∷ codes "P09" ∷ codes "P10" ∷ codes "P11" ∷ codes "P12" ∷ codes "P13" ∷ []; pairs = (13, 1) ∷ [] } }

abbrev pub twelve_names : List (List ℕ)
twelve_names = codes "P01" ∷ codes "P02" ∷ codes "P03" ∷ codes "P04" ∷ codes "P05" ∷ codes "P06" ∷ codes "P07" ∷ codes "P08" ∷ codes "P09" ∷ codes "P10" ∷ codes "P11" ∷ codes "P12" ∷ []

abbrev pub said_in_large_venue : List Input → List (ℕ × List ℕ)
said_in_large_venue is = map (λ r. (r.to, spelled (message r.what))) (run large_venue is).replies

pub thirteen_recipients : said_in_large_venue (sends 0 2 (request (codes "q1") swap (Some Buy) 100 (twelve_names ++ codes "P13" ∷ [])) start ∷ [])
    ≡ (0, codes "35=AG|131=q1|658=3|146=1|55=IRS5Y|58=Too many recipients|") ∷ []
unfolding digits
thirteen_recipients = refl

pub twelve_recipients : length (said_in_large_venue (sends 0 2 (request (codes "q1") swap (Some Buy) 100 twelve_names) start ∷ [])) ≡ 12
twelve_recipients = refl

-- sells of one participant, entered one after another
abbrev pub many_sells : ℕ → List Fact
many_sells zero = []
many_sells (suc n) = many_sells n ++ Entered (record { number = n + 1; order = record { who = 3; id = codes "d"; link = None; instrument = 0; side = Sell; quantity = 1; price = two_and_a_half; life = Day }; filled_before = 0; moment = start }) ∷ []

abbrev pub full_side : History
full_side = record { facts = many_sells 200; reports = 200 }

abbrev pub said_to : History → Input → List (ℕ × List ℕ)
said_to h i = map (λ r. (r.to, spelled (message r.what))) (answer_input venue h i).replies

-- with 200 sells resting, a further one without fills is refused, and a buy still fills
pub side_is_full : said_to full_side (sends beta 2 (order (codes "b1") swap Sell 1 two_and_a_half) (start + 1))
    ≡ (beta, codes "35=8|37=NONE|17=E201|150=8|39=8|55=IRS5Y|54=2|151=0|14=0|11=b1|103=3|58=Book side full|") ∷ []
unfolding digits
side_is_full = refl

pub full_side_fills : said_to full_side (sends beta 2 (order (codes "b1") swap Buy 1 two_and_a_half) (start + 1))
    ≡ (beta, codes "35=8|37=O201|17=E201|150=0|39=0|55=IRS5Y|54=1|151=1|14=0|11=b1|")
    ∷ (beta, codes "35=8|37=O201|17=E202|150=F|39=2|55=IRS5Y|54=1|151=0|14=1|11=b1|31=2.5|32=1|880=T1|")
    ∷ (delta, codes "35=8|37=O1|17=E203|150=F|39=2|55=IRS5Y|54=2|151=0|14=1|11=d|31=2.5|32=1|880=T1|") ∷ []
unfolding digits
full_side_fills = refl

-- sets of recipients that are enough
pub alpha_asks_three : three_unrelated venue.participants alpha (beta ∷ gamma ∷ delta ∷ []) ≡ false
alpha_asks_three = refl

pub alpha_asks_four : three_unrelated venue.participants alpha (beta ∷ gamma ∷ delta ∷ epsilon ∷ []) ≡ true
alpha_asks_four = refl

pub beta_asks_three : three_unrelated venue.participants beta (gamma ∷ delta ∷ epsilon ∷ []) ≡ false
beta_asks_three = refl

pub beta_asks_four : three_unrelated venue.participants beta (gamma ∷ delta ∷ epsilon ∷ alpha ∷ []) ≡ true
beta_asks_four = refl

-- relation is not transitive
pub not_passed_on : three_unrelated (record { venue = codes "SEF"; names = codes "A" ∷ codes "B" ∷ codes "C" ∷ codes "D" ∷ codes "E" ∷ []; pairs = (0, 1) ∷ (1, 2) ∷ [] }) 3 (0 ∷ 2 ∷ 4 ∷ []) ≡ true
not_passed_on = refl
