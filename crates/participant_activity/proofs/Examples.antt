-- Worked examples: the figures of the days of examples/, by hand from the answers of their trails.
use Rattle.std.proofs.Common.{◌≡◌, ℕ, refl, pos, ◌+◌, List, [], ◌∷◌, ◌++◌, None, Some, codes}
use Rattle.std.specs.Fmt.{digits}
use Rattle.fix_dictionary.specs.declared.values.Side.TheVariants.{Buy, Sell}
use Rattle.venue_rules.specs.Run.{Input}
use Rattle.participant_activity.specs.declared.form.Form.TheVariants.{Lines}
use Rattle.participant_activity.specs.Figures.{ends_at, figures_text, orders_text, quote_figures, quotes_text, request_figures, times_text}
use Rattle.participant_activity.specs.Noting.{activity, after_message, occasion_by, with_sent}
use Rattle.participant_activity.specs.Turns.{turns_of}
use Rattle.participant_activity.proofs.ExampleDays.{alpha, beta, cancel, delta, epsilon, five_offers, gamma, morning, offer, order, quotes_day, quotes_venue, replace, sample_day, sends, start, swap, two_and_a_half, venue, zeta}

-- the text of a day below its moments
abbrev figured : ℕ → List Input → List ℕ
figured who is =
    let a = activity (turns_of venue who is) in
    quotes_text Lines a ++ orders_text Lines a

-- BETA sells 60 whole, is refused an order and sells 5 whole; it was asked once, and did not quote
pub beta_on_the_sample_day : figured beta sample_day
    ≡ codes "requests received: 1\n"
    ++ codes "requests quoted: 0\n"
    ++ codes "quotes sent: 0\n"
    ++ codes "quotes accepted: 0\n"
    ++ codes "quotes hit: 0\n"
    ++ codes "quotes passed: 0\n"
    ++ codes "quotes withdrawn: 0\n"
    ++ codes "quotes replaced: 0\n"
    ++ codes "quotes whose own end (62) passed: 0\n"
    ++ codes "quotes whose end no message states (run out or traded elsewhere or live): 0\n"
    ++ codes "requests sent: 0\n"
    ++ codes "requests traded: 0\n"
    ++ codes "withdrawals and responses that named no live quote: 0\n"
    ++ codes "orders sent: 3\n"
    ++ codes "crosses sent: 0\n"
    ++ codes "orders and cross sides entered: 2\n"
    ++ codes "orders filled in part or whole: 2\n"
    ++ codes "orders filled whole: 2\n"
    ++ codes "orders cancelled: 0\n"
    ++ codes "orders cancelled at entry: 0\n"
    ++ codes "orders replaced: 0\n"
    ++ codes "orders resting at the end: 0\n"
    ++ codes "held cross sides cancelled: 0\n"
    ++ codes "refusals received: 1\n"
    ++ codes "refused, Linked order too recent: 1\n"
    ++ codes "trades bought, BASIS1Y: 0\n"
    ++ codes "quantity bought, BASIS1Y: 0\n"
    ++ codes "trades sold, BASIS1Y: 1\n"
    ++ codes "quantity sold, BASIS1Y: 5\n"
    ++ codes "trades bought, IRS5Y: 0\n"
    ++ codes "quantity bought, IRS5Y: 0\n"
    ++ codes "trades sold, IRS5Y: 1\n"
    ++ codes "quantity sold, IRS5Y: 60\n"
unfolding digits after_message occasion_by with_sent
beta_on_the_sample_day = refl

-- it sends its first message at once, and is owed its last one after 41 seconds
pub beta_from_when : (activity (turns_of venue beta sample_day)).first ≡ Some start
unfolding digits after_message occasion_by with_sent
beta_from_when = refl

pub beta_until_when : (activity (turns_of venue beta sample_day)).last ≡ Some (start + 41000)
unfolding digits after_message occasion_by with_sent
beta_until_when = refl

-- ALPHA buys 60 and 40 by one order, hits a quote of 100, and trades 10 with itself by a cross; an order of it rests
pub alpha_on_the_sample_day : figured alpha sample_day
    ≡ codes "requests received: 0\n"
    ++ codes "requests quoted: 0\n"
    ++ codes "quotes sent: 0\n"
    ++ codes "quotes accepted: 0\n"
    ++ codes "quotes hit: 0\n"
    ++ codes "quotes passed: 0\n"
    ++ codes "quotes withdrawn: 0\n"
    ++ codes "quotes replaced: 0\n"
    ++ codes "quotes whose own end (62) passed: 0\n"
    ++ codes "quotes whose end no message states (run out or traded elsewhere or live): 0\n"
    ++ codes "requests sent: 1\n"
    ++ codes "requests traded: 1\n"
    ++ codes "withdrawals and responses that named no live quote: 0\n"
    ++ codes "orders sent: 2\n"
    ++ codes "crosses sent: 1\n"
    ++ codes "orders and cross sides entered: 4\n"
    ++ codes "orders filled in part or whole: 3\n"
    ++ codes "orders filled whole: 3\n"
    ++ codes "orders cancelled: 0\n"
    ++ codes "orders cancelled at entry: 0\n"
    ++ codes "orders replaced: 0\n"
    ++ codes "orders resting at the end: 1\n"
    ++ codes "held cross sides cancelled: 0\n"
    ++ codes "refusals received: 0\n"
    ++ codes "trades bought, IRS5Y: 4\n"
    ++ codes "quantity bought, IRS5Y: 210\n"
    ++ codes "trades sold, IRS5Y: 1\n"
    ++ codes "quantity sold, IRS5Y: 10\n"
unfolding digits after_message occasion_by with_sent
alpha_on_the_sample_day = refl

-- the part of a day's text that speaks of requests and quotes as a dealer
abbrev dealt : ℕ → List Input → List ℕ
dealt who is =
    let a = activity (turns_of quotes_venue who is) in
    figures_text Lines (request_figures a.quotes) ++ (times_text Lines a.times a.quotes.quoted ++ figures_text Lines (quote_figures a.quotes (ends_at a.last a.asked)))

-- BETA quotes twice, and another trades: no message says so
pub beta_on_the_quotes_day : dealt beta quotes_day
    ≡ codes "requests received: 1\n"
    ++ codes "requests quoted: 1\n"
    ++ codes "least milliseconds to a first quote: 1000\n"
    ++ codes "median milliseconds to a first quote: 1000\n"
    ++ codes "greatest milliseconds to a first quote: 1000\n"
    ++ codes "quotes sent: 2\n"
    ++ codes "quotes accepted: 2\n"
    ++ codes "quotes hit: 0\n"
    ++ codes "quotes passed: 0\n"
    ++ codes "quotes withdrawn: 0\n"
    ++ codes "quotes replaced: 1\n"
    ++ codes "quotes whose own end (62) passed: 0\n"
    ++ codes "quotes whose end no message states (run out or traded elsewhere or live): 1\n"
unfolding digits after_message occasion_by with_sent
beta_on_the_quotes_day = refl

-- DELTA withdraws, EPSILON is passed, ZETA is hit

pub delta_on_the_quotes_day : dealt delta quotes_day
    ≡ codes "requests received: 1\n"
    ++ codes "requests quoted: 1\n"
    ++ codes "least milliseconds to a first quote: 3000\n"
    ++ codes "median milliseconds to a first quote: 3000\n"
    ++ codes "greatest milliseconds to a first quote: 3000\n"
    ++ codes "quotes sent: 1\n"
    ++ codes "quotes accepted: 1\n"
    ++ codes "quotes hit: 0\n"
    ++ codes "quotes passed: 0\n"
    ++ codes "quotes withdrawn: 1\n"
    ++ codes "quotes replaced: 0\n"
    ++ codes "quotes whose own end (62) passed: 0\n"
    ++ codes "quotes whose end no message states (run out or traded elsewhere or live): 0\n"
unfolding digits after_message occasion_by with_sent
delta_on_the_quotes_day = refl

abbrev ends_of : ℕ → List Input → List ℕ
ends_of who is =
    let a = activity (turns_of quotes_venue who is) in
    figures_text Lines (quote_figures a.quotes (ends_at a.last a.asked))

pub epsilon_on_the_quotes_day : ends_of epsilon quotes_day
    ≡ codes "quotes sent: 1\n"
    ++ codes "quotes accepted: 1\n"
    ++ codes "quotes hit: 0\n"
    ++ codes "quotes passed: 1\n"
    ++ codes "quotes withdrawn: 0\n"
    ++ codes "quotes replaced: 0\n"
    ++ codes "quotes whose own end (62) passed: 0\n"
    ++ codes "quotes whose end no message states (run out or traded elsewhere or live): 0\n"
unfolding digits after_message occasion_by with_sent
epsilon_on_the_quotes_day = refl

pub zeta_on_the_quotes_day : ends_of zeta quotes_day
    ≡ codes "quotes sent: 1\n"
    ++ codes "quotes accepted: 1\n"
    ++ codes "quotes hit: 1\n"
    ++ codes "quotes passed: 0\n"
    ++ codes "quotes withdrawn: 0\n"
    ++ codes "quotes replaced: 0\n"
    ++ codes "quotes whose own end (62) passed: 0\n"
    ++ codes "quotes whose end no message states (run out or traded elsewhere or live): 0\n"
unfolding digits after_message occasion_by with_sent
zeta_on_the_quotes_day = refl

-- GAMMA's offer ends after two seconds, and it offers again a second later
pub gamma_offers_again : ends_of gamma (five_offers ++ sends gamma 3 (offer (codes "g2") (pos 2497500) None) (morning + 5001) ∷ [])
    ≡ codes "quotes sent: 2\n"
    ++ codes "quotes accepted: 2\n"
    ++ codes "quotes hit: 0\n"
    ++ codes "quotes passed: 0\n"
    ++ codes "quotes withdrawn: 0\n"
    ++ codes "quotes replaced: 0\n"
    ++ codes "quotes whose own end (62) passed: 1\n"
    ++ codes "quotes whose end no message states (run out or traded elsewhere or live): 1\n"
unfolding digits after_message occasion_by with_sent
gamma_offers_again = refl

-- An order that is filled in part, replaced, filled again and cancelled counts once as filled; the rest of one that is
-- immediate or cancel ends as it enters; and a change of what is gone is refused.
abbrev changed_orders : List Input
changed_orders =
    sends delta 2 (order (codes "d1") swap Sell 70 two_and_a_half None) start
    ∷ sends alpha 2 (order (codes "a1") swap Buy 30 two_and_a_half None) (start + 1)
    ∷ sends delta 3 (replace (codes "d2") (codes "d1") 60 two_and_a_half) (start + 2)
    ∷ sends alpha 3 (order (codes "a2") swap Buy 10 two_and_a_half None) (start + 3)
    ∷ sends delta 4 (cancel (codes "d3") (codes "d2")) (start + 4)
    ∷ sends delta 5 (cancel (codes "d4") (codes "d2")) (start + 5)
    ∷ sends delta 6 (order (codes "d5") swap Buy 5 two_and_a_half (Some 51)) (start + 6)
    ∷ []

abbrev printed_orders : ℕ → List Input → List ℕ
printed_orders who is = orders_text Lines (activity (turns_of venue who is))

pub delta_changes_an_order : printed_orders delta changed_orders
    ≡ codes "orders sent: 2\n"
    ++ codes "crosses sent: 0\n"
    ++ codes "orders and cross sides entered: 2\n"
    ++ codes "orders filled in part or whole: 1\n"
    ++ codes "orders filled whole: 0\n"
    ++ codes "orders cancelled: 1\n"
    ++ codes "orders cancelled at entry: 1\n"
    ++ codes "orders replaced: 1\n"
    ++ codes "orders resting at the end: 0\n"
    ++ codes "held cross sides cancelled: 0\n"
    ++ codes "refusals received: 1\n"
    ++ codes "refused, Unknown order: 1\n"
    ++ codes "trades bought, IRS5Y: 0\n"
    ++ codes "quantity bought, IRS5Y: 0\n"
    ++ codes "trades sold, IRS5Y: 2\n"
    ++ codes "quantity sold, IRS5Y: 40\n"
unfolding digits after_message occasion_by with_sent
delta_changes_an_order = refl
