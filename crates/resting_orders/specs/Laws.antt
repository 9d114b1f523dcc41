-- What is kept while rows are replayed agrees with the facts.
use Rattle.std.specs.Prelude.{◌≡◌, ℕ, List, [], ◌∷◌, Contains, map, filter_map}
use Rattle.std.specs.List.{cons_option}
use Rattle.venue_rules.specs.Delay.{held}
use Rattle.venue_rules.specs.declared.facts.Fact.{Fact}
use Rattle.venue_rules.specs.declared.facts.Room.{Room}
use Rattle.venue_rules.specs.declared.facts.RoomQuote.{RoomQuote}
use Rattle.venue_rules.specs.Facts.{entries, quotes, rooms}
use Rattle.venue_rules.specs.Market.{Market}
use Rattle.venue_rules.specs.MoreInputs.{answer_after}
use Rattle.venue_rules.specs.Run.{Input, after, run}
use Rattle.resting_orders.specs.Asking.{asked_at, closed_at, closings, request_of}
use Rattle.resting_orders.specs.Holding.{entry_moment, held_after}
use Rattle.resting_orders.specs.Noting.{entered_by, entered_order}
use Rattle.resting_orders.specs.Quoting.{own_quote, quoted_on}
use Rattle.resting_orders.specs.declared.quoting.OwnQuote.{OwnQuote}

-- the orders that an answer reports as entering are all that enter by it, each with number, owner, identifier,
-- quantity and moment
abbrev pub OrdersAgree : Type 0
OrdersAgree = (m : Market) (is : List Input) (i : Input) (row : ℕ) →
    let h = (run m is).history in
    let a = answer_after m is i in
    filter_map (entered_by (record { row = row; moment = entry_moment (held h.facts) i })) a.replies ≡ map (entered_order row) (entries a.facts)

-- after a further input the sides kept are again all that are held
abbrev pub SidesAgree : Type 0
SidesAgree = (m : Market) (is : List Input) (i : Input) →
    let h = (run m is).history in
    let a = answer_after m is i in
    held_after m.instruments (held h.facts) i a.replies ≡ held (after h a).facts

-- the request that an input opens by the replies is the one that its facts have, if any
abbrev pub RequestsAgree : Type 0
RequestsAgree = (m : Market) (is : List Input) (i : Input) →
    let a = answer_after m is i in
    map request_of (rooms a.facts) ≡ cons_option (asked_at m.instruments i a.replies) []

-- and so is the room that trades
abbrev pub ClosingsAgree : Type 0
ClosingsAgree = (m : Market) (is : List Input) (i : Input) →
    let a = answer_after m is i in
    closings a.facts ≡ cons_option (closed_at i a.replies) []

-- a quote is kept as it was made, in a room of the facts
abbrev pub IsOwn : Market → List Fact → RoomQuote → OwnQuote → Type 0
IsOwn m facts q k = (r : Room) × Contains (rooms facts) r × (r.number ≡ q.room) × (k ≡ own_quote m r q)

-- so is each of these quotes, in order
abbrev pub AreOwn : Market → List Fact → List RoomQuote → List OwnQuote → Type 0
AreOwn m facts [] [] = Unit {0}
AreOwn m facts [] (k ∷ ks) = ⊥
AreOwn m facts (q ∷ qs) [] = ⊥
AreOwn m facts (q ∷ qs) (k ∷ ks) = IsOwn m facts q k × AreOwn m facts qs ks

-- and each quote of the facts
abbrev pub QuotesAgree : Type 0
QuotesAgree = (m : Market) (is : List Input) → AreOwn m (run m is).history.facts (quotes (run m is).history.facts) (quoted_on m is)
