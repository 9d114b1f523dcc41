use Rattle.std.specs.Prelude.{◌≡◌, ◌⊎◌, ℕ, ℤ, ◌+◌, ◌-◌, ◌≤◌, ◌<◌, min, true, false, List, ◌∷◌, ◌++◌, sum_by, Contains, Some}
use Rattle.fix_dictionary.specs.declared.messages.App.TheVariants as app
use Rattle.fix_dictionary.specs.declared.messages.NewOrderSingle.{NewOrderSingle}
use Rattle.venue_rules.specs.declared.facts.Fact.{Fact}
use Rattle.venue_rules.specs.declared.facts.Fact.TheVariants.{Entered, Traded}
use Rattle.venue_rules.specs.declared.facts.Entry.{Entry}
use Rattle.venue_rules.specs.declared.facts.OrderFact.{OrderFact}
use Rattle.venue_rules.specs.declared.facts.Trade.{Trade}
use Rattle.venue_rules.specs.declared.facts.TradeSource.TheVariants.{Book as InBook}
use Rattle.venue_rules.specs.declared.replies.SnapshotEntry.{SnapshotEntry}
use Rattle.venue_rules.specs.declared.trail.Taken.{Taken}
use Rattle.instruments.specs.Listing.{delay_of, is_off_tick, is_unknown_instrument, least_of}
use Rattle.venue_rules.specs.Market.{Market}
use Rattle.venue_rules.specs.Facts.{is_order_id_used}
use Rattle.venue_rules.specs.Book.{Resting, accepts, against, is_linked, opposite, picture, resting}
use Rattle.venue_rules.specs.Orders.{is_unsupported_life, order_asked}
use Rattle.venue_rules.specs.Answer.{Answer}
use Rattle.venue_rules.specs.MoreInputs.{answer_after}
use Rattle.venue_rules.specs.Run.{Input, Message, run}

-- Resting orders can be traded with.

-- the leaves quantities of these orders, in all
abbrev pub leaves : List Resting → ℕ
leaves rs = sum_by (λ (r : Resting). r.left) rs

-- a limit order (40 is 2) as FIX 5.0 SP2 has it: listed, priced on the tick, of the least quantity or more, of a life
-- that the venue knows, under an identifier new to its owner
pub record IsValidOrder (m : Market) (facts : List Fact) (d : NewOrderSingle) (o : OrderFact) : Type 0 where
  pub listed : is_unknown_instrument m.instruments d.symbol ≡ false
  pub new_id : is_order_id_used facts o.who o.id ≡ false
  pub limit : d.order_type ≡ 50
  pub life : is_unsupported_life d.time_in_force ≡ false
  pub price : d.price ≡ Some o.price
  pub on_tick : is_off_tick m.instruments o.instrument o.price ≡ false
  pub least : least_of m.instruments o.instrument ≤ o.quantity

-- no part of it would rest: it is immediate-or-cancel (59 is 3), or what rests within its price is enough
abbrev pub NeedsNoPlace : List Fact → NewOrderSingle → OrderFact → Type 0
NeedsNoPlace facts d o = (d.time_in_force ≡ Some 51) ⊎ (o.quantity ≤ leaves (against facts o))

-- each linked order within its price entered at least the delay before (17 CFR 37.9(b)(1))
abbrev pub LinkedOrdersHaveWaited : Market → List Fact → OrderFact → ℕ → Type 0
LinkedOrdersHaveWaited m facts o t = (r : Resting) → Contains (against facts o) r → is_linked m o r.entry.order ≡ true → r.entry.moment + delay_of m.instruments o.instrument ≤ t

-- a message asks for such an order at this moment
pub record AsksToTrade (m : Market) (facts : List Fact) (taken : Taken) (d : NewOrderSingle) (o : OrderFact) (t : ℕ) : Type 0 where
  pub message : taken.item.app ≡ app.NewOrderSingle d
  pub order : o ≡ order_asked m taken.from d
  pub valid : IsValidOrder m facts d o
  pub no_place : NeedsNoPlace facts d o
  pub waited : LinkedOrdersHaveWaited m facts o t

-- an order that rests within the other's price, behind those that come first, which leave some of its quantity
pub record IsReached (facts : List Fact) (o : OrderFact) (ahead : List Resting) (r : Resting) (behind : List Resting) : Type 0 where
  pub rests : resting facts o.instrument (opposite o.side) ≡ ahead ++ (r ∷ behind)
  pub within : accepts o.side o.price r.entry.order.price ≡ true
  pub some : leaves ahead < o.quantity

-- the answer trades with it, at its price, the lesser of its leaves quantity and what those ahead leave, or more
pub record TradesWith (o : OrderFact) (ahead : List Resting) (r : Resting) (at : ℤ) (x : Answer) : Type 0 where
  pub entry : Entry
  pub trade : Trade
  pub entered : Contains x.facts (Entered entry)
  pub order : entry.order ≡ o
  pub happened : Contains x.facts (Traded trade)
  pub place : trade.place ≡ InBook r.entry.number entry.number
  pub price : trade.price ≡ at
  pub quantity : min r.left (o.quantity - leaves ahead) ≤ trade.quantity

-- whoever sends a valid order trades with each resting order that it reaches (17 CFR 37.3(a)(3))
abbrev pub RestingOrdersTrade : Market → List Input → Type 0
RestingOrdersTrade m is =
    (taken : Taken) (d : NewOrderSingle) (o : OrderFact) (t : ℕ) (ahead : List Resting) (r : Resting) (behind : List Resting) → AsksToTrade m (run m is).history.facts taken d o t → IsReached (run m is).history.facts o ahead r behind
    → TradesWith o ahead r r.entry.order.price (answer_after m is (Message taken t))

-- so it does with an order that a snapshot showed earlier, as with a request's first quote, while that order rests: at
-- the price that was shown (17 CFR 37.9(a)(3)(ii))
abbrev pub ShownOrdersTrade : Market → List Input → Type 0
ShownOrdersTrade m is =
    (before later : List Fact) (s : SnapshotEntry) (taken : Taken) (d : NewOrderSingle) (o : OrderFact) (t : ℕ) (ahead : List Resting) (r : Resting) (behind : List Resting) → (run m is).history.facts ≡ before ++ later → Contains (picture before o.instrument) s → s.order ≡ r.entry.number
    → AsksToTrade m (run m is).history.facts taken d o t → IsReached (run m is).history.facts o ahead r behind
    → TradesWith o ahead r s.price (answer_after m is (Message taken t))
