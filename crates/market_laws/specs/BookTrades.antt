use Rattle.std.specs.Prelude.{◌≡◌, ◌⊎◌, ℕ, ◌≤◌, ◌<◌, true, int_le, List, Contains}
use Rattle.fix_dictionary.specs.declared.values.Side.TheVariants.{Buy, Sell}
use Rattle.venue_rules.specs.declared.facts.Fact.{Fact}
use Rattle.venue_rules.specs.declared.facts.Fact.TheVariants.{Entered, Traded}
use Rattle.venue_rules.specs.declared.facts.Entry.{Entry}
use Rattle.venue_rules.specs.declared.facts.Trade.{Trade}
use Rattle.venue_rules.specs.declared.facts.TradeSource.TheVariants.{Book as InBook}
use Rattle.venue_rules.specs.Market.{Market}
use Rattle.venue_rules.specs.Book.{left}
use Rattle.venue_rules.specs.Lawful.{HappenedAfter}
use Rattle.venue_rules.specs.Run.{Input, run}

-- The two sides of a trade in the book.

-- one of the two orders rested, the other entered, and at that moment they traded
abbrev pub RestedAndEntered : Trade → ℕ → ℕ → Entry → Entry → Type 0
RestedAndEntered trade old new bid offer =
    ((bid.number ≡ old) × (offer.number ≡ new) × (trade.moment ≡ offer.moment)) ⊎ ((offer.number ≡ old) × (bid.number ≡ new) × (trade.moment ≡ bid.moment))

-- the trade is between a bid and an offer of its instrument, both entered before: the bid's owner buys, the offer's
-- sells, at a price within both limits, a quantity of at most what either had left (17 CFR 37.3(a)(2), (a)(3))
pub record IsBetween (before : List Fact) (trade : Trade) (old new : ℕ) (bid offer : Entry) : Type 0 where
  pub bid_entered : Contains before (Entered bid)
  pub offer_entered : Contains before (Entered offer)
  pub bids : bid.order.side ≡ Buy
  pub offers : offer.order.side ≡ Sell
  pub numbers : RestedAndEntered trade old new bid offer
  pub bought : trade.instrument ≡ bid.order.instrument
  pub sold : trade.instrument ≡ offer.order.instrument
  pub buyer : trade.buyer ≡ bid.order.who
  pub seller : trade.seller ≡ offer.order.who
  pub within_bid : int_le trade.price bid.order.price ≡ true
  pub within_offer : int_le offer.order.price trade.price ≡ true
  pub above_zero : 0 < trade.quantity
  pub left_of_bid : trade.quantity ≤ left before bid
  pub left_of_offer : trade.quantity ≤ left before offer

-- so it is of each trade in the book
abbrev pub BookTradesAreBetweenOwners : Market → List Input → Type 0
BookTradesAreBetweenOwners m is =
    (before : List Fact) (trade : Trade) (old new : ℕ) → HappenedAfter (run m is).history.facts before (Traded trade) → trade.place ≡ InBook old new → (bid : Entry) × (offer : Entry) × IsBetween before trade old new bid offer
