use Rattle.std.specs.Prelude.{◌≡◌, ℕ, ◌<◌, false, not, ◌||◌, nat_lt, is_none, List, length, Some}
use Rattle.venue_rules.specs.declared.refusals.OrderRefusal.TheVariants as order
use Rattle.venue_rules.specs.declared.refusals.BusinessRefusal.TheVariants as business
use Rattle.fix_dictionary.specs.declared.messages.NewOrderSingle.{NewOrderSingle}
use Rattle.venue_rules.specs.declared.facts.Fact.{Fact}
use Rattle.venue_rules.specs.Market.{Market}
use Rattle.venue_rules.specs.Facts.{History, is_order_id_used}
use Rattle.venue_rules.specs.Answer.{Answer, Sender, business_reject}
use Rattle.venue_rules.specs.Book.{find_order}
use Rattle.venue_rules.specs.Orders.{answer_order, is_limit, is_unsupported_life, order_asked, refused, refused_naming}
use Rattle.order_handler.specs.declared.orders.Cause.{Cause}
use Rattle.order_handler.specs.declared.orders.Cause.TheVariants.{Refused, Duplicate, PriceMissing}
use Rattle.order_handler.specs.declared.orders.Terms.{Terms}
use Rattle.order_handler.specs.Reads.{is_used}
use Rattle.instruments.specs.Listing.{instrument_of, is_unknown_instrument, is_off_tick, least_of}

-- no refusal holds that is checked before the book is asked
pub record IsSound (m : Market) (book delay : List Fact) (who : ℕ) (d : NewOrderSingle) : Type 0 where
  pub known : is_unknown_instrument m.instruments d.symbol ≡ false
  pub new : is_used book delay who d.order_id ≡ false
  pub supported : (not (is_limit d.order_type) || is_unsupported_life d.time_in_force) ≡ false
  pub priced : is_none d.price ≡ false
  pub on_tick : is_off_tick m.instruments (order_asked m who d).instrument (order_asked m who d).price ≡ false
  pub enough : nat_lt d.quantity (least_of m.instruments (order_asked m who d).instrument) ≡ false

-- the terms of an order that may enter
pub record IsTermsOf (m : Market) (d : NewOrderSingle) (terms : Terms) : Type 0 where
  pub instrument : terms.instrument ≡ instrument_of m.instruments d.symbol
  pub listed : terms.instrument < length m.instruments
  pub price : d.price ≡ Some terms.price

-- the answer to an order refused before the book is asked
abbrev pub rejection : History → Sender → NewOrderSingle → Cause → Answer
rejection h s d (Refused cause) = refused h s d cause
rejection h s d (Duplicate named) = refused_naming named h s d order.DuplicateClOrdId
rejection h s d PriceMissing = business_reject s business.PriceMissing

-- an order is refused for this cause in every history with these used identifiers and the same order under its own,
-- whatever its number and moment
pub record IsTurnedAway (m : Market) (book delay : List Fact) (who : ℕ) (d : NewOrderSingle) (cause : Cause) : Type 0 where
  pub answers : (h : History) (number : ℕ) (kind : List ℕ) (t : ℕ) → is_order_id_used h.facts who d.order_id ≡ is_used book delay who d.order_id → find_order h.facts who d.order_id ≡ find_order book who d.order_id → answer_order m h (record { who = who; number = number; kind = kind }) d t ≡ rejection h (record { who = who; number = number; kind = kind }) d cause
