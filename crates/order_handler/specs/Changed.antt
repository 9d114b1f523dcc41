use Rattle.std.specs.Prelude.{◌≡◌, ℕ, ℤ, ◌+◌, ◌<◌, ◌≤◌, ◌^◌, true, false, nat_lt, nat_le, is_none, List, [], take, Some}
use Rattle.fix_dictionary.specs.declared.messages.OrderCancelReplaceRequest.{OrderCancelReplaceRequest}
use Rattle.venue_rules.specs.declared.facts.Entry.{Entry}
use Rattle.venue_rules.specs.declared.facts.Fact.{Fact}
use Rattle.venue_rules.specs.declared.refusals.BusinessRefusal.TheVariants as business
use Rattle.venue_rules.specs.declared.refusals.ChangeRefusal.TheVariants as change
use Rattle.venue_rules.specs.declared.replies.OrderStatus.{OrderStatus}
use Rattle.venue_rules.specs.Market.{Market}
use Rattle.venue_rules.specs.Facts.{History, is_order_id_used}
use Rattle.venue_rules.specs.Answer.{Answer, Sender, numbered, business_reject}
use Rattle.venue_rules.specs.Book.{Resting, filled, find_order}
use Rattle.venue_rules.specs.Changes.{answer_replace, replace_refused, replacement, standing}
use Rattle.venue_rules.specs.Orders.{is_limit}
use Rattle.price_book.specs.declared.book.Refusal.{Refusal as BookRefusal}
use Rattle.price_book.specs.declared.book.Refusal.TheVariants.{TooSoon, Full, NoMemory}
use Rattle.price_book.specs.declared.plan.FilledOrder.{FilledOrder}
use Rattle.price_book.specs.Plan.{Plan}
use Rattle.price_book.specs.Plans.{IsReplacePlanned}
use Rattle.order_handler.specs.declared.replacing.ChangeCause.{ChangeCause}
use Rattle.order_handler.specs.declared.replacing.ChangeCause.TheVariants.{Refused, PriceMissing}
use Rattle.venue_request.specs.declared.counts.Counts.{Counts}
use Rattle.order_handler.specs.Parts.{Parts}
use Rattle.order_handler.specs.Reads.{is_used}
use Rattle.order_handler.specs.Reports.{replaced_reports, total}
use Rattle.instruments.specs.declared.instruments.Instrument.{Instrument}
use Rattle.instruments.specs.Listing.{is_off_tick, least_of, symbol_of}

-- no refusal of a replacement holds that is checked before the book is asked
pub record MayReplace (m : Market) (book delay : List Fact) (who : ℕ) (d : OrderCancelReplaceRequest) (r : Resting) : Type 0 where
  pub new : is_used book delay who d.order_id ≡ false
  pub limit : is_limit d.order_type ≡ true
  pub priced : is_none d.price ≡ false
  pub on_tick : is_off_tick m.instruments (replacement d r).instrument (replacement d r).price ≡ false
  pub enough : nat_lt d.quantity (least_of m.instruments (replacement d r).instrument) ≡ false
  pub more : nat_le d.quantity (filled r) ≡ false

-- the answer to a replacement refused before the book is asked, of an order with this status
abbrev pub change_turned_away : Sender → OrderCancelReplaceRequest → OrderStatus → ChangeCause → Answer
change_turned_away s d st (Refused cause) = replace_refused s d (Some st) cause
change_turned_away s d st PriceMissing = business_reject s business.PriceMissing

-- a replacement of the order is refused for this cause in every history with the order found and these used
-- identifiers, whatever its number and moment
pub record IsNotReplaced (m : Market) (book delay : List Fact) (who : ℕ) (d : OrderCancelReplaceRequest) (r : Resting) (cause : ChangeCause) : Type 0 where
  pub answers : (h : History) (number : ℕ) (kind : List ℕ) (t : ℕ) → find_order h.facts who d.original_id ≡ Some r → is_order_id_used h.facts who d.order_id ≡ is_used book delay who d.order_id → answer_replace m h (record { who = who; number = number; kind = kind }) d t ≡ change_turned_away (record { who = who; number = number; kind = kind }) d (standing r) cause

-- no refusal holds of a replacement of a resting order at t, and this is the book's plan
pub record IsReplacing (m : Market) (book delay : List Fact) (who : ℕ) (d : OrderCancelReplaceRequest) (t : ℕ) (plan : Plan) : Type 0 where
  pub named : Resting
  pub price : ℤ
  pub found : find_order book who d.original_id ≡ Some named
  pub may : MayReplace m book delay who d named
  pub priced : d.price ≡ Some price
  pub planned : IsReplacePlanned m book who d.order_id d.quantity price t plan named

-- the book has capacity in spite of its refusal
abbrev pub IsCapacityLeft : BookRefusal → Type 0
IsCapacityLeft (TooSoon number) = Unit {0}
IsCapacityLeft Full = ⊥
IsCapacityLeft NoMemory = Unit {0}

-- the answer to a replacement that the book refuses, of an order with this status: with capacity, the cause is a linked
-- order
abbrev pub IsBookRefusal : Sender → OrderCancelReplaceRequest → OrderStatus → BookRefusal → Answer → Type 0
IsBookRefusal s d st (TooSoon number) a = a ≡ replace_refused s d (Some st) change.LinkedOrderTooRecent
IsBookRefusal s d st Full a = ⊥
IsBookRefusal s d st NoMemory a = ⊥

-- a replacing order with these fills: in an instrument below a count, with fills of at most its quantity
pub record IsTakingPlace (count : ℕ) (gs : List FilledOrder) (e : Entry) : Type 0 where
  pub listed : e.order.instrument < count
  pub within : (k : ℕ) → total (take k gs) ≤ e.order.quantity
  pub whole : e.filled_before + e.order.quantity ≤ 10 ^ 15

-- the answer to a participant's replacement of the order with this identifier: the book's plan, by which an order
-- enters, and its reports, after these counts
abbrev pub replaced_parts : List Instrument → Counts → ℕ → List ℕ → Plan → Entry → Parts
replaced_parts instruments c who original plan e = record { delay_first = false; delay = []; book = plan.facts; replies = numbered c.reports (replaced_reports who original (symbol_of instruments e.order.instrument) e (c.trades + 1) plan.fills) }
