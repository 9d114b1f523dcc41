-- Plans of messages.
use Rattle.std.proofs.Common.{◌≡◌, refl, sym, subst, ℕ, List, Option, None, arith, length}
use Rattle.fix_dictionary.specs.declared.messages.App.TheVariants.{NewOrderSingle, OrderCancelRequest, OrderCancelReplaceRequest, MarketDataRequest, NewOrderCross, QuoteRequest, Quote, QuoteCancel, QuoteResponse}
use Rattle.fix_dictionary.specs.declared.messages.NewOrderSingle.{NewOrderSingle as NewOrderSingleMessage}
use Rattle.fix_dictionary.specs.declared.messages.OrderCancelRequest.{OrderCancelRequest as OrderCancelRequestMessage}
use Rattle.fix_dictionary.specs.declared.messages.OrderCancelReplaceRequest.{OrderCancelReplaceRequest as OrderCancelReplaceRequestMessage}
use Rattle.fix_dictionary.specs.declared.messages.MarketDataRequest.{MarketDataRequest as MarketDataRequestMessage}
use Rattle.fix_dictionary.specs.declared.messages.NewOrderCross.{NewOrderCross as NewOrderCrossMessage}
use Rattle.fix_dictionary.specs.declared.messages.QuoteRequest.{QuoteRequest as QuoteRequestMessage}
use Rattle.fix_dictionary.specs.declared.messages.Quote.{Quote as QuoteMessage}
use Rattle.fix_dictionary.specs.declared.messages.QuoteCancel.{QuoteCancel as QuoteCancelMessage}
use Rattle.fix_dictionary.specs.declared.messages.QuoteResponse.{QuoteResponse as QuoteResponseMessage}
use Rattle.venue_rules.specs.declared.facts.Fact.{Fact}
use Rattle.venue_rules.specs.declared.trail.RoomFact.{RoomFact}
use Rattle.venue_rules.specs.declared.trail.Taken.{Taken}
use Rattle.venue_rules.specs.Answers.{answer}
use Rattle.venue_rules.specs.Changes.{answer_cancel, answer_replace}
use Rattle.venue_rules.specs.Crosses.{answer_cross}
use Rattle.venue_rules.specs.Facts.{History}
use Rattle.venue_rules.specs.MarketData.{answer_market_data}
use Rattle.venue_rules.specs.Orders.{answer_order}
use Rattle.venue_rules.specs.Quotes.{answer_quote}
use Rattle.venue_rules.specs.Requests.{answer_request}
use Rattle.venue_rules.specs.Responses.{answer_response}
use Rattle.venue_rules.specs.Withdrawals.{answer_withdrawal}
use Rattle.venue_request.specs.Senders.{sender}
use Rattle.venue_rules.specs.Market.{Market}
use Rattle.price_book.specs.Contents.{Contents as Book}
use Rattle.cross_delay.specs.Contents.{Contents as Delay}
use Rattle.rfq_room.specs.Contents.{Contents as Rooms}
use Rattle.rfq_room.specs.Steps.{IsPlanOf as IsRoomPlan}
use Rattle.order_handler.specs.Made.{IsMade as AreOrdersMade}
use Rattle.venue_core.specs.declared.plan.Part.{Part}
use Rattle.venue_core.specs.declared.plan.Part.TheVariants.{OfOrders, OfRooms}
use Rattle.venue_core.specs.declared.venue_state.VenueState.{VenueState}
use Rattle.venue_core.specs.Plan.{IsFit, IsReadAdded}
use Rattle.venue_core.specs.Read.{IsReadWith}
use Rattle.venue_core.specs.State.{VenueFacts, standing}
use Rattle.venue_core.specs.VenueFacts.{IsStanding}

-- facts without the first quote of a room are added without a reading
pub none-read : (d : VenueState) (facts : List Fact) → ((h : History) → IsStanding (standing d) h → IsReadWith h.facts facts None) → IsReadAdded d facts None
none-read d facts later = record { room = omega arith; right = later }

-- the state with capacity for trades reserved has the same parts
pub record IsReserved (d d' : VenueState) : Type 0 where
  pub book : d'.book ≡ d.book
  pub rooms : d'.rooms ≡ d.rooms
  pub held : d'.held ≡ d.held
  pub quoted : d'.quoted ≡ d.quoted
  pub reports : d'.reports ≡ d.reports
  pub trades : d'.traded.trades ≡ d.traded.trades

same-standing : (d d' : VenueState) → IsReserved d d' → standing d' ≡ standing d
same-standing d d' r = λ k. record { book = (r.book k).facts; rooms = (r.rooms k).facts; delay = (r.held k).facts; reports = r.reports k; trades = r.trades k; quoted = (r.quoted k).rooms }

still-read : (d d' : VenueState) (facts : List Fact) (read : Option RoomFact) → IsReserved d d' → IsReadAdded d facts read → IsReadAdded d' facts read
still-read d d' facts read r added = record {
  room = rw r.quoted added.room;
  right = λ h s. added.right h (subst (λ (p : VenueFacts). IsStanding p h) (same-standing d d' r) s);
}

-- and a plan fits it as before
pub still-fit : (m : Market) (d d' : VenueState) (p : Part) → IsReserved d d' → IsFit m d p → IsFit m d' p
still-fit m d d' (OfOrders a) r fit =
    subst (λ (delay : Delay). AreOrdersMade (length m.instruments) d'.book delay a) (sym r.held)
    (subst (λ (book : Book). AreOrdersMade (length m.instruments) book d.held a) (sym r.book) fit)
still-fit m d d' (OfRooms a read) r fit = record {
  plan = subst (λ (rooms : Rooms). IsRoomPlan rooms a.facts) (sym r.rooms) fit.plan;
  listed = fit.listed;
  known = fit.known;
  read = still-read d d' a.facts read r fit.read;
}

-- the rules' answer to a message, by its type

pub order-answers : (m : Market) (h : History) (taken : Taken) (t : ℕ) (d : NewOrderSingleMessage) → taken.item.app ≡ NewOrderSingle d → answer_order m h (sender taken) d t ≡ answer m h taken t
order-answers m h taken t d e = rw e refl

pub cancel-answers : (m : Market) (h : History) (taken : Taken) (t : ℕ) (d : OrderCancelRequestMessage) → taken.item.app ≡ OrderCancelRequest d → answer_cancel m h (sender taken) d ≡ answer m h taken t
cancel-answers m h taken t d e = rw e refl

pub replace-answers : (m : Market) (h : History) (taken : Taken) (t : ℕ) (d : OrderCancelReplaceRequestMessage) → taken.item.app ≡ OrderCancelReplaceRequest d → answer_replace m h (sender taken) d t ≡ answer m h taken t
replace-answers m h taken t d e = rw e refl

pub prices-answers : (m : Market) (h : History) (taken : Taken) (t : ℕ) (d : MarketDataRequestMessage) → taken.item.app ≡ MarketDataRequest d → answer_market_data m h (sender taken) d ≡ answer m h taken t
prices-answers m h taken t d e = rw e refl

pub cross-answers : (m : Market) (h : History) (taken : Taken) (t : ℕ) (d : NewOrderCrossMessage) → taken.item.app ≡ NewOrderCross d → answer_cross m h (sender taken) d t ≡ answer m h taken t
cross-answers m h taken t d e = rw e refl

pub request-answers : (m : Market) (h : History) (taken : Taken) (t : ℕ) (d : QuoteRequestMessage) → taken.item.app ≡ QuoteRequest d → answer_request m h (sender taken) d t ≡ answer m h taken t
request-answers m h taken t d e = rw e refl

pub quote-answers : (m : Market) (h : History) (taken : Taken) (t : ℕ) (d : QuoteMessage) → taken.item.app ≡ Quote d → answer_quote m h (sender taken) d t ≡ answer m h taken t
quote-answers m h taken t d e = rw e refl

pub withdrawal-answers : (m : Market) (h : History) (taken : Taken) (t : ℕ) (d : QuoteCancelMessage) → taken.item.app ≡ QuoteCancel d → answer_withdrawal m h (sender taken) d t ≡ answer m h taken t
withdrawal-answers m h taken t d e = rw e refl

pub response-answers : (m : Market) (h : History) (taken : Taken) (t : ℕ) (d : QuoteResponseMessage) → taken.item.app ≡ QuoteResponse d → answer_response m h (sender taken) d t ≡ answer m h taken t
response-answers m h taken t d e = rw e refl
