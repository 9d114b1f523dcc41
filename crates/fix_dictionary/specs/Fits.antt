-- The ranges of the values of a message, as its types keep them.
use Rattle.std.specs.Prelude.{◌≡◌, ℕ, ◌≤◌, true, length, Option, None, Some}
use Rattle.std.specs.List.{AllByRecursion}
use Rattle.fix_dictionary.specs.Kinds.{IsOtherKind}
use Rattle.fix_dictionary.specs.declared.messages.App.TheVariants as app
use Rattle.fix_dictionary.specs.declared.messages.Admin.TheVariants as admin
use Rattle.fix_dictionary.specs.declared.messages.Body.{Body}
use Rattle.fix_dictionary.specs.declared.messages.Body.TheVariants as body
use Rattle.fix_dictionary.specs.declared.messages.Message.{Message}
use Rattle.sef_moment.specs.Utc.{greatest}
use Rattle.fix_dictionary.specs.Values.{IsText, is_graphic, IsQuantity, IsAmount, IsPrice, IsFixInt, IsSequenceNumber, IsNewSequenceNumber, IsInterval, Resend, IsResend, FitsParties, FitsEntryTypes, FitsEntries}
use Rattle.fix_dictionary.specs.declared.messages.Header.{Header}
use Rattle.fix_dictionary.specs.declared.messages.Heartbeat.{Heartbeat}
use Rattle.fix_dictionary.specs.declared.messages.TestRequest.{TestRequest}
use Rattle.fix_dictionary.specs.declared.messages.Reject.{Reject}
use Rattle.fix_dictionary.specs.declared.messages.SequenceReset.{SequenceReset}
use Rattle.fix_dictionary.specs.declared.messages.Logout.{Logout}
use Rattle.fix_dictionary.specs.declared.messages.Logon.{Logon}
use Rattle.fix_dictionary.specs.declared.messages.QuoteCancel.{QuoteCancel}
use Rattle.fix_dictionary.specs.declared.messages.QuoteResponse.{QuoteResponse}
use Rattle.fix_dictionary.specs.declared.messages.QuoteStatusReport.{QuoteStatusReport}
use Rattle.fix_dictionary.specs.declared.messages.NewOrderSingle.{NewOrderSingle}
use Rattle.fix_dictionary.specs.declared.messages.OrderCancelRequest.{OrderCancelRequest}
use Rattle.fix_dictionary.specs.declared.messages.OrderCancelReplaceRequest.{OrderCancelReplaceRequest}
use Rattle.fix_dictionary.specs.declared.messages.ExecutionReport.{ExecutionReport}
use Rattle.fix_dictionary.specs.declared.messages.OrderCancelReject.{OrderCancelReject}
use Rattle.fix_dictionary.specs.declared.messages.CrossSide.{CrossSide}
use Rattle.fix_dictionary.specs.declared.messages.NewOrderCross.{NewOrderCross}
use Rattle.fix_dictionary.specs.declared.messages.Party.{Party}
use Rattle.fix_dictionary.specs.declared.messages.QuoteRequest.{QuoteRequest}
use Rattle.fix_dictionary.specs.declared.messages.Quote.{Quote}
use Rattle.fix_dictionary.specs.declared.messages.QuoteRequestReject.{QuoteRequestReject}
use Rattle.fix_dictionary.specs.declared.messages.MarketDataEntry.{MarketDataEntry}
use Rattle.fix_dictionary.specs.declared.messages.MarketDataRequest.{MarketDataRequest}
use Rattle.fix_dictionary.specs.declared.messages.MarketDataSnapshot.{MarketDataSnapshot}
use Rattle.fix_dictionary.specs.declared.messages.MarketDataRequestReject.{MarketDataRequestReject}
use Rattle.fix_dictionary.specs.declared.messages.BusinessMessageReject.{BusinessMessageReject}

abbrev pub Given : {X : Type 0} → (X → Type 0) → Option X → Type 0
Given P None = Unit {0}
Given P (Some x) = P x

abbrev pub IsGraphic : ℕ → Type 0
IsGraphic c = is_graphic c ≡ true

abbrev pub IsMoment : ℕ → Type 0
IsMoment n = n ≤ greatest

pub record FitsHeader (m : Header) : Type 0 where
  pub sender : IsText 64 m.sender
  pub target : IsText 64 m.target
  pub number : IsSequenceNumber m.number
  pub sending_time : IsMoment m.sending_time
  pub original_sending_time : Given IsMoment m.original_sending_time
  pub application_version : Given (IsText 64) m.application_version

pub record FitsHeartbeat (m : Heartbeat) : Type 0 where
  pub test_id : Given (IsText 64) m.test_id

pub record FitsTestRequest (m : TestRequest) : Type 0 where
  pub test_id : IsText 64 m.test_id

pub record FitsResendRequest (m : Resend) : Type 0 where
  pub begin : IsSequenceNumber m.begin
  pub end : IsFixInt m.end
  pub range : IsResend m.begin m.end

pub record FitsReject (m : Reject) : Type 0 where
  pub reference_number : IsFixInt m.reference_number
  pub reference_tag : Given IsFixInt m.reference_tag
  pub reference_type : Given (IsText 64) m.reference_type
  pub reason : Given IsFixInt m.reason
  pub text : Given (IsText 200) m.text

pub record FitsSequenceReset (m : SequenceReset) : Type 0 where
  pub new_number : IsNewSequenceNumber m.new_number

pub record FitsLogout (m : Logout) : Type 0 where
  pub text : Given (IsText 200) m.text

pub record FitsLogon (m : Logon) : Type 0 where
  pub heartbeat_interval : IsInterval m.heartbeat_interval

pub record FitsQuoteCancel (m : QuoteCancel) : Type 0 where
  pub quote_id : Given (IsText 64) m.quote_id
  pub cancel_type : IsFixInt m.cancel_type

pub record FitsQuoteResponse (m : QuoteResponse) : Type 0 where
  pub response_id : IsText 64 m.response_id
  pub quote_id : IsText 64 m.quote_id
  pub response_type : IsFixInt m.response_type

pub record FitsQuoteStatusReport (m : QuoteStatusReport) : Type 0 where
  pub quote_id : Given (IsText 64) m.quote_id
  pub request_id : Given (IsText 64) m.request_id
  pub response_id : Given (IsText 64) m.response_id
  pub symbol : Given (IsText 64) m.symbol
  pub status : IsFixInt m.status
  pub reject_reason : Given IsFixInt m.reject_reason
  pub text : Given (IsText 200) m.text

pub record FitsNewOrderSingle (m : NewOrderSingle) : Type 0 where
  pub order_id : IsText 64 m.order_id
  pub link_id : Given (IsText 64) m.link_id
  pub symbol : IsText 64 m.symbol
  pub quantity : IsQuantity m.quantity
  pub order_type : IsGraphic m.order_type
  pub price : Given IsPrice m.price
  pub time_in_force : Given IsGraphic m.time_in_force
  pub transact_time : Given IsMoment m.transact_time

pub record FitsOrderCancelRequest (m : OrderCancelRequest) : Type 0 where
  pub order_id : IsText 64 m.order_id
  pub original_id : IsText 64 m.original_id

pub record FitsOrderCancelReplaceRequest (m : OrderCancelReplaceRequest) : Type 0 where
  pub order_id : IsText 64 m.order_id
  pub original_id : IsText 64 m.original_id
  pub quantity : IsQuantity m.quantity
  pub order_type : IsGraphic m.order_type
  pub price : Given IsPrice m.price

pub record FitsExecutionReport (m : ExecutionReport) : Type 0 where
  pub venue_order_id : IsText 64 m.venue_order_id
  pub execution_id : IsText 64 m.execution_id
  pub execution_type : IsGraphic m.execution_type
  pub order_status : IsGraphic m.order_status
  pub symbol : IsText 64 m.symbol
  pub left : IsAmount m.left
  pub filled : IsAmount m.filled
  pub order_id : Given (IsText 64) m.order_id
  pub original_id : Given (IsText 64) m.original_id
  pub last_price : Given IsPrice m.last_price
  pub last_quantity : Given IsQuantity m.last_quantity
  pub reject_reason : Given IsFixInt m.reject_reason
  pub trade_id : Given (IsText 64) m.trade_id
  pub response_id : Given (IsText 64) m.response_id
  pub text : Given (IsText 200) m.text

pub record FitsOrderCancelReject (m : OrderCancelReject) : Type 0 where
  pub venue_order_id : IsText 64 m.venue_order_id
  pub order_id : IsText 64 m.order_id
  pub original_id : IsText 64 m.original_id
  pub order_status : IsGraphic m.order_status
  pub response_to : IsGraphic m.response_to
  pub reject_reason : IsFixInt m.reject_reason
  pub text : Given (IsText 200) m.text

pub record FitsMarketDataRequestReject (m : MarketDataRequestReject) : Type 0 where
  pub request_id : IsText 64 m.request_id
  pub reject_reason : IsGraphic m.reject_reason
  pub text : Given (IsText 200) m.text

pub record FitsBusinessMessageReject (m : BusinessMessageReject) : Type 0 where
  pub reference_number : IsFixInt m.reference_number
  pub reference_type : IsText 64 m.reference_type
  pub reject_reason : IsFixInt m.reject_reason
  pub text : Given (IsText 200) m.text

pub record FitsParty (m : Party) : Type 0 where
  pub id : IsText 64 m.id
  pub source : IsGraphic m.source
  pub role : IsFixInt m.role

pub record FitsQuoteRequest (m : QuoteRequest) : Type 0 where
  pub request_id : IsText 64 m.request_id
  pub symbol : IsText 64 m.symbol
  pub quantity : IsQuantity m.quantity
  pub parties : AllByRecursion FitsParty m.parties
  pub number : FitsParties (length m.parties)

pub record FitsQuote (m : Quote) : Type 0 where
  pub quote_id : IsText 64 m.quote_id
  pub request_id : IsText 64 m.request_id
  pub quote_type : Given IsGraphic m.quote_type
  pub parties : AllByRecursion FitsParty m.parties
  pub number : FitsParties (length m.parties)
  pub symbol : IsText 64 m.symbol
  pub bid_price : Given IsPrice m.bid_price
  pub offer_price : Given IsPrice m.offer_price
  pub bid_size : Given IsQuantity m.bid_size
  pub offer_size : Given IsQuantity m.offer_size
  pub valid_until : Given IsMoment m.valid_until

pub record FitsQuoteRequestReject (m : QuoteRequestReject) : Type 0 where
  pub request_id : IsText 64 m.request_id
  pub reject_reason : IsFixInt m.reject_reason
  pub symbol : IsText 64 m.symbol
  pub text : Given (IsText 200) m.text

pub record FitsCrossSide (m : CrossSide) : Type 0 where
  pub order_id : IsText 64 m.order_id
  pub quantity : IsQuantity m.quantity

pub record FitsNewOrderCross (m : NewOrderCross) : Type 0 where
  pub cross_id : IsText 64 m.cross_id
  pub cross_type : IsFixInt m.cross_type
  pub prioritization : IsFixInt m.prioritization
  pub first : FitsCrossSide m.first
  pub second : FitsCrossSide m.second
  pub symbol : IsText 64 m.symbol
  pub order_type : IsGraphic m.order_type
  pub price : Given IsPrice m.price

pub record FitsMarketDataRequest (m : MarketDataRequest) : Type 0 where
  pub request_id : IsText 64 m.request_id
  pub subscription_type : IsGraphic m.subscription_type
  pub depth : IsFixInt m.depth
  pub entry_types : AllByRecursion IsGraphic m.entry_types
  pub number : FitsEntryTypes (length m.entry_types)
  pub symbol : IsText 64 m.symbol

pub record FitsMarketDataEntry (m : MarketDataEntry) : Type 0 where
  pub entry_type : IsGraphic m.entry_type
  pub price : Given IsPrice m.price
  pub size : Given IsAmount m.size
  pub order_id : Given (IsText 64) m.order_id

pub record FitsMarketDataSnapshot (m : MarketDataSnapshot) : Type 0 where
  pub request_id : IsText 64 m.request_id
  pub symbol : IsText 64 m.symbol
  pub entries : AllByRecursion FitsMarketDataEntry m.entries
  pub number : FitsEntries (length m.entries)

-- types that are not read have no clause
abbrev pub FitsBody : Body → Type 0
FitsBody (body.Admin (admin.Heartbeat m)) = FitsHeartbeat m
FitsBody (body.Admin (admin.TestRequest m)) = FitsTestRequest m
FitsBody (body.Admin (admin.ResendRequest m)) = FitsResendRequest m
FitsBody (body.Admin (admin.Reject m)) = FitsReject m
FitsBody (body.Admin (admin.SequenceReset m)) = FitsSequenceReset m
FitsBody (body.Admin (admin.Logout m)) = FitsLogout m
FitsBody (body.Admin (admin.Logon m)) = FitsLogon m
FitsBody (body.App (app.QuoteCancel m)) = FitsQuoteCancel m
FitsBody (body.App (app.QuoteResponse m)) = FitsQuoteResponse m
FitsBody (body.App (app.QuoteStatusReport m)) = FitsQuoteStatusReport m
FitsBody (body.App (app.NewOrderSingle m)) = FitsNewOrderSingle m
FitsBody (body.App (app.OrderCancelRequest m)) = FitsOrderCancelRequest m
FitsBody (body.App (app.OrderCancelReplaceRequest m)) = FitsOrderCancelReplaceRequest m
FitsBody (body.App (app.ExecutionReport m)) = FitsExecutionReport m
FitsBody (body.App (app.OrderCancelReject m)) = FitsOrderCancelReject m
FitsBody (body.App (app.MarketDataRequestReject m)) = FitsMarketDataRequestReject m
FitsBody (body.App (app.BusinessMessageReject m)) = FitsBusinessMessageReject m
FitsBody (body.App (app.Unsupported kind)) = IsOtherKind kind
FitsBody (body.App (app.QuoteRequest m)) = FitsQuoteRequest m
FitsBody (body.App (app.Quote m)) = FitsQuote m
FitsBody (body.App (app.QuoteRequestReject m)) = FitsQuoteRequestReject m
FitsBody (body.App (app.NewOrderCross m)) = FitsNewOrderCross m
FitsBody (body.App (app.MarketDataRequest m)) = FitsMarketDataRequest m
FitsBody (body.App (app.MarketDataSnapshot m)) = FitsMarketDataSnapshot m

pub record FitsMessage (m : Message) : Type 0 where
  pub header : FitsHeader m.header
  pub body : FitsBody m.body
