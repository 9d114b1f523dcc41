-- The printed text of messages: for each type its tags in order, with the printed values.
use Rattle.std.specs.Prelude.{ℕ, Bool, true, false, List, [], ◌∷◌, ◌++◌, length, Option, None, Some, decimal, codes}
use Rattle.fix_fields.specs.Fields.{Entry, fields_text}
use Rattle.fix_fields.specs.Forms.{price_text}
use Rattle.sef_moment.specs.Utc.{utc_text}
use Rattle.fix_dictionary.specs.declared.values.Side.{Side}
use Rattle.fix_dictionary.specs.declared.values.Side.TheVariants.{Buy, Sell}
use Rattle.fix_dictionary.specs.declared.messages.App.{App}
use Rattle.fix_dictionary.specs.declared.messages.App.TheVariants as app
use Rattle.fix_dictionary.specs.declared.messages.Admin.{Admin}
use Rattle.fix_dictionary.specs.declared.messages.Admin.TheVariants as admin
use Rattle.fix_dictionary.specs.declared.messages.Body.{Body}
use Rattle.fix_dictionary.specs.declared.messages.Body.TheVariants as body
use Rattle.fix_dictionary.specs.declared.messages.Message.{Message}
use Rattle.fix_dictionary.specs.declared.messages.Header.{Header}
use Rattle.fix_dictionary.specs.declared.messages.Heartbeat.{Heartbeat}
use Rattle.fix_dictionary.specs.declared.messages.TestRequest.{TestRequest}
use Rattle.fix_dictionary.specs.Values.{Resend}
use Rattle.fix_dictionary.specs.declared.messages.Reject.{Reject}
use Rattle.fix_dictionary.specs.declared.messages.SequenceReset.{SequenceReset}
use Rattle.fix_dictionary.specs.declared.messages.Logout.{Logout}
use Rattle.fix_dictionary.specs.declared.messages.Logon.{Logon}
use Rattle.fix_dictionary.specs.declared.messages.QuoteCancel.{QuoteCancel}
use Rattle.fix_dictionary.specs.declared.messages.QuoteResponse.{QuoteResponse}
use Rattle.fix_dictionary.specs.declared.messages.QuoteStatusReport.{QuoteStatusReport}
use Rattle.fix_dictionary.specs.declared.messages.NewOrderSingle.{NewOrderSingle}
use Rattle.fix_dictionary.specs.declared.messages.OrderCancelRequest.{OrderCancelRequest}
use Rattle.fix_dictionary.specs.declared.messages.OrderCancelReplaceRequest.{OrderCancelReplaceRequest}
use Rattle.fix_dictionary.specs.declared.messages.ExecutionReport.{ExecutionReport}
use Rattle.fix_dictionary.specs.declared.messages.OrderCancelReject.{OrderCancelReject}
use Rattle.fix_dictionary.specs.declared.messages.NewOrderCross.{NewOrderCross}
use Rattle.fix_dictionary.specs.declared.messages.Party.{Party}
use Rattle.fix_dictionary.specs.declared.messages.QuoteRequest.{QuoteRequest}
use Rattle.fix_dictionary.specs.declared.messages.Quote.{Quote}
use Rattle.fix_dictionary.specs.declared.messages.QuoteRequestReject.{QuoteRequestReject}
use Rattle.fix_dictionary.specs.declared.messages.MarketDataEntry.{MarketDataEntry}
use Rattle.fix_dictionary.specs.declared.messages.MarketDataRequest.{MarketDataRequest}
use Rattle.fix_dictionary.specs.declared.messages.MarketDataSnapshot.{MarketDataSnapshot}
use Rattle.fix_dictionary.specs.declared.messages.MarketDataRequestReject.{MarketDataRequestReject}
use Rattle.fix_dictionary.specs.declared.messages.BusinessMessageReject.{BusinessMessageReject}

-- a tag, and its printed value if it has one
abbrev pub Slot : Type 0
Slot = ℕ × Option (List ℕ)

abbrev pub with_slot : ℕ → Option (List ℕ) → List Entry → List Entry
with_slot tag None fields = fields
with_slot tag (Some bytes) fields = (tag, bytes) ∷ fields

-- the fields that are printed
abbrev pub fields_of : List Slot → List Entry
fields_of [] = []
fields_of (s ∷ ss) = with_slot s.0 s.1 (fields_of ss)

abbrev pub slots_text : List Slot → List ℕ
slots_text slots = fields_text (fields_of slots)

abbrev pub given : {X : Type 0} → (X → List ℕ) → Option X → Option (List ℕ)
given print None = None
given print (Some x) = Some (print x)

abbrev pub flag_text : Bool → List ℕ
flag_text true = 89 ∷ []
flag_text false = 78 ∷ []

abbrev pub side_text : Side → List ℕ
side_text Buy = 49 ∷ []
side_text Sell = 50 ∷ []

abbrev pub header_slots : Header → List Slot
header_slots m =
    (49, Some m.sender)
    ∷ (56, Some m.target)
    ∷ (34, Some (decimal m.number))
    ∷ (52, Some (utc_text m.sending_time))
    ∷ (43, given flag_text m.possible_duplicate)
    ∷ (97, given flag_text m.possible_resend)
    ∷ (122, given utc_text m.original_sending_time)
    ∷ (1128, m.application_version)
    ∷ []

abbrev pub heartbeat_slots : Heartbeat → List Slot
heartbeat_slots m =
    (112, m.test_id)
    ∷ []

abbrev pub test_request_slots : TestRequest → List Slot
test_request_slots m =
    (112, Some m.test_id)
    ∷ []

abbrev pub resend_request_slots : Resend → List Slot
resend_request_slots m =
    (7, Some (decimal m.begin))
    ∷ (16, Some (decimal m.end))
    ∷ []

abbrev pub reject_slots : Reject → List Slot
reject_slots m =
    (45, Some (decimal m.reference_number))
    ∷ (371, given decimal m.reference_tag)
    ∷ (372, m.reference_type)
    ∷ (373, given decimal m.reason)
    ∷ (58, m.text)
    ∷ []

abbrev pub sequence_reset_slots : SequenceReset → List Slot
sequence_reset_slots m =
    (123, given flag_text m.gap_fill)
    ∷ (36, Some (decimal m.new_number))
    ∷ []

abbrev pub logout_slots : Logout → List Slot
logout_slots m =
    (58, m.text)
    ∷ []

abbrev pub logon_slots : Logon → List Slot
logon_slots m =
    (98, Some (decimal 0))
    ∷ (108, Some (decimal m.heartbeat_interval))
    ∷ (1137, Some (57 ∷ []))
    ∷ (141, given flag_text m.reset)
    ∷ []

abbrev pub quote_cancel_slots : QuoteCancel → List Slot
quote_cancel_slots m =
    (117, m.quote_id)
    ∷ (298, Some (decimal m.cancel_type))
    ∷ []

abbrev pub quote_response_slots : QuoteResponse → List Slot
quote_response_slots m =
    (693, Some m.response_id)
    ∷ (117, Some m.quote_id)
    ∷ (694, Some (decimal m.response_type))
    ∷ (54, given side_text m.side)
    ∷ []

abbrev pub quote_status_report_slots : QuoteStatusReport → List Slot
quote_status_report_slots m =
    (117, m.quote_id)
    ∷ (131, m.request_id)
    ∷ (693, m.response_id)
    ∷ (55, m.symbol)
    ∷ (297, Some (decimal m.status))
    ∷ (300, given decimal m.reject_reason)
    ∷ (58, m.text)
    ∷ []

abbrev pub new_order_single_slots : NewOrderSingle → List Slot
new_order_single_slots m =
    (11, Some m.order_id)
    ∷ (583, m.link_id)
    ∷ (55, Some m.symbol)
    ∷ (54, Some (side_text m.side))
    ∷ (38, Some (decimal m.quantity))
    ∷ (40, Some (m.order_type ∷ []))
    ∷ (44, given price_text m.price)
    ∷ (59, given (λ c. c ∷ []) m.time_in_force)
    ∷ (60, given utc_text m.transact_time)
    ∷ []

abbrev pub order_cancel_request_slots : OrderCancelRequest → List Slot
order_cancel_request_slots m =
    (11, Some m.order_id)
    ∷ (41, Some m.original_id)
    ∷ []

abbrev pub order_cancel_replace_request_slots : OrderCancelReplaceRequest → List Slot
order_cancel_replace_request_slots m =
    (11, Some m.order_id)
    ∷ (41, Some m.original_id)
    ∷ (38, Some (decimal m.quantity))
    ∷ (40, Some (m.order_type ∷ []))
    ∷ (44, given price_text m.price)
    ∷ []

abbrev pub execution_report_slots : ExecutionReport → List Slot
execution_report_slots m =
    (37, Some m.venue_order_id)
    ∷ (17, Some m.execution_id)
    ∷ (150, Some (m.execution_type ∷ []))
    ∷ (39, Some (m.order_status ∷ []))
    ∷ (55, Some m.symbol)
    ∷ (54, Some (side_text m.side))
    ∷ (151, Some (decimal m.left))
    ∷ (14, Some (decimal m.filled))
    ∷ (11, m.order_id)
    ∷ (41, m.original_id)
    ∷ (31, given price_text m.last_price)
    ∷ (32, given decimal m.last_quantity)
    ∷ (103, given decimal m.reject_reason)
    ∷ (880, m.trade_id)
    ∷ (693, m.response_id)
    ∷ (58, m.text)
    ∷ []

abbrev pub order_cancel_reject_slots : OrderCancelReject → List Slot
order_cancel_reject_slots m =
    (37, Some m.venue_order_id)
    ∷ (11, Some m.order_id)
    ∷ (41, Some m.original_id)
    ∷ (39, Some (m.order_status ∷ []))
    ∷ (434, Some (m.response_to ∷ []))
    ∷ (102, Some (decimal m.reject_reason))
    ∷ (58, m.text)
    ∷ []

abbrev pub market_data_request_reject_slots : MarketDataRequestReject → List Slot
market_data_request_reject_slots m =
    (262, Some m.request_id)
    ∷ (281, Some (m.reject_reason ∷ []))
    ∷ (58, m.text)
    ∷ []

abbrev pub business_message_reject_slots : BusinessMessageReject → List Slot
business_message_reject_slots m =
    (45, Some (decimal m.reference_number))
    ∷ (372, Some m.reference_type)
    ∷ (380, Some (decimal m.reject_reason))
    ∷ (58, m.text)
    ∷ []

-- the slots of instances, in order
abbrev pub each_slots : {X : Type 0} → (X → List Slot) → List X → List Slot
each_slots print [] = []
each_slots print (x ∷ xs) = print x ++ each_slots print xs

abbrev pub party_slots : Party → List Slot
party_slots m = (448, Some m.id) ∷ (447, Some (m.source ∷ [])) ∷ (452, Some (decimal m.role)) ∷ []

-- no count is printed where there are no parties
abbrev pub party_count : List Party → Option (List ℕ)
party_count [] = None
party_count (p ∷ ps) = Some (decimal (length (p ∷ ps)))

abbrev pub quote_request_slots : QuoteRequest → List Slot
quote_request_slots m =
    (131, Some m.request_id)
    ∷ (146, Some (decimal 1))
    ∷ (55, Some m.symbol)
    ∷ (54, given side_text m.side)
    ∷ (38, Some (decimal m.quantity))
    ∷ (453, party_count m.parties)
    ∷ each_slots party_slots m.parties

-- the slots after the parties of a quote
abbrev pub quote_rest_slots : Quote → List Slot
quote_rest_slots m =
    (55, Some m.symbol)
    ∷ (132, given price_text m.bid_price)
    ∷ (133, given price_text m.offer_price)
    ∷ (134, given decimal m.bid_size)
    ∷ (135, given decimal m.offer_size)
    ∷ (62, given utc_text m.valid_until)
    ∷ []

abbrev pub quote_slots : Quote → List Slot
quote_slots m =
    (117, Some m.quote_id)
    ∷ (131, Some m.request_id)
    ∷ (537, given (λ c. c ∷ []) m.quote_type)
    ∷ (453, party_count m.parties)
    ∷ (each_slots party_slots m.parties ++ quote_rest_slots m)

abbrev pub quote_request_reject_slots : QuoteRequestReject → List Slot
quote_request_reject_slots m =
    (131, Some m.request_id)
    ∷ (658, Some (decimal m.reject_reason))
    ∷ (146, Some (decimal 1))
    ∷ (55, Some m.symbol)
    ∷ (58, m.text)
    ∷ []

abbrev pub new_order_cross_slots : NewOrderCross → List Slot
new_order_cross_slots m =
    (548, Some m.cross_id)
    ∷ (549, Some (decimal m.cross_type))
    ∷ (550, Some (decimal m.prioritization))
    ∷ (552, Some (decimal 2))
    ∷ (54, Some (side_text m.first.side))
    ∷ (11, Some m.first.order_id)
    ∷ (38, Some (decimal m.first.quantity))
    ∷ (54, Some (side_text m.second.side))
    ∷ (11, Some m.second.order_id)
    ∷ (38, Some (decimal m.second.quantity))
    ∷ (55, Some m.symbol)
    ∷ (40, Some (m.order_type ∷ []))
    ∷ (44, given price_text m.price)
    ∷ []

abbrev pub entry_type_slots : ℕ → List Slot
entry_type_slots c = (269, Some (c ∷ [])) ∷ []

abbrev pub market_data_request_slots : MarketDataRequest → List Slot
market_data_request_slots m =
    (262, Some m.request_id)
    ∷ (263, Some (m.subscription_type ∷ []))
    ∷ (264, Some (decimal m.depth))
    ∷ (267, Some (decimal (length m.entry_types)))
    ∷ (each_slots entry_type_slots m.entry_types ++ (146, Some (decimal 1)) ∷ (55, Some m.symbol) ∷ [])

abbrev pub market_data_entry_slots : MarketDataEntry → List Slot
market_data_entry_slots m =
    (269, Some (m.entry_type ∷ []))
    ∷ (270, given price_text m.price)
    ∷ (271, given decimal m.size)
    ∷ (278, m.order_id)
    ∷ []

abbrev pub market_data_snapshot_slots : MarketDataSnapshot → List Slot
market_data_snapshot_slots m =
    (262, Some m.request_id)
    ∷ (55, Some m.symbol)
    ∷ (268, Some (decimal (length m.entries)))
    ∷ each_slots market_data_entry_slots m.entries

abbrev pub app_kind : App → List ℕ
app_kind (app.QuoteCancel m) = codes "Z"
app_kind (app.QuoteResponse m) = codes "AJ"
app_kind (app.QuoteStatusReport m) = codes "AI"
app_kind (app.NewOrderSingle m) = codes "D"
app_kind (app.OrderCancelRequest m) = codes "F"
app_kind (app.OrderCancelReplaceRequest m) = codes "G"
app_kind (app.ExecutionReport m) = codes "8"
app_kind (app.OrderCancelReject m) = codes "9"
app_kind (app.MarketDataRequestReject m) = codes "Y"
app_kind (app.BusinessMessageReject m) = codes "j"
app_kind (app.Unsupported kind) = kind
app_kind (app.QuoteRequest m) = codes "R"
app_kind (app.Quote m) = codes "S"
app_kind (app.QuoteRequestReject m) = codes "AG"
app_kind (app.NewOrderCross m) = codes "s"
app_kind (app.MarketDataRequest m) = codes "V"
app_kind (app.MarketDataSnapshot m) = codes "W"

-- a type that is not read is printed as its type alone
abbrev pub app_slots : App → List Slot
app_slots (app.QuoteCancel m) = quote_cancel_slots m
app_slots (app.QuoteResponse m) = quote_response_slots m
app_slots (app.QuoteStatusReport m) = quote_status_report_slots m
app_slots (app.NewOrderSingle m) = new_order_single_slots m
app_slots (app.OrderCancelRequest m) = order_cancel_request_slots m
app_slots (app.OrderCancelReplaceRequest m) = order_cancel_replace_request_slots m
app_slots (app.ExecutionReport m) = execution_report_slots m
app_slots (app.OrderCancelReject m) = order_cancel_reject_slots m
app_slots (app.MarketDataRequestReject m) = market_data_request_reject_slots m
app_slots (app.BusinessMessageReject m) = business_message_reject_slots m
app_slots (app.Unsupported kind) = []
app_slots (app.QuoteRequest m) = quote_request_slots m
app_slots (app.Quote m) = quote_slots m
app_slots (app.QuoteRequestReject m) = quote_request_reject_slots m
app_slots (app.NewOrderCross m) = new_order_cross_slots m
app_slots (app.MarketDataRequest m) = market_data_request_slots m
app_slots (app.MarketDataSnapshot m) = market_data_snapshot_slots m

abbrev pub admin_kind : Admin → List ℕ
admin_kind (admin.Heartbeat m) = codes "0"
admin_kind (admin.TestRequest m) = codes "1"
admin_kind (admin.ResendRequest m) = codes "2"
admin_kind (admin.Reject m) = codes "3"
admin_kind (admin.SequenceReset m) = codes "4"
admin_kind (admin.Logout m) = codes "5"
admin_kind (admin.Logon m) = codes "A"

abbrev pub admin_slots : Admin → List Slot
admin_slots (admin.Heartbeat m) = heartbeat_slots m
admin_slots (admin.TestRequest m) = test_request_slots m
admin_slots (admin.ResendRequest m) = resend_request_slots m
admin_slots (admin.Reject m) = reject_slots m
admin_slots (admin.SequenceReset m) = sequence_reset_slots m
admin_slots (admin.Logout m) = logout_slots m
admin_slots (admin.Logon m) = logon_slots m

abbrev pub body_kind : Body → List ℕ
body_kind (body.Admin m) = admin_kind m
body_kind (body.App m) = app_kind m

abbrev pub body_slots : Body → List Slot
body_slots (body.Admin m) = admin_slots m
body_slots (body.App m) = app_slots m

abbrev pub message_slots : Message → List Slot
message_slots m = (35, Some (body_kind m.body)) ∷ (header_slots m.header ++ body_slots m.body)

-- the body of the message's frame
abbrev pub message_text : Message → List ℕ
message_text m = slots_text (message_slots m)

-- the same without the header: the type, then the fields
abbrev pub app_text : App → List ℕ
app_text m = slots_text ((35, Some (app_kind m)) ∷ app_slots m)
