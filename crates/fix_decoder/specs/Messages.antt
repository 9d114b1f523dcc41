-- The message of a body's fields, type by type. Where the table of the type finds a fault nothing is required of it.
use Rattle.std.specs.Prelude.{◌≡◌, ℕ, if◌then◌else◌, List, [], map, ◌++◌, Option, None, Some}
use Rattle.fix_fields.specs.Fields.{Entry, value_of}
use Rattle.fix_fields.specs.Forms.{integer_in}
use Rattle.sef_moment.specs.Utc.{moment_of}
use Rattle.fix_validation.specs.Stated.{stated, ok_or, bytes_at, number_in, sequence_number_in, new_sequence_number_in, interval_in, quantity_in, amount_in, price_in, character_in, side_in, flag_in}
use Rattle.fix_validation.specs.declared.faults.DictFault.{DictFault}
use Rattle.fix_validation.specs.declared.faults.DictFault.TheVariants.{Twice, Count, Missing, Format, Range, NoMemory}
use Rattle.fix_dictionary.specs.declared.kinds.MessageType.{MessageType}
use Rattle.fix_dictionary.specs.declared.kinds.MessageType.TheVariants as types
use Rattle.fix_validation.specs.Tables.{header_rows, rows_of}
use Rattle.fix_validation.specs.Faults.{first_fault}
use Rattle.fix_dictionary.specs.Kinds.{type_of, is_grouped}
use Rattle.fix_validation.specs.Positions.{LocatedFields, located, start, part, instances, first_begin, second_begin, sole}
use Rattle.fix_validation.specs.GroupFaults.{located_fault}
use Rattle.fix_dictionary.specs.declared.messages.App.TheVariants as app
use Rattle.fix_dictionary.specs.declared.messages.Admin.TheVariants as admin
use Rattle.fix_dictionary.specs.declared.messages.Body.{Body}
use Rattle.fix_dictionary.specs.declared.messages.Body.TheVariants as body
use Rattle.fix_dictionary.specs.declared.messages.Message.{Message}
use Rattle.fix_dictionary.specs.declared.messages.Header.{Header}
use Rattle.fix_dictionary.specs.declared.messages.Heartbeat.{Heartbeat}
use Rattle.fix_dictionary.specs.declared.messages.TestRequest.{TestRequest}
use Rattle.fix_dictionary.specs.Values.{Resend}
use Rattle.fix_dictionary.specs.declared.messages.Reject.{Reject}
use Rattle.fix_dictionary.specs.declared.messages.SequenceReset.{SequenceReset}
use Rattle.fix_dictionary.specs.declared.messages.Logout.{Logout}
use Rattle.fix_dictionary.specs.declared.messages.Logon.{Logon}
use Rattle.fix_dictionary.specs.declared.messages.QuoteCancel.{QuoteCancel}
use Rattle.fix_dictionary.specs.declared.messages.QuoteResponse.{QuoteResponse}
use Rattle.fix_dictionary.specs.declared.messages.QuoteStatusReport.{QuoteStatusReport}
use Rattle.fix_dictionary.specs.declared.messages.NewOrderSingle.{NewOrderSingle}
use Rattle.fix_dictionary.specs.declared.messages.OrderCancelRequest.{OrderCancelRequest}
use Rattle.fix_dictionary.specs.declared.messages.OrderCancelReplaceRequest.{OrderCancelReplaceRequest}
use Rattle.fix_dictionary.specs.declared.messages.ExecutionReport.{ExecutionReport}
use Rattle.fix_dictionary.specs.declared.messages.OrderCancelReject.{OrderCancelReject}
use Rattle.fix_dictionary.specs.declared.messages.CrossSide.{CrossSide}
use Rattle.fix_dictionary.specs.declared.messages.NewOrderCross.{NewOrderCross}
use Rattle.fix_dictionary.specs.declared.messages.Party.{Party}
use Rattle.fix_dictionary.specs.declared.messages.QuoteRequest.{QuoteRequest}
use Rattle.fix_dictionary.specs.declared.messages.Quote.{Quote}
use Rattle.fix_dictionary.specs.declared.messages.QuoteRequestReject.{QuoteRequestReject}
use Rattle.fix_dictionary.specs.declared.messages.MarketDataEntry.{MarketDataEntry}
use Rattle.fix_dictionary.specs.declared.messages.MarketDataRequest.{MarketDataRequest}
use Rattle.fix_dictionary.specs.declared.messages.MarketDataSnapshot.{MarketDataSnapshot}
use Rattle.fix_dictionary.specs.declared.messages.MarketDataRequestReject.{MarketDataRequestReject}
use Rattle.fix_dictionary.specs.declared.messages.BusinessMessageReject.{BusinessMessageReject}

abbrev pub header : List Entry → Header
header fields = record {
  sender = bytes_at 49 fields;
  target = bytes_at 56 fields;
  number = sequence_number_in (bytes_at 34 fields);
  sending_time = moment_of (bytes_at 52 fields);
  possible_duplicate = stated flag_in (value_of 43 fields);
  possible_resend = stated flag_in (value_of 97 fields);
  original_sending_time = stated moment_of (value_of 122 fields);
  application_version = value_of 1128 fields;
}

abbrev pub heartbeat : List Entry → Heartbeat
heartbeat fields = record {
  test_id = value_of 112 fields;
}

abbrev pub test_request : List Entry → TestRequest
test_request fields = record {
  test_id = bytes_at 112 fields;
}

abbrev pub resend_request : List Entry → Resend
resend_request fields = record {
  begin = sequence_number_in (bytes_at 7 fields);
  end = number_in (bytes_at 16 fields);
}

abbrev pub reject : List Entry → Reject
reject fields = record {
  reference_number = number_in (bytes_at 45 fields);
  reference_tag = stated number_in (value_of 371 fields);
  reference_type = value_of 372 fields;
  reason = stated number_in (value_of 373 fields);
  text = value_of 58 fields;
}

abbrev pub sequence_reset : List Entry → SequenceReset
sequence_reset fields = record {
  gap_fill = stated flag_in (value_of 123 fields);
  new_number = new_sequence_number_in (bytes_at 36 fields);
}

abbrev pub logout : List Entry → Logout
logout fields = record {
  text = value_of 58 fields;
}

abbrev pub logon : List Entry → Logon
logon fields = record {
  heartbeat_interval = interval_in (bytes_at 108 fields);
  reset = stated flag_in (value_of 141 fields);
}

abbrev pub quote_cancel : List Entry → QuoteCancel
quote_cancel fields = record {
  quote_id = value_of 117 fields;
  cancel_type = number_in (bytes_at 298 fields);
}

abbrev pub quote_response : List Entry → QuoteResponse
quote_response fields = record {
  response_id = bytes_at 693 fields;
  quote_id = bytes_at 117 fields;
  response_type = number_in (bytes_at 694 fields);
  side = stated side_in (value_of 54 fields);
}

abbrev pub quote_status_report : List Entry → QuoteStatusReport
quote_status_report fields = record {
  quote_id = value_of 117 fields;
  request_id = value_of 131 fields;
  response_id = value_of 693 fields;
  symbol = value_of 55 fields;
  status = number_in (bytes_at 297 fields);
  reject_reason = stated number_in (value_of 300 fields);
  text = value_of 58 fields;
}

abbrev pub new_order_single : List Entry → NewOrderSingle
new_order_single fields = record {
  order_id = bytes_at 11 fields;
  link_id = value_of 583 fields;
  symbol = bytes_at 55 fields;
  side = side_in (bytes_at 54 fields);
  quantity = quantity_in (bytes_at 38 fields);
  order_type = character_in (bytes_at 40 fields);
  price = stated price_in (value_of 44 fields);
  time_in_force = stated character_in (value_of 59 fields);
  transact_time = stated moment_of (value_of 60 fields);
}

abbrev pub order_cancel_request : List Entry → OrderCancelRequest
order_cancel_request fields = record {
  order_id = bytes_at 11 fields;
  original_id = bytes_at 41 fields;
}

abbrev pub order_cancel_replace_request : List Entry → OrderCancelReplaceRequest
order_cancel_replace_request fields = record {
  order_id = bytes_at 11 fields;
  original_id = bytes_at 41 fields;
  quantity = quantity_in (bytes_at 38 fields);
  order_type = character_in (bytes_at 40 fields);
  price = stated price_in (value_of 44 fields);
}

abbrev pub execution_report : List Entry → ExecutionReport
execution_report fields = record {
  venue_order_id = bytes_at 37 fields;
  execution_id = bytes_at 17 fields;
  execution_type = character_in (bytes_at 150 fields);
  order_status = character_in (bytes_at 39 fields);
  symbol = bytes_at 55 fields;
  side = side_in (bytes_at 54 fields);
  left = amount_in (bytes_at 151 fields);
  filled = amount_in (bytes_at 14 fields);
  order_id = value_of 11 fields;
  original_id = value_of 41 fields;
  last_price = stated price_in (value_of 31 fields);
  last_quantity = stated quantity_in (value_of 32 fields);
  reject_reason = stated number_in (value_of 103 fields);
  trade_id = value_of 880 fields;
  response_id = value_of 693 fields;
  text = value_of 58 fields;
}

abbrev pub order_cancel_reject : List Entry → OrderCancelReject
order_cancel_reject fields = record {
  venue_order_id = bytes_at 37 fields;
  order_id = bytes_at 11 fields;
  original_id = bytes_at 41 fields;
  order_status = character_in (bytes_at 39 fields);
  response_to = character_in (bytes_at 434 fields);
  reject_reason = number_in (bytes_at 102 fields);
  text = value_of 58 fields;
}

abbrev pub market_data_request_reject : List Entry → MarketDataRequestReject
market_data_request_reject fields = record {
  request_id = bytes_at 262 fields;
  reject_reason = character_in (bytes_at 281 fields);
  text = value_of 58 fields;
}

abbrev pub business_message_reject : List Entry → BusinessMessageReject
business_message_reject fields = record {
  reference_number = number_in (bytes_at 45 fields);
  reference_type = bytes_at 372 fields;
  reject_reason = number_in (bytes_at 380 fields);
  text = value_of 58 fields;
}

-- Messages with groups: the fields outside of them, and their instances.

abbrev pub market_data_entry : List Entry → MarketDataEntry
market_data_entry fields = record {
  entry_type = character_in (bytes_at 269 fields);
  price = stated price_in (value_of 270 fields);
  size = stated amount_in (value_of 271 fields);
  order_id = value_of 278 fields;
}

abbrev pub entry_type : List Entry → ℕ
entry_type fields = character_in (bytes_at 269 fields)

abbrev pub market_data_request : List LocatedFields → MarketDataRequest
market_data_request ps = record {
  request_id = bytes_at 262 (part 0 ps);
  subscription_type = character_in (bytes_at 263 (part 0 ps));
  depth = number_in (bytes_at 264 (part 0 ps));
  entry_types = map entry_type (instances 269 0 ps);
  symbol = bytes_at 55 (sole 55 ps);
}

abbrev pub market_data_snapshot : List LocatedFields → MarketDataSnapshot
market_data_snapshot ps = record {
  request_id = bytes_at 262 (part 0 ps);
  symbol = bytes_at 55 (part 0 ps);
  entries = map market_data_entry (instances 269 0 ps);
}

abbrev pub party : List Entry → Party
party fields = record {
  id = bytes_at 448 fields;
  source = character_in (bytes_at 447 fields);
  role = number_in (bytes_at 452 fields);
}

-- the parties that a count field counts, if there is one
abbrev pub counted_parties : Option (List ℕ) → List Party → List Party
counted_parties None list = []
counted_parties (Some bytes) list = list

abbrev pub parties_in : ℕ → List LocatedFields → List Party
parties_in q ps = counted_parties (value_of 453 (part q ps)) (map party (instances 448 q ps))

abbrev pub quote_request : List LocatedFields → QuoteRequest
quote_request ps = record {
  request_id = bytes_at 131 (part 0 ps);
  symbol = bytes_at 55 (part (first_begin 55 ps) ps);
  side = stated side_in (value_of 54 (part (first_begin 55 ps) ps));
  quantity = quantity_in (bytes_at 38 (part (first_begin 55 ps) ps));
  parties = parties_in (first_begin 55 ps) ps;
}

abbrev pub quote : List LocatedFields → Quote
quote ps = record {
  quote_id = bytes_at 117 (part 0 ps);
  request_id = bytes_at 131 (part 0 ps);
  quote_type = stated character_in (value_of 537 (part 0 ps));
  parties = parties_in 0 ps;
  symbol = bytes_at 55 (part 0 ps);
  bid_price = stated price_in (value_of 132 (part 0 ps));
  offer_price = stated price_in (value_of 133 (part 0 ps));
  bid_size = stated quantity_in (value_of 134 (part 0 ps));
  offer_size = stated quantity_in (value_of 135 (part 0 ps));
  valid_until = stated moment_of (value_of 62 (part 0 ps));
}

abbrev pub quote_request_reject : List LocatedFields → QuoteRequestReject
quote_request_reject ps = record {
  request_id = bytes_at 131 (part 0 ps);
  reject_reason = number_in (bytes_at 658 (part 0 ps));
  symbol = bytes_at 55 (sole 55 ps);
  text = value_of 58 (part 0 ps);
}

abbrev pub cross_side : List Entry → CrossSide
cross_side fields = record {
  side = side_in (bytes_at 54 fields);
  order_id = bytes_at 11 fields;
  quantity = quantity_in (bytes_at 38 fields);
}

abbrev pub new_order_cross : List LocatedFields → NewOrderCross
new_order_cross ps = record {
  cross_id = bytes_at 548 (part 0 ps);
  cross_type = number_in (bytes_at 549 (part 0 ps));
  prioritization = number_in (bytes_at 550 (part 0 ps));
  first = cross_side (part (first_begin 54 ps) ps);
  second = cross_side (part (second_begin 54 ps) ps);
  symbol = bytes_at 55 (part 0 ps);
  order_type = character_in (bytes_at 40 (part 0 ps));
  price = stated price_in (value_of 44 (part 0 ps));
}

-- the positions of the fields of a type with groups
abbrev pub placed_as : MessageType → List Entry → List LocatedFields
placed_as kind fields = located header_rows (rows_of kind 0) start fields

-- the body, by the type
abbrev pub body_in : MessageType → List Entry → Body
body_in types.Heartbeat fields = body.Admin (admin.Heartbeat (heartbeat fields))
body_in types.TestRequest fields = body.Admin (admin.TestRequest (test_request fields))
body_in types.ResendRequest fields = body.Admin (admin.ResendRequest (resend_request fields))
body_in types.Reject fields = body.Admin (admin.Reject (reject fields))
body_in types.SequenceReset fields = body.Admin (admin.SequenceReset (sequence_reset fields))
body_in types.Logout fields = body.Admin (admin.Logout (logout fields))
body_in types.Logon fields = body.Admin (admin.Logon (logon fields))
body_in types.QuoteRequest fields = body.App (app.QuoteRequest (quote_request (placed_as types.QuoteRequest fields)))
body_in types.Quote fields = body.App (app.Quote (quote (placed_as types.Quote fields)))
body_in types.QuoteRequestReject fields = body.App (app.QuoteRequestReject (quote_request_reject (placed_as types.QuoteRequestReject fields)))
body_in types.QuoteCancel fields = body.App (app.QuoteCancel (quote_cancel fields))
body_in types.QuoteResponse fields = body.App (app.QuoteResponse (quote_response fields))
body_in types.QuoteStatusReport fields = body.App (app.QuoteStatusReport (quote_status_report fields))
body_in types.NewOrderSingle fields = body.App (app.NewOrderSingle (new_order_single fields))
body_in types.OrderCancelRequest fields = body.App (app.OrderCancelRequest (order_cancel_request fields))
body_in types.OrderCancelReplaceRequest fields = body.App (app.OrderCancelReplaceRequest (order_cancel_replace_request fields))
body_in types.NewOrderCross fields = body.App (app.NewOrderCross (new_order_cross (placed_as types.NewOrderCross fields)))
body_in types.ExecutionReport fields = body.App (app.ExecutionReport (execution_report fields))
body_in types.OrderCancelReject fields = body.App (app.OrderCancelReject (order_cancel_reject fields))
body_in types.MarketDataRequest fields = body.App (app.MarketDataRequest (market_data_request (placed_as types.MarketDataRequest fields)))
body_in types.MarketDataSnapshot fields = body.App (app.MarketDataSnapshot (market_data_snapshot (placed_as types.MarketDataSnapshot fields)))
body_in types.MarketDataRequestReject fields = body.App (app.MarketDataRequestReject (market_data_request_reject fields))
body_in types.BusinessMessageReject fields = body.App (app.BusinessMessageReject (business_message_reject fields))
body_in types.Unsupported fields = body.App (app.Unsupported (bytes_at 35 fields))

-- the type that the fields name
abbrev pub type_in : List Entry → MessageType
type_in fields = type_of (bytes_at 35 fields)

-- the fields outside of groups
abbrev pub outside : MessageType → List Entry → List Entry
outside kind fields = if is_grouped kind then part 0 (placed_as kind fields) else fields

abbrev pub message_as : MessageType → List Entry → Message
message_as kind fields = record { header = header (outside kind fields); body = body_in kind fields }

abbrev pub message_in : List Entry → Message
message_in fields = message_as (type_in fields) fields

-- the first number that a resend request asks for: 10^9, past every number, where its field has none or a greater one
abbrev pub begin_in : List Entry → ℕ
begin_in fields = ok_or 1_000_000_000 (integer_in 0 1_000_000_000 (bytes_at 7 fields))

-- the first fault of the fields, by the header's table and that of their type
abbrev pub fault_as_type : MessageType → List Entry → Option DictFault
fault_as_type kind fields =
    if is_grouped kind then located_fault header_rows (rows_of kind 0) (placed_as kind fields) fields
    else first_fault (header_rows ++ rows_of kind (begin_in fields)) fields

abbrev pub fault_in : List Entry → Option DictFault
fault_in fields = fault_as_type (type_in fields) fields

-- the fields have no fault, and spell this message
abbrev pub Spells : Message → List Entry → Type 0
Spells m fields = (fault_in fields ≡ None) × (m ≡ message_in fields)

-- this is the first fault of the fields
abbrev pub HasFault : DictFault → List Entry → Type 0
HasFault fault fields = fault_in fields ≡ Some fault

-- the first fault is this one, or an allocation failed
abbrev pub IsFault : Option DictFault → DictFault → Type 0
IsFault first NoMemory = Unit {0}
IsFault first (Twice tag) = first ≡ Some (Twice tag)
IsFault first (Count tag) = first ≡ Some (Count tag)
IsFault first (Missing tag) = first ≡ Some (Missing tag)
IsFault first (Format tag) = first ≡ Some (Format tag)
IsFault first (Range tag) = first ≡ Some (Range tag)
