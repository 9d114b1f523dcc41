-- The rows of each message type, in printed order.
use Rattle.std.specs.Prelude.{ℕ, List, [], ◌∷◌}
use Rattle.fix_validation.specs.declared.table.Form.TheVariants.{Kind, Integer, End, Price, Quantity, Amount, Identifier, Version, Character, OneOrTwo, Flag, Utc, Printable}
use Rattle.fix_validation.specs.declared.table.Row.{Row}
use Rattle.fix_dictionary.specs.declared.kinds.MessageType as types
use Rattle.fix_dictionary.specs.declared.kinds.MessageType.{MessageType}
use Rattle.fix_validation.specs.Table.{needs, takes, inside}

abbrev pub header_rows : List Row
header_rows =
    needs 35 Kind
    ∷ needs 49 Identifier
    ∷ needs 56 Identifier
    ∷ needs 34 (Integer 1 999_999_999)
    ∷ needs 52 Utc
    ∷ takes 43 Flag
    ∷ takes 97 Flag
    ∷ takes 122 Utc
    ∷ takes 1128 Identifier
    ∷ []

abbrev pub heartbeat_rows : List Row
heartbeat_rows =
    takes 112 Identifier
    ∷ []

abbrev pub test_request_rows : List Row
test_request_rows =
    needs 112 Identifier
    ∷ []

-- The form of 16 depends on 7: the number there, or 10^9 where it has none or a greater one.
abbrev pub resend_request_rows : ℕ → List Row
resend_request_rows begin =
    needs 7 (Integer 1 999_999_999)
    ∷ needs 16 (End begin)
    ∷ []

abbrev pub reject_rows : List Row
reject_rows =
    needs 45 (Integer 0 999_999_999)
    ∷ takes 371 (Integer 0 999_999_999)
    ∷ takes 372 Identifier
    ∷ takes 373 (Integer 0 999_999_999)
    ∷ takes 58 Printable
    ∷ []

abbrev pub sequence_reset_rows : List Row
sequence_reset_rows =
    takes 123 Flag
    ∷ needs 36 (Integer 1 1_000_000_000)
    ∷ []

abbrev pub logout_rows : List Row
logout_rows =
    takes 58 Printable
    ∷ []

abbrev pub logon_rows : List Row
logon_rows =
    needs 98 (Integer 0 0)
    ∷ needs 108 (Integer 0 3600)
    ∷ needs 1137 Version
    ∷ takes 141 Flag
    ∷ []

abbrev pub quote_request_rows : List Row
quote_request_rows =
    needs 131 Identifier
    ∷ needs 146 (Integer 1 1)
    ∷ inside 146 (needs 55 Identifier)
    ∷ inside 146 (takes 54 OneOrTwo)
    ∷ inside 146 (needs 38 Quantity)
    ∷ inside 146 (takes 453 (Integer 1 64))
    ∷ inside 453 (needs 448 Identifier)
    ∷ inside 453 (needs 447 Character)
    ∷ inside 453 (needs 452 (Integer 0 999_999_999))
    ∷ []

-- the rows of one party
abbrev pub party_rows : List Row
party_rows =
    needs 448 Identifier
    ∷ needs 447 Character
    ∷ needs 452 (Integer 0 999_999_999)
    ∷ []

-- the rows of the instrument that a request asks for
abbrev pub asked_rows : List Row
asked_rows =
    needs 55 Identifier
    ∷ takes 54 OneOrTwo
    ∷ needs 38 Quantity
    ∷ takes 453 (Integer 1 64)
    ∷ []

abbrev pub quote_rows : List Row
quote_rows =
    needs 117 Identifier
    ∷ needs 131 Identifier
    ∷ takes 537 Character
    ∷ takes 453 (Integer 1 64)
    ∷ inside 453 (needs 448 Identifier)
    ∷ inside 453 (needs 447 Character)
    ∷ inside 453 (needs 452 (Integer 0 999_999_999))
    ∷ needs 55 Identifier
    ∷ takes 132 Price
    ∷ takes 133 Price
    ∷ takes 134 Quantity
    ∷ takes 135 Quantity
    ∷ takes 62 Utc
    ∷ []

abbrev pub quote_cancel_rows : List Row
quote_cancel_rows =
    takes 117 Identifier
    ∷ needs 298 (Integer 0 999_999_999)
    ∷ []

abbrev pub quote_response_rows : List Row
quote_response_rows =
    needs 693 Identifier
    ∷ needs 117 Identifier
    ∷ needs 694 (Integer 0 999_999_999)
    ∷ takes 54 OneOrTwo
    ∷ []

abbrev pub quote_status_report_rows : List Row
quote_status_report_rows =
    takes 117 Identifier
    ∷ takes 131 Identifier
    ∷ takes 693 Identifier
    ∷ takes 55 Identifier
    ∷ needs 297 (Integer 0 999_999_999)
    ∷ takes 300 (Integer 0 999_999_999)
    ∷ takes 58 Printable
    ∷ []

abbrev pub quote_request_reject_rows : List Row
quote_request_reject_rows =
    needs 131 Identifier
    ∷ needs 658 (Integer 0 999_999_999)
    ∷ needs 146 (Integer 1 1)
    ∷ inside 146 (needs 55 Identifier)
    ∷ takes 58 Printable
    ∷ []

abbrev pub new_order_single_rows : List Row
new_order_single_rows =
    needs 11 Identifier
    ∷ takes 583 Identifier
    ∷ needs 55 Identifier
    ∷ needs 54 OneOrTwo
    ∷ needs 38 Quantity
    ∷ needs 40 Character
    ∷ takes 44 Price
    ∷ takes 59 Character
    ∷ takes 60 Utc
    ∷ []

abbrev pub order_cancel_request_rows : List Row
order_cancel_request_rows =
    needs 11 Identifier
    ∷ needs 41 Identifier
    ∷ []

abbrev pub order_cancel_replace_request_rows : List Row
order_cancel_replace_request_rows =
    needs 11 Identifier
    ∷ needs 41 Identifier
    ∷ needs 38 Quantity
    ∷ needs 40 Character
    ∷ takes 44 Price
    ∷ []

abbrev pub new_order_cross_rows : List Row
new_order_cross_rows =
    needs 548 Identifier
    ∷ needs 549 (Integer 0 999_999_999)
    ∷ needs 550 (Integer 0 999_999_999)
    ∷ needs 552 (Integer 2 2)
    ∷ inside 552 (needs 54 OneOrTwo)
    ∷ inside 552 (needs 11 Identifier)
    ∷ inside 552 (needs 38 Quantity)
    ∷ needs 55 Identifier
    ∷ needs 40 Character
    ∷ takes 44 Price
    ∷ []

-- the rows of one side of a cross
abbrev pub side_rows : List Row
side_rows =
    needs 54 OneOrTwo
    ∷ needs 11 Identifier
    ∷ needs 38 Quantity
    ∷ []

abbrev pub execution_report_rows : List Row
execution_report_rows =
    needs 37 Identifier
    ∷ needs 17 Identifier
    ∷ needs 150 Character
    ∷ needs 39 Character
    ∷ needs 55 Identifier
    ∷ needs 54 OneOrTwo
    ∷ needs 151 Amount
    ∷ needs 14 Amount
    ∷ takes 11 Identifier
    ∷ takes 41 Identifier
    ∷ takes 31 Price
    ∷ takes 32 Quantity
    ∷ takes 103 (Integer 0 999_999_999)
    ∷ takes 880 Identifier
    ∷ takes 693 Identifier
    ∷ takes 58 Printable
    ∷ []

abbrev pub order_cancel_reject_rows : List Row
order_cancel_reject_rows =
    needs 37 Identifier
    ∷ needs 11 Identifier
    ∷ needs 41 Identifier
    ∷ needs 39 Character
    ∷ needs 434 Character
    ∷ needs 102 (Integer 0 999_999_999)
    ∷ takes 58 Printable
    ∷ []

abbrev pub market_data_request_rows : List Row
market_data_request_rows =
    needs 262 Identifier
    ∷ needs 263 Character
    ∷ needs 264 (Integer 0 999_999_999)
    ∷ needs 267 (Integer 1 64)
    ∷ inside 267 (needs 269 Character)
    ∷ needs 146 (Integer 1 1)
    ∷ inside 146 (needs 55 Identifier)
    ∷ []

abbrev pub market_data_snapshot_rows : List Row
market_data_snapshot_rows =
    needs 262 Identifier
    ∷ needs 55 Identifier
    ∷ needs 268 (Integer 1 400)
    ∷ inside 268 (needs 269 Character)
    ∷ inside 268 (takes 270 Price)
    ∷ inside 268 (takes 271 Amount)
    ∷ inside 268 (takes 278 Identifier)
    ∷ []

-- the rows of one entry
abbrev pub market_data_entry_rows : List Row
market_data_entry_rows =
    needs 269 Character
    ∷ takes 270 Price
    ∷ takes 271 Amount
    ∷ takes 278 Identifier
    ∷ []

-- the row of one entry type, and that of the instrument asked for
abbrev pub entry_type_rows : List Row
entry_type_rows = needs 269 Character ∷ []

abbrev pub instrument_rows : List Row
instrument_rows = needs 55 Identifier ∷ []

abbrev pub market_data_request_reject_rows : List Row
market_data_request_reject_rows =
    needs 262 Identifier
    ∷ needs 281 Character
    ∷ takes 58 Printable
    ∷ []

abbrev pub business_message_reject_rows : List Row
business_message_reject_rows =
    needs 45 (Integer 0 999_999_999)
    ∷ needs 372 Identifier
    ∷ needs 380 (Integer 0 999_999_999)
    ∷ takes 58 Printable
    ∷ []

-- the rows of a type; those of a resend request depend on the number that it begins with
abbrev pub rows_of : MessageType → ℕ → List Row
rows_of types.TheVariants.Heartbeat begin = heartbeat_rows
rows_of types.TheVariants.TestRequest begin = test_request_rows
rows_of types.TheVariants.ResendRequest begin = resend_request_rows begin
rows_of types.TheVariants.Reject begin = reject_rows
rows_of types.TheVariants.SequenceReset begin = sequence_reset_rows
rows_of types.TheVariants.Logout begin = logout_rows
rows_of types.TheVariants.Logon begin = logon_rows
rows_of types.TheVariants.QuoteRequest begin = quote_request_rows
rows_of types.TheVariants.Quote begin = quote_rows
rows_of types.TheVariants.QuoteRequestReject begin = quote_request_reject_rows
rows_of types.TheVariants.QuoteCancel begin = quote_cancel_rows
rows_of types.TheVariants.QuoteResponse begin = quote_response_rows
rows_of types.TheVariants.QuoteStatusReport begin = quote_status_report_rows
rows_of types.TheVariants.NewOrderSingle begin = new_order_single_rows
rows_of types.TheVariants.OrderCancelRequest begin = order_cancel_request_rows
rows_of types.TheVariants.OrderCancelReplaceRequest begin = order_cancel_replace_request_rows
rows_of types.TheVariants.NewOrderCross begin = new_order_cross_rows
rows_of types.TheVariants.ExecutionReport begin = execution_report_rows
rows_of types.TheVariants.OrderCancelReject begin = order_cancel_reject_rows
rows_of types.TheVariants.MarketDataRequest begin = market_data_request_rows
rows_of types.TheVariants.MarketDataSnapshot begin = market_data_snapshot_rows
rows_of types.TheVariants.MarketDataRequestReject begin = market_data_request_reject_rows
rows_of types.TheVariants.BusinessMessageReject begin = business_message_reject_rows
rows_of types.TheVariants.Unsupported begin = []
