-- The type of the text of a type.
use Rattle.std.specs.Prelude.{◌≡◌, ℕ, Bool, true, false, List, codes, if◌then◌else◌}
use Rattle.std.specs.Str.{bytes_eq}
use Rattle.fix_dictionary.specs.declared.kinds.MessageType.{MessageType}
use Rattle.fix_dictionary.specs.declared.kinds.MessageType.TheVariants as types
use Rattle.fix_dictionary.specs.Values.{IsText}

-- A type that is not listed is unsupported.
abbrev pub type_of : List ℕ → MessageType
type_of kind =
    if bytes_eq kind (codes "0") then types.Heartbeat else (
    if bytes_eq kind (codes "1") then types.TestRequest else (
    if bytes_eq kind (codes "2") then types.ResendRequest else (
    if bytes_eq kind (codes "3") then types.Reject else (
    if bytes_eq kind (codes "4") then types.SequenceReset else (
    if bytes_eq kind (codes "5") then types.Logout else (
    if bytes_eq kind (codes "A") then types.Logon else (
    if bytes_eq kind (codes "R") then types.QuoteRequest else (
    if bytes_eq kind (codes "S") then types.Quote else (
    if bytes_eq kind (codes "AG") then types.QuoteRequestReject else (
    if bytes_eq kind (codes "Z") then types.QuoteCancel else (
    if bytes_eq kind (codes "AJ") then types.QuoteResponse else (
    if bytes_eq kind (codes "AI") then types.QuoteStatusReport else (
    if bytes_eq kind (codes "D") then types.NewOrderSingle else (
    if bytes_eq kind (codes "F") then types.OrderCancelRequest else (
    if bytes_eq kind (codes "G") then types.OrderCancelReplaceRequest else (
    if bytes_eq kind (codes "s") then types.NewOrderCross else (
    if bytes_eq kind (codes "8") then types.ExecutionReport else (
    if bytes_eq kind (codes "9") then types.OrderCancelReject else (
    if bytes_eq kind (codes "V") then types.MarketDataRequest else (
    if bytes_eq kind (codes "W") then types.MarketDataSnapshot else (
    if bytes_eq kind (codes "Y") then types.MarketDataRequestReject else (
    if bytes_eq kind (codes "j") then types.BusinessMessageReject else (
    types.Unsupported)))))))))))))))))))))))

-- the types of the session's own messages
abbrev pub is_session : MessageType → Bool
is_session types.Heartbeat = true
is_session types.TestRequest = true
is_session types.ResendRequest = true
is_session types.Reject = true
is_session types.SequenceReset = true
is_session types.Logout = true
is_session types.Logon = true
is_session _ = false

-- the types whose messages have repeating groups
abbrev pub is_grouped : MessageType → Bool
is_grouped types.QuoteRequest = true
is_grouped types.Quote = true
is_grouped types.QuoteRequestReject = true
is_grouped types.NewOrderCross = true
is_grouped types.MarketDataRequest = true
is_grouped types.MarketDataSnapshot = true
is_grouped _ = false

abbrev pub is_resend_request : MessageType → Bool
is_resend_request types.ResendRequest = true
is_resend_request _ = false

-- the possible types of an unsupported message
abbrev pub IsOtherKind : List ℕ → Type 0
IsOtherKind kind = IsText 64 kind × (type_of kind ≡ types.Unsupported)
