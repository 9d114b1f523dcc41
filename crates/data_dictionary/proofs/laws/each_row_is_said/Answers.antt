use Rattle.std.proofs.Common.{refl, ℕ}
use Rattle.fix_dictionary.specs.declared.kinds.MessageType.{MessageType}
use Rattle.fix_dictionary.specs.declared.kinds.MessageType.TheVariants as types
use Rattle.fix_validation.specs.Tables.{rows_of}
use Rattle.data_dictionary.specs.Laws.{SaysEachRow}
use Rattle.data_dictionary.proofs.laws.each_row_is_said.Goals as goal

-- type by type
said : (kind : MessageType) (begin : ℕ) → SaysEachRow (rows_of kind begin)
said types.Heartbeat begin = refl
said types.TestRequest begin = refl
said types.ResendRequest begin = refl
said types.Reject begin = refl
said types.SequenceReset begin = refl
said types.Logout begin = refl
said types.Logon begin = refl
said types.QuoteRequest begin = refl
said types.Quote begin = refl
said types.QuoteRequestReject begin = refl
said types.QuoteCancel begin = refl
said types.QuoteResponse begin = refl
said types.QuoteStatusReport begin = refl
said types.NewOrderSingle begin = refl
said types.OrderCancelRequest begin = refl
said types.OrderCancelReplaceRequest begin = refl
said types.NewOrderCross begin = refl
said types.ExecutionReport begin = refl
said types.OrderCancelReject begin = refl
said types.MarketDataRequest begin = refl
said types.MarketDataSnapshot begin = refl
said types.MarketDataRequestReject begin = refl
said types.BusinessMessageReject begin = refl
said types.Unsupported begin = refl

pub returns : goal.returns
returns c = (refl, said)
