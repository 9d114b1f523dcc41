-- Of which kind a message is, in a word or two, for a column of a table.
use Rattle.std.specs.Prelude.{ℕ, ◌==◌, List, codes, if◌then◌else◌}
use Rattle.fix_dictionary.specs.declared.messages.App.{App}
use Rattle.fix_dictionary.specs.declared.messages.App.TheVariants as app

-- what an ExecutionReport reports (150)
abbrev pub report_kind : ℕ → List ℕ
report_kind c = if c == 48 then codes "entered" else (if c == 70 then codes "traded" else (if c == 52 then codes "cancelled" else (if c == 53 then codes "replaced" else (if c == 56 then codes "refused" else codes "report"))))

unfoldable pub kind_of : App → List ℕ
kind_of (app.NewOrderSingle d) = codes "order"
kind_of (app.OrderCancelRequest d) = codes "cancel"
kind_of (app.OrderCancelReplaceRequest d) = codes "replacement"
kind_of (app.NewOrderCross d) = codes "cross"
kind_of (app.QuoteRequest d) = codes "request"
kind_of (app.Quote d) = codes "quote"
kind_of (app.QuoteCancel d) = codes "withdrawal"
kind_of (app.QuoteResponse d) = codes "response"
kind_of (app.QuoteStatusReport d) = codes "status"
kind_of (app.QuoteRequestReject d) = codes "request refused"
kind_of (app.ExecutionReport d) = report_kind d.execution_type
kind_of (app.OrderCancelReject d) = codes "change refused"
kind_of (app.MarketDataRequest d) = codes "prices request"
kind_of (app.MarketDataSnapshot d) = codes "prices"
kind_of (app.MarketDataRequestReject d) = codes "prices refused"
kind_of (app.BusinessMessageReject d) = codes "not processed"
kind_of (app.Unsupported kind) = codes "unsupported"
