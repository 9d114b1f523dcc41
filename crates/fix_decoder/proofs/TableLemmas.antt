-- No tag occurs twice in a table, so each row has its own form there.
use Rattle.std.proofs.Common.{◌++◌, ℕ, List, [], ◌∷◌, refl}
use Rattle.fix_fields.specs.Fields.{Entry}
use Rattle.fix_validation.specs.declared.table.Row.{Row}
use Rattle.fix_dictionary.specs.declared.kinds.MessageType.{MessageType}
use Rattle.fix_dictionary.specs.declared.kinds.MessageType.TheVariants as types
use Rattle.fix_validation.specs.Tables.{header_rows, rows_of}
use Rattle.fix_validation.specs.Holding.{Holds}
use Rattle.fix_decoder.proofs.HoldLemmas.{HasOwnForms}

pub own_forms : (kind : MessageType) (begin : ℕ) → HasOwnForms (header_rows ++ rows_of kind begin) (header_rows ++ rows_of kind begin)
own_forms types.Heartbeat begin = (refl, (refl, (refl, (refl, (refl, (refl, (refl, (refl, (refl, (refl, tt))))))))))
own_forms types.TestRequest begin = (refl, (refl, (refl, (refl, (refl, (refl, (refl, (refl, (refl, (refl, tt))))))))))
own_forms types.Reject begin = (refl, (refl, (refl, (refl, (refl, (refl, (refl, (refl, (refl, (refl, (refl, (refl, (refl, (refl, tt))))))))))))))
own_forms types.ResendRequest begin = (refl, (refl, (refl, (refl, (refl, (refl, (refl, (refl, (refl, (refl, (refl, tt)))))))))))
own_forms types.SequenceReset begin = (refl, (refl, (refl, (refl, (refl, (refl, (refl, (refl, (refl, (refl, (refl, tt)))))))))))
own_forms types.Logout begin = (refl, (refl, (refl, (refl, (refl, (refl, (refl, (refl, (refl, (refl, tt))))))))))
own_forms types.Logon begin = (refl, (refl, (refl, (refl, (refl, (refl, (refl, (refl, (refl, (refl, (refl, (refl, (refl, tt)))))))))))))
own_forms types.QuoteCancel begin = (refl, (refl, (refl, (refl, (refl, (refl, (refl, (refl, (refl, (refl, (refl, tt)))))))))))
own_forms types.QuoteResponse begin = (refl, (refl, (refl, (refl, (refl, (refl, (refl, (refl, (refl, (refl, (refl, (refl, (refl, tt)))))))))))))
own_forms types.QuoteStatusReport begin = (refl, (refl, (refl, (refl, (refl, (refl, (refl, (refl, (refl, (refl, (refl, (refl, (refl, (refl, (refl, (refl, tt))))))))))))))))
own_forms types.NewOrderSingle begin = (refl, (refl, (refl, (refl, (refl, (refl, (refl, (refl, (refl, (refl, (refl, (refl, (refl, (refl, (refl, (refl, (refl, (refl, tt))))))))))))))))))
own_forms types.OrderCancelRequest begin = (refl, (refl, (refl, (refl, (refl, (refl, (refl, (refl, (refl, (refl, (refl, tt)))))))))))
own_forms types.OrderCancelReplaceRequest begin = (refl, (refl, (refl, (refl, (refl, (refl, (refl, (refl, (refl, (refl, (refl, (refl, (refl, (refl, tt))))))))))))))
own_forms types.ExecutionReport begin = (refl, (refl, (refl, (refl, (refl, (refl, (refl, (refl, (refl, (refl, (refl, (refl, (refl, (refl, (refl, (refl, (refl, (refl, (refl, (refl, (refl, (refl, (refl, (refl, (refl, tt)))))))))))))))))))))))))
own_forms types.OrderCancelReject begin = (refl, (refl, (refl, (refl, (refl, (refl, (refl, (refl, (refl, (refl, (refl, (refl, (refl, (refl, (refl, (refl, tt))))))))))))))))
own_forms types.MarketDataRequestReject begin = (refl, (refl, (refl, (refl, (refl, (refl, (refl, (refl, (refl, (refl, (refl, (refl, tt))))))))))))
own_forms types.BusinessMessageReject begin = (refl, (refl, (refl, (refl, (refl, (refl, (refl, (refl, (refl, (refl, (refl, (refl, (refl, tt)))))))))))))
own_forms types.QuoteRequest begin = (refl, (refl, (refl, (refl, (refl, (refl, (refl, (refl, (refl, (refl, (refl, (refl, (refl, (refl, (refl, (refl, (refl, (refl, tt))))))))))))))))))
own_forms types.Quote begin = (refl, (refl, (refl, (refl, (refl, (refl, (refl, (refl, (refl, (refl, (refl, (refl, (refl, (refl, (refl, (refl, (refl, (refl, (refl, (refl, (refl, (refl, tt))))))))))))))))))))))
own_forms types.QuoteRequestReject begin = (refl, (refl, (refl, (refl, (refl, (refl, (refl, (refl, (refl, (refl, (refl, (refl, (refl, (refl, tt))))))))))))))
own_forms types.NewOrderCross begin = (refl, (refl, (refl, (refl, (refl, (refl, (refl, (refl, (refl, (refl, (refl, (refl, (refl, (refl, (refl, (refl, (refl, (refl, (refl, tt)))))))))))))))))))
own_forms types.MarketDataRequest begin = (refl, (refl, (refl, (refl, (refl, (refl, (refl, (refl, (refl, (refl, (refl, (refl, (refl, (refl, (refl, (refl, tt))))))))))))))))
own_forms types.MarketDataSnapshot begin = (refl, (refl, (refl, (refl, (refl, (refl, (refl, (refl, (refl, (refl, (refl, (refl, (refl, (refl, (refl, (refl, tt))))))))))))))))
own_forms types.Unsupported begin = (refl, (refl, (refl, (refl, (refl, (refl, (refl, (refl, (refl, tt)))))))))

pub holds_both : (first second : List Row) (fields : List Entry) → Holds (first ++ second) fields → Holds first fields × Holds second fields
holds_both [] second fields h = (tt, h)
holds_both (r ∷ rs) second fields h = let rest = holds_both rs second fields h.1 in ((h.0, rest.0), rest.1)

pub own_part : (all first second : List Row) → HasOwnForms all (first ++ second) → HasOwnForms all second
own_part all [] second h = h
own_part all (r ∷ rs) second h = own_part all rs second h.1

pub own_first : (all first second : List Row) → HasOwnForms all (first ++ second) → HasOwnForms all first
own_first all [] second h = tt
own_first all (r ∷ rs) second h = (h.0, own_first all rs second h.1)
