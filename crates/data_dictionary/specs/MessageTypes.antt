-- The message types: the value of 35, and their names in FIXT 1.1 and FIX 5.0 SP2.
use Rattle.std.specs.Prelude.{ℕ, List, [], ◌∷◌, codes}
use Rattle.data_dictionary.specs.declared.message_types.Listed.{Listed as HeldListed}

pub record Listed : Type 0 where
  pub code : List ℕ
  pub name : List ℕ

abbrev pub listed : List ℕ → List ℕ → Listed
listed code name = record { code = code; name = name }

-- a type, without its texts' places in memory
abbrev pub seen : HeldListed → Listed
seen kind = record { code = kind.code.now; name = kind.name.now }

-- the types of the session's own messages, and of the application messages
unfoldable pub session_types : List Listed
session_types =
    listed (codes "0") (codes "Heartbeat")
    ∷ listed (codes "1") (codes "TestRequest")
    ∷ listed (codes "2") (codes "ResendRequest")
    ∷ listed (codes "3") (codes "Reject")
    ∷ listed (codes "4") (codes "SequenceReset")
    ∷ listed (codes "5") (codes "Logout")
    ∷ listed (codes "A") (codes "Logon")
    ∷ []

unfoldable pub application_types : List Listed
application_types =
    listed (codes "R") (codes "QuoteRequest")
    ∷ listed (codes "S") (codes "Quote")
    ∷ listed (codes "Z") (codes "QuoteCancel")
    ∷ listed (codes "AJ") (codes "QuoteResponse")
    ∷ listed (codes "AI") (codes "QuoteStatusReport")
    ∷ listed (codes "AG") (codes "QuoteRequestReject")
    ∷ listed (codes "D") (codes "NewOrderSingle")
    ∷ listed (codes "F") (codes "OrderCancelRequest")
    ∷ listed (codes "G") (codes "OrderCancelReplaceRequest")
    ∷ listed (codes "s") (codes "NewOrderCross")
    ∷ listed (codes "8") (codes "ExecutionReport")
    ∷ listed (codes "9") (codes "OrderCancelReject")
    ∷ listed (codes "V") (codes "MarketDataRequest")
    ∷ listed (codes "W") (codes "MarketDataSnapshotFullRefresh")
    ∷ listed (codes "Y") (codes "MarketDataRequestReject")
    ∷ listed (codes "j") (codes "BusinessMessageReject")
    ∷ []
