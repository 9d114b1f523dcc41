-- The fields, by their tags: their names and data types in FIX 5.0 SP2. QuoteType (537) is a character here, as the
-- venue reads it.
use Rattle.std.specs.Prelude.{ℕ, List, [], ◌∷◌, codes, nat_eq, Option, Some, None}
use Rattle.std.specs.List.{find}
use Rattle.data_dictionary.specs.declared.fields.Field.{Field as HeldField}
use Rattle.data_dictionary.specs.declared.fields.DataType.{DataType}
use Rattle.data_dictionary.specs.declared.fields.DataType.TheVariants as types

-- the FIX name of a data type
unfoldable pub type_name_of : DataType → List ℕ
type_name_of types.Text = codes "STRING"
type_name_of types.Version = codes "STRING"
type_name_of types.Character = codes "CHAR"
type_name_of types.Side = codes "CHAR"
type_name_of types.Flag = codes "BOOLEAN"
type_name_of types.Integer = codes "INT"
type_name_of types.NoEncryption = codes "INT"
type_name_of types.SequenceNumber = codes "SEQNUM"
type_name_of types.Count = codes "NUMINGROUP"
type_name_of types.One = codes "NUMINGROUP"
type_name_of types.Two = codes "NUMINGROUP"
type_name_of types.Length = codes "LENGTH"
type_name_of types.Price = codes "PRICE"
type_name_of types.Quantity = codes "QTY"
type_name_of types.Utc = codes "UTCTIMESTAMP"

pub record Field : Type 0 where
  pub tag : ℕ
  pub name : List ℕ
  pub data_type : DataType

abbrev pub field : ℕ → List ℕ → DataType → Field
field tag name data_type = record { tag = tag; name = name; data_type = data_type }

-- a field, without its name's place in memory
abbrev pub seen : HeldField → Field
seen f = record { tag = f.tag; name = f.name.now; data_type = f.data_type }

unfoldable pub fields : List Field
fields =
    field 7 (codes "BeginSeqNo") types.SequenceNumber
    ∷ field 8 (codes "BeginString") types.Text
    ∷ field 9 (codes "BodyLength") types.Length
    ∷ field 10 (codes "CheckSum") types.Text
    ∷ field 11 (codes "ClOrdID") types.Text
    ∷ field 14 (codes "CumQty") types.Quantity
    ∷ field 16 (codes "EndSeqNo") types.SequenceNumber
    ∷ field 17 (codes "ExecID") types.Text
    ∷ field 31 (codes "LastPx") types.Price
    ∷ field 32 (codes "LastQty") types.Quantity
    ∷ field 34 (codes "MsgSeqNum") types.SequenceNumber
    ∷ field 35 (codes "MsgType") types.Text
    ∷ field 36 (codes "NewSeqNo") types.SequenceNumber
    ∷ field 37 (codes "OrderID") types.Text
    ∷ field 38 (codes "OrderQty") types.Quantity
    ∷ field 39 (codes "OrdStatus") types.Character
    ∷ field 40 (codes "OrdType") types.Character
    ∷ field 41 (codes "OrigClOrdID") types.Text
    ∷ field 43 (codes "PossDupFlag") types.Flag
    ∷ field 44 (codes "Price") types.Price
    ∷ field 45 (codes "RefSeqNum") types.SequenceNumber
    ∷ field 49 (codes "SenderCompID") types.Text
    ∷ field 52 (codes "SendingTime") types.Utc
    ∷ field 54 (codes "Side") types.Side
    ∷ field 55 (codes "Symbol") types.Text
    ∷ field 56 (codes "TargetCompID") types.Text
    ∷ field 58 (codes "Text") types.Text
    ∷ field 59 (codes "TimeInForce") types.Character
    ∷ field 60 (codes "TransactTime") types.Utc
    ∷ field 62 (codes "ValidUntilTime") types.Utc
    ∷ field 97 (codes "PossResend") types.Flag
    ∷ field 98 (codes "EncryptMethod") types.NoEncryption
    ∷ field 102 (codes "CxlRejReason") types.Integer
    ∷ field 103 (codes "OrdRejReason") types.Integer
    ∷ field 108 (codes "HeartBtInt") types.Integer
    ∷ field 112 (codes "TestReqID") types.Text
    ∷ field 117 (codes "QuoteID") types.Text
    ∷ field 122 (codes "OrigSendingTime") types.Utc
    ∷ field 123 (codes "GapFillFlag") types.Flag
    ∷ field 131 (codes "QuoteReqID") types.Text
    ∷ field 132 (codes "BidPx") types.Price
    ∷ field 133 (codes "OfferPx") types.Price
    ∷ field 134 (codes "BidSize") types.Quantity
    ∷ field 135 (codes "OfferSize") types.Quantity
    ∷ field 141 (codes "ResetSeqNumFlag") types.Flag
    ∷ field 146 (codes "NoRelatedSym") types.One
    ∷ field 150 (codes "ExecType") types.Character
    ∷ field 151 (codes "LeavesQty") types.Quantity
    ∷ field 262 (codes "MDReqID") types.Text
    ∷ field 263 (codes "SubscriptionRequestType") types.Character
    ∷ field 264 (codes "MarketDepth") types.Integer
    ∷ field 267 (codes "NoMDEntryTypes") types.Count
    ∷ field 268 (codes "NoMDEntries") types.Count
    ∷ field 269 (codes "MDEntryType") types.Character
    ∷ field 270 (codes "MDEntryPx") types.Price
    ∷ field 271 (codes "MDEntrySize") types.Quantity
    ∷ field 278 (codes "MDEntryID") types.Text
    ∷ field 281 (codes "MDReqRejReason") types.Character
    ∷ field 297 (codes "QuoteStatus") types.Integer
    ∷ field 298 (codes "QuoteCancelType") types.Integer
    ∷ field 300 (codes "QuoteRejectReason") types.Integer
    ∷ field 371 (codes "RefTagID") types.Integer
    ∷ field 372 (codes "RefMsgType") types.Text
    ∷ field 373 (codes "SessionRejectReason") types.Integer
    ∷ field 380 (codes "BusinessRejectReason") types.Integer
    ∷ field 434 (codes "CxlRejResponseTo") types.Character
    ∷ field 447 (codes "PartyIDSource") types.Character
    ∷ field 448 (codes "PartyID") types.Text
    ∷ field 452 (codes "PartyRole") types.Integer
    ∷ field 453 (codes "NoPartyIDs") types.Count
    ∷ field 537 (codes "QuoteType") types.Character
    ∷ field 548 (codes "CrossID") types.Text
    ∷ field 549 (codes "CrossType") types.Integer
    ∷ field 550 (codes "CrossPrioritization") types.Integer
    ∷ field 552 (codes "NoSides") types.Two
    ∷ field 583 (codes "ClOrdLinkID") types.Text
    ∷ field 658 (codes "QuoteRequestRejectReason") types.Integer
    ∷ field 693 (codes "QuoteRespID") types.Text
    ∷ field 694 (codes "QuoteRespType") types.Integer
    ∷ field 880 (codes "TrdMatchID") types.Text
    ∷ field 1128 (codes "ApplVerID") types.Text
    ∷ field 1137 (codes "DefaultApplVerID") types.Version
    ∷ []

abbrev pub field_with : ℕ → Option Field
field_with tag = find (λ field. nat_eq field.tag tag) fields

-- its name and its data type
abbrev pub name_in : Option Field → List ℕ
name_in None = []
name_in (Some field) = field.name

abbrev pub data_type_in : Option Field → DataType
data_type_in None = types.Text
data_type_in (Some field) = field.data_type

abbrev pub name_of : ℕ → List ℕ
name_of tag = name_in (field_with tag)

abbrev pub data_type_of : ℕ → DataType
data_type_of tag = data_type_in (field_with tag)
