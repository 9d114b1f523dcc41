-- A printed message is read as itself.
use Rattle.std.proofs.Common.{◌≡◌, ℕ, ◌≤◌, true, false, Bool, List, [], ◌∷◌, ◌++◌, length, refl, sym, ap, subst, ◌∙◌, arith, rules, Option, Some, None}
use Rattle.fix_fields.specs.Forms.{integer_in}
use Rattle.fix_fields.specs.Fields.{Entry, AreFields}
use Rattle.fix_dictionary.specs.declared.messages.App.TheVariants as app
use Rattle.fix_dictionary.specs.declared.messages.Admin.TheVariants as admin
use Rattle.fix_dictionary.specs.declared.messages.Body.{Body}
use Rattle.fix_dictionary.specs.declared.messages.Body.TheVariants as body
use Rattle.fix_dictionary.specs.declared.messages.Message.{Message}
use Rattle.fix_dictionary.specs.declared.messages.Header.{Header}
use Rattle.fix_validation.specs.declared.table.Row.{Row}
use Rattle.fix_dictionary.specs.declared.kinds.MessageType.{MessageType}
use Rattle.fix_dictionary.specs.declared.kinds.MessageType.TheVariants as types
use Rattle.fix_dictionary.specs.Values.{IsText}
use Rattle.fix_dictionary.specs.Kinds.{type_of, is_grouped}
use Rattle.fix_validation.specs.Tables.{header_rows, rows_of}
use Rattle.fix_validation.specs.Faults.{first_fault}
use Rattle.fix_validation.specs.Stated.{ok_or, some_or}
use Rattle.fix_dictionary.specs.Text.{fields_of, header_slots, message_slots, body_slots, body_kind, message_text}
use Rattle.fix_decoder.specs.Messages.{Spells, body_in, header, begin_in, type_in, fault_as_type, outside}
use Rattle.fix_dictionary.specs.Fits.{FitsHeader, FitsBody, FitsMessage}
use Rattle.fix_decoder.proofs.FormLemmas as form
use Rattle.fix_decoder.proofs.LookLemmas.{Fill, Shows, shows, are_distinct, fill_both, fill_holds, fill_fields, fill_length, have_tags, headroom, faultless_where_all_hold}
use Rattle.fix_decoder.proofs.HeaderLaw.{the_message, fill_header, header_back}
use Rattle.fix_decoder.proofs.SessionLaws as session
use Rattle.fix_decoder.proofs.OrderLaws as order
use Rattle.fix_decoder.proofs.QuoteLaws as quote
use Rattle.fix_decoder.proofs.OtherLaws as other

false_not_true : false ≡ true → ⊥
false_not_true h = search (h, rules)

-- the message is of a type without groups
abbrev pub is_flat : Body → Bool
is_flat (body.Admin m) = true
is_flat (body.App (app.QuoteRequest m)) = false
is_flat (body.App (app.Quote m)) = false
is_flat (body.App (app.QuoteRequestReject m)) = false
is_flat (body.App (app.NewOrderCross m)) = false
is_flat (body.App (app.MarketDataRequest m)) = false
is_flat (body.App (app.MarketDataSnapshot m)) = false
is_flat (body.App (app.QuoteCancel m)) = true
is_flat (body.App (app.QuoteResponse m)) = true
is_flat (body.App (app.QuoteStatusReport m)) = true
is_flat (body.App (app.NewOrderSingle m)) = true
is_flat (body.App (app.OrderCancelRequest m)) = true
is_flat (body.App (app.OrderCancelReplaceRequest m)) = true
is_flat (body.App (app.ExecutionReport m)) = true
is_flat (body.App (app.OrderCancelReject m)) = true
is_flat (body.App (app.MarketDataRequestReject m)) = true
is_flat (body.App (app.BusinessMessageReject m)) = true
is_flat (body.App (app.Unsupported kind)) = true

-- the number that the table of the message's type depends on
abbrev pub begin_of : Body → ℕ
begin_of (body.Admin (admin.ResendRequest m)) = m.begin
begin_of _ = 0

-- Each message that is read fills the table of its type.

pub fill_body : (b : Body) → is_flat b ≡ true → FitsBody b → Fill (rows_of (type_of (body_kind b)) (begin_of b)) (body_slots b)
fill_body (body.Admin (admin.Heartbeat m)) read fits = session.fill_heartbeat m fits
fill_body (body.Admin (admin.TestRequest m)) read fits = session.fill_test_request m fits
fill_body (body.Admin (admin.ResendRequest m)) read fits = session.fill_resend_request m fits
fill_body (body.Admin (admin.Reject m)) read fits = session.fill_reject m fits
fill_body (body.Admin (admin.SequenceReset m)) read fits = session.fill_sequence_reset m fits
fill_body (body.Admin (admin.Logout m)) read fits = session.fill_logout m fits
fill_body (body.Admin (admin.Logon m)) read fits = session.fill_logon m fits
fill_body (body.App (app.QuoteCancel m)) read fits = quote.fill_quote_cancel m fits
fill_body (body.App (app.QuoteResponse m)) read fits = quote.fill_quote_response m fits
fill_body (body.App (app.QuoteStatusReport m)) read fits = quote.fill_quote_status_report m fits
fill_body (body.App (app.NewOrderSingle m)) read fits = order.fill_new_order_single m fits
fill_body (body.App (app.OrderCancelRequest m)) read fits = order.fill_order_cancel_request m fits
fill_body (body.App (app.OrderCancelReplaceRequest m)) read fits = order.fill_order_cancel_replace_request m fits
fill_body (body.App (app.ExecutionReport m)) read fits = order.fill_execution_report m fits
fill_body (body.App (app.OrderCancelReject m)) read fits = order.fill_order_cancel_reject m fits
fill_body (body.App (app.MarketDataRequestReject m)) read fits = other.fill_market_data_request_reject m fits
fill_body (body.App (app.BusinessMessageReject m)) read fits = other.fill_business_message_reject m fits
fill_body (body.App (app.Unsupported kind)) read fits = subst (λ (t : MessageType). Fill (rows_of t 0) []) (sym fits.1) tt
fill_body (body.App (app.QuoteRequest m)) read fits = absurd (false_not_true read)
fill_body (body.App (app.Quote m)) read fits = absurd (false_not_true read)
fill_body (body.App (app.QuoteRequestReject m)) read fits = absurd (false_not_true read)
fill_body (body.App (app.NewOrderCross m)) read fits = absurd (false_not_true read)
fill_body (body.App (app.MarketDataRequest m)) read fits = absurd (false_not_true read)
fill_body (body.App (app.MarketDataSnapshot m)) read fits = absurd (false_not_true read)

pub text_of_kind : (b : Body) → is_flat b ≡ true → FitsBody b → IsText 64 (body_kind b)
text_of_kind (body.Admin (admin.Heartbeat m)) read fits = refl
text_of_kind (body.Admin (admin.TestRequest m)) read fits = refl
text_of_kind (body.Admin (admin.ResendRequest m)) read fits = refl
text_of_kind (body.Admin (admin.Reject m)) read fits = refl
text_of_kind (body.Admin (admin.SequenceReset m)) read fits = refl
text_of_kind (body.Admin (admin.Logout m)) read fits = refl
text_of_kind (body.Admin (admin.Logon m)) read fits = refl
text_of_kind (body.App (app.QuoteCancel m)) read fits = refl
text_of_kind (body.App (app.QuoteResponse m)) read fits = refl
text_of_kind (body.App (app.QuoteStatusReport m)) read fits = refl
text_of_kind (body.App (app.NewOrderSingle m)) read fits = refl
text_of_kind (body.App (app.OrderCancelRequest m)) read fits = refl
text_of_kind (body.App (app.OrderCancelReplaceRequest m)) read fits = refl
text_of_kind (body.App (app.ExecutionReport m)) read fits = refl
text_of_kind (body.App (app.OrderCancelReject m)) read fits = refl
text_of_kind (body.App (app.MarketDataRequestReject m)) read fits = refl
text_of_kind (body.App (app.BusinessMessageReject m)) read fits = refl
text_of_kind (body.App (app.Unsupported kind)) read fits = fits.0
text_of_kind (body.App (app.QuoteRequest m)) read fits = absurd (false_not_true read)
text_of_kind (body.App (app.Quote m)) read fits = absurd (false_not_true read)
text_of_kind (body.App (app.QuoteRequestReject m)) read fits = absurd (false_not_true read)
text_of_kind (body.App (app.NewOrderCross m)) read fits = absurd (false_not_true read)
text_of_kind (body.App (app.MarketDataRequest m)) read fits = absurd (false_not_true read)
text_of_kind (body.App (app.MarketDataSnapshot m)) read fits = absurd (false_not_true read)

no_tag_twice : (h : Header) (b : Body) → is_flat b ≡ true → are_distinct (message_slots (the_message h b)) ≡ true
no_tag_twice h (body.Admin (admin.Heartbeat m)) read = refl
no_tag_twice h (body.Admin (admin.TestRequest m)) read = refl
no_tag_twice h (body.Admin (admin.ResendRequest m)) read = refl
no_tag_twice h (body.Admin (admin.Reject m)) read = refl
no_tag_twice h (body.Admin (admin.SequenceReset m)) read = refl
no_tag_twice h (body.Admin (admin.Logout m)) read = refl
no_tag_twice h (body.Admin (admin.Logon m)) read = refl
no_tag_twice h (body.App (app.QuoteCancel m)) read = refl
no_tag_twice h (body.App (app.QuoteResponse m)) read = refl
no_tag_twice h (body.App (app.QuoteStatusReport m)) read = refl
no_tag_twice h (body.App (app.NewOrderSingle m)) read = refl
no_tag_twice h (body.App (app.OrderCancelRequest m)) read = refl
no_tag_twice h (body.App (app.OrderCancelReplaceRequest m)) read = refl
no_tag_twice h (body.App (app.ExecutionReport m)) read = refl
no_tag_twice h (body.App (app.OrderCancelReject m)) read = refl
no_tag_twice h (body.App (app.MarketDataRequestReject m)) read = refl
no_tag_twice h (body.App (app.BusinessMessageReject m)) read = refl
no_tag_twice h (body.App (app.Unsupported kind)) read = refl
no_tag_twice h (body.App (app.QuoteRequest m)) read = absurd (false_not_true read)
no_tag_twice h (body.App (app.Quote m)) read = absurd (false_not_true read)
no_tag_twice h (body.App (app.QuoteRequestReject m)) read = absurd (false_not_true read)
no_tag_twice h (body.App (app.NewOrderCross m)) read = absurd (false_not_true read)
no_tag_twice h (body.App (app.MarketDataRequest m)) read = absurd (false_not_true read)
no_tag_twice h (body.App (app.MarketDataSnapshot m)) read = absurd (false_not_true read)

-- the table by the fields is the table by the message
same_rows : (h : Header) (b : Body) → FitsBody b → (fields : List Entry) → Shows fields (message_slots (the_message h b)) → rows_of (type_of (body_kind b)) (begin_in fields) ≡ rows_of (type_of (body_kind b)) (begin_of b)
same_rows h (body.Admin (admin.Heartbeat m)) fits fields shows = refl
same_rows h (body.Admin (admin.TestRequest m)) fits fields shows = refl
same_rows h (body.Admin (admin.ResendRequest m)) fits fields shows =
    ap (rows_of types.ResendRequest)
    (ap (λ (o : Option (List ℕ)). ok_or 1_000_000_000 (integer_in 0 1_000_000_000 (some_or [] o))) (shows.values 7)
    ∙ form.number_back 0 1_000_000_000 1_000_000_000 m.begin (omega arith, omega (arith, fits.begin.1)) refl)
same_rows h (body.Admin (admin.Reject m)) fits fields shows = refl
same_rows h (body.Admin (admin.SequenceReset m)) fits fields shows = refl
same_rows h (body.Admin (admin.Logout m)) fits fields shows = refl
same_rows h (body.Admin (admin.Logon m)) fits fields shows = refl
same_rows h (body.App (app.QuoteCancel m)) fits fields shows = refl
same_rows h (body.App (app.QuoteResponse m)) fits fields shows = refl
same_rows h (body.App (app.QuoteStatusReport m)) fits fields shows = refl
same_rows h (body.App (app.NewOrderSingle m)) fits fields shows = refl
same_rows h (body.App (app.OrderCancelRequest m)) fits fields shows = refl
same_rows h (body.App (app.OrderCancelReplaceRequest m)) fits fields shows = refl
same_rows h (body.App (app.ExecutionReport m)) fits fields shows = refl
same_rows h (body.App (app.OrderCancelReject m)) fits fields shows = refl
same_rows h (body.App (app.MarketDataRequestReject m)) fits fields shows = refl
same_rows h (body.App (app.BusinessMessageReject m)) fits fields shows = refl
same_rows h (body.App (app.Unsupported kind)) fits fields shows = ap (λ (t : MessageType). rows_of t (begin_in fields)) fits.1 ∙ ap (λ (t : MessageType). rows_of t 0) (sym fits.1)
same_rows h (body.App (app.QuoteRequest m)) fits fields shows = refl
same_rows h (body.App (app.Quote m)) fits fields shows = refl
same_rows h (body.App (app.QuoteRequestReject m)) fits fields shows = refl
same_rows h (body.App (app.NewOrderCross m)) fits fields shows = refl
same_rows h (body.App (app.MarketDataRequest m)) fits fields shows = refl
same_rows h (body.App (app.MarketDataSnapshot m)) fits fields shows = refl

body_back : (h : Header) (b : Body) → is_flat b ≡ true → FitsBody b → (fields : List Entry) → Shows fields (message_slots (the_message h b)) → body_in (type_of (body_kind b)) fields ≡ b
body_back h (body.Admin (admin.Heartbeat m)) read fits fields shows = ap (λ x. body.Admin (admin.Heartbeat x)) (session.heartbeat_back h m fits fields shows)
body_back h (body.Admin (admin.TestRequest m)) read fits fields shows = ap (λ x. body.Admin (admin.TestRequest x)) (session.test_request_back h m fits fields shows)
body_back h (body.Admin (admin.ResendRequest m)) read fits fields shows = ap (λ x. body.Admin (admin.ResendRequest x)) (session.resend_request_back h m fits fields shows)
body_back h (body.Admin (admin.Reject m)) read fits fields shows = ap (λ x. body.Admin (admin.Reject x)) (session.reject_back h m fits fields shows)
body_back h (body.Admin (admin.SequenceReset m)) read fits fields shows = ap (λ x. body.Admin (admin.SequenceReset x)) (session.sequence_reset_back h m fits fields shows)
body_back h (body.Admin (admin.Logout m)) read fits fields shows = ap (λ x. body.Admin (admin.Logout x)) (session.logout_back h m fits fields shows)
body_back h (body.Admin (admin.Logon m)) read fits fields shows = ap (λ x. body.Admin (admin.Logon x)) (session.logon_back h m fits fields shows)
body_back h (body.App (app.QuoteCancel m)) read fits fields shows = ap (λ x. body.App (app.QuoteCancel x)) (quote.quote_cancel_back h m fits fields shows)
body_back h (body.App (app.QuoteResponse m)) read fits fields shows = ap (λ x. body.App (app.QuoteResponse x)) (quote.quote_response_back h m fits fields shows)
body_back h (body.App (app.QuoteStatusReport m)) read fits fields shows = ap (λ x. body.App (app.QuoteStatusReport x)) (quote.quote_status_report_back h m fits fields shows)
body_back h (body.App (app.NewOrderSingle m)) read fits fields shows = ap (λ x. body.App (app.NewOrderSingle x)) (order.new_order_single_back h m fits fields shows)
body_back h (body.App (app.OrderCancelRequest m)) read fits fields shows = ap (λ x. body.App (app.OrderCancelRequest x)) (order.order_cancel_request_back h m fits fields shows)
body_back h (body.App (app.OrderCancelReplaceRequest m)) read fits fields shows = ap (λ x. body.App (app.OrderCancelReplaceRequest x)) (order.order_cancel_replace_request_back h m fits fields shows)
body_back h (body.App (app.ExecutionReport m)) read fits fields shows = ap (λ x. body.App (app.ExecutionReport x)) (order.execution_report_back h m fits fields shows)
body_back h (body.App (app.OrderCancelReject m)) read fits fields shows = ap (λ x. body.App (app.OrderCancelReject x)) (order.order_cancel_reject_back h m fits fields shows)
body_back h (body.App (app.MarketDataRequestReject m)) read fits fields shows = ap (λ x. body.App (app.MarketDataRequestReject x)) (other.market_data_request_reject_back h m fits fields shows)
body_back h (body.App (app.BusinessMessageReject m)) read fits fields shows = ap (λ x. body.App (app.BusinessMessageReject x)) (other.business_message_reject_back h m fits fields shows)
body_back h (body.App (app.Unsupported kind)) read fits fields shows =
    ap (λ (t : MessageType). body_in t fields) fits.1 ∙ ap (λ (o : Option (List ℕ)). body.App (app.Unsupported (some_or [] o))) (shows.values 35)
body_back h (body.App (app.QuoteRequest m)) read fits fields shows = absurd (false_not_true read)
body_back h (body.App (app.Quote m)) read fits fields shows = absurd (false_not_true read)
body_back h (body.App (app.QuoteRequestReject m)) read fits fields shows = absurd (false_not_true read)
body_back h (body.App (app.NewOrderCross m)) read fits fields shows = absurd (false_not_true read)
body_back h (body.App (app.MarketDataRequest m)) read fits fields shows = absurd (false_not_true read)
body_back h (body.App (app.MarketDataSnapshot m)) read fits fields shows = absurd (false_not_true read)

message_of_parts : (h : Header) (b : Body) (x : Header) (y : Body) → h ≡ x → y ≡ b → the_message h b ≡ the_message x y
message_of_parts h b x y e k = rw (← e, k) refl

fill_all : (h : Header) (b : Body) → FitsHeader h → is_flat b ≡ true → FitsBody b → Fill (header_rows ++ rows_of (type_of (body_kind b)) (begin_of b)) (message_slots (the_message h b))
fill_all h b head read fits =
    fill_both header_rows ((35, Some (body_kind b)) ∷ header_slots h) (rows_of (type_of (body_kind b)) (begin_of b)) (body_slots b)
    (fill_header h (body_kind b) head (text_of_kind b read fits)) (fill_body b read fits)

not_grouped : (b : Body) → is_flat b ≡ true → FitsBody b → is_grouped (type_of (body_kind b)) ≡ false
not_grouped (body.Admin (admin.Heartbeat m)) read fits = refl
not_grouped (body.Admin (admin.TestRequest m)) read fits = refl
not_grouped (body.Admin (admin.ResendRequest m)) read fits = refl
not_grouped (body.Admin (admin.Reject m)) read fits = refl
not_grouped (body.Admin (admin.SequenceReset m)) read fits = refl
not_grouped (body.Admin (admin.Logout m)) read fits = refl
not_grouped (body.Admin (admin.Logon m)) read fits = refl
not_grouped (body.App (app.QuoteCancel m)) read fits = refl
not_grouped (body.App (app.QuoteResponse m)) read fits = refl
not_grouped (body.App (app.QuoteStatusReport m)) read fits = refl
not_grouped (body.App (app.NewOrderSingle m)) read fits = refl
not_grouped (body.App (app.OrderCancelRequest m)) read fits = refl
not_grouped (body.App (app.OrderCancelReplaceRequest m)) read fits = refl
not_grouped (body.App (app.ExecutionReport m)) read fits = refl
not_grouped (body.App (app.OrderCancelReject m)) read fits = refl
not_grouped (body.App (app.MarketDataRequestReject m)) read fits = refl
not_grouped (body.App (app.BusinessMessageReject m)) read fits = refl
not_grouped (body.App (app.Unsupported kind)) read fits = ap is_grouped fits.1
not_grouped (body.App (app.QuoteRequest m)) read fits = absurd (false_not_true read)
not_grouped (body.App (app.Quote m)) read fits = absurd (false_not_true read)
not_grouped (body.App (app.QuoteRequestReject m)) read fits = absurd (false_not_true read)
not_grouped (body.App (app.NewOrderCross m)) read fits = absurd (false_not_true read)
not_grouped (body.App (app.MarketDataRequest m)) read fits = absurd (false_not_true read)
not_grouped (body.App (app.MarketDataSnapshot m)) read fits = absurd (false_not_true read)

flat_fault : (kind : MessageType) (fields : List Entry) → is_grouped kind ≡ false → fault_as_type kind fields ≡ first_fault (header_rows ++ rows_of kind (begin_in fields)) fields
flat_fault kind fields h = rw h refl

flat_outside : (kind : MessageType) (fields : List Entry) → is_grouped kind ≡ false → outside kind fields ≡ fields
flat_outside kind fields h = rw h refl

-- fields of the printed slots spell the message
pub shown_is_read : (h : Header) (b : Body) → FitsHeader h → is_flat b ≡ true → FitsBody b → (fields : List Entry) → Shows fields (message_slots (the_message h b)) → Spells (the_message h b) fields
shown_is_read h b head read fits fields shows =
    let kind : type_in fields ≡ type_of (body_kind b) = ap (λ (o : Option (List ℕ)). type_of (some_or [] o)) (shows.values 35) in
    let table : rows_of (type_in fields) (begin_in fields) ≡ rows_of (type_of (body_kind b)) (begin_of b) =
    ap (λ (t : MessageType). rows_of t (begin_in fields)) kind ∙ same_rows h b fits fields shows in
    let rows = header_rows ++ rows_of (type_of (body_kind b)) (begin_of b) in
    let clean : first_fault rows fields ≡ None =
    faultless_where_all_hold rows fields shows.once (fill_holds rows (message_slots (the_message h b)) fields (fill_all h b head read fits) (no_tag_twice h b read) shows) in (
      flat_fault (type_in fields) fields (ap is_grouped kind ∙ not_grouped b read fits) ∙ ap (λ (l : List Row). first_fault (header_rows ++ l) fields) table ∙ clean,
      message_of_parts h b (header (outside (type_in fields) fields)) (body_in (type_in fields) fields)
          (header_back h b head fields shows ∙ ap header (sym (flat_outside (type_in fields) fields (ap is_grouped kind ∙ not_grouped b read fits))))
          (ap (λ (t : MessageType). body_in t fields) kind ∙ body_back h b read fits fields shows),
    )

all_tags : (kind : MessageType) (begin : ℕ) → have_tags (header_rows ++ rows_of kind begin) ≡ true
all_tags types.Heartbeat begin = refl
all_tags types.TestRequest begin = refl
all_tags types.ResendRequest begin = refl
all_tags types.Reject begin = refl
all_tags types.SequenceReset begin = refl
all_tags types.Logout begin = refl
all_tags types.Logon begin = refl
all_tags types.QuoteCancel begin = refl
all_tags types.QuoteResponse begin = refl
all_tags types.QuoteStatusReport begin = refl
all_tags types.NewOrderSingle begin = refl
all_tags types.OrderCancelRequest begin = refl
all_tags types.OrderCancelReplaceRequest begin = refl
all_tags types.ExecutionReport begin = refl
all_tags types.OrderCancelReject begin = refl
all_tags types.MarketDataRequestReject begin = refl
all_tags types.BusinessMessageReject begin = refl
all_tags types.QuoteRequest begin = refl
all_tags types.Quote begin = refl
all_tags types.QuoteRequestReject begin = refl
all_tags types.NewOrderCross begin = refl
all_tags types.MarketDataRequest begin = refl
all_tags types.MarketDataSnapshot begin = refl
all_tags types.Unsupported begin = refl

small_capacity : (kind : MessageType) (begin : ℕ) → headroom (header_rows ++ rows_of kind begin) ≤ 65_536
small_capacity types.Heartbeat begin = omega arith
small_capacity types.TestRequest begin = omega arith
small_capacity types.ResendRequest begin = omega arith
small_capacity types.Reject begin = omega arith
small_capacity types.SequenceReset begin = omega arith
small_capacity types.Logout begin = omega arith
small_capacity types.Logon begin = omega arith
small_capacity types.QuoteCancel begin = omega arith
small_capacity types.QuoteResponse begin = omega arith
small_capacity types.QuoteStatusReport begin = omega arith
small_capacity types.NewOrderSingle begin = omega arith
small_capacity types.OrderCancelRequest begin = omega arith
small_capacity types.OrderCancelReplaceRequest begin = omega arith
small_capacity types.ExecutionReport begin = omega arith
small_capacity types.OrderCancelReject begin = omega arith
small_capacity types.MarketDataRequestReject begin = omega arith
small_capacity types.BusinessMessageReject begin = omega arith
small_capacity types.QuoteRequest begin = omega arith
small_capacity types.Quote begin = omega arith
small_capacity types.QuoteRequestReject begin = omega arith
small_capacity types.NewOrderCross begin = omega arith
small_capacity types.MarketDataRequest begin = omega arith
small_capacity types.MarketDataSnapshot begin = omega arith
small_capacity types.Unsupported begin = omega arith

-- a printed message is a list of fields
pub printed_fields : (m : Message) → is_flat m.body ≡ true → FitsMessage m → AreFields (fields_of (message_slots m))
printed_fields m read fits =
    fill_fields (header_rows ++ rows_of (type_of (body_kind m.body)) (begin_of m.body)) (message_slots m) (fill_all m.header m.body fits.header read fits.body) (all_tags (type_of (body_kind m.body)) (begin_of m.body))

pub message_spelled : (h : Header) (b : Body) → FitsHeader h → is_flat b ≡ true → FitsBody b → Spells (the_message h b) (fields_of (message_slots (the_message h b)))
message_spelled h b head read fits =
    shown_is_read h b head read fits (fields_of (message_slots (the_message h b))) (shows (message_slots (the_message h b)) (no_tag_twice h b read))

pub message_length : (m : Message) → is_flat m.body ≡ true → FitsMessage m → length (message_text m) ≤ 65_536
message_length m read fits =
    omega (
      arith,
      fill_length (header_rows ++ rows_of (type_of (body_kind m.body)) (begin_of m.body)) (message_slots m) (fill_all m.header m.body fits.header read fits.body) (all_tags (type_of (body_kind m.body)) (begin_of m.body)),
      small_capacity (type_of (body_kind m.body)) (begin_of m.body),
    )
