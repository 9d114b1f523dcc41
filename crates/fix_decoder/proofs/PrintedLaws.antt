-- Any fields with a printed text spell the message, and the text is short.
use Rattle.std.proofs.Common.{◌≡◌, ℕ, ◌≤◌, List, ◌∷◌, ◌++◌, length, refl, sym, ap, subst, arith, Some, codes}
use Rattle.fix_fields.specs.Fields.{Entry, AreFields, fields_text}
use Rattle.fix_fields.proofs.OneList.{one_list}
use Rattle.fix_dictionary.specs.declared.messages.App.{App}
use Rattle.fix_dictionary.specs.declared.messages.App.TheVariants as app
use Rattle.fix_dictionary.specs.declared.messages.Body.{Body}
use Rattle.fix_dictionary.specs.declared.messages.Body.TheVariants as body
use Rattle.fix_dictionary.specs.declared.messages.Message.{Message}
use Rattle.fix_dictionary.specs.declared.messages.Header.{Header}
use Rattle.fix_validation.specs.Tables.{header_rows}
use Rattle.fix_dictionary.specs.Values.{IsText}
use Rattle.fix_decoder.specs.Messages.{Spells}
use Rattle.fix_decoder.specs.Applications.{SpellsApp}
use Rattle.fix_dictionary.specs.Text.{Slot, fields_of, slots_text, header_slots, message_slots, message_text, app_text, app_slots}
use Rattle.fix_dictionary.specs.Fits.{FitsHeader, FitsBody, FitsMessage}
use Rattle.fix_decoder.proofs.LookLemmas.{fill_fields, fill_length}
use Rattle.fix_decoder.proofs.HeaderLaw.{the_message, fill_header}
use Rattle.fix_decoder.proofs.MessageLaw as flat
use Rattle.fix_decoder.proofs.AppLaw as application
use Rattle.fix_decoder.proofs.GroupLaws.{fields_append, fields_both, slots_length}
use Rattle.fix_decoder.proofs.GroupHeads.{printed_head, added_head, added_slots}
use Rattle.fix_decoder.proofs.CrossLaws as cross
use Rattle.fix_decoder.proofs.MarketLaws as market
use Rattle.fix_decoder.proofs.RequestLaws as request

abbrev head_slots : Header → List ℕ → List Slot
head_slots h kind = (35, Some kind) ∷ header_slots h

-- the printed fields of a message spell it
spelled : (h : Header) (b : Body) → FitsHeader h → FitsBody b → Spells (the_message h b) (fields_of (message_slots (the_message h b)))
spelled h (body.Admin m) head fits = flat.message_spelled h (body.Admin m) head refl fits
spelled h (body.App (app.QuoteCancel m)) head fits = flat.message_spelled h (body.App (app.QuoteCancel m)) head refl fits
spelled h (body.App (app.QuoteResponse m)) head fits = flat.message_spelled h (body.App (app.QuoteResponse m)) head refl fits
spelled h (body.App (app.QuoteStatusReport m)) head fits = flat.message_spelled h (body.App (app.QuoteStatusReport m)) head refl fits
spelled h (body.App (app.NewOrderSingle m)) head fits = flat.message_spelled h (body.App (app.NewOrderSingle m)) head refl fits
spelled h (body.App (app.OrderCancelRequest m)) head fits = flat.message_spelled h (body.App (app.OrderCancelRequest m)) head refl fits
spelled h (body.App (app.OrderCancelReplaceRequest m)) head fits = flat.message_spelled h (body.App (app.OrderCancelReplaceRequest m)) head refl fits
spelled h (body.App (app.ExecutionReport m)) head fits = flat.message_spelled h (body.App (app.ExecutionReport m)) head refl fits
spelled h (body.App (app.OrderCancelReject m)) head fits = flat.message_spelled h (body.App (app.OrderCancelReject m)) head refl fits
spelled h (body.App (app.MarketDataRequestReject m)) head fits = flat.message_spelled h (body.App (app.MarketDataRequestReject m)) head refl fits
spelled h (body.App (app.BusinessMessageReject m)) head fits = flat.message_spelled h (body.App (app.BusinessMessageReject m)) head refl fits
spelled h (body.App (app.Unsupported kind)) head fits = flat.message_spelled h (body.App (app.Unsupported kind)) head refl fits
spelled h (body.App (app.QuoteRequest m)) head fits =
    request.asked_law h (codes "R") (head_slots h (codes "R")) m head refl fits (printed_head h (codes "R") head refl) refl (refl, (refl, (refl, (refl, (refl, (refl, (refl, (refl, (refl, tt)))))))))
spelled h (body.App (app.Quote m)) head fits =
    request.quote_law h (codes "S") (head_slots h (codes "S")) m head refl fits (printed_head h (codes "S") head refl) refl (refl, (refl, (refl, (refl, (refl, (refl, (refl, (refl, (refl, tt)))))))))
spelled h (body.App (app.QuoteRequestReject m)) head fits =
    request.reject_law h (codes "AG") (head_slots h (codes "AG")) m head refl fits (printed_head h (codes "AG") head refl) refl (refl, (refl, (refl, (refl, (refl, (refl, (refl, (refl, (refl, tt)))))))))
spelled h (body.App (app.NewOrderCross m)) head fits =
    cross.cross_law h (codes "s") (head_slots h (codes "s")) m head refl fits (printed_head h (codes "s") head refl) refl (refl, (refl, (refl, (refl, (refl, (refl, (refl, (refl, (refl, tt)))))))))
spelled h (body.App (app.MarketDataRequest m)) head fits =
    market.request_law h (codes "V") (head_slots h (codes "V")) m head refl fits (printed_head h (codes "V") head refl) refl (refl, (refl, (refl, (refl, (refl, (refl, (refl, (refl, (refl, tt)))))))))
spelled h (body.App (app.MarketDataSnapshot m)) head fits =
    market.snapshot_law h (codes "W") (head_slots h (codes "W")) m head refl fits (printed_head h (codes "W") head refl) refl (refl, (refl, (refl, (refl, (refl, (refl, (refl, (refl, (refl, tt)))))))))

-- the same without the header
spelled_app : (a : App) → FitsBody (body.App a) → SpellsApp a (application.app_fields a)
spelled_app (app.QuoteCancel m) fits = application.app_spelled (app.QuoteCancel m) refl fits
spelled_app (app.QuoteResponse m) fits = application.app_spelled (app.QuoteResponse m) refl fits
spelled_app (app.QuoteStatusReport m) fits = application.app_spelled (app.QuoteStatusReport m) refl fits
spelled_app (app.NewOrderSingle m) fits = application.app_spelled (app.NewOrderSingle m) refl fits
spelled_app (app.OrderCancelRequest m) fits = application.app_spelled (app.OrderCancelRequest m) refl fits
spelled_app (app.OrderCancelReplaceRequest m) fits = application.app_spelled (app.OrderCancelReplaceRequest m) refl fits
spelled_app (app.ExecutionReport m) fits = application.app_spelled (app.ExecutionReport m) refl fits
spelled_app (app.OrderCancelReject m) fits = application.app_spelled (app.OrderCancelReject m) refl fits
spelled_app (app.MarketDataRequestReject m) fits = application.app_spelled (app.MarketDataRequestReject m) refl fits
spelled_app (app.BusinessMessageReject m) fits = application.app_spelled (app.BusinessMessageReject m) refl fits
spelled_app (app.Unsupported kind) fits = application.app_spelled (app.Unsupported kind) refl fits
spelled_app (app.QuoteRequest m) fits =
    let law = request.asked_law application.plain (codes "R") (added_slots (codes "R")) m application.plain_fits refl fits (added_head (codes "R") refl) refl (refl, (refl, (refl, (refl, (refl, tt))))) in
    (law.0, ap (λ (x : Message). x.body) law.1)
spelled_app (app.Quote m) fits =
    let law = request.quote_law application.plain (codes "S") (added_slots (codes "S")) m application.plain_fits refl fits (added_head (codes "S") refl) refl (refl, (refl, (refl, (refl, (refl, tt))))) in
    (law.0, ap (λ (x : Message). x.body) law.1)
spelled_app (app.QuoteRequestReject m) fits =
    let law = request.reject_law application.plain (codes "AG") (added_slots (codes "AG")) m application.plain_fits refl fits (added_head (codes "AG") refl) refl (refl, (refl, (refl, (refl, (refl, tt))))) in
    (law.0, ap (λ (x : Message). x.body) law.1)
spelled_app (app.NewOrderCross m) fits =
    let law = cross.cross_law application.plain (codes "s") (added_slots (codes "s")) m application.plain_fits refl fits (added_head (codes "s") refl) refl (refl, (refl, (refl, (refl, (refl, tt))))) in
    (law.0, ap (λ (x : Message). x.body) law.1)
spelled_app (app.MarketDataRequest m) fits =
    let law = market.request_law application.plain (codes "V") (added_slots (codes "V")) m application.plain_fits refl fits (added_head (codes "V") refl) refl (refl, (refl, (refl, (refl, (refl, tt))))) in
    (law.0, ap (λ (x : Message). x.body) law.1)
spelled_app (app.MarketDataSnapshot m) fits =
    let law = market.snapshot_law application.plain (codes "W") (added_slots (codes "W")) m application.plain_fits refl fits (added_head (codes "W") refl) refl (refl, (refl, (refl, (refl, (refl, tt))))) in
    (law.0, ap (λ (x : Message). x.body) law.1)

-- a printed message is a list of fields
grouped_fields : (h : Header) (kind : List ℕ) (own : List Slot) → FitsHeader h → IsText 64 kind → AreFields (fields_of own) → AreFields (fields_of (head_slots h kind ++ own))
grouped_fields h kind own head text are =
    subst AreFields (sym (fields_append (head_slots h kind) own)) (fields_both (fields_of (head_slots h kind)) (fields_of own) (fill_fields header_rows (head_slots h kind) (fill_header h kind head text) refl) are)

printed : (h : Header) (b : Body) → FitsHeader h → FitsBody b → AreFields (fields_of (message_slots (the_message h b)))
printed h (body.Admin m) head fits = flat.printed_fields (the_message h (body.Admin m)) refl (record { header = head; body = fits })
printed h (body.App (app.QuoteCancel m)) head fits = flat.printed_fields (the_message h (body.App (app.QuoteCancel m))) refl (record { header = head; body = fits })
printed h (body.App (app.QuoteResponse m)) head fits = flat.printed_fields (the_message h (body.App (app.QuoteResponse m))) refl (record { header = head; body = fits })
printed h (body.App (app.QuoteStatusReport m)) head fits = flat.printed_fields (the_message h (body.App (app.QuoteStatusReport m))) refl (record { header = head; body = fits })
printed h (body.App (app.NewOrderSingle m)) head fits = flat.printed_fields (the_message h (body.App (app.NewOrderSingle m))) refl (record { header = head; body = fits })
printed h (body.App (app.OrderCancelRequest m)) head fits = flat.printed_fields (the_message h (body.App (app.OrderCancelRequest m))) refl (record { header = head; body = fits })
printed h (body.App (app.OrderCancelReplaceRequest m)) head fits = flat.printed_fields (the_message h (body.App (app.OrderCancelReplaceRequest m))) refl (record { header = head; body = fits })
printed h (body.App (app.ExecutionReport m)) head fits = flat.printed_fields (the_message h (body.App (app.ExecutionReport m))) refl (record { header = head; body = fits })
printed h (body.App (app.OrderCancelReject m)) head fits = flat.printed_fields (the_message h (body.App (app.OrderCancelReject m))) refl (record { header = head; body = fits })
printed h (body.App (app.MarketDataRequestReject m)) head fits = flat.printed_fields (the_message h (body.App (app.MarketDataRequestReject m))) refl (record { header = head; body = fits })
printed h (body.App (app.BusinessMessageReject m)) head fits = flat.printed_fields (the_message h (body.App (app.BusinessMessageReject m))) refl (record { header = head; body = fits })
printed h (body.App (app.Unsupported m)) head fits = flat.printed_fields (the_message h (body.App (app.Unsupported m))) refl (record { header = head; body = fits })
printed h (body.App (app.QuoteRequest m)) head fits = grouped_fields h (codes "R") (app_slots (app.QuoteRequest m)) head refl (request.asked_fields m fits)
printed h (body.App (app.Quote m)) head fits = grouped_fields h (codes "S") (app_slots (app.Quote m)) head refl (request.quote_fields m fits)
printed h (body.App (app.QuoteRequestReject m)) head fits = grouped_fields h (codes "AG") (app_slots (app.QuoteRequestReject m)) head refl (request.reject_fields m fits)
printed h (body.App (app.NewOrderCross m)) head fits = grouped_fields h (codes "s") (app_slots (app.NewOrderCross m)) head refl (cross.cross_fields m fits)
printed h (body.App (app.MarketDataRequest m)) head fits = grouped_fields h (codes "V") (app_slots (app.MarketDataRequest m)) head refl (market.request_fields m fits)
printed h (body.App (app.MarketDataSnapshot m)) head fits = grouped_fields h (codes "W") (app_slots (app.MarketDataSnapshot m)) head refl (market.snapshot_fields m fits)

printed_app : (a : App) → FitsBody (body.App a) → AreFields (application.app_fields a)
printed_app (app.QuoteCancel m) fits = application.app_fields_are (app.QuoteCancel m) refl fits
printed_app (app.QuoteResponse m) fits = application.app_fields_are (app.QuoteResponse m) refl fits
printed_app (app.QuoteStatusReport m) fits = application.app_fields_are (app.QuoteStatusReport m) refl fits
printed_app (app.NewOrderSingle m) fits = application.app_fields_are (app.NewOrderSingle m) refl fits
printed_app (app.OrderCancelRequest m) fits = application.app_fields_are (app.OrderCancelRequest m) refl fits
printed_app (app.OrderCancelReplaceRequest m) fits = application.app_fields_are (app.OrderCancelReplaceRequest m) refl fits
printed_app (app.ExecutionReport m) fits = application.app_fields_are (app.ExecutionReport m) refl fits
printed_app (app.OrderCancelReject m) fits = application.app_fields_are (app.OrderCancelReject m) refl fits
printed_app (app.MarketDataRequestReject m) fits = application.app_fields_are (app.MarketDataRequestReject m) refl fits
printed_app (app.BusinessMessageReject m) fits = application.app_fields_are (app.BusinessMessageReject m) refl fits
printed_app (app.Unsupported m) fits = application.app_fields_are (app.Unsupported m) refl fits
printed_app (app.QuoteRequest m) fits = application.with_kind (codes "R") (app_slots (app.QuoteRequest m)) refl (request.asked_fields m fits)
printed_app (app.Quote m) fits = application.with_kind (codes "S") (app_slots (app.Quote m)) refl (request.quote_fields m fits)
printed_app (app.QuoteRequestReject m) fits = application.with_kind (codes "AG") (app_slots (app.QuoteRequestReject m)) refl (request.reject_fields m fits)
printed_app (app.NewOrderCross m) fits = application.with_kind (codes "s") (app_slots (app.NewOrderCross m)) refl (cross.cross_fields m fits)
printed_app (app.MarketDataRequest m) fits = application.with_kind (codes "V") (app_slots (app.MarketDataRequest m)) refl (market.request_fields m fits)
printed_app (app.MarketDataSnapshot m) fits = application.with_kind (codes "W") (app_slots (app.MarketDataSnapshot m)) refl (market.snapshot_fields m fits)

-- the text is short
grouped_length : (h : Header) (kind : List ℕ) (own : List Slot) → FitsHeader h → IsText 64 kind → length (slots_text own) ≤ 60_000 → length (slots_text (head_slots h kind ++ own)) ≤ 65_536
grouped_length h kind own head text short =
    omega (arith, slots_length (head_slots h kind) own, fill_length header_rows (head_slots h kind) (fill_header h kind head text) refl, short)

short : (h : Header) (b : Body) → FitsHeader h → FitsBody b → length (message_text (the_message h b)) ≤ 65_536
short h (body.Admin m) head fits = flat.message_length (the_message h (body.Admin m)) refl (record { header = head; body = fits })
short h (body.App (app.QuoteCancel m)) head fits = flat.message_length (the_message h (body.App (app.QuoteCancel m))) refl (record { header = head; body = fits })
short h (body.App (app.QuoteResponse m)) head fits = flat.message_length (the_message h (body.App (app.QuoteResponse m))) refl (record { header = head; body = fits })
short h (body.App (app.QuoteStatusReport m)) head fits = flat.message_length (the_message h (body.App (app.QuoteStatusReport m))) refl (record { header = head; body = fits })
short h (body.App (app.NewOrderSingle m)) head fits = flat.message_length (the_message h (body.App (app.NewOrderSingle m))) refl (record { header = head; body = fits })
short h (body.App (app.OrderCancelRequest m)) head fits = flat.message_length (the_message h (body.App (app.OrderCancelRequest m))) refl (record { header = head; body = fits })
short h (body.App (app.OrderCancelReplaceRequest m)) head fits = flat.message_length (the_message h (body.App (app.OrderCancelReplaceRequest m))) refl (record { header = head; body = fits })
short h (body.App (app.ExecutionReport m)) head fits = flat.message_length (the_message h (body.App (app.ExecutionReport m))) refl (record { header = head; body = fits })
short h (body.App (app.OrderCancelReject m)) head fits = flat.message_length (the_message h (body.App (app.OrderCancelReject m))) refl (record { header = head; body = fits })
short h (body.App (app.MarketDataRequestReject m)) head fits = flat.message_length (the_message h (body.App (app.MarketDataRequestReject m))) refl (record { header = head; body = fits })
short h (body.App (app.BusinessMessageReject m)) head fits = flat.message_length (the_message h (body.App (app.BusinessMessageReject m))) refl (record { header = head; body = fits })
short h (body.App (app.Unsupported m)) head fits = flat.message_length (the_message h (body.App (app.Unsupported m))) refl (record { header = head; body = fits })
short h (body.App (app.QuoteRequest m)) head fits = grouped_length h (codes "R") (app_slots (app.QuoteRequest m)) head refl (request.asked_length m fits)
short h (body.App (app.Quote m)) head fits = grouped_length h (codes "S") (app_slots (app.Quote m)) head refl (request.quote_length m fits)
short h (body.App (app.QuoteRequestReject m)) head fits = grouped_length h (codes "AG") (app_slots (app.QuoteRequestReject m)) head refl (request.reject_length m fits)
short h (body.App (app.NewOrderCross m)) head fits = grouped_length h (codes "s") (app_slots (app.NewOrderCross m)) head refl (cross.cross_length m fits)
short h (body.App (app.MarketDataRequest m)) head fits = grouped_length h (codes "V") (app_slots (app.MarketDataRequest m)) head refl (market.request_length m fits)
short h (body.App (app.MarketDataSnapshot m)) head fits = grouped_length h (codes "W") (app_slots (app.MarketDataSnapshot m)) head refl (market.snapshot_length m fits)

pub fields_law : (m : Message) → FitsMessage m → AreFields (fields_of (message_slots m))
fields_law m fits = printed m.header m.body fits.header fits.body

pub message_law : (m : Message) (fields : List Entry) → FitsMessage m → AreFields fields → message_text m ≡ fields_text fields → Spells m fields
message_law m fields fits are text =
    subst (λ (l : List Entry). Spells m l) (one_list (fields_of (message_slots m)) fields (fields_law m fits) are text) (spelled m.header m.body fits.header fits.body)

pub app_law : (a : App) (fields : List Entry) → FitsBody (body.App a) → AreFields fields → app_text a ≡ fields_text fields → SpellsApp a fields
app_law a fields fits are text =
    subst (λ (l : List Entry). SpellsApp a l) (one_list (application.app_fields a) fields (printed_app a fits) are text) (spelled_app a fits)

pub length_law : (m : Message) → FitsMessage m → length (message_text m) ≤ 65_536
length_law m fits = short m.header m.body fits.header fits.body
