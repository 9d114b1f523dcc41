-- Quotes: a printed message is read as itself.
use Rattle.std.proofs.Common.{◌≡◌, ℕ, List, [], refl, sym, ap, ◌∙◌, Option}
use Rattle.fix_fields.specs.Fields.{Entry}
use Rattle.fix_dictionary.specs.declared.values.Side.{Side}
use Rattle.fix_dictionary.specs.declared.messages.App.TheVariants as app
use Rattle.fix_dictionary.specs.declared.messages.Body.TheVariants as body
use Rattle.fix_dictionary.specs.declared.messages.Header.{Header}
use Rattle.fix_validation.specs.Tables as rows
use Rattle.fix_validation.specs.Stated.{stated, some_or, number_in, side_in}
use Rattle.fix_dictionary.specs.Text as text
use Rattle.fix_decoder.specs.Messages as fields_state
use Rattle.fix_dictionary.specs.Fits.{FitsQuoteCancel, FitsQuoteResponse, FitsQuoteStatusReport}
use Rattle.fix_decoder.proofs.FormLemmas as form
use Rattle.fix_decoder.proofs.LookLemmas.{Fill, Shows}
use Rattle.fix_decoder.proofs.HeaderLaw.{the_message}
use Rattle.fix_dictionary.specs.declared.messages.QuoteCancel.{QuoteCancel}
use Rattle.fix_dictionary.specs.declared.messages.QuoteResponse.{QuoteResponse}
use Rattle.fix_dictionary.specs.declared.messages.QuoteStatusReport.{QuoteStatusReport}

pub fill_quote_cancel : (m : QuoteCancel) → FitsQuoteCancel m → Fill rows.quote_cancel_rows (text.quote_cancel_slots m)
fill_quote_cancel m fits =
    (refl, (form.identifier_given 117 m.quote_id fits.quote_id, (refl, (form.number 298 0 999999999 m.cancel_type fits.cancel_type refl, tt))))

built_quote_cancel : (m : QuoteCancel) (quote_id_x : Option (List ℕ)) (cancel_type_x : ℕ)
    → quote_id_x ≡ m.quote_id → cancel_type_x ≡ m.cancel_type → m ≡ record { quote_id = quote_id_x; cancel_type = cancel_type_x }
built_quote_cancel m quote_id_x cancel_type_x quote_id_e cancel_type_e = rw (quote_id_e, cancel_type_e) refl

pub quote_cancel_back : (h : Header) (m : QuoteCancel) → FitsQuoteCancel m → (fields : List Entry) → Shows fields (text.message_slots (the_message h (body.App (app.QuoteCancel m)))) → fields_state.quote_cancel fields ≡ m
quote_cancel_back h m fits fields shows =
    sym (built_quote_cancel m _ _
    (shows.values 117)
    (ap (λ (o : Option (List ℕ)). number_in (some_or [] o)) (shows.values 298) ∙ form.number_back 0 999_999_999 0 m.cancel_type fits.cancel_type refl))

pub fill_quote_response : (m : QuoteResponse) → FitsQuoteResponse m → Fill rows.quote_response_rows (text.quote_response_slots m)
fill_quote_response m fits =
    (refl, (form.identifier 693 m.response_id fits.response_id, (refl, (form.identifier 117 m.quote_id fits.quote_id, (refl, (form.number 694 0 999999999 m.response_type fits.response_type refl, (refl, (form.side_given 54 m.side, tt))))))))

built_quote_response : (m : QuoteResponse) (response_id_x : List ℕ) (quote_id_x : List ℕ) (response_type_x : ℕ) (side_x : Option Side)
    → response_id_x ≡ m.response_id → quote_id_x ≡ m.quote_id → response_type_x ≡ m.response_type → side_x ≡ m.side → m ≡ record { response_id = response_id_x; quote_id = quote_id_x; response_type = response_type_x; side = side_x }
built_quote_response m response_id_x quote_id_x response_type_x side_x response_id_e quote_id_e response_type_e side_e = rw (response_id_e, quote_id_e, response_type_e, side_e) refl

pub quote_response_back : (h : Header) (m : QuoteResponse) → FitsQuoteResponse m → (fields : List Entry) → Shows fields (text.message_slots (the_message h (body.App (app.QuoteResponse m)))) → fields_state.quote_response fields ≡ m
quote_response_back h m fits fields shows =
    sym (built_quote_response m _ _ _ _
    (ap (some_or []) (shows.values 693))
    (ap (some_or []) (shows.values 117))
    (ap (λ (o : Option (List ℕ)). number_in (some_or [] o)) (shows.values 694) ∙ form.number_back 0 999_999_999 0 m.response_type fits.response_type refl)
    (ap (stated side_in) (shows.values 54) ∙ form.side_given_back m.side))

pub fill_quote_status_report : (m : QuoteStatusReport) → FitsQuoteStatusReport m → Fill rows.quote_status_report_rows (text.quote_status_report_slots m)
fill_quote_status_report m fits =
    (refl, (form.identifier_given 117 m.quote_id fits.quote_id, (refl, (form.identifier_given 131 m.request_id fits.request_id, (refl, (form.identifier_given 693 m.response_id fits.response_id, (refl, (form.identifier_given 55 m.symbol fits.symbol, (refl, (form.number 297 0 999999999 m.status fits.status refl, (refl, (form.number_given 300 m.reject_reason fits.reject_reason, (refl, (form.text_given 58 m.text fits.text, tt))))))))))))))

built_quote_status_report : (m : QuoteStatusReport) (quote_id_x : Option (List ℕ)) (request_id_x : Option (List ℕ)) (response_id_x : Option (List ℕ)) (symbol_x : Option (List ℕ)) (status_x : ℕ) (reject_reason_x : Option ℕ) (text_x : Option (List ℕ))
    → quote_id_x ≡ m.quote_id → request_id_x ≡ m.request_id → response_id_x ≡ m.response_id → symbol_x ≡ m.symbol → status_x ≡ m.status → reject_reason_x ≡ m.reject_reason → text_x ≡ m.text → m ≡ record { quote_id = quote_id_x; request_id = request_id_x; response_id = response_id_x; symbol = symbol_x; status = status_x; reject_reason = reject_reason_x; text = text_x }
built_quote_status_report m quote_id_x request_id_x response_id_x symbol_x status_x reject_reason_x text_x quote_id_e request_id_e response_id_e symbol_e status_e reject_reason_e text_e = rw (quote_id_e, request_id_e, response_id_e, symbol_e, status_e, reject_reason_e, text_e) refl

pub quote_status_report_back : (h : Header) (m : QuoteStatusReport) → FitsQuoteStatusReport m → (fields : List Entry) → Shows fields (text.message_slots (the_message h (body.App (app.QuoteStatusReport m)))) → fields_state.quote_status_report fields ≡ m
quote_status_report_back h m fits fields shows =
    sym (built_quote_status_report m _ _ _ _ _ _ _
    (shows.values 117)
    (shows.values 131)
    (shows.values 693)
    (shows.values 55)
    (ap (λ (o : Option (List ℕ)). number_in (some_or [] o)) (shows.values 297) ∙ form.number_back 0 999_999_999 0 m.status fits.status refl)
    (ap (stated number_in) (shows.values 300) ∙ form.number_given_back m.reject_reason fits.reject_reason)
    (shows.values 58))
