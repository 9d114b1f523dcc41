-- Refusals of other messages: a printed message is read as itself.
use Rattle.std.proofs.Common.{◌≡◌, ℕ, List, [], refl, sym, ap, ◌∙◌, Option}
use Rattle.fix_fields.specs.Fields.{Entry}
use Rattle.fix_dictionary.specs.declared.messages.App.TheVariants as app
use Rattle.fix_dictionary.specs.declared.messages.Body.TheVariants as body
use Rattle.fix_dictionary.specs.declared.messages.Header.{Header}
use Rattle.fix_validation.specs.Tables as rows
use Rattle.fix_validation.specs.Stated.{some_or, number_in, character_in}
use Rattle.fix_dictionary.specs.Text as text
use Rattle.fix_decoder.specs.Messages as fields_state
use Rattle.fix_dictionary.specs.Fits.{FitsMarketDataRequestReject, FitsBusinessMessageReject}
use Rattle.fix_decoder.proofs.FormLemmas as form
use Rattle.fix_decoder.proofs.LookLemmas.{Fill, Shows}
use Rattle.fix_decoder.proofs.HeaderLaw.{the_message}
use Rattle.fix_dictionary.specs.declared.messages.MarketDataRequestReject.{MarketDataRequestReject}
use Rattle.fix_dictionary.specs.declared.messages.BusinessMessageReject.{BusinessMessageReject}

pub fill_market_data_request_reject : (m : MarketDataRequestReject) → FitsMarketDataRequestReject m → Fill rows.market_data_request_reject_rows (text.market_data_request_reject_slots m)
fill_market_data_request_reject m fits =
    (refl, (form.identifier 262 m.request_id fits.request_id, (refl, (form.character 281 m.reject_reason fits.reject_reason, (refl, (form.text_given 58 m.text fits.text, tt))))))

built_market_data_request_reject : (m : MarketDataRequestReject) (request_id_x : List ℕ) (reject_reason_x : ℕ) (text_x : Option (List ℕ))
    → request_id_x ≡ m.request_id → reject_reason_x ≡ m.reject_reason → text_x ≡ m.text → m ≡ record { request_id = request_id_x; reject_reason = reject_reason_x; text = text_x }
built_market_data_request_reject m request_id_x reject_reason_x text_x request_id_e reject_reason_e text_e = rw (request_id_e, reject_reason_e, text_e) refl

pub market_data_request_reject_back : (h : Header) (m : MarketDataRequestReject) → FitsMarketDataRequestReject m → (fields : List Entry) → Shows fields (text.message_slots (the_message h (body.App (app.MarketDataRequestReject m)))) → fields_state.market_data_request_reject fields ≡ m
market_data_request_reject_back h m fits fields shows =
    sym (built_market_data_request_reject m _ _ _
    (ap (some_or []) (shows.values 262))
    (ap (λ (o : Option (List ℕ)). character_in (some_or [] o)) (shows.values 281))
    (shows.values 58))

pub fill_business_message_reject : (m : BusinessMessageReject) → FitsBusinessMessageReject m → Fill rows.business_message_reject_rows (text.business_message_reject_slots m)
fill_business_message_reject m fits =
    (refl, (form.number 45 0 999999999 m.reference_number fits.reference_number refl, (refl, (form.identifier 372 m.reference_type fits.reference_type, (refl, (form.number 380 0 999999999 m.reject_reason fits.reject_reason refl, (refl, (form.text_given 58 m.text fits.text, tt))))))))

built_business_message_reject : (m : BusinessMessageReject) (reference_number_x : ℕ) (reference_type_x : List ℕ) (reject_reason_x : ℕ) (text_x : Option (List ℕ))
    → reference_number_x ≡ m.reference_number → reference_type_x ≡ m.reference_type → reject_reason_x ≡ m.reject_reason → text_x ≡ m.text → m ≡ record { reference_number = reference_number_x; reference_type = reference_type_x; reject_reason = reject_reason_x; text = text_x }
built_business_message_reject m reference_number_x reference_type_x reject_reason_x text_x reference_number_e reference_type_e reject_reason_e text_e = rw (reference_number_e, reference_type_e, reject_reason_e, text_e) refl

pub business_message_reject_back : (h : Header) (m : BusinessMessageReject) → FitsBusinessMessageReject m → (fields : List Entry) → Shows fields (text.message_slots (the_message h (body.App (app.BusinessMessageReject m)))) → fields_state.business_message_reject fields ≡ m
business_message_reject_back h m fits fields shows =
    sym (built_business_message_reject m _ _ _ _
    (ap (λ (o : Option (List ℕ)). number_in (some_or [] o)) (shows.values 45) ∙ form.number_back 0 999_999_999 0 m.reference_number fits.reference_number refl)
    (ap (some_or []) (shows.values 372))
    (ap (λ (o : Option (List ℕ)). number_in (some_or [] o)) (shows.values 380) ∙ form.number_back 0 999_999_999 0 m.reject_reason fits.reject_reason refl)
    (shows.values 58))
