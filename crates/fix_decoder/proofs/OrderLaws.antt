-- Orders and the replies to them: a printed message is read as itself.
use Rattle.std.proofs.Common.{◌≡◌, ℕ, List, [], refl, sym, ap, ◌∙◌, Option, ℤ}
use Rattle.sef_moment.specs.Utc.{moment_of}
use Rattle.fix_fields.specs.Fields.{Entry}
use Rattle.fix_dictionary.specs.declared.values.Side.{Side}
use Rattle.fix_dictionary.specs.declared.messages.App.TheVariants as app
use Rattle.fix_dictionary.specs.declared.messages.Body.TheVariants as body
use Rattle.fix_dictionary.specs.declared.messages.Header.{Header}
use Rattle.fix_validation.specs.Tables as rows
use Rattle.fix_validation.specs.Stated.{stated, some_or, number_in, quantity_in, amount_in, price_in, character_in, side_in}
use Rattle.fix_dictionary.specs.Text as text
use Rattle.fix_decoder.specs.Messages as fields_state
use Rattle.fix_dictionary.specs.Fits.{FitsNewOrderSingle, FitsOrderCancelRequest, FitsOrderCancelReplaceRequest, FitsExecutionReport, FitsOrderCancelReject}
use Rattle.fix_decoder.proofs.FormLemmas as form
use Rattle.fix_decoder.proofs.LookLemmas.{Fill, Shows}
use Rattle.fix_decoder.proofs.HeaderLaw.{the_message}
use Rattle.fix_dictionary.specs.declared.messages.NewOrderSingle.{NewOrderSingle}
use Rattle.fix_dictionary.specs.declared.messages.OrderCancelRequest.{OrderCancelRequest}
use Rattle.fix_dictionary.specs.declared.messages.OrderCancelReplaceRequest.{OrderCancelReplaceRequest}
use Rattle.fix_dictionary.specs.declared.messages.ExecutionReport.{ExecutionReport}
use Rattle.fix_dictionary.specs.declared.messages.OrderCancelReject.{OrderCancelReject}

pub fill_new_order_single : (m : NewOrderSingle) → FitsNewOrderSingle m → Fill rows.new_order_single_rows (text.new_order_single_slots m)
fill_new_order_single m fits =
    (refl, (form.identifier 11 m.order_id fits.order_id, (refl, (form.identifier_given 583 m.link_id fits.link_id, (refl, (form.identifier 55 m.symbol fits.symbol, (refl, (form.side 54 m.side, (refl, (form.quantity 38 m.quantity fits.quantity, (refl, (form.character 40 m.order_type fits.order_type, (refl, (form.price_given 44 m.price fits.price, (refl, (form.character_given 59 m.time_in_force fits.time_in_force, (refl, (form.moment_given 60 m.transact_time fits.transact_time, tt))))))))))))))))))

built_new_order_single : (m : NewOrderSingle) (order_id_x : List ℕ) (link_id_x : Option (List ℕ)) (symbol_x : List ℕ) (side_x : Side) (quantity_x : ℕ) (order_type_x : ℕ) (price_x : Option ℤ) (time_in_force_x : Option ℕ) (transact_time_x : Option ℕ)
    → order_id_x ≡ m.order_id → link_id_x ≡ m.link_id → symbol_x ≡ m.symbol → side_x ≡ m.side → quantity_x ≡ m.quantity → order_type_x ≡ m.order_type → price_x ≡ m.price → time_in_force_x ≡ m.time_in_force → transact_time_x ≡ m.transact_time → m ≡ record { order_id = order_id_x; link_id = link_id_x; symbol = symbol_x; side = side_x; quantity = quantity_x; order_type = order_type_x; price = price_x; time_in_force = time_in_force_x; transact_time = transact_time_x }
built_new_order_single m order_id_x link_id_x symbol_x side_x quantity_x order_type_x price_x time_in_force_x transact_time_x order_id_e link_id_e symbol_e side_e quantity_e order_type_e price_e time_in_force_e transact_time_e = rw (order_id_e, link_id_e, symbol_e, side_e, quantity_e, order_type_e, price_e, time_in_force_e, transact_time_e) refl

pub new_order_single_back : (h : Header) (m : NewOrderSingle) → FitsNewOrderSingle m → (fields : List Entry) → Shows fields (text.message_slots (the_message h (body.App (app.NewOrderSingle m)))) → fields_state.new_order_single fields ≡ m
new_order_single_back h m fits fields shows =
    sym (built_new_order_single m _ _ _ _ _ _ _ _ _
    (ap (some_or []) (shows.values 11))
    (shows.values 583)
    (ap (some_or []) (shows.values 55))
    (ap (λ (o : Option (List ℕ)). side_in (some_or [] o)) (shows.values 54) ∙ form.side_back m.side)
    (ap (λ (o : Option (List ℕ)). quantity_in (some_or [] o)) (shows.values 38) ∙ form.quantity_back m.quantity fits.quantity)
    (ap (λ (o : Option (List ℕ)). character_in (some_or [] o)) (shows.values 40))
    (ap (stated price_in) (shows.values 44) ∙ form.price_given_back m.price fits.price)
    (ap (stated character_in) (shows.values 59) ∙ form.character_given_back m.time_in_force)
    (ap (stated moment_of) (shows.values 60) ∙ form.moment_given_back m.transact_time fits.transact_time))

pub fill_order_cancel_request : (m : OrderCancelRequest) → FitsOrderCancelRequest m → Fill rows.order_cancel_request_rows (text.order_cancel_request_slots m)
fill_order_cancel_request m fits =
    (refl, (form.identifier 11 m.order_id fits.order_id, (refl, (form.identifier 41 m.original_id fits.original_id, tt))))

built_order_cancel_request : (m : OrderCancelRequest) (order_id_x : List ℕ) (original_id_x : List ℕ)
    → order_id_x ≡ m.order_id → original_id_x ≡ m.original_id → m ≡ record { order_id = order_id_x; original_id = original_id_x }
built_order_cancel_request m order_id_x original_id_x order_id_e original_id_e = rw (order_id_e, original_id_e) refl

pub order_cancel_request_back : (h : Header) (m : OrderCancelRequest) → FitsOrderCancelRequest m → (fields : List Entry) → Shows fields (text.message_slots (the_message h (body.App (app.OrderCancelRequest m)))) → fields_state.order_cancel_request fields ≡ m
order_cancel_request_back h m fits fields shows =
    sym (built_order_cancel_request m _ _
    (ap (some_or []) (shows.values 11))
    (ap (some_or []) (shows.values 41)))

pub fill_order_cancel_replace_request : (m : OrderCancelReplaceRequest) → FitsOrderCancelReplaceRequest m → Fill rows.order_cancel_replace_request_rows (text.order_cancel_replace_request_slots m)
fill_order_cancel_replace_request m fits =
    (refl, (form.identifier 11 m.order_id fits.order_id, (refl, (form.identifier 41 m.original_id fits.original_id, (refl, (form.quantity 38 m.quantity fits.quantity, (refl, (form.character 40 m.order_type fits.order_type, (refl, (form.price_given 44 m.price fits.price, tt))))))))))

built_order_cancel_replace_request : (m : OrderCancelReplaceRequest) (order_id_x : List ℕ) (original_id_x : List ℕ) (quantity_x : ℕ) (order_type_x : ℕ) (price_x : Option ℤ)
    → order_id_x ≡ m.order_id → original_id_x ≡ m.original_id → quantity_x ≡ m.quantity → order_type_x ≡ m.order_type → price_x ≡ m.price → m ≡ record { order_id = order_id_x; original_id = original_id_x; quantity = quantity_x; order_type = order_type_x; price = price_x }
built_order_cancel_replace_request m order_id_x original_id_x quantity_x order_type_x price_x order_id_e original_id_e quantity_e order_type_e price_e = rw (order_id_e, original_id_e, quantity_e, order_type_e, price_e) refl

pub order_cancel_replace_request_back : (h : Header) (m : OrderCancelReplaceRequest) → FitsOrderCancelReplaceRequest m → (fields : List Entry) → Shows fields (text.message_slots (the_message h (body.App (app.OrderCancelReplaceRequest m)))) → fields_state.order_cancel_replace_request fields ≡ m
order_cancel_replace_request_back h m fits fields shows =
    sym (built_order_cancel_replace_request m _ _ _ _ _
    (ap (some_or []) (shows.values 11))
    (ap (some_or []) (shows.values 41))
    (ap (λ (o : Option (List ℕ)). quantity_in (some_or [] o)) (shows.values 38) ∙ form.quantity_back m.quantity fits.quantity)
    (ap (λ (o : Option (List ℕ)). character_in (some_or [] o)) (shows.values 40))
    (ap (stated price_in) (shows.values 44) ∙ form.price_given_back m.price fits.price))

pub fill_execution_report : (m : ExecutionReport) → FitsExecutionReport m → Fill rows.execution_report_rows (text.execution_report_slots m)
fill_execution_report m fits =
    (refl, (form.identifier 37 m.venue_order_id fits.venue_order_id, (refl, (form.identifier 17 m.execution_id fits.execution_id, (refl, (form.character 150 m.execution_type fits.execution_type, (refl, (form.character 39 m.order_status fits.order_status, (refl, (form.identifier 55 m.symbol fits.symbol, (refl, (form.side 54 m.side, (refl, (form.amount 151 m.left fits.left, (refl, (form.amount 14 m.filled fits.filled, (refl, (form.identifier_given 11 m.order_id fits.order_id, (refl, (form.identifier_given 41 m.original_id fits.original_id, (refl, (form.price_given 31 m.last_price fits.last_price, (refl, (form.quantity_given 32 m.last_quantity fits.last_quantity, (refl, (form.number_given 103 m.reject_reason fits.reject_reason, (refl, (form.identifier_given 880 m.trade_id fits.trade_id, (refl, (form.identifier_given 693 m.response_id fits.response_id, (refl, (form.text_given 58 m.text fits.text, tt))))))))))))))))))))))))))))))))

built_execution_report : (m : ExecutionReport) (venue_order_id_x : List ℕ) (execution_id_x : List ℕ) (execution_type_x : ℕ) (order_status_x : ℕ) (symbol_x : List ℕ) (side_x : Side) (left_x : ℕ) (filled_x : ℕ) (order_id_x : Option (List ℕ)) (original_id_x : Option (List ℕ)) (last_price_x : Option ℤ) (last_quantity_x : Option ℕ) (reject_reason_x : Option ℕ) (trade_id_x : Option (List ℕ)) (response_id_x : Option (List ℕ)) (text_x : Option (List ℕ))
    → venue_order_id_x ≡ m.venue_order_id → execution_id_x ≡ m.execution_id → execution_type_x ≡ m.execution_type → order_status_x ≡ m.order_status → symbol_x ≡ m.symbol → side_x ≡ m.side → left_x ≡ m.left → filled_x ≡ m.filled → order_id_x ≡ m.order_id → original_id_x ≡ m.original_id → last_price_x ≡ m.last_price → last_quantity_x ≡ m.last_quantity → reject_reason_x ≡ m.reject_reason → trade_id_x ≡ m.trade_id → response_id_x ≡ m.response_id → text_x ≡ m.text → m ≡ record { venue_order_id = venue_order_id_x; execution_id = execution_id_x; execution_type = execution_type_x; order_status = order_status_x; symbol = symbol_x; side = side_x; left = left_x; filled = filled_x; order_id = order_id_x; original_id = original_id_x; last_price = last_price_x; last_quantity = last_quantity_x; reject_reason = reject_reason_x; trade_id = trade_id_x; response_id = response_id_x; text = text_x }
built_execution_report m venue_order_id_x execution_id_x execution_type_x order_status_x symbol_x side_x left_x filled_x order_id_x original_id_x last_price_x last_quantity_x reject_reason_x trade_id_x response_id_x text_x venue_order_id_e execution_id_e execution_type_e order_status_e symbol_e side_e left_e filled_e order_id_e original_id_e last_price_e last_quantity_e reject_reason_e trade_id_e response_id_e text_e = rw (venue_order_id_e, execution_id_e, execution_type_e, order_status_e, symbol_e, side_e, left_e, filled_e, order_id_e, original_id_e, last_price_e, last_quantity_e, reject_reason_e, trade_id_e, response_id_e, text_e) refl

pub execution_report_back : (h : Header) (m : ExecutionReport) → FitsExecutionReport m → (fields : List Entry) → Shows fields (text.message_slots (the_message h (body.App (app.ExecutionReport m)))) → fields_state.execution_report fields ≡ m
execution_report_back h m fits fields shows =
    sym (built_execution_report m _ _ _ _ _ _ _ _ _ _ _ _ _ _ _ _
    (ap (some_or []) (shows.values 37))
    (ap (some_or []) (shows.values 17))
    (ap (λ (o : Option (List ℕ)). character_in (some_or [] o)) (shows.values 150))
    (ap (λ (o : Option (List ℕ)). character_in (some_or [] o)) (shows.values 39))
    (ap (some_or []) (shows.values 55))
    (ap (λ (o : Option (List ℕ)). side_in (some_or [] o)) (shows.values 54) ∙ form.side_back m.side)
    (ap (λ (o : Option (List ℕ)). amount_in (some_or [] o)) (shows.values 151) ∙ form.amount_back m.left fits.left)
    (ap (λ (o : Option (List ℕ)). amount_in (some_or [] o)) (shows.values 14) ∙ form.amount_back m.filled fits.filled)
    (shows.values 11)
    (shows.values 41)
    (ap (stated price_in) (shows.values 31) ∙ form.price_given_back m.last_price fits.last_price)
    (ap (stated quantity_in) (shows.values 32) ∙ form.quantity_given_back m.last_quantity fits.last_quantity)
    (ap (stated number_in) (shows.values 103) ∙ form.number_given_back m.reject_reason fits.reject_reason)
    (shows.values 880)
    (shows.values 693)
    (shows.values 58))

pub fill_order_cancel_reject : (m : OrderCancelReject) → FitsOrderCancelReject m → Fill rows.order_cancel_reject_rows (text.order_cancel_reject_slots m)
fill_order_cancel_reject m fits =
    (refl, (form.identifier 37 m.venue_order_id fits.venue_order_id, (refl, (form.identifier 11 m.order_id fits.order_id, (refl, (form.identifier 41 m.original_id fits.original_id, (refl, (form.character 39 m.order_status fits.order_status, (refl, (form.character 434 m.response_to fits.response_to, (refl, (form.number 102 0 999999999 m.reject_reason fits.reject_reason refl, (refl, (form.text_given 58 m.text fits.text, tt))))))))))))))

built_order_cancel_reject : (m : OrderCancelReject) (venue_order_id_x : List ℕ) (order_id_x : List ℕ) (original_id_x : List ℕ) (order_status_x : ℕ) (response_to_x : ℕ) (reject_reason_x : ℕ) (text_x : Option (List ℕ))
    → venue_order_id_x ≡ m.venue_order_id → order_id_x ≡ m.order_id → original_id_x ≡ m.original_id → order_status_x ≡ m.order_status → response_to_x ≡ m.response_to → reject_reason_x ≡ m.reject_reason → text_x ≡ m.text → m ≡ record { venue_order_id = venue_order_id_x; order_id = order_id_x; original_id = original_id_x; order_status = order_status_x; response_to = response_to_x; reject_reason = reject_reason_x; text = text_x }
built_order_cancel_reject m venue_order_id_x order_id_x original_id_x order_status_x response_to_x reject_reason_x text_x venue_order_id_e order_id_e original_id_e order_status_e response_to_e reject_reason_e text_e = rw (venue_order_id_e, order_id_e, original_id_e, order_status_e, response_to_e, reject_reason_e, text_e) refl

pub order_cancel_reject_back : (h : Header) (m : OrderCancelReject) → FitsOrderCancelReject m → (fields : List Entry) → Shows fields (text.message_slots (the_message h (body.App (app.OrderCancelReject m)))) → fields_state.order_cancel_reject fields ≡ m
order_cancel_reject_back h m fits fields shows =
    sym (built_order_cancel_reject m _ _ _ _ _ _ _
    (ap (some_or []) (shows.values 37))
    (ap (some_or []) (shows.values 11))
    (ap (some_or []) (shows.values 41))
    (ap (λ (o : Option (List ℕ)). character_in (some_or [] o)) (shows.values 39))
    (ap (λ (o : Option (List ℕ)). character_in (some_or [] o)) (shows.values 434))
    (ap (λ (o : Option (List ℕ)). number_in (some_or [] o)) (shows.values 102) ∙ form.number_back 0 999_999_999 0 m.reject_reason fits.reject_reason refl)
    (shows.values 58))
