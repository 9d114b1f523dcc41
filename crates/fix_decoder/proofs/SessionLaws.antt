-- Messages of the session: a printed message is read as itself.
use Rattle.std.proofs.Common.{◌≡◌, ℕ, Bool, List, [], refl, sym, ap, ◌∙◌, arith, Option}
use Rattle.fix_fields.specs.Fields.{Entry}
use Rattle.fix_dictionary.specs.declared.messages.Admin.TheVariants as admin
use Rattle.fix_dictionary.specs.declared.messages.Body.TheVariants as body
use Rattle.fix_dictionary.specs.declared.messages.Header.{Header}
use Rattle.fix_dictionary.specs.Values.{Resend}
use Rattle.fix_validation.specs.Tables as rows
use Rattle.fix_validation.specs.Stated.{stated, some_or, number_in, sequence_number_in, new_sequence_number_in, interval_in, flag_in}
use Rattle.fix_dictionary.specs.Text as text
use Rattle.fix_decoder.specs.Messages as fields_state
use Rattle.fix_dictionary.specs.Fits.{FitsHeartbeat, FitsTestRequest, FitsResendRequest, FitsReject, FitsSequenceReset, FitsLogout, FitsLogon}
use Rattle.fix_decoder.proofs.FormLemmas as form
use Rattle.fix_decoder.proofs.LookLemmas.{Fill, Shows}
use Rattle.fix_decoder.proofs.HeaderLaw.{the_message}
use Rattle.fix_dictionary.specs.declared.messages.Heartbeat.{Heartbeat}
use Rattle.fix_dictionary.specs.declared.messages.TestRequest.{TestRequest}
use Rattle.fix_dictionary.specs.declared.messages.Reject.{Reject}
use Rattle.fix_dictionary.specs.declared.messages.SequenceReset.{SequenceReset}
use Rattle.fix_dictionary.specs.declared.messages.Logout.{Logout}
use Rattle.fix_dictionary.specs.declared.messages.Logon.{Logon}

pub fill_heartbeat : (m : Heartbeat) → FitsHeartbeat m → Fill rows.heartbeat_rows (text.heartbeat_slots m)
fill_heartbeat m fits =
    (refl, (form.identifier_given 112 m.test_id fits.test_id, tt))

built_heartbeat : (m : Heartbeat) (test_id_x : Option (List ℕ))
    → test_id_x ≡ m.test_id → m ≡ record { test_id = test_id_x }
built_heartbeat m test_id_x test_id_e = rw (test_id_e) refl

pub heartbeat_back : (h : Header) (m : Heartbeat) → FitsHeartbeat m → (fields : List Entry) → Shows fields (text.message_slots (the_message h (body.Admin (admin.Heartbeat m)))) → fields_state.heartbeat fields ≡ m
heartbeat_back h m fits fields shows =
    sym (built_heartbeat m _
    (shows.values 112))

pub fill_test_request : (m : TestRequest) → FitsTestRequest m → Fill rows.test_request_rows (text.test_request_slots m)
fill_test_request m fits =
    (refl, (form.identifier 112 m.test_id fits.test_id, tt))

built_test_request : (m : TestRequest) (test_id_x : List ℕ)
    → test_id_x ≡ m.test_id → m ≡ record { test_id = test_id_x }
built_test_request m test_id_x test_id_e = rw (test_id_e) refl

pub test_request_back : (h : Header) (m : TestRequest) → FitsTestRequest m → (fields : List Entry) → Shows fields (text.message_slots (the_message h (body.Admin (admin.TestRequest m)))) → fields_state.test_request fields ≡ m
test_request_back h m fits fields shows =
    sym (built_test_request m _
    (ap (some_or []) (shows.values 112)))

pub fill_resend_request : (m : Resend) → FitsResendRequest m → Fill (rows.resend_request_rows m.begin) (text.resend_request_slots m)
fill_resend_request m fits =
    (refl, (form.number 7 1 999_999_999 m.begin fits.begin refl, (refl, (form.end m.begin m.end fits.end fits.range, tt))))

built_resend_request : (m : Resend) (begin_x end_x : ℕ) → begin_x ≡ m.begin → end_x ≡ m.end → m ≡ record { begin = begin_x; end = end_x }
built_resend_request m begin_x end_x begin_e end_e = rw (begin_e, end_e) refl

pub resend_request_back : (h : Header) (m : Resend) → FitsResendRequest m → (fields : List Entry) → Shows fields (text.message_slots (the_message h (body.Admin (admin.ResendRequest m)))) → fields_state.resend_request fields ≡ m
resend_request_back h m fits fields shows =
    sym (built_resend_request m _ _
    (ap (λ (o : Option (List ℕ)). sequence_number_in (some_or [] o)) (shows.values 7) ∙ form.number_back 1 999_999_999 1 m.begin fits.begin refl)
    (ap (λ (o : Option (List ℕ)). number_in (some_or [] o)) (shows.values 16) ∙ form.number_back 0 999_999_999 0 m.end fits.end refl))

pub fill_reject : (m : Reject) → FitsReject m → Fill rows.reject_rows (text.reject_slots m)
fill_reject m fits =
    (refl, (form.number 45 0 999999999 m.reference_number fits.reference_number refl, (refl, (form.number_given 371 m.reference_tag fits.reference_tag, (refl, (form.identifier_given 372 m.reference_type fits.reference_type, (refl, (form.number_given 373 m.reason fits.reason, (refl, (form.text_given 58 m.text fits.text, tt))))))))))

built_reject : (m : Reject) (reference_number_x : ℕ) (reference_tag_x : Option ℕ) (reference_type_x : Option (List ℕ)) (reason_x : Option ℕ) (text_x : Option (List ℕ))
    → reference_number_x ≡ m.reference_number → reference_tag_x ≡ m.reference_tag → reference_type_x ≡ m.reference_type → reason_x ≡ m.reason → text_x ≡ m.text → m ≡ record { reference_number = reference_number_x; reference_tag = reference_tag_x; reference_type = reference_type_x; reason = reason_x; text = text_x }
built_reject m reference_number_x reference_tag_x reference_type_x reason_x text_x reference_number_e reference_tag_e reference_type_e reason_e text_e = rw (reference_number_e, reference_tag_e, reference_type_e, reason_e, text_e) refl

pub reject_back : (h : Header) (m : Reject) → FitsReject m → (fields : List Entry) → Shows fields (text.message_slots (the_message h (body.Admin (admin.Reject m)))) → fields_state.reject fields ≡ m
reject_back h m fits fields shows =
    sym (built_reject m _ _ _ _ _
    (ap (λ (o : Option (List ℕ)). number_in (some_or [] o)) (shows.values 45) ∙ form.number_back 0 999_999_999 0 m.reference_number fits.reference_number refl)
    (ap (stated number_in) (shows.values 371) ∙ form.number_given_back m.reference_tag fits.reference_tag)
    (shows.values 372)
    (ap (stated number_in) (shows.values 373) ∙ form.number_given_back m.reason fits.reason)
    (shows.values 58))

pub fill_sequence_reset : (m : SequenceReset) → FitsSequenceReset m → Fill rows.sequence_reset_rows (text.sequence_reset_slots m)
fill_sequence_reset m fits =
    (refl, (form.flag_given 123 m.gap_fill, (refl, (form.number 36 1 1000000000 m.new_number fits.new_number refl, tt))))

built_sequence_reset : (m : SequenceReset) (gap_fill_x : Option Bool) (new_number_x : ℕ)
    → gap_fill_x ≡ m.gap_fill → new_number_x ≡ m.new_number → m ≡ record { gap_fill = gap_fill_x; new_number = new_number_x }
built_sequence_reset m gap_fill_x new_number_x gap_fill_e new_number_e = rw (gap_fill_e, new_number_e) refl

pub sequence_reset_back : (h : Header) (m : SequenceReset) → FitsSequenceReset m → (fields : List Entry) → Shows fields (text.message_slots (the_message h (body.Admin (admin.SequenceReset m)))) → fields_state.sequence_reset fields ≡ m
sequence_reset_back h m fits fields shows =
    sym (built_sequence_reset m _ _
    (ap (stated flag_in) (shows.values 123) ∙ form.flag_given_back m.gap_fill)
    (ap (λ (o : Option (List ℕ)). new_sequence_number_in (some_or [] o)) (shows.values 36) ∙ form.number_back 1 1_000_000_000 1 m.new_number fits.new_number refl))

pub fill_logout : (m : Logout) → FitsLogout m → Fill rows.logout_rows (text.logout_slots m)
fill_logout m fits =
    (refl, (form.text_given 58 m.text fits.text, tt))

built_logout : (m : Logout) (text_x : Option (List ℕ))
    → text_x ≡ m.text → m ≡ record { text = text_x }
built_logout m text_x text_e = rw (text_e) refl

pub logout_back : (h : Header) (m : Logout) → FitsLogout m → (fields : List Entry) → Shows fields (text.message_slots (the_message h (body.Admin (admin.Logout m)))) → fields_state.logout fields ≡ m
logout_back h m fits fields shows =
    sym (built_logout m _
    (shows.values 58))

pub fill_logon : (m : Logon) → FitsLogon m → Fill rows.logon_rows (text.logon_slots m)
fill_logon m fits =
    (refl, (form.number 98 0 0 0 (omega arith, omega arith) refl, (refl, (form.number 108 0 3600 m.heartbeat_interval fits.heartbeat_interval refl, (refl, (form.version, (refl, (form.flag_given 141 m.reset, tt))))))))

built_logon : (m : Logon) (heartbeat_interval_x : ℕ) (reset_x : Option Bool)
    → heartbeat_interval_x ≡ m.heartbeat_interval → reset_x ≡ m.reset → m ≡ record { heartbeat_interval = heartbeat_interval_x; reset = reset_x }
built_logon m heartbeat_interval_x reset_x heartbeat_interval_e reset_e = rw (heartbeat_interval_e, reset_e) refl

pub logon_back : (h : Header) (m : Logon) → FitsLogon m → (fields : List Entry) → Shows fields (text.message_slots (the_message h (body.Admin (admin.Logon m)))) → fields_state.logon fields ≡ m
logon_back h m fits fields shows =
    sym (built_logon m _ _
    (ap (λ (o : Option (List ℕ)). interval_in (some_or [] o)) (shows.values 108) ∙ form.number_back 0 3600 0 m.heartbeat_interval fits.heartbeat_interval refl)
    (ap (stated flag_in) (shows.values 141) ∙ form.flag_given_back m.reset))
