-- The header of a printed message is read as itself.
use Rattle.std.proofs.Common.{◌≡◌, ℕ, Bool, List, [], ◌∷◌, ◌++◌, refl, ap, ◌∙◌, Option, Some}
use Rattle.sef_moment.specs.Utc.{moment_of}
use Rattle.fix_fields.specs.Fields.{Entry}
use Rattle.fix_dictionary.specs.declared.messages.Body.{Body}
use Rattle.fix_dictionary.specs.declared.messages.Message.{Message}
use Rattle.fix_dictionary.specs.declared.messages.Header.{Header}
use Rattle.fix_dictionary.specs.Values.{IsText}
use Rattle.fix_validation.specs.Tables.{header_rows}
use Rattle.fix_validation.specs.Stated.{stated, some_or, sequence_number_in, flag_in}
use Rattle.fix_dictionary.specs.Text.{Slot, header_slots, message_slots, body_kind, body_slots}
use Rattle.fix_decoder.specs.Messages.{header}
use Rattle.fix_dictionary.specs.Fits.{FitsHeader}
use Rattle.fix_decoder.proofs.FormLemmas as form
use Rattle.fix_decoder.proofs.LookLemmas.{Fill, Shows}

abbrev pub the_message : Header → Body → Message
the_message h b = record { header = h; body = b }

pub fill_header : (h : Header) (kind : List ℕ) → FitsHeader h → IsText 64 kind → Fill header_rows ((35, Some kind) ∷ header_slots h)
fill_header h kind fits text =
    (refl, (form.kind kind text, (refl, (form.identifier 49 h.sender fits.sender, (refl, (form.identifier 56 h.target fits.target, (refl, (form.number 34 1 999999999 h.number fits.number refl, (refl, (form.moment 52 h.sending_time fits.sending_time, (refl, (form.flag_given 43 h.possible_duplicate, (refl, (form.flag_given 97 h.possible_resend, (refl, (form.moment_given 122 h.original_sending_time fits.original_sending_time, (refl, (form.identifier_given 1128 h.application_version fits.application_version, tt))))))))))))))))))

built : (m : Header) (sender_x : List ℕ) (target_x : List ℕ) (number_x : ℕ) (sending_time_x : ℕ) (possible_duplicate_x : Option Bool) (possible_resend_x : Option Bool) (original_sending_time_x : Option ℕ) (application_version_x : Option (List ℕ))
    → sender_x ≡ m.sender → target_x ≡ m.target → number_x ≡ m.number → sending_time_x ≡ m.sending_time → possible_duplicate_x ≡ m.possible_duplicate → possible_resend_x ≡ m.possible_resend → original_sending_time_x ≡ m.original_sending_time → application_version_x ≡ m.application_version → m ≡ record { sender = sender_x; target = target_x; number = number_x; sending_time = sending_time_x; possible_duplicate = possible_duplicate_x; possible_resend = possible_resend_x; original_sending_time = original_sending_time_x; application_version = application_version_x }
built m sender_x target_x number_x sending_time_x possible_duplicate_x possible_resend_x original_sending_time_x application_version_x sender_e target_e number_e sending_time_e possible_duplicate_e possible_resend_e original_sending_time_e application_version_e = rw (sender_e, target_e, number_e, sending_time_e, possible_duplicate_e, possible_resend_e, original_sending_time_e, application_version_e) refl

-- in front of any slots
pub header_before : (h : Header) (kind : List ℕ) (own : List Slot) → FitsHeader h → (fields : List Entry) → Shows fields ((35, Some kind) ∷ (header_slots h ++ own)) → h ≡ header fields
header_before h kind own fits fields shows =
    built h _ _ _ _ _ _ _ _
    (ap (some_or []) (shows.values 49))
    (ap (some_or []) (shows.values 56))
    (ap (λ (o : Option (List ℕ)). sequence_number_in (some_or [] o)) (shows.values 34) ∙ form.number_back 1 999_999_999 1 h.number fits.number refl)
    (ap (λ (o : Option (List ℕ)). moment_of (some_or [] o)) (shows.values 52) ∙ form.moment_back h.sending_time fits.sending_time)
    (ap (stated flag_in) (shows.values 43) ∙ form.flag_given_back h.possible_duplicate)
    (ap (stated flag_in) (shows.values 97) ∙ form.flag_given_back h.possible_resend)
    (ap (stated moment_of) (shows.values 122) ∙ form.moment_given_back h.original_sending_time fits.original_sending_time)
    (shows.values 1128)

pub header_back : (h : Header) (b : Body) → FitsHeader h → (fields : List Entry) → Shows fields (message_slots (the_message h b)) → h ≡ header fields
header_back h b fits fields shows = header_before h (body_kind b) (body_slots b) fits fields shows
