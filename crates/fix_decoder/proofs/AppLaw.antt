-- The printed text of an application message is read as the message.
use Rattle.std.proofs.Common.{◌≡◌, ℕ, true, false, Bool, List, [], ◌∷◌, ◌++◌, refl, sym, ap, subst, cond, ◌∙◌, ◌==◌, ◌&&◌, ◌||◌, not, arith, rules, Option, Some, None, inl, inr, codes, decimal, pos}
use Rattle.std.specs.Fmt.{digits}
use Rattle.std.proofs.lemmas.Bool.Decides.{nat_tests}
use Rattle.std.proofs.lemmas.Bool.{cases_eq}
use Rattle.sef_moment.specs.Calendar.{IsDate, day_number, year_of, month_of, day_of_month}
use Rattle.sef_moment.specs.Utc.{utc_text}
use Rattle.sef_moment.proofs.DateLemmas.{date_of-is, day_number-date_of, day_number-day_count, IsCivilDate-is_date, same_date}
use Rattle.fix_fields.specs.Fields.{Entry, AreFields}
use Rattle.fix_validation.specs.declared.faults.DictFault.{DictFault}
use Rattle.fix_validation.specs.declared.faults.DictFault.TheVariants.{Format}
use Rattle.fix_validation.specs.declared.table.Form.TheVariants as form_of_row
use Rattle.fix_dictionary.specs.declared.kinds.MessageType.{MessageType}
use Rattle.fix_dictionary.specs.declared.kinds.MessageType.TheVariants as types
use Rattle.fix_dictionary.specs.declared.messages.App.{App}
use Rattle.fix_dictionary.specs.declared.messages.App.TheVariants as app
use Rattle.fix_dictionary.specs.declared.messages.Header.{Header}
use Rattle.fix_dictionary.specs.declared.messages.Body.TheVariants as body
use Rattle.fix_dictionary.specs.declared.messages.Message.{Message}
use Rattle.fix_validation.specs.Table.{needs}
use Rattle.fix_validation.specs.Tables.{rows_of}
use Rattle.fix_dictionary.specs.Kinds.{type_of, is_session}
use Rattle.fix_dictionary.specs.Text.{Slot, fields_of, app_kind, app_slots, message_slots}
use Rattle.fix_decoder.specs.Applications.{plain_header, SpellsApp}
use Rattle.fix_dictionary.specs.Values.{IsText}
use Rattle.fix_dictionary.specs.Fits.{FitsHeader, FitsBody}
use Rattle.fix_decoder.proofs.FormLemmas as form
use Rattle.fix_decoder.proofs.LookLemmas.{Shows, slot_of, has_slot, value_slot, single_fields, are_distinct, fill_fields, have_tags}
use Rattle.fix_decoder.proofs.HeaderLaw.{the_message}
use Rattle.fix_decoder.proofs.MessageLaw.{is_flat, shown_is_read, fill_body, text_of_kind}

both_true : (a b : Bool) → (a && b) ≡ true → (a ≡ true) × (b ≡ true)
both_true true b h = (refl, h)
both_true false b h = absurd (search (h, rules))

not_true : (b : Bool) → not b ≡ true → b ≡ false
not_true true h = absurd (search (h, rules))
not_true false h = refl

either_false : (a b : Bool) → (a || b) ≡ false → (a ≡ false) × (b ≡ false)
either_false true b h = absurd (search (h, rules))
either_false false b h = (refl, h)

false_not_true : false ≡ true → ⊥
false_not_true h = search (h, rules)

-- the added header, as it is printed
abbrev pub plain : Header
plain = record { sender = codes "S"; target = codes "T"; number = 1; sending_time = 0; possible_duplicate = None; possible_resend = None; original_sending_time = None; application_version = None }

pub plain_fits : FitsHeader plain
plain_fits = record { sender = refl; target = refl; number = (omega arith, omega arith); sending_time = omega arith; original_sending_time = tt; application_version = tt }

-- the slots of the added header, then those of a message
abbrev plain_slots : List Slot → List Slot
plain_slots slots = (49, Some (codes "S")) ∷ (56, Some (codes "T")) ∷ (34, Some (codes "1")) ∷ (52, Some (codes "19700101-00:00:00.000")) ∷ slots

slot_absent : (tag : ℕ) (slots : List Slot) → has_slot tag slots ≡ false → slot_of tag slots ≡ None
slot_absent tag [] h = refl
slot_absent tag (s ∷ ss) h = let parts = either_false (s.0 == tag) (has_slot tag ss) h in rw parts.0 (slot_absent tag ss parts.1)

-- an empty slot before slots without its tag
passed : (k tag : ℕ) (own : List Slot) (rest : Option (List ℕ)) → has_slot k own ≡ false → rest ≡ slot_of tag own → cond (k == tag) None rest ≡ slot_of tag own
passed k tag own rest h e =
    elim (cases_eq k tag) [
      | inl same ↦
          let test : (k == tag) ≡ true = grind (arith, nat_tests) in
          rw test (sym (ap (λ (n : ℕ). slot_of n own) (sym same) ∙ slot_absent k own h))
      | inr other ↦ let test : (k == tag) ≡ false = grind (arith, nat_tests) in rw test e
    ]

-- none of the header's optional tags
abbrev pub lacks_optional : List Slot → Bool
lacks_optional own = not (has_slot 43 own) && (not (has_slot 97 own) && (not (has_slot 122 own) && not (has_slot 1128 own)))

all_passed : (tag : ℕ) (own : List Slot) → lacks_optional own ≡ true
    → slot_of tag ((43, None) ∷ (97, None) ∷ (122, None) ∷ (1128, None) ∷ own) ≡ slot_of tag own
all_passed tag own h =
    let a = both_true (not (has_slot 43 own)) (not (has_slot 97 own) && (not (has_slot 122 own) && not (has_slot 1128 own))) h in
    let b = both_true (not (has_slot 97 own)) (not (has_slot 122 own) && not (has_slot 1128 own)) a.1 in
    let c = both_true (not (has_slot 122 own)) (not (has_slot 1128 own)) b.1 in
    passed 43 tag own _ (not_true (has_slot 43 own) a.0) (passed 97 tag own _ (not_true (has_slot 97 own) b.0)
    (passed 122 tag own _ (not_true (has_slot 122 own) c.0) (passed 1128 tag own _ (not_true (has_slot 1128 own) c.1) refl)))

-- the type may follow the header
pub moved : (tag : ℕ) (kind : List ℕ) (own : List Slot) → lacks_optional own ≡ true
    → slot_of tag (plain_slots ((35, Some kind) ∷ own))
    ≡ slot_of tag ((35, Some kind) ∷ plain_slots ((43, None) ∷ (97, None) ∷ (122, None) ∷ (1128, None) ∷ own))
moved tag kind own h =
    elim (cases_eq 35 tag) [
      | inl same ↦
          subst (λ (n : ℕ). slot_of n (plain_slots ((35, Some kind) ∷ own)) ≡ slot_of n ((35, Some kind) ∷ plain_slots ((43, None) ∷ (97, None) ∷ (122, None) ∷ (1128, None) ∷ own))) same refl
      | inr other ↦
          let test : (35 == tag) ≡ false = grind (arith, nat_tests) in
          rw test (ap (λ (o : Option (List ℕ)). cond (49 == tag) (Some (codes "S")) (cond (56 == tag) (Some (codes "T")) (cond (34 == tag) (Some (codes "1")) (cond (52 == tag) (Some (codes "19700101-00:00:00.000")) o))))
          (sym (all_passed tag own h)))
    ]

pub plain_number : decimal 1 ≡ codes "1"
unfolding digits
plain_number = refl

first_date : IsDate 1970 1 1
first_date = record { first_year = omega arith; last_year = omega arith; first_month = omega arith; last_month = omega arith; first_day = omega arith; last_day = omega arith }

first_number : day_number 1970 1 1 ≡ 0
unfolding day_number
first_number = omega arith

-- day 0 is the first of 1970
first_day : (pos (year_of 0) ≡ pos 1970) × (1 ≡ month_of 0) × (1 ≡ day_of_month 0)
first_day =
    let date = date_of-is 0 (omega arith) in
    let number = day_number-date_of 0 (omega arith) in
    let count = day_number-day_count (year_of 0) (month_of 0) (day_of_month 0) date in
    let first = day_number-day_count 1970 1 1 first_date in
    same_date (pos 1970) 1 1 (pos (year_of 0)) (month_of 0) (day_of_month 0) (IsCivilDate-is_date 1970 1 1 first_date)
    (IsCivilDate-is_date (year_of 0) (month_of 0) (day_of_month 0) date) (omega (arith, number, count, first, first_number))

number_of : (a b : ℕ) → pos a ≡ pos b → a ≡ b
number_of a b e = search (e, rules)

pub plain_moment : utc_text 0 ≡ codes "19700101-00:00:00.000"
unfolding utc_text
plain_moment =
    let year : year_of 0 ≡ 1970 = number_of (year_of 0) 1970 first_day.0 in
    let month : month_of 0 ≡ 1 = sym first_day.1 in
    let day : day_of_month 0 ≡ 1 = sym first_day.2 in
    rw (year, month, day) refl

lacks : (a : App) → is_flat (body.App a) ≡ true → lacks_optional (app_slots a) ≡ true
lacks (app.QuoteCancel m) read = refl
lacks (app.QuoteResponse m) read = refl
lacks (app.QuoteStatusReport m) read = refl
lacks (app.NewOrderSingle m) read = refl
lacks (app.OrderCancelRequest m) read = refl
lacks (app.OrderCancelReplaceRequest m) read = refl
lacks (app.ExecutionReport m) read = refl
lacks (app.OrderCancelReject m) read = refl
lacks (app.MarketDataRequestReject m) read = refl
lacks (app.BusinessMessageReject m) read = refl
lacks (app.QuoteRequest m) read = absurd (false_not_true read)
lacks (app.Quote m) read = absurd (false_not_true read)
lacks (app.QuoteRequestReject m) read = absurd (false_not_true read)
lacks (app.NewOrderCross m) read = absurd (false_not_true read)
lacks (app.MarketDataRequest m) read = absurd (false_not_true read)
lacks (app.MarketDataSnapshot m) read = absurd (false_not_true read)
lacks (app.Unsupported kind) read = refl

distinct : (a : App) → is_flat (body.App a) ≡ true → are_distinct (plain_slots ((35, Some (app_kind a)) ∷ app_slots a)) ≡ true
distinct (app.QuoteCancel m) read = refl
distinct (app.QuoteResponse m) read = refl
distinct (app.QuoteStatusReport m) read = refl
distinct (app.NewOrderSingle m) read = refl
distinct (app.OrderCancelRequest m) read = refl
distinct (app.OrderCancelReplaceRequest m) read = refl
distinct (app.ExecutionReport m) read = refl
distinct (app.OrderCancelReject m) read = refl
distinct (app.MarketDataRequestReject m) read = refl
distinct (app.BusinessMessageReject m) read = refl
distinct (app.QuoteRequest m) read = absurd (false_not_true read)
distinct (app.Quote m) read = absurd (false_not_true read)
distinct (app.QuoteRequestReject m) read = absurd (false_not_true read)
distinct (app.NewOrderCross m) read = absurd (false_not_true read)
distinct (app.MarketDataRequest m) read = absurd (false_not_true read)
distinct (app.MarketDataSnapshot m) read = absurd (false_not_true read)
distinct (app.Unsupported kind) read = refl

no_session : (a : App) → is_flat (body.App a) ≡ true → FitsBody (body.App a) → is_session (type_of (app_kind a)) ≡ false
no_session (app.QuoteCancel m) read fits = refl
no_session (app.QuoteResponse m) read fits = refl
no_session (app.QuoteStatusReport m) read fits = refl
no_session (app.NewOrderSingle m) read fits = refl
no_session (app.OrderCancelRequest m) read fits = refl
no_session (app.OrderCancelReplaceRequest m) read fits = refl
no_session (app.ExecutionReport m) read fits = refl
no_session (app.OrderCancelReject m) read fits = refl
no_session (app.MarketDataRequestReject m) read fits = refl
no_session (app.BusinessMessageReject m) read fits = refl
no_session (app.QuoteRequest m) read fits = absurd (false_not_true read)
no_session (app.Quote m) read fits = absurd (false_not_true read)
no_session (app.QuoteRequestReject m) read fits = absurd (false_not_true read)
no_session (app.NewOrderCross m) read fits = absurd (false_not_true read)
no_session (app.MarketDataRequest m) read fits = absurd (false_not_true read)
no_session (app.MarketDataSnapshot m) read fits = absurd (false_not_true read)
no_session (app.Unsupported kind) read fits = ap is_session fits.1

abbrev pub app_fields : App → List Entry
app_fields a = fields_of ((35, Some (app_kind a)) ∷ app_slots a)

pub header_slot : (tag : ℕ) (number moment : List ℕ) (kind : List ℕ) (own : List Slot) → number ≡ codes "1" → moment ≡ codes "19700101-00:00:00.000"
    → slot_of tag ((35, Some kind) ∷ plain_slots ((43, None) ∷ (97, None) ∷ (122, None) ∷ (1128, None) ∷ own))
    ≡ slot_of tag ((35, Some kind) ∷ (49, Some (codes "S")) ∷ (56, Some (codes "T")) ∷ (34, Some number) ∷ (52, Some moment) ∷ (43, None) ∷ (97, None) ∷ (122, None) ∷ (1128, None) ∷ own)
header_slot tag number moment kind own e k = rw (e, k) refl

shown : (a : App) → is_flat (body.App a) ≡ true → Shows (plain_header ++ app_fields a) (message_slots (the_message plain (body.App a)))
shown a read =
    let slots : List Slot = plain_slots ((35, Some (app_kind a)) ∷ app_slots a) in
    record {
      once = single_fields slots (distinct a read);
      values = λ tag. value_slot tag slots (distinct a read) ∙ moved tag (app_kind a) (app_slots a) (lacks a read) ∙ header_slot tag (decimal 1) (utc_text 0) (app_kind a) (app_slots a) plain_number plain_moment;
    }

no_fault : (b : Bool) (o : Option DictFault) → b ≡ false → o ≡ None → cond b (Some (Format 35)) o ≡ None
no_fault b o h k = rw (h, k) refl

pub app_spelled : (a : App) → is_flat (body.App a) ≡ true → FitsBody (body.App a) → SpellsApp a (app_fields a)
app_spelled a read fits =
    let spelled = shown_is_read plain (body.App a) plain_fits read fits (plain_header ++ app_fields a) (shown a read) in
    (no_fault (is_session (type_of (app_kind a))) _ (no_session a read fits) spelled.0, ap (λ (m : Message). m.body) spelled.1)

app_tags : (kind : MessageType) → have_tags (rows_of kind 0) ≡ true
app_tags types.Heartbeat = refl
app_tags types.TestRequest = refl
app_tags types.ResendRequest = refl
app_tags types.Reject = refl
app_tags types.SequenceReset = refl
app_tags types.Logout = refl
app_tags types.Logon = refl
app_tags types.QuoteCancel = refl
app_tags types.QuoteResponse = refl
app_tags types.QuoteStatusReport = refl
app_tags types.NewOrderSingle = refl
app_tags types.OrderCancelRequest = refl
app_tags types.OrderCancelReplaceRequest = refl
app_tags types.ExecutionReport = refl
app_tags types.OrderCancelReject = refl
app_tags types.MarketDataRequestReject = refl
app_tags types.BusinessMessageReject = refl
app_tags types.QuoteRequest = refl
app_tags types.Quote = refl
app_tags types.QuoteRequestReject = refl
app_tags types.NewOrderCross = refl
app_tags types.MarketDataRequest = refl
app_tags types.MarketDataSnapshot = refl
app_tags types.Unsupported = refl

pub app_fields_are : (a : App) → is_flat (body.App a) ≡ true → FitsBody (body.App a) → AreFields (app_fields a)
app_fields_are a read fits =
    fill_fields (needs 35 form_of_row.Kind ∷ rows_of (type_of (app_kind a)) 0) ((35, Some (app_kind a)) ∷ app_slots a)
    (refl, (form.kind (app_kind a) (text_of_kind (body.App a) read fits), fill_body (body.App a) read fits)) (app_tags (type_of (app_kind a)))

-- the type, then fields
pub with_kind : (kind : List ℕ) (own : List Slot) → IsText 64 kind → AreFields (fields_of own) → AreFields (fields_of ((35, Some kind) ∷ own))
with_kind kind own text are = ((fill_fields (needs 35 form_of_row.Kind ∷ []) ((35, Some kind) ∷ []) (refl, (form.kind kind text, tt)) refl).0, are)
