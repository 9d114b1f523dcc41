-- Requests for quotes, quotes and refusals of requests: a printed message is read as itself.
use Rattle.std.proofs.Common.{◌≡◌, ℕ, ◌≤◌, ◌<◌, true, false, List, [], ◌∷◌, ◌++◌, refl, sym, ap, subst, ◌∙◌, arith, ◌==◌, length, map, append_assoc, append-nil, decimal, Option, Some, None, ℤ}
use Rattle.std.specs.List.{AllByRecursion}
use Rattle.std.proofs.lemmas.Bool.Decides.{nat_tests}
use Rattle.sef_moment.specs.Utc.{utc_text, moment_of}
use Rattle.fix_fields.specs.Fields.{Entry, value_of, AreFields}
use Rattle.fix_fields.specs.Forms.{price_text}
use Rattle.fix_dictionary.specs.declared.values.Side.{Side}
use Rattle.fix_validation.specs.declared.table.Row.{Row}
use Rattle.fix_dictionary.specs.declared.kinds.MessageType.TheVariants as types
use Rattle.fix_validation.specs.declared.positions.FieldPosition.TheVariants.{InPart, Begins}
use Rattle.fix_validation.specs.declared.positions.State.{State}
use Rattle.fix_dictionary.specs.declared.messages.App.TheVariants as app
use Rattle.fix_dictionary.specs.declared.messages.Body.TheVariants as body
use Rattle.fix_dictionary.specs.declared.messages.Header.{Header}
use Rattle.fix_dictionary.specs.declared.messages.Party.{Party}
use Rattle.fix_dictionary.specs.declared.messages.QuoteRequest.{QuoteRequest}
use Rattle.fix_dictionary.specs.declared.messages.Quote.{Quote}
use Rattle.fix_dictionary.specs.declared.messages.QuoteRequestReject.{QuoteRequestReject}
use Rattle.fix_dictionary.specs.Values.{IsText, FitsParties}
use Rattle.fix_validation.specs.Table.{needs, takes, inside}
use Rattle.fix_validation.specs.declared.table.Form.TheVariants.{Integer, Identifier, Character, Price, Quantity, Utc, Printable}
use Rattle.fix_validation.specs.Tables.{header_rows, party_rows, asked_rows, quote_request_rows, quote_rows, quote_request_reject_rows}
use Rattle.fix_validation.specs.Stated.{stated, some_or, number_in, character_in, price_in, quantity_in, side_in}
use Rattle.fix_dictionary.specs.Fits.{FitsHeader, FitsParty, FitsQuoteRequest, FitsQuote, FitsQuoteRequestReject}
use Rattle.fix_dictionary.specs.Text.{Slot, fields_of, slots_text, header_slots, each_slots, given, side_text, party_slots, party_count, quote_request_slots, quote_slots, quote_rest_slots, quote_request_reject_slots}
use Rattle.fix_decoder.specs.Messages.{header, party, counted_parties, parties_in, quote_request, quote, quote_request_reject, fault_as_type, message_as}
use Rattle.fix_validation.specs.Positions.{LocatedFields, is_count, first_tag, located, start, part, begins, instances, sole, first_of, first_begin, first_or_none}
use Rattle.fix_validation.specs.GroupFaults.{miscounted, lacking, located_fault}
use Rattle.fix_validation.specs.GroupHolding.{members}
use Rattle.fix_validation.specs.Faults.{has_tag}
use Rattle.fix_decoder.proofs.FormLemmas as form
use Rattle.fix_decoder.proofs.HoldLemmas.{HasOwnForms}
use Rattle.fix_decoder.proofs.TableLemmas.{holds_both}
use Rattle.fix_decoder.proofs.LookLemmas.{Fill, Shows, slot_of, are_distinct, are_single, value_slot, single_fields, fill_both, fill_holds, fill_fields, fill_length, present}
use Rattle.fix_decoder.proofs.HeaderLaw.{the_message, fill_header, header_before}
use Rattle.fix_decoder.proofs.GroupHeads.{IsHead}
use Rattle.fix_decoder.proofs.PlaceLemmas.{map_all}
use Rattle.fix_decoder.proofs.GroupLaws.{GroupOf, slots_of, chunk, upto, upto_length, goes_on_in, with_placed, Opens, after, chunk_placed, members_placed, zero_placed, passed_counted, chunk_single, chunk_begins, chunk_counted, chunk_lacking, one_lacking, one_single, chunk_right, part_low, part_high, part_here, AreFree, other_begins, other_lacking, at_zero, zero_part, other_part, zero_begins, zero_lacking, zero_counted, are_plain, outside_part, all_single, faultless_placed, grouped_placed, split_zero, count_fine, none_twice, none_missing_in, outside_there, inside_there, headed_there, AreRight, right_append, fill_right, fields_append, fields_both, chunk_fields, chunk_length, slots_length, read_back}

-- Parties.

abbrev parties_group : ℕ → GroupOf Party
parties_group around = record { first = 448; around = around; value = λ m. m.id; more = λ m. (447, Some (m.source ∷ [])) ∷ (452, Some (decimal m.role)) ∷ [] }

fill_party : (around : ℕ) (m : Party) → FitsParty m → Fill party_rows (slots_of (parties_group around) m)
fill_party around m fits =
    (refl, (form.identifier 448 m.id fits.id, (refl, (form.character 447 m.source fits.source, (refl, (form.number 452 0 999_999_999 m.role fits.role refl, tt))))))

built_party : (m : Party) (a : List ℕ) (b c : ℕ) → a ≡ m.id → b ≡ m.source → c ≡ m.role → record { id = a; source = b; role = c } ≡ m
built_party m a b c e f g = rw (e, f, g) refl

party_back : (around : ℕ) (m : Party) → FitsParty m → party (fields_of (slots_of (parties_group around) m)) ≡ m
party_back around m fits = built_party m _ _ _ refl refl (form.number_back 0 999_999_999 0 m.role fits.role refl)

fill_count : (xs : List Party) → FitsParties (length xs) → form.Filled (takes 453 (Integer 1 64)) (party_count xs)
fill_count [] h = record { holds = refl; text = tt }
fill_count (x ∷ xs) h =
    let some = form.number 453 1 64 (length (x ∷ xs)) (omega arith, h) refl in
    record { holds = some.holds; text = some.text }

parties_right : (all : List Row) → HasOwnForms all party_rows → (around : ℕ) (xs : List Party) → AllByRecursion FitsParty xs → AreRight all (fields_of (each_slots (slots_of (parties_group around)) xs))
parties_right all own around xs fits =
    chunk_right (parties_group around) all xs
    (map_all FitsParty (λ x. AreRight all (fields_of (slots_of (parties_group around) x))) (λ x f. fill_right all party_rows (slots_of (parties_group around) x) own (fill_party around x f)) xs fits)

parties_fields : (xs : List Party) → AllByRecursion FitsParty xs → AreFields (fields_of (each_slots party_slots xs))
parties_fields xs fits =
    chunk_fields (parties_group 0) xs
    (map_all FitsParty (λ x. AreFields (fields_of (slots_of (parties_group 0) x))) (λ x f. fill_fields party_rows (slots_of (parties_group 0) x) (fill_party 0 x f) refl) xs fits)

parties_length : (xs : List Party) → AllByRecursion FitsParty xs → FitsParties (length xs) → length (slots_text (each_slots party_slots xs)) ≤ 7_000
parties_length xs fits h =
    let each = chunk_length (parties_group 0) 108 xs
    (map_all FitsParty (λ x. length (slots_text (slots_of (parties_group 0) x)) ≤ 108) (λ x f. fill_length party_rows (slots_of (parties_group 0) x) (fill_party 0 x f) refl) xs fits) in
    omega (arith, each, h)

parties_back : (k around : ℕ) (xs : List Party) (rest whole : List LocatedFields) → AllByRecursion FitsParty xs → AreFree k (length xs) rest → ((q : ℕ) → k < q → part q whole ≡ part q (chunk (parties_group around) k xs rest))
    → map party (map (λ (q : ℕ). part q whole) (upto k xs)) ≡ xs
parties_back k around xs rest whole fits free w =
    read_back (parties_group around) party k xs rest whole (map_all FitsParty (λ x. party (fields_of (slots_of (parties_group around) x)) ≡ x) (party_back around) xs fits) free w

counted_back : (xs list : List Party) → list ≡ xs → counted_parties (party_count xs) list ≡ xs
counted_back [] list e = refl
counted_back (x ∷ xs) list e = e

-- a skipped count, where there is one
count_passed : (rows : List Row) (all : List LocatedFields) (q : ℕ) (xs : List Party) (rest : List LocatedFields) → is_count 453 rows ≡ true → first_tag 453 rows ≡ 448
    → length (begins 448 q all) ≡ length xs → FitsParties (length xs) → miscounted rows all rest ≡ None → miscounted rows all (with_placed 453 (party_count xs) (InPart q) rest) ≡ None
count_passed rows all q [] rest c f number fits none = none
count_passed rows all q (x ∷ xs) rest c f number fits none =
    rw (c, f) (count_fine (length (x ∷ xs)) (length (begins 448 q all)) 453 (miscounted rows all rest) number (omega (arith, fits)) none)

no_parts : (k n : ℕ) → AreFree k n []
no_parts k n q a b = refl

-- Requests.

abbrev asked_group : GroupOf QuoteRequest
asked_group = record { first = 55; around = 0; value = λ m. m.symbol; more = λ m. (54, given side_text m.side) ∷ (38, Some (decimal m.quantity)) ∷ (453, party_count m.parties) ∷ [] }

abbrev asked_at : ℕ → Option ℕ → State
asked_at k i = record { begun = k; outer = Some (record { group = 146; around = 0; instance = Some 1 }); inner = Some (record { group = 453; around = 1; instance = i }) }

abbrev asked_open : State
asked_open = record { begun = 1; outer = Some (record { group = 146; around = 0; instance = Some 1 }); inner = None }

asked_opens : Opens Party (parties_group 1) header_rows quote_request_rows asked_at
asked_opens = record { begin = λ k i. refl; other = λ k x. (refl, (refl, tt)) }

abbrev asked_outs : QuoteRequest → List Slot
asked_outs m = (131, Some m.request_id) ∷ (146, Some (decimal 1)) ∷ []

abbrev asked_two : QuoteRequest → List Slot
asked_two m = (54, given side_text m.side) ∷ (38, Some (decimal m.quantity)) ∷ []

abbrev asked_rest : QuoteRequest → List LocatedFields
asked_rest m = chunk (parties_group 1) 1 m.parties []

abbrev asked_tail : QuoteRequest → List LocatedFields
asked_tail m = chunk asked_group 0 (m ∷ []) (asked_rest m)

abbrev asked_places : List Slot → QuoteRequest → List LocatedFields
asked_places hs m = at_zero (fields_of (hs ++ asked_outs m)) (asked_tail m)

asked_parties_placed : (xs : List Party) → located header_rows quote_request_rows asked_open (fields_of ((453, party_count xs) ∷ each_slots party_slots xs)) ≡ with_placed 453 (party_count xs) (InPart 1) (chunk (parties_group 1) 1 xs [])
asked_parties_placed [] = refl
asked_parties_placed (x ∷ xs) =
    let each : List Entry = fields_of (each_slots (slots_of (parties_group 1)) (x ∷ xs)) in
    ap (λ (l : List LocatedFields). ((453, decimal (length (x ∷ xs))), InPart 1) ∷ l)
    (ap (located header_rows quote_request_rows (asked_at 1 None)) (sym (append-nil each)) ∙ chunk_placed (parties_group 1) header_rows quote_request_rows asked_at asked_opens 1 None (x ∷ xs) [])

asked_inner : (m : QuoteRequest) → located header_rows quote_request_rows start (fields_of (quote_request_slots m)) ≡ at_zero (fields_of (asked_outs m)) (asked_tail m)
asked_inner m =
    let behind : List Slot = (453, party_count m.parties) ∷ each_slots party_slots m.parties in
    ap (λ (l : List LocatedFields). ((131, m.request_id), InPart 0) ∷ ((146, decimal 1), InPart 0) ∷ ((55, m.symbol), Begins 1 0) ∷ l)
    (ap (located header_rows quote_request_rows asked_open) (fields_append (asked_two m) behind)
    ∙ members_placed header_rows quote_request_rows asked_open 1 (asked_two m) (fields_of behind) (refl, (refl, tt))
    ∙ ap (goes_on_in 1 (asked_two m)) (asked_parties_placed m.parties))

fill_outs : (m : QuoteRequest) → FitsQuoteRequest m → Fill (members 0 quote_request_rows) (asked_outs m)
fill_outs m fits = (refl, (form.identifier 131 m.request_id fits.request_id, (refl, (form.number 146 1 1 1 (omega arith, omega arith) refl, tt))))

fill_asked : (m : QuoteRequest) → FitsQuoteRequest m → Fill asked_rows (slots_of asked_group m)
fill_asked m fits =
    (refl, (form.identifier 55 m.symbol fits.symbol, (refl, (form.side_given 54 m.side, (refl, (form.quantity 38 m.quantity fits.quantity, (refl, (fill_count m.parties fits.number, tt))))))))

abbrev asked_front : QuoteRequest → List Slot
asked_front m = asked_outs m ++ slots_of asked_group m

fill_front : (m : QuoteRequest) → FitsQuoteRequest m → Fill (members 0 quote_request_rows ++ asked_rows) (asked_front m)
fill_front m fits = fill_both (members 0 quote_request_rows) (asked_outs m) asked_rows (slots_of asked_group m) (fill_outs m fits) (fill_asked m fits)

asked_right : (m : QuoteRequest) → FitsQuoteRequest m → AreRight (header_rows ++ quote_request_rows) (fields_of (quote_request_slots m))
asked_right m fits =
    let all = header_rows ++ quote_request_rows in
    subst (AreRight all) (sym (fields_append (asked_front m) (each_slots party_slots m.parties)))
    (right_append all (fields_of (asked_front m)) (fields_of (each_slots party_slots m.parties))
    (fill_right all (members 0 quote_request_rows ++ asked_rows) (asked_front m) (refl, (refl, (refl, (refl, (refl, (refl, tt)))))) (fill_front m fits))
    (parties_right all (refl, (refl, (refl, tt))) 0 m.parties fits.parties))

asked_zero : (m : QuoteRequest) → part 0 (asked_tail m) ≡ []
asked_zero m = part_low asked_group 0 0 (m ∷ []) (asked_rest m) (omega arith) ∙ part_low (parties_group 1) 0 1 m.parties [] (omega arith)

asked_free : (m : QuoteRequest) → AreFree 0 1 (asked_rest m)
asked_free m q a b = part_low (parties_group 1) q 1 m.parties [] (omega (arith, b))

asked_one : (hs : List Slot) (m : QuoteRequest) → part 1 (asked_places hs m) ≡ fields_of (slots_of asked_group m)
asked_one hs m =
    other_part 1 (fields_of (hs ++ asked_outs m)) (asked_tail m) refl ∙ part_here asked_group 0 m [] (asked_rest m)
    ∙ ap (λ (l : List Entry). fields_of (slots_of asked_group m) ++ l) (asked_free m 1 (omega arith) (omega arith)) ∙ append-nil (fields_of (slots_of asked_group m))

asked_shows : (h : Header) (kind : List ℕ) (hs : List Slot) (m : QuoteRequest) → IsHead h kind hs → are_distinct (hs ++ asked_outs m) ≡ true
    → Shows (part 0 (asked_places hs m)) ((35, Some kind) ∷ (header_slots h ++ asked_outs m))
asked_shows h kind hs m head d =
    let outside : part 0 (asked_places hs m) ≡ fields_of (hs ++ asked_outs m) =
    outside_part (hs ++ asked_outs m) (asked_tail m) [] (asked_zero m) ∙ ap fields_of (append-nil (hs ++ asked_outs m)) in
    record {
      once = subst (λ (l : List Entry). are_single l ≡ true) (sym outside) (single_fields (hs ++ asked_outs m) d);
      values = λ tag. ap (value_of tag) outside ∙ value_slot tag (hs ++ asked_outs m) d ∙ head.same tag (asked_outs m) refl;
    }

asked_begins : (hs : List Slot) (m : QuoteRequest) → begins 55 0 (asked_places hs m) ≡ 1 ∷ []
asked_begins hs m =
    zero_begins 55 0 (fields_of (hs ++ asked_outs m)) (asked_tail m) ∙ chunk_begins asked_group 0 (m ∷ []) (asked_rest m)
    ∙ ap (λ (l : List ℕ). 1 ∷ l) (other_begins (parties_group 1) 55 0 1 m.parties [] refl)

asked_parties : (hs : List Slot) (m : QuoteRequest) → begins 448 1 (asked_places hs m) ≡ upto 1 m.parties
asked_parties hs m =
    zero_begins 448 1 (fields_of (hs ++ asked_outs m)) (asked_tail m) ∙ other_begins asked_group 448 1 0 (m ∷ []) (asked_rest m) refl
    ∙ chunk_begins (parties_group 1) 1 m.parties [] ∙ append-nil (upto 1 m.parties)

asked_counted : (hs : List Slot) (m : QuoteRequest) → FitsQuoteRequest m → are_plain quote_request_rows hs → miscounted quote_request_rows (asked_places hs m) (asked_places hs m) ≡ None
asked_counted hs m fits plain =
    let all = asked_places hs m in
    let rows = quote_request_rows in
    let one : length (begins 55 0 all) ≡ 1 = ap (λ (l : List ℕ). length l) (asked_begins hs m) in
    let number : length (begins 448 1 all) ≡ length m.parties = ap (λ (l : List ℕ). length l) (asked_parties hs m) ∙ upto_length 1 m.parties in
    let last : List LocatedFields = with_placed 453 (party_count m.parties) (InPart 1) (asked_rest m) in
    ap (miscounted rows all) (split_zero hs (asked_outs m) (asked_tail m))
    ∙ zero_counted rows all hs (at_zero (fields_of (asked_outs m)) (asked_tail m)) plain
    ∙ count_fine 1 (length (begins 55 0 all)) 146 (miscounted rows all (asked_tail m)) one (omega arith)
    (passed_counted rows all 1 (asked_two m) last (refl, (refl, tt))
    ∙ count_passed rows all 1 m.parties (asked_rest m) refl refl number fits.number (chunk_counted (parties_group 1) rows all 1 m.parties [] (λ x. (refl, (refl, (refl, tt))))))

asked_quantity : (m : QuoteRequest) → has_tag 38 (fields_of (slots_of asked_group m)) ≡ true
asked_quantity m = present 38 (decimal m.quantity) (fields_of (slots_of asked_group m)) (value_slot 38 (slots_of asked_group m) refl)

party_there : (hs : List Slot) (m : QuoteRequest) (tag : ℕ) → ((x : Party) → has_tag tag (fields_of (slots_of (parties_group 1) x)) ≡ true) → lacking 448 tag (asked_places hs m) ≡ false
party_there hs m tag d =
    zero_lacking 448 tag (fields_of (hs ++ asked_outs m)) (asked_tail m) ∙ other_lacking asked_group 448 tag 0 (m ∷ []) (asked_rest m) refl (chunk_lacking (parties_group 1) tag 1 m.parties [] d refl)

asked_there : (hs : List Slot) (m : QuoteRequest) (tag : ℕ) → has_tag tag (fields_of (slots_of asked_group m)) ≡ true → lacking 55 tag (asked_places hs m) ≡ false
asked_there hs m tag d =
    zero_lacking 55 tag (fields_of (hs ++ asked_outs m)) (asked_tail m)
    ∙ one_lacking asked_group tag 0 m (asked_rest m) d (other_lacking (parties_group 1) 55 tag 1 m.parties [] refl refl)

asked_clean : (h : Header) (kind : List ℕ) (hs : List Slot) (m : QuoteRequest) → FitsHeader h → IsText 64 kind → FitsQuoteRequest m → IsHead h kind hs → are_distinct (hs ++ asked_outs m) ≡ true
    → are_plain quote_request_rows hs → located_fault header_rows quote_request_rows (asked_places hs m) (fields_of (hs ++ quote_request_slots m)) ≡ None
asked_clean h kind hs m hfits text fits head d plain =
    let rows = quote_request_rows in
    let ps = asked_places hs m in
    let all_hold = fill_holds (header_rows ++ members 0 rows) ((35, Some kind) ∷ (header_slots h ++ asked_outs m)) (part 0 ps)
    (fill_both header_rows ((35, Some kind) ∷ header_slots h) (members 0 rows) (asked_outs m) (fill_header h kind hfits text) (fill_outs m fits)) refl (asked_shows h kind hs m head d) in
    let holds = holds_both header_rows (members 0 rows) (part 0 ps) all_hold in
    faultless_placed header_rows rows ps (fields_of (hs ++ quote_request_slots m))
    (none_twice ps (all_single (hs ++ asked_outs m) (asked_tail m) [] (asked_zero m) (subst (λ (l : List Slot). are_distinct l ≡ true) (sym (append-nil (hs ++ asked_outs m))) d)
    (λ q t. one_single asked_group 0 m (asked_rest m) refl (asked_free m) q (chunk_single (parties_group 1) 1 m.parties [] (λ x. refl) (no_parts 1 (length m.parties)) q refl))))
    (asked_counted hs m fits plain)
    (none_missing_in rows header_rows ps (headed_there rows ps header_rows (refl, (refl, (refl, (refl, (refl, (refl, (refl, (refl, (refl, tt))))))))) holds.0))
    (none_missing_in rows rows ps (
      outside_there rows ps (needs 131 Identifier) refl holds.1.0,
      (
        outside_there rows ps (needs 146 (Integer 1 1)) refl holds.1.1.0,
        (
          inside_there rows ps (inside 146 (needs 55 Identifier)) refl (asked_there hs m 55 refl),
          (
            refl,
            (
              inside_there rows ps (inside 146 (needs 38 Quantity)) refl (asked_there hs m 38 (asked_quantity m)),
              (
                refl,
                (
                  inside_there rows ps (inside 453 (needs 448 Identifier)) refl (party_there hs m 448 (λ x. refl)),
                  (
                    inside_there rows ps (inside 453 (needs 447 Character)) refl (party_there hs m 447 (λ x. refl)),
                    (inside_there rows ps (inside 453 (needs 452 (Integer 0 999_999_999))) refl (party_there hs m 452 (λ x. refl)), tt),
                  ),
                ),
              ),
            ),
          ),
        ),
      ),
    ))
    (subst (AreRight (header_rows ++ rows)) (sym (fields_append hs (quote_request_slots m))) (right_append (header_rows ++ rows) (fields_of hs) (fields_of (quote_request_slots m)) (head.right rows) (asked_right m fits)))

built_asked : (m : QuoteRequest) (a b : List ℕ) (c : Option Side) (d : ℕ) (e : List Party) → a ≡ m.request_id → b ≡ m.symbol → c ≡ m.side → d ≡ m.quantity → e ≡ m.parties
    → record { request_id = a; symbol = b; side = c; quantity = d; parties = e } ≡ m
built_asked m a b c d e f g h i j = rw (f, g, h, i, j) refl

asked_back : (h : Header) (kind : List ℕ) (hs : List Slot) (m : QuoteRequest) → FitsQuoteRequest m → IsHead h kind hs → are_distinct (hs ++ asked_outs m) ≡ true → quote_request (asked_places hs m) ≡ m
asked_back h kind hs m fits head d =
    let ps = asked_places hs m in
    let shows = asked_shows h kind hs m head d in
    let place : first_begin 55 ps ≡ 1 = ap first_or_none (asked_begins hs m) in
    let own : part (first_begin 55 ps) ps ≡ fields_of (slots_of asked_group m) = ap (λ (q : ℕ). part q ps) place ∙ asked_one hs m in
    let values = λ (tag : ℕ). ap (value_of tag) own ∙ value_slot tag (slots_of asked_group m) refl in
    let list : map party (instances 448 1 ps) ≡ m.parties =
    ap (λ (l : List ℕ). map party (map (λ (q : ℕ). part q ps) l)) (asked_parties hs m)
    ∙ parties_back 1 1 m.parties [] ps fits.parties (no_parts 1 (length m.parties))
    (λ q a. other_part q (fields_of (hs ++ asked_outs m)) (asked_tail m) (grind (arith, nat_tests, a)) ∙ part_high asked_group q 0 (m ∷ []) (asked_rest m) (omega (arith, a))) in
    built_asked m _ _ _ _ _
    (ap (some_or []) (shows.values 131))
    (ap (some_or []) (values 55))
    (ap (stated side_in) (values 54) ∙ form.side_given_back m.side)
    (ap (λ (o : Option (List ℕ)). quantity_in (some_or [] o)) (values 38) ∙ form.quantity_back m.quantity fits.quantity)
    (ap (λ (q : ℕ). parties_in q ps) place ∙ ap (λ (l : List Entry). counted_parties (value_of 453 l) (map party (instances 448 1 ps))) (asked_one hs m)
    ∙ ap (λ (o : Option (List ℕ)). counted_parties o (map party (instances 448 1 ps))) (value_slot 453 (slots_of asked_group m) refl)
    ∙ counted_back m.parties (map party (instances 448 1 ps)) list)

pub asked_law : (h : Header) (kind : List ℕ) (hs : List Slot) (m : QuoteRequest) → FitsHeader h → IsText 64 kind → FitsQuoteRequest m → IsHead h kind hs → are_distinct (hs ++ asked_outs m) ≡ true
    → are_plain quote_request_rows hs → let fields = fields_of (hs ++ quote_request_slots m) in
    (fault_as_type types.QuoteRequest fields ≡ None) × (the_message h (body.App (app.QuoteRequest m)) ≡ message_as types.QuoteRequest fields)
asked_law h kind hs m hfits text fits head d plain =
    let fields = fields_of (hs ++ quote_request_slots m) in
    let ps = asked_places hs m in
    let position : located header_rows quote_request_rows start fields ≡ ps = grouped_placed header_rows quote_request_rows hs (asked_outs m) (quote_request_slots m) (asked_tail m) head.tags (asked_inner m) in (
      ap (λ (l : List LocatedFields). located_fault header_rows quote_request_rows l fields) position ∙ asked_clean h kind hs m hfits text fits head d plain,
      sym (ap (λ (l : List LocatedFields). the_message (header (part 0 l)) (body.App (app.QuoteRequest (quote_request l)))) position
          ∙ ap (λ (x : Header). the_message x (body.App (app.QuoteRequest (quote_request ps)))) (sym (header_before h kind (asked_outs m) hfits (part 0 ps) (asked_shows h kind hs m head d)))
          ∙ ap (λ (x : QuoteRequest). the_message h (body.App (app.QuoteRequest x))) (asked_back h kind hs m fits head d)),
    )

pub asked_fields : (m : QuoteRequest) → FitsQuoteRequest m → AreFields (fields_of (quote_request_slots m))
asked_fields m fits =
    subst AreFields (sym (fields_append (asked_front m) (each_slots party_slots m.parties)))
    (fields_both (fields_of (asked_front m)) (fields_of (each_slots party_slots m.parties))
    (fill_fields (members 0 quote_request_rows ++ asked_rows) (asked_front m) (fill_front m fits) refl) (parties_fields m.parties fits.parties))

pub asked_length : (m : QuoteRequest) → FitsQuoteRequest m → length (slots_text (quote_request_slots m)) ≤ 60_000
asked_length m fits =
    omega (
      arith,
      slots_length (asked_front m) (each_slots party_slots m.parties),
      fill_length (members 0 quote_request_rows ++ asked_rows) (asked_front m) (fill_front m fits) refl,
      parties_length m.parties fits.parties fits.number,
    )

-- Quotes.

abbrev quote_at : ℕ → Option ℕ → State
quote_at k i = record { begun = k; outer = Some (record { group = 453; around = 0; instance = i }); inner = None }

quote_opens : Opens Party (parties_group 0) header_rows quote_rows quote_at
quote_opens = record { begin = λ k i. refl; other = λ k x. (refl, (refl, tt)) }

abbrev quote_outs : Quote → List Slot
quote_outs m = (117, Some m.quote_id) ∷ (131, Some m.request_id) ∷ (537, given (λ c. c ∷ []) m.quote_type) ∷ (453, party_count m.parties) ∷ []

abbrev quote_first : Quote → List Slot
quote_first m = (117, Some m.quote_id) ∷ (131, Some m.request_id) ∷ (537, given (λ c. c ∷ []) m.quote_type) ∷ []

abbrev quote_rest : Quote → List LocatedFields
quote_rest m = at_zero (fields_of (quote_rest_slots m)) []

abbrev quote_tail : Quote → List LocatedFields
quote_tail m = chunk (parties_group 0) 0 m.parties (quote_rest m)

abbrev quote_places : List Slot → Quote → List LocatedFields
quote_places hs m = at_zero (fields_of (hs ++ quote_outs m)) (quote_tail m)

abbrev quote_last : Quote → List Slot
quote_last m = (132, given price_text m.bid_price) ∷ (133, given price_text m.offer_price) ∷ (134, given decimal m.bid_size) ∷ (135, given decimal m.offer_size) ∷ (62, given utc_text m.valid_until) ∷ []

quote_rest_placed : (s : State) (m : Quote) → located header_rows quote_rows s (fields_of (quote_rest_slots m)) ≡ quote_rest m
quote_rest_placed s m =
    let closed : State = record { begun = s.begun; outer = None; inner = None } in
    ap (λ (l : List LocatedFields). ((55, m.symbol), InPart 0) ∷ l)
    (ap (located header_rows quote_rows closed) (sym (append-nil (fields_of (quote_last m)))) ∙ zero_placed header_rows quote_rows closed (quote_last m) [] (refl, (refl, (refl, (refl, (refl, tt))))))

quote_parties_placed : (m : Quote) (xs : List Party) → located header_rows quote_rows start (fields_of ((453, party_count xs) ∷ (each_slots party_slots xs ++ quote_rest_slots m)))
    ≡ at_zero (fields_of ((453, party_count xs) ∷ [])) (chunk (parties_group 0) 0 xs (quote_rest m))
quote_parties_placed m [] = quote_rest_placed start m
quote_parties_placed m (x ∷ xs) =
    let each : List Slot = each_slots (slots_of (parties_group 0)) (x ∷ xs) in
    ap (λ (l : List LocatedFields). ((453, decimal (length (x ∷ xs))), InPart 0) ∷ l)
    (ap (located header_rows quote_rows (quote_at 0 None)) (fields_append each (quote_rest_slots m))
    ∙ chunk_placed (parties_group 0) header_rows quote_rows quote_at quote_opens 0 None (x ∷ xs) (fields_of (quote_rest_slots m))
    ∙ ap (chunk (parties_group 0) 0 (x ∷ xs)) (quote_rest_placed (after quote_at 0 None (x ∷ xs)) m))

quote_inner : (m : Quote) → located header_rows quote_rows start (fields_of (quote_slots m)) ≡ at_zero (fields_of (quote_outs m)) (quote_tail m)
quote_inner m =
    let behind : List Slot = (453, party_count m.parties) ∷ (each_slots party_slots m.parties ++ quote_rest_slots m) in
    ap (located header_rows quote_rows start) (fields_append (quote_first m) behind)
    ∙ zero_placed header_rows quote_rows start (quote_first m) (fields_of behind) (refl, (refl, (refl, tt)))
    ∙ ap (at_zero (fields_of (quote_first m))) (quote_parties_placed m m.parties)
    ∙ sym (split_zero (quote_first m) ((453, party_count m.parties) ∷ []) (quote_tail m))

abbrev quote_head_rows : List Row
quote_head_rows = needs 117 Identifier ∷ needs 131 Identifier ∷ takes 537 Character ∷ takes 453 (Integer 1 64) ∷ []

abbrev quote_last_rows : List Row
quote_last_rows = needs 55 Identifier ∷ takes 132 Price ∷ takes 133 Price ∷ takes 134 Quantity ∷ takes 135 Quantity ∷ takes 62 Utc ∷ []

fill_quote_head : (m : Quote) → FitsQuote m → Fill quote_head_rows (quote_outs m)
fill_quote_head m fits =
    (refl, (form.identifier 117 m.quote_id fits.quote_id, (refl, (form.identifier 131 m.request_id fits.request_id, (refl, (form.character_given 537 m.quote_type fits.quote_type, (refl, (fill_count m.parties fits.number, tt))))))))

fill_quote_last : (m : Quote) → FitsQuote m → Fill quote_last_rows (quote_rest_slots m)
fill_quote_last m fits =
    (refl, (form.identifier 55 m.symbol fits.symbol, (refl, (form.price_given 132 m.bid_price fits.bid_price, (refl, (form.price_given 133 m.offer_price fits.offer_price, (refl, (form.quantity_given 134 m.bid_size fits.bid_size, (refl, (form.quantity_given 135 m.offer_size fits.offer_size, (refl, (form.moment_given 62 m.valid_until fits.valid_until, tt))))))))))))

fill_quote : (m : Quote) → FitsQuote m → Fill (members 0 quote_rows) (quote_outs m ++ quote_rest_slots m)
fill_quote m fits = fill_both quote_head_rows (quote_outs m) quote_last_rows (quote_rest_slots m) (fill_quote_head m fits) (fill_quote_last m fits)

quote_right : (m : Quote) → FitsQuote m → AreRight (header_rows ++ quote_rows) (fields_of (quote_slots m))
quote_right m fits =
    let all = header_rows ++ quote_rows in
    let each = each_slots party_slots m.parties in
    subst (AreRight all) (sym (fields_append (quote_outs m) (each ++ quote_rest_slots m)))
    (right_append all (fields_of (quote_outs m)) (fields_of (each ++ quote_rest_slots m))
    (fill_right all quote_head_rows (quote_outs m) (refl, (refl, (refl, (refl, tt)))) (fill_quote_head m fits))
    (subst (AreRight all) (sym (fields_append each (quote_rest_slots m)))
    (right_append all (fields_of each) (fields_of (quote_rest_slots m)) (parties_right all (refl, (refl, (refl, tt))) 0 m.parties fits.parties)
    (fill_right all quote_last_rows (quote_rest_slots m) (refl, (refl, (refl, (refl, (refl, (refl, tt)))))) (fill_quote_last m fits)))))

quote_none : (m : Quote) (q : ℕ) → (0 == q) ≡ false → part q (quote_rest m) ≡ []
quote_none m q t = other_part q (fields_of (quote_rest_slots m)) [] t

quote_free : (m : Quote) (n : ℕ) → AreFree 0 n (quote_rest m)
quote_free m n q a b = quote_none m q (grind (arith, nat_tests, a))

quote_zero : (m : Quote) → part 0 (quote_tail m) ≡ fields_of (quote_rest_slots m)
quote_zero m = part_low (parties_group 0) 0 0 m.parties (quote_rest m) (omega arith) ∙ zero_part (fields_of (quote_rest_slots m)) [] ∙ append-nil (fields_of (quote_rest_slots m))

quote_shows : (h : Header) (kind : List ℕ) (hs : List Slot) (m : Quote) → IsHead h kind hs → are_distinct ((hs ++ quote_outs m) ++ quote_rest_slots m) ≡ true
    → Shows (part 0 (quote_places hs m)) ((35, Some kind) ∷ (header_slots h ++ (quote_outs m ++ quote_rest_slots m)))
quote_shows h kind hs m head d =
    let outside : part 0 (quote_places hs m) ≡ fields_of ((hs ++ quote_outs m) ++ quote_rest_slots m) = outside_part (hs ++ quote_outs m) (quote_tail m) (quote_rest_slots m) (quote_zero m) in
    record {
      once = subst (λ (l : List Entry). are_single l ≡ true) (sym outside) (single_fields ((hs ++ quote_outs m) ++ quote_rest_slots m) d);
      values = λ tag. ap (value_of tag) outside ∙ value_slot tag ((hs ++ quote_outs m) ++ quote_rest_slots m) d ∙ ap (slot_of tag) (append_assoc hs (quote_outs m) (quote_rest_slots m)) ∙ head.same tag (quote_outs m ++ quote_rest_slots m) refl;
    }

quote_begins : (hs : List Slot) (m : Quote) → begins 448 0 (quote_places hs m) ≡ upto 0 m.parties
quote_begins hs m =
    zero_begins 448 0 (fields_of (hs ++ quote_outs m)) (quote_tail m) ∙ chunk_begins (parties_group 0) 0 m.parties (quote_rest m)
    ∙ ap (λ (l : List ℕ). upto 0 m.parties ++ l) (zero_begins 448 0 (fields_of (quote_rest_slots m)) []) ∙ append-nil (upto 0 m.parties)

count_at_zero : (xs : List Party) (rest : List LocatedFields) → at_zero (fields_of ((453, party_count xs) ∷ [])) rest ≡ with_placed 453 (party_count xs) (InPart 0) rest
count_at_zero [] rest = refl
count_at_zero (x ∷ xs) rest = refl

quote_counted : (hs : List Slot) (m : Quote) → FitsQuote m → are_plain quote_rows hs → miscounted quote_rows (quote_places hs m) (quote_places hs m) ≡ None
quote_counted hs m fits plain =
    let all = quote_places hs m in
    let number : length (begins 448 0 all) ≡ length m.parties = ap (λ (l : List ℕ). length l) (quote_begins hs m) ∙ upto_length 0 m.parties in
    let count : List Slot = (453, party_count m.parties) ∷ [] in
    ap (miscounted quote_rows all) (split_zero hs (quote_outs m) (quote_tail m))
    ∙ zero_counted quote_rows all hs (at_zero (fields_of (quote_outs m)) (quote_tail m)) plain
    ∙ ap (miscounted quote_rows all) (split_zero (quote_first m) count (quote_tail m))
    ∙ zero_counted quote_rows all (quote_first m) (at_zero (fields_of count) (quote_tail m)) (refl, (refl, (refl, tt)))
    ∙ ap (miscounted quote_rows all) (count_at_zero m.parties (quote_tail m))
    ∙ count_passed quote_rows all 0 m.parties (quote_tail m) refl refl number fits.number
    (chunk_counted (parties_group 0) quote_rows all 0 m.parties (quote_rest m) (λ x. (refl, (refl, (refl, tt))))
    ∙ zero_counted quote_rows all (quote_rest_slots m) [] (refl, (refl, (refl, (refl, (refl, (refl, tt)))))))

quoted_party_there : (hs : List Slot) (m : Quote) (tag : ℕ) → ((x : Party) → has_tag tag (fields_of (slots_of (parties_group 0) x)) ≡ true) → lacking 448 tag (quote_places hs m) ≡ false
quoted_party_there hs m tag d =
    zero_lacking 448 tag (fields_of (hs ++ quote_outs m)) (quote_tail m) ∙ chunk_lacking (parties_group 0) tag 0 m.parties (quote_rest m) d (zero_lacking 448 tag (fields_of (quote_rest_slots m)) [])

quote_clean : (h : Header) (kind : List ℕ) (hs : List Slot) (m : Quote) → FitsHeader h → IsText 64 kind → FitsQuote m → IsHead h kind hs → are_distinct ((hs ++ quote_outs m) ++ quote_rest_slots m) ≡ true
    → are_plain quote_rows hs → located_fault header_rows quote_rows (quote_places hs m) (fields_of (hs ++ quote_slots m)) ≡ None
quote_clean h kind hs m hfits text fits head d plain =
    let rows = quote_rows in
    let ps = quote_places hs m in
    let all_hold = fill_holds (header_rows ++ members 0 rows) ((35, Some kind) ∷ (header_slots h ++ (quote_outs m ++ quote_rest_slots m))) (part 0 ps)
    (fill_both header_rows ((35, Some kind) ∷ header_slots h) (members 0 rows) (quote_outs m ++ quote_rest_slots m) (fill_header h kind hfits text) (fill_quote m fits)) refl (quote_shows h kind hs m head d) in
    let holds = holds_both header_rows (members 0 rows) (part 0 ps) all_hold in
    faultless_placed header_rows rows ps (fields_of (hs ++ quote_slots m))
    (none_twice ps (all_single (hs ++ quote_outs m) (quote_tail m) (quote_rest_slots m) (quote_zero m) d
    (λ q t. chunk_single (parties_group 0) 0 m.parties (quote_rest m) (λ x. refl) (quote_free m (length m.parties)) q (subst (λ (l : List Entry). are_single l ≡ true) (sym (quote_none m q t)) refl))))
    (quote_counted hs m fits plain)
    (none_missing_in rows header_rows ps (headed_there rows ps header_rows (refl, (refl, (refl, (refl, (refl, (refl, (refl, (refl, (refl, tt))))))))) holds.0))
    (none_missing_in rows rows ps (
      outside_there rows ps (needs 117 Identifier) refl holds.1.0,
      (
        outside_there rows ps (needs 131 Identifier) refl holds.1.1.0,
        (
          refl,
          (
            refl,
            (
              inside_there rows ps (inside 453 (needs 448 Identifier)) refl (quoted_party_there hs m 448 (λ x. refl)),
              (
                inside_there rows ps (inside 453 (needs 447 Character)) refl (quoted_party_there hs m 447 (λ x. refl)),
                (
                  inside_there rows ps (inside 453 (needs 452 (Integer 0 999_999_999))) refl (quoted_party_there hs m 452 (λ x. refl)),
                  (outside_there rows ps (needs 55 Identifier) refl holds.1.1.1.1.1.0, (refl, (refl, (refl, (refl, (refl, tt)))))),
                ),
              ),
            ),
          ),
        ),
      ),
    ))
    (subst (AreRight (header_rows ++ rows)) (sym (fields_append hs (quote_slots m))) (right_append (header_rows ++ rows) (fields_of hs) (fields_of (quote_slots m)) (head.right rows) (quote_right m fits)))

built_quote : (m : Quote) (a b : List ℕ) (c : Option ℕ) (d : List Party) (e : List ℕ) (f g : Option ℤ) (i j k : Option ℕ)
    → a ≡ m.quote_id → b ≡ m.request_id → c ≡ m.quote_type → d ≡ m.parties → e ≡ m.symbol → f ≡ m.bid_price → g ≡ m.offer_price → i ≡ m.bid_size → j ≡ m.offer_size → k ≡ m.valid_until
    → record { quote_id = a; request_id = b; quote_type = c; parties = d; symbol = e; bid_price = f; offer_price = g; bid_size = i; offer_size = j; valid_until = k } ≡ m
built_quote m a b c d e f g i j k p q r s t u v w x y = rw (p, q, r, s, t, u, v, w, x, y) refl

quote_back : (h : Header) (kind : List ℕ) (hs : List Slot) (m : Quote) → FitsQuote m → IsHead h kind hs → are_distinct ((hs ++ quote_outs m) ++ quote_rest_slots m) ≡ true → quote (quote_places hs m) ≡ m
quote_back h kind hs m fits head d =
    let ps = quote_places hs m in
    let shows = quote_shows h kind hs m head d in
    let list : map party (instances 448 0 ps) ≡ m.parties =
    ap (λ (l : List ℕ). map party (map (λ (q : ℕ). part q ps) l)) (quote_begins hs m)
    ∙ parties_back 0 0 m.parties (quote_rest m) ps fits.parties (quote_free m (length m.parties))
    (λ q a. other_part q (fields_of (hs ++ quote_outs m)) (quote_tail m) (grind (arith, nat_tests, a))) in
    built_quote m _ _ _ _ _ _ _ _ _ _
    (ap (some_or []) (shows.values 117))
    (ap (some_or []) (shows.values 131))
    (ap (stated character_in) (shows.values 537) ∙ form.character_given_back m.quote_type)
    (ap (λ (o : Option (List ℕ)). counted_parties o (map party (instances 448 0 ps))) (shows.values 453) ∙ counted_back m.parties (map party (instances 448 0 ps)) list)
    (ap (some_or []) (shows.values 55))
    (ap (stated price_in) (shows.values 132) ∙ form.price_given_back m.bid_price fits.bid_price)
    (ap (stated price_in) (shows.values 133) ∙ form.price_given_back m.offer_price fits.offer_price)
    (ap (stated quantity_in) (shows.values 134) ∙ form.quantity_given_back m.bid_size fits.bid_size)
    (ap (stated quantity_in) (shows.values 135) ∙ form.quantity_given_back m.offer_size fits.offer_size)
    (ap (stated moment_of) (shows.values 62) ∙ form.moment_given_back m.valid_until fits.valid_until)

pub quote_law : (h : Header) (kind : List ℕ) (hs : List Slot) (m : Quote) → FitsHeader h → IsText 64 kind → FitsQuote m → IsHead h kind hs → are_distinct ((hs ++ quote_outs m) ++ quote_rest_slots m) ≡ true
    → are_plain quote_rows hs → let fields = fields_of (hs ++ quote_slots m) in
    (fault_as_type types.Quote fields ≡ None) × (the_message h (body.App (app.Quote m)) ≡ message_as types.Quote fields)
quote_law h kind hs m hfits text fits head d plain =
    let fields = fields_of (hs ++ quote_slots m) in
    let ps = quote_places hs m in
    let position : located header_rows quote_rows start fields ≡ ps = grouped_placed header_rows quote_rows hs (quote_outs m) (quote_slots m) (quote_tail m) head.tags (quote_inner m) in (
      ap (λ (l : List LocatedFields). located_fault header_rows quote_rows l fields) position ∙ quote_clean h kind hs m hfits text fits head d plain,
      sym (ap (λ (l : List LocatedFields). the_message (header (part 0 l)) (body.App (app.Quote (quote l)))) position
          ∙ ap (λ (x : Header). the_message x (body.App (app.Quote (quote ps)))) (sym (header_before h kind (quote_outs m ++ quote_rest_slots m) hfits (part 0 ps) (quote_shows h kind hs m head d)))
          ∙ ap (λ (x : Quote). the_message h (body.App (app.Quote x))) (quote_back h kind hs m fits head d)),
    )

pub quote_fields : (m : Quote) → FitsQuote m → AreFields (fields_of (quote_slots m))
quote_fields m fits =
    let each = each_slots party_slots m.parties in
    subst AreFields (sym (fields_append (quote_outs m) (each ++ quote_rest_slots m)))
    (fields_both (fields_of (quote_outs m)) (fields_of (each ++ quote_rest_slots m))
    (fill_fields quote_head_rows (quote_outs m) (fill_quote_head m fits) refl)
    (subst AreFields (sym (fields_append each (quote_rest_slots m)))
    (fields_both (fields_of each) (fields_of (quote_rest_slots m)) (parties_fields m.parties fits.parties)
    (fill_fields quote_last_rows (quote_rest_slots m) (fill_quote_last m fits) refl))))

pub quote_length : (m : Quote) → FitsQuote m → length (slots_text (quote_slots m)) ≤ 60_000
quote_length m fits =
    let each = each_slots party_slots m.parties in
    omega (
      arith,
      slots_length (quote_outs m) (each ++ quote_rest_slots m),
      slots_length each (quote_rest_slots m),
      fill_length quote_head_rows (quote_outs m) (fill_quote_head m fits) refl,
      fill_length quote_last_rows (quote_rest_slots m) (fill_quote_last m fits) refl,
      parties_length m.parties fits.parties fits.number,
    )

-- Refusals of requests.

abbrev symbol_group : GroupOf (List ℕ)
symbol_group = record { first = 55; around = 0; value = λ s. s; more = λ s. [] }

abbrev reject_outs : QuoteRequestReject → List Slot
reject_outs m = (131, Some m.request_id) ∷ (658, Some (decimal m.reject_reason)) ∷ (146, Some (decimal 1)) ∷ []

abbrev reject_post : QuoteRequestReject → List Slot
reject_post m = (58, m.text) ∷ []

abbrev reject_rest : QuoteRequestReject → List LocatedFields
reject_rest m = at_zero (fields_of (reject_post m)) []

abbrev reject_tail : QuoteRequestReject → List LocatedFields
reject_tail m = chunk symbol_group 0 (m.symbol ∷ []) (reject_rest m)

abbrev reject_places : List Slot → QuoteRequestReject → List LocatedFields
reject_places hs m = at_zero (fields_of (hs ++ reject_outs m)) (reject_tail m)

reject_last : (s : State) (o : Option (List ℕ)) → located header_rows quote_request_reject_rows s (fields_of ((58, o) ∷ [])) ≡ at_zero (fields_of ((58, o) ∷ [])) []
reject_last s None = refl
reject_last s (Some bytes) = refl

reject_inner : (m : QuoteRequestReject) → located header_rows quote_request_reject_rows start (fields_of (quote_request_reject_slots m)) ≡ at_zero (fields_of (reject_outs m)) (reject_tail m)
reject_inner m =
    ap (λ (l : List LocatedFields). ((131, m.request_id), InPart 0) ∷ ((658, decimal m.reject_reason), InPart 0) ∷ ((146, decimal 1), InPart 0) ∷ ((55, m.symbol), Begins 1 0) ∷ l)
    (reject_last (record { begun = 1; outer = Some (record { group = 146; around = 0; instance = Some 1 }); inner = None }) m.text)

abbrev reject_plain_rows : List Row
reject_plain_rows = needs 131 Identifier ∷ needs 658 (Integer 0 999_999_999) ∷ needs 146 (Integer 1 1) ∷ needs 55 Identifier ∷ takes 58 Printable ∷ []

fill_reject_all : (m : QuoteRequestReject) → FitsQuoteRequestReject m → Fill reject_plain_rows (quote_request_reject_slots m)
fill_reject_all m fits =
    (refl, (form.identifier 131 m.request_id fits.request_id, (refl, (form.number 658 0 999_999_999 m.reject_reason fits.reject_reason refl, (refl, (form.number 146 1 1 1 (omega arith, omega arith) refl, (refl, (form.identifier 55 m.symbol fits.symbol, (refl, (form.text_given 58 m.text fits.text, tt))))))))))

fill_reject : (m : QuoteRequestReject) → FitsQuoteRequestReject m → Fill (members 0 quote_request_reject_rows) (reject_outs m ++ reject_post m)
fill_reject m fits =
    (refl, (form.identifier 131 m.request_id fits.request_id, (refl, (form.number 658 0 999_999_999 m.reject_reason fits.reject_reason refl, (refl, (form.number 146 1 1 1 (omega arith, omega arith) refl, (refl, (form.text_given 58 m.text fits.text, tt))))))))

reject_none : (m : QuoteRequestReject) (q : ℕ) → (0 == q) ≡ false → part q (reject_rest m) ≡ []
reject_none m q t = other_part q (fields_of (reject_post m)) [] t

reject_free : (m : QuoteRequestReject) → AreFree 0 1 (reject_rest m)
reject_free m q a b = reject_none m q (grind (arith, nat_tests, a))

reject_zero : (m : QuoteRequestReject) → part 0 (reject_tail m) ≡ fields_of (reject_post m)
reject_zero m = part_low symbol_group 0 0 (m.symbol ∷ []) (reject_rest m) (omega arith) ∙ zero_part (fields_of (reject_post m)) [] ∙ append-nil (fields_of (reject_post m))

reject_shows : (h : Header) (kind : List ℕ) (hs : List Slot) (m : QuoteRequestReject) → IsHead h kind hs → are_distinct ((hs ++ reject_outs m) ++ reject_post m) ≡ true
    → Shows (part 0 (reject_places hs m)) ((35, Some kind) ∷ (header_slots h ++ (reject_outs m ++ reject_post m)))
reject_shows h kind hs m head d =
    let outside : part 0 (reject_places hs m) ≡ fields_of ((hs ++ reject_outs m) ++ reject_post m) = outside_part (hs ++ reject_outs m) (reject_tail m) (reject_post m) (reject_zero m) in
    record {
      once = subst (λ (l : List Entry). are_single l ≡ true) (sym outside) (single_fields ((hs ++ reject_outs m) ++ reject_post m) d);
      values = λ tag. ap (value_of tag) outside ∙ value_slot tag ((hs ++ reject_outs m) ++ reject_post m) d ∙ ap (slot_of tag) (append_assoc hs (reject_outs m) (reject_post m)) ∙ head.same tag (reject_outs m ++ reject_post m) refl;
    }

reject_begins : (hs : List Slot) (m : QuoteRequestReject) → begins 55 0 (reject_places hs m) ≡ 1 ∷ []
reject_begins hs m =
    zero_begins 55 0 (fields_of (hs ++ reject_outs m)) (reject_tail m) ∙ chunk_begins symbol_group 0 (m.symbol ∷ []) (reject_rest m)
    ∙ ap (λ (l : List ℕ). 1 ∷ l) (zero_begins 55 0 (fields_of (reject_post m)) [])

reject_counted : (hs : List Slot) (m : QuoteRequestReject) → are_plain quote_request_reject_rows hs → miscounted quote_request_reject_rows (reject_places hs m) (reject_places hs m) ≡ None
reject_counted hs m plain =
    let all = reject_places hs m in
    let rows = quote_request_reject_rows in
    let one : length (begins 55 0 all) ≡ 1 = ap (λ (l : List ℕ). length l) (reject_begins hs m) in
    ap (miscounted rows all) (split_zero hs (reject_outs m) (reject_tail m))
    ∙ zero_counted rows all hs (at_zero (fields_of (reject_outs m)) (reject_tail m)) plain
    ∙ count_fine 1 (length (begins 55 0 all)) 146 (miscounted rows all (reject_tail m)) one (omega arith) (zero_counted rows all (reject_post m) [] (refl, tt))

reject_clean : (h : Header) (kind : List ℕ) (hs : List Slot) (m : QuoteRequestReject) → FitsHeader h → IsText 64 kind → FitsQuoteRequestReject m → IsHead h kind hs → are_distinct ((hs ++ reject_outs m) ++ reject_post m) ≡ true
    → are_plain quote_request_reject_rows hs → located_fault header_rows quote_request_reject_rows (reject_places hs m) (fields_of (hs ++ quote_request_reject_slots m)) ≡ None
reject_clean h kind hs m hfits text fits head d plain =
    let rows = quote_request_reject_rows in
    let ps = reject_places hs m in
    let all = header_rows ++ rows in
    let all_hold = fill_holds (header_rows ++ members 0 rows) ((35, Some kind) ∷ (header_slots h ++ (reject_outs m ++ reject_post m))) (part 0 ps)
    (fill_both header_rows ((35, Some kind) ∷ header_slots h) (members 0 rows) (reject_outs m ++ reject_post m) (fill_header h kind hfits text) (fill_reject m fits)) refl (reject_shows h kind hs m head d) in
    let holds = holds_both header_rows (members 0 rows) (part 0 ps) all_hold in
    let there : lacking 55 55 ps ≡ false =
    zero_lacking 55 55 (fields_of (hs ++ reject_outs m)) (reject_tail m) ∙ one_lacking symbol_group 55 0 m.symbol (reject_rest m) refl (zero_lacking 55 55 (fields_of (reject_post m)) []) in
    faultless_placed header_rows rows ps (fields_of (hs ++ quote_request_reject_slots m))
    (none_twice ps (all_single (hs ++ reject_outs m) (reject_tail m) (reject_post m) (reject_zero m) d
    (λ q t. one_single symbol_group 0 m.symbol (reject_rest m) refl (reject_free m) q (subst (λ (l : List Entry). are_single l ≡ true) (sym (reject_none m q t)) refl))))
    (reject_counted hs m plain)
    (none_missing_in rows header_rows ps (headed_there rows ps header_rows (refl, (refl, (refl, (refl, (refl, (refl, (refl, (refl, (refl, tt))))))))) holds.0))
    (none_missing_in rows rows ps (
      outside_there rows ps (needs 131 Identifier) refl holds.1.0,
      (
        outside_there rows ps (needs 658 (Integer 0 999_999_999)) refl holds.1.1.0,
        (
          outside_there rows ps (needs 146 (Integer 1 1)) refl holds.1.1.1.0,
          (inside_there rows ps (inside 146 (needs 55 Identifier)) refl there, (refl, tt)),
        ),
      ),
    ))
    (subst (AreRight all) (sym (fields_append hs (quote_request_reject_slots m))) (right_append all (fields_of hs) (fields_of (quote_request_reject_slots m)) (head.right rows)
    (fill_right all reject_plain_rows (quote_request_reject_slots m) (refl, (refl, (refl, (refl, (refl, tt))))) (fill_reject_all m fits))))

built_reject : (m : QuoteRequestReject) (a : List ℕ) (b : ℕ) (c : List ℕ) (d : Option (List ℕ)) → a ≡ m.request_id → b ≡ m.reject_reason → c ≡ m.symbol → d ≡ m.text
    → record { request_id = a; reject_reason = b; symbol = c; text = d } ≡ m
built_reject m a b c d e f g h = rw (e, f, g, h) refl

reject_back : (h : Header) (kind : List ℕ) (hs : List Slot) (m : QuoteRequestReject) → FitsQuoteRequestReject m → IsHead h kind hs → are_distinct ((hs ++ reject_outs m) ++ reject_post m) ≡ true → quote_request_reject (reject_places hs m) ≡ m
reject_back h kind hs m fits head d =
    let ps = reject_places hs m in
    let shows = reject_shows h kind hs m head d in
    let own : sole 55 ps ≡ (55, m.symbol) ∷ [] =
    ap (λ (l : List ℕ). first_of (map (λ (q : ℕ). part q ps) l)) (reject_begins hs m)
    ∙ other_part 1 (fields_of (hs ++ reject_outs m)) (reject_tail m) refl ∙ part_here symbol_group 0 m.symbol [] (reject_rest m)
    ∙ ap (λ (l : List Entry). (55, m.symbol) ∷ l) (reject_none m 1 refl) in
    built_reject m _ _ _ _
    (ap (some_or []) (shows.values 131))
    (ap (λ (o : Option (List ℕ)). number_in (some_or [] o)) (shows.values 658) ∙ form.number_back 0 999_999_999 0 m.reject_reason fits.reject_reason refl)
    (ap (λ (l : List Entry). some_or [] (value_of 55 l)) own)
    (shows.values 58)

pub reject_law : (h : Header) (kind : List ℕ) (hs : List Slot) (m : QuoteRequestReject) → FitsHeader h → IsText 64 kind → FitsQuoteRequestReject m → IsHead h kind hs → are_distinct ((hs ++ reject_outs m) ++ reject_post m) ≡ true
    → are_plain quote_request_reject_rows hs → let fields = fields_of (hs ++ quote_request_reject_slots m) in
    (fault_as_type types.QuoteRequestReject fields ≡ None) × (the_message h (body.App (app.QuoteRequestReject m)) ≡ message_as types.QuoteRequestReject fields)
reject_law h kind hs m hfits text fits head d plain =
    let fields = fields_of (hs ++ quote_request_reject_slots m) in
    let ps = reject_places hs m in
    let position : located header_rows quote_request_reject_rows start fields ≡ ps = grouped_placed header_rows quote_request_reject_rows hs (reject_outs m) (quote_request_reject_slots m) (reject_tail m) head.tags (reject_inner m) in (
      ap (λ (l : List LocatedFields). located_fault header_rows quote_request_reject_rows l fields) position ∙ reject_clean h kind hs m hfits text fits head d plain,
      sym (ap (λ (l : List LocatedFields). the_message (header (part 0 l)) (body.App (app.QuoteRequestReject (quote_request_reject l)))) position
          ∙ ap (λ (x : Header). the_message x (body.App (app.QuoteRequestReject (quote_request_reject ps)))) (sym (header_before h kind (reject_outs m ++ reject_post m) hfits (part 0 ps) (reject_shows h kind hs m head d)))
          ∙ ap (λ (x : QuoteRequestReject). the_message h (body.App (app.QuoteRequestReject x))) (reject_back h kind hs m fits head d)),
    )

pub reject_fields : (m : QuoteRequestReject) → FitsQuoteRequestReject m → AreFields (fields_of (quote_request_reject_slots m))
reject_fields m fits = fill_fields reject_plain_rows (quote_request_reject_slots m) (fill_reject_all m fits) refl

pub reject_length : (m : QuoteRequestReject) → FitsQuoteRequestReject m → length (slots_text (quote_request_reject_slots m)) ≤ 60_000
reject_length m fits = omega (arith, fill_length reject_plain_rows (quote_request_reject_slots m) (fill_reject_all m fits) refl)
