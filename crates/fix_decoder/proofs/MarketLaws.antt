-- Market data: a printed message is read as itself.
use Rattle.std.proofs.Common.{◌≡◌, ℕ, ◌+◌, ◌≤◌, true, false, Bool, List, [], ◌∷◌, ◌++◌, refl, sym, ap, subst, ◌∙◌, arith, cond, ◌==◌, length, map, append_assoc, append-nil, decimal, Option, Some, None, ℤ}
use Rattle.std.proofs.lemmas.Bool.Decides.{nat_tests}
use Rattle.fix_fields.specs.Fields.{Entry, value_of, AreFields}
use Rattle.fix_fields.specs.Forms.{price_text}
use Rattle.fix_validation.specs.declared.table.Row.{Row}
use Rattle.fix_dictionary.specs.declared.kinds.MessageType.TheVariants as types
use Rattle.fix_validation.specs.declared.positions.FieldPosition.TheVariants.{InPart, Begins}
use Rattle.fix_validation.specs.declared.positions.State.{State}
use Rattle.fix_dictionary.specs.declared.messages.App.TheVariants as app
use Rattle.fix_dictionary.specs.declared.messages.Body.TheVariants as body
use Rattle.fix_dictionary.specs.declared.messages.Header.{Header}
use Rattle.fix_dictionary.specs.declared.messages.MarketDataEntry.{MarketDataEntry}
use Rattle.fix_dictionary.specs.declared.messages.MarketDataSnapshot.{MarketDataSnapshot}
use Rattle.fix_dictionary.specs.declared.messages.MarketDataRequest.{MarketDataRequest}
use Rattle.fix_dictionary.specs.Values.{IsText}
use Rattle.fix_validation.specs.Table.{needs, inside}
use Rattle.fix_validation.specs.declared.table.Form.TheVariants.{Integer, Identifier, Character}
use Rattle.fix_validation.specs.Tables.{header_rows, entry_type_rows, market_data_entry_rows, market_data_request_rows, market_data_snapshot_rows}
use Rattle.fix_validation.specs.Stated.{stated, some_or, number_in, character_in, price_in, amount_in}
use Rattle.fix_dictionary.specs.Fits.{FitsHeader, FitsMarketDataEntry, FitsMarketDataRequest, FitsMarketDataSnapshot, IsGraphic}
use Rattle.fix_dictionary.specs.Text.{Slot, fields_of, slots_text, header_slots, each_slots, market_data_request_slots, market_data_snapshot_slots, given}
use Rattle.fix_decoder.specs.Messages.{header, market_data_entry, market_data_request, market_data_snapshot, entry_type, fault_as_type, message_as}
use Rattle.fix_validation.specs.Positions.{LocatedFields, located, start, part, begins, sole, first_of}
use Rattle.fix_validation.specs.GroupFaults.{miscounted, lacking, located_fault}
use Rattle.fix_validation.specs.GroupHolding.{members}
use Rattle.fix_validation.specs.Holding.{Holds}
use Rattle.fix_decoder.proofs.FormLemmas as form
use Rattle.fix_decoder.proofs.HoldLemmas.{HasOwnForms}
use Rattle.fix_decoder.proofs.TableLemmas.{own_forms, own_part, holds_both}
use Rattle.fix_decoder.proofs.LookLemmas.{Fill, Shows, slot_of, are_distinct, are_single, value_slot, single_fields, fill_both, fill_holds, fill_fields, fill_length}
use Rattle.fix_decoder.proofs.HeaderLaw.{the_message, fill_header, header_before}
use Rattle.fix_decoder.proofs.GroupHeads.{IsHead}
use Rattle.fix_decoder.proofs.PlaceLemmas.{map_all}
use Rattle.fix_decoder.proofs.GroupLaws.{GroupOf, slots_of, chunk, upto, upto_length, Opens, after, chunk_placed, chunk_single, chunk_begins, chunk_counted, chunk_lacking, chunk_right, part_low, part_high, AreFree, other_begins, other_lacking, at_zero, other_part, zero_begins, zero_lacking, zero_counted, are_plain, outside_part, all_single, faultless_placed, grouped_placed, split_zero, count_fine, none_twice, none_missing_in, outside_there, inside_there, headed_there, AreRight, right_append, fill_right, fields_append, fields_both, chunk_fields, chunk_length, slots_length, read_back}

-- Snapshots.

abbrev entries_group : GroupOf MarketDataEntry
entries_group = record { first = 269; around = 0; value = λ m. m.entry_type ∷ []; more = λ m. (270, given price_text m.price) ∷ (271, given decimal m.size) ∷ (278, m.order_id) ∷ [] }

abbrev snapshot_at : ℕ → Option ℕ → State
snapshot_at k i = record { begun = k; outer = Some (record { group = 268; around = 0; instance = i }); inner = None }

snapshot_opens : Opens MarketDataEntry entries_group header_rows market_data_snapshot_rows snapshot_at
snapshot_opens = record { begin = λ k i. refl; other = λ k x. (refl, (refl, (refl, tt))) }

abbrev snapshot_outs : MarketDataSnapshot → List Slot
snapshot_outs m = (262, Some m.request_id) ∷ (55, Some m.symbol) ∷ (268, Some (decimal (length m.entries))) ∷ []

abbrev snapshot_tail : MarketDataSnapshot → List LocatedFields
snapshot_tail m = chunk entries_group 0 m.entries []

snapshot_inner : (m : MarketDataSnapshot) → located header_rows market_data_snapshot_rows start (fields_of (market_data_snapshot_slots m)) ≡ at_zero (fields_of (snapshot_outs m)) (snapshot_tail m)
snapshot_inner m =
    let own : List Entry = fields_of (each_slots (slots_of entries_group) m.entries) in
    ap (λ (l : List LocatedFields). ((262, m.request_id), InPart 0) ∷ ((55, m.symbol), InPart 0) ∷ ((268, decimal (length m.entries)), InPart 0) ∷ l)
    (ap (located header_rows market_data_snapshot_rows (snapshot_at 0 None)) (sym (append-nil own))
    ∙ chunk_placed entries_group header_rows market_data_snapshot_rows snapshot_at snapshot_opens 0 None m.entries [])

abbrev snapshot_places : List Slot → MarketDataSnapshot → List LocatedFields
snapshot_places hs m = at_zero (fields_of (hs ++ snapshot_outs m)) (snapshot_tail m)

fill_entry : (m : MarketDataEntry) → FitsMarketDataEntry m → Fill market_data_entry_rows (slots_of entries_group m)
fill_entry m fits =
    (refl, (form.character 269 m.entry_type fits.entry_type, (refl, (form.price_given 270 m.price fits.price, (refl, (form.amount_given 271 m.size fits.size, (refl, (form.identifier_given 278 m.order_id fits.order_id, tt))))))))

fill_snapshot : (m : MarketDataSnapshot) → FitsMarketDataSnapshot m → Fill (members 0 market_data_snapshot_rows) (snapshot_outs m)
fill_snapshot m fits =
    (refl, (form.identifier 262 m.request_id fits.request_id, (refl, (form.identifier 55 m.symbol fits.symbol, (refl, (form.number 268 1 400 (length m.entries) fits.number refl, tt))))))

built_entry : (m : MarketDataEntry) (a : ℕ) (b : Option ℤ) (c : Option ℕ) (d : Option (List ℕ)) → a ≡ m.entry_type → b ≡ m.price → c ≡ m.size → d ≡ m.order_id → record { entry_type = a; price = b; size = c; order_id = d } ≡ m
built_entry m a b c d e f g h = rw (e, f, g, h) refl

entry_back : (m : MarketDataEntry) → FitsMarketDataEntry m → market_data_entry (fields_of (slots_of entries_group m)) ≡ m
entry_back m fits =
    let values = λ (tag : ℕ). value_slot tag (slots_of entries_group m) refl in
    built_entry m _ _ _ _
    (ap (λ (o : Option (List ℕ)). character_in (some_or [] o)) (values 269))
    (ap (stated price_in) (values 270) ∙ form.price_given_back m.price fits.price)
    (ap (stated amount_in) (values 271) ∙ form.amount_given_back m.size fits.size)
    (values 278)

snapshot_forms : HasOwnForms (header_rows ++ market_data_snapshot_rows) market_data_snapshot_rows
snapshot_forms = own_part (header_rows ++ market_data_snapshot_rows) header_rows market_data_snapshot_rows (own_forms types.MarketDataSnapshot 0)

snapshot_right : (m : MarketDataSnapshot) → FitsMarketDataSnapshot m → AreRight (header_rows ++ market_data_snapshot_rows) (fields_of (market_data_snapshot_slots m))
snapshot_right m fits =
    let all = header_rows ++ market_data_snapshot_rows in
    subst (AreRight all) (sym (fields_append (snapshot_outs m) (each_slots (slots_of entries_group) m.entries)))
    (right_append all (fields_of (snapshot_outs m)) (fields_of (each_slots (slots_of entries_group) m.entries))
    (fill_right all (members 0 market_data_snapshot_rows) (snapshot_outs m) (refl, (refl, (refl, tt))) (fill_snapshot m fits))
    (chunk_right entries_group all m.entries
    (map_all FitsMarketDataEntry (λ x. AreRight all (fields_of (slots_of entries_group x)))
    (λ x f. fill_right all market_data_entry_rows (slots_of entries_group x) (refl, (refl, (refl, (refl, tt)))) (fill_entry x f)) m.entries fits.entries)))

no_parts : (n : ℕ) → AreFree 0 n []
no_parts n q a b = refl

snapshot_shows : (h : Header) (kind : List ℕ) (hs : List Slot) (m : MarketDataSnapshot) → IsHead h kind hs → are_distinct (hs ++ snapshot_outs m) ≡ true
    → Shows (part 0 (snapshot_places hs m)) ((35, Some kind) ∷ (header_slots h ++ snapshot_outs m))
snapshot_shows h kind hs m head d =
    let outside : part 0 (snapshot_places hs m) ≡ fields_of (hs ++ snapshot_outs m) =
    outside_part (hs ++ snapshot_outs m) (snapshot_tail m) [] (part_low entries_group 0 0 m.entries [] (omega arith)) ∙ ap fields_of (append-nil (hs ++ snapshot_outs m)) in
    record {
      once = subst (λ (l : List Entry). are_single l ≡ true) (sym outside) (single_fields (hs ++ snapshot_outs m) d);
      values = λ tag. ap (value_of tag) outside ∙ value_slot tag (hs ++ snapshot_outs m) d ∙ head.same tag (snapshot_outs m) refl;
    }

snapshot_holds : (h : Header) (kind : List ℕ) (hs : List Slot) (m : MarketDataSnapshot) → FitsHeader h → IsText 64 kind → FitsMarketDataSnapshot m → IsHead h kind hs → are_distinct (hs ++ snapshot_outs m) ≡ true
    → Holds (header_rows ++ members 0 market_data_snapshot_rows) (part 0 (snapshot_places hs m))
snapshot_holds h kind hs m hfits text fits head d =
    fill_holds (header_rows ++ members 0 market_data_snapshot_rows) ((35, Some kind) ∷ (header_slots h ++ snapshot_outs m)) (part 0 (snapshot_places hs m))
    (fill_both header_rows ((35, Some kind) ∷ header_slots h) (members 0 market_data_snapshot_rows) (snapshot_outs m) (fill_header h kind hfits text) (fill_snapshot m fits))
    refl (snapshot_shows h kind hs m head d)

snapshot_begins : (hs : List Slot) (m : MarketDataSnapshot) → begins 269 0 (snapshot_places hs m) ≡ upto 0 m.entries
snapshot_begins hs m = zero_begins 269 0 (fields_of (hs ++ snapshot_outs m)) (snapshot_tail m) ∙ chunk_begins entries_group 0 m.entries [] ∙ append-nil (upto 0 m.entries)

snapshot_counted : (hs : List Slot) (m : MarketDataSnapshot) → FitsMarketDataSnapshot m → are_plain market_data_snapshot_rows hs → miscounted market_data_snapshot_rows (snapshot_places hs m) (snapshot_places hs m) ≡ None
snapshot_counted hs m fits plain =
    let all = snapshot_places hs m in
    let number : length (begins 269 0 all) ≡ length m.entries = ap (λ (l : List ℕ). length l) (snapshot_begins hs m) ∙ upto_length 0 m.entries in
    ap (miscounted market_data_snapshot_rows all) (split_zero hs (snapshot_outs m) (snapshot_tail m))
    ∙ zero_counted market_data_snapshot_rows all hs (at_zero (fields_of (snapshot_outs m)) (snapshot_tail m)) plain
    ∙ count_fine (length m.entries) (length (begins 269 0 all)) 268 (miscounted market_data_snapshot_rows all (snapshot_tail m)) number (omega (arith, fits.number.1))
    (chunk_counted entries_group market_data_snapshot_rows all 0 m.entries [] (λ x. (refl, (refl, (refl, (refl, tt))))))

snapshot_clean : (h : Header) (kind : List ℕ) (hs : List Slot) (m : MarketDataSnapshot) → FitsHeader h → IsText 64 kind → FitsMarketDataSnapshot m → IsHead h kind hs → are_distinct (hs ++ snapshot_outs m) ≡ true
    → are_plain market_data_snapshot_rows hs → located_fault header_rows market_data_snapshot_rows (snapshot_places hs m) (fields_of (hs ++ market_data_snapshot_slots m)) ≡ None
snapshot_clean h kind hs m hfits text fits head d plain =
    let ps = snapshot_places hs m in
    let all = header_rows ++ market_data_snapshot_rows in
    let holds = holds_both header_rows (members 0 market_data_snapshot_rows) (part 0 ps) (snapshot_holds h kind hs m hfits text fits head d) in
    let lacking_none : lacking 269 269 ps ≡ false =
    zero_lacking 269 269 (fields_of (hs ++ snapshot_outs m)) (snapshot_tail m) ∙ chunk_lacking entries_group 269 0 m.entries [] (λ x. refl) refl in
    faultless_placed header_rows market_data_snapshot_rows ps (fields_of (hs ++ market_data_snapshot_slots m))
    (none_twice ps (all_single (hs ++ snapshot_outs m) (snapshot_tail m) [] (part_low entries_group 0 0 m.entries [] (omega arith)) (subst (λ (l : List Slot). are_distinct l ≡ true) (sym (append-nil (hs ++ snapshot_outs m))) d)
    (λ q t. chunk_single entries_group 0 m.entries [] (λ x. refl) (no_parts (length m.entries)) q refl)))
    (snapshot_counted hs m fits plain)
    (none_missing_in market_data_snapshot_rows header_rows ps (headed_there market_data_snapshot_rows ps header_rows (refl, (refl, (refl, (refl, (refl, (refl, (refl, (refl, (refl, tt))))))))) holds.0))
    (none_missing_in market_data_snapshot_rows market_data_snapshot_rows ps
    (outside_there market_data_snapshot_rows ps (needs 262 Identifier) refl holds.1.0, (outside_there market_data_snapshot_rows ps (needs 55 Identifier) refl holds.1.1.0, (outside_there market_data_snapshot_rows ps (needs 268 (Integer 1 400)) refl holds.1.1.1.0, (inside_there market_data_snapshot_rows ps (inside 268 (needs 269 Character)) refl lacking_none, (refl, (refl, (refl, tt))))))))
    (subst (AreRight all) (sym (fields_append hs (market_data_snapshot_slots m))) (right_append all (fields_of hs) (fields_of (market_data_snapshot_slots m)) (head.right market_data_snapshot_rows) (snapshot_right m fits)))

built_snapshot : (m : MarketDataSnapshot) (a b : List ℕ) (c : List MarketDataEntry) → a ≡ m.request_id → b ≡ m.symbol → c ≡ m.entries → record { request_id = a; symbol = b; entries = c } ≡ m
built_snapshot m a b c e f g = rw (e, f, g) refl

snapshot_back : (h : Header) (kind : List ℕ) (hs : List Slot) (m : MarketDataSnapshot) → FitsMarketDataSnapshot m → IsHead h kind hs → are_distinct (hs ++ snapshot_outs m) ≡ true
    → market_data_snapshot (snapshot_places hs m) ≡ m
snapshot_back h kind hs m fits head d =
    let ps = snapshot_places hs m in
    let shows = snapshot_shows h kind hs m head d in
    built_snapshot m _ _ _
    (ap (some_or []) (shows.values 262))
    (ap (some_or []) (shows.values 55))
    (ap (λ (l : List ℕ). map market_data_entry (map (λ (q : ℕ). part q ps) l)) (snapshot_begins hs m)
    ∙ read_back entries_group market_data_entry 0 m.entries [] ps
    (map_all FitsMarketDataEntry (λ x. market_data_entry (fields_of (slots_of entries_group x)) ≡ x) entry_back m.entries fits.entries) (no_parts (length m.entries))
    (λ q a. other_part q (fields_of (hs ++ snapshot_outs m)) (snapshot_tail m) (grind (arith, nat_tests, a))))

pub snapshot_law : (h : Header) (kind : List ℕ) (hs : List Slot) (m : MarketDataSnapshot) → FitsHeader h → IsText 64 kind → FitsMarketDataSnapshot m → IsHead h kind hs → are_distinct (hs ++ snapshot_outs m) ≡ true
    → are_plain market_data_snapshot_rows hs → let fields = fields_of (hs ++ market_data_snapshot_slots m) in
    (fault_as_type types.MarketDataSnapshot fields ≡ None) × (the_message h (body.App (app.MarketDataSnapshot m)) ≡ message_as types.MarketDataSnapshot fields)
snapshot_law h kind hs m hfits text fits head d plain =
    let fields = fields_of (hs ++ market_data_snapshot_slots m) in
    let ps = snapshot_places hs m in
    let position : located header_rows market_data_snapshot_rows start fields ≡ ps =
    grouped_placed header_rows market_data_snapshot_rows hs (snapshot_outs m) (market_data_snapshot_slots m) (snapshot_tail m) head.tags (snapshot_inner m) in (
      ap (λ (l : List LocatedFields). located_fault header_rows market_data_snapshot_rows l fields) position ∙ snapshot_clean h kind hs m hfits text fits head d plain,
      sym (ap (λ (l : List LocatedFields). the_message (header (part 0 l)) (body.App (app.MarketDataSnapshot (market_data_snapshot l)))) position
          ∙ ap (λ (x : Header). the_message x (body.App (app.MarketDataSnapshot (market_data_snapshot ps)))) (sym (header_before h kind (snapshot_outs m) hfits (part 0 ps) (snapshot_shows h kind hs m head d)))
          ∙ ap (λ (x : MarketDataSnapshot). the_message h (body.App (app.MarketDataSnapshot x))) (snapshot_back h kind hs m fits head d)),
    )

pub snapshot_fields : (m : MarketDataSnapshot) → FitsMarketDataSnapshot m → AreFields (fields_of (market_data_snapshot_slots m))
snapshot_fields m fits =
    subst AreFields (sym (fields_append (snapshot_outs m) (each_slots (slots_of entries_group) m.entries)))
    (fields_both (fields_of (snapshot_outs m)) (fields_of (each_slots (slots_of entries_group) m.entries))
    (fill_fields (members 0 market_data_snapshot_rows) (snapshot_outs m) (fill_snapshot m fits) refl)
    (chunk_fields entries_group m.entries
    (map_all FitsMarketDataEntry (λ x. AreFields (fields_of (slots_of entries_group x)))
    (λ x f. fill_fields market_data_entry_rows (slots_of entries_group x) (fill_entry x f) refl) m.entries fits.entries)))

pub snapshot_length : (m : MarketDataSnapshot) → FitsMarketDataSnapshot m → length (slots_text (market_data_snapshot_slots m)) ≤ 60_000
snapshot_length m fits =
    let head = fill_length (members 0 market_data_snapshot_rows) (snapshot_outs m) (fill_snapshot m fits) refl in
    let each = chunk_length entries_group 146 m.entries
    (map_all FitsMarketDataEntry (λ x. length (slots_text (slots_of entries_group x)) ≤ 146)
    (λ x f. fill_length market_data_entry_rows (slots_of entries_group x) (fill_entry x f) refl) m.entries fits.entries) in
    omega (arith, slots_length (snapshot_outs m) (each_slots (slots_of entries_group) m.entries), head, each, fits.number.1)

-- Requests.

abbrev types_group : GroupOf ℕ
types_group = record { first = 269; around = 0; value = λ c. c ∷ []; more = λ c. [] }

abbrev request_at : ℕ → Option ℕ → State
request_at k i = record { begun = k; outer = Some (record { group = 267; around = 0; instance = i }); inner = None }

request_opens : Opens ℕ types_group header_rows market_data_request_rows request_at
request_opens = record { begin = λ k i. refl; other = λ k x. tt }

request_begun : (k : ℕ) (i : Option ℕ) (xs : List ℕ) → (after request_at k i xs).begun ≡ k + length xs
request_begun k i [] = omega arith
request_begun k i (x ∷ xs) = request_begun (k + 1) (Some (k + 1)) xs ∙ omega arith

abbrev instrument_slots : List ℕ → List Slot
instrument_slots symbol = (146, Some (decimal 1)) ∷ (55, Some symbol) ∷ []

-- the instrument, in a part of its own
abbrev instrument_rest : ℕ → List ℕ → List LocatedFields
instrument_rest b symbol = ((146, decimal 1), InPart 0) ∷ ((55, symbol), Begins (b + 1) 0) ∷ []

instrument_zero : (b : ℕ) (symbol : List ℕ) → part 0 (instrument_rest b symbol) ≡ (146, decimal 1) ∷ []
instrument_zero b symbol = let test : (b + 1 == 0) ≡ false = grind (arith, nat_tests) in rw test refl

instrument_here : (b : ℕ) (symbol : List ℕ) → part (b + 1) (instrument_rest b symbol) ≡ (55, symbol) ∷ []
instrument_here b symbol =
    let first : (0 == b + 1) ≡ false = grind (arith, nat_tests) in
    let second : (b + 1 == b + 1) ≡ true = grind (arith, nat_tests) in
    rw (first, second) refl

instrument_other : (b q : ℕ) (symbol : List ℕ) → (0 == q) ≡ false → (b + 1 == q) ≡ false → part q (instrument_rest b symbol) ≡ []
instrument_other b q symbol first second = rw (first, second) refl

instrument_single : (b q : ℕ) (symbol : List ℕ) → (0 == q) ≡ false → are_single (part q (instrument_rest b symbol)) ≡ true
instrument_single b q symbol first = rw first (one (b + 1 == q))
  where
    one : (t : Bool) → are_single (cond t ((55, symbol) ∷ []) []) ≡ true
    one true = refl
    one false = refl

abbrev request_outs : MarketDataRequest → List Slot
request_outs m = (262, Some m.request_id) ∷ (263, Some (m.subscription_type ∷ [])) ∷ (264, Some (decimal m.depth)) ∷ (267, Some (decimal (length m.entry_types))) ∷ []

abbrev request_post : List Slot
request_post = (146, Some (decimal 1)) ∷ []

abbrev request_last : MarketDataRequest → ℕ
request_last m = (after request_at 0 None m.entry_types).begun

abbrev request_tail : MarketDataRequest → List LocatedFields
request_tail m = chunk types_group 0 m.entry_types (instrument_rest (request_last m) m.symbol)

abbrev request_places : List Slot → MarketDataRequest → List LocatedFields
request_places hs m = at_zero (fields_of (hs ++ request_outs m)) (request_tail m)

request_inner : (m : MarketDataRequest) → located header_rows market_data_request_rows start (fields_of (market_data_request_slots m)) ≡ at_zero (fields_of (request_outs m)) (request_tail m)
request_inner m =
    let own : List Entry = fields_of (each_slots (slots_of types_group) m.entry_types) in
    ap (λ (l : List LocatedFields). ((262, m.request_id), InPart 0) ∷ ((263, m.subscription_type ∷ []), InPart 0) ∷ ((264, decimal m.depth), InPart 0) ∷ ((267, decimal (length m.entry_types)), InPart 0) ∷ l)
    (ap (located header_rows market_data_request_rows (request_at 0 None)) (fields_append (each_slots (slots_of types_group) m.entry_types) (instrument_slots m.symbol))
    ∙ chunk_placed types_group header_rows market_data_request_rows request_at request_opens 0 None m.entry_types (fields_of (instrument_slots m.symbol)))

fill_type : (c : ℕ) → IsGraphic c → Fill entry_type_rows (slots_of types_group c)
fill_type c h = (refl, (form.character 269 c h, tt))

fill_request : (m : MarketDataRequest) → FitsMarketDataRequest m → Fill (members 0 market_data_request_rows) (request_outs m ++ request_post)
fill_request m fits =
    (refl, (form.identifier 262 m.request_id fits.request_id, (refl, (form.character 263 m.subscription_type fits.subscription_type, (refl, (form.number 264 0 999_999_999 m.depth fits.depth refl, (refl, (form.number 267 1 64 (length m.entry_types) fits.number refl, (refl, (form.number 146 1 1 1 (omega arith, omega arith) refl, tt))))))))))

abbrev request_head_rows : List Row
request_head_rows = needs 262 Identifier ∷ needs 263 Character ∷ needs 264 (Integer 0 999_999_999) ∷ needs 267 (Integer 1 64) ∷ []

fill_request_head : (m : MarketDataRequest) → FitsMarketDataRequest m → Fill request_head_rows (request_outs m)
fill_request_head m fits =
    (refl, (form.identifier 262 m.request_id fits.request_id, (refl, (form.character 263 m.subscription_type fits.subscription_type, (refl, (form.number 264 0 999_999_999 m.depth fits.depth refl, (refl, (form.number 267 1 64 (length m.entry_types) fits.number refl, tt))))))))

abbrev pub one_instrument_rows : List Row
one_instrument_rows = needs 146 (Integer 1 1) ∷ needs 55 Identifier ∷ []

pub fill_instrument : (symbol : List ℕ) → IsText 64 symbol → Fill one_instrument_rows (instrument_slots symbol)
fill_instrument symbol h = (refl, (form.number 146 1 1 1 (omega arith, omega arith) refl, (refl, (form.identifier 55 symbol h, tt))))

request_right : (m : MarketDataRequest) → FitsMarketDataRequest m → AreRight (header_rows ++ market_data_request_rows) (fields_of (market_data_request_slots m))
request_right m fits =
    let all = header_rows ++ market_data_request_rows in
    let each = each_slots (slots_of types_group) m.entry_types in
    subst (AreRight all) (sym (fields_append (request_outs m) (each ++ instrument_slots m.symbol)))
    (right_append all (fields_of (request_outs m)) (fields_of (each ++ instrument_slots m.symbol))
    (fill_right all request_head_rows (request_outs m) (refl, (refl, (refl, (refl, tt)))) (fill_request_head m fits))
    (subst (AreRight all) (sym (fields_append each (instrument_slots m.symbol)))
    (right_append all (fields_of each) (fields_of (instrument_slots m.symbol))
    (chunk_right types_group all m.entry_types
    (map_all IsGraphic (λ x. AreRight all (fields_of (slots_of types_group x)))
    (λ x f. fill_right all entry_type_rows (slots_of types_group x) (refl, tt) (fill_type x f)) m.entry_types fits.entry_types))
    (fill_right all one_instrument_rows (instrument_slots m.symbol) (refl, (refl, tt)) (fill_instrument m.symbol fits.symbol)))))

request_free : (m : MarketDataRequest) → AreFree 0 (length m.entry_types) (instrument_rest (request_last m) m.symbol)
request_free m q a b =
    let last = request_begun 0 None m.entry_types in
    instrument_other (request_last m) q m.symbol (grind (arith, nat_tests, a)) (grind (arith, nat_tests, a, b, last))

request_zero : (m : MarketDataRequest) → part 0 (request_tail m) ≡ fields_of request_post
request_zero m = part_low types_group 0 0 m.entry_types (instrument_rest (request_last m) m.symbol) (omega arith) ∙ instrument_zero (request_last m) m.symbol

request_shows : (h : Header) (kind : List ℕ) (hs : List Slot) (m : MarketDataRequest) → IsHead h kind hs → are_distinct ((hs ++ request_outs m) ++ request_post) ≡ true
    → Shows (part 0 (request_places hs m)) ((35, Some kind) ∷ (header_slots h ++ (request_outs m ++ request_post)))
request_shows h kind hs m head d =
    let outside : part 0 (request_places hs m) ≡ fields_of ((hs ++ request_outs m) ++ request_post) = outside_part (hs ++ request_outs m) (request_tail m) request_post (request_zero m) in
    record {
      once = subst (λ (l : List Entry). are_single l ≡ true) (sym outside) (single_fields ((hs ++ request_outs m) ++ request_post) d);
      values = λ tag. ap (value_of tag) outside ∙ value_slot tag ((hs ++ request_outs m) ++ request_post) d ∙ ap (slot_of tag) (append_assoc hs (request_outs m) request_post) ∙ head.same tag (request_outs m ++ request_post) refl;
    }

request_holds : (h : Header) (kind : List ℕ) (hs : List Slot) (m : MarketDataRequest) → FitsHeader h → IsText 64 kind → FitsMarketDataRequest m → IsHead h kind hs → are_distinct ((hs ++ request_outs m) ++ request_post) ≡ true
    → Holds (header_rows ++ members 0 market_data_request_rows) (part 0 (request_places hs m))
request_holds h kind hs m hfits text fits head d =
    fill_holds (header_rows ++ members 0 market_data_request_rows) ((35, Some kind) ∷ (header_slots h ++ (request_outs m ++ request_post))) (part 0 (request_places hs m))
    (fill_both header_rows ((35, Some kind) ∷ header_slots h) (members 0 market_data_request_rows) (request_outs m ++ request_post) (fill_header h kind hfits text) (fill_request m fits))
    refl (request_shows h kind hs m head d)

request_types : (hs : List Slot) (m : MarketDataRequest) → begins 269 0 (request_places hs m) ≡ upto 0 m.entry_types
request_types hs m =
    zero_begins 269 0 (fields_of (hs ++ request_outs m)) (request_tail m) ∙ chunk_begins types_group 0 m.entry_types (instrument_rest (request_last m) m.symbol) ∙ append-nil (upto 0 m.entry_types)

request_instrument : (hs : List Slot) (m : MarketDataRequest) → begins 55 0 (request_places hs m) ≡ (request_last m + 1) ∷ []
request_instrument hs m = zero_begins 55 0 (fields_of (hs ++ request_outs m)) (request_tail m) ∙ other_begins types_group 55 0 0 m.entry_types (instrument_rest (request_last m) m.symbol) refl

request_counted : (hs : List Slot) (m : MarketDataRequest) → FitsMarketDataRequest m → are_plain market_data_request_rows hs → miscounted market_data_request_rows (request_places hs m) (request_places hs m) ≡ None
request_counted hs m fits plain =
    let all = request_places hs m in
    let number : length (begins 269 0 all) ≡ length m.entry_types = ap (λ (l : List ℕ). length l) (request_types hs m) ∙ upto_length 0 m.entry_types in
    let one : length (begins 55 0 all) ≡ 1 = ap (λ (l : List ℕ). length l) (request_instrument hs m) in
    ap (miscounted market_data_request_rows all) (split_zero hs (request_outs m) (request_tail m))
    ∙ zero_counted market_data_request_rows all hs (at_zero (fields_of (request_outs m)) (request_tail m)) plain
    ∙ count_fine (length m.entry_types) (length (begins 269 0 all)) 267 (miscounted market_data_request_rows all (request_tail m)) number (omega (arith, fits.number.1))
    (chunk_counted types_group market_data_request_rows all 0 m.entry_types (instrument_rest (request_last m) m.symbol) (λ x. (refl, tt))
    ∙ count_fine 1 (length (begins 55 0 all)) 146 None one (omega arith) refl)

request_lacks_no_type : (hs : List Slot) (m : MarketDataRequest) → lacking 269 269 (request_places hs m) ≡ false
request_lacks_no_type hs m = zero_lacking 269 269 (fields_of (hs ++ request_outs m)) (request_tail m) ∙ chunk_lacking types_group 269 0 m.entry_types (instrument_rest (request_last m) m.symbol) (λ x. refl) refl

instrument_there : (b : ℕ) (symbol : List ℕ) → lacking 55 55 (instrument_rest b symbol) ≡ false
instrument_there b symbol = let test : (b + 1 == b + 1) ≡ true = grind (arith, nat_tests) in rw test refl

request_lacks_no_symbol : (hs : List Slot) (m : MarketDataRequest) → lacking 55 55 (request_places hs m) ≡ false
request_lacks_no_symbol hs m =
    zero_lacking 55 55 (fields_of (hs ++ request_outs m)) (request_tail m) ∙ other_lacking types_group 55 55 0 m.entry_types (instrument_rest (request_last m) m.symbol) refl (instrument_there (request_last m) m.symbol)

request_clean : (h : Header) (kind : List ℕ) (hs : List Slot) (m : MarketDataRequest) → FitsHeader h → IsText 64 kind → FitsMarketDataRequest m → IsHead h kind hs → are_distinct ((hs ++ request_outs m) ++ request_post) ≡ true
    → are_plain market_data_request_rows hs → located_fault header_rows market_data_request_rows (request_places hs m) (fields_of (hs ++ market_data_request_slots m)) ≡ None
request_clean h kind hs m hfits text fits head d plain =
    let rows = market_data_request_rows in
    let ps = request_places hs m in
    let rest = instrument_rest (request_last m) m.symbol in
    let holds = holds_both header_rows (members 0 rows) (part 0 ps) (request_holds h kind hs m hfits text fits head d) in
    faultless_placed header_rows rows ps (fields_of (hs ++ market_data_request_slots m))
    (none_twice ps (all_single (hs ++ request_outs m) (request_tail m) request_post (request_zero m) d
    (λ q t. chunk_single types_group 0 m.entry_types rest (λ x. refl) (request_free m) q (instrument_single (request_last m) q m.symbol t))))
    (request_counted hs m fits plain)
    (none_missing_in rows header_rows ps (headed_there rows ps header_rows (refl, (refl, (refl, (refl, (refl, (refl, (refl, (refl, (refl, tt))))))))) holds.0))
    (none_missing_in rows rows ps (
      outside_there rows ps (needs 262 Identifier) refl holds.1.0,
      (
        outside_there rows ps (needs 263 Character) refl holds.1.1.0,
        (
          outside_there rows ps (needs 264 (Integer 0 999_999_999)) refl holds.1.1.1.0,
          (
            outside_there rows ps (needs 267 (Integer 1 64)) refl holds.1.1.1.1.0,
            (inside_there rows ps (inside 267 (needs 269 Character)) refl (request_lacks_no_type hs m), (outside_there rows ps (needs 146 (Integer 1 1)) refl holds.1.1.1.1.1.0, (inside_there rows ps (inside 146 (needs 55 Identifier)) refl (request_lacks_no_symbol hs m), tt))),
          ),
        ),
      ),
    ))
    (subst (AreRight (header_rows ++ rows)) (sym (fields_append hs (market_data_request_slots m))) (right_append (header_rows ++ rows) (fields_of hs) (fields_of (market_data_request_slots m)) (head.right rows) (request_right m fits)))

built_request : (m : MarketDataRequest) (a : List ℕ) (b c : ℕ) (d : List ℕ) (e : List ℕ) → a ≡ m.request_id → b ≡ m.subscription_type → c ≡ m.depth → d ≡ m.entry_types → e ≡ m.symbol
    → record { request_id = a; subscription_type = b; depth = c; entry_types = d; symbol = e } ≡ m
built_request m a b c d e f g h i j = rw (f, g, h, i, j) refl

request_symbol : (hs : List Slot) (m : MarketDataRequest) → sole 55 (request_places hs m) ≡ (55, m.symbol) ∷ []
request_symbol hs m =
    let ps = request_places hs m in
    let last = request_begun 0 None m.entry_types in
    ap (λ (l : List ℕ). first_of (map (λ (q : ℕ). part q ps) l)) (request_instrument hs m)
    ∙ other_part (request_last m + 1) (fields_of (hs ++ request_outs m)) (request_tail m) (grind (arith, nat_tests))
    ∙ part_high types_group (request_last m + 1) 0 m.entry_types (instrument_rest (request_last m) m.symbol) (omega (arith, last))
    ∙ instrument_here (request_last m) m.symbol

request_back : (h : Header) (kind : List ℕ) (hs : List Slot) (m : MarketDataRequest) → FitsMarketDataRequest m → IsHead h kind hs → are_distinct ((hs ++ request_outs m) ++ request_post) ≡ true
    → market_data_request (request_places hs m) ≡ m
request_back h kind hs m fits head d =
    let ps = request_places hs m in
    let shows = request_shows h kind hs m head d in
    built_request m _ _ _ _ _
    (ap (some_or []) (shows.values 262))
    (ap (λ (o : Option (List ℕ)). character_in (some_or [] o)) (shows.values 263))
    (ap (λ (o : Option (List ℕ)). number_in (some_or [] o)) (shows.values 264) ∙ form.number_back 0 999_999_999 0 m.depth fits.depth refl)
    (ap (λ (l : List ℕ). map entry_type (map (λ (q : ℕ). part q ps) l)) (request_types hs m)
    ∙ read_back types_group entry_type 0 m.entry_types (instrument_rest (request_last m) m.symbol) ps
    (map_all IsGraphic (λ x. entry_type (fields_of (slots_of types_group x)) ≡ x) (λ x f. refl) m.entry_types fits.entry_types) (request_free m)
    (λ q a. other_part q (fields_of (hs ++ request_outs m)) (request_tail m) (grind (arith, nat_tests, a))))
    (ap (λ (l : List Entry). some_or [] (value_of 55 l)) (request_symbol hs m))

pub request_law : (h : Header) (kind : List ℕ) (hs : List Slot) (m : MarketDataRequest) → FitsHeader h → IsText 64 kind → FitsMarketDataRequest m → IsHead h kind hs → are_distinct ((hs ++ request_outs m) ++ request_post) ≡ true
    → are_plain market_data_request_rows hs → let fields = fields_of (hs ++ market_data_request_slots m) in
    (fault_as_type types.MarketDataRequest fields ≡ None) × (the_message h (body.App (app.MarketDataRequest m)) ≡ message_as types.MarketDataRequest fields)
request_law h kind hs m hfits text fits head d plain =
    let fields = fields_of (hs ++ market_data_request_slots m) in
    let ps = request_places hs m in
    let position : located header_rows market_data_request_rows start fields ≡ ps =
    grouped_placed header_rows market_data_request_rows hs (request_outs m) (market_data_request_slots m) (request_tail m) head.tags (request_inner m) in (
      ap (λ (l : List LocatedFields). located_fault header_rows market_data_request_rows l fields) position ∙ request_clean h kind hs m hfits text fits head d plain,
      sym (ap (λ (l : List LocatedFields). the_message (header (part 0 l)) (body.App (app.MarketDataRequest (market_data_request l)))) position
          ∙ ap (λ (x : Header). the_message x (body.App (app.MarketDataRequest (market_data_request ps)))) (sym (header_before h kind (request_outs m ++ request_post) hfits (part 0 ps) (request_shows h kind hs m head d)))
          ∙ ap (λ (x : MarketDataRequest). the_message h (body.App (app.MarketDataRequest x))) (request_back h kind hs m fits head d)),
    )

pub request_fields : (m : MarketDataRequest) → FitsMarketDataRequest m → AreFields (fields_of (market_data_request_slots m))
request_fields m fits =
    let each = each_slots (slots_of types_group) m.entry_types in
    subst AreFields (sym (fields_append (request_outs m) (each ++ instrument_slots m.symbol)))
    (fields_both (fields_of (request_outs m)) (fields_of (each ++ instrument_slots m.symbol))
    (fill_fields request_head_rows (request_outs m) (fill_request_head m fits) refl)
    (subst AreFields (sym (fields_append each (instrument_slots m.symbol)))
    (fields_both (fields_of each) (fields_of (instrument_slots m.symbol))
    (chunk_fields types_group m.entry_types
    (map_all IsGraphic (λ x. AreFields (fields_of (slots_of types_group x))) (λ x f. fill_fields entry_type_rows (slots_of types_group x) (fill_type x f) refl) m.entry_types fits.entry_types))
    (fill_fields one_instrument_rows (instrument_slots m.symbol) (fill_instrument m.symbol fits.symbol) refl))))

pub request_length : (m : MarketDataRequest) → FitsMarketDataRequest m → length (slots_text (market_data_request_slots m)) ≤ 60_000
request_length m fits =
    let each = each_slots (slots_of types_group) m.entry_types in
    let head = fill_length request_head_rows (request_outs m) (fill_request_head m fits) refl in
    let some = chunk_length types_group 12 m.entry_types
    (map_all IsGraphic (λ x. length (slots_text (slots_of types_group x)) ≤ 12) (λ x f. fill_length entry_type_rows (slots_of types_group x) (fill_type x f) refl) m.entry_types fits.entry_types) in
    let behind = fill_length one_instrument_rows (instrument_slots m.symbol) (fill_instrument m.symbol fits.symbol) refl in
    omega (arith, slots_length (request_outs m) (each ++ instrument_slots m.symbol), slots_length each (instrument_slots m.symbol), head, some, behind, fits.number.1)
