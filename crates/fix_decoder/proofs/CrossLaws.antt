-- Crosses: a cross in which its table found no fault, and a printed cross is read as itself.
use Rattle.std.proofs.Common.{◌≡◌, ℕ, ◌≤◌, true, false, List, [], ◌∷◌, ◌++◌, refl, sym, ap, subst, ◌∙◌, arith, ◌==◌, length, append_assoc, append-nil, decimal, Option, Some, None, ℤ}
use Rattle.std.specs.List.{AllByRecursion}
use Rattle.std.proofs.lemmas.Bool.Decides.{nat_tests}
use Rattle.fix_fields.specs.Fields.{Entry, value_of, AreFields}
use Rattle.fix_fields.specs.Forms.{price_text}
use Rattle.fix_dictionary.specs.declared.values.Side.{Side}
use Rattle.fix_validation.specs.declared.table.Row.{Row}
use Rattle.fix_dictionary.specs.declared.kinds.MessageType.TheVariants as types
use Rattle.fix_validation.specs.declared.positions.FieldPosition.TheVariants.{InPart, Begins}
use Rattle.fix_validation.specs.declared.positions.State.{State}
use Rattle.fix_dictionary.specs.declared.messages.App.TheVariants as app
use Rattle.fix_dictionary.specs.declared.messages.Body.TheVariants as body
use Rattle.fix_dictionary.specs.declared.messages.Header.{Header}
use Rattle.fix_dictionary.specs.declared.messages.CrossSide.{CrossSide}
use Rattle.fix_dictionary.specs.declared.messages.NewOrderCross.{NewOrderCross}
use Rattle.fix_dictionary.specs.Values.{IsText}
use Rattle.fix_validation.specs.Table.{needs, takes, inside}
use Rattle.fix_validation.specs.declared.table.Form.TheVariants.{Integer, Identifier, Character, Price, Quantity, OneOrTwo}
use Rattle.fix_validation.specs.Tables.{header_rows, side_rows, new_order_cross_rows}
use Rattle.fix_validation.specs.Stated.{stated, some_or, number_in, character_in, price_in}
use Rattle.fix_dictionary.specs.Fits.{FitsHeader, FitsCrossSide, FitsNewOrderCross}
use Rattle.fix_dictionary.specs.Text.{Slot, fields_of, slots_text, header_slots, given, side_text, new_order_cross_slots}
use Rattle.fix_decoder.specs.Messages.{header, cross_side, new_order_cross, fault_as_type, message_as}
use Rattle.fix_validation.specs.Positions.{LocatedFields, located, start, part, begins, first_begin, first_or_none, second_begin, second_or_none}
use Rattle.fix_validation.specs.GroupFaults.{miscounted, lacking, located_fault}
use Rattle.fix_validation.specs.GroupHolding.{members, Clean}
use Rattle.fix_validation.specs.Faults.{has_tag}
use Rattle.fix_validation.specs.Holding.{Holds}
use Rattle.fix_decoder.proofs.FormLemmas as form
use Rattle.fix_decoder.proofs.HoldLemmas.{HasOwnForms}
use Rattle.fix_decoder.proofs.TableLemmas.{own_forms, own_part, holds_both}
use Rattle.fix_decoder.proofs.LookLemmas.{Fill, Shows, slot_of, are_distinct, are_single, value_slot, single_fields, fill_both, fill_holds, fill_fields, fill_length}
use Rattle.fix_decoder.proofs.HeaderLaw.{the_message, fill_header, header_before}
use Rattle.fix_decoder.proofs.GroupHeads.{IsHead}
use Rattle.fix_decoder.proofs.PlaceLemmas.{flat_holds, each_holds, count_range}
use Rattle.fix_decoder.proofs.GroupLaws.{GroupOf, slots_of, chunk, chunk_single, chunk_begins, chunk_counted, chunk_lacking, part_low, part_here, part_later, AreFree, at_zero, zero_part, other_part, zero_begins, zero_lacking, zero_counted, are_plain, outside_part, all_single, faultless_placed, grouped_placed, split_zero, count_fine, none_twice, none_missing_in, outside_there, inside_there, headed_there, AreRight, right_append, fill_right, fields_append}

cross_forms : HasOwnForms (header_rows ++ new_order_cross_rows) new_order_cross_rows
cross_forms = own_part (header_rows ++ new_order_cross_rows) header_rows new_order_cross_rows (own_forms types.NewOrderCross 0)

pub cross_holds : (ps : List LocatedFields) → Clean header_rows new_order_cross_rows ps → Holds (members 0 new_order_cross_rows) (part 0 ps)
cross_holds ps c = flat_holds header_rows new_order_cross_rows ps c cross_forms

first_side : (ps : List LocatedFields) (qs : List ℕ) → AllByRecursion (λ (q : ℕ). Holds side_rows (part q ps)) qs → 2 ≤ length qs → Holds side_rows (part (first_or_none qs) ps)
first_side ps [] h some = absurd (omega (arith, some))
first_side ps (q ∷ qs) h some = h.0

second_side : (ps : List LocatedFields) (qs : List ℕ) → AllByRecursion (λ (q : ℕ). Holds side_rows (part q ps)) qs → 2 ≤ length qs → Holds side_rows (part (second_or_none qs) ps)
second_side ps [] h some = absurd (omega (arith, some))
second_side ps (p ∷ []) h some = absurd (omega (arith, some))
second_side ps (p ∷ q ∷ qs) h some = h.1.0

two_sides : (ps : List LocatedFields) → Clean header_rows new_order_cross_rows ps → 2 ≤ length (begins 54 0 ps)
two_sides ps c = (count_range header_rows new_order_cross_rows ps c 552 0 2 2 refl _ refl (cross_holds ps c).1.1.1.0).0

pub first_holds : (ps : List LocatedFields) → Clean header_rows new_order_cross_rows ps → Holds side_rows (part (first_begin 54 ps) ps)
first_holds ps c = first_side ps (begins 54 0 ps) (each_holds header_rows new_order_cross_rows ps c cross_forms 552 refl 0) (two_sides ps c)

pub second_holds : (ps : List LocatedFields) → Clean header_rows new_order_cross_rows ps → Holds side_rows (part (second_begin 54 ps) ps)
second_holds ps c = second_side ps (begins 54 0 ps) (each_holds header_rows new_order_cross_rows ps c cross_forms 552 refl 0) (two_sides ps c)

abbrev sides_group : GroupOf CrossSide
sides_group = record { first = 54; around = 0; value = λ m. side_text m.side; more = λ m. (11, Some m.order_id) ∷ (38, Some (decimal m.quantity)) ∷ [] }

abbrev sides_of : NewOrderCross → List CrossSide
sides_of m = m.first ∷ m.second ∷ []

abbrev pub cross_outs : NewOrderCross → List Slot
cross_outs m = (548, Some m.cross_id) ∷ (549, Some (decimal m.cross_type)) ∷ (550, Some (decimal m.prioritization)) ∷ (552, Some (decimal 2)) ∷ []

abbrev pub cross_post : NewOrderCross → List Slot
cross_post m = (55, Some m.symbol) ∷ (40, Some (m.order_type ∷ [])) ∷ (44, given price_text m.price) ∷ []

abbrev cross_rest : NewOrderCross → List LocatedFields
cross_rest m = at_zero (fields_of (cross_post m)) []

abbrev cross_tail : NewOrderCross → List LocatedFields
cross_tail m = chunk sides_group 0 (sides_of m) (cross_rest m)

abbrev cross_places : List Slot → NewOrderCross → List LocatedFields
cross_places hs m = at_zero (fields_of (hs ++ cross_outs m)) (cross_tail m)

cross_last : (s : State) (o : Option (List ℕ)) → located header_rows new_order_cross_rows s (fields_of ((44, o) ∷ [])) ≡ at_zero (fields_of ((44, o) ∷ [])) []
cross_last s None = refl
cross_last s (Some bytes) = refl

cross_inner : (m : NewOrderCross) → located header_rows new_order_cross_rows start (fields_of (new_order_cross_slots m)) ≡ at_zero (fields_of (cross_outs m)) (cross_tail m)
cross_inner m =
    ap (λ (l : List LocatedFields). ((548, m.cross_id), InPart 0) ∷ ((549, decimal m.cross_type), InPart 0) ∷ ((550, decimal m.prioritization), InPart 0) ∷ ((552, decimal 2), InPart 0)
    ∷ ((54, side_text m.first.side), Begins 1 0) ∷ ((11, m.first.order_id), InPart 1) ∷ ((38, decimal m.first.quantity), InPart 1)
    ∷ ((54, side_text m.second.side), Begins 2 0) ∷ ((11, m.second.order_id), InPart 2) ∷ ((38, decimal m.second.quantity), InPart 2)
    ∷ ((55, m.symbol), InPart 0) ∷ ((40, m.order_type ∷ []), InPart 0) ∷ l)
    (cross_last (record { begun = 2; outer = None; inner = None }) (given price_text m.price))

abbrev cross_all_rows : List Row
cross_all_rows =
    needs 548 Identifier ∷ needs 549 (Integer 0 999_999_999) ∷ needs 550 (Integer 0 999_999_999) ∷ needs 552 (Integer 2 2) ∷ needs 54 OneOrTwo ∷ needs 11 Identifier ∷ needs 38 Quantity
    ∷ needs 54 OneOrTwo ∷ needs 11 Identifier ∷ needs 38 Quantity ∷ needs 55 Identifier ∷ needs 40 Character ∷ takes 44 Price ∷ []

fill_all : (m : NewOrderCross) → FitsNewOrderCross m → Fill cross_all_rows (new_order_cross_slots m)
fill_all m fits = (
  refl,
  (
    form.identifier 548 m.cross_id fits.cross_id,
    (
      refl,
      (
        form.number 549 0 999_999_999 m.cross_type fits.cross_type refl,
        (
          refl,
          (
            form.number 550 0 999_999_999 m.prioritization fits.prioritization refl,
            (
              refl,
              (
                form.number 552 2 2 2 (omega arith, omega arith) refl,
                (
                  refl,
                  (
                    form.side 54 m.first.side,
                    (
                      refl,
                      (
                        form.identifier 11 m.first.order_id fits.first.order_id,
                        (
                          refl,
                          (
                            form.quantity 38 m.first.quantity fits.first.quantity,
                            (
                              refl,
                              (
                                form.side 54 m.second.side,
                                (
                                  refl,
                                  (
                                    form.identifier 11 m.second.order_id fits.second.order_id,
                                    (
                                      refl,
                                      (
                                        form.quantity 38 m.second.quantity fits.second.quantity,
                                        (refl, (form.identifier 55 m.symbol fits.symbol, (refl, (form.character 40 m.order_type fits.order_type, (refl, (form.price_given 44 m.price fits.price, tt)))))),
                                      ),
                                    ),
                                  ),
                                ),
                              ),
                            ),
                          ),
                        ),
                      ),
                    ),
                  ),
                ),
              ),
            ),
          ),
        ),
      ),
    ),
  ),
)

fill_cross : (m : NewOrderCross) → FitsNewOrderCross m → Fill (members 0 new_order_cross_rows) (cross_outs m ++ cross_post m)
fill_cross m fits = (
  refl,
  (
    form.identifier 548 m.cross_id fits.cross_id,
    (
      refl,
      (
        form.number 549 0 999_999_999 m.cross_type fits.cross_type refl,
        (
          refl,
          (
            form.number 550 0 999_999_999 m.prioritization fits.prioritization refl,
            (refl, (form.number 552 2 2 2 (omega arith, omega arith) refl, (refl, (form.identifier 55 m.symbol fits.symbol, (refl, (form.character 40 m.order_type fits.order_type, (refl, (form.price_given 44 m.price fits.price, tt)))))))),
          ),
        ),
      ),
    ),
  ),
)

cross_none : (m : NewOrderCross) (q : ℕ) → (0 == q) ≡ false → part q (cross_rest m) ≡ []
cross_none m q t = other_part q (fields_of (cross_post m)) [] t

cross_free : (m : NewOrderCross) → AreFree 0 2 (cross_rest m)
cross_free m q a b = cross_none m q (grind (arith, nat_tests, a))

cross_zero : (m : NewOrderCross) → part 0 (cross_tail m) ≡ fields_of (cross_post m)
cross_zero m = part_low sides_group 0 0 (sides_of m) (cross_rest m) (omega arith) ∙ zero_part (fields_of (cross_post m)) [] ∙ append-nil (fields_of (cross_post m))

cross_shows : (h : Header) (kind : List ℕ) (hs : List Slot) (m : NewOrderCross) → IsHead h kind hs → are_distinct ((hs ++ cross_outs m) ++ cross_post m) ≡ true
    → Shows (part 0 (cross_places hs m)) ((35, Some kind) ∷ (header_slots h ++ (cross_outs m ++ cross_post m)))
cross_shows h kind hs m head d =
    let outside : part 0 (cross_places hs m) ≡ fields_of ((hs ++ cross_outs m) ++ cross_post m) = outside_part (hs ++ cross_outs m) (cross_tail m) (cross_post m) (cross_zero m) in
    record {
      once = subst (λ (l : List Entry). are_single l ≡ true) (sym outside) (single_fields ((hs ++ cross_outs m) ++ cross_post m) d);
      values = λ tag. ap (value_of tag) outside ∙ value_slot tag ((hs ++ cross_outs m) ++ cross_post m) d ∙ ap (slot_of tag) (append_assoc hs (cross_outs m) (cross_post m)) ∙ head.same tag (cross_outs m ++ cross_post m) refl;
    }

cross_begins : (hs : List Slot) (m : NewOrderCross) → begins 54 0 (cross_places hs m) ≡ 1 ∷ 2 ∷ []
cross_begins hs m =
    zero_begins 54 0 (fields_of (hs ++ cross_outs m)) (cross_tail m) ∙ chunk_begins sides_group 0 (sides_of m) (cross_rest m)
    ∙ ap (λ (l : List ℕ). 1 ∷ 2 ∷ l) (zero_begins 54 0 (fields_of (cross_post m)) [])

cross_counted : (hs : List Slot) (m : NewOrderCross) → are_plain new_order_cross_rows hs → miscounted new_order_cross_rows (cross_places hs m) (cross_places hs m) ≡ None
cross_counted hs m plain =
    let all = cross_places hs m in
    let rows = new_order_cross_rows in
    let two : length (begins 54 0 all) ≡ 2 = ap (λ (l : List ℕ). length l) (cross_begins hs m) in
    ap (miscounted rows all) (split_zero hs (cross_outs m) (cross_tail m))
    ∙ zero_counted rows all hs (at_zero (fields_of (cross_outs m)) (cross_tail m)) plain
    ∙ count_fine 2 (length (begins 54 0 all)) 552 (miscounted rows all (cross_tail m)) two (omega arith)
    (chunk_counted sides_group rows all 0 (sides_of m) (cross_rest m) (λ x. (refl, (refl, (refl, tt)))) ∙ zero_counted rows all (cross_post m) [] (refl, (refl, (refl, tt))))

side_there : (hs : List Slot) (m : NewOrderCross) (tag : ℕ) → ((x : CrossSide) → has_tag tag (fields_of (slots_of sides_group x)) ≡ true) → lacking 54 tag (cross_places hs m) ≡ false
side_there hs m tag d =
    zero_lacking 54 tag (fields_of (hs ++ cross_outs m)) (cross_tail m) ∙ chunk_lacking sides_group tag 0 (sides_of m) (cross_rest m) d (zero_lacking 54 tag (fields_of (cross_post m)) [])

cross_clean : (h : Header) (kind : List ℕ) (hs : List Slot) (m : NewOrderCross) → FitsHeader h → IsText 64 kind → FitsNewOrderCross m → IsHead h kind hs → are_distinct ((hs ++ cross_outs m) ++ cross_post m) ≡ true
    → are_plain new_order_cross_rows hs → located_fault header_rows new_order_cross_rows (cross_places hs m) (fields_of (hs ++ new_order_cross_slots m)) ≡ None
cross_clean h kind hs m hfits text fits head d plain =
    let rows = new_order_cross_rows in
    let ps = cross_places hs m in
    let all = header_rows ++ rows in
    let all_hold = fill_holds (header_rows ++ members 0 rows) ((35, Some kind) ∷ (header_slots h ++ (cross_outs m ++ cross_post m))) (part 0 ps)
    (fill_both header_rows ((35, Some kind) ∷ header_slots h) (members 0 rows) (cross_outs m ++ cross_post m) (fill_header h kind hfits text) (fill_cross m fits)) refl (cross_shows h kind hs m head d) in
    let holds = holds_both header_rows (members 0 rows) (part 0 ps) all_hold in
    faultless_placed header_rows rows ps (fields_of (hs ++ new_order_cross_slots m))
    (none_twice ps (all_single (hs ++ cross_outs m) (cross_tail m) (cross_post m) (cross_zero m) d
    (λ q t. chunk_single sides_group 0 (sides_of m) (cross_rest m) (λ x. refl) (cross_free m) q (subst (λ (l : List Entry). are_single l ≡ true) (sym (cross_none m q t)) refl))))
    (cross_counted hs m plain)
    (none_missing_in rows header_rows ps (headed_there rows ps header_rows (refl, (refl, (refl, (refl, (refl, (refl, (refl, (refl, (refl, tt))))))))) holds.0))
    (none_missing_in rows rows ps (
      outside_there rows ps (needs 548 Identifier) refl holds.1.0,
      (
        outside_there rows ps (needs 549 (Integer 0 999_999_999)) refl holds.1.1.0,
        (
          outside_there rows ps (needs 550 (Integer 0 999_999_999)) refl holds.1.1.1.0,
          (
            outside_there rows ps (needs 552 (Integer 2 2)) refl holds.1.1.1.1.0,
            (
              inside_there rows ps (inside 552 (needs 54 OneOrTwo)) refl (side_there hs m 54 (λ x. refl)),
              (
                inside_there rows ps (inside 552 (needs 11 Identifier)) refl (side_there hs m 11 (λ x. refl)),
                (
                  inside_there rows ps (inside 552 (needs 38 Quantity)) refl (side_there hs m 38 (λ x. refl)),
                  (outside_there rows ps (needs 55 Identifier) refl holds.1.1.1.1.1.0, (outside_there rows ps (needs 40 Character) refl holds.1.1.1.1.1.1.0, (refl, tt))),
                ),
              ),
            ),
          ),
        ),
      ),
    ))
    (subst (AreRight all) (sym (fields_append hs (new_order_cross_slots m))) (right_append all (fields_of hs) (fields_of (new_order_cross_slots m)) (head.right rows)
    (fill_right all cross_all_rows (new_order_cross_slots m) (refl, (refl, (refl, (refl, (refl, (refl, (refl, (refl, (refl, (refl, (refl, (refl, (refl, tt))))))))))))) (fill_all m fits))))

built_side : (m : CrossSide) (a : Side) (b : List ℕ) (c : ℕ) → a ≡ m.side → b ≡ m.order_id → c ≡ m.quantity → record { side = a; order_id = b; quantity = c } ≡ m
built_side m a b c e f g = rw (e, f, g) refl

side_back : (m : CrossSide) → FitsCrossSide m → cross_side (fields_of (slots_of sides_group m)) ≡ m
side_back m fits = built_side m _ _ _ (form.side_back m.side) refl (form.quantity_back m.quantity fits.quantity)

first_part : (hs : List Slot) (m : NewOrderCross) → part 1 (cross_places hs m) ≡ fields_of (slots_of sides_group m.first)
first_part hs m =
    other_part 1 (fields_of (hs ++ cross_outs m)) (cross_tail m) refl ∙ part_here sides_group 0 m.first (m.second ∷ []) (cross_rest m)
    ∙ ap (λ (l : List Entry). fields_of (slots_of sides_group m.first) ++ l) (cross_none m 1 refl) ∙ append-nil (fields_of (slots_of sides_group m.first))

second_part : (hs : List Slot) (m : NewOrderCross) → part 2 (cross_places hs m) ≡ fields_of (slots_of sides_group m.second)
second_part hs m =
    other_part 2 (fields_of (hs ++ cross_outs m)) (cross_tail m) refl ∙ part_later sides_group 2 0 m.first (m.second ∷ []) (cross_rest m) refl ∙ part_here sides_group 1 m.second [] (cross_rest m)
    ∙ ap (λ (l : List Entry). fields_of (slots_of sides_group m.second) ++ l) (cross_none m 2 refl) ∙ append-nil (fields_of (slots_of sides_group m.second))

built_cross : (m : NewOrderCross) (a : List ℕ) (b c : ℕ) (d e : CrossSide) (f : List ℕ) (g : ℕ) (i : Option ℤ)
    → a ≡ m.cross_id → b ≡ m.cross_type → c ≡ m.prioritization → d ≡ m.first → e ≡ m.second → f ≡ m.symbol → g ≡ m.order_type → i ≡ m.price
    → record { cross_id = a; cross_type = b; prioritization = c; first = d; second = e; symbol = f; order_type = g; price = i } ≡ m
built_cross m a b c d e f g i p q r s t u v w = rw (p, q, r, s, t, u, v, w) refl

cross_back : (h : Header) (kind : List ℕ) (hs : List Slot) (m : NewOrderCross) → FitsNewOrderCross m → IsHead h kind hs → are_distinct ((hs ++ cross_outs m) ++ cross_post m) ≡ true → new_order_cross (cross_places hs m) ≡ m
cross_back h kind hs m fits head d =
    let ps = cross_places hs m in
    let shows = cross_shows h kind hs m head d in
    built_cross m _ _ _ _ _ _ _ _
    (ap (some_or []) (shows.values 548))
    (ap (λ (o : Option (List ℕ)). number_in (some_or [] o)) (shows.values 549) ∙ form.number_back 0 999_999_999 0 m.cross_type fits.cross_type refl)
    (ap (λ (o : Option (List ℕ)). number_in (some_or [] o)) (shows.values 550) ∙ form.number_back 0 999_999_999 0 m.prioritization fits.prioritization refl)
    (ap (λ (l : List ℕ). cross_side (part (first_or_none l) ps)) (cross_begins hs m) ∙ ap cross_side (first_part hs m) ∙ side_back m.first fits.first)
    (ap (λ (l : List ℕ). cross_side (part (second_or_none l) ps)) (cross_begins hs m) ∙ ap cross_side (second_part hs m) ∙ side_back m.second fits.second)
    (ap (some_or []) (shows.values 55))
    (ap (λ (o : Option (List ℕ)). character_in (some_or [] o)) (shows.values 40))
    (ap (stated price_in) (shows.values 44) ∙ form.price_given_back m.price fits.price)

pub cross_law : (h : Header) (kind : List ℕ) (hs : List Slot) (m : NewOrderCross) → FitsHeader h → IsText 64 kind → FitsNewOrderCross m → IsHead h kind hs → are_distinct ((hs ++ cross_outs m) ++ cross_post m) ≡ true
    → are_plain new_order_cross_rows hs → let fields = fields_of (hs ++ new_order_cross_slots m) in
    (fault_as_type types.NewOrderCross fields ≡ None) × (the_message h (body.App (app.NewOrderCross m)) ≡ message_as types.NewOrderCross fields)
cross_law h kind hs m hfits text fits head d plain =
    let fields = fields_of (hs ++ new_order_cross_slots m) in
    let ps = cross_places hs m in
    let position : located header_rows new_order_cross_rows start fields ≡ ps = grouped_placed header_rows new_order_cross_rows hs (cross_outs m) (new_order_cross_slots m) (cross_tail m) head.tags (cross_inner m) in (
      ap (λ (l : List LocatedFields). located_fault header_rows new_order_cross_rows l fields) position ∙ cross_clean h kind hs m hfits text fits head d plain,
      sym (ap (λ (l : List LocatedFields). the_message (header (part 0 l)) (body.App (app.NewOrderCross (new_order_cross l)))) position
          ∙ ap (λ (x : Header). the_message x (body.App (app.NewOrderCross (new_order_cross ps)))) (sym (header_before h kind (cross_outs m ++ cross_post m) hfits (part 0 ps) (cross_shows h kind hs m head d)))
          ∙ ap (λ (x : NewOrderCross). the_message h (body.App (app.NewOrderCross x))) (cross_back h kind hs m fits head d)),
    )

pub cross_fields : (m : NewOrderCross) → FitsNewOrderCross m → AreFields (fields_of (new_order_cross_slots m))
cross_fields m fits = fill_fields cross_all_rows (new_order_cross_slots m) (fill_all m fits) refl

pub cross_length : (m : NewOrderCross) → FitsNewOrderCross m → length (slots_text (new_order_cross_slots m)) ≤ 60_000
cross_length m fits = omega (arith, fill_length cross_all_rows (new_order_cross_slots m) (fill_all m fits) refl)
