-- The fields before those of a message with groups: a printed header, or the added one.
use Rattle.std.proofs.Common.{◌≡◌, ℕ, true, Bool, List, [], ◌∷◌, ◌++◌, refl, subst, ◌∙◌, Some, codes, decimal, arith}
use Rattle.sef_moment.specs.Utc.{utc_text}
use Rattle.fix_fields.specs.Fields.{AreFields}
use Rattle.fix_validation.specs.declared.table.Row.{Row}
use Rattle.fix_validation.specs.declared.table.Form.TheVariants as form_of_row
use Rattle.fix_dictionary.specs.declared.messages.Header.{Header}
use Rattle.fix_validation.specs.Table.{needs}
use Rattle.fix_validation.specs.Tables.{header_rows}
use Rattle.fix_dictionary.specs.Values.{IsText}
use Rattle.fix_dictionary.specs.Fits.{FitsHeader}
use Rattle.fix_dictionary.specs.Text.{Slot, fields_of, header_slots}
use Rattle.fix_decoder.proofs.FormLemmas as form
use Rattle.fix_decoder.proofs.LookLemmas.{Fill, slot_of, fill_fields}
use Rattle.fix_decoder.proofs.HeaderLaw.{fill_header}
use Rattle.fix_decoder.proofs.AppLaw as application
use Rattle.fix_decoder.proofs.GroupLaws.{are_header, AreRight, fill_right}

abbrev pub lacks_optional : List Slot → Bool
lacks_optional own = application.lacks_optional own

pub record IsHead (h : Header) (kind : List ℕ) (hs : List Slot) : Type 0 where
  pub tags : are_header header_rows hs
  pub right : (rows : List Row) → AreRight (header_rows ++ rows) (fields_of hs)
  pub same : (tag : ℕ) (own : List Slot) → lacks_optional own ≡ true → slot_of tag (hs ++ own) ≡ slot_of tag ((35, Some kind) ∷ (header_slots h ++ own))
  pub fields : AreFields (fields_of hs)

pub printed_head : (h : Header) (kind : List ℕ) → FitsHeader h → IsText 64 kind → IsHead h kind ((35, Some kind) ∷ header_slots h)
printed_head h kind fits text = record {
  tags = ((0, refl), ((0, refl), ((0, refl), ((0, refl), ((0, refl), ((0, refl), ((0, refl), ((0, refl), ((0, refl), tt)))))))));
  right = λ rows. fill_right (header_rows ++ rows) header_rows ((35, Some kind) ∷ header_slots h) (refl, (refl, (refl, (refl, (refl, (refl, (refl, (refl, (refl, tt))))))))) (fill_header h kind fits text);
  same = λ tag own lacks. refl;
  fields = fill_fields header_rows ((35, Some kind) ∷ header_slots h) (fill_header h kind fits text) refl;
}

-- the added header, then the type
abbrev pub added_slots : List ℕ → List Slot
added_slots kind = (49, Some (codes "S")) ∷ (56, Some (codes "T")) ∷ (34, Some (codes "1")) ∷ (52, Some (codes "19700101-00:00:00.000")) ∷ (35, Some kind) ∷ []

abbrev added_rows : List Row
added_rows = needs 49 form_of_row.Identifier ∷ needs 56 form_of_row.Identifier ∷ needs 34 (form_of_row.Integer 1 999_999_999) ∷ needs 52 form_of_row.Utc ∷ needs 35 form_of_row.Kind ∷ []

fill_added : (kind : List ℕ) → IsText 64 kind → Fill added_rows (added_slots kind)
fill_added kind text = (
  refl,
  (
    form.identifier 49 (codes "S") refl,
    (
      refl,
      (
        form.identifier 56 (codes "T") refl,
        (
          refl,
          (
            subst (λ (l : List ℕ). form.Filled (needs 34 (form_of_row.Integer 1 999_999_999)) (Some l)) application.plain_number (form.number 34 1 999_999_999 1 (omega arith, omega arith) refl),
            (
              refl,
              (
                subst (λ (l : List ℕ). form.Filled (needs 52 form_of_row.Utc) (Some l)) application.plain_moment (form.moment 52 0 (omega arith)),
                (refl, (form.kind kind text, tt)),
              ),
            ),
          ),
        ),
      ),
    ),
  ),
)

pub added_head : (kind : List ℕ) → IsText 64 kind → IsHead application.plain kind (added_slots kind)
added_head kind text = record {
  tags = ((0, refl), ((0, refl), ((0, refl), ((0, refl), ((0, refl), tt)))));
  right = λ rows. fill_right (header_rows ++ rows) added_rows (added_slots kind) (refl, (refl, (refl, (refl, (refl, tt))))) (fill_added kind text);
  same = λ tag own lacks. application.moved tag kind own lacks ∙ application.header_slot tag (decimal 1) (utc_text 0) kind own application.plain_number application.plain_moment;
  fields = fill_fields added_rows (added_slots kind) (fill_added kind text) refl;
}
