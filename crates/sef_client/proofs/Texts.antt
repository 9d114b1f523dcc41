-- The text of a message is the body of a frame.
use Rattle.std.proofs.Common.{◌≡◌, ℕ, ◌⊎◌, inl, inr, refl, List, [], ◌∷◌, ◌++◌, sym, ap, ◌∙◌, decimal, append_assoc, append-nil}
use Rattle.std.specs.Fmt.{digits}
use Rattle.fix_fields.specs.Fields.{Entry, field_text, fields_text}
use Rattle.fix_dictionary.specs.Text.{message_text, fields_of, header_slots, body_slots, body_kind}
use Rattle.fix_dictionary.specs.declared.messages.Message.{Message}

-- fields end with SOH, where there are any
ended : (fields : List Entry) → (fields_text fields ≡ []) ⊎ ((x : List ℕ) × (fields_text fields ≡ x ++ 1 ∷ []))
ended [] = inl refl
ended (f ∷ fs) = elim (ended fs) [
  | inl none ↦ inr ((decimal f.0 ++ 61 ∷ f.1), rw none (append-nil (field_text f.0 f.1) ∙ sym (append_assoc (decimal f.0) (61 ∷ f.1) (1 ∷ []))))
  | inr some ↦ inr ((field_text f.0 f.1 ++ some.0), rw some.1 (sym (append_assoc (field_text f.0 f.1) some.0 (1 ∷ []))))
]

-- a field, and fields behind it
ends : (value : List ℕ) (fields : List Entry) → (x : List ℕ) × ((value ++ 1 ∷ []) ++ fields_text fields ≡ x ++ 1 ∷ [])
ends value fields = elim (ended fields) [
  | inl none ↦ (value, rw none (append-nil (value ++ 1 ∷ [])))
  | inr some ↦ (((value ++ 1 ∷ []) ++ some.0), rw some.1 (sym (append_assoc (value ++ 1 ∷ []) some.0 (1 ∷ []))))
]

pub body_text : (m : Message) → (x : List ℕ) × (message_text m ≡ 51 ∷ 53 ∷ 61 ∷ (x ++ 1 ∷ []))
unfolding digits
body_text m =
    let e = ends (body_kind m.body) (fields_of (header_slots m.header ++ body_slots m.body)) in
    (e.0, ap (λ (t : List ℕ). 51 ∷ 53 ∷ 61 ∷ t) e.1)
