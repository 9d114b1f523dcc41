-- The bytes of a price's field.
use Rattle.std.proofs.Common.{◌≡◌, ◌++◌, ◌∷◌, ◌+◌, ◌-◌, ◌≤◌, ◌∙◌, [], ℕ, List, length, ap, sym, subst, arith, refl}
use Rattle.std.specs.Fmt.{digits}
use Rattle.std.proofs.lemmas.List.{length_push, take_at}
use Rattle.fix_fields.specs.Fields.{field_text}
use Rattle.day_tables.specs.Values.{value_in}

-- the bytes of the field
abbrev bytes : List ℕ → List ℕ
bytes value = 52 ∷ (52 ∷ (61 ∷ (value ++ 1 ∷ [])))

is_bytes : (value : List ℕ) → field_text 44 value ≡ bytes value
unfolding digits
is_bytes value = refl

long : (value : List ℕ) → length (bytes value) ≡ length value + 4
long value = let pushed : length (value ++ 1 ∷ []) ≡ length value + 1 = length_push value 1 in omega (arith, pushed)

pub has_length : (value : List ℕ) → 4 ≤ length (field_text 44 value)
has_length value = subst (λ (field : List ℕ). 4 ≤ length field) (sym (is_bytes value)) (let is : length (bytes value) ≡ length value + 4 = long value in omega (arith, is))

pub has_value : (value : List ℕ) → value_in (field_text 44 value) ≡ value
has_value value = ap value_in (is_bytes value) ∙ take_at value (1 ∷ []) (length (bytes value) - 4) (let is : length (bytes value) ≡ length value + 4 = long value in omega (arith, is))
