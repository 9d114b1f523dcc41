-- The values of fields as numbers and texts.
use Rattle.std.specs.Prelude.{ℕ, ℤ, pos, ◌==◌, Bool, if◌then◌else◌, List, [], slice_index, Option, None, Some, Result, Ok, Err}
use Rattle.fix_fields.specs.declared.value.ValueFault.{ValueFault}
use Rattle.fix_fields.specs.Fields.{Entry, value_of}
use Rattle.fix_fields.specs.Forms.{integer_in, price_of, quantity_of, amount_of}
use Rattle.fix_dictionary.specs.declared.values.Side.{Side}
use Rattle.fix_dictionary.specs.declared.values.Side.TheVariants.{Buy, Sell}

abbrev pub ok_or : {X : Type 0} → X → Result X ValueFault → X
ok_or other (Ok x) = x
ok_or other (Err e) = other

abbrev pub some_or : {X : Type 0} → X → Option X → X
some_or other (Some x) = x
some_or other None = other

abbrev pub stated : {X : Type 0} → (List ℕ → X) → Option (List ℕ) → Option X
stated read None = None
stated read (Some bytes) = Some (read bytes)

-- the value of the field with the tag
abbrev pub bytes_at : ℕ → List Entry → List ℕ
bytes_at tag fields = some_or [] (value_of tag fields)

-- the number in a value of each form
abbrev pub number_in : List ℕ → ℕ
number_in bytes = ok_or 0 (integer_in 0 999_999_999 bytes)

abbrev pub sequence_number_in : List ℕ → ℕ
sequence_number_in bytes = ok_or 1 (integer_in 1 999_999_999 bytes)

abbrev pub new_sequence_number_in : List ℕ → ℕ
new_sequence_number_in bytes = ok_or 1 (integer_in 1 1_000_000_000 bytes)

abbrev pub interval_in : List ℕ → ℕ
interval_in bytes = ok_or 0 (integer_in 0 3600 bytes)

abbrev pub quantity_in : List ℕ → ℕ
quantity_in bytes = ok_or 1 (quantity_of bytes)

abbrev pub amount_in : List ℕ → ℕ
amount_in bytes = ok_or 0 (amount_of bytes)

abbrev pub price_in : List ℕ → ℤ
price_in bytes = ok_or (pos 0) (price_of bytes)

abbrev pub character_in : List ℕ → ℕ
character_in bytes = slice_index bytes 0

abbrev pub side_in : List ℕ → Side
side_in bytes = if slice_index bytes 0 == 49 then Buy else Sell

abbrev pub flag_in : List ℕ → Bool
flag_in bytes = slice_index bytes 0 == 89
