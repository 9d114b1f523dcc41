-- The form of each row of a table, and the fault of a value in that form.
use Rattle.std.specs.Prelude.{ℕ, Bool, true, false, if◌then◌else◌, List, Option, None, Some, Result, Ok, Err}
use Rattle.fix_fields.specs.declared.value.ValueFault.{ValueFault}
use Rattle.fix_fields.specs.declared.value.ValueFault.TheVariants.{Format, Range}
use Rattle.fix_fields.specs.Forms.{integer_in, price_of, quantity_of, amount_of, printable_of}
use Rattle.fix_validation.specs.declared.table.Form.{Form}
use Rattle.fix_validation.specs.declared.table.Form.TheVariants.{Kind, Integer, End, Price, Quantity, Amount, Identifier, Version, Character, OneOrTwo, Flag, Utc, Printable}
use Rattle.fix_validation.specs.declared.table.Row.{Row}
use Rattle.fix_dictionary.specs.Values.{is_text, is_character, is_either, ends}
use Rattle.sef_moment.specs.UtcTest.{is_utc}

-- a row required in each message of the type, and an optional one
abbrev pub needs : ℕ → Form → Row
needs tag form = record { tag = tag; required = true; form = form; group = 0 }

abbrev pub takes : ℕ → Form → Row
takes tag form = record { tag = tag; required = false; form = form; group = 0 }

-- a row of the instances of a group, which is named by its count field
abbrev pub inside : ℕ → Row → Row
inside group row = record { tag = row.tag; required = row.required; form = row.form; group = group }

abbrev pub why : {X : Type 0} → Result X ValueFault → Option ValueFault
why (Ok x) = None
why (Err fault) = Some fault

-- no such text is a fault of the form, and a longer one is out of range
abbrev pub text_fault : ℕ → List ℕ → Option ValueFault
text_fault longest bytes = why (printable_of longest bytes)

abbrev pub unless : Bool → ValueFault → Option ValueFault
unless right fault = if right then None else Some fault

-- the only admitted value is `9`
abbrev pub version_fault : List ℕ → Option ValueFault
version_fault bytes = if is_text 64 bytes then unless (is_either 57 57 bytes) Range else text_fault 64 bytes

-- a side is the character 1 or 2
abbrev pub side_fault : List ℕ → Option ValueFault
side_fault bytes = if is_character bytes then unless (is_either 49 50 bytes) Range else Some Format

-- the last number of a resend request that begins with another
abbrev pub end_fault : ℕ → Result ℕ ValueFault → Option ValueFault
end_fault begin (Ok end) = unless (ends begin end) Range
end_fault begin (Err fault) = Some fault

-- the fault of a value
abbrev pub value_fault : Form → List ℕ → Option ValueFault
value_fault Kind bytes = unless (is_text 64 bytes) Format
value_fault (Integer low high) bytes = why (integer_in low high bytes)
value_fault (End begin) bytes = end_fault begin (integer_in 0 999_999_999 bytes)
value_fault Price bytes = why (price_of bytes)
value_fault Quantity bytes = why (quantity_of bytes)
value_fault Amount bytes = why (amount_of bytes)
value_fault Identifier bytes = text_fault 64 bytes
value_fault Version bytes = version_fault bytes
value_fault Character bytes = unless (is_character bytes) Format
value_fault OneOrTwo bytes = side_fault bytes
value_fault Flag bytes = unless (is_either 89 78 bytes) Format
value_fault Utc bytes = unless (is_utc bytes) Format
value_fault Printable bytes = text_fault 200 bytes
