-- Integers within their range.
use Rattle.std.proofs.Common.{◌≡◌, ℕ, ◌≤◌, Bool, true, false, List, Option, None, Some, refl, arith}
use Rattle.std.specs.Prelude.{◌&&◌, nat_le, nat_lt, length, if◌then◌else◌, Result, Ok, Err, IfSome}
use Rattle.std.specs.Char.{is_ascii_digit}
use Rattle.std.specs.List.{list_all}
use Rattle.std.specs.Str.Parse.{digits_value}
use Rattle.std.proofs.lemmas.Bool.Decides.{nat_tests}
use Rattle.fix_fields.specs.Forms.{integer_in, within}
use Rattle.fix_fields.specs.declared.value.ValueFault.{ValueFault}
use Rattle.fix_fields.specs.declared.value.ValueFault.TheVariants.{Format, Range}

abbrev chosen : Bool → Result ℕ ValueFault → ValueFault → Result ℕ ValueFault
chosen b r fault = if b then r else Err fault

within_ok : (low high v n : ℕ) → within low high v ≡ Ok n → (low ≤ n) × (n ≤ high)
within_ok low high v n is = by (nat_le low v) refl (nat_le v high) refl is
  where
    by : (a : Bool) → nat_le low v ≡ a → (b : Bool) → nat_le v high ≡ b → chosen (a && b) (Ok v) Range ≡ Ok n → (low ≤ n) × (n ≤ high)
    by true p true q e =
        let same : v ≡ n = cc in
        (grind (arith, nat_tests), grind (arith, nat_tests))
    by true p false q e = absurd (cc)
    by false p b q e = absurd (cc)

pub integer_within : (low high n : ℕ) (text : List ℕ) → integer_in low high text ≡ Ok n → (low ≤ n) × (n ≤ high)
unfolding integer_in
integer_within low high n text is = by (nat_lt 0 (length text) && list_all is_ascii_digit text) is
  where
    by : (a : Bool) → chosen a (within low high (digits_value 10 text)) Format ≡ Ok n → (low ≤ n) × (n ≤ high)
    by true e = within_ok low high (digits_value 10 text) n e
    by false e = absurd (cc)
