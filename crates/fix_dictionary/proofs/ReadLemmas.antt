-- Bytes read as an identifier or as a text: whether they are one.
use Rattle.std.proofs.Common.{◌≡◌, ℕ, Bool, true, false, ◌&&◌, List, refl, sym, ap, ◌∙◌, is_ok, Result, Ok, Err, MatchResult, if◌then◌else◌}
use Rattle.std.specs.List.{list_all}
use Rattle.std.specs.Prelude.{length, nat_le, nat_lt}
use Rattle.fix_fields.specs.Forms.{printable_of}
use Rattle.fix_fields.specs.declared.value.ValueFault.{ValueFault}
use Rattle.fix_fields.specs.declared.value.ValueFault.TheVariants.{Format, Range}
use Rattle.fix_dictionary.specs.Values.{is_printable, is_text}

abbrev read_by : Bool → Bool → Bool → List ℕ → Result (List ℕ) ValueFault
read_by some printable short bytes = if some && printable then (if short then Ok bytes else Err Range) else Err Format

is_read : (some printable short : Bool) (bytes : List ℕ) → is_ok (read_by some printable short bytes) ≡ (some && (short && printable))
is_read false printable short bytes = refl
is_read true true true bytes = refl
is_read true true false bytes = refl
is_read true false true bytes = refl
is_read true false false bytes = refl

are_read : (longest : ℕ) (bytes : List ℕ) → is_ok (printable_of longest bytes) ≡ is_text longest bytes
are_read longest bytes = is_read (nat_lt 0 (length bytes)) (list_all is_printable bytes) (nat_le (length bytes) longest) bytes

-- what is read of bytes, by its definition
abbrev pub Reads : {V : Type 0} → (V → List ℕ) → ℕ → List ℕ → Result V ValueFault → Type 0
Reads now longest bytes read = MatchResult read (λ value. printable_of longest bytes ≡ Ok (now value)) (λ fault. printable_of longest bytes ≡ Err fault)

pub read_is_text : {V : Type 0} (now : V → List ℕ) (longest : ℕ) (bytes : List ℕ) (read : Result V ValueFault) → Reads now longest bytes read → is_ok read ≡ is_text longest bytes
read_is_text now longest bytes (Ok value) is = sym (ap is_ok is) ∙ are_read longest bytes
read_is_text now longest bytes (Err fault) is = sym (ap is_ok is) ∙ are_read longest bytes
