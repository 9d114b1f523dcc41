-- Bytes read as an identifier or as a text: their fault.
use Rattle.std.proofs.Common.{◌≡◌, ℕ, List, sym, ap, Result, Ok, Err, MatchResult}
use Rattle.std.specs.Result.{result_err}
use Rattle.fix_fields.specs.Forms.{printable_of}
use Rattle.fix_fields.specs.declared.value.ValueFault.{ValueFault}
use Rattle.fix_validation.specs.Table.{text_fault, why}

-- what is read of bytes, by its definition
abbrev pub Reads : {V : Type 0} → (V → List ℕ) → ℕ → List ℕ → Result V ValueFault → Type 0
Reads now longest bytes read = MatchResult read (λ value. printable_of longest bytes ≡ Ok (now value)) (λ fault. printable_of longest bytes ≡ Err fault)

pub read_fault : {V : Type 0} (now : V → List ℕ) (longest : ℕ) (bytes : List ℕ) (read : Result V ValueFault) → Reads now longest bytes read → result_err read ≡ text_fault longest bytes
read_fault now longest bytes (Ok value) is = sym (ap why is)
read_fault now longest bytes (Err fault) is = sym (ap why is)
