-- A reader gives what the code finds.
use Rattle.std.proofs.Common.{◌≡◌, ◌≢◌, ℕ, List, Result, Ok, Err, sym, ap, ◌∙◌, subst}
use Rattle.fix_fields.specs.Fields.{Entry, AreFields, fields_text}
use Rattle.fix_fields.specs.Faults.{BodyFault}
use Rattle.fix_fields.specs.declared.fields.FieldFault.{FieldFault}
use Rattle.fix_fields.specs.declared.fields.FieldFault.TheVariants.{NoMemory}
use Rattle.fix_session.specs.Reader.{AreFieldsOf}

abbrev pub OneList : Type 0
OneList = (fields others : List Entry) → AreFields fields → AreFields others → fields_text fields ≡ fields_text others → fields ≡ others

abbrev pub OneFault : Type 0
OneFault = (body : List ℕ) (fault other : FieldFault) → fault ≢ NoMemory → other ≢ NoMemory → BodyFault body fault → BodyFault body other → fault ≡ other

abbrev pub NoFault : Type 0
NoFault = (fields : List Entry) (fault : FieldFault) → fault ≢ NoMemory → AreFields fields → BodyFault (fields_text fields) fault → ⊥

pub fields_are : OneList → NoFault → (body : List ℕ) (read : Result (List Entry) FieldFault) → AreFieldsOf body read → (fields : List Entry) → AreFields fields → body ≡ fields_text fields → read ≡ Ok fields
fields_are one none body (Ok others) h fields are is = ap (λ (fs : List Entry). Ok fs) (one others fields h.0 are (sym h.1 ∙ is))
fields_are one none body (Err fault) h fields are is = absurd (none fields fault h.0 are (subst (λ (b : List ℕ). BodyFault b fault) is h.1))

pub fault_is : OneFault → NoFault → (body : List ℕ) (read : Result (List Entry) FieldFault) → AreFieldsOf body read → (fault : FieldFault) → fault ≢ NoMemory → BodyFault body fault → read ≡ Err fault
fault_is one none body (Ok fields) h fault real bad = absurd (none fields fault real h.0 (subst (λ (b : List ℕ). BodyFault b fault) h.1 bad))
fault_is one none body (Err other) h fault real bad = ap (λ (f : FieldFault). Err f) (one body other fault h.0 real h.1 bad)
