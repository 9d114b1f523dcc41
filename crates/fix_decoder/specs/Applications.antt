-- The fields of an application message without a header: they spell what they spell after a valid one.
use Rattle.std.specs.Prelude.{◌≡◌, if◌then◌else◌, List, [], ◌∷◌, ◌++◌, Option, None, Some, codes}
use Rattle.fix_fields.specs.Fields.{Entry}
use Rattle.fix_validation.specs.declared.faults.DictFault.{DictFault}
use Rattle.fix_validation.specs.declared.faults.DictFault.TheVariants.{Format}
use Rattle.fix_dictionary.specs.declared.messages.App.{App}
use Rattle.fix_dictionary.specs.declared.messages.Body.{Body}
use Rattle.fix_dictionary.specs.declared.messages.Body.TheVariants as body
use Rattle.fix_dictionary.specs.Kinds.{is_session}
use Rattle.fix_decoder.specs.Messages.{type_in, fault_in, message_in}

-- a valid header with its required fields alone
abbrev pub plain_header : List Entry
plain_header = (49, codes "S") ∷ (56, codes "T") ∷ (34, codes "1") ∷ (52, codes "19700101-00:00:00.000") ∷ []

abbrev pub IsApp : Body → Type 0
IsApp (body.App a) = Unit {0}
IsApp (body.Admin m) = ⊥

-- the first fault; a message of the session without a header is one
abbrev pub app_fault_in : List Entry → Option DictFault
app_fault_in fields = if is_session (type_in fields) then Some (Format 35) else fault_in (plain_header ++ fields)

-- the fields have no fault, and spell this message
abbrev pub SpellsApp : App → List Entry → Type 0
SpellsApp a fields = (app_fault_in fields ≡ None) × (body.App a ≡ (message_in (plain_header ++ fields)).body)
