-- Fields spell a message or have a first fault, and not both.
use Rattle.std.proofs.Common.{◌≡◌, List, refl, sym, ◌∙◌, Option, Some, None, inl, inr, rules, ◌⊎◌}
use Rattle.fix_fields.specs.Fields.{Entry}
use Rattle.fix_validation.specs.declared.faults.DictFault.{DictFault}
use Rattle.fix_dictionary.specs.declared.messages.Message.{Message}
use Rattle.fix_decoder.specs.Messages.{Spells, fault_in, message_in, HasFault}

some_not_none : {X : Type 0} (x : X) → Some x ≡ None → ⊥
some_not_none x h = search (h, rules)

pub not_both : (fields : List Entry) (m : Message) (fault : DictFault) → Spells m fields → HasFault fault fields → ⊥
not_both fields m fault s h = some_not_none fault (sym h ∙ s.0)

one_of : (fields : List Entry) (o : Option DictFault) → fault_in fields ≡ o → ((m : Message) × Spells m fields) ⊎ ((fault : DictFault) × HasFault fault fields)
one_of fields None e = inl (message_in fields, (e, refl))
one_of fields (Some fault) e = inr (fault, e)

pub one_or_other : (fields : List Entry) → ((m : Message) × Spells m fields) ⊎ ((fault : DictFault) × HasFault fault fields)
one_or_other fields = one_of fields (fault_in fields) refl
