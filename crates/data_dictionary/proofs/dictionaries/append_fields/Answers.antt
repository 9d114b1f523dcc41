use Rattle.data_dictionary.specs.Dictionaries.{fields_text}
use Rattle.data_dictionary.proofs.Chains.{so_ok, three}
use Rattle.data_dictionary.proofs.dictionaries.append_fields.Goals as goal

pub returns : goal.returns
unfolding fields_text
returns c = so_ok _ _ _ (three _ _ _ _ _ _ _ c.in_ok-append.ensures c.in_ok-append_each_field.ensures) c.append-2.ensures
