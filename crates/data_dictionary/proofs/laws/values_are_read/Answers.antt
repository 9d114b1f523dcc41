use Rattle.std.proofs.Common.{refl}
use Rattle.fix_fields.specs.Forms as forms
use Rattle.data_dictionary.specs.Fields.{fields}
use Rattle.data_dictionary.specs.MessageTypes.{application_types, session_types}
use Rattle.data_dictionary.specs.Values.{values_of}
use Rattle.data_dictionary.proofs.laws.values_are_read.Goals as goal

pub returns : goal.returns
unfolding session_types application_types fields values_of forms.integer_in
returns c = (refl, refl)
