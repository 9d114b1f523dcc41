use Rattle.std.proofs.Common.{refl}
use Rattle.data_dictionary.specs.Fields.{fields}
use Rattle.data_dictionary.specs.Layout.{application_tags, frame_begin, frame_end, transport_tags}
use Rattle.data_dictionary.specs.MessageTypes.{application_types, session_types}
use Rattle.data_dictionary.proofs.laws.names_state_fields.Goals as goal

pub returns-clause-transport : goal.returns-clause-transport
unfolding transport_tags frame_begin frame_end session_types fields
returns-clause-transport c = (refl, refl)

pub returns-clause-application : goal.returns-clause-application
unfolding application_tags application_types fields
returns-clause-application c = (refl, refl)
