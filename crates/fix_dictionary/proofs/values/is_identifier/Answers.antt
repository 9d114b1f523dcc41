use Rattle.std.proofs.Common.{◌∙◌}
use Rattle.fix_dictionary.proofs.ReadLemmas.{read_is_text}
use Rattle.fix_dictionary.proofs.values.is_identifier.Goals as goal

pub returns : goal.returns
returns c = c.is_ok.ensures.value ∙ read_is_text (λ value. value.now) 64 c.args.bytes.now c.read_identifier.result c.read_identifier.ensures
