use Rattle.std.proofs.Common.{◌∙◌}
use Rattle.fix_validation.proofs.ReadLemmas.{read_fault}
use Rattle.fix_validation.proofs.forms.printable_fault.Goals as goal

pub returns : goal.returns
returns c = c.err.ensures.value ∙ read_fault (λ value. value.now) 200 c.args.bytes.now c.read_text.result c.read_text.ensures
