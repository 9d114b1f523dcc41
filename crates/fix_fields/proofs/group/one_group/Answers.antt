use Rattle.fix_fields.proofs.GroupLemmas.{one_group}
use Rattle.fix_fields.proofs.group.one_group.Goals as goal

pub returns : goal.returns
returns c = one_group
