use Rattle.std.proofs.Common.{ap, ◌∙◌}
use Rattle.participants.specs.Table.{related_table}
use Rattle.participants.proofs.participants.Participants.from_rows.Goals as goal

pub invariant_of-result : goal.invariant_of-result
invariant_of-result c = (c.requires, c.in_ok-table.ensures ∙ ap related_table c.deref.ensures.value)
