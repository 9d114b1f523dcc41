use Rattle.page_text.proofs.Filling.{values_leave_tags_alone}
use Rattle.page_text.proofs.laws.values_leave_tags_alone.Goals as goal

pub returns : goal.returns
returns c = values_leave_tags_alone
