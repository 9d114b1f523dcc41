use Rattle.page_text.proofs.Filling.{parts_follow_parts}
use Rattle.page_text.proofs.laws.parts_follow_parts.Goals as goal

pub returns : goal.returns
returns c = parts_follow_parts
