use Rattle.page_text.proofs.Decoded.{values_are_read_back}
use Rattle.page_text.proofs.laws.values_are_read_back.Goals as goal

pub returns : goal.returns
returns c = values_are_read_back
