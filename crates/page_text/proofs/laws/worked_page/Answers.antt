use Rattle.std.proofs.Common.{refl}
use Rattle.page_text.proofs.laws.worked_page.Goals as goal

pub returns : goal.returns
returns c = refl
