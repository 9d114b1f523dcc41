use Rattle.std.proofs.Common.{◌∙◌}
use Rattle.fix_validation.proofs.forms.is_utc.Goals as goal

pub returns : goal.returns
returns c = c.is_ok.ensures.value ∙ c.read_utc.ensures.test
