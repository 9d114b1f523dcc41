use Rattle.fix_decoder.proofs.OneLaw.{one_or_other, not_both}
use Rattle.fix_decoder.proofs.laws.spelled_or_faulty.Goals as goal

pub returns : goal.returns
returns c = record { either = one_or_other; not_both = not_both }
