use Rattle.fix_decoder.proofs.PrintedLaws.{length_law}
use Rattle.fix_decoder.proofs.laws.printed_is_short.Goals as goal

pub returns : goal.returns
returns c = length_law
