use Rattle.desk_log.proofs.OneLine.{texts_are_lines}
use Rattle.desk_log.proofs.laws.texts_are_lines.Goals as goal

pub returns : goal.returns
returns c = texts_are_lines
