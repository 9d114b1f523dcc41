use Rattle.desk_log.proofs.Found.{found_are_there, none_is_left, part_is_found}
use Rattle.desk_log.proofs.laws.found_are_there.Goals as goal

pub returns-clause-found : goal.returns-clause-found
returns-clause-found c = found_are_there

pub returns-clause-part : goal.returns-clause-part
returns-clause-part c = part_is_found

pub returns-clause-left : goal.returns-clause-left
returns-clause-left c = none_is_left
