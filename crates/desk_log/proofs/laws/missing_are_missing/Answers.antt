use Rattle.desk_log.proofs.Missings.{gaps_are_missing, missing_are_missing}
use Rattle.desk_log.proofs.laws.missing_are_missing.Goals as goal

pub returns-clause-first : goal.returns-clause-first
returns-clause-first c = missing_are_missing

pub returns-clause-each : goal.returns-clause-each
returns-clause-each c = gaps_are_missing
