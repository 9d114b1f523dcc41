use Rattle.venue_rules.proofs.EveryRun.{lawful}
use Rattle.venue_rules.proofs.laws.every_report_is_numbered.Goals as goal

pub returns-clause-reports : goal.returns-clause-reports
returns-clause-reports c = λ m is. (lawful m is).reports_are_numbered

pub returns-clause-trades : goal.returns-clause-trades
returns-clause-trades c = λ m is. (lawful m is).trades_are_reported

pub returns-clause-places : goal.returns-clause-places
returns-clause-places c = λ m is. (lawful m is).numbers_are_places
