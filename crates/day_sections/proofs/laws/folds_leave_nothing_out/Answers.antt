use Rattle.day_events.specs.declared.event.Event.{Event}
use Rattle.surveillance.specs.declared.alarm.Alarm.{Alarm}
use Rattle.surveillance.specs.declared.pairs.LinkedTrade.{LinkedTrade}
use Rattle.venue_rules.specs.declared.trail.TradeFact.{TradeFact}
use Rattle.day_sections.proofs.Whole.{folds_are_of_one_hour, folds_are_whole, hours_are_whole}
use Rattle.day_sections.proofs.laws.folds_leave_nothing_out.Goals as goal

pub returns-clause-trades : goal.returns-clause-trades
returns-clause-trades c = hours_are_whole TradeFact

pub returns-clause-requests : goal.returns-clause-requests
returns-clause-requests c = hours_are_whole Event

pub returns-clause-hours : goal.returns-clause-hours
returns-clause-hours c = folds_are_of_one_hour

pub returns-clause-linked : goal.returns-clause-linked
returns-clause-linked c = folds_are_whole LinkedTrade

pub returns-clause-alarms : goal.returns-clause-alarms
returns-clause-alarms c = folds_are_whole Alarm
