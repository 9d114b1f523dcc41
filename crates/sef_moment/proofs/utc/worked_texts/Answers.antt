use Rattle.std.proofs.Common.{refl}
use Rattle.jiff_core.specs.Calendar.{day_count, days_of_years, days_of_months}
use Rattle.sef_moment.specs.Calendar.{day_number}
use Rattle.sef_moment.specs.Utc.{moment_of}
use Rattle.sef_moment.specs.UtcTest.{is_utc}
use Rattle.sef_moment.proofs.utc.worked_texts.Goals as goal

pub returns-clause-plain : goal.returns-clause-plain
unfolding is_utc moment_of day_number day_count days_of_years days_of_months
returns-clause-plain c = (refl, refl)

pub returns-clause-leap_second : goal.returns-clause-leap_second
unfolding is_utc moment_of day_number day_count days_of_years days_of_months
returns-clause-leap_second c = (refl, refl)

pub returns-clause-no_such_day : goal.returns-clause-no_such_day
unfolding is_utc
returns-clause-no_such_day c = refl

pub returns-clause-fraction : goal.returns-clause-fraction
unfolding moment_of day_number day_count days_of_years days_of_months
returns-clause-fraction c = refl

pub returns-clause-too_early : goal.returns-clause-too_early
unfolding is_utc
returns-clause-too_early c = refl

pub returns-clause-last : goal.returns-clause-last
unfolding is_utc moment_of day_number day_count days_of_years days_of_months
returns-clause-last c = (refl, refl)

pub returns-clause-too_late : goal.returns-clause-too_late
unfolding is_utc moment_of day_number day_count days_of_years days_of_months
returns-clause-too_late c = refl
