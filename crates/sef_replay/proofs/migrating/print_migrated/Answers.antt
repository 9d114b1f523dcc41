use Rattle.sqlite.specs.Held.{state}
use Rattle.std.proofs.Common.{inl, subst, sym, ◌∙◌}
use Rattle.sef_replay.specs.declared.failure.Failure.{Failure}
use Rattle.sef_replay.specs.Day.{IsFailureOf}
use Rattle.sef_replay.proofs.Causes.{is_other, is_refused, never_other, refused_at_last}
use Rattle.sef_replay.proofs.Older.{clean_before, either_begun, either_day, failure_at_last, leaves_still, of_err, of_ok, survives_printing}
use Rattle.sef_replay.proofs.Kept.{as_it_was}
use Rattle.sef_replay.proofs.Stops.{fault_stops, stopped_at_last}
use Rattle.sef_replay.proofs.migrating.print_migrated.Goals as goal

pub returns-in-Ok-clause-emitted : goal.returns-in-Ok-clause-emitted
returns-in-Ok-clause-emitted g c =
    of_ok c.print_day.result _ _ _ c.print_day.ensures.emitted c.print_day.ensures.crash
    (λ back emitted s clean. either_day _ (state g.S.Store c.args.conn) (state g.S.Store c.in-Ok.conn) (c.in-Ok.ensures.third (clean_before _ _ _ s clean)) (emitted clean))

pub returns-in-Ok-clause-fault : goal.returns-in-Ok-clause-fault
returns-in-Ok-clause-fault g c =
    of_err c.print_day.result _ _ _ c.print_day.ensures.fault c.print_day.ensures.crash_err
    (λ e why s clean. failure_at_last (state g.S.Store c.args.conn) (state g.S.Store c.in-Ok.conn) e.0 (c.in-Ok.ensures.third (clean_before _ _ _ s clean)) (why clean))

pub returns-in-Ok-clause-crash : goal.returns-in-Ok-clause-crash
returns-in-Ok-clause-crash g c =
    of_ok c.print_day.result _ _ _ c.print_day.ensures.crash c.print_day.ensures.crash
    (λ back s _. survives_printing (state g.S.Store c.args.conn) (state g.S.Store c.in-Ok.conn) (state g.S.Store back) c.in-Ok.ensures.crash s)

pub returns-in-Ok-clause-durable : goal.returns-in-Ok-clause-durable
returns-in-Ok-clause-durable g c =
    of_ok c.print_day.result _ _ _ c.print_day.ensures.crash c.print_day.ensures.crash
    (λ back s _ clean. leaves_still (state g.S.Store c.args.conn) (state g.S.Store c.in-Ok.conn) (state g.S.Store back) clean (c.in-Ok.ensures.durable (clean_before _ _ _ s clean)) s)

pub returns-in-Ok-clause-crash_err : goal.returns-in-Ok-clause-crash_err
returns-in-Ok-clause-crash_err g c =
    of_err c.print_day.result _ _ _ c.print_day.ensures.crash_err c.print_day.ensures.crash_err
    (λ e s _. survives_printing (state g.S.Store c.args.conn) (state g.S.Store c.in-Ok.conn) (state g.S.Store e.1) c.in-Ok.ensures.crash s)

pub returns-in-Ok-clause-cause : goal.returns-in-Ok-clause-cause
returns-in-Ok-clause-cause g c =
    let up = c.in-Ok.ensures in
    of_err c.print_day.result _ _ _ c.print_day.ensures.cause c.print_day.ensures.crash_err
    (λ e why s clean is. refused_at_last (state g.S.Store c.args.conn) (state g.S.Store c.in-Ok.conn) (state g.S.Store e.1) (up.third (clean_before _ _ _ s clean)) up.crash.counts up.crash.limit (why clean is))

pub returns-in-Err-clause-cause : goal.returns-in-Err-clause-cause
returns-in-Err-clause-cause g c clean is = inl (c.in-Err.ensures.cause clean (is_refused c.in-Err.fault (sym c.from.ensures ∙ is)))

-- a trail that was brought up is of version 3
pub returns-in-Ok-clause-understood : goal.returns-in-Ok-clause-understood
returns-in-Ok-clause-understood g c =
    of_err c.print_day.result _ _ _ c.print_day.ensures.fault c.print_day.ensures.crash_err
    (λ e why s clean is. never_other (state g.S.Store c.args.conn) (state g.S.Store c.in-Ok.conn) (c.in-Ok.ensures.third (clean_before _ _ _ s clean)) (subst (λ (f : Failure). IsFailureOf (state g.S.Store c.in-Ok.conn).now f) is (why clean)))

pub returns-in-Err-clause-understood : goal.returns-in-Err-clause-understood
returns-in-Err-clause-understood g c clean is = c.in-Err.ensures.understood clean (is_other c.in-Err.fault (sym c.from.ensures ∙ is))

pub returns-in-Ok-clause-begun : goal.returns-in-Ok-clause-begun
returns-in-Ok-clause-begun g c =
    of_err c.print_day.result _ _ _ c.print_day.ensures.begun c.print_day.ensures.crash_err
    (λ e begun s clean is. either_begun _ _ (state g.S.Store c.args.conn) (state g.S.Store c.in-Ok.conn) (c.in-Ok.ensures.third (clean_before _ _ _ s clean)) (begun clean is))

pub returns-in-Err-clause-begun : goal.returns-in-Err-clause-begun
returns-in-Err-clause-begun g c clean is = inl (as_it_was _)

pub returns-in-Ok-clause-stopped : goal.returns-in-Ok-clause-stopped
returns-in-Ok-clause-stopped g c =
    let up = c.in-Ok.ensures in
    of_err c.print_day.result _ _ _ c.print_day.ensures.stopped c.print_day.ensures.crash_err
    (λ e why s clean. stopped_at_last (state g.S.Store c.args.conn) (state g.S.Store c.in-Ok.conn) (state g.S.Store e.1) e.0 (up.third (clean_before _ _ _ s clean)) up.crash.counts up.crash.limit (why clean))

pub returns-in-Err-clause-stopped : goal.returns-in-Err-clause-stopped
returns-in-Err-clause-stopped g c clean = rw c.from.ensures (inl (fault_stops c.in-Err.fault _ _))
