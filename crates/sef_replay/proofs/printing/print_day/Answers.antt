use Rattle.std.proofs.Common.{◌≡◌, rules, subst, sym, ◌∙◌}
use Rattle.sqlite.specs.Held.{state}
use Rattle.sqlite.specs.State.{HasCleanDisk}
use Rattle.audit_trail.specs.Trail.{store}
use Rattle.sef_replay.proofs.Causes.{is_other, is_refused}
use Rattle.sef_replay.specs.declared.failure.Stop.TheVariants.{Memory}
use Rattle.sef_replay.proofs.Kept.{day_begun, day_printed}
use Rattle.sef_replay.specs.Stops.{StopsFor}
use Rattle.sef_replay.proofs.Stops.{day_stopped}
use Rattle.sef_replay.proofs.printing.print_day.Goals as goal

pub returns-in-Ok-print_kept-clause-emitted : goal.returns-in-Ok-print_kept-clause-emitted
returns-in-Ok-print_kept-clause-emitted g c clean =
    let last : HasCleanDisk (store g.S.Store c.print_kept.new.trail) = search rules in
    day_printed _ _ _ _ _ _ _ _ c.in-Ok.ensures.found c.print_kept.ensures.crash c.in-Ok-print_kept.ensures.emitted last

pub returns-in-Err-clause-cause : goal.returns-in-Err-clause-cause
returns-in-Err-clause-cause g c clean is = c.in-Err.ensures.cause clean (is_refused c.in-Err.fault (sym c.from.ensures ∙ is))

pub returns-in-Err-clause-understood : goal.returns-in-Err-clause-understood
returns-in-Err-clause-understood g c clean is = c.in-Err.ensures.understood clean (is_other c.in-Err.fault (sym c.from.ensures ∙ is))

pub returns-in-Err-print_kept-clause-begun : goal.returns-in-Err-print_kept-clause-begun
returns-in-Err-print_kept-clause-begun g c clean is =
    let last : HasCleanDisk (store g.S.Store c.print_kept.new.trail) = search rules in
    let wanting : c.in-Err-print_kept.stop ≡ Memory = cc in
    day_begun _ _ _ _ _ _ _ _ _ c.in-Ok.ensures.found c.print_kept.ensures.crash (c.in-Err-print_kept.ensures.begun last wanting) last

pub returns-in-Err-print_kept-clause-stopped : goal.returns-in-Err-print_kept-clause-stopped
returns-in-Err-print_kept-clause-stopped g c clean =
    let last : HasCleanDisk (store g.S.Store c.print_kept.new.trail) = search rules in
    subst (λ back. StopsFor c.in-Err-print_kept.stop (state g.S.Store c.args.conn) (state g.S.Store back)) (sym c.into_connection-in-Err-print_kept.ensures)
    (day_stopped (state g.S.Store c.args.conn) _ (store g.S.Store c.print_kept.new.trail) _ _ _ _ c.in-Err-print_kept.stop c.in-Ok.ensures.found c.in-Ok.ensures.crash
    c.print_kept.ensures.crash c.in-Err-print_kept.ensures.stopped last)
