use Rattle.std.proofs.Common.{rules, subst, sym, ◌∙◌}
use Rattle.sqlite.specs.Held.{state}
use Rattle.sqlite.specs.State.{HasCleanDisk}
use Rattle.audit_trail.specs.Trail.{store}
use Rattle.sef_replay.specs.declared.failure.Failure.TheVariants.{Trail as TrailRefused}
use Rattle.sef_replay.specs.Asked.{IsRefusalKept}
use Rattle.sef_replay.specs.Stops.{StopsAfter}
use Rattle.sef_replay.proofs.Asked.{asked_of, begun_of, failure_of}
use Rattle.sef_replay.proofs.Causes.{is_other, is_refused, never_stated}
use Rattle.sef_replay.proofs.Stops.{emitting_stopped}
use Rattle.sef_replay.proofs.asking.print_asked.Goals as goal

pub returns-in-Ok-print_kept-clause-emitted : goal.returns-in-Ok-print_kept-clause-emitted
returns-in-Ok-print_kept-clause-emitted g c clean =
    let last : HasCleanDisk (store g.S.Store c.print_kept.new.trail) = search rules in
    asked_of _ _ _ _ _ _ _ _ c.in-Ok.ensures.found c.print_kept.ensures.crash (c.in-Ok-print_kept.ensures.emitted last) last

pub returns-in-Err-print_kept-clause-fault : goal.returns-in-Err-print_kept-clause-fault
returns-in-Err-print_kept-clause-fault g c clean =
    let last : HasCleanDisk (store g.S.Store c.print_kept.new.trail) = search rules in
    failure_of _ _ _ _ _ _ _ _ _ _ c.in-Err-print_kept.failure c.in-Ok.ensures.found c.print_kept.ensures.crash (c.in-Err-print_kept.ensures.refused last) last

pub returns-in-Err-print_kept-clause-begun : goal.returns-in-Err-print_kept-clause-begun
returns-in-Err-print_kept-clause-begun g c clean is =
    let last : HasCleanDisk (store g.S.Store c.print_kept.new.trail) = search rules in
    begun_of _ _ _ _ _ _ _ _ _ c.in-Ok.ensures.found c.print_kept.ensures.crash (c.in-Err-print_kept.ensures.begun last is) last

pub returns-in-Err-clause-cause : goal.returns-in-Err-clause-cause
returns-in-Err-clause-cause g c clean is = c.in-Err.ensures.cause clean (is_refused c.in-Err.fault (sym c.from.ensures ∙ is))

pub returns-in-Err-print_kept-clause-cause : goal.returns-in-Err-print_kept-clause-cause
returns-in-Err-print_kept-clause-cause g c clean =
    let last : HasCleanDisk (store g.S.Store c.print_kept.new.trail) = search rules in
    never_stated (IsRefusalKept _ _ _ _ _ _) c.in-Err-print_kept.failure (TrailRefused 1) (λ none. none) (c.in-Err-print_kept.ensures.refused last)

pub returns-in-Err-clause-understood : goal.returns-in-Err-clause-understood
returns-in-Err-clause-understood g c clean is = c.in-Err.ensures.understood clean (is_other c.in-Err.fault (sym c.from.ensures ∙ is))

pub returns-in-Err-print_kept-clause-understood : goal.returns-in-Err-print_kept-clause-understood
returns-in-Err-print_kept-clause-understood g c clean =
    let last : HasCleanDisk (store g.S.Store c.print_kept.new.trail) = search rules in
    never_stated (IsRefusalKept _ _ _ _ _ _) c.in-Err-print_kept.failure (TrailRefused 4) (λ none. none) (c.in-Err-print_kept.ensures.refused last)

pub returns-in-Err-print_kept-clause-stopped : goal.returns-in-Err-print_kept-clause-stopped
returns-in-Err-print_kept-clause-stopped g c clean =
    let last : HasCleanDisk (store g.S.Store c.print_kept.new.trail) = search rules in
    subst (λ back. StopsAfter c.in-Err-print_kept.failure (state g.S.Store c.args.conn) (state g.S.Store back)) (sym c.into_connection-in-Err-print_kept.ensures)
    (emitting_stopped (state g.S.Store c.args.conn) _ (store g.S.Store c.print_kept.new.trail) _ _ _ _ c.in-Err-print_kept.failure c.in-Ok.ensures.found c.in-Ok.ensures.crash
    c.print_kept.ensures.crash c.in-Err-print_kept.ensures.stopped last)
