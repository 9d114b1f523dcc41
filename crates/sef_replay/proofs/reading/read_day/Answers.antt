use Rattle.std.proofs.Common.{◌≡◌, rules, subst, sym, ◌∙◌}
use Rattle.sqlite.specs.Held.{state}
use Rattle.sqlite.specs.State.{HasCleanDisk}
use Rattle.audit_trail.specs.Trail.{store}
use Rattle.sef_replay.specs.Stops.{StopsFor}
use Rattle.sef_replay.proofs.Causes.{is_other, is_refused}
use Rattle.sef_replay.proofs.Stops.{day_stopped, stops_printing}
use Rattle.sef_replay.proofs.reading.read_day.Goals as goal

pub returns-in-Err-clause-cause : goal.returns-in-Err-clause-cause
returns-in-Err-clause-cause g c clean is = c.in-Err.ensures.cause clean (is_refused c.in-Err.fault (sym c.from.ensures ∙ is))

pub returns-in-Err-clause-understood : goal.returns-in-Err-clause-understood
returns-in-Err-clause-understood g c clean is = c.in-Err.ensures.understood clean (is_other c.in-Err.fault (sym c.from.ensures ∙ is))

pub returns-in-Err-read_kept-clause-stopped : goal.returns-in-Err-read_kept-clause-stopped
returns-in-Err-read_kept-clause-stopped g c clean =
    let last : HasCleanDisk (store g.S.Store c.read_kept.new.trail) = search rules in
    subst (λ back. StopsFor c.in-Err-read_kept.stop (state g.S.Store c.args.conn) (state g.S.Store back)) (sym c.into_connection-in-Err-read_kept.ensures)
    (day_stopped (state g.S.Store c.args.conn) _ (store g.S.Store c.read_kept.new.trail) _ _ _ _ c.in-Err-read_kept.stop c.in-Ok.ensures.found c.in-Ok.ensures.crash
    c.read_kept.ensures.crash (stops_printing _ c.in-Err-read_kept.stop c.in-Err-read_kept.ensures.stopped) last)
