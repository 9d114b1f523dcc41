use Rattle.sqlite.specs.State.{HasCleanDisk, State}
use Rattle.audit_trail.specs.Trail.{store}
use Rattle.sef_replay.specs.Stops.{RefusesDay}
use Rattle.sef_replay.proofs.Kept.{day_emitted}
use Rattle.sef_replay.proofs.Stops.{stops_printer}
use Rattle.sef_replay.proofs.printing.print_kept.Goals as goal

pub returns-in-Ok-clause-emitted : goal.returns-in-Ok-clause-emitted
returns-in-Ok-clause-emitted g c clean = day_emitted _ _ _ _ _ (c.in_ok-venue.ensures.ends clean) c.in-Ok.ensures.emitted

pub returns-in_err-venue-clause-stopped : goal.returns-in_err-venue-clause-stopped
returns-in_err-venue-clause-stopped g c =
    let old : State = store g.S.Store c.args.trail.now in
    let new : State = store g.S.Store c.venue_kept.new.trail in
    stops_printer c.from_residual.result (HasCleanDisk new → RefusesDay c.args.trail.now.files c.args.trail.now.delays old new) _ c.from_residual.ensures.1 c.in_err-venue.ensures.stopped
