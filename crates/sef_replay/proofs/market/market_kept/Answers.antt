use Rattle.std.proofs.Common.{◌≡◌, rules}
use Rattle.sef_replay.proofs.Stops.{instruments_stop, stops_caller}
use Rattle.sef_replay.proofs.market.market_kept.Goals as goal

pub returns-in_err-instruments-clause-stopped : goal.returns-in_err-instruments-clause-stopped
returns-in_err-instruments-clause-stopped c =
    let same : c.as_slice-2.result.now ≡ c.args.files.now.instruments = search rules in
    stops_caller c.from_residual-in_err-instruments.result _ _ c.from_residual-in_err-instruments.ensures.1
    (instruments_stop c.args.files.now _ c.args.delays.now _ same c.in_err-instruments.ensures.stopped)
