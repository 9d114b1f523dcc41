use Rattle.sef_replay.proofs.Stops.{kept_once, kept_stops}
use Rattle.sef_replay.proofs.runs.rules_again.Goals as goal

pub returns-in-Ok-clause-same : goal.returns-in-Ok-clause-same
returns-in-Ok-clause-same c =
    let day = c.args.day.now in
    kept_once day.files c.as_slice.result.now day.delays.items day.day.participants _ day.day.instruments _ c.as_slice.ensures.value c.requires.kept c.in-Ok.ensures.kept

pub returns-in-Err-clause-memory : goal.returns-in-Err-clause-memory
returns-in-Err-clause-memory c =
    let day = c.args.day.now in
    kept_stops day.files c.as_slice.result.now day.delays.items day.day.participants day.day.instruments c.in-Err.why c.as_slice.ensures.value c.requires.kept c.in-Err.ensures.stopped
