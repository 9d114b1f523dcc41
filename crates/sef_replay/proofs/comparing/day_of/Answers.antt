use Rattle.std.proofs.Common.{inl, inr, refl}
use Rattle.sqlite.specs.Files.{file_state}
use Rattle.sef_replay.proofs.OverBytes.{of_same, unopened}
use Rattle.sef_replay.proofs.comparing.day_of.Goals as goal

pub returns-in-Err-clause-fault : goal.returns-in-Err-clause-fault
returns-in-Err-clause-fault c =
    inl (unopened _ _ _ _ c.in-Err.error _ c.as_slice.ensures.value c.as_slice-2.ensures.value c.from.ensures c.in-Err.ensures.named
    c.in-Err.ensures.refused c.in-Err.ensures.fault)

pub returns-in-Ok-read_day-clause-read : goal.returns-in-Ok-read_day-clause-read
returns-in-Ok-read_day-clause-read c = record {
  of = (file_state c.in-Ok.conn).now;
  is_of = of_same _ _ _ _ _ c.as_slice.ensures.value c.as_slice-2.ensures.value c.in-Ok.ensures.of_bytes;
  day = c.in-Ok-read_day.ensures.read c.memory_is_clean.ensures;
}

pub returns-in-Err-read_day-clause-fault : goal.returns-in-Err-read_day-clause-fault
returns-in-Err-read_day-clause-fault c =
    let clean = c.memory_is_clean-in-Err-read_day.ensures in
    let why = c.in-Err-read_day.ensures in
    inr (record {
      of = (file_state c.in-Ok.conn).now;
      is_of = of_same _ _ _ _ _ c.as_slice.ensures.value c.as_slice-2.ensures.value c.in-Ok.ensures.of_bytes;
      fault = why.fault clean;
      conn = c.in-Ok.conn;
      back = c.in-Err-read_day.conn;
      shows = refl;
      cause = why.cause clean;
      understood = why.understood clean;
      stopped = why.stopped clean;
    })
