use Rattle.std.proofs.Common.{◌≡◌, inl, inr, refl}
use Rattle.sqlite.specs.Files.{file_state}
use Rattle.sef_replay.proofs.OverBytes.{of_same, or_begun, unopened}
use Rattle.sef_replay.proofs.copied.print_copied.Goals as goal

pub returns-in-Err-clause-fault : goal.returns-in-Err-clause-fault
returns-in-Err-clause-fault g c =
    inl (unopened _ _ _ _ c.in-Err.error _ c.as_slice.ensures.value c.as_slice-2.ensures.value c.from.ensures c.in-Err.ensures.named
    c.in-Err.ensures.refused c.in-Err.ensures.fault)

pub returns-in-Err-print_wanted-clause-fault : goal.returns-in-Err-print_wanted-clause-fault
returns-in-Err-print_wanted-clause-fault g c =
    let clean = c.memory_is_clean-in-Err-print_wanted.ensures in
    let why = c.in-Err-print_wanted.ensures in
    inr (record {
      of = (file_state c.in-Ok.conn).now;
      is_of = of_same _ _ _ _ _ c.as_slice.ensures.value c.as_slice-2.ensures.value c.in-Ok.ensures.of_bytes;
      fault = why.fault clean;
      conn = c.in-Ok.conn;
      back = c.in-Err-print_wanted.conn;
      shows = refl;
      cause = why.cause clean;
      understood = why.understood clean;
      stopped = why.stopped clean;
    })

pub returns-in-Err-print_wanted-clause-begun : goal.returns-in-Err-print_wanted-clause-begun
returns-in-Err-print_wanted-clause-begun g c is =
    let clean = c.memory_is_clean-in-Err-print_wanted.ensures in
    or_begun _ _ _ (c.in-Err-print_wanted.ensures.begun clean is)
    (λ begun. ((file_state c.in-Ok.conn).now, of_same _ _ _ _ _ c.as_slice.ensures.value c.as_slice-2.ensures.value c.in-Ok.ensures.of_bytes, begun))
