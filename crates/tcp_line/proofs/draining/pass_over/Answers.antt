use Rattle.std.proofs.Common.{◌≡◌, ◌≤◌, ◌∙◌, length, length-append, length-take-le, take, ◌++◌, arith}
use Rattle.std.proofs.KnownBytes.{Consumes-trans, Consumes-kept}
use Rattle.tcp_line.proofs.draining.pass_over.Goals as goal
use Rattle.tcp_line.proofs.draining.pass_over.Goals.{in-Got, in-Quiet+else-looks-ge-MAX_LOOKS}

pub loop-read-preserved : goal.loop-read-preserved
loop-read-preserved g c =
    let ((few, looks), (bytes, consumed, counted), (taken, waiting)) = c.loop-read.invariant in
    let (taken', waiting') = c.read.ensures.written in
    elim c.match-read.branch [
      | in-Got w ↦
          let most : w.in-Got.count ≤ 256 = w.in-Got.ensures.ahead.1 in
          let came = take w.in-Got.count c.read.new.buffer in
          let long : length came ≡ w.in-Got.count = length-take-le w.in-Got.count c.read.new.buffer (omega (arith, most, c.read.array_long)) in
          let more = length-append bytes came in
          rw (w.passed_over-is, w.looks-is)
          ((omega (arith, few, most), looks), (bytes ++ came, Consumes-trans _ _ _ bytes came consumed w.in-Got.ensures.bytes, omega (arith, more, counted, long)), (taken' ∙ taken, waiting' ∙ waiting))
      | in-Quiet+else-looks-ge-MAX_LOOKS w ↦
          let again = w.if-looks-ge-MAX_LOOKS.false in
          rw (w.passed_over-is, w.looks-is)
          ((omega (arith, few), omega (arith, again)), (bytes, Consumes-kept _ _ _ bytes consumed w.in-Quiet.ensures.bytes, counted), (taken' ∙ taken, waiting' ∙ waiting))
    ]
