use Rattle.std.proofs.Common.{◌≡◌, drop}
use Rattle.trade_reconstruction.specs.Notes.{aligned_from}
use Rattle.trade_reconstruction.proofs.notes.aligned_from.Given as goal

abbrev pub invariant-loop-note : goal.invariant-loop-note
invariant-loop-note l = aligned_from l.next (drop l.note-index l.notes) ≡ aligned_from l.number l.notes
