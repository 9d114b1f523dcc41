use Rattle.std.proofs.Common.{◌≡◌, take}
use Rattle.trade_reconstruction.specs.Emitted.{stood_for}
use Rattle.trade_reconstruction.proofs.notes.stood_for.Given as goal

abbrev pub invariant-loop-note : goal.invariant-loop-note
invariant-loop-note l = l.stood.items ≡ stood_for l.number (take l.note-index l.notes)
