use Rattle.std.proofs.Common.{◌≡◌, ◌≤◌, ◌==◌, take}
use Rattle.std.specs.List.{count_by}
use Rattle.desk_log.proofs.frames.lines_in.Given as goal

abbrev pub invariant-loop-byte : goal.invariant-loop-byte
invariant-loop-byte l = (l.lines ≡ count_by (λ b. b == 10) (take l.byte-index l.text)) × (l.lines ≤ l.byte-index)
