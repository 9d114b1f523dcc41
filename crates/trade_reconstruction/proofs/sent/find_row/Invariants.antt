use Rattle.std.proofs.Common.{◌≡◌, drop, find}
use Rattle.trade_reconstruction.specs.Lines.{is_row}
use Rattle.trade_reconstruction.proofs.sent.find_row.Given as goal

abbrev pub invariant-loop-row : goal.invariant-loop-row
invariant-loop-row l = find (is_row l.number) (drop l.row-index l.rows) ≡ find (is_row l.number) l.rows
