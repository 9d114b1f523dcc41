use Rattle.std.proofs.Common.{◌≡◌, ◌≤◌, take}
use Rattle.trail_comparison.specs.Differences.{AreReplayed}
use Rattle.trail_comparison.proofs.replaying.emit_rows.Given as goal

abbrev pub invariant-loop-row : goal.invariant-loop-row
invariant-loop-row g l =
    (l.a.items ≡ l.row-index) × (l.b.items ≤ l.row-index) × (l.count ≤ l.row-index)
    × AreReplayed l.rows.left_out l.fn.a.market l.fn.b.market (take l.row-index l.rows.all.now) l.count l.a l.b (g.W.Write.contents l.fn.writer) (g.W.Write.contents l.writer)
