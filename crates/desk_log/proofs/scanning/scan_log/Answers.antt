use Rattle.std.proofs.Common.{sym, ◌∙◌}
use Rattle.desk_log.proofs.Scan.{bodies_over, broken_over, outside_over}
use Rattle.desk_log.proofs.scanning.scan_log.Goals as goal

pub returns-clause-bodies : goal.returns-clause-bodies
returns-clause-bodies c = sym (bodies_over c.args.log.now c.loop-at.at c.loop-at.scan.bodies.items c.loop-at-test.false) ∙ c.loop-at.invariant.bodies

pub returns-clause-outside : goal.returns-clause-outside
returns-clause-outside c = sym (outside_over c.args.log.now c.loop-at.at c.loop-at.scan.outside c.loop-at-test.false) ∙ c.loop-at.invariant.outside

pub returns-clause-broken : goal.returns-clause-broken
returns-clause-broken c = sym (broken_over c.args.log.now c.loop-at.at c.loop-at.scan.broken c.loop-at-test.false) ∙ c.loop-at.invariant.broken
