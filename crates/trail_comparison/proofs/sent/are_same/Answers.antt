use Rattle.std.proofs.Common.{sym}
use Rattle.trail_comparison.proofs.Replies.{apart}
use Rattle.trail_comparison.proofs.sent.are_same.Goals as goal

pub returns-then-replies-others : goal.returns-then-replies-others
returns-then-replies-others c = sym (apart c.args.names.now.a.now c.args.names.now.b.now c.args.replies.now c.args.others.now c.if-replies-others.true)
