use Rattle.std.proofs.Common.{sym, ◌∙◌}
use Rattle.frame_explanation.proofs.Scan.{run_later}
use Rattle.frame_explanation.proofs.frames.run_length.Goals as goal

pub loop-at-preserved : goal.loop-at-preserved
loop-at-preserved c = run_later c.args.bytes.now c.loop-at.at c.loop-at-test.true (sym c.ends_run.ensures ∙ c.if-ends_run.false) ∙ c.loop-at.invariant
