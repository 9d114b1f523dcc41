use Rattle.std.proofs.Common.{◌^◌, ◌-◌}
use Rattle.tcp_line.proofs.Emitted.{said_in-more, counted-more}
use Rattle.tcp_line.proofs.line_log.LineLog.note.Goals as goal

pub invariant_of-self-inside : goal.invariant_of-self-inside
invariant_of-self-inside c = (
  rw c.add.ensures
      (counted-more c.self.inside.past c.args.spoken c.self.inside.faults c.faults_of-faults.result _ (2 ^ 64 - 1) c.self.inside.counted c.faults_of-faults.ensures c.saturating_add-self-inside.ensures),
  tt,
)

pub returns : goal.returns
returns c = rw (c.add.ensures, ← c.self.view_is) (said_in-more c.self.inside.past c.args.spoken)
