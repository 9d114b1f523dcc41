use Rattle.venue_worker.proofs.Dismissing.{drains_then}
use Rattle.venue_worker.proofs.worker.Worker.drain.Goals as goal

pub returns : goal.returns
returns g c = record { drained = drains_then c.args.self.now c.cut_served.new.self c.deliver-delivered.new.self c.args.j c.args.may_cut c.deliver-delivered.result c.cut_served.ensures.cuts c.deliver-delivered.ensures.delivers; clock = c.notify.ensures }
