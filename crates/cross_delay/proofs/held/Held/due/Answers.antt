use Rattle.std.proofs.Common.{◌∙◌, ap}
use Rattle.cross_delay.specs.ByDue.{first_due}
use Rattle.cross_delay.proofs.Leaving.{due-kept}
use Rattle.cross_delay.proofs.held.Held.due.Goals as goal

pub returns : goal.returns
returns c = rw (← c.self.view_is) (c.first_due.ensures ∙ ap (first_due c.args.moment) (c.deref.ensures.value ∙ c.self.invariant.sides) ∙ due-kept c.self.inside.past c.args.moment)
