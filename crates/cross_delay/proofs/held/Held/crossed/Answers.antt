use Rattle.std.proofs.Common.{◌∙◌, ap}
use Rattle.std.specs.List.{list_any}
use Rattle.client_ids.specs.ClientIds.{is_of}
use Rattle.cross_delay.proofs.Leaving.{crossed-names}
use Rattle.cross_delay.proofs.held.Held.crossed.Goals as goal

pub returns : goal.returns
returns c = rw (← c.self.view_is) (c.has.ensures ∙ ap (list_any (is_of c.args.who c.args.id.now)) c.self.invariant.crosses ∙ crossed-names c.self.inside.past c.args.who c.args.id.now)
