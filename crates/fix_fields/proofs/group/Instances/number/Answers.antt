use Rattle.std.proofs.Common.{◌∙◌}
use Rattle.fix_fields.proofs.GroupPlaces.{number_is}
use Rattle.fix_fields.proofs.group.Instances.number.Goals as goal

pub returns : goal.returns
returns c = c.count_of.ensures ∙ number_is c.args.self.now.first c.args.self.now.rest.now
