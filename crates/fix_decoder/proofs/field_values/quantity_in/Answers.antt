use Rattle.fix_decoder.proofs.BoundLemmas.{quantity_bound}
use Rattle.fix_decoder.proofs.field_values.quantity_in.Goals as goal

pub new-requires : goal.new-requires
new-requires c = quantity_bound c.args.bytes.now c.read_quantity.result c.in-Ok.quantity c.in-Ok.is c.read_quantity.ensures
