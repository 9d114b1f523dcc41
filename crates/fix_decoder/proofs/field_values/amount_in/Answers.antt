use Rattle.fix_decoder.proofs.BoundLemmas.{amount_bound}
use Rattle.fix_decoder.proofs.field_values.amount_in.Goals as goal

pub new-requires : goal.new-requires
new-requires c = amount_bound c.args.bytes.now c.read_amount.result c.in-Ok.amount c.in-Ok.is c.read_amount.ensures
