use Rattle.std.proofs.Common.{arith}
use Rattle.fix_decoder.proofs.BoundLemmas.{number_bound}
use Rattle.fix_decoder.proofs.field_values.interval.Goals as goal

pub overflow_cast-seconds : goal.overflow_cast-seconds
overflow_cast-seconds c = omega (arith, number_bound 0 3600 c.bytes_at.result.now c.read_integer.result c.in-Ok.seconds c.in-Ok.is c.read_integer.ensures)

pub new-requires : goal.new-requires
new-requires c = number_bound 0 3600 c.bytes_at.result.now c.read_integer.result c.in-Ok.seconds c.in-Ok.is c.read_integer.ensures
