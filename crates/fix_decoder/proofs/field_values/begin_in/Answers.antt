use Rattle.std.proofs.Common.{arith}
use Rattle.fix_decoder.proofs.BoundLemmas.{number_bound}
use Rattle.fix_decoder.proofs.field_values.begin_in.Goals as goal

pub overflow_cast-result : goal.overflow_cast-result
overflow_cast-result c = omega (arith, number_bound 0 1_000_000_000 c.bytes_at.result.now c.read_integer.result c.in-Ok.number c.in-Ok.is c.read_integer.ensures)
