use Rattle.std.proofs.Common.{arith}
use Rattle.fix_decoder.proofs.BoundLemmas.{number_bound}
use Rattle.fix_decoder.proofs.field_values.new_sequence_number.Goals as goal

pub overflow_cast-number : goal.overflow_cast-number
overflow_cast-number c = omega (arith, number_bound 1 1_000_000_000 c.bytes_at.result.now c.read_integer.result c.in-Ok.number c.in-Ok.is c.read_integer.ensures)

pub new-requires : goal.new-requires
new-requires c = number_bound 1 1_000_000_000 c.bytes_at.result.now c.read_integer.result c.in-Ok.number c.in-Ok.is c.read_integer.ensures
