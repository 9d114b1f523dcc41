use Rattle.std.proofs.Common.{arith, sym, ◌∙◌}
use Rattle.fix_session.proofs.Readers.{integer_range}
use Rattle.fix_session.proofs.reading.number_stated.Goals as goal

pub new-requires : goal.new-requires
new-requires c = integer_range 1 999999999 c.in-Some.text.now c.in-Ok.number (sym c.read_integer.ensures ∙ c.in-Ok.is)

pub overflow_cast-number : goal.overflow_cast-number
overflow_cast-number c = omega (arith, (integer_range 1 999999999 c.in-Some.text.now c.in-Ok.number (sym c.read_integer.ensures ∙ c.in-Ok.is)).1)
