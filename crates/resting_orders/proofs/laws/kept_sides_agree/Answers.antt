use Rattle.resting_orders.proofs.HeldSides.{sides_agree}
use Rattle.resting_orders.proofs.laws.kept_sides_agree.Goals as goal

pub returns : goal.returns
returns c = sides_agree c.delay_is_read_alone.ensures.held c.due_side_is_held.ensures.due_fact c.due_side_is_held.ensures.found_fact
