use Rattle.resting_orders.proofs.rests_text.append_side.Goals as goal

pub returns-in-Table : goal.returns-in-Table
returns-in-Table c = rw c.in-Table.is c.append_side_row.ensures
