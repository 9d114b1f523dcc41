use Rattle.std.proofs.Common.{◌≡◌, ◌++◌, take}
use Rattle.std.specs.List.{flat_map}
use Rattle.resting_orders.specs.Rests.{side_text}
use Rattle.resting_orders.proofs.rests_text.append_sides.Given as goal

abbrev pub invariant-loop-side : goal.invariant-loop-side
invariant-loop-side l = l.text.items ≡ l.fn.text.items ++ flat_map (side_text l.page.form l.page.participants.now l.page.instruments.now l.page.end l.who) (take l.side-index l.sides)
