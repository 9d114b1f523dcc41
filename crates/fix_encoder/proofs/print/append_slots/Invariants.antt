use Rattle.std.proofs.Common.{◌≡◌, ◌++◌, take}
use Rattle.fix_dictionary.specs.Text.{slots_text}
use Rattle.fix_encoder.specs.Printed.{slots}
use Rattle.fix_encoder.proofs.print.append_slots.Given as goal

abbrev pub invariant-loop-slot : goal.invariant-loop-slot
invariant-loop-slot l = l.out.items ≡ l.fn.out.items ++ slots_text (slots (take l.slot-index l.list))
