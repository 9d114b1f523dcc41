use Rattle.std.proofs.Common.{◌≡◌, ◌++◌, take}
use Rattle.fix_dictionary.specs.Text.{slots_text, each_slots, market_data_entry_slots}
use Rattle.fix_encoder.proofs.group_print.print_entries.Given as goal

abbrev pub invariant-loop-instance : goal.invariant-loop-instance
invariant-loop-instance l = l.out.items ≡ l.fn.out.items ++ slots_text (each_slots market_data_entry_slots (take l.instance-index l.list))
