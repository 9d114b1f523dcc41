use Rattle.std.proofs.Common.{◌≡◌, ◌++◌, take}
use Rattle.fix_dictionary.specs.Text.{slots_text, each_slots, party_slots}
use Rattle.fix_encoder.proofs.quote_print.print_parties.Given as goal

abbrev pub invariant-loop-instance : goal.invariant-loop-instance
invariant-loop-instance l = l.out.items ≡ l.fn.out.items ++ slots_text (each_slots party_slots (take l.instance-index l.list))
