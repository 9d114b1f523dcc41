use Rattle.std.proofs.Common.{◌≡◌, ◌++◌, ℕ, map, drop}
use Rattle.std.specs.List.{AllByRecursion}
use Rattle.fix_validation.specs.Holding.{Holds}
use Rattle.fix_validation.specs.Tables.{market_data_entry_rows}
use Rattle.fix_validation.specs.Positions.{part, places, instances}
use Rattle.fix_decoder.specs.Messages.{market_data_entry}
use Rattle.fix_decoder.proofs.group_parts.market_data_entries.Given as goal

abbrev pub invariant-loop-begin : goal.invariant-loop-begin
invariant-loop-begin l = (l.list.items ++ map market_data_entry (map (λ (q : ℕ). part q (places l.located)) (drop l.begin-index l.begin-items)) ≡ map market_data_entry (instances 269 0 (places l.located)))
    × AllByRecursion (λ (q : ℕ). Holds market_data_entry_rows (part q (places l.located))) (drop l.begin-index l.begin-items)
