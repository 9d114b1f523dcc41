use Rattle.std.proofs.Common.{◌≡◌, ◌++◌, ℕ, map, drop}
use Rattle.std.specs.List.{AllByRecursion}
use Rattle.fix_validation.specs.Holding.{Holds}
use Rattle.fix_validation.specs.Tables.{entry_type_rows}
use Rattle.fix_validation.specs.Positions.{part, places, instances}
use Rattle.fix_decoder.specs.Messages.{entry_type}
use Rattle.fix_decoder.proofs.group_parts.entry_types.Given as goal

abbrev pub invariant-loop-begin : goal.invariant-loop-begin
invariant-loop-begin l = (l.list.items ++ map entry_type (map (λ (q : ℕ). part q (places l.located)) (drop l.begin-index l.begin-items)) ≡ map entry_type (instances 269 0 (places l.located)))
    × AllByRecursion (λ (q : ℕ). Holds entry_type_rows (part q (places l.located))) (drop l.begin-index l.begin-items)
