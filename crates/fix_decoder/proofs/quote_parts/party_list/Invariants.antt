use Rattle.std.proofs.Common.{◌≡◌, ◌++◌, ℕ, map, drop}
use Rattle.std.specs.List.{AllByRecursion}
use Rattle.fix_validation.specs.Holding.{Holds}
use Rattle.fix_validation.specs.Tables.{party_rows}
use Rattle.fix_validation.specs.Positions.{part, places, instances}
use Rattle.fix_decoder.specs.Messages.{party}
use Rattle.fix_decoder.proofs.quote_parts.party_list.Given as goal

abbrev pub invariant-loop-begin : goal.invariant-loop-begin
invariant-loop-begin l = (l.list.items ++ map party (map (λ (q : ℕ). part q (places l.located)) (drop l.begin-index l.begin-items)) ≡ map party (instances 448 l.place (places l.located)))
    × AllByRecursion (λ (q : ℕ). Holds party_rows (part q (places l.located))) (drop l.begin-index l.begin-items)
