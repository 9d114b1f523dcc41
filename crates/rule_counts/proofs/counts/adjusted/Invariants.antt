use Rattle.std.proofs.Common.{◌≡◌, ◌+◌, ◌-◌, ◌≤◌, length}
use Rattle.rule_counts.specs.Counts.{adjusted, adjusted_from}
use Rattle.rule_counts.proofs.counts.adjusted.Given as goal

-- the count so far, and that of the others, are the whole
abbrev pub invariant-loop-instrument : goal.invariant-loop-instrument
invariant-loop-instrument l =
    (l.count + adjusted_from l.instruments l.instrument (length l.instruments - l.instrument) ≡ adjusted l.instruments) × (l.count ≤ l.instrument)
