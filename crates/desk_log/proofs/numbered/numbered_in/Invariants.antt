use Rattle.std.proofs.Common.{◌≡◌, ◌++◌, ◌≤◌, drop}
use Rattle.desk_log.specs.Numbered.{numbered_from, numbered_in}
use Rattle.desk_log.proofs.numbered.numbered_in.Given as goal

abbrev pub invariant-loop-span : goal.invariant-loop-span
invariant-loop-span l = (l.found.items ++ numbered_from l.ends.from.now l.ends.to.now l.log l.latest (drop l.span-index l.bodies) ≡ numbered_in l.ends.from.now l.ends.to.now l.log l.bodies) × (l.latest.era ≤ l.span-index)
