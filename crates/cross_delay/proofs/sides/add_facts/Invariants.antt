use Rattle.std.proofs.Common.{◌≡◌, ◌≤◌, ◌+◌, drop}
use Rattle.std.specs.Vec.{vec_capacity, vec_len}
use Rattle.cross_delay.specs.ByDue.{AreRising, steps}
use Rattle.cross_delay.proofs.sides.add_facts.Given as goal

abbrev pub invariant-loop-fact : goal.invariant-loop-fact
invariant-loop-fact l = (steps l.sides.items (drop l.fact-index l.facts) ≡ steps l.fn.sides.items l.facts) × AreRising 0 l.sides.items × (vec_len l.sides ≤ vec_len l.fn.sides + l.fact-index) × (vec_capacity l.sides ≡ vec_capacity l.fn.sides)
