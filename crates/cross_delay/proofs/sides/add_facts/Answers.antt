use Rattle.std.proofs.Common.{◌+◌, ◌∙◌, ap, sym, drop, List, arith}
use Rattle.venue_rules.specs.declared.facts.Fact.{Fact}
use Rattle.cross_delay.specs.ByDue.{steps}
use Rattle.cross_delay.proofs.ByDue.{rises-step}
use Rattle.cross_delay.proofs.Readings.{steps-more}
use Rattle.cross_delay.proofs.sides.add_facts.Goals as goal

pub loop-fact-preserved : goal.loop-fact-preserved
loop-fact-preserved c =
    let i = c.loop-fact.fact-index in
    let f : Fact = c.fact-item.result in
    let rest : List Fact = drop (i + 1) c.args.facts.now in (
      ap (λ hs. steps hs rest) c.add_fact.ensures.sides ∙ sym (steps-more c.loop-fact.sides.items c.args.facts.now i f c.loop-fact-test.true c.fact-item.is) ∙ c.loop-fact.invariant.0,
      rw c.add_fact.ensures.sides (rises-step c.loop-fact.sides.items f c.loop-fact.invariant.1),
      omega (arith, c.add_fact.ensures.len, c.loop-fact.invariant.2),
      c.add_fact.ensures.capacity ∙ c.loop-fact.invariant.3,
    )
