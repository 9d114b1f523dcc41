use Rattle.std.proofs.Common.{refl, ◌∙◌}
use Rattle.frame_explanation.proofs.Going.{did-nil, did-taken, did-ticked}
use Rattle.frame_explanation.proofs.hearing.take_due.Goals as goal

pub loop-side-init : goal.loop-side-init
loop-side-init c = record { did = did-nil c.args.world.now; sides = refl }

pub loop-side-preserved : goal.loop-side-preserved
loop-side-preserved c = record {
  did = did-ticked c.loop-side._side c.args.who c.args.at c.in_ok-take_or_tick.field-0 c.args.world.now c.loop-side.world c.take_or_tick.new.world c.if-branch.false c.loop-side.invariant.did c.in_ok-take_or_tick.ensures.did;
  sides = c.take_or_tick.ensures.sides ∙ c.loop-side.invariant.sides;
}

pub returns-then-branch-clause-did : goal.returns-then-branch-clause-did
returns-then-branch-clause-did c = did-taken c.loop-side._side c.args.who c.args.at c.in_ok-take_or_tick.field-0 c.args.world.now c.loop-side.world c.take_or_tick.new.world c.if-branch.true c.loop-side.invariant.did c.in_ok-take_or_tick.ensures.did
