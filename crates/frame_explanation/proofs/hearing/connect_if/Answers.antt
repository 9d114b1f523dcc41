use Rattle.std.proofs.Common.{[], Bool, subst, sym}
use Rattle.frame_explanation.specs.Hearing.{Did, connects}
use Rattle.frame_explanation.proofs.Going.{did-nil}
use Rattle.frame_explanation.proofs.hearing.connect_if.Goals as goal

pub returns-then-not-connects-clause-did : goal.returns-then-not-connects-clause-did
returns-then-not-connects-clause-did c =
    let world = c.args.world.now in
    subst (λ (b : Bool). Did world world (connects b c.args.who c.args.at) [] []) (sym c.if-not-connects.true) (did-nil world)
