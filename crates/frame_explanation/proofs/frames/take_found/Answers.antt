use Rattle.std.proofs.Common.{◌+◌, List, ◌++◌, refl, ap, arith}
use Rattle.frame_explanation.specs.declared.frames.Look.TheVariants.{Frame, Broken}
use Rattle.frame_explanation.specs.declared.frames.Found.{Found}
use Rattle.frame_explanation.proofs.Scan.{found_passed, none_found, was_found}
use Rattle.frame_explanation.proofs.frames.take_found.Goals as goal

pub returns-then-at-next : goal.returns-then-at-next
returns-then-at-next c = ap (λ (l : List Found). c.args.found.now.items ++ l) (found_passed c.args.log.now c.args.at c.args.next c.requires c.if-at-next.true)

pub returns-in_ok-push-in-Frame : goal.returns-in_ok-push-in-Frame
returns-in_ok-push-in-Frame c =
    was_found c.args.log.now c.args.at c.args.next (c.args.at + c.in-Frame.end + 7) (Frame c.in-Frame.start c.in-Frame.end) _ c.args.found.now.items c.push.new.self.items c.requires c.if-at-next.false c.in-Frame.ensures.look refl (omega arith) c.in_ok-push-in-Frame.ensures.items

pub returns-in_ok-push-in-Broken : goal.returns-in_ok-push-in-Broken
returns-in_ok-push-in-Broken c =
    was_found c.args.log.now c.args.at c.args.next (c.args.at + c.in-Broken.count) (Broken c.in-Broken.count) _ c.args.found.now.items c.push-in-Broken.new.self.items c.requires c.if-at-next.false c.in-Broken.ensures.look refl (omega arith) c.in_ok-push-in-Broken.ensures.items

pub returns-in-Nothing : goal.returns-in-Nothing
returns-in-Nothing c = none_found c.args.log.now c.args.at c.args.next c.args.found.now.items c.requires c.if-at-next.false c.in-Nothing.ensures.look
