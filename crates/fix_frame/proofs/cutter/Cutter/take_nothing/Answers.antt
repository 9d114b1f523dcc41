use Rattle.std.proofs.Common.{◌≡◌, ◌≤◌, length, refl, sym, ◌∙◌, ap, subst, arith}
use Rattle.fix_frame.specs.Look.{IsLook}
use Rattle.fix_frame.specs.declared.look.Look.TheVariants.{Unfinished}
use Rattle.fix_frame.proofs.Cutting.{open_is_short}
use Rattle.fix_frame.proofs.cutter.Cutter.take_nothing.Goals as goal

pub invariant_of-self : goal.invariant_of-self
invariant_of-self c =
    let unread = ap (λ v. v.unread) c.self.view_is in
    let kept : c.discard_front.new.self.items ≡ c.args.self.now.unread = c.discard_front.ensures.items ∙ unread in
    (omega arith, omega arith, subst (λ s. IsLook s Unfinished) (sym kept) c.requires)

pub returns-clause-open : goal.returns-clause-open
returns-clause-open c = λ _.
    let unread = ap (λ v. v.unread) c.self.view_is in
    let kept : c.discard_front.new.self.items ≡ c.args.self.now.unread = c.discard_front.ensures.items ∙ unread in
    (refl, subst (λ s. length s ≤ 8218) (sym kept) (open_is_short c.args.self.now.unread c.requires.0 c.requires.1))
