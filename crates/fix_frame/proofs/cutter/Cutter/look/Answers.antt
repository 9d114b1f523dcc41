use Rattle.std.proofs.Common.{◌≡◌, drop, ◌∙◌, ap, subst}
use Rattle.std.specs.Prelude.{IfSome}
use Rattle.std.proofs.lemmas.List.{take_rest}
use Rattle.fix_frame.specs.Look.{IsLook}
use Rattle.fix_frame.proofs.cutter.Cutter.look.Goals as goal

pub returns-then-place-self : goal.returns-then-place-self
returns-then-place-self c =
    let items = c.self.inside.buffer.items in
    let look = c.in-Some.look in
    let unread : drop c.self.inside.start items ≡ c.args.self.now.unread = ap (λ v. v.unread) c.self.view_is in
    let there : IsLook (drop c.in-Some.place items) look = subst (λ seen. IfSome seen (λ it. IsLook (drop it.0 items) it.1)) c.in-Some.is c.self.invariant.2 in
    subst (λ s. IsLook s look) (ap (λ k. drop k items) c.if-place-self.true ∙ unread) there

pub returns : goal.returns
returns c =
    let start = c.self.inside.start in
    let unread : drop start c.self.inside.buffer.items ≡ c.args.self.now.unread = ap (λ v. v.unread) c.self.view_is in
    subst (λ s. IsLook s c.look_at.result) (take_rest c.all.result.now start ∙ ap (drop start) c.all.ensures ∙ unread) c.look_at.ensures
