use Rattle.std.proofs.Common.{◌≡◌, Some, take, drop, refl, sym, ◌∙◌, ap, subst, arith, length-drop}
use Rattle.std.proofs.lemmas.List.{drop-drop, take_rest}
use Rattle.fix_frame.specs.Look.{IsLook}
use Rattle.fix_frame.specs.Stream.{IsOpen, Passes}
use Rattle.fix_frame.proofs.Cutting.{part_taken}
use Rattle.fix_frame.proofs.cutter.Cutter.skip.Goals as goal

pub pass_garbage-count-requires : goal.pass_garbage-count-requires
pass_garbage-count-requires c =
    let start = c.self.inside.start in
    let rest = take_rest c.all.result.now start ∙ ap (drop start) c.all.ensures ∙ ap (λ v. v.unread) c.self.view_is in
    subst (λ s. IsOpen s → ⊥) (sym rest) c.requires

pub invariant_of-self : goal.invariant_of-self
invariant_of-self c =
    let items = c.self.inside.buffer.items in
    let start = c.self.inside.start in
    let n = c.pass_garbage-count.result.0 in
    let rest = take_rest c.all.result.now start ∙ ap (drop start) c.all.ensures in
    let given = c.pass_garbage-count.ensures in
    let passes : Passes n (drop start items) = subst (Passes n) rest given.passes in
    let look : IsLook (drop n (drop start items)) c.pass_garbage-count.result.1 = subst (λ s. IsLook (drop n s) c.pass_garbage-count.result.1) rest given.look in
    (omega (arith, passes.within, length-drop start items, c.self.invariant.0), omega arith, subst (λ s. IsLook s c.pass_garbage-count.result.1) (drop-drop n start items) look)

pub returns-clause-cut : goal.returns-clause-cut
returns-clause-cut c =
    let items = c.self.inside.buffer.items in
    let start = c.self.inside.start in
    let n = c.pass_garbage-count.result.0 in
    let unread : drop start items ≡ c.args.self.now.unread = ap (λ v. v.unread) c.self.view_is in
    let rest = take_rest c.all.result.now start ∙ ap (drop start) c.all.ensures ∙ unread in
    let given = c.pass_garbage-count.ensures in
    let passes : Passes n c.args.self.now.unread = subst (Passes n) rest given.passes in (
      n,
      (refl, given.some, passes, subst (λ s. IsOpen (drop n s)) rest given.«open»),
      record {
        within = passes.within;
        taken = ap Some (part_taken items start n ∙ ap (take n) unread);
        unread = sym (drop-drop n start items) ∙ ap (drop n) unread;
      },
    )
