use Rattle.std.proofs.Common.{sym, ap, ◌∙◌, ◌+◌, ◌*◌, ◌≤◌, arith, get_or}
use Rattle.participants.specs.Relations.{is_related, related}
use Rattle.participants.proofs.TableLemmas.{first-outside, second-outside, table-at}
use Rattle.participants.proofs.participants.Participants.related.Goals as goal

pub returns-then-a-ge32 : goal.returns-then-a-ge32
returns-then-a-ge32 c =
    let a : 32 ≤ c.args.a = omega (arith, c.if-a-ge32.true, c.place-a.ensures) in
    sym (ap (λ file. related file c.args.a c.args.b) (sym c.self.view_is) ∙ first-outside (record { venue = c.self.inside.venue; names = c.self.inside.names.items; pairs = c.self.inside.pairs.items }) c.args.a c.args.b c.self.invariant.0 a)

pub returns-then-b-ge32 : goal.returns-then-b-ge32
returns-then-b-ge32 c =
    let b : 32 ≤ c.args.b = omega (arith, c.if-b-ge32.true, c.place-b.ensures) in
    sym (ap (λ file. related file c.args.a c.args.b) (sym c.self.view_is) ∙ second-outside (record { venue = c.self.inside.venue; names = c.self.inside.names.items; pairs = c.self.inside.pairs.items }) c.args.a c.args.b c.self.invariant.0 b)

pub returns : goal.returns
returns c =
    let pairs = c.self.inside.pairs.items in
    c.index.ensures
    ∙ (ap (λ table. get_or table (c.place-a.result * 32 + c.place-b.result) c.index.result.now) c.self.invariant.1
    ∙ (table-at pairs c.place-a.result c.place-b.result c.index.result.now c.if-a-ge32.false c.if-b-ge32.false
    ∙ (ap (λ x. is_related pairs x c.place-b.result) c.place-a.ensures
    ∙ (ap (λ x. is_related pairs c.args.a x) c.place-b.ensures
    ∙ ap (λ file. related file c.args.a c.args.b) c.self.view_is))))
