use Rattle.std.proofs.Common.{arith, ap, ◌∙◌, ◌≡◌, length}
use Rattle.std.proofs.lemmas.Result.{IfOk-weaker}
use Rattle.venue_rules.specs.Book.{picture}
use Rattle.price_book.proofs.Keeping.{picture-few}
use Rattle.price_book.proofs.reference.body.ReferenceBook.picture.Goals as goal

pub returns-clause-few : goal.returns-clause-few
returns-clause-few c =
    IfOk-weaker c.picture.result _ _ (λ v e.
    let shown : length v.items ≡ length (picture c.self.inside.facts.items c.args.instrument) = ap length e ∙ ap (λ fs. length (picture fs c.args.instrument)) c.deref.ensures.value in
    omega (arith, shown, picture-few c.self.inside.facts.items c.args.instrument c.self.invariant.sides)) c.picture.ensures
