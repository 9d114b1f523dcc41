use Rattle.std.proofs.Common.{ap, sym, ◌∙◌, List}
use Rattle.std.proofs.lemmas.Result.{IfOk-weaker}
use Rattle.venue_rules.specs.declared.facts.Fact.{Fact}
use Rattle.venue_rules.specs.Book.{picture}
use Rattle.venue_core.specs.State.{State}
use Rattle.venue_core.proofs.venue.Venue.picture.Goals as goal

pub returns : goal.returns
returns c = λ h is.
    let x = c.args.instrument in
    let same = ap (λ (s : State). s.day.book.facts) c.self.view_is ∙ sym is.book in
    IfOk-weaker c.picture.result _ _ (λ v e. e ∙ (ap (λ (fs : List Fact). picture fs x) same ∙ c.book_is_read_alone.ensures.picture h.facts x)) c.picture.ensures.shown
