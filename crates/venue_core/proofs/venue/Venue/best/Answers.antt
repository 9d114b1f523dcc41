use Rattle.std.proofs.Common.{ap, sym, ◌∙◌, List, option_map, slice_get}
use Rattle.venue_rules.specs.declared.facts.Fact.{Fact}
use Rattle.venue_rules.specs.Book.{Resting, resting}
use Rattle.venue_core.specs.State.{State}
use Rattle.venue_core.proofs.venue.Venue.best.Goals as goal

pub returns : goal.returns
returns c = λ h is.
    let x = c.args.instrument in
    let side = c.args.side in
    let same = ap (λ (s : State). s.day.book.facts) c.self.view_is ∙ sym is.book in
    c.best.ensures
    ∙ ap (λ (rs : List Resting). option_map (λ (r : Resting). r.entry.order.price) (slice_get rs 0)) (ap (λ (fs : List Fact). resting fs x side) same ∙ c.sides_are_read_alone.ensures.sides h.facts x side)
