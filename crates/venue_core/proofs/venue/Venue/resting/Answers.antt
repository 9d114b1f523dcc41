use Rattle.std.proofs.Common.{ap, sym, ◌∙◌, List}
use Rattle.venue_rules.specs.declared.facts.Fact.{Fact}
use Rattle.venue_rules.specs.Book.{Resting}
use Rattle.price_book.specs.Live.{live}
use Rattle.price_book.specs.Numbered.{numbered}
use Rattle.venue_core.specs.State.{State}
use Rattle.venue_core.proofs.venue.Venue.resting.Goals as goal

pub returns : goal.returns
returns c = λ h is.
    let same = ap (λ (s : State). s.day.book.facts) c.self.view_is ∙ sym is.book in
    c.numbered.ensures.found ∙ ap (λ (rs : List Resting). numbered c.args.number rs) (ap (λ (fs : List Fact). live fs) same ∙ c.sides_are_read_alone.ensures.live h.facts)
