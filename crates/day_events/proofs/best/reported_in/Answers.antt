use Rattle.std.proofs.Common.{List, ℕ, ap, sym, ◌∙◌, position, bytes_eq}
use Rattle.instruments.specs.declared.instruments.Instrument.{Instrument}
use Rattle.day_events.specs.Bests.{place_in}
use Rattle.day_events.proofs.best.reported_in.Goals as goal

pub returns-in-Some : goal.returns-in-Some
returns-in-Some c =
    let file : List Instrument = c.args.instruments.now in
    c.find.ensures ∙ (ap (λ (s : List ℕ). position (λ (x : Instrument). bytes_eq s x.symbol) file) c.as_slice.ensures.value ∙ ap (place_in file) (sym c.in-Some.is ∙ c.reported_symbol.ensures))
