use Rattle.std.proofs.Common.{subst, sym}
use Rattle.trade_reconstruction.specs.Indexed.{ArePlaced, first_key, second_key}
use Rattle.trade_reconstruction.proofs.events.Events.places.Goals as goal

pub returns-in-First : goal.returns-in-First
returns-in-First c =
    let words = c.self.inside.words.items in
    rw (c.in-First.is, ← c.self.view_is) (c.places_of.ensures first_key words (subst (ArePlaced first_key words) (sym c.deref.ensures.value) c.self.invariant.0))

pub returns-in-Second : goal.returns-in-Second
returns-in-Second c =
    let words = c.self.inside.words.items in
    rw (c.in-Second.is, ← c.self.view_is) (c.places_of-in-Second.ensures second_key words (subst (ArePlaced second_key words) (sym c.deref-in-Second.ensures.value) c.self.invariant.1))
