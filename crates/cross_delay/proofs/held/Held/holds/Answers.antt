use Rattle.std.proofs.Common.{◌≡◌, ◌∙◌, ap, find, is_some, option_map, Option, Some, None, refl, Bor}
use Rattle.venue_rules.specs.declared.facts.HeldSide.{HeldSide}
use Rattle.venue_rules.specs.Facts.{is_name}
use Rattle.cross_delay.proofs.Leaving.{found-kept}
use Rattle.cross_delay.proofs.held.Held.holds.Goals as goal

pub returns : goal.returns
returns c = rw (← c.self.view_is) (c.is_some.ensures ∙ lent c.find_side.result ∙ ap is_some (c.find_side.ensures ∙ ap (find (λ (h : HeldSide). is_name c.args.who c.args.id.now h.order.who h.order.id)) (c.deref.ensures.value ∙ c.self.invariant.sides) ∙ found-kept c.self.inside.past c.args.who c.args.id.now c.self.invariant.known))
  where
    lent : (r : Option (Bor HeldSide)) → is_some r ≡ is_some (option_map (λ h. h.now) r)
    lent None = refl
    lent (Some h) = refl
