use Rattle.std.proofs.Common.{◌≡◌, ◌∙◌, ap, rules, sym, length, false, nat_le}
use Rattle.venue_rules.specs.Delay.{held_capacity}
use Rattle.cross_delay.specs.Plans.{is_full}
use Rattle.cross_delay.specs.Steps.{Holds}
use Rattle.cross_delay.proofs.Keeping.{planned}
use Rattle.cross_delay.proofs.Leaving.{full-kept}
use Rattle.cross_delay.proofs.held.Held.plan_hold.Goals as goal

pub returns-then-is_full-clause-refused : goal.returns-then-is_full-clause-refused
returns-then-is_full-clause-refused c =
    let same = c.is_full.ensures ∙ ap (λ hs. nat_le held_capacity (length hs)) c.deref.ensures.value ∙ full-kept c.self.inside.past c.self.inside.sides.items c.self.invariant.sides in
    rw (← c.self.view_is) (sym same ∙ c.if-is_full.true)

pub returns-clause-free : goal.returns-clause-free
returns-clause-free c =
    let same = c.is_full.ensures ∙ ap (λ hs. nat_le held_capacity (length hs)) c.deref.ensures.value ∙ full-kept c.self.inside.past c.self.inside.sides.items c.self.invariant.sides in
    rw (← c.self.view_is) (sym same ∙ c.if-is_full.false)

pub returns-clause-made : goal.returns-clause-made
returns-clause-made c =
    let same = c.is_full.ensures ∙ ap (λ hs. nat_le held_capacity (length hs)) c.deref.ensures.value ∙ full-kept c.self.inside.past c.self.inside.sides.items c.self.invariant.sides in
    let free : is_full c.args.self.now.facts ≡ false = rw (← c.self.view_is) (sym same ∙ c.if-is_full.false) in
    planned c.args.self.now.facts _ (Holds c.args.side) c.in-Ok.plan.facts (sym c.reserve_for.ensures.kept) (free, c.requires) (ap (λ p. p.facts) c.in-Ok.ensures) (search rules)
