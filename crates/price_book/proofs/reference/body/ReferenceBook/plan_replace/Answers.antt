use Rattle.std.proofs.Common.{◌≡◌, refl, ap, sym, ◌∙◌, length, Some, option_map, arith, rules}
use Rattle.std.proofs.lemmas.List.{length-map}
use Rattle.venue_rules.specs.Book.{Resting, fills, find_order}
use Rattle.venue_rules.specs.Market.{market_of}
use Rattle.price_book.specs.Views.{seen}
use Rattle.price_book.specs.Steps.{Changes, facts_of}
use Rattle.price_book.specs.Plans.{printed, replacing}
use Rattle.price_book.proofs.Keeping.{fills-few}
use Rattle.price_book.proofs.Replaced.{replace-planned}
use Rattle.price_book.proofs.reference.body.ReferenceBook.plan_replace.Goals as goal

pub returns-clause-planned : goal.returns-clause-planned
returns-clause-planned c =
    let order : Resting = seen c.unwrap-order.result in
    let found : find_order c.self.inside.facts.items c.args.who c.args.order_id.now ≡ Some order = ap (λ fs. find_order fs c.args.who c.args.order_id.now) (sym c.deref.ensures.value) ∙ sym c.find_order.ensures ∙ ap (option_map seen) c.unwrap-order.ensures in
    rw (← c.self.view_is, found) (replace-planned _ c.self.inside.facts.items c.args.who c.args.id.now c.args.quantity c.args.price c.args.moment c.in_ok-plan.plan order order c.replacing-new_order.result refl c.replacing-new_order.ensures.order
    (rw c.deref-2.ensures.value at c.in_ok-plan.ensures.planned.0)
    (rw c.deref-2.ensures.value at c.in_ok-plan.ensures.planned.1)
    (c.fills_are_within.ensures c.self.inside.facts.items (replacing order c.args.id.now c.args.quantity c.args.price)).0)

pub returns-clause-made : goal.returns-clause-made
returns-clause-made c =
    let order : Resting = seen c.unwrap-order.result in
    let same : c.deref-2.result.now ≡ c.reserve.new.self.items = c.deref-2.ensures.value ∙ sym c.reserve.ensures.items in
    record {
      step = Changes order c.args.who c.replacing-new_order.result c.args.moment;
      allowed = record {
        market = market_of c.args.market;
        free = rw same at c.in_ok-plan.ensures.planned.0;
        own = record {
          id = c.args.order_id.now;
          found = ap (λ fs. find_order fs c.args.who c.args.order_id.now) (sym (c.deref.ensures.value ∙ sym c.reserve.ensures.items)) ∙ sym c.find_order.ensures ∙ ap (option_map seen) c.unwrap-order.ensures;
        };
        instrument = ap (λ o. o.instrument) c.replacing-new_order.ensures.order;
        side = ap (λ o. o.side) c.replacing-new_order.ensures.order;
        whole = c.replacing-new_order.ensures.whole;
      };
      made = ap (λ p. p.facts) c.in_ok-plan.ensures.planned.1 ∙ ap (λ fs. facts_of fs (Changes order c.args.who c.replacing-new_order.result c.args.moment)) same;
      headroom = search rules;
    }

pub returns-clause-few : goal.returns-clause-few
returns-clause-few c =
    let few : length c.in_ok-plan.plan.fills ≡ length (fills c.self.inside.facts.items c.replacing-new_order.result) = ap (λ p. length p.fills) c.in_ok-plan.ensures.planned.1 ∙ length-map (fills c.deref-2.result.now c.replacing-new_order.result) printed ∙ ap (λ fs. length (fills fs c.replacing-new_order.result)) c.deref-2.ensures.value in
    omega (arith, few, fills-few c.self.inside.facts.items c.replacing-new_order.result c.self.invariant.sides)
