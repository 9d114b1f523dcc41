use Rattle.std.proofs.Common.{◌≡◌, ap, sym, ◌∙◌, length, map, arith, rules}
use Rattle.std.proofs.lemmas.List.{length-map}
use Rattle.venue_rules.specs.Book.{fills}
use Rattle.venue_rules.specs.Market.{market_of}
use Rattle.price_book.specs.Steps.{Enters, facts_of}
use Rattle.price_book.specs.Plans.{printed}
use Rattle.price_book.proofs.Keeping.{fills-few}
use Rattle.price_book.proofs.Placing.{printed-here, printed-within}
use Rattle.price_book.proofs.reference.body.ReferenceBook.plan_entry.Goals as goal

pub returns-clause-made : goal.returns-clause-made
returns-clause-made c =
    let same : c.deref.result.now ≡ c.reserve.new.self.items = c.deref.ensures.value ∙ sym c.reserve.ensures.items in
    record {
      step = Enters c.args.order.now c.args.moment;
      allowed = record {
        market = market_of c.args.market;
        free = rw same at c.in_ok-plan.ensures.planned.0.0;
        place = rw same at c.in_ok-plan.ensures.planned.0.1;
        whole = c.in_ok-plan.ensures.whole;
      };
      made = ap (λ p. p.facts) c.in_ok-plan.ensures.planned.1 ∙ ap (λ fs. facts_of fs (Enters c.args.order.now c.args.moment)) same;
      headroom = search rules;
    }

pub returns-clause-few : goal.returns-clause-few
returns-clause-few c =
    let few : length c.in_ok-plan.plan.fills ≡ length (fills c.self.inside.facts.items c.args.order.now) = ap (λ p. length p.fills) c.in_ok-plan.ensures.planned.1 ∙ length-map (fills c.deref.result.now c.args.order.now) printed ∙ ap (λ fs. length (fills fs c.args.order.now)) c.deref.ensures.value in
    omega (arith, few, fills-few c.self.inside.facts.items c.args.order.now c.self.invariant.sides)

pub returns-clause-within : goal.returns-clause-within
returns-clause-within c = λ k.
    let fills-are : c.in_ok-plan.plan.fills ≡ map printed (fills c.deref.result.now c.args.order.now) = ap (λ p. p.fills) c.in_ok-plan.ensures.planned.1 in
    rw fills-are (printed-within c.deref.result.now c.args.order.now k ((c.fills_are_within.ensures c.deref.result.now c.args.order.now).0 k))

pub returns-clause-here : goal.returns-clause-here
returns-clause-here c =
    let fills-are : c.in_ok-plan.plan.fills ≡ map printed (fills c.deref.result.now c.args.order.now) = ap (λ p. p.fills) c.in_ok-plan.ensures.planned.1 in
    rw fills-are (printed-here c.deref.result.now c.args.order.now)
