use Rattle.std.proofs.Common.{◌≡◌, refl, ◌∙◌, ap, sym, option_map, Some, rules}
use Rattle.venue_rules.specs.Book.{Resting, find_order}
use Rattle.price_book.specs.Views.{seen}
use Rattle.price_book.specs.Steps.{Leaves}
use Rattle.price_book.proofs.reference.body.ReferenceBook.plan_cancel.Goals as goal

pub returns-clause-planned : goal.returns-clause-planned
returns-clause-planned c =
    let order : Resting = seen c.unwrap-order.result in
    let found : find_order c.self.inside.facts.items c.args.who c.args.order_id.now ≡ Some order = ap (λ fs. find_order fs c.args.who c.args.order_id.now) (sym c.deref.ensures.value) ∙ sym c.find_order.ensures ∙ ap (option_map seen) c.unwrap-order.ensures in
    rw (← c.self.view_is, found) (ap Some (sym (c.in_ok-plan.ensures order refl)))

pub returns-clause-made : goal.returns-clause-made
returns-clause-made c = record {
  step = Leaves (seen c.unwrap-order.result) c.args.who c.args.id.now;
  allowed = record {
    id = c.args.order_id.now;
    found = ap (λ fs. find_order fs c.args.who c.args.order_id.now) (sym (c.deref.ensures.value ∙ sym c.reserve.ensures.items)) ∙ sym c.find_order.ensures ∙ ap (option_map seen) c.unwrap-order.ensures;
  };
  made = ap (λ p. p.facts) (c.in_ok-plan.ensures (seen c.unwrap-order.result) refl);
  headroom = search rules;
}
