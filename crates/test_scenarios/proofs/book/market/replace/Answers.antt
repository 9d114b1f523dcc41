use Rattle.std.proofs.Common.{◌≡◌, ◌∙◌, ap, sym, refl, Some, option_map, arith}
use Rattle.venue_rules.specs.Book.{Resting, find_order}
use Rattle.price_book.specs.Views.{seen}
use Rattle.test_scenarios.proofs.book.market.replace.Goals as goal

pub plan_replace-requires : goal.plan_replace-requires
plan_replace-requires c =
    let order : Resting = seen c.in-Some.order in
    let found : find_order c.args.book.now.facts c.args.who c.args.old.now ≡ Some order = sym c.order.ensures.found ∙ ap (option_map seen) c.in-Some.is in
    (order, record { own = record { id = c.args.old.now; found = found }; number = refl }, omega (arith, c.if-get.false, c.get-2.ensures.value, c.filled.ensures.value, c.get.ensures.value))
