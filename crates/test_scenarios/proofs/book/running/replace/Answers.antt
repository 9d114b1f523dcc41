use Rattle.std.proofs.Common.{◌≡◌, ◌∙◌, ap, sym, refl, Some, option_map, arith}
use Rattle.venue_rules.specs.Book.{Resting, find_order}
use Rattle.price_book.specs.Views.{seen}
use Rattle.test_scenarios.proofs.book.running.replace.Goals as goal

pub plan_replace-first-requires : goal.plan_replace-first-requires
plan_replace-first-requires c =
    let one : Resting = seen c.in-Some.one in
    let found : find_order c.args.books.now.book.facts c.args.who c.args.old.now ≡ Some one = sym c.order.ensures.found ∙ ap (option_map seen) c.in-Some.is in
    (one, record { own = record { id = c.args.old.now; found = found }; number = refl }, omega (arith, c.if-get.false, c.get-2.ensures.value, c.filled.ensures.value, c.get.ensures.value))
