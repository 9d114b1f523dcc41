use Rattle.std.proofs.Common.{drop, length, List}
use Rattle.venue_rules.specs.Book.{Resting}
use Rattle.venue_rules.specs.Facts.{entries}
use Rattle.price_book.specs.Live.{changes}
use Rattle.price_book.specs.SideIndex.{IsConsistent, HasCapacity}
use Rattle.price_book.proofs.Numbers.{Going}
use Rattle.price_book.proofs.changes.add_facts.Given as goal

abbrev pub invariant-loop-fact : goal.invariant-loop-fact
invariant-loop-fact l = ((rs : List Resting) → IsConsistent rs l.fn.orders → Going (changes rs l.facts) (drop l.fact-index l.facts) l.orders) × HasCapacity (length (entries l.facts)) l.orders
