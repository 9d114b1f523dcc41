use Rattle.std.proofs.Common.{sym, subst}
use Rattle.venue_rules.specs.declared.facts.TradeSource.{TradeSource}
use Rattle.price_book.specs.Live.{reduced, reduced_in}
use Rattle.price_book.specs.SideIndex.{IsConsistent}
use Rattle.price_book.proofs.changes.trade.Goals as goal

pub returns-in-Book-clause-step : goal.returns-in-Book-clause-step
returns-in-Book-clause-step c = λ rs h.
    let q = c.args.trade.now.quantity in
    let both : IsConsistent (reduced c.in-Book.entering q (reduced c.in-Book.resting q rs)) c.reduce-in-Book.new.orders = rw (c.get.ensures.value, c.get-in-Book.ensures.value) at (c.reduce-in-Book.ensures.step _ (c.reduce.ensures.step rs h)) in
    subst (λ (p : TradeSource). IsConsistent (reduced_in p q rs) c.reduce-in-Book.new.orders) (sym c.in-Book.is) both

pub returns-in-Book-clause-headroom : goal.returns-in-Book-clause-headroom
returns-in-Book-clause-headroom c = λ n h. c.reduce-in-Book.ensures.headroom n (c.reduce.ensures.headroom n h)
