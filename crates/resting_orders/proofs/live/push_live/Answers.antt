use Rattle.std.proofs.Common.{ap, subst, sym, ◌∙◌, ◌++◌, ◌∷◌, [], ◌+◌, cond, filter, take, append_assoc}
use Rattle.std.proofs.lemmas.List.{take_more}
use Rattle.std.proofs.lemmas.List.Elements.{filter-append}
use Rattle.venue_core.specs.State.{VenueFacts}
use Rattle.venue_core.specs.VenueFacts.{IsStanding}
use Rattle.resting_orders.specs.Quoting.{still_live}
use Rattle.resting_orders.proofs.live.push_live.Goals as goal

pub loop-quote-preserved : goal.loop-quote-preserved
loop-quote-preserved c =
    let a = c.args in
    let before = c.loop-quote.invariant in
    let done = c.push_if_live.ensures in
    let market = a.venue.now.market in
    let xs = a.quotes.now in
    let i = c.loop-quote.quote-index in
    let x = c.quote-item.result in (
      done.market ∙ before.0,
      done.day ∙ before.1,
      done.items ∙ before.2,
      λ h is.
          let p = still_live market h a.moment in
          c.in_ok-push_if_live.ensures.live h (subst (λ (y : VenueFacts). IsStanding y h) (sym before.1) is)
          ∙ ((λ j. before.3 h is j ++ cond (still_live (before.0 j) h a.moment x) (x ∷ []) [])
          ∙ (append_assoc a.live.now.items (filter p (take i xs)) (filter p (x ∷ []))
          ∙ ap (λ l. a.live.now.items ++ l)
          (sym (ap (filter p) (take_more xs i x c.loop-quote-test.true ∙ ap (λ y. take i xs ++ y ∷ []) (sym c.quote-item.is)) ∙ filter-append p (take i xs) (x ∷ []))))),
    )
