use Rattle.std.proofs.Common.{ap, subst, sym, ◌∙◌, ◌++◌, ◌<◌, length, take, take_all, arith, append_assoc}
use Rattle.instruments.specs.Listing.{symbol_of}
use Rattle.venue_rules.specs.Market.{Market}
use Rattle.venue_core.specs.State.{VenueFacts}
use Rattle.venue_core.specs.VenueFacts.{IsStanding}
use Rattle.resting_orders.specs.Resting.{books_shown}
use Rattle.resting_orders.proofs.Booking.{books_more, shown_for}
use Rattle.resting_orders.proofs.rests.push_books.Goals as goal

pub symbol_of-symbol-requires : goal.symbol_of-symbol-requires
symbol_of-symbol-requires c =
    omega (arith, c.loop-place-test.true, c.len-place-end.ensures.count, ap length c.instruments.ensures, ap length c.instruments-in-loop-place.ensures, ap (λ (m : Market). length m.instruments) c.loop-place.invariant.0)

pub loop-place-preserved : goal.loop-place-preserved
loop-place-preserved c =
    let a = c.args in
    let before = c.loop-place.invariant in
    let done = c.push_book.ensures in
    let market = a.venue.now.market in
    let symbol = c.symbol_of-symbol.result in
    let low : c.loop-place.place < length market.instruments = omega (arith, c.loop-place-test.true, c.len-place-end.ensures.count, ap length c.instruments.ensures) in (
      done.market ∙ before.0,
      done.day ∙ before.1,
      done.items ∙ before.2,
      λ h is.
          c.in_ok-push_book.ensures.rested h (subst (λ (p : VenueFacts). IsStanding p h) (sym before.1) is)
          ∙ ((λ j. before.3 h is j ++ shown_for a.orders.now (before.0 j) h symbol)
          ∙ (append_assoc a.rested.now.items (books_shown a.orders.now market h (take c.loop-place.place market.instruments)) (shown_for a.orders.now market h symbol)
          ∙ ap (λ l. a.rested.now.items ++ l)
          (sym (books_more a.orders.now market h market.instruments c.loop-place.place symbol low (c.symbol_of-symbol.ensures ∙ ap (λ xs. symbol_of xs c.loop-place.place) (c.instruments-in-loop-place.ensures ∙ ap (λ (m : Market). m.instruments) before.0)))))),
    )

pub returns-clause-rested : goal.returns-clause-rested
returns-clause-rested c = λ h is.
    let market = c.args.venue.now.market in
    c.loop-place.invariant.3 h is
    ∙ ap (λ xs. c.args.rested.now.items ++ books_shown c.args.orders.now market h xs) (take_all c.loop-place.place market.instruments (omega (arith, c.loop-place-test.false, c.len-place-end.ensures.count, ap length c.instruments.ensures)))
