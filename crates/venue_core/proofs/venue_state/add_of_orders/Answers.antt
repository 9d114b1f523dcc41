use Rattle.std.proofs.Common.{◌≡◌, refl, length, arith, ◌∙◌, ap, sym, subst, true, ◌+◌, ◌++◌}
use Rattle.std.specs.List.{list_all}
use Rattle.venue_rules.specs.Run.{after}
use Rattle.price_book.specs.BookFacts.{is_book_fact}
use Rattle.cross_delay.specs.DelayFacts.{is_delay_fact}
use Rattle.venue_core.specs.declared.plan.Part.TheVariants.{OfOrders}
use Rattle.venue_core.specs.Plan.{answer_of, trades_with}
use Rattle.venue_core.specs.VenueFacts.{IsStanding}
use Rattle.venue_core.specs.State.{VenueFacts, standing}
use Rattle.venue_core.proofs.Adding.{orders-after, same-standing, with-length}
use Rattle.venue_core.proofs.Parting.{rest-all}
use Rattle.venue_core.proofs.venue_state.add_of_orders.Goals as goal

pub returns-clause-after : goal.returns-clause-after
returns-clause-after c =
    let old = c.args.day.now in
    let answer = c.args.answer in
    let booked : c.apply.new.self.facts ≡ old.book.facts ++ answer.book = c.apply.ensures ∙ ap (λ fs. old.book.facts ++ fs) c.into_parts-fills.ensures.book in
    let held : c.apply-2.new.self.facts ≡ old.held.facts ++ answer.delay = c.apply-2.ensures ∙ ap (λ fs. old.held.facts ++ fs) c.into_parts-fills.ensures.delay in
    let traded : c.add.new.self.trades ≡ trades_with old.traded.trades answer.book = c.add.ensures ∙ ap (λ fs. trades_with old.traded.trades fs) (c.facts.ensures ∙ c.into_parts-fills.ensures.book) in
    let own_book : list_all is_book_fact answer.book ≡ true = rest-all is_book_fact old.book.facts answer.book (ap (λ fs. list_all is_book_fact fs) (sym booked) ∙ c.facts_are_own-book.ensures.own) in
    let own_delay : list_all is_delay_fact answer.delay ≡ true = rest-all is_delay_fact old.held.facts answer.delay (ap (λ fs. list_all is_delay_fact fs) (sym held) ∙ c.facts_are_own-held.ensures.own) in
    λ h s. subst (λ (p : VenueFacts). IsStanding p (after h (answer_of (OfOrders answer)))) (sym (same-standing _ _ _ _ _ _ _ _ _ _ _ _ booked refl held (ap (λ n. old.reports + n) c.reports.ensures.value) traded refl)) (orders-after c.trades_are_read.ensures.more c.later_quotes_are_read.ensures.more (standing old) h answer c.requires.numbered own_book own_delay s)

pub returns-clause-trades : goal.returns-clause-trades
returns-clause-trades c =
    let old = c.args.day.now in
    let answer = c.args.answer in
    let traded : c.add.new.self.trades ≡ trades_with old.traded.trades answer.book = c.add.ensures ∙ ap (λ fs. trades_with old.traded.trades fs) (c.facts.ensures ∙ c.into_parts-fills.ensures.book) in
    omega (arith, ap length traded, with-length old.traded.trades answer.book, c.requires.room.2.few)
