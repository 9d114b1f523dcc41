use Rattle.std.proofs.Common.{◌∙◌, ap, subst, length}
use Rattle.std.proofs.lemmas.Result.{IfOk-weaker}
use Rattle.venue_rules.specs.Answers.{type_of}
use Rattle.price_book.specs.declared.book.Refusal.{Refusal}
use Rattle.price_book.specs.Plans.{IsEntryRefused}
use Rattle.cross_delay.specs.declared.held.Refusal.{Refusal as HoldRefusal}
use Rattle.cross_delay.specs.Plans.{IsHoldRefused}
use Rattle.venue_rules.specs.Market.{market_of}
use Rattle.venue_request.specs.Senders.{sender}
use Rattle.cross_handler.specs.Crossing.{cross_order}
use Rattle.cross_handler.proofs.Answering.{full-answers, held-answers, many-answers, soon-answers, turned-answers}
use Rattle.cross_handler.proofs.Making.{quiet-made}
use Rattle.cross_handler.proofs.crosses.plan_cross.Goals as goal

pub returns-in-Err-clause-planned : goal.returns-in-Err-clause-planned
returns-in-Err-clause-planned c =
    IfOk-weaker c.rejection.result _ _ (λ a e h read. e ∙ turned-answers c.args.request.now.turn.market.participants.now c.args.request.now.turn.market.instruments.now c.args.book.now.facts c.args.held.now.facts c.args.request.now.turn.counts h c.args.request.now.taken.now.from c.args.request.now.taken.now.item.number (type_of c.args.request.now.taken.now.item.app) c.args.cross.now c.args.request.now.turn.moment c.in-Err.cause (c.parts_are_read_alone.ensures h c.args.book.now.facts c.args.held.now.facts c.args.request.now.turn.counts read) c.in-Err.ensures.turned) c.rejection.ensures.answer

pub returns-in-Err-TooSoon-clause-planned : goal.returns-in-Err-TooSoon-clause-planned
returns-in-Err-TooSoon-clause-planned c =
    IfOk-weaker c.refused.result _ _ (λ a e h read.
    let P : Refusal → Type 0 = λ cause. IsEntryRefused (market_of c.args.request.now.turn.market) h.facts c.side_order-first.result c.args.request.now.turn.moment cause in
    e ∙ soon-answers c.args.request.now.turn.market.participants.now c.args.request.now.turn.market.instruments.now c.args.book.now.facts c.args.held.now.facts c.args.request.now.turn.counts h (sender c.args.request.now.taken.now) c.args.cross.now c.args.request.now.turn.moment c.in-Ok.terms c.side_order-first.result c.in-Err-TooSoon.field-0-0 (c.parts_are_read_alone.ensures h c.args.book.now.facts c.args.held.now.facts c.args.request.now.turn.counts read)
    (record { sound = c.in-Ok.ensures.sound; named = c.in-Ok.ensures.terms; asked = c.side_order-first.ensures ∙ ap (cross_order c.in-Ok.terms c.args.request.now.taken.now.from) c.first_side.ensures })
    (subst P c.in-Err-TooSoon.field-0-is (c.in-Err-TooSoon.ensures.refused h c.args.held.now.facts read))) c.refused.ensures.answer

pub returns-in-Err-Full-clause-planned : goal.returns-in-Err-Full-clause-planned
returns-in-Err-Full-clause-planned c =
    IfOk-weaker c.refused-in-Err-Full.result _ _ (λ a e h read.
    let P : Refusal → Type 0 = λ cause. IsEntryRefused (market_of c.args.request.now.turn.market) h.facts c.side_order-first.result c.args.request.now.turn.moment cause in
    e ∙ full-answers c.args.request.now.turn.market.participants.now c.args.request.now.turn.market.instruments.now c.args.book.now.facts c.args.held.now.facts c.args.request.now.turn.counts h (sender c.args.request.now.taken.now) c.args.cross.now c.args.request.now.turn.moment c.in-Ok.terms c.side_order-first.result (c.parts_are_read_alone.ensures h c.args.book.now.facts c.args.held.now.facts c.args.request.now.turn.counts read)
    (record { sound = c.in-Ok.ensures.sound; named = c.in-Ok.ensures.terms; asked = c.side_order-first.ensures ∙ ap (cross_order c.in-Ok.terms c.args.request.now.taken.now.from) c.first_side.ensures })
    (subst P c.in-Err-Full.field-0-is (c.in-Err-Full.ensures.refused h c.args.held.now.facts read))) c.refused-in-Err-Full.ensures.answer

pub returns-in-Ok-plan_hold-clause-planned : goal.returns-in-Ok-plan_hold-clause-planned
returns-in-Ok-plan_hold-clause-planned c = λ h read.
    held-answers c.args.request.now.turn.market.participants.now c.args.request.now.turn.market.instruments.now c.args.book.now.facts c.args.held.now.facts c.args.request.now.turn.counts h (sender c.args.request.now.taken.now) c.args.cross.now c.args.request.now.turn.moment c.in-Ok.terms c.side_order-first.result c.in-Ok-enter.entered c.with_delay.result c.held_side-second.result c.in-Ok-plan_hold.plan.facts (c.parts_are_read_alone.ensures h c.args.book.now.facts c.args.held.now.facts c.args.request.now.turn.counts read)
    (record { sound = c.in-Ok.ensures.sound; named = c.in-Ok.ensures.terms; asked = c.side_order-first.ensures ∙ ap (cross_order c.in-Ok.terms c.args.request.now.taken.now.from) c.first_side.ensures })
    (c.in-Ok-enter.ensures.planned h c.args.held.now.facts read).0
    (c.in-Ok-enter.ensures.planned h c.args.held.now.facts read).1
    c.in-Ok-plan_hold.ensures.free c.held_side-second.ensures (ap (λ p. p.facts) c.in-Ok-plan_hold.ensures.planned) c.with_delay.ensures

pub returns-in-Err-Full-plan_hold-clause-planned : goal.returns-in-Err-Full-plan_hold-clause-planned
returns-in-Err-Full-plan_hold-clause-planned c =
    IfOk-weaker c.refused-in-Err-Full-plan_hold.result _ _ (λ a e h read.
    let P : HoldRefusal → Type 0 = IsHoldRefused c.args.held.now.facts in
    e ∙ many-answers c.args.request.now.turn.market.participants.now c.args.request.now.turn.market.instruments.now c.args.book.now.facts c.args.held.now.facts c.args.request.now.turn.counts h (sender c.args.request.now.taken.now) c.args.cross.now c.args.request.now.turn.moment c.in-Ok.terms c.side_order-first.result (c.parts_are_read_alone.ensures h c.args.book.now.facts c.args.held.now.facts c.args.request.now.turn.counts read)
    (record { sound = c.in-Ok.ensures.sound; named = c.in-Ok.ensures.terms; asked = c.side_order-first.ensures ∙ ap (cross_order c.in-Ok.terms c.args.request.now.taken.now.from) c.first_side.ensures })
    (c.in-Ok-enter.ensures.planned h c.args.held.now.facts read).0
    (subst P c.in-Err-Full-plan_hold.field-0-is c.in-Err-Full-plan_hold.ensures.refused)) c.refused-in-Err-Full-plan_hold.ensures.answer

pub returns-in-Err-Full-plan_hold-clause-made : goal.returns-in-Err-Full-plan_hold-clause-made
returns-in-Err-Full-plan_hold-clause-made c = IfOk-weaker c.refused-in-Err-Full-plan_hold.result _ _ (λ a q. quiet-made (length c.args.request.now.turn.market.instruments.now) c.enter.new.book c.plan_hold.new.self a q) c.refused-in-Err-Full-plan_hold.ensures.quiet
