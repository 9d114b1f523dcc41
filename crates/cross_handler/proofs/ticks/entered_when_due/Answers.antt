use Rattle.std.proofs.Common.{◌∙◌, subst}
use Rattle.std.proofs.lemmas.Result.{IfOk-weaker}
use Rattle.price_book.specs.declared.book.Refusal.{Refusal}
use Rattle.price_book.specs.Plans.{IsEntryRefused}
use Rattle.venue_rules.specs.Market.{market_of}
use Rattle.order_handler.specs.Parts.{book_answer_of}
use Rattle.cross_handler.proofs.EnteringWhenDue.{entered_when_due-enters, entered_when_due-full, entered_when_due-soon}
use Rattle.cross_handler.proofs.ticks.entered_when_due.Goals as goal

pub returns-in-Ok-clause-answer : goal.returns-in-Ok-clause-answer
returns-in-Ok-clause-answer c = λ h delay read.
    entered_when_due-enters c.args.turn.now.market.participants.now c.args.turn.now.market.instruments.now h c.args.side.now c.due_moment-due.result (book_answer_of c.in-Ok.entered) c.due_moment-due.ensures (c.in-Ok.ensures.planned h delay read).0 (c.in-Ok.ensures.planned h delay read).1

pub returns-in-Err-TooSoon-clause-answer : goal.returns-in-Err-TooSoon-clause-answer
returns-in-Err-TooSoon-clause-answer c =
    IfOk-weaker c.refused.result _ _ (λ a e h delay read.
    let P : Refusal → Type 0 = λ cause. IsEntryRefused (market_of c.args.turn.now.market) h.facts c.args.side.now.order c.due_moment-due.result cause in
    e ∙ entered_when_due-soon c.args.turn.now.market.participants.now c.args.turn.now.market.instruments.now h c.args.side.now c.due_moment-due.result c.in-Err-TooSoon.field-0-0 c.args.turn.now.counts.reports c.due_moment-due.ensures read.of_reports (subst P c.in-Err-TooSoon.field-0-is (c.in-Err-TooSoon.ensures.refused h delay read))) c.refused.ensures.answer

pub returns-in-Err-Full-clause-answer : goal.returns-in-Err-Full-clause-answer
returns-in-Err-Full-clause-answer c =
    IfOk-weaker c.refused-in-Err-Full.result _ _ (λ a e h delay read.
    let P : Refusal → Type 0 = λ cause. IsEntryRefused (market_of c.args.turn.now.market) h.facts c.args.side.now.order c.due_moment-due.result cause in
    e ∙ entered_when_due-full c.args.turn.now.market.participants.now c.args.turn.now.market.instruments.now h c.args.side.now c.due_moment-due.result c.args.turn.now.counts.reports c.due_moment-due.ensures read.of_reports (subst P c.in-Err-Full.field-0-is (c.in-Err-Full.ensures.refused h delay read))) c.refused-in-Err-Full.ensures.answer
