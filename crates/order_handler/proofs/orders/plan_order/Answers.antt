use Rattle.std.proofs.Common.{◌∙◌}
use Rattle.std.proofs.lemmas.Result.{IfOk-weaker}
use Rattle.venue_rules.specs.Market.{market_of}
use Rattle.venue_request.specs.Senders.{sender}
use Rattle.order_handler.specs.Parts.{answer_of}
use Rattle.order_handler.proofs.Turning.{alone-answer, entered-planned, full-planned, soon-planned, turned-planned}
use Rattle.order_handler.proofs.orders.plan_order.Goals as goal

pub returns-in-Err-clause-planned : goal.returns-in-Err-clause-planned
returns-in-Err-clause-planned c =
    IfOk-weaker c.rejection.result _ _ (λ a e. λ h x. turned-planned (market_of c.args.request.now.turn.market) h c.args.book.now.facts c.args.held.now.facts c.args.request.now.turn.counts (sender c.args.request.now.taken.now) c.args.order.now c.args.request.now.turn.moment c.in-Err.cause (answer_of a) (c.parts_are_read_alone.ensures h c.args.book.now.facts c.args.held.now.facts c.args.request.now.turn.counts x) c.in-Err.ensures.turned e) c.rejection.ensures.answer

pub returns-in-Ok-enter-clause-planned : goal.returns-in-Ok-enter-clause-planned
returns-in-Ok-enter-clause-planned c = λ h x.
    let said = c.in-Ok-enter.ensures.planned h c.args.held.now.facts x in
    entered-planned (market_of c.args.request.now.turn.market) h c.args.book.now.facts c.args.held.now.facts c.args.request.now.turn.counts (sender c.args.request.now.taken.now) c.args.order.now c.args.request.now.turn.moment c.order_asked-asked.result (answer_of c.in-Ok-enter.answer) (c.parts_are_read_alone.ensures h c.args.book.now.facts c.args.held.now.facts c.args.request.now.turn.counts x) c.in-Ok.ensures.sound c.order_asked-asked.ensures said.0 (alone-answer c.in-Ok-enter.answer c.in-Ok-enter.ensures.alone ∙ said.1)

pub returns-in-Err-TooSoon-clause-planned : goal.returns-in-Err-TooSoon-clause-planned
returns-in-Err-TooSoon-clause-planned c =
    IfOk-weaker c.refused.result _ _ (λ a e. λ h x. soon-planned (market_of c.args.request.now.turn.market) h c.args.book.now.facts c.args.held.now.facts c.args.request.now.turn.counts (sender c.args.request.now.taken.now) c.args.order.now c.args.request.now.turn.moment c.order_asked-asked.result c.in-Err-TooSoon.field-0-0 (answer_of a) (c.parts_are_read_alone.ensures h c.args.book.now.facts c.args.held.now.facts c.args.request.now.turn.counts x) c.in-Ok.ensures.sound c.order_asked-asked.ensures ((rw c.in-Err-TooSoon.field-0-is at c.in-Err-TooSoon.ensures.refused) h c.args.held.now.facts x) e) c.refused.ensures.answer

pub returns-in-Err-Full-clause-planned : goal.returns-in-Err-Full-clause-planned
returns-in-Err-Full-clause-planned c =
    IfOk-weaker c.refused-in-Err-Full.result _ _ (λ a e. λ h x. full-planned (market_of c.args.request.now.turn.market) h c.args.book.now.facts c.args.held.now.facts c.args.request.now.turn.counts (sender c.args.request.now.taken.now) c.args.order.now c.args.request.now.turn.moment c.order_asked-asked.result (answer_of a) (c.parts_are_read_alone.ensures h c.args.book.now.facts c.args.held.now.facts c.args.request.now.turn.counts x) c.in-Ok.ensures.sound c.order_asked-asked.ensures ((rw c.in-Err-Full.field-0-is at c.in-Err-Full.ensures.refused) h c.args.held.now.facts x) e) c.refused-in-Err-Full.ensures.answer
