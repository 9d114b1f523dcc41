use Rattle.std.proofs.Common.{◌≡◌, ◌∙◌, ap, sym, length, Some, option_map, refl, ◌+◌, false, arith}
use Rattle.std.proofs.lemmas.Result.{IfOk-weaker}
use Rattle.venue_rules.specs.Book.{Resting, find_order}
use Rattle.price_book.specs.Plans.{cancel_plan}
use Rattle.price_book.specs.Views.{seen}
use Rattle.venue_rules.specs.declared.refusals.ChangeRefusal.TheVariants.{DuplicateClOrdId}
use Rattle.venue_rules.specs.declared.replies.OrderStatus.{OrderStatus}
use Rattle.venue_rules.specs.Changes.{cancel_refused}
use Rattle.cross_delay.specs.Plan.{Plan as DelayPlan}
use Rattle.order_handler.specs.Parts.{Parts}
use Rattle.venue_rules.specs.Market.{market_of}
use Rattle.venue_request.specs.Senders.{sender}
use Rattle.order_handler.proofs.Changing.{cancel-again, cancel-planned, order-listed}
use Rattle.order_handler.proofs.Turning.{book-made}
use Rattle.order_handler.proofs.changes.plan_cancel.Goals as goal

pub returns-then-is_used-clause-planned : goal.returns-then-is_used-clause-planned
returns-then-is_used-clause-planned c =
    let order : Resting = seen c.in-Some.order in
    let found : find_order c.args.book.now.facts c.args.request.now.taken.now.from c.args.message.now.original_id ≡ Some order = sym c.order.ensures.found ∙ ap (option_map seen) c.in-Some.is in
    IfOk-weaker c.cancel_refused.result _ _ (λ a e. λ h x. e ∙ ap (λ (st : OrderStatus). cancel_refused (sender c.args.request.now.taken.now) c.args.message.now (Some st) DuplicateClOrdId) c.standing.ensures ∙ sym (cancel-again (market_of c.args.request.now.turn.market) h c.args.book.now.facts c.args.held.now.facts c.args.request.now.turn.counts (sender c.args.request.now.taken.now) c.args.message.now order (c.parts_are_read_alone.ensures h c.args.book.now.facts c.args.held.now.facts c.args.request.now.turn.counts x) found (sym c.if-is_used.ensures))) c.cancel_refused.ensures.answer

pub cancel_reply-reply-requires : goal.cancel_reply-reply-requires
cancel_reply-reply-requires c =
    let order : Resting = seen c.in-Some.order in
    let found : find_order c.args.book.now.facts c.args.request.now.taken.now.from c.args.message.now.original_id ≡ Some order = sym c.order.ensures.found ∙ ap (option_map seen) c.in-Some.is in
    order-listed c.args.book.now.facts (length c.args.request.now.turn.market.instruments.now) c.args.request.now.taken.now.from c.args.message.now.original_id order c.requires.book_listed found

pub returns-clause-planned : goal.returns-clause-planned
returns-clause-planned c = λ h x.
    let order : Resting = seen c.in-Some.order in
    let found : find_order c.args.book.now.facts c.args.request.now.taken.now.from c.args.message.now.original_id ≡ Some order = sym c.order.ensures.found ∙ ap (option_map seen) c.in-Some.is in
    let alone = c.parts_are_read_alone.ensures h c.args.book.now.facts c.args.held.now.facts c.args.request.now.turn.counts x in
    cancel-planned (market_of c.args.request.now.turn.market) h c.args.book.now.facts c.args.held.now.facts c.args.request.now.turn.counts (sender c.args.request.now.taken.now) c.args.message.now order c.in_ok-plan.plan c.in_ok-replies.replies.items c.of.result
    alone found (sym c.if-is_used.ensures) (c.in_ok-plan.ensures.planned order (record { own = record { id = c.args.message.now.original_id; found = found }; number = refl }))
    (c.in_ok-replies.ensures.items ∙ c.cancel_reply-reply.ensures (market_of c.args.request.now.turn.market) h refl (ap (λ n. n + 1) (sym alone.reports)))
    (c.of.ensures ∙ ap (λ (q : DelayPlan). let y : Parts = record { delay_first = false; delay = q.facts; book = c.in_ok-plan.plan.facts; replies = c.in_ok-replies.replies.items } in y) c.nothing-nothing.ensures)

pub plan_cancel-requires : goal.plan_cancel-requires
plan_cancel-requires c =
    let order : Resting = seen c.in-Some.order in
    let found : find_order c.args.book.now.facts c.args.request.now.taken.now.from c.args.message.now.original_id ≡ Some order = sym c.order.ensures.found ∙ ap (option_map seen) c.in-Some.is in
    (order, record { own = record { id = c.args.message.now.original_id; found = found }; number = refl })

pub of-requires-clause-trades : goal.of-requires-clause-trades
of-requires-clause-trades c =
    let order : Resting = seen c.in-Some.order in
    let found : find_order c.args.book.now.facts c.args.request.now.taken.now.from c.args.message.now.original_id ≡ Some order = sym c.order.ensures.found ∙ ap (option_map seen) c.in-Some.is in
    let made : c.in_ok-plan.plan ≡ cancel_plan order c.args.request.now.taken.now.from c.args.message.now.order_id = c.in_ok-plan.ensures.planned order (record { own = record { id = c.args.message.now.original_id; found = found }; number = refl }) in
    rw made (omega arith)

pub returns-clause-made : goal.returns-clause-made
returns-clause-made c =
    let order : Resting = seen c.in-Some.order in
    let found : find_order c.args.book.now.facts c.args.request.now.taken.now.from c.args.message.now.original_id ≡ Some order = sym c.order.ensures.found ∙ ap (option_map seen) c.in-Some.is in
    let made : c.in_ok-plan.plan ≡ cancel_plan order c.args.request.now.taken.now.from c.args.message.now.order_id = c.in_ok-plan.ensures.planned order (record { own = record { id = c.args.message.now.original_id; found = found }; number = refl }) in
    book-made (length c.args.request.now.turn.market.instruments.now) c.plan_cancel.new.self c.args.held.now c.of.result
    (rw c.of.ensures c.in_ok-plan.ensures.made)
    (rw (c.of.ensures, made) refl)
    (ap (λ p. p.delay) c.of.ensures ∙ ap (λ q. q.facts) c.nothing-nothing.ensures)
