use Rattle.std.proofs.Common.{◌≡◌, ◌∙◌, ap, sym, length, Some, None, option_map, refl, ◌+◌, false}
use Rattle.std.proofs.lemmas.Result.{IfOk-weaker}
use Rattle.venue_rules.specs.Delay.{find_held}
use Rattle.price_book.specs.Plan.{Plan}
use Rattle.order_handler.specs.Parts.{Parts}
use Rattle.venue_rules.specs.Market.{market_of}
use Rattle.venue_request.specs.Senders.{sender}
use Rattle.order_handler.proofs.Changing.{cancel-unknown, drop-planned, held-again, held-listed}
use Rattle.order_handler.proofs.changes.plan_drop.Goals as goal

pub returns-in_default-clause-planned : goal.returns-in_default-clause-planned
returns-in_default-clause-planned c =
    let gone : find_held c.args.held.now.facts c.args.request.now.taken.now.from c.args.message.now.original_id ≡ None = sym c.side.ensures ∙ ap (option_map (λ k. k.now)) c.in_default.is in
    IfOk-weaker c.cancel_refused.result _ _ (λ a e. λ h x. e ∙ sym (cancel-unknown (market_of c.args.request.now.turn.market) h c.args.book.now.facts c.args.held.now.facts c.args.request.now.turn.counts (sender c.args.request.now.taken.now) c.args.message.now (c.parts_are_read_alone.ensures h c.args.book.now.facts c.args.held.now.facts c.args.request.now.turn.counts x) c.requires.unknown gone)) c.cancel_refused.ensures.answer

pub returns-then-is_used-clause-planned : goal.returns-then-is_used-clause-planned
returns-then-is_used-clause-planned c =
    let found : find_held c.args.held.now.facts c.args.request.now.taken.now.from c.args.message.now.original_id ≡ Some c.in-Some.side.now = sym c.side.ensures ∙ ap (option_map (λ k. k.now)) c.in-Some.is in
    IfOk-weaker c.cancel_refused-then-is_used.result _ _ (λ a e. λ h x. e ∙ sym (held-again (market_of c.args.request.now.turn.market) h c.args.book.now.facts c.args.held.now.facts c.args.request.now.turn.counts (sender c.args.request.now.taken.now) c.args.message.now c.in-Some.side.now (c.parts_are_read_alone.ensures h c.args.book.now.facts c.args.held.now.facts c.args.request.now.turn.counts x) c.requires.unknown found (sym c.if-is_used.ensures))) c.cancel_refused-then-is_used.ensures.answer

pub drop_reply-reply-requires : goal.drop_reply-reply-requires
drop_reply-reply-requires c =
    let found : find_held c.args.held.now.facts c.args.request.now.taken.now.from c.args.message.now.original_id ≡ Some c.in-Some.side.now = sym c.side.ensures ∙ ap (option_map (λ k. k.now)) c.in-Some.is in
    held-listed c.args.held.now.facts (length c.args.request.now.turn.market.instruments.now) c.args.request.now.taken.now.from c.args.message.now.original_id c.in-Some.side.now c.requires.delay_listed found

pub returns-clause-planned : goal.returns-clause-planned
returns-clause-planned c = λ h x.
    let found : find_held c.args.held.now.facts c.args.request.now.taken.now.from c.args.message.now.original_id ≡ Some c.in-Some.side.now = sym c.side.ensures ∙ ap (option_map (λ k. k.now)) c.in-Some.is in
    let alone = c.parts_are_read_alone.ensures h c.args.book.now.facts c.args.held.now.facts c.args.request.now.turn.counts x in
    drop-planned (market_of c.args.request.now.turn.market) h c.args.book.now.facts c.args.held.now.facts c.args.request.now.turn.counts (sender c.args.request.now.taken.now) c.args.message.now c.in-Some.side.now c.in_ok-plan.plan c.in_ok-replies.replies.items c.of.result
    alone c.requires.delay_listed c.requires.unknown found (sym c.if-is_used.ensures) c.in_ok-plan.ensures.planned
    (c.in_ok-replies.ensures.items ∙ c.drop_reply-reply.ensures (market_of c.args.request.now.turn.market) h refl (ap (λ n. n + 1) (sym alone.reports)))
    (c.of.ensures ∙ ap (λ (q : Plan). let y : Parts = record { delay_first = false; delay = c.in_ok-plan.plan.facts; book = q.facts; replies = c.in_ok-replies.replies.items } in y) c.nothing-nothing.ensures)
