use Rattle.std.proofs.Common.{◌∙◌, ap, sym, ℕ, ◌*◌}
use Rattle.venue_rules.specs.Answer.{Sender}
use Rattle.rfq_handler.specs.Counting.{reports_in}
use Rattle.rfq_handler.specs.Responded.{response_replies}
use Rattle.venue_request.specs.Senders.{sender}
use Rattle.rfq_handler.proofs.Responding.{replies-counted}
use Rattle.rfq_handler.proofs.responses.accepted_in.Goals as goal

pub of-requires-clause-counted : goal.of-requires-clause-counted
of-requires-clause-counted c =
    let s : Sender = sender c.args.request.now.taken.now in
    ap (λ (n : ℕ). 2 * n) c.trades_of-trades.ensures.value
    ∙ replies-counted c.args.request.now.turn.market.instruments.now c.args.request.now.turn.counts.reports c.args.request.now.turn.counts.trades s c.args.response.now c.args.room.now c.args.quote.now c.args.plan.hit
    ∙ sym (ap reports_in (c.in_ok-replies.ensures ∙ ap (λ x. response_replies c.args.request.now.turn.market.instruments.now c.args.request.now.turn.counts.reports c.args.request.now.turn.counts.trades s c.args.response.now c.args.room.now c.args.quote.now x) c.hit.ensures))
