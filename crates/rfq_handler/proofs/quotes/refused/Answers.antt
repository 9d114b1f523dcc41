use Rattle.std.proofs.Common.{◌∙◌, ap, sym, bytes_eq, length}
use Rattle.venue_rules.specs.Answer.{Answer}
use Rattle.venue_rules.specs.Rooms.{find_room, printed}
use Rattle.rfq_room.specs.Plan.{Plan}
use Rattle.venue_request.specs.Senders.{sender}
use Rattle.rfq_handler.specs.Sent.{symbol_in}
use Rattle.rfq_handler.proofs.Quoting.{refused-answer}
use Rattle.rfq_handler.proofs.Rooms.{find-listed, if-listed}
use Rattle.rfq_handler.proofs.quotes.refused.Goals as goal

pub symbol_in-symbol-requires : goal.symbol_in-symbol-requires
symbol_in-symbol-requires c = if-listed (λ r. r.now) c.find_room-room.result (length c.args.request.now.turn.market.instruments.now) (λ r e. find-listed (length c.args.request.now.turn.market.instruments.now) (λ r. bytes_eq (printed 82 r.number) c.args.quote.now.request_id) c.args.rooms.now.facts r c.requires (sym c.find_room-room.ensures ∙ e))

pub returns-clause-emitted : goal.returns-clause-emitted
returns-clause-emitted c =
    refused-answer c.args.request.now.turn.market.instruments.now (sender c.args.request.now.taken.now) c.args.quote.now c.args.cause (find_room c.args.rooms.now.facts c.args.quote.now.request_id)
    c.symbol_in-symbol.result c.status-reply.result c.nothing.result c.in_ok-replies.replies.items c.of.result
    (c.symbol_in-symbol.ensures ∙ ap (symbol_in c.args.request.now.turn.market.instruments.now) c.find_room-room.ensures) c.status-reply.ensures c.in_ok-replies.ensures.items c.nothing.ensures c.of.ensures

pub returns-clause-quiet : goal.returns-clause-quiet
returns-clause-quiet c = ap (λ (a : Answer). a.facts) c.of.ensures ∙ ap (λ (p : Plan). p.facts) c.nothing.ensures
