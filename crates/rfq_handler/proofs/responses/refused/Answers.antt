use Rattle.std.proofs.Common.{◌∙◌, sym, length}
use Rattle.rfq_handler.proofs.Responding.{room-listed}
use Rattle.rfq_handler.proofs.Rooms.{if-listed}
use Rattle.rfq_handler.proofs.responses.refused.Goals as goal

pub emitted-requires-2 : goal.emitted-requires-2
emitted-requires-2 c = if-listed (λ r. r.now) c.quote_room-room.result (length c.args.request.now.turn.market.instruments.now) (λ r e. room-listed (length c.args.request.now.turn.market.instruments.now) c.args.rooms.now.facts c.args.response.now.quote_id r c.requires (sym c.quote_room-room.ensures ∙ e))
