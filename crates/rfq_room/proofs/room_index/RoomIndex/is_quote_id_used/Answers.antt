use Rattle.std.proofs.Common.{◌∙◌}
use Rattle.rfq_room.proofs.Flagging.{quotes-are}
use Rattle.rfq_room.proofs.room_index.RoomIndex.is_quote_id_used.Goals as goal

pub returns : goal.returns
returns c = rw (← c.self.view_is) (c.has.ensures ∙ c.self.invariant.quotes c.args.who c.args.id.now ∙ quotes-are c.self.inside.past c.args.who c.args.id.now)
