use Rattle.std.proofs.Common.{◌∙◌}
use Rattle.rfq_room.proofs.Flagging.{requests-are}
use Rattle.rfq_room.proofs.room_index.RoomIndex.is_request_id_used.Goals as goal

pub returns : goal.returns
returns c = rw (← c.self.view_is) (c.has.ensures ∙ c.self.invariant.requests c.args.who c.args.id.now ∙ requests-are c.self.inside.past c.args.who c.args.id.now)
