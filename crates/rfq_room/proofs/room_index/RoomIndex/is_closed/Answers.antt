use Rattle.std.proofs.Common.{◌∙◌}
use Rattle.rfq_room.proofs.Flagging.{traded-is}
use Rattle.rfq_room.proofs.room_index.RoomIndex.is_closed.Goals as goal

pub returns : goal.returns
returns c = rw (← c.self.view_is) (c.is_set.ensures ∙ c.self.invariant.traded c.args.room ∙ traded-is c.self.inside.past c.args.room)
