use Rattle.std.proofs.Common.{◌∙◌}
use Rattle.rfq_room.proofs.Flagging.{withdrawn-is}
use Rattle.rfq_room.proofs.room_index.RoomIndex.is_withdrawn.Goals as goal

pub returns : goal.returns
returns c = rw (← c.self.view_is) (c.is_set.ensures ∙ c.self.invariant.withdrawn c.args.quote ∙ withdrawn-is c.self.inside.past c.args.quote)
