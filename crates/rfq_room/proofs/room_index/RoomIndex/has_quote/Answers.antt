use Rattle.std.proofs.Common.{◌∙◌}
use Rattle.rfq_room.proofs.Flagging.{quoted-is}
use Rattle.rfq_room.proofs.room_index.RoomIndex.has_quote.Goals as goal

pub returns : goal.returns
returns c = rw (← c.self.view_is) (c.is_set.ensures ∙ c.self.invariant.quoted c.args.room ∙ quoted-is c.self.inside.past c.args.room)
