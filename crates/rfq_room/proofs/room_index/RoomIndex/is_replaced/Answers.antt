use Rattle.std.proofs.Common.{◌∙◌, ap, sym, not}
use Rattle.venue_rules.specs.Rooms.{last_quote}
use Rattle.rfq_room.proofs.Flagging.{last-is, last-isnt}
use Rattle.rfq_room.proofs.room_index.RoomIndex.is_replaced.Goals as goal

pub returns-in_default : goal.returns-in_default
returns-in_default c =
    let q = c.args.quote.now in
    rw (← c.self.view_is) (sym (ap not (last-isnt q.number (last_quote c.self.inside.past q.room q.maker) (sym c.in_default.is ∙ c.get.ensures ∙ c.self.invariant.lasts q.room q.maker))))

pub returns : goal.returns
returns c =
    let q = c.args.quote.now in
    rw (← c.self.view_is) (sym (ap not (last-is q.number (last_quote c.self.inside.past q.room q.maker) c.in-Some.last (sym c.in-Some.is ∙ c.get.ensures ∙ c.self.invariant.lasts q.room q.maker))))
