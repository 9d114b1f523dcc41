use Rattle.std.proofs.Common.{◌∙◌, ap, find, ◌==◌}
use Rattle.venue_rules.specs.declared.facts.Room.{Room}
use Rattle.rfq_room.proofs.room_store.RoomStore.room.Goals as goal

pub room_by_number-requires : goal.room_by_number-requires
room_by_number-requires c = rw (c.deref.ensures.value, c.self.invariant.all_rooms) c.self.invariant.room_numbers

pub returns : goal.returns
returns c = rw (← c.self.view_is) (c.room_by_number.ensures ∙ ap (find (λ (x : Room). x.number == c.args.number)) (c.deref.ensures.value ∙ c.self.invariant.all_rooms))
