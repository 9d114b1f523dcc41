use Rattle.std.proofs.Common.{◌∙◌, ap, find, bytes_eq}
use Rattle.venue_rules.specs.declared.facts.Room.{Room}
use Rattle.venue_rules.specs.Rooms.{printed}
use Rattle.rfq_room.proofs.room_store.RoomStore.find_room.Goals as goal

pub find_room-requires : goal.find_room-requires
find_room-requires c = rw (c.deref.ensures.value, c.self.invariant.all_rooms) c.self.invariant.room_numbers

pub returns : goal.returns
returns c = rw (← c.self.view_is) (c.find_room.ensures ∙ ap (find (λ (x : Room). bytes_eq (printed 82 x.number) c.args.id.now)) (c.deref.ensures.value ∙ c.self.invariant.all_rooms))
