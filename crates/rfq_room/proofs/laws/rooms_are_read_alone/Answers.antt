use Rattle.rfq_room.proofs.RoomFacts.{live-room, open-room, quotes-room, rooms-room}
use Rattle.rfq_room.proofs.laws.rooms_are_read_alone.Goals as goal

pub returns-clause-rooms : goal.returns-clause-rooms
returns-clause-rooms c = rooms-room

pub returns-clause-quotes : goal.returns-clause-quotes
returns-clause-quotes c = quotes-room

pub returns-clause-opened : goal.returns-clause-opened
returns-clause-opened c = open-room

pub returns-clause-live : goal.returns-clause-live
returns-clause-live c = live-room
