use Rattle.std.proofs.Common.{sym}
use Rattle.rfq_room.proofs.RoomFacts.{first_quote-room, quote_made-room, room_asked-room, room_by_number-room}
use Rattle.rfq_room.proofs.Emitting.{quote-emitted, request-emitted, response-emitted, withdrawal-emitted}
use Rattle.rfq_room.proofs.laws.rooms_decide.Goals as goal

pub returns : goal.returns
returns c = record {
  request = request-emitted;
  quote = quote-emitted;
  withdrawal = withdrawal-emitted;
  response = response-emitted;
  opened = λ m h s d t. sym (room_asked-room m h.facts s.who d t);
  quoted = λ h s r d. sym (quote_made-room h.facts s.who r d);
  first = λ fs room. sym (first_quote-room fs room);
  room = λ fs number. sym (room_by_number-room fs number);
}
