use Rattle.trade_blotter.proofs.Rooms.{room_trades_emit_rooms}
use Rattle.trade_blotter.proofs.laws.each_room_trade_is_emitted_with_its_room.Goals as goal

pub returns : goal.returns
returns c = room_trades_emit_rooms c.every_room_trade_is_lawful.ensures.joined c.every_report_is_numbered.ensures.places
