use Rattle.trade_reconstruction.proofs.Asking.{room_trades_have_requests}
use Rattle.trade_reconstruction.proofs.laws.each_room_trade_has_its_request.Goals as goal

pub returns : goal.returns
returns c = room_trades_have_requests c.every_room_trade_is_lawful.ensures.joined c.every_report_is_numbered.ensures.places
