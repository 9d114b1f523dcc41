use Rattle.std.proofs.lemmas.Result.{on_ok_weaker}
use Rattle.trade_reconstruction.proofs.Emitting.{all_begun, all_emitted, memory_weaker}
use Rattle.trade_reconstruction.proofs.day.print_day.Goals as goal

pub returns-clause-emitted : goal.returns-clause-emitted
returns-clause-emitted g c =
    let d = c.in_ok-day.day in
    on_ok_weaker c.print_joined.result
    (all_emitted c.rows_emit_their_inputs.ensures c.each_room_trade_has_its_request.ensures c.each_book_trade_has_its_orders.ensures c.each_trade_has_its_row.ensures c.args.venue.now.market c.args.rows.now c.gather.new.venue d.words d.ended.items
    d.notes.items c.trades.result.now _ _ c.in_ok-day.ensures c.trades.ensures)
    c.print_joined.ensures.emitted

pub returns-clause-begun : goal.returns-clause-begun
returns-clause-begun g c =
    let d = c.in_ok-day.day in
    memory_weaker c.print_joined.result _ _
    (all_begun c.rows_emit_their_inputs.ensures c.each_room_trade_has_its_request.ensures c.each_book_trade_has_its_orders.ensures c.each_trade_has_its_row.ensures c.args.venue.now.market c.args.rows.now c.gather.new.venue d.words d.ended.items
    d.notes.items c.trades.result.now _ _ c.in_ok-day.ensures c.trades.ensures)
    c.print_joined.ensures.begun
