use Rattle.trade_reconstruction.proofs.Emitting.{memory_alone, no_trade, trade_emitted}
use Rattle.trade_reconstruction.proofs.evidence.evidence_in.Goals as goal

pub returns-in_default-clause-refused : goal.returns-in_default-clause-refused
returns-in_default-clause-refused c = λ _.
    let d = c.in_ok-day.day in
    no_trade c.rows_emit_their_inputs.ensures c.args.venue.now.market c.args.rows.now c.gather.new.venue d.words d.ended.items d.notes.items c.args.number c.in_ok-day.ensures c.in_default.ensures

pub returns-in_err-day-clause-refused : goal.returns-in_err-day-clause-refused
returns-in_err-day-clause-refused c = memory_alone c.from_residual.result _ c.from_residual.ensures.1

pub returns-in_err-evidence_for-clause-refused : goal.returns-in_err-evidence_for-clause-refused
returns-in_err-evidence_for-clause-refused c = memory_alone c.from_residual-in_err-evidence_for.result _ c.from_residual-in_err-evidence_for.ensures.1

pub returns-clause-emitted : goal.returns-clause-emitted
returns-clause-emitted c =
    let d = c.in_ok-day.day in
    trade_emitted c.rows_emit_their_inputs.ensures c.each_room_trade_has_its_request.ensures c.each_book_trade_has_its_orders.ensures c.each_trade_has_its_row.ensures c.args.venue.now.market c.args.rows.now c.gather.new.venue d.words d.ended.items
    d.notes.items c.args.number c.in-Some.trade.now c.in_ok-evidence_for.field-0.items c.in_ok-day.ensures c.in-Some.ensures c.in_ok-evidence_for.ensures
