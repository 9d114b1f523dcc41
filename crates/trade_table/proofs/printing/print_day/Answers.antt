use Rattle.std.proofs.lemmas.Result.{on_ok_weaker}
use Rattle.std.proofs.Common.{inl}
use Rattle.trade_table.proofs.Printed.{keeps_own, memory_gives, memory_weaker, table_begun, table_written}
use Rattle.trade_table.proofs.printing.print_day.Goals as goal

pub returns-in_err-executions-clause-begun : goal.returns-in_err-executions-clause-begun
returns-in_err-executions-clause-begun g c = memory_gives c.from_residual.result _ (inl (keeps_own _))

pub returns-clause-emitted : goal.returns-clause-emitted
returns-clause-emitted g c =
    let made = c.in_ok-executions.ensures in
    let market = c.args.venue.now.market in
    on_ok_weaker c.print_table.result
    (table_written c.rows_emit_their_inputs.ensures market c.args.rows.now c.executions.new.venue c.executions.new.known.items c.in_ok-executions.executions.items c.deref.result.now _ _ made c.deref.ensures.value)
    (c.print_table.ensures.emitted _ made.stands.history)

pub returns-clause-begun : goal.returns-clause-begun
returns-clause-begun g c =
    let made = c.in_ok-executions.ensures in
    let market = c.args.venue.now.market in
    memory_weaker c.print_table.result _ _
    (table_begun c.rows_emit_their_inputs.ensures market c.args.rows.now c.executions.new.venue c.executions.new.known.items c.in_ok-executions.executions.items c.deref.result.now _ _ made c.deref.ensures.value)
    (c.print_table.ensures.begun _ made.stands.history)
