use Rattle.std.proofs.Common.{inl, subst}
use Rattle.std.proofs.lemmas.Result.{on_ok_weaker}
use Rattle.venue_rules.specs.Market.{Market}
use Rattle.trade_table.specs.Table.{BeginsTable, EmitsTable}
use Rattle.trade_table.proofs.Printed.{keeps_own, memory_gives, memory_weaker}
use Rattle.trade_table.proofs.printing.print_trade_table.Goals as goal

pub returns-in_err-venue-clause-begun : goal.returns-in_err-venue-clause-begun
returns-in_err-venue-clause-begun g c = memory_gives c.from_residual.result _ (inl (keeps_own _))

pub print_day-printed-requires-clause-fresh : goal.print_day-printed-requires-clause-fresh
print_day-printed-requires-clause-fresh g c = c.in_ok-venue.ensures.history

pub returns-clause-emitted : goal.returns-clause-emitted
returns-clause-emitted g c = on_ok_weaker c.print_day-printed.result (subst (λ (m : Market). EmitsTable m c.args.rows.now (g.W.Write.contents c.args.writer.now) (g.W.Write.contents c.print_day-printed.new.writer)) c.in_ok-venue.ensures.market) c.print_day-printed.ensures.emitted

pub returns-clause-begun : goal.returns-clause-begun
returns-clause-begun g c = memory_weaker c.print_day-printed.result _ _ (subst (λ (m : Market). BeginsTable m c.args.rows.now (g.W.Write.contents c.args.writer.now) (g.W.Write.contents c.print_day-printed.new.writer)) c.in_ok-venue.ensures.market) c.print_day-printed.ensures.begun
