use Rattle.order_handler.proofs.Adding.{Added}
use Rattle.order_handler.proofs.reports.add_fills.Given as goal

abbrev pub invariant-loop-fill : goal.invariant-loop-fill
invariant-loop-fill l = Added l.symbol l.entry l.fills l.initial.replies.items l.initial.report l.initial.trade l.fill-index l.replies.items l.report l.trade l.so_far
