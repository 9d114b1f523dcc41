use Rattle.std.proofs.lemmas.Result.{on_ok_weaker}
use Rattle.trade_reconstruction.specs.Lines.{order_id_line, order_terms}
use Rattle.trade_reconstruction.proofs.Appends.{both}
use Rattle.trade_reconstruction.proofs.book.append_order.Goals as goal

pub returns : goal.returns
returns c =
    let x = c.args.entry.now in
    on_ok_weaker c.append_order_id.result (λ e. both _ _ _ (order_terms c.args.participants.now x) (order_id_line c.args.rows.now c.args.participants.now x) c.in_ok-append_terms.ensures e) c.append_order_id.ensures
