use Rattle.std.proofs.lemmas.Result.{on_ok_weaker}
use Rattle.trade_reconstruction.specs.Lines.{entry_lines, hold_lines, link_line, order_line, original_line}
use Rattle.trade_reconstruction.proofs.Appends.{four}
use Rattle.trade_reconstruction.proofs.book.append_entry.Goals as goal

pub returns : goal.returns
unfolding entry_lines
returns c =
    let w = c.args.entry.now in
    let x = w.entered in
    on_ok_weaker c.append_hold.result
    (λ e. four _ _ _ _ _ (order_line c.args.rows.now c.args.participants.now w) (link_line x.order x.link) (original_line x.order x.original w.row) (hold_lines c.args.rows.now c.args.participants.now c.args.words.now w) c.in_ok-append_order.ensures
    c.in_ok-append_link.ensures c.in_ok-append_original.ensures e)
    c.append_hold.ensures
