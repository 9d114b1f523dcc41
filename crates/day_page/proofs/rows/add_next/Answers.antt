use Rattle.std.proofs.lemmas.Result.{on_ok_weaker}
use Rattle.day_page.proofs.RowByRow.{next_added}
use Rattle.day_page.proofs.rows.add_next.Goals as goal

pub returns : goal.returns
returns c =
    on_ok_weaker c.add_row.result
    (next_added c.args.participants.now c.args.all.now c.args.place c.args.row.now c.args.page.now c.add_opening.new.page c.add_row.new.page c.in_ok-add_opening.ensures)
    c.add_row.ensures
