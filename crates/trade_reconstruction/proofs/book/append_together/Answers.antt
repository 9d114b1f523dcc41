use Rattle.std.proofs.lemmas.Result.{on_ok_weaker}
use Rattle.trade_reconstruction.specs.Lines.{apart_line, linked_line, pair_line, sides_lines, standing_lines, together_lines}
use Rattle.trade_reconstruction.proofs.Appends.{quintet}
use Rattle.trade_reconstruction.proofs.book.append_together.Goals as goal

pub returns : goal.returns
unfolding together_lines
returns c =
    let file = c.args.participants.now in
    let b = c.args.both.now in
    on_ok_weaker c.append_apart.result
    (λ e. quintet _ _ _ _ _ _ (standing_lines c.args.words.now c.args.stood.now) (pair_line file b.resting.to b.entering.to b.row) (sides_lines c.args.rows.now file c.args.words.now b) (linked_line file b) (apart_line b.resting.moment b.entering.moment b.row)
    c.in_ok-append_standing.ensures c.in_ok-append_pair.ensures c.in_ok-append_sides.ensures c.in_ok-append_linked.ensures e)
    c.append_apart.ensures
