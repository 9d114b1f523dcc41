use Rattle.std.proofs.lemmas.Result.{on_ok_weaker}
use Rattle.trade_reconstruction.specs.Lines.{entry_lines, together_lines}
use Rattle.trade_reconstruction.proofs.Appends.{trio}
use Rattle.trade_reconstruction.proofs.book.append_both.Goals as goal

pub returns : goal.returns
returns c =
    let a = c.args in
    on_ok_weaker c.append_together.result
    (λ e. trio _ _ _ _ (entry_lines a.rows.now a.participants.now a.words.now a.both.now.resting) (entry_lines a.rows.now a.participants.now a.words.now a.both.now.entering)
    (together_lines a.rows.now a.participants.now a.words.now a.stood.now a.both.now) c.in_ok-append_entry.ensures c.in_ok-append_entry-2.ensures e)
    c.append_together.ensures
