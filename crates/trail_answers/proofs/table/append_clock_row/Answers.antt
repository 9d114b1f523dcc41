use Rattle.std.proofs.Common.{ℕ, List, [], ◌++◌, codes, ap, ◌∙◌}
use Rattle.std.proofs.lemmas.Result.{on_ok_weaker}
use Rattle.csv.specs.Writing.{row_text}
use Rattle.message_words.specs.Cells.{setup}
use Rattle.trail_answers.specs.Entries.{fields}
use Rattle.trail_answers.proofs.table.append_clock_row.Goals as goal

pub returns : goal.returns
returns c = on_ok_weaker c.append_fields.result
    (λ e. e ∙ ap (λ (w : List ℕ). c.args.out.now.items ++ row_text setup (fields c.args.participants.now c.args.row.now [] (codes "clock") [] w)) c.clock_words.ensures)
    c.append_fields.ensures
