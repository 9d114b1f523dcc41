use Rattle.std.proofs.Common.{ap, ◌∙◌, ◌++◌}
use Rattle.std.proofs.lemmas.Result.{on_ok_weaker}
use Rattle.csv.specs.Writing.{row_text}
use Rattle.message_words.specs.Cells.{setup}
use Rattle.resting_orders.proofs.rests_text.append_quote_row.Goals as goal

pub returns : goal.returns
returns c = on_ok_weaker c.append_row.result (λ e. e ∙ ap (λ l. c.args.text.now.items ++ row_text setup l) c.in_ok-fields.ensures) c.append_row.ensures
