use Rattle.std.proofs.Common.{◌∙◌}
use Rattle.std.proofs.lemmas.Result.{on_ok_weaker}
use Rattle.message_words.proofs.row_lines.append_clock_line.Goals as goal

pub returns : goal.returns
returns c = on_ok_weaker c.append_parts.result (λ e. e ∙ simp (c.number.ensures, c.bytes.ensures, c.clock_words.ensures, c.bytes-2.ensures)) c.append_parts.ensures
