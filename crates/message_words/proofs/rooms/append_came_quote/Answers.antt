use Rattle.std.proofs.Common.{◌∙◌, append_assoc}
use Rattle.std.proofs.lemmas.Result.{on_ok_weaker}
use Rattle.message_words.proofs.rooms.append_came_quote.Goals as goal

pub returns : goal.returns
returns c = (on_ok_weaker c.append_parties.result (λ e. e ∙ simp (c.in_ok-append_quoted.ensures, c.as_slice.ensures.value, append_assoc)) c.append_parties.ensures)
