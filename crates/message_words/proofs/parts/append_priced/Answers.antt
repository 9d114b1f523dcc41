use Rattle.std.proofs.Common.{◌∙◌, append-nil, append_assoc}
use Rattle.std.proofs.lemmas.Result.{on_ok_weaker}
use Rattle.message_words.proofs.parts.append_priced.Goals as goal

pub returns : goal.returns
returns c = (on_ok_weaker c.append_price.result (λ e. e ∙ simp (c.in_ok-append.ensures, append-nil, append_assoc)) c.append_price.ensures)
