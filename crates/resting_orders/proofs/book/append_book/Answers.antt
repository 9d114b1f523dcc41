use Rattle.std.proofs.Common.{◌∙◌, append_assoc}
use Rattle.std.proofs.lemmas.Result.{on_ok_weaker}
use Rattle.resting_orders.proofs.book.append_book.Goals as goal

pub returns : goal.returns
returns c = (on_ok_weaker c.append_all_rested.result (λ e. e ∙ simp (c.in_ok-append_book_heading.ensures, append_assoc)) c.append_all_rested.ensures)
