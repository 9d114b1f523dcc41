use Rattle.std.proofs.Common.{Option, ap, ℕ, length}
use Rattle.std.proofs.lemmas.Result.{on_ok_weaker}
use Rattle.resting_orders.specs.declared.book.Sheet.{Sheet}
use Rattle.resting_orders.proofs.Printing.{emits_book}
use Rattle.resting_orders.proofs.book.print_book.Goals as goal

pub returns-in_ok-text-in-Some-clause-emitted : goal.returns-in_ok-text-in-Some-clause-emitted
returns-in_ok-text-in-Some-clause-emitted g c =
    let a = c.args in
    let sheet_at : Option ℕ → Sheet = λ moment. record { symbol = a.symbol; row = length a.rows.now; moment = moment } in
    on_ok_weaker c.write_text.result
    (λ w. emits_book a.form (record { participants = a.participants; instruments = a.instruments }) a.rows.now (sheet_at c.last_moment.result) c.in_ok-text-in-Some.text.items (g.W.Write.contents a.writer.now) (g.W.Write.contents c.write_text.new.writer)
    (ap sheet_at c.last_moment.ensures) c.in_ok-text-in-Some.ensures (rw c.deref.ensures.value at w))
    c.write_text.ensures.written
