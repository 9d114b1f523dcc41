use Rattle.std.proofs.lemmas.Result.{on_ok_weaker}
use Rattle.participant_activity.proofs.Texts.{emits_activity}
use Rattle.participant_activity.proofs.printing.print_activity.Goals as goal

pub returns-clause-emitted : goal.returns-clause-emitted
returns-clause-emitted g c =
    let a = c.args in
    on_ok_weaker c.write_text.result
    (λ w. emits_activity a.form (record { participants = a.participants; instruments = a.instruments }) a.rows.now a.who c.in_ok-text.text.items (g.W.Write.contents a.writer.now) (g.W.Write.contents c.write_text.new.writer) c.in_ok-text.ensures (rw c.deref.ensures.value at w)) c.write_text.ensures.written
