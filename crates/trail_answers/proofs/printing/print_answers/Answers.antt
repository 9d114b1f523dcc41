use Rattle.std.proofs.Common.{subst}
use Rattle.std.proofs.lemmas.Result.{on_ok_weaker}
use Rattle.venue_rules.specs.Market.{Market}
use Rattle.trail_answers.specs.declared.scope.Scope.{Scope}
use Rattle.trail_answers.specs.Emitted.{EmitsAnswers}
use Rattle.trail_answers.proofs.OwedMessages.{emits_owed}
use Rattle.trail_answers.proofs.printing.print_answers.Goals as goal

pub returns-clause-owed : goal.returns-clause-owed
returns-clause-owed g c = λ who is.
    let a = c.args in
    let m : Market = record { participants = a.participants; instruments = a.instruments } in
    let before = g.W.Write.contents a.writer.now in
    let after = g.W.Write.contents c.print_rows-emitted.new.writer in
    on_ok_weaker c.print_rows-emitted.result
    (λ e. emits_owed c.messages_are_owed.ensures.owed c.messages_are_owed.ensures.emitted a.form m a.rows.now who before after
    (subst (λ (s : Scope). EmitsAnswers a.form m s a.rows.now before after) is (subst (λ (n : Market). EmitsAnswers a.form n a.scope.now a.rows.now before after) c.in_ok-venue.ensures.market e)))
    c.print_rows-emitted.ensures.emitted
