use Rattle.std.proofs.Common.{subst}
use Rattle.std.proofs.lemmas.Result.{IfOk-weaker}
use Rattle.venue_rules.specs.Market.{Market}
use Rattle.desk_log.specs.Compares.{Compares}
use Rattle.desk_log.specs.Frames.{separated}
use Rattle.desk_log.proofs.Joining.{agrees}
use Rattle.desk_log.proofs.printing.print_comparison.Goals as goal

pub returns-clause-agrees : goal.returns-clause-agrees
returns-clause-agrees g c =
    let a = c.args in
    let m : Market = record { participants = a.participants; instruments = a.instruments } in
    let before = g.W.Write.contents a.writer.now in
    let after = g.W.Write.contents c.compare_any-compared.new.writer in
    IfOk-weaker c.compare_any-compared.result _ _ (λ x h. agrees x m a.rows.now a.who (separated a.log.now) before after
    (subst (λ (n : Market). Compares x n a.rows.now a.who (separated a.log.now) before after) c.in_ok-venue.ensures.market h)) c.compare_any-compared.ensures.compared
