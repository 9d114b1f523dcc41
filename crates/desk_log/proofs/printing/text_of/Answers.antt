use Rattle.std.proofs.Common.{ℕ, List, ◌++◌, ap, ◌∙◌}
use Rattle.desk_log.specs.Report.{report}
use Rattle.desk_log.specs.Times.{times_text}
use Rattle.desk_log.proofs.printing.text_of.Goals as goal

pub returns : goal.returns
returns c =
    let a = c.args in
    let ends = c.ends_of-ends in
    let own = a.participants.now.venue in
    let printed : (from to : List ℕ) → List ℕ = λ from to. report from to a.log.now a.compared.now a.owed.now a.reading.now ++ times_text from to a.log.now a.compared.now.comparison a.rows.now a.reading.now in
    c.in_ok-append_times.ensures
    ∙ ap (λ (l : List ℕ). l ++ times_text ends.result.from.now ends.result.to.now a.log.now a.compared.now.comparison a.rows.now a.reading.now) c.in_ok-text.ensures
    ∙ ap (λ (from : List ℕ). printed from ends.result.to.now) ends.ensures.from
    ∙ ap (λ (to : List ℕ). printed own to) ends.ensures.to
