use Rattle.std.proofs.Common.{ℕ, List, ◌++◌, codes, ap, ◌∙◌, append_assoc}
use Rattle.std.proofs.lemmas.Result.{on_ok_weaker}
use Rattle.desk_log.specs.Report.{first_received}
use Rattle.desk_log.proofs.report.append_first_differs.Goals as goal

pub returns : goal.returns
returns c =
    let a = c.args in
    let differs = codes "then the log differs\n" in
    on_ok_weaker c.append_differs.result
    (λ e. e ∙ ap (λ (l : List ℕ). l ++ differs) c.in_ok-append_first.ensures ∙ append_assoc a.out.now.items (first_received a.count a.owed a.desk.now) differs) c.append_differs.ensures
