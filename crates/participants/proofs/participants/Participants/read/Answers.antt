use Rattle.std.proofs.Common.{sym, ap, ◌∙◌}
use Rattle.std.proofs.lemmas.Result.{IfOk-weaker, IfErr-weaker}
use Rattle.toml.proofs.Views.{view-Table}
use Rattle.toml.specs.View.{table_view, view}
use Rattle.toml.specs.declared.value.Value.{Table}
use Rattle.participants.specs.Reading.{read_of}
use Rattle.participants.proofs.SoundLemmas.{Reads-err}
use Rattle.participants.proofs.participants.Participants.read.Goals as goal

pub returns-in-Ok-clause-rows : goal.returns-in-Ok-clause-rows
returns-in-Ok-clause-rows c =
    let text = c.in-Ok.ensures.ok in
    IfOk-weaker c.read_document.result _ _ (λ rows h. (table_view c.in-Ok.table, text.0, text.1, ap read_of (sym (view-Table c.in-Ok.table)) ∙ h)) c.read_document.ensures.rows

pub returns-in-Ok-clause-fault : goal.returns-in-Ok-clause-fault
returns-in-Ok-clause-fault c =
    let text = c.in-Ok.ensures.ok in
    IfErr-weaker c.read_document.result _ _ (λ fault h. Reads-err c.args.text.now (table_view c.in-Ok.table) (view (Table c.in-Ok.table)) fault (view-Table c.in-Ok.table) text.0 text.1 h) c.read_document.ensures.fault
