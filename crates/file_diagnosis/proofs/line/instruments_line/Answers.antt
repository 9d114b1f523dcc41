use Rattle.std.proofs.Common.{string_bytes}
use Rattle.toml.proofs.Views.{view-Table}
use Rattle.toml.specs.Errors.{IsMemory}
use Rattle.toml.specs.View.{table_view, view}
use Rattle.toml.specs.declared.value.Value.{Table}
use Rattle.file_diagnosis.specs.Instruments.{instruments_cause}
use Rattle.file_diagnosis.proofs.Lines.{on_document, on_text}
use Rattle.file_diagnosis.proofs.line.instruments_line.Goals as goal

pub returns-in-Ok : goal.returns-in-Ok
returns-in-Ok c =
    on_document string_bytes instruments_cause c.args.text.now (table_view c.in-Ok.table) (view (Table c.in-Ok.table)) c.instruments_cause.result c.line_on.result (view-Table c.in-Ok.table) c.in-Ok.ensures.ok.0 c.in-Ok.ensures.ok.1 c.instruments_cause.ensures c.line_on.ensures

pub returns-in-Err : goal.returns-in-Err
returns-in-Err c = on_text string_bytes instruments_cause c.args.text.now c.line_on_text.result (IsMemory c.in-Err.error) c.in-Err.ensures.refused c.line_on_text.ensures
