use Rattle.std.proofs.Common.{◌++◌, ap, codes, List, ℕ, string_bytes}
use Rattle.toml.specs.View.{view}
use Rattle.file_diagnosis.specs.Line.{same_name}
use Rattle.file_diagnosis.proofs.Lines.{printed_as}
use Rattle.file_diagnosis.proofs.line.same_name.Goals as goal

pub returns : goal.returns
returns c =
    printed_as string_bytes c.format.result (c.args.key.now ++ (codes " = " ++ (c.shown_at-text.result.now ++ codes ": an earlier entry has it"))) (same_name c.args.key.now (view c.args.entry.now))
    (ap (λ (x : List ℕ). c.args.key.now ++ (codes " = " ++ (x ++ codes ": an earlier entry has it"))) c.shown_at-text.ensures)
    c.format.ensures.ok
