use Rattle.std.proofs.Common.{◌∙◌, ◌++◌, ap, codes, List, ℕ, string_bytes}
use Rattle.toml.specs.View.{view}
use Rattle.file_diagnosis.specs.Line.{same_pair, shown_at}
use Rattle.file_diagnosis.proofs.Lines.{printed_as}
use Rattle.file_diagnosis.proofs.line.same_pair.Goals as goal

pub returns : goal.returns
returns c =
    printed_as string_bytes c.format.result (c.shown_at-a.result.now ++ (codes " and " ++ (c.shown_at-b.result.now ++ codes ": an earlier entry has this pair"))) (same_pair (view c.args.entry.now))
    (ap (λ (x : List ℕ). x ++ (codes " and " ++ (c.shown_at-b.result.now ++ codes ": an earlier entry has this pair"))) c.shown_at-a.ensures
    ∙ ap (λ (x : List ℕ). shown_at (codes "a") (view c.args.entry.now) ++ (codes " and " ++ (x ++ codes ": an earlier entry has this pair"))) c.shown_at-b.ensures)
    c.format.ensures.ok
