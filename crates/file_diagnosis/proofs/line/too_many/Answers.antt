use Rattle.std.proofs.Common.{◌∙◌, ◌++◌, ap, codes, List, ℕ, string_bytes}
use Rattle.std.specs.Fmt.{decimal}
use Rattle.file_diagnosis.specs.Line.{too_many}
use Rattle.file_diagnosis.proofs.Lines.{printed_as}
use Rattle.file_diagnosis.proofs.line.too_many.Goals as goal

pub returns : goal.returns
returns c =
    printed_as string_bytes c.format.result (codes " has " ++ (string_bytes c.in_ok-count.count ++ (codes " entries, at most " ++ (string_bytes c.in_ok-most.most ++ codes " are allowed")))) (too_many c.args.count c.args.most)
    (ap (λ (x : List ℕ). codes " has " ++ (x ++ (codes " entries, at most " ++ (string_bytes c.in_ok-most.most ++ codes " are allowed")))) c.in_ok-count.ensures
    ∙ ap (λ (x : List ℕ). codes " has " ++ (decimal c.args.count ++ (codes " entries, at most " ++ (x ++ codes " are allowed")))) c.in_ok-most.ensures)
    c.format.ensures.ok
