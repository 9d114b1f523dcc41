use Rattle.std.proofs.Common.{◌++◌, ap, codes, List, ℕ, string_bytes}
use Rattle.std.specs.Fmt.{decimal}
use Rattle.file_diagnosis.proofs.Lines.{printed_as}
use Rattle.file_diagnosis.proofs.line.of_entry.Goals as goal

pub returns : goal.returns
returns c =
    printed_as string_bytes c.format.result (c.args.part.now ++ (codes " " ++ (string_bytes c.in_ok-number.number ++ (codes ": " ++ c.args.fault.now)))) (c.args.part.now ++ (codes " " ++ (decimal c.args.number ++ (codes ": " ++ c.args.fault.now))))
    (ap (λ (x : List ℕ). c.args.part.now ++ (codes " " ++ (x ++ (codes ": " ++ c.args.fault.now)))) c.in_ok-number.ensures)
    c.format.ensures.ok
