use Rattle.std.proofs.Common.{◌∙◌, ◌++◌, ap, codes, List, ℕ, string_bytes}
use Rattle.file_diagnosis.specs.Causes.{key_word}
use Rattle.file_diagnosis.specs.Line.{out_of_range}
use Rattle.file_diagnosis.proofs.Lines.{printed_as}
use Rattle.file_diagnosis.proofs.line.out_of_range.Goals as goal

pub returns : goal.returns
returns c =
    printed_as string_bytes c.format.result (c.key_word-word.result.now ++ (codes " = " ++ (c.args.number.now ++ (codes " is not a whole number from " ++ c.range_of-range.result.now)))) (out_of_range c.args.key c.args.number.now)
    (ap (λ (x : List ℕ). x ++ (codes " = " ++ (c.args.number.now ++ (codes " is not a whole number from " ++ c.range_of-range.result.now)))) c.key_word-word.ensures
    ∙ ap (λ (x : List ℕ). key_word c.args.key ++ (codes " = " ++ (c.args.number.now ++ (codes " is not a whole number from " ++ x)))) c.range_of-range.ensures)
    c.format.ensures.ok
