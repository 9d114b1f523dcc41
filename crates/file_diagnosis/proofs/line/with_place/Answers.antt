use Rattle.std.proofs.Common.{◌≡◌, sym, subst, ℕ, Option, string_bytes, IfOk}
use Rattle.file_diagnosis.specs.Line.{with_place}
use Rattle.file_diagnosis.proofs.line.with_place.Goals as goal

pub returns-in-Some : goal.returns-in-Some
returns-in-Some c = subst (λ (e : Option ℕ). IfOk c.of_entry.result (λ line. string_bytes line ≡ with_place c.args.part.now e c.args.fault.now)) (sym c.in-Some.is) c.of_entry.ensures
