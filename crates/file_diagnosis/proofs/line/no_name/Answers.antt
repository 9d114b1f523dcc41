use Rattle.std.proofs.Common.{◌≡◌, ◌∙◌, sym, ap, subst, List, ℕ, Option, option_copied, string_bytes, IfOk}
use Rattle.file_diagnosis.specs.Line.{no_name}
use Rattle.file_diagnosis.proofs.line.no_name.Goals as goal

pub returns-in-Some : goal.returns-in-Some
returns-in-Some c = subst (λ (o : Option (List ℕ)). IfOk c.bad_name.result (λ line. string_bytes line ≡ no_name o)) (ap option_copied (sym c.in-Some.is) ∙ c.shown.ensures) c.bad_name.ensures
