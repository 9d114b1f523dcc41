use Rattle.std.proofs.Common.{◌∙◌, ap, sym}
use Rattle.std.proofs.lemmas.Result.{on_ok_weaker}
use Rattle.page_text.specs.Parts.{with_part}
use Rattle.request_sections.specs.declared.fate.Fate.{Fate}
use Rattle.request_sections.specs.Requests.{fate_part}
use Rattle.request_sections.proofs.requests.add_fate.Goals as goal

pub returns-in-Hit : goal.returns-in-Hit
returns-in-Hit c = on_ok_weaker c.add_hit.result (λ e. e ∙ ap (λ (f : Fate). with_part c.args.page.now (fate_part f)) (sym c.in-Hit.is)) c.add_hit.ensures
