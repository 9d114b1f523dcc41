use Rattle.std.proofs.Common.{Bool, ◌∙◌, ap, sym, if◌then◌else◌}
use Rattle.std.proofs.lemmas.Result.{on_ok_weaker}
use Rattle.page_text.specs.Parts.{with_part}
use Rattle.request_sections.specs.declared.template.TheConstants.{HIT, HIT_ALONE}
use Rattle.request_sections.specs.Requests.{once_part, twice_part}
use Rattle.request_sections.proofs.requests.add_hit.Goals as goal

pub returns-then-is_listed : goal.returns-then-is_listed
returns-then-is_listed c =
    on_ok_weaker c.add_twice.result
    (λ e. e ∙ ap (λ (b : Bool). with_part c.args.page.now (if b then twice_part HIT.now c.args.trade else once_part HIT_ALONE.now c.args.trade)) (sym c.if-is_listed.true ∙ c.is_listed.ensures))
    c.add_twice.ensures
