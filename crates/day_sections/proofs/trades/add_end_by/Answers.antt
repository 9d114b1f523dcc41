use Rattle.std.proofs.Common.{◌∙◌, Bool, ap, sym}
use Rattle.std.proofs.lemmas.Result.{on_ok_weaker}
use Rattle.page_text.specs.Parts.{with_part}
use Rattle.day_sections.specs.Trades.{end_by}
use Rattle.day_sections.proofs.trades.add_end_by.Goals as goal

pub returns-else-is_whole : goal.returns-else-is_whole
returns-else-is_whole c =
    on_ok_weaker c.add_more.result
    (λ e. e ∙ ap (λ (b : Bool). with_part c.args.page.now (end_by b c.args.listed)) (sym c.if-is_whole.false))
    c.add_more.ensures
