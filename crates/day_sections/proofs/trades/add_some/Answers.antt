use Rattle.std.proofs.Common.{◌∷◌, [], ◌∙◌}
use Rattle.std.proofs.lemmas.Result.{on_ok_weaker}
use Rattle.page_text.specs.Parts.{with_part}
use Rattle.day_tables.specs.Parts.{plain_part}
use Rattle.day_sections.specs.declared.template.TheConstants.{TRADES, TRADES_END}
use Rattle.day_sections.specs.Trades.{count_part, listed_parts, sheet_of}
use Rattle.day_sections.proofs.Walks.{in_frame}
use Rattle.day_sections.proofs.trades.add_some.Goals as goal

pub returns : goal.returns
returns c =
    on_ok_weaker c.add-2.result
    (in_frame c.args.page.now c.add.new.self c.add_listed.new.page c.add-2.new.self (count_part c.args.trades.now) (listed_parts (sheet_of c.args.reported.now) c.args.trades.now) (plain_part TRADES_END.now)
    (c.in_ok-add.ensures.added ∙ (λ j. with_part c.args.page.now (record { template = TRADES.now; values = (c.deref.ensures.value ∙ c.in_ok-count.ensures) j ∷ [] })))
    c.in_ok-add_listed.ensures)
    c.add-2.ensures.added
