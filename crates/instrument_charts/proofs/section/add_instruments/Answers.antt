use Rattle.std.proofs.Common.{◌∷◌, [], ◌∙◌, ap, length}
use Rattle.std.proofs.lemmas.Result.{on_ok_weaker}
use Rattle.page_text.specs.Parts.{with_part}
use Rattle.day_tables.specs.Parts.{each_from, plain_part}
use Rattle.day_tables.specs.Values.{grouped}
use Rattle.instrument_charts.specs.declared.template.TheConstants.{INSTRUMENTS, INSTRUMENTS_END}
use Rattle.instrument_charts.specs.Instruments.{count_part, instrument_parts, sheet_of}
use Rattle.instrument_charts.proofs.Walks.{in_frame}
use Rattle.instrument_charts.proofs.section.add_instruments.Goals as goal

pub returns : goal.returns
returns c =
    let file = c.args.instruments.now in
    on_ok_weaker c.add-2.result
    (in_frame c.args.page.now c.add.new.self c.add_each.new.page c.add-2.new.self (count_part file) (each_from (instrument_parts file (sheet_of c.args.day.now)) 0 (length file)) (plain_part INSTRUMENTS_END.now)
    (c.in_ok-add.ensures.added ∙ (λ j. with_part c.args.page.now (record { template = INSTRUMENTS.now; values = (c.deref.ensures.value ∙ (c.in_ok-count.ensures ∙ ap grouped c.len.ensures.count)) j ∷ [] })))
    c.in_ok-add_each.ensures)
    c.add-2.ensures.added
