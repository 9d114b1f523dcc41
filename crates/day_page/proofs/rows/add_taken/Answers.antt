use Rattle.std.proofs.Common.{◌∙◌, ap, sym, Option}
use Rattle.std.proofs.lemmas.Result.{on_ok_weaker}
use Rattle.fix_dictionary.specs.declared.messages.App.{App}
use Rattle.page_text.specs.Parts.{with_part}
use Rattle.row_replay.specs.Inputs.{input_of}
use Rattle.venue_rules.specs.declared.trail.Taken.{Taken}
use Rattle.day_page.specs.Rows.{message_part, row_part}
use Rattle.day_page.proofs.rows.add_taken.Goals as goal

pub returns-in-None : goal.returns-in-None
returns-in-None c =
    on_ok_weaker c.add_tick.result
    (λ e. e ∙ ap (λ (o : Option Taken). with_part c.args.page.now (row_part c.args.participants.now c.args.row.now (input_of o c.args.row.now.moment))) (sym c.in-None.is))
    c.add_tick.ensures

pub returns-in-Some : goal.returns-in-Some
returns-in-Some c =
    on_ok_weaker c.add_message.result
    (λ e. e
    ∙ (ap (λ (a : App). with_part c.args.page.now (message_part c.args.participants.now c.args.row.now a)) c.get.ensures
    ∙ ap (λ (o : Option Taken). with_part c.args.page.now (row_part c.args.participants.now c.args.row.now (input_of o c.args.row.now.moment))) (sym c.in-Some.is)))
    c.add_message.ensures
