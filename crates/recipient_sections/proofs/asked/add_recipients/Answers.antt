use Rattle.std.proofs.lemmas.Result.{on_ok_weaker}
use Rattle.day_sections.proofs.Walks.{in_turn}
use Rattle.recipient_sections.specs.Asked.{asked_section}
use Rattle.recipient_sections.specs.Threes.{three_section}
use Rattle.recipient_sections.proofs.asked.add_recipients.Goals as goal

pub returns : goal.returns
returns c =
    on_ok_weaker c.add_three_of.result
    (in_turn c.args.page.now c.add_asked.new.page c.add_three_of.new.page
    (asked_section c.args.participants.now c.args.linked c.args.opened.now.at.row c.args.room c.args.asked.now)
    (three_section c.args.participants.now c.args.opened.now c.args.asked.now)
    c.in_ok-add_asked.ensures)
    c.add_three_of.ensures
