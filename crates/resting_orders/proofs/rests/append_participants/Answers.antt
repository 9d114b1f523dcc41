use Rattle.std.proofs.Common.{ap, ◌∙◌, ◌++◌}
use Rattle.resting_orders.specs.Rests.{participant_text}
use Rattle.resting_orders.proofs.Printing.{participants_more}
use Rattle.resting_orders.proofs.rests.append_participants.Goals as goal

pub loop-place-preserved : goal.loop-place-preserved
loop-place-preserved c =
    let page = c.args.page.now in
    let found = c.args.found.now in
    participants_more page.form page.participants.now page.instruments.now page.end (record { orders = found.orders.now; held = found.held.now; requests = found.requests.now; quotes = found.quotes.now }) c.loop-place.place c.args.text.now.items c.loop-place.text.items c.append_participant.new.text.items c.loop-place.invariant
    (c.in_ok-append_participant.ensures ∙ ap (λ who. c.loop-place.text.items ++ participant_text page.form page.participants.now page.instruments.now page.end (record { orders = found.orders.now; held = found.held.now; requests = found.requests.now; quotes = found.quotes.now }) who) c.of.ensures)
