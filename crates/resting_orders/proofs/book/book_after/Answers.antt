use Rattle.std.proofs.Common.{ap, ◌∙◌, ◌++◌}
use Rattle.venue_rules.specs.Market.{Market}
use Rattle.venue_rules.specs.Run.{Message, answer_input}
use Rattle.row_replay.specs.Asking.{asks, entries_in}
use Rattle.resting_orders.specs.Book.{book_text}
use Rattle.resting_orders.specs.Replayed.{notes_of}
use Rattle.resting_orders.specs.Resting.{rested_shown}
use Rattle.resting_orders.proofs.Printing.{book_is}
use Rattle.resting_orders.proofs.book.book_after.Goals as goal

pub returns : goal.returns
returns c =
    let a = c.args in
    let market = c.in_ok-day.day.venue.market in
    let symbol = a.sheet.now.symbol in
    let file = c.participants.result.now in
    book_is c.every_report_is_numbered.ensures.places c.rows_have_their_inputs.ensures a.form (record { participants = a.participants; instruments = a.instruments }) a.rows.now c.in_ok-day.day.venue (notes_of c.in_ok-day.day.kept) a.sheet.now file c.push_book.new.rested.items
    c.append_book.new.text.items c.in_ok-day.ensures.noted c.requires.known
    (λ h is.
    c.in_ok-push_book.ensures.rested h is
    ∙ (λ j. c.new-orders.ensures.items j ++ rested_shown (c.deref.ensures.value j) symbol (entries_in (answer_input market h (Message (asks 0 symbol) 0)).replies)))
    (c.participants.ensures ∙ ap (λ (m : Market). m.participants) c.in_ok-push_book.ensures.market)
    (c.in_ok-append_book.ensures ∙ (λ j. c.new-text.ensures.items j ++ book_text a.form file a.sheet.now (c.deref-2.ensures.value j)))
