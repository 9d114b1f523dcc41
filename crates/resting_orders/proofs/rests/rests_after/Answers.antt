use Rattle.std.proofs.Common.{ap, refl, subst, sym, ◌∙◌, ◌++◌, length, Option, ℕ}
use Rattle.venue_rules.specs.Market.{Market}
use Rattle.resting_orders.specs.declared.rests_text.DayEnd.{DayEnd}
use Rattle.resting_orders.specs.Asking.{still_open}
use Rattle.resting_orders.specs.Quoting.{still_live_at}
use Rattle.venue_core.specs.State.{VenueFacts}
use Rattle.venue_core.specs.VenueFacts.{IsStanding}
use Rattle.resting_orders.specs.Replayed.{notes_of}
use Rattle.resting_orders.specs.Resting.{books_shown}
use Rattle.resting_orders.specs.Rests.{rests_text}
use Rattle.resting_orders.proofs.Printing.{rests_are}
use Rattle.resting_orders.proofs.rests.rests_after.Goals as goal

pub returns : goal.returns
returns c =
    let a = c.args in
    let kept = c.in_ok-day.day.kept in
    let market = c.in_ok-day.day.venue.market in
    let file = c.participants.result.now in
    let xs = c.instruments.result.now in
    let end_at : Option ℕ → DayEnd = λ moment. record { row = length a.rows.now; moment = moment } in
    let pushed = c.in_ok-push_books.ensures in
    let live = c.in_ok-push_live_at.ensures in
    let same = pushed.market ∙ live.market in
    rests_are c.every_report_is_numbered.ensures.places c.rows_have_their_inputs.ensures a.form (record { participants = a.participants; instruments = a.instruments }) a.rows.now c.in_ok-day.day.venue (notes_of kept) file xs (end_at c.last_moment-3.result) c.push_books.new.rested.items kept.held.items c.in_ok-requests.requests.items
    c.push_live_at.new.live.items a.who c.append_rests.new.text.items c.in_ok-day.ensures.noted
    (λ h is. pushed.rested h (subst (λ (p : VenueFacts). IsStanding p h) (sym live.day) is) ∙ (λ j. c.new-orders.ensures.items j ++ books_shown (c.deref-2.ensures.value j) (live.market j) h (live.market j).instruments)) refl
    (c.in_ok-requests.ensures ∙ (λ j. still_open (c.deref-3.ensures.value j) (c.deref-4.ensures.value j) (c.last_moment-2.ensures j)))
    (λ h is. live.live h is ∙ (λ j. c.new-quotes.ensures.items j ++ still_live_at market h (c.last_moment.ensures j) (c.deref.ensures.value j))) (c.participants.ensures ∙ ap (λ (m : Market). m.participants) same) (c.instruments.ensures ∙ ap (λ (m : Market). m.instruments) same) (ap end_at c.last_moment-3.ensures)
    (c.in_ok-append_rests.ensures ∙ (λ j. c.new-text.ensures.items j ++ rests_text a.form file xs (end_at c.last_moment-3.result) (record { orders = c.deref-5.ensures.value j; held = c.deref-6.ensures.value j; requests = c.deref-7.ensures.value j; quotes = c.deref-8.ensures.value j }) a.who))
