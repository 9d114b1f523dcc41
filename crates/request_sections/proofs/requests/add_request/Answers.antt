use Rattle.std.proofs.Common.{◌∷◌, [], ◌∙◌, ◌≡◌, ◌++◌, ap, sym, List, ℕ, length, take, Bool}
use Rattle.std.proofs.lemmas.Result.{on_ok_weaker}
use Rattle.std.specs.List.{flat_map}
use Rattle.page_text.specs.Parts.{Part, with_part, with_parts}
use Rattle.day_tables.specs.Parts.{plain_part}
use Rattle.day_sections.proofs.Walks.{in_frame, in_turn}
use Rattle.std.specs.Prelude.{is_some, Option}
use Rattle.instruments.specs.Listing.{instrument_of, tick_of}
use Rattle.day_events.specs.declared.event.Event.{Event}
use Rattle.day_events.specs.declared.event.RoomTrade.{RoomTrade}
use Rattle.request_sections.specs.declared.day.Form.{Form}
use Rattle.request_sections.specs.Requests.{asked_in, form_of, head_parts, quotes_in, rest_parts, sheet_of, tick_in, trade_in}
use Rattle.request_sections.proofs.requests.add_request.Goals as goal

pub returns : goal.returns
returns c =
    let file = c.args.participants.now in
    let day = c.args.day.now in
    let e = c.args.opened.now in
    let r = c.args.request.now in
    let es : List Event = c.args.events.now in
    let f = c.form_of-form.result in
    let asked : c.deref.result.now ≡ asked_in r.room es = c.deref.ensures.value ∙ c.in_ok-asked.ensures in
    let quotes : c.deref-2.result.now ≡ quotes_in r.room es = c.deref-2.ensures.value ∙ c.in_ok-quotes.ensures in
    let trade : c.trade_in-trade.result ≡ trade_in r.room es = c.trade_in-trade.ensures in
    let form : f ≡ form_of day.count (is_some (trade_in r.room es)) = c.form_of-form.ensures ∙ ap (form_of day.count) (c.is_some.ensures ∙ ap is_some trade) in
    let tick : c.tick_by.result ≡ tick_in day.instruments.now r = c.tick_by.ensures ∙ ap (λ (x : List ℕ). tick_of day.instruments.now (instrument_of day.instruments.now x)) c.as_slice.ensures.value in
    on_ok_weaker c.add_rest.result
    (λ h. in_turn c.args.page.now c.add_head.new.page c.add_rest.new.page
    (head_parts f file day.dated c.tick_by.result e r c.deref.result.now c.deref-2.result.now c.trade_in-trade.result)
    (rest_parts f file (sheet_of day) c.tick_by.result es e r.room c.deref.result.now c.deref-2.result.now)
    c.in_ok-add_head.ensures h
    ∙ (λ j. with_parts c.args.page.now (head_parts (form j) file day.dated (tick j) e r (asked j) (quotes j) (trade j) ++ rest_parts (form j) file (sheet_of day) (tick j) es e r.room (asked j) (quotes j))))
    c.add_rest.ensures
