use Rattle.std.proofs.Common.{◌≡◌, ◌+◌, ℕ, true, arith, ap, subst, sym, ◌∙◌, length, List}
use Rattle.std.proofs.lemmas.List.{take_all}
use Rattle.std.proofs.lemmas.List.Elements.{All-get_or}
use Rattle.instruments.specs.Rows.{is_instrument_file}
use Rattle.venue_core.specs.Replay.{IsItem}
use Rattle.venue_rules.specs.declared.trail.TrailRow.{TrailRow}
use Rattle.venue_rules.specs.Market.{Market}
use Rattle.venue_rules.specs.Run.{answer_input, run}
use Rattle.venue_rules.specs.Facts.{no_history}
use Rattle.day_events.specs.Bests.{AddsChanges, OthersStay}
use Rattle.day_events.specs.Days.{ArePriced}
use Rattle.day_events.proofs.Pricing.{length_tops, priced_more, priced_nothing, reported_within}
use Rattle.day_events.proofs.priced_day.priced_day_of.Goals as goal

pub loop-row-init : goal.loop-row-init
loop-row-init c =
    let m : Market = record { participants = c.args.participants; instruments = c.args.instruments } in
    let opened = c.in_ok-venue.ensures in (
      opened.items,
      priced_nothing m c.in_ok-venue.venue c.new-events.result.items c.new-shown.result.items c.new-bests.result.items c.in_ok-tops.tops.items opened.market c.new-events.ensures.items c.new-shown.ensures.items c.new-bests.ensures.items opened.history (c.in_ok-tops.ensures.tops no_history opened.history),
    )

pub take_row-requires-clause-kept : goal.take_row-requires-clause-kept
take_row-requires-clause-kept c = subst IsItem (sym c.row-item.is) (All-get_or IsItem c.args.rows.now c.loop-row.row-index c.row-item.result c.loop-row-test.true c.requires.kept)

pub take_row-requires-clause-few : goal.take_row-requires-clause-few
take_row-requires-clause-few c = omega (arith, c.loop-row.invariant.0, c.loop-row-test.true, c.requires.few)

pub push_changes-requires-clause-each : goal.push_changes-requires-clause-each
push_changes-requires-clause-each c =
    let kept = c.loop-row.invariant.1 in
    let e = c.in_ok-reported.ensures in
    ap length kept.tops
    ∙ (length_tops (run (record { participants = c.args.participants; instruments = c.args.instruments }) kept.day.events.items).history.facts (length c.args.instruments)
    ∙ ap (λ (m : Market). length m.instruments) (sym (e.taken.takes.market ∙ kept.day.events.stands.market)))

pub push_changes-requires-clause-within : goal.push_changes-requires-clause-within
push_changes-requires-clause-within c =
    let kept = c.loop-row.invariant.1 in
    let e = c.in_ok-reported.ensures in
    let s = c.loop-row.venue in
    let h = (run (record { participants = c.args.participants; instruments = c.args.instruments }) kept.day.events.items).history in
    reported_within s.market.instruments (answer_input s.market h e.taken.input).replies c.in_ok-reported.reported (length c.take_row.new.venue.market.instruments) (e.taken.reported h kept.day.events.stands.history) (ap (λ (m : Market). length m.instruments) e.taken.takes.market)

pub loop-row-preserved : goal.loop-row-preserved
loop-row-preserved c =
    let e = c.in_ok-reported.ensures in
    let m : Market = record { participants = c.args.participants; instruments = c.args.instruments } in
    let s = c.take_row.new.venue in
    let old = c.loop-row in
    let new = c.take_row.new in
    let changed = c.push_changes.new in
    let x = c.in_ok-reported.reported in
    let kept = c.loop-row.invariant.1 in
    let same = e.taken.takes.market ∙ kept.day.events.stands.market in
    let rule : is_instrument_file c.args.instruments ≡ true = ap (λ (n : Market). is_instrument_file n.instruments) (sym c.in_ok-venue.ensures.market) ∙ c.in_ok-tops.ensures.rule in (
      e.items ∙ ap (λ (n : ℕ). n + 1) c.loop-row.invariant.0,
      priced_more c.day_goes_on.ensures.stands c.every_input_changes_one_book.ensures m rule c.args.rows.now c.loop-row.row-index c.row-item.result c.loop-row.venue s old.events.items new.events.items old.shown.items new.shown.items old.bests.items changed.bests.items old.tops.items changed.tops.items x c.loop-row-test.true c.row-item.is kept e.taken
          (λ h is before. subst (λ (n : Market). OthersStay x (length n.instruments) before h.facts → AddsChanges c.row-item.result before h.facts (length n.instruments) old.tops.items changed.tops.items old.bests.items changed.bests.items) same (c.in_ok-push_changes.ensures h is before)),
    )

pub returns : goal.returns
returns c =
    let k = c.loop-row.row-index in
    let rs = c.args.rows.now in
    subst (λ (l : List TrailRow). ArePriced (record { participants = c.args.participants; instruments = c.args.instruments }) l c.loop-row.venue c.loop-row.events.items c.loop-row.shown.items c.loop-row.bests.items)
    (take_all k rs (omega (arith, c.loop-row-test.false))) c.loop-row.invariant.1.day
