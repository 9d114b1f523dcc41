use Rattle.std.proofs.Common.{◌+◌, ℕ, arith, ap, subst, sym, ◌∙◌}
use Rattle.std.proofs.lemmas.List.Elements.{All-get_or}
use Rattle.venue_core.specs.Replay.{IsItem}
use Rattle.day_events.proofs.Walking.{answered_more, answered_nothing}
use Rattle.day_events.proofs.day.day_of.Goals as goal

pub take_row-requires-clause-kept : goal.take_row-requires-clause-kept
take_row-requires-clause-kept c = subst IsItem (sym c.row-item.is) (All-get_or IsItem c.args.rows.now c.loop-row.row-index c.row-item.result c.loop-row-test.true c.requires.kept)

pub take_row-requires-clause-few : goal.take_row-requires-clause-few
take_row-requires-clause-few c = omega (arith, c.loop-row.invariant.0, c.loop-row-test.true, c.requires.few)

pub loop-row-preserved : goal.loop-row-preserved
loop-row-preserved c =
    let e = c.in_ok-take_row.ensures in (
      e.items ∙ ap (λ (n : ℕ). n + 1) c.loop-row.invariant.0,
      answered_more c.day_goes_on.ensures.stands _ c.args.rows.now c.loop-row.row-index c.row-item.result c.loop-row.venue c.take_row.new.venue c.loop-row.events.items c.take_row.new.events.items c.loop-row.shown.items c.take_row.new.shown.items c.in_ok-take_row.field-0 c.loop-row-test.true c.row-item.is
          c.loop-row.invariant.1 e.taken,
    )

pub loop-row-init : goal.loop-row-init
loop-row-init c = (
  c.in_ok-venue.ensures.items,
  answered_nothing (record { participants = c.args.participants; instruments = c.args.instruments }) c.in_ok-venue.venue c.new-events.result.items c.new-shown.result.items c.in_ok-venue.ensures.market c.new-events.ensures.items c.new-shown.ensures.items c.in_ok-venue.ensures.history,
)
