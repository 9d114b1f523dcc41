use Rattle.std.proofs.Common.{◌+◌, ℕ, arith, ap, subst, sym, ◌∙◌}
use Rattle.std.proofs.lemmas.List.Elements.{All-get_or}
use Rattle.venue_core.specs.Replay.{IsItem}
use Rattle.participant_activity.specs.Kept.{activity_of}
use Rattle.participant_activity.proofs.RowByRow.{noted_more, noted_nothing}
use Rattle.participant_activity.proofs.replaying.replay_rows.Goals as goal

pub take_row-requires-clause-item : goal.take_row-requires-clause-item
take_row-requires-clause-item c = subst IsItem (sym c.row-item.is) (All-get_or IsItem c.args.rows.now c.loop-row.row-index c.row-item.result c.loop-row-test.true c.requires.kept)

pub take_row-requires-clause-few : goal.take_row-requires-clause-few
take_row-requires-clause-few c = omega (arith, c.loop-row.invariant.0, c.loop-row-test.true, c.requires.few)

pub loop-row-preserved : goal.loop-row-preserved
loop-row-preserved c =
    let e = c.in_ok-take_row.ensures in (
      e.items ∙ ap (λ (n : ℕ). n + 1) c.loop-row.invariant.0,
      noted_more c.day_goes_on.ensures.stands _ c.args.who c.args.rows.now c.loop-row.row-index c.row-item.result c.loop-row.venue c.take_row.new.venue (activity_of c.loop-row.activity) (activity_of c.take_row.new.activity)
          c.loop-row-test.true c.row-item.is c.loop-row.invariant.1 e.noted,
    )

pub loop-row-init : goal.loop-row-init
loop-row-init c = (
  c.in_ok-venue.ensures.items,
  noted_nothing (record { participants = c.args.participants; instruments = c.args.instruments }) c.args.who c.in_ok-venue.venue (activity_of c.no_activity-activity.result) c.in_ok-venue.ensures.market c.no_activity-activity.ensures c.in_ok-venue.ensures.history,
)
