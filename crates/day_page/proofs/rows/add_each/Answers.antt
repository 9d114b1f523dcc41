use Rattle.std.proofs.Common.{subst, sym}
use Rattle.std.proofs.lemmas.List.Elements.{All-get_or}
use Rattle.venue_core.specs.Replay.{IsItem}
use Rattle.day_page.proofs.RowByRow.{added_more}
use Rattle.day_page.proofs.rows.add_each.Goals as goal

pub add_next-requires : goal.add_next-requires
add_next-requires c = record {
  kept = subst IsItem (sym c.index-rows-place.is) (All-get_or IsItem c.args.rows.now c.loop-place.place c.index-rows-place.result c.loop-place-test.true c.requires.kept);
  within = c.loop-place-test.true;
}

pub loop-place-preserved : goal.loop-place-preserved
loop-place-preserved c =
    added_more c.args.participants.now c.args.rows.now c.args.rows.now c.loop-place.place c.index-rows-place.result c.args.page.now c.loop-place.page c.add_next.new.page c.loop-place-test.true c.index-rows-place.is c.loop-place.invariant c.in_ok-add_next.ensures
