use Rattle.std.specs.Prelude.{None, Some, refl}
use Rattle.instrument_charts.specs.Ladders.{firsts}
use Rattle.instrument_charts.proofs.Walks.{firsts_on, firsts_out}
use Rattle.instrument_charts.proofs.ladder.firsts.Goals as goal

pub loop-rest-preserved : goal.loop-rest-preserved
loop-rest-preserved c =
    firsts_on c.args.rests.now c.loop-rest.rest-index c.rest-item.result c.loop-rest.before (Some c.rest-item.result.price) c.is_new.result c.loop-rest.kept.items c.keep.new.rests.items (firsts None c.args.rests.now)
    c.loop-rest-test.true c.rest-item.is refl c.is_new.ensures c.in_ok-keep.ensures c.loop-rest.invariant

pub returns : goal.returns
returns c = firsts_out c.args.rests.now c.loop-rest.rest-index c.loop-rest.before c.loop-rest.kept.items (firsts None c.args.rests.now) c.loop-rest-test.false c.loop-rest.invariant
