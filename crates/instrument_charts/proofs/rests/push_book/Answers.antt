use Rattle.std.proofs.Common.{◌++◌, map}
use Rattle.instrument_charts.specs.Rests.{rest_of}
use Rattle.instrument_charts.proofs.Walks.{maps_on, maps_out}
use Rattle.instrument_charts.proofs.rests.push_book.Goals as goal

pub loop-entry-preserved : goal.loop-entry-preserved
loop-entry-preserved c =
    maps_on (rest_of c.args.instrument) c.args.entries.now c.loop-entry.entry-index c.entry-item.result c.rest_of.result c.loop-entry.rests.items c.push_rest.new.rests.items (c.args.rests.now.items ++ map (rest_of c.args.instrument) c.args.entries.now)
    c.loop-entry-test.true c.entry-item.is c.rest_of.ensures c.in_ok-push_rest.ensures c.loop-entry.invariant

pub returns : goal.returns
returns c = maps_out (rest_of c.args.instrument) c.args.entries.now c.loop-entry.entry-index c.loop-entry.rests.items (c.args.rests.now.items ++ map (rest_of c.args.instrument) c.args.entries.now) c.loop-entry-test.false c.loop-entry.invariant
