use Rattle.std.specs.List.{flat_map}
use Rattle.page_text.specs.Parts.{with_parts}
use Rattle.day_sections.proofs.Walks.{goes_on, goes_out}
use Rattle.recipient_sections.specs.Threes.{pair_parts}
use Rattle.recipient_sections.proofs.three.add_pairs.Goals as goal

pub loop-pair-preserved : goal.loop-pair-preserved
loop-pair-preserved c =
    let f = pair_parts c.args.participants.now in
    goes_on f c.args.pairs.now c.loop-pair.pair-index c.pair-item.result c.loop-pair.page c.add_pair.new.page (with_parts c.args.page.now (flat_map f c.args.pairs.now))
    c.loop-pair-test.true c.pair-item.is c.in_ok-add_pair.ensures c.loop-pair.invariant

pub returns : goal.returns
returns c =
    let f = pair_parts c.args.participants.now in
    goes_out f c.args.pairs.now c.loop-pair.pair-index c.loop-pair.page (with_parts c.args.page.now (flat_map f c.args.pairs.now)) c.loop-pair-test.false c.loop-pair.invariant
