use Rattle.std.specs.List.{flat_map}
use Rattle.page_text.specs.Parts.{with_parts}
use Rattle.day_sections.specs.Refusals.{cause_parts}
use Rattle.day_sections.proofs.Walks.{goes_on, goes_out}
use Rattle.day_sections.proofs.refusals.add_each_cause.Goals as goal

pub loop-cause-preserved : goal.loop-cause-preserved
loop-cause-preserved c =
    goes_on (cause_parts c.args.participants.now c.args.linked c.args.events.now) c.args.causes.now c.loop-cause.cause-index c.cause-item.result c.loop-cause.page c.add_cause.new.page (with_parts c.args.page.now (flat_map (cause_parts c.args.participants.now c.args.linked c.args.events.now) c.args.causes.now))
    c.loop-cause-test.true c.cause-item.is c.in_ok-add_cause.ensures c.loop-cause.invariant

pub returns : goal.returns
returns c = goes_out (cause_parts c.args.participants.now c.args.linked c.args.events.now) c.args.causes.now c.loop-cause.cause-index c.loop-cause.page (with_parts c.args.page.now (flat_map (cause_parts c.args.participants.now c.args.linked c.args.events.now) c.args.causes.now)) c.loop-cause-test.false c.loop-cause.invariant
