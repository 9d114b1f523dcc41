use Rattle.std.specs.List.{flat_map}
use Rattle.page_text.specs.Parts.{with_parts}
use Rattle.alarm_sections.specs.Alarms.{alarm_parts}
use Rattle.day_sections.proofs.Walks.{goes_on, goes_out}
use Rattle.alarm_sections.proofs.alarms.add_each.Goals as goal

pub loop-alarm-preserved : goal.loop-alarm-preserved
loop-alarm-preserved c =
    goes_on (alarm_parts c.args.participants.now c.args.linked) c.args.alarms.now c.loop-alarm.alarm-index c.alarm-item.result c.loop-alarm.page c.add_alarm.new.page (with_parts c.args.page.now (flat_map (alarm_parts c.args.participants.now c.args.linked) c.args.alarms.now))
    c.loop-alarm-test.true c.alarm-item.is c.in_ok-add_alarm.ensures c.loop-alarm.invariant

pub returns : goal.returns
returns c = goes_out (alarm_parts c.args.participants.now c.args.linked) c.args.alarms.now c.loop-alarm.alarm-index c.loop-alarm.page (with_parts c.args.page.now (flat_map (alarm_parts c.args.participants.now c.args.linked) c.args.alarms.now)) c.loop-alarm-test.false c.loop-alarm.invariant
