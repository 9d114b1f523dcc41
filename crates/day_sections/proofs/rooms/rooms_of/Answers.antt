use Rattle.std.proofs.Common.{◌∙◌, sym, append-nil, List, ◌++◌}
use Rattle.std.proofs.lemmas.List.{at_drop_all}
use Rattle.day_events.specs.declared.event.Event.{Event}
use Rattle.day_sections.specs.Rooms.{rooms_from}
use Rattle.day_sections.proofs.Walks.{rooms_on}
use Rattle.day_sections.proofs.rooms.rooms_of.Goals as goal

pub loop-event-preserved : goal.loop-event-preserved
loop-event-preserved c =
    rooms_on c.args.events.now c.loop-event.event-index c.event-item.result c.loop-event.last c.room_after-last.result c.is_first_asked.result c.loop-event.rooms.items c.keep.new.events.items (rooms_from 0 c.args.events.now)
    c.loop-event-test.true c.event-item.is c.room_after-last.ensures c.is_first_asked.ensures c.in_ok-keep.ensures c.loop-event.invariant

pub returns : goal.returns
returns c =
    let F : List Event → List Event = λ ys. c.loop-event.rooms.items ++ rooms_from c.loop-event.last ys in
    sym (append-nil c.loop-event.rooms.items) ∙ (sym (at_drop_all F c.args.events.now c.loop-event.event-index c.loop-event-test.false) ∙ c.loop-event.invariant)
