use Rattle.std.proofs.Common.{◌∙◌, sym, append-nil, List, ◌++◌, filter}
use Rattle.std.proofs.lemmas.List.{at_drop_all}
use Rattle.day_events.specs.declared.event.Event.{Event}
use Rattle.request_sections.specs.Picks.{is_picked}
use Rattle.day_sections.proofs.Walks.{picks_on}
use Rattle.request_sections.proofs.picks.picked.Goals as goal

pub loop-event-preserved : goal.loop-event-preserved
loop-event-preserved c =
    picks_on (is_picked c.args.pick.now) c.args.events.now c.loop-event.event-index c.event-item.result c.is_picked.result c.loop-event.kept.items c.keep.new.events.items (filter (is_picked c.args.pick.now) c.args.events.now)
    c.loop-event-test.true c.event-item.is c.is_picked.ensures c.in_ok-keep.ensures c.loop-event.invariant

pub returns : goal.returns
returns c =
    let F : List Event → List Event = λ ys. c.loop-event.kept.items ++ filter (is_picked c.args.pick.now) ys in
    sym (append-nil c.loop-event.kept.items) ∙ (sym (at_drop_all F c.args.events.now c.loop-event.event-index c.loop-event-test.false) ∙ c.loop-event.invariant)
