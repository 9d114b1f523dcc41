use Rattle.std.proofs.Common.{◌∙◌, sym, append-nil, List, ◌++◌}
use Rattle.std.proofs.lemmas.List.{at_drop_all}
use Rattle.day_events.specs.declared.event.Event.{Event}
use Rattle.day_sections.proofs.Walks.{picks_on}
use Rattle.request_sections.specs.Refused.{refused_of, refuses}
use Rattle.request_sections.proofs.refused.append_refused.Goals as goal

pub loop-event-preserved : goal.loop-event-preserved
loop-event-preserved c =
    picks_on (refuses c.args.row c.args.id.now) c.args.events.now c.loop-event.event-index c.event-item.result c.refuses.result c.loop-event.kept.items c.keep.new.events.items (c.args.kept.now.items ++ refused_of c.args.row c.args.id.now c.args.events.now)
    c.loop-event-test.true c.event-item.is c.refuses.ensures c.in_ok-keep.ensures c.loop-event.invariant

pub returns : goal.returns
returns c =
    let F : List Event → List Event = λ ys. c.loop-event.kept.items ++ refused_of c.args.row c.args.id.now ys in
    sym (append-nil c.loop-event.kept.items) ∙ (sym (at_drop_all F c.args.events.now c.loop-event.event-index c.loop-event-test.false) ∙ c.loop-event.invariant)
