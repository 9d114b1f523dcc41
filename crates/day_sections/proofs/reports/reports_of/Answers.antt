use Rattle.std.proofs.Common.{◌∙◌, sym, append-nil, List, ◌++◌, filter}
use Rattle.std.proofs.lemmas.List.{at_drop_all}
use Rattle.day_events.specs.declared.event.Event.{Event}
use Rattle.day_sections.specs.Reports.{is_reporting}
use Rattle.day_sections.proofs.Walks.{picks_on}
use Rattle.day_sections.proofs.reports.reports_of.Goals as goal

pub loop-event-preserved : goal.loop-event-preserved
loop-event-preserved c =
    picks_on (λ (e : Event). is_reporting e.what) c.args.events.now c.loop-event.event-index c.event-item.result c.is_reporting.result c.loop-event.kept.items c.keep.new.events.items (filter (λ (e : Event). is_reporting e.what) c.args.events.now)
    c.loop-event-test.true c.event-item.is c.is_reporting.ensures c.in_ok-keep.ensures c.loop-event.invariant

pub returns : goal.returns
returns c =
    let F : List Event → List Event = λ ys. c.loop-event.kept.items ++ filter (λ (e : Event). is_reporting e.what) ys in
    sym (append-nil c.loop-event.kept.items) ∙ (sym (at_drop_all F c.args.events.now c.loop-event.event-index c.loop-event-test.false) ∙ c.loop-event.invariant)
