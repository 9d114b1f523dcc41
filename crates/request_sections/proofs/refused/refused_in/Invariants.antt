use Rattle.std.proofs.Common.{◌≡◌, ◌++◌, drop}
use Rattle.std.specs.List.{flat_map}
use Rattle.day_events.specs.declared.event.Event.{Event}
use Rattle.request_sections.specs.Refused.{quote_refused, refused_in}
use Rattle.request_sections.proofs.refused.refused_in.Given as goal

-- those so far, and then those of the other quotes, are all
abbrev pub invariant-loop-quote : goal.invariant-loop-quote
invariant-loop-quote l = l.kept.items ++ flat_map (λ (q : Event). quote_refused q.at.row q.what l.day.events.now) (drop l.quote-index l.quotes) ≡ refused_in l.row l.room l.quotes l.day.events.now
