use Rattle.std.proofs.Common.{◌≡◌, drop}
use Rattle.std.specs.Prelude.{◌==◌}
use Rattle.std.specs.List.{list_any}
use Rattle.day_events.specs.declared.event.Event.{Event}
use Rattle.request_sections.proofs.picks.has_quoted.Given as goal

-- none so far is of the participant
abbrev pub invariant-loop-quote : goal.invariant-loop-quote
invariant-loop-quote l = list_any (λ (q : Event). q.at.from == l.number) (drop l.quote-index l.quotes) ≡ list_any (λ (q : Event). q.at.from == l.number) l.quotes
