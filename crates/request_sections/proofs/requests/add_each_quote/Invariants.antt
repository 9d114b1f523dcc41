use Rattle.std.proofs.Common.{◌≡◌, drop}
use Rattle.std.specs.List.{flat_map}
use Rattle.page_text.specs.Parts.{with_parts}
use Rattle.request_sections.specs.Requests.{if_quote_parts, sheet_of}
use Rattle.request_sections.proofs.requests.add_each_quote.Given as goal

-- the parts so far, and then those of the others, are all
abbrev pub invariant-loop-event : goal.invariant-loop-event
invariant-loop-event l = with_parts l.page (flat_map (λ e. if_quote_parts l.participants (sheet_of l.day) l.said.tick l.axis l.said.events.now l.said.room e e.what) (drop l.event-index l.said.quotes.now)) ≡ with_parts l.fn.page (flat_map (λ e. if_quote_parts l.participants (sheet_of l.day) l.said.tick l.axis l.said.events.now l.said.room e e.what) l.said.quotes.now)
