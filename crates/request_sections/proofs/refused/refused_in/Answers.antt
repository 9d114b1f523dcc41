use Rattle.std.proofs.Common.{◌∙◌, ap, List, ℕ, ◌++◌}
use Rattle.std.specs.List.{flat_map}
use Rattle.day_events.specs.declared.event.Event.{Event}
use Rattle.request_sections.specs.Refused.{quote_refused, refused_in, refused_of}
use Rattle.request_sections.proofs.Appends.{appends_on, appends_out}
use Rattle.request_sections.proofs.refused.refused_in.Goals as goal

pub loop-quote-init : goal.loop-quote-init
loop-quote-init c =
    let es : List Event = c.args.day.now.events.now in
    let rest : List Event = flat_map (λ (q : Event). quote_refused q.at.row q.what es) c.args.quotes.now in
    ap (λ (l : List Event). l ++ rest) (c.in_ok-append_named.ensures ∙ (λ j. c.new-kept.ensures.items j ++ refused_of c.args.row (c.printed_identifier.ensures j) es))

pub loop-quote-preserved : goal.loop-quote-preserved
loop-quote-preserved c =
    let es : List Event = c.args.day.now.events.now in
    appends_on (λ (q : Event). quote_refused q.at.row q.what es) c.args.quotes.now c.loop-quote.quote-index c.quote-item.result c.loop-quote.kept.items c.append_of_quote.new.kept.items (refused_in c.args.row c.args.room c.args.quotes.now es)
    c.loop-quote-test.true c.quote-item.is c.in_ok-append_of_quote.ensures c.loop-quote.invariant

pub returns : goal.returns
returns c =
    let es : List Event = c.args.day.now.events.now in
    appends_out (λ (q : Event). quote_refused q.at.row q.what es) c.args.quotes.now c.loop-quote.quote-index c.loop-quote.kept.items (refused_in c.args.row c.args.room c.args.quotes.now es) c.loop-quote-test.false c.loop-quote.invariant
