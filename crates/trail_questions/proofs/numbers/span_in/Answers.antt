use Rattle.trail_questions.proofs.Digits.{none_found, one_row, spelled_parts, undashed}
use Rattle.trail_questions.proofs.numbers.span_in.Goals as goal

pub returns-in-Some-clause-each : goal.returns-in-Some-clause-each
returns-in-Some-clause-each c = λ span low high is.
    let parts = spelled_parts c.args.word.now c.in-Some.first c.in-Some.last c.in-Some.ensures.cases span low high is in
    c.span_of.ensures.each span low high parts.0 parts.1

pub returns-in-Some-plain_number-clause-each : goal.returns-in-Some-plain_number-clause-each
returns-in-Some-plain_number-clause-each c = λ span low high is.
    let whole = undashed c.args.word.now c.in-None.ensures.cases span low high is in
    one_row c.in-Some-plain_number.number span (c.in-Some-plain_number.ensures.each span.first low whole.0) whole.1

pub returns-in-None-plain_number-clause-each : goal.returns-in-None-plain_number-clause-each
returns-in-None-plain_number-clause-each c = λ span low high is.
    let whole = undashed c.args.word.now c.in-None.ensures.cases span low high is in
    none_found span.first span (c.in-None-plain_number.ensures.each span.first low whole.0)
