use Rattle.trail_questions.proofs.Digits.{digits_behind}
use Rattle.trail_questions.proofs.numbers.room_number.Goals as goal

pub returns-in-Some-clause-each : goal.returns-in-Some-clause-each
returns-in-Some-clause-each c = λ number low is.
    let at = c.in-Some.ensures.cases in
    c.plain_number.ensures.each number low (digits_behind 82 c.args.word.now c.in-Some.digits.now number at.0 at.2 at.1.0 is)
