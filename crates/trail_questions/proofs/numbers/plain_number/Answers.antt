use Rattle.std.proofs.Common.{◌≡◌, ℕ, decimal, Result, Err, Ok, Some, ap, refl, sym, ◌∙◌}
use Rattle.std.proofs.lemmas.Fmt.{parse-decimal}
use Rattle.trail_questions.proofs.Digits.{never, same_number}
use Rattle.trail_questions.proofs.numbers.plain_number.Goals as goal

pub returns-in-Err-clause-each : goal.returns-in-Err-clause-each
returns-in-Err-clause-each c = λ number low is.
    let read = parse-decimal 64 number c.args.digits.now (Err c.in-Err.field-0) low low is c.in-Err.ensures.value.0 in
    absurd (cc)

pub returns-then-eq-clause-each : goal.returns-then-eq-clause-each
returns-then-eq-clause-each c = λ number low is.
    let read : Result ℕ ℕ = Ok c.in-Ok.number in
    ap (λ (n : ℕ). Some n) (same_number c.in-Ok.number number read refl (parse-decimal 64 number c.args.digits.now read low low is c.in-Ok.ensures.value.0))

pub returns-else-eq-clause-each : goal.returns-else-eq-clause-each
returns-else-eq-clause-each c = λ number low is.
    let read : Result ℕ ℕ = Ok c.in-Ok.number in
    let same : c.in-Ok.number ≡ number = same_number c.in-Ok.number number read refl (parse-decimal 64 number c.args.digits.now read low low is c.in-Ok.ensures.value.0) in
    absurd (never c.format.result.now c.args.digits.now (c.format.ensures.text ∙ ap decimal same ∙ sym is) (sym c.eq.ensures ∙ c.if-eq.false))
