use Rattle.std.proofs.Common.{◌≡◌, ◌∙◌, ◌+◌, ◌*◌, ap, sym, subst, take, take_all, get_or, arith, decimal, true, false}
use Rattle.std.specs.Char.{digit_value}
use Rattle.std.specs.Str.Parse.{AllDigits, digits_value}
use Rattle.std.proofs.lemmas.Fmt.{decimal_is_IsNumeral, decimal-digits_value}
use Rattle.std.proofs.lemmas.Int.Digits.{digits_more, digits_value_more}
use Rattle.std.proofs.lemmas.Str.Parse.{numerals_by_value, tells_digits}
use Rattle.rfq_room.proofs.Numbering.{plain-decimal, digit-of}
use Rattle.rfq_room.proofs.numbered.spelled.Goals as goal

pub returns-then-not-is_plain : goal.returns-then-not-is_plain
returns-then-not-is_plain c = λ n h e.
    let never : true ≡ false = sym (c.is_plain.ensures.1 (rw e (plain-decimal n h))) ∙ c.if-not-is_plain.true in
    cc

pub returns-in_default : goal.returns-in_default
returns-in_default c = λ n h e.
    let is = decimal_is_IsNumeral n h in
    let fits = digit-of c.args.digits.now n 0 c.loop-digit.digit-index (omega arith) (subst (AllDigits 10) (sym e) is.0.1) (ap (digits_value 10) e ∙ is.1) in
    let over = rw c.in_default.is at c.with_digit.ensures in
    absurd (omega (arith, h, fits.1, over fits.0, c.loop-digit.invariant.value))

pub loop-digit-preserved : goal.loop-digit-preserved
loop-digit-preserved c =
    let more = rw c.in-Some.is at c.with_digit.ensures in
    record {
      digits = digits_more 10 c.args.digits.now c.loop-digit.digit-index (omega arith) c.loop-digit.invariant.digits more.0;
      value = more.1 ∙ ap (λ n. n * 10 + digit_value (get_or c.args.digits.now c.loop-digit.digit-index 0)) c.loop-digit.invariant.value ∙ sym (digits_value_more 10 c.args.digits.now c.loop-digit.digit-index (omega arith));
      bound = more.2;
    }

pub returns : goal.returns
returns c =
    let ds = c.args.digits.now in
    let plain = c.is_plain.ensures.0 c.if-not-is_plain.false in
    let all : take c.loop-digit.digit-index ds ≡ ds = take_all c.loop-digit.digit-index ds (omega arith) in
    let is : c.loop-digit.number ≡ digits_value 10 ds = c.loop-digit.invariant.value ∙ ap (digits_value 10) all in
    let digits = subst (AllDigits 10) all c.loop-digit.invariant.digits in
    let fits = c.loop-digit.invariant.bound in
    (sym (ap decimal is ∙ decimal-digits_value (numerals_by_value (AllDigits 10) tells_digits) ds digits plain.0 plain.1 (omega (arith, is, fits))), fits)
