use Rattle.std.proofs.Common.{◌≡◌, ◌+◌, ◌≤◌, ◌<◌, arith, true, get_or, length, sym}
use Rattle.std.specs.Char.{is_ascii_digit}
use Rattle.std.proofs.lemmas.List.{take_rest}
use Rattle.fix_fields.proofs.FrontLemmas.{front-tag, value-bound, value-push, digits-push}
use Rattle.fix_fields.proofs.fields.front_tag.Goals as goal

pub returns-then-byte-eq61 : goal.returns-then-byte-eq61
returns-then-byte-eq61 c =
    let text = c.args.text.now in
    let place = c.loop-place.place in
    let found = front-tag text place (omega (arith, c.if-place-eq0.false)) c.loop-place.invariant.short c.loop-place-test.true c.if-text-eq48.false c.if-byte-eq61.true c.loop-place.invariant.digits in
    rw (take_rest text (place + 1), c.loop-place.invariant.value) found

pub overflow_mul-tag : goal.overflow_mul-tag
overflow_mul-tag c = omega (arith, c.loop-place.invariant.value, value-bound c.args.text.now c.loop-place.place (omega (arith, c.loop-place.invariant.short, c.if-place-eq9.false)) c.loop-place-test.true c.loop-place.invariant.digits)

pub overflow_add-tag : goal.overflow_add-tag
overflow_add-tag c =
    let digit : c.from.result ≤ 9 = omega (arith, c.from.ensures, c.if-not-is_ascii_digit.ensures.cases.1) in
    omega (arith, digit, c.loop-place.invariant.value, value-bound c.args.text.now c.loop-place.place (omega (arith, c.loop-place.invariant.short, c.if-place-eq9.false)) c.loop-place-test.true c.loop-place.invariant.digits)

pub loop-place-preserved : goal.loop-place-preserved
loop-place-preserved c =
    let text = c.args.text.now in
    let place = c.loop-place.place in
    let digit : is_ascii_digit (get_or text place 0) ≡ true = sym c.if-not-is_ascii_digit.ensures.value in
    let lt : place < length text = c.loop-place-test.true in
    record {
      within = omega (arith, lt);
      short = omega (arith, c.loop-place.invariant.short, c.if-place-eq9.false);
      digits = digits-push text place lt digit c.loop-place.invariant.digits;
      value = rw (c.loop-place.invariant.value, c.from.ensures) (value-push text place lt digit);
    }
