use Rattle.std.proofs.Common.{◌≡◌, ℕ, ◌+◌, Option, Some, length, sym, ap, ◌∙◌, arith}
use Rattle.desk_log.specs.Frames as frames
use Rattle.desk_log.proofs.frames.look_behind.Goals as goal

pub returns-in-Some-clause-look : goal.returns-in-Some-clause-look
returns-in-Some-clause-look c =
    let bytes = c.args.bytes.now in
    let digits = c.length_digits-digits.ensures.digits in
    let start : length c.length_digits-digits.result.now + 13 + 1 ≡ length (frames.length_digits bytes) + 14 = omega (arith, ap length digits) in
    let found : frames.body_length (frames.length_digits bytes) ≡ Some c.in-Some.length = ap frames.body_length (sym digits) ∙ sym c.in-Some.ensures.length in
    c.look_body.ensures.look ∙ ap (λ (s : ℕ). frames.look_body bytes s (s + c.in-Some.length)) start
    ∙ ap (λ (o : Option ℕ). frames.look_behind bytes (length (frames.length_digits bytes) + 14) o) (sym found)
