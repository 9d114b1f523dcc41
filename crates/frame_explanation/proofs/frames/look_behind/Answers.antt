use Rattle.std.proofs.Common.{◌≡◌, ℕ, ◌+◌, Option, Some, false, length, sym, ap, ◌∙◌, arith}
use Rattle.frame_explanation.specs.Frames as frames
use Rattle.frame_explanation.proofs.Scan.{look_broken}
use Rattle.frame_explanation.proofs.frames.look_behind.Goals as goal

pub returns-else-is_framed-clause-look : goal.returns-else-is_framed-clause-look
returns-else-is_framed-clause-look c =
    let bytes = c.args.bytes.now in
    let digits = c.length_digits-digits.ensures.digits in
    let at : ℕ = length c.length_digits-digits.result.now + 13 + 1 in
    let start : at ≡ length (frames.length_digits bytes) + 14 = omega (arith, ap length digits) in
    let found : frames.body_length (frames.length_digits bytes) ≡ Some c.in-Some.length = ap frames.body_length (sym digits) ∙ sym c.in-Some.ensures.length in
    let none : frames.is_framed bytes at (at + c.in-Some.length) ≡ false = sym c.is_framed.ensures.framed ∙ c.if-is_framed.false in
    c.broken-else-is_framed.ensures.look ∙ look_broken bytes at c.in-Some.length none ∙ ap (λ (s : ℕ). frames.look_behind bytes s (Some c.in-Some.length)) start
    ∙ ap (λ (o : Option ℕ). frames.look_behind bytes (length (frames.length_digits bytes) + 14) o) (sym found)
