use Rattle.std.proofs.Common.{◌≡◌, ◌∙◌, ℕ, ◌+◌, ◌-◌, ap, arith, drop, take}
use Rattle.trade_reconstruction.specs.Emitted.{fates_for, stood_for}
use Rattle.trade_reconstruction.proofs.Aligned.{fates_placed, stood_placed}
use Rattle.trade_reconstruction.proofs.notes.narrowed.Goals as goal

pub returns-clause-stood : goal.returns-clause-stood
returns-clause-stood c =
    let notes = c.args.notes.now in
    let n = c.args.number in
    let at = n - c.first_number-first.result in
    let one : at + 1 - at ≡ 1 = omega arith in
    ap (λ (k : ℕ). stood_for n (take k (drop at notes))) one
    ∙ stood_placed at n notes (c.requires.aligned c.if-not-is_aligned.false) (omega (arith, c.if-at-notes.false)) (omega (arith, c.if-number-first.false, c.first_number-first.ensures))

pub returns-clause-fates : goal.returns-clause-fates
returns-clause-fates c =
    let notes = c.args.notes.now in
    let n = c.args.number in
    let at = n - c.first_number-first.result in
    let one : at + 1 - at ≡ 1 = omega arith in
    ap (λ (k : ℕ). fates_for n (take k (drop at notes))) one
    ∙ fates_placed at n notes (c.requires.aligned c.if-not-is_aligned.false) (omega (arith, c.if-at-notes.false)) (omega (arith, c.if-number-first.false, c.first_number-first.ensures))
