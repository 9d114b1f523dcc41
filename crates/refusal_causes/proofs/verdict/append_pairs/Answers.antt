use Rattle.std.proofs.Common.{◌≡◌, ℕ, ◌++◌, ◌∙◌, ap, arith, get_or}
use Rattle.refusal_causes.specs.Printed.{pair_lines}
use Rattle.refusal_causes.proofs.Texts.{more_mapped}
use Rattle.refusal_causes.proofs.verdict.append_pairs.Goals as goal

pub loop-pair-preserved : goal.loop-pair-preserved
loop-pair-preserved c =
    let a = c.args in
    let item : c.pair-item.result ≡ get_or c.pairs-pairs.result.now c.loop-pair.pair-index c.pair-item.result = c.pair-item.is in
    more_mapped (pair_lines a.participants.now a.who a.d.now) c.pairs-pairs.result.now c.loop-pair.pair-index c.pair-item.result a.text.now.items c.loop-pair.text.items c.append_pair.new.text.items (omega (arith, c.loop-pair-test.true))
    c.loop-pair.invariant (c.in_ok-append_pair.ensures ∙ ap (λ (p : ℕ × ℕ). c.loop-pair.text.items ++ pair_lines a.participants.now a.who a.d.now p) item)
