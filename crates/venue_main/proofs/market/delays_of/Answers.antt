use Rattle.std.proofs.Common.{◌≡◌, ◌<◌, ◌++◌, [], ◌∷◌, map, length, take, sym, ap, ◌∙◌, arith}
use Rattle.audit_trail.proofs.DelayLemmas.{delay_taken}
use Rattle.venue_main.proofs.market.delays_of.Goals as goal

pub loop-place-preserved : goal.loop-place-preserved
loop-place-preserved c =
    let xs = c.args.instruments.now in
    let p = c.loop-place.place in
    let d = c.delay.result in
    let low : p < length xs = omega (arith, c.loop-place-test.true, c.len-place-end.ensures.count) in
    c.in_ok-push.ensures.items ∙ ap (λ all. all ++ d ∷ []) c.loop-place.invariant ∙ ap (λ e. take p (map (λ i. i.delay) xs) ++ e ∷ []) c.delay.ensures.delay ∙ sym (delay_taken xs p low)
