use Rattle.std.proofs.Common.{◌≡◌, refl, sym, ap, ◌∙◌, ℕ, ◌+◌, ◌-◌, ◌/◌, true, false, arith}
use Rattle.std.specs.Ordering.{is_lt, is_eq}
use Rattle.client_ids.proofs.Searching.{looked-less, looked-more, looked-headroom}
use Rattle.client_ids.proofs.finding.search.Goals as goal

pub compare-order-requires-clause-headroom : goal.compare-order-requires-clause-headroom
compare-order-requires-clause-headroom g c =
    looked-headroom (g.P.Probe.answer c.args.probe.now c.args.who c.args.id.now) (g.P.Probe.size c.args.probe.now) c.loop-low.low c.loop-low.high c.loop-low.found (g.P.Probe.count c.args.probe.now) (g.P.Probe.count c.loop-low.probe) c.loop-low.invariant.2 c.loop-low-test.true (omega (arith, c.len-high.ensures, c.len-high.type_inv)) c.requires.headroom

pub loop-low-preserved-then-is_less : goal.loop-low-preserved-then-is_less
loop-low-preserved-then-is_less g c =
    let answer = g.P.Probe.answer c.args.probe.now c.args.who c.args.id.now in
    let middle : ℕ = c.loop-low.low + (c.loop-low.high - c.loop-low.low) / 2 in
    let less : is_lt (answer middle) ≡ true = ap is_lt (sym (c.compare-order.ensures.answer ∙ ap (λ f. f c.args.who c.args.id.now middle) c.loop-low.invariant.1)) ∙ sym c.is_less.ensures ∙ c.if-is_less.true in (
      c.compare-order.ensures.size ∙ c.loop-low.invariant.0,
      c.compare-order.ensures.same ∙ c.loop-low.invariant.1,
      rw c.compare-order.ensures.counted (looked-less answer (g.P.Probe.size c.args.probe.now) c.loop-low.low c.loop-low.high c.loop-low.found (g.P.Probe.count c.args.probe.now) (g.P.Probe.count c.loop-low.probe) middle c.requires.rising c.loop-low.invariant.2 c.loop-low-test.true refl less),
    )

pub loop-low-preserved : goal.loop-low-preserved
loop-low-preserved g c =
    let answer = g.P.Probe.answer c.args.probe.now c.args.who c.args.id.now in
    let middle : ℕ = c.loop-low.low + (c.loop-low.high - c.loop-low.low) / 2 in
    let stated : c.compare-order.result ≡ answer middle = c.compare-order.ensures.answer ∙ ap (λ f. f c.args.who c.args.id.now middle) c.loop-low.invariant.1 in
    let more : is_lt (answer middle) ≡ false = ap is_lt (sym stated) ∙ sym c.is_less.ensures ∙ c.if-is_less.false in
    let equal : c.is_equal-found.result ≡ is_eq (answer middle) = c.is_equal-found.ensures ∙ ap is_eq stated in (
      c.compare-order.ensures.size ∙ c.loop-low.invariant.0,
      c.compare-order.ensures.same ∙ c.loop-low.invariant.1,
      rw (c.compare-order.ensures.counted, equal) (looked-more answer (g.P.Probe.size c.args.probe.now) c.loop-low.low c.loop-low.high c.loop-low.found (g.P.Probe.count c.args.probe.now) (g.P.Probe.count c.loop-low.probe) middle c.requires.rising c.loop-low.invariant.2 c.loop-low-test.true refl more),
    )
