use Rattle.std.proofs.Common.{◌≤◌, ◌+◌, ◌∙◌, sym, subst, arith}
use Rattle.venue_rules.specs.Market.{Market}
use Rattle.venue_core.specs.VenueFacts.{IsHistory, IsStanding}
use Rattle.venue_core.specs.State.{VenueFacts}
use Rattle.refusal_causes.specs.Why.{IsBetween}
use Rattle.refusal_causes.proofs.Waiting.{passes_next}
use Rattle.refusal_causes.proofs.why.first_between.Goals as goal

-- the moments are nearer to each other, and the venue stands as before
pub halves-preserved : goal.halves-preserved
halves-preserved c =
    let same = c.halves.invariant.0 in
    let e = c.in_ok-next_low.ensures in
    let taken = c.args.taken.now in (
      record { market = e.market ∙ same.market; day = e.day ∙ same.day },
      e.items ∙ c.halves.invariant.1,
      λ h t is between.
          let here : IsHistory c.halves.venue h = subst (λ (p : VenueFacts). IsStanding p h) (sym same.day) is in
          let at = subst (λ (n : Market). IsBetween n h taken t c.halves.low c.halves.high) (sym same.market) (c.halves.invariant.2 h t is between) in
          subst (λ (n : Market). IsBetween n h taken t c.in_ok-next_low.next_low c.in_ok-next_low.next_high) same.market (e.between h t here at),
    )

pub returns-clause-passes : goal.returns-clause-passes
returns-clause-passes c = λ h t is between.
    let near : c.halves.high ≤ c.halves.low + 1 = omega (arith, c.halves-test.false, c.ms.ensures.value, c.ms-in-halves.ensures.value) in
    passes_next c.causes_are_first.ensures.before c.args.venue.now.market h c.args.taken.now t c.halves.low c.halves.high (c.halves.invariant.2 h t is between) near
