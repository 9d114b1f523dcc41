use Rattle.std.proofs.Common.{◌++◌, ◌∙◌, arith, subst, sym}
use Rattle.venue_core.specs.State.{VenueFacts}
use Rattle.venue_core.specs.VenueFacts.{IsStanding}
use Rattle.trade_reconstruction.specs.QuoteNotes.{fate_of}
use Rattle.trade_reconstruction.proofs.Appends.{one_more}
use Rattle.trade_reconstruction.proofs.noting.push_fates_asked.Goals as goal

pub push_fate_of-requires : goal.push_fate_of-requires
push_fate_of-requires c = omega (arith, c.loop-word.invariant.2, c.requires.few)

pub loop-word-preserved : goal.loop-word-preserved
loop-word-preserved c =
    let e = c.in_ok-push_fate_of.ensures in
    let before = c.loop-word.invariant in
    let a = c.args in (
      e.market ∙ before.0,
      e.day ∙ before.1,
      e.items ∙ before.2,
      λ h stands.
          e.noted h (subst (λ (p : VenueFacts). IsStanding p h) (sym before.1) stands)
          ∙ (λ k. before.3 h stands k ++ fate_of (before.0 k) h a.hit.now a.asked.now a.ended.now c.word-item.result)
          ∙ one_more (fate_of a.venue.now.market h a.hit.now a.asked.now a.ended.now) a.fates.now.items a.words.now c.loop-word.word-index c.word-item.result c.loop-word-test.true c.word-item.is,
    )
