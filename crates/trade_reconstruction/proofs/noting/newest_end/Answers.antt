use Rattle.std.proofs.Common.{◌∙◌, ◌-◌, Option, ap, arith, sym, take}
use Rattle.trade_reconstruction.specs.declared.quote_note.Ended.{Ended}
use Rattle.trade_reconstruction.specs.QuoteNotes.{end_of, newest, or}
use Rattle.trade_reconstruction.proofs.Newest.{newest_last}
use Rattle.trade_reconstruction.proofs.noting.newest_end.Goals as goal

pub returns-in-Some : goal.returns-in-Some
returns-in-Some c =
    let at = c.loop-at.at in
    let known = c.args.ended.now in
    let pick = end_of c.args.asked.now c.args.quote in
    sym (
    sym c.loop-at.invariant
    ∙ newest_last pick known at c.index-ended-at.result (omega (arith, c.loop-at-test.true)) c.loop-at.auto.at c.index-ended-at.is
    ∙ ap (λ (o : Option Ended). or o (newest pick (take (at - 1) known))) (sym c.end_of.ensures ∙ c.in-Some.is)
    )

pub loop-at-preserved : goal.loop-at-preserved
loop-at-preserved c =
    let at = c.loop-at.at in
    let known = c.args.ended.now in
    let pick = end_of c.args.asked.now c.args.quote in
    sym (
    newest_last pick known at c.index-ended-at.result (omega (arith, c.loop-at-test.true)) c.loop-at.auto.at c.index-ended-at.is
    ∙ ap (λ (o : Option Ended). or o (newest pick (take (at - 1) known))) (sym c.end_of.ensures ∙ c.in_default.is)
    )
    ∙ c.loop-at.invariant
