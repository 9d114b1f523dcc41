use Rattle.std.proofs.Common.{◌∙◌, ◌-◌, Option, ap, arith, sym, take}
use Rattle.fix_dictionary.specs.declared.values.Identifier.{Identifier}
use Rattle.trade_table.specs.Sources.{cross_of, newest, or}
use Rattle.trade_table.proofs.Walking.{newest_last}
use Rattle.trade_table.proofs.sources.newest_cross.Goals as goal

pub returns-in-Some : goal.returns-in-Some
returns-in-Some c =
    let at = c.loop-at.at in
    let known = c.args.known.now in
    let pick = cross_of c.args.entering.now c.args.resting.now in
    sym (
    sym c.loop-at.invariant
    ∙ newest_last pick known at c.index-known-at.result (omega (arith, c.loop-at-test.true)) c.loop-at.auto.at c.index-known-at.is
    ∙ ap (λ (o : Option Identifier). or o (newest pick (take (at - 1) known))) (sym c.cross_of.ensures ∙ c.in-Some.is)
    )

pub loop-at-preserved : goal.loop-at-preserved
loop-at-preserved c =
    let at = c.loop-at.at in
    let known = c.args.known.now in
    let pick = cross_of c.args.entering.now c.args.resting.now in
    sym (
    newest_last pick known at c.index-known-at.result (omega (arith, c.loop-at-test.true)) c.loop-at.auto.at c.index-known-at.is
    ∙ ap (λ (o : Option Identifier). or o (newest pick (take (at - 1) known))) (sym c.cross_of.ensures ∙ c.in_default.is)
    )
    ∙ c.loop-at.invariant
