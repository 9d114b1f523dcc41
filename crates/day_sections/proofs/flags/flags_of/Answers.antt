use Rattle.std.proofs.Common.{◌+◌, ◌∙◌, ap, List, replicate}
use Rattle.day_sections.specs.declared.flags.Flag.{Flag}
use Rattle.day_sections.specs.declared.flags.Flag.TheVariants.{Unlinked}
use Rattle.day_sections.proofs.Flagged.{lines_are_flags, lines_on, lines_out, with_lines}
use Rattle.day_sections.proofs.flags.flags_of.Goals as goal

pub loop-line-init : goal.loop-line-init
loop-line-init c = ap (λ (ms : List Flag). with_lines c.args.linked.now ms) c.in_ok-flags.ensures

pub loop-line-preserved : goal.loop-line-preserved
loop-line-preserved c =
    lines_on c.args.linked.now c.loop-line.line-index c.line-item.result c.loop-line.flags.items c.flag_trade.new.flags.items (with_lines c.args.linked.now (replicate (c.args.most + 1) Unlinked))
    c.loop-line-test.true c.line-item.is c.flag_trade.ensures c.loop-line.invariant

pub returns : goal.returns
returns c =
    lines_out c.args.linked.now c.loop-line.line-index c.loop-line.flags.items (with_lines c.args.linked.now (replicate (c.args.most + 1) Unlinked)) c.loop-line-test.false c.loop-line.invariant
    ∙ lines_are_flags c.args.linked.now c.args.most
