use Rattle.std.proofs.Common.{◌≡◌, ◌+◌, drop, replicate}
use Rattle.day_sections.specs.declared.flags.Flag.TheVariants.{Unlinked}
use Rattle.day_sections.proofs.Flagged.{with_lines}
use Rattle.day_sections.proofs.flags.flags_of.Given as goal

-- the flags so far, with those of the other lines, are all
abbrev pub invariant-loop-line : goal.invariant-loop-line
invariant-loop-line l = with_lines (drop l.line-index l.linked) l.flags.items ≡ with_lines l.linked (replicate (l.most + 1) Unlinked)
