use Rattle.std.proofs.Common.{◌≡◌, ◌<◌, ◌∙◌, Some, arith, refl, sym}
use Rattle.std.proofs.lemmas.Bool.Decides.{nat_tests}
use Rattle.desk_log.specs.Missing.{if_before, missing_from}
use Rattle.desk_log.proofs.Gaps.{gap_more}
use Rattle.desk_log.proofs.missing.append_gaps_from.Goals as goal

pub gaps-preserved : goal.gaps-preserved
gaps-preserved c =
    let gap = c.in-Some.gap in
    let some : 0 < c.gaps.left = grind (arith, nat_tests, c.gaps-test.true) in
    let is : if_before (missing_from c.args.frames.now c.gaps.place) c.args.later ≡ Some gap = sym c.next_gap.ensures ∙ c.in-Some.is in
    gap_more c.args.frames.now c.args.later c.gaps.left c.gaps.place (record { era = gap.era; number = gap.next }) gap c.gaps.found.items c.push.new.self.items _ some is c.in_ok-push.ensures.items refl c.gaps.invariant
