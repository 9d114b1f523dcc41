use Rattle.std.proofs.Common.{ℕ, ◌<◌, ◌≤◌, length, subst}
use Rattle.page_text.specs.Parts.{with_parts}
use Rattle.day_tables.specs.Parts.{each_from}
use Rattle.day_tables.proofs.Walks.{counts_on, counts_out}
use Rattle.rule_counts.specs.Rules.{adjusted_parts}
use Rattle.rule_counts.proofs.rules.add_each.Goals as goal

pub loop-instrument-preserved : goal.loop-instrument-preserved
loop-instrument-preserved c =
    let n = length c.args.instruments.now in
    let f = adjusted_parts c.args.instruments.now in
    counts_on f c.loop-instrument.instrument n c.loop-instrument.page c.add_if_adjusted.new.page (with_parts c.args.page.now (each_from f 0 n))
    (subst (λ (k : ℕ). c.loop-instrument.instrument < k) c.len-instrument-end.ensures.count c.loop-instrument-test.true) c.in_ok-add_if_adjusted.ensures c.loop-instrument.invariant

pub returns : goal.returns
returns c =
    let n = length c.args.instruments.now in
    let f = adjusted_parts c.args.instruments.now in
    counts_out f c.loop-instrument.instrument n c.loop-instrument.page (with_parts c.args.page.now (each_from f 0 n))
    (subst (λ (k : ℕ). k ≤ c.loop-instrument.instrument) c.len-instrument-end.ensures.count c.loop-instrument-test.false) c.loop-instrument.invariant
