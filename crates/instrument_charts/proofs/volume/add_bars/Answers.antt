use Rattle.std.proofs.Common.{ℕ, ◌∙◌, ap, subst, sym, ◌<◌, List}
use Rattle.page_text.specs.Parts.{Part, with_parts}
use Rattle.day_tables.specs.Parts.{each_from}
use Rattle.instrument_charts.specs.Volumes.{bar_parts, most_bars}
use Rattle.instrument_charts.proofs.Making.{bar_shown, err_says_nothing, within}
use Rattle.instrument_charts.proofs.Walks.{counts_on, counts_out}
use Rattle.instrument_charts.proofs.volume.add_bars.Goals as goal

pub returns-in_err-add_stack : goal.returns-in_err-add_stack
returns-in_err-add_stack c = λ f g h k. err_says_nothing _ c.from_residual.result _ c.from_residual.ensures.1

pub loop-part-preserved : goal.loop-part-preserved
loop-part-preserved c = λ f g h k.
    let i = c.loop-part.part in
    let low : i < most_bars = c.loop-part-test.true in
    let all = c.args.volumes.now.all.items in
    let requests = c.args.volumes.now.requests.items in
    counts_on (bar_parts c.args.greatest f g) i most_bars c.loop-part.page c.add_stack.new.page (with_parts c.args.page.now (each_from (bar_parts c.args.greatest f g) 0 most_bars)) low
    (c.in_ok-add_stack.ensures ∙ ap (λ (ps : List Part). with_parts c.loop-part.page ps)
    (bar_shown c.args.greatest i c.index-all.result.now c.index-requests.result.now c.saturating_sub.result c.pixels-book.result c.pixels.result f g
    (c.index-all.ensures ∙ (within all i c.index-all.result.now 0 (subst (λ (m : ℕ). i < m) (sym h.0) low) ∙ h.1 i low))
    (c.index-requests.ensures ∙ (within requests i c.index-requests.result.now 0 (subst (λ (m : ℕ). i < m) (sym k.0) low) ∙ k.1 i low))
    c.saturating_sub.ensures c.pixels-book.ensures c.pixels.ensures))
    (c.loop-part.invariant f g h k)

pub returns : goal.returns
returns c = λ f g h k.
    counts_out (bar_parts c.args.greatest f g) c.loop-part.part most_bars c.loop-part.page (with_parts c.args.page.now (each_from (bar_parts c.args.greatest f g) 0 most_bars)) c.loop-part-test.false (c.loop-part.invariant f g h k)
