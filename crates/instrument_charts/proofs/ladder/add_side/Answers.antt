use Rattle.std.proofs.Common.{ℕ, List, ◌∙◌, ap, length}
use Rattle.std.specs.Prelude.{None, take}
use Rattle.std.specs.List.{flat_map}
use Rattle.std.proofs.lemmas.Result.{on_ok_weaker}
use Rattle.page_text.specs.Parts.{with_parts}
use Rattle.instrument_charts.specs.declared.ladder.Rest.{Rest}
use Rattle.instrument_charts.specs.Ladders.{end_parts, firsts, level_parts, most_levels}
use Rattle.instrument_charts.proofs.Walks.{in_turn}
use Rattle.instrument_charts.proofs.ladder.add_side.Goals as goal

pub returns : goal.returns
returns c =
    let side = c.args.book.now.side in
    let rs = c.args.book.now.rests.now in
    let levels = λ (l : List Rest). flat_map (level_parts c.args.book.now.tick side rs) l in
    on_ok_weaker c.add_end.result
    (λ e. in_turn c.args.page.now c.add_levels.new.page c.add_end.new.page (levels (take most_levels (firsts None rs))) (end_parts side (length (firsts None rs)))
    (c.in_ok-add_levels.ensures ∙ ap (λ (l : List Rest). with_parts c.args.page.now (levels l)) (c.best_of.ensures ∙ ap (λ (l : List Rest). take most_levels l) (c.deref.ensures.value ∙ c.in_ok-levels.ensures)))
    (e ∙ (ap (λ (n : ℕ). with_parts c.add_levels.new.page (end_parts side n)) c.count_of.ensures ∙ ap (λ (l : List Rest). with_parts c.add_levels.new.page (end_parts side (length l))) (c.deref-2.ensures.value ∙ c.in_ok-levels.ensures))))
    c.add_end.ensures
