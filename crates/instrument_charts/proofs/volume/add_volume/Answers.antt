use Rattle.std.proofs.Common.{ℕ, List, ◌≡◌, ◌∷◌, [], ◌∙◌, ap, subst, sym}
use Rattle.std.specs.Prelude.{false, true}
use Rattle.std.proofs.lemmas.Result.{on_ok_weaker}
use Rattle.page_text.specs.Parts.{with_part, with_parts}
use Rattle.day_tables.specs.Parts.{each_from, plain_part}
use Rattle.day_tables.specs.Values.{grouped}
use Rattle.instrument_charts.specs.declared.template.TheConstants.{VOLUME, VOLUME_END}
use Rattle.instrument_charts.specs.Values.{HasEach}
use Rattle.instrument_charts.specs.Volumes.{bar_parts, greatest_of, most_bars, top_part, volume_in, volume_parts}
use Rattle.instrument_charts.proofs.Walks.{in_frame}
use Rattle.instrument_charts.proofs.volume.add_volume.Goals as goal

pub returns : goal.returns
unfolding volume_parts
returns c =
    let f = volume_in c.args.scale.now false c.args.deals.now in
    let g = volume_in c.args.scale.now true c.args.deals.now in
    let all = c.in_ok-volumes.ensures.0 in
    let requests = c.in_ok-volumes.ensures.1 in
    let most : c.greatest_of-greatest.result ≡ greatest_of f = c.greatest_of-greatest.ensures f (subst (λ (l : List ℕ). HasEach 0 f most_bars l) (sym c.deref.ensures.value) all) in
    on_ok_weaker c.add-2.result
    (in_frame c.args.page.now c.add.new.self c.add_bars.new.page c.add-2.new.self (top_part (greatest_of f)) (each_from (bar_parts (greatest_of f) f g) 0 most_bars) (plain_part VOLUME_END.now)
    (c.in_ok-add.ensures.added ∙ (λ j. with_part c.args.page.now (record { template = VOLUME.now; values = (c.deref-2.ensures.value ∙ (c.in_ok-top.ensures ∙ ap grouped most)) j ∷ [] })))
    (c.in_ok-add_bars.ensures f g all requests ∙ ap (λ (n : ℕ). with_parts c.add.new.self (each_from (bar_parts n f g) 0 most_bars)) most))
    c.add-2.ensures.added
