use Rattle.std.proofs.Common.{◌≡◌, ◌∙◌, sym, append-nil, List, ◌++◌, filter, refl}
use Rattle.std.specs.Prelude.{◌==◌}
use Rattle.std.proofs.lemmas.List.{at_drop_all}
use Rattle.day_events.specs.declared.shown.ShownPrice.{ShownPrice}
use Rattle.request_sections.specs.Shown.{is_on}
use Rattle.request_sections.proofs.Rising.{kept_on}
use Rattle.request_sections.proofs.prices.of_row.Goals as goal

pub loop-price-preserved : goal.loop-price-preserved
loop-price-preserved c =
    let p = λ (x : ShownPrice). x.row == c.args.row in
    kept_on p c.args.shown.now c.loop-price.price-index c.price-item.result _ c.loop-price.kept.items c.keep.new.prices.items (filter p c.args.shown.now)
    c.loop-price-test.true c.price-item.is refl c.in_ok-keep.ensures c.loop-price.invariant

pub returns : goal.returns
returns c =
    let F : List ShownPrice → List ShownPrice = λ ys. c.loop-price.kept.items ++ filter (λ (x : ShownPrice). x.row == c.args.row) ys in
    sym (append-nil c.loop-price.kept.items) ∙ (sym (at_drop_all F c.args.shown.now c.loop-price.price-index c.loop-price-test.false) ∙ c.loop-price.invariant)
