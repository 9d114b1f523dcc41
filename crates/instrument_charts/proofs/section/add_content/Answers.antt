use Rattle.std.proofs.Common.{◌++◌}
use Rattle.std.proofs.lemmas.Result.{on_ok_weaker}
use Rattle.instrument_charts.specs.Instruments.{curve_parts, labels_parts}
use Rattle.instrument_charts.specs.Volumes.{volume_parts}
use Rattle.instrument_charts.proofs.Walks.{in_turn}
use Rattle.instrument_charts.proofs.section.add_content.Goals as goal

pub returns : goal.returns
returns c =
    let s = c.args.scale.now in
    let shown = c.args.shown.now in
    let curve = curve_parts s shown.deals.now shown.bids.now shown.offers.now in
    on_ok_weaker c.add_volume.result
    (λ e. in_turn c.args.page.now c.add_labels.new.page c.add_volume.new.page (labels_parts s) (curve ++ volume_parts s shown.deals.now) c.in_ok-add_labels.ensures
    (in_turn c.add_labels.new.page c.add_curve.new.page c.add_volume.new.page curve (volume_parts s shown.deals.now) c.in_ok-add_curve.ensures e))
    c.add_volume.ensures
