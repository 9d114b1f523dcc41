use Rattle.std.proofs.Common.{ap, codes, decimal}
use Rattle.std.proofs.lemmas.Result.{on_ok_weaker}
use Rattle.fix_fields.specs.Forms.{price_text}
use Rattle.trade_reconstruction.specs.Lines.{filled_text, row_text}
use Rattle.trade_reconstruction.proofs.Appends.{eleven}
use Rattle.trade_reconstruction.proofs.rested.append_stood.Goals as goal

pub returns : goal.returns
returns c =
    let w = c.args.word.now in
    let x = c.args.stood.now in
    on_ok_weaker c.append_row.result
    (λ e. eleven _ _ _ _ _ _ _ _ (codes "O") (decimal x.order) (codes " rested before O") (decimal x.resting) _ _ _ (decimal x.left) (codes " @ ") (price_text x.price) _ _ (row_text w.row) c.in_ok-append_number.ensures
    c.in_ok-append_number-2.ensures c.in_ok-append_number-3.ensures c.stood_side.ensures (ap decimal c.get.ensures.value) c.in_ok-append.ensures c.in_ok-append_price.ensures c.in_ok-append_filled.ensures
    (ap filled_text c.filler_of.ensures) e)
    c.append_row.ensures
