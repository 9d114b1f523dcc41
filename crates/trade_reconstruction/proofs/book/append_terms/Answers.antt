use Rattle.std.proofs.Common.{◌++◌, ap, codes, decimal}
use Rattle.std.proofs.lemmas.Result.{on_ok_weaker}
use Rattle.trade_reconstruction.specs.Lines.{at_text, price_if, row_text}
use Rattle.trade_reconstruction.proofs.Appends.{nine}
use Rattle.trade_reconstruction.proofs.book.append_terms.Goals as goal

pub returns : goal.returns
returns c =
    let w = c.args.entry.now in
    let x = w.entered in
    on_ok_weaker c.append_at.result
    (λ e. nine _ _ _ _ _ _ (codes "order O") (decimal x.order) (codes " of ") _ _ _ _ _ _ (codes " " ++ x.symbol) (price_if x.price) (at_text w.moment ++ row_text w.row) c.in_ok-append_number.ensures
    c.in_ok-append.ensures c.name_at-name.ensures c.in_ok-append_quantity.ensures c.side_text-side.ensures (ap decimal c.get.ensures.value) c.in_ok-append_price_if.ensures e)
    c.append_at.ensures
