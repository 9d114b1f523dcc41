use Rattle.std.proofs.Common.{codes, decimal}
use Rattle.std.proofs.lemmas.Result.{on_ok_weaker}
use Rattle.sef_moment.specs.Utc.{utc_text}
use Rattle.trade_reconstruction.specs.Lines.{at_text, price_or_none, row_text}
use Rattle.trade_reconstruction.proofs.Appends.{twelve}
use Rattle.trade_reconstruction.proofs.room.append_quote_terms.Goals as goal

pub returns : goal.returns
returns c =
    let w = c.args.word.now in
    let q = c.args.quoted.now in
    on_ok_weaker c.append_at.result
    (λ e. twelve _ _ _ _ _ _ (codes "quote Q") (decimal q.quote) (codes " of ") _ _ (codes " bid ") (price_or_none q.bid) (codes " offer ") (price_or_none q.offer) (codes " until ") (utc_text q.end)
    (at_text w.moment) (row_text w.row) c.in_ok-append_number.ensures c.in_ok-append.ensures c.as_slice.ensures.value c.in_ok-append_prices.ensures c.in_ok-append_moment.ensures e)
    c.append_at.ensures
