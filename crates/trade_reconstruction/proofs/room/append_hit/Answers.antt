use Rattle.std.proofs.Common.{codes}
use Rattle.std.proofs.lemmas.Result.{on_ok_weaker}
use Rattle.fix_fields.specs.Forms.{price_text}
use Rattle.trade_reconstruction.specs.Lines.{at_text, response_text}
use Rattle.trade_reconstruction.proofs.Appends.{eight}
use Rattle.trade_reconstruction.proofs.room.append_hit.Goals as goal

pub returns : goal.returns
returns c =
    let w = c.args.word.now in
    let x = c.args.hit.now in
    on_ok_weaker c.append_sent_row.result
    (λ e. eight _ _ _ _ _ _ _ _ (codes "hit of quote ") _ _ (codes " by ") _ _ _ _ (price_text x.price) (response_text x.response) (at_text w.moment) _ c.in_ok-append.ensures c.as_slice.ensures.value c.in_ok-append-2.ensures c.name_at-name.ensures c.in_ok-append-3.ensures c.hit_side-side.ensures
    c.in_ok-append_price.ensures c.in_ok-append_response.ensures c.in_ok-append_moment.ensures
    e)
    c.append_sent_row.ensures
