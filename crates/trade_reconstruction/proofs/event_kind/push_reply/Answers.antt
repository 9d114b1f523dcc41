use Rattle.std.proofs.Common.{ap}
use Rattle.std.proofs.lemmas.Result.{on_ok_weaker}
use Rattle.trade_reconstruction.specs.EventKinds.{held_in, picture_in, said_by, said_in, words_in}
use Rattle.trade_reconstruction.proofs.Appends.{three}
use Rattle.trade_reconstruction.proofs.event_kind.push_reply.Goals as goal

pub returns : goal.returns
unfolding words_in
returns c =
    let a = c.args in
    let r = c.args.reply.now in
    on_ok_weaker c.push_picture.result
    (λ e. three _ _ _ _ _ (said_by a.row a.moment r.to (said_in a.trigger.now r.what)) _ (said_by a.row a.moment r.to (held_in a.trigger.now r.what)) (picture_in a.row a.moment a.trigger.now r)
    c.in_ok-push_said.ensures (ap (said_by a.row a.moment r.to) c.said_in.ensures) c.in_ok-push_said-2.ensures (ap (said_by a.row a.moment r.to) c.held_in.ensures) e)
    c.push_picture.ensures
