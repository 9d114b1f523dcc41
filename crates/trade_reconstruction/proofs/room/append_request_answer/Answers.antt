use Rattle.std.specs.List.{flat_map}
use Rattle.std.proofs.lemmas.Result.{on_ok_weaker}
use Rattle.trade_reconstruction.specs.Lines.{answered_word, asked_word, hit_word, request_line, three_line}
use Rattle.trade_reconstruction.proofs.Appends.{quintet}
use Rattle.trade_reconstruction.proofs.room.append_request_answer.Goals as goal

pub returns : goal.returns
returns c =
    let a = c.args in
    let rows = a.rows.now in
    let file = a.participants.now in
    on_ok_weaker c.append_hits.result
    (λ e. quintet _ _ _ _ _ _ (request_line rows file a.word.now a.asked.now) (three_line file a.in_room.now a.word.now a.asked.now) (flat_map (asked_word file a.in_room.now a.asked.now) a.in_room.now)
    (flat_map (answered_word rows file a.asked.now) a.to_requester.now) (flat_map (hit_word rows file a.asked.now) a.in_room.now) c.in_ok-append_request.ensures c.in_ok-append_three.ensures c.in_ok-append_all_asked.ensures
    c.in_ok-append_answered.ensures e)
    c.append_hits.ensures
