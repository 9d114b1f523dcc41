use Rattle.std.proofs.Common.{◌≡◌, ◌∙◌, length, ap, arith}
use Rattle.venue_worker.specs.Work.{Work}
use Rattle.venue_worker.proofs.Dismissing.{same_then, sees_same, sees_all, all_seen_then, served_more, served_all, looked_more, round_begins, round_done, round_more}
use Rattle.venue_worker.proofs.worker.Worker.drain_all.Goals as goal

pub loop-j-preserved : goal.loop-j-preserved
loop-j-preserved g c =
    let old = c.args.self.now in
    let mid = c.loop-j.self in
    let new = c.drain-moved.new.self in
    let i = c.loop-j.invariant in
    let drained = c.drain-moved.ensures.drained in
    let sees = drained.sees in
    record {
      only = same_then old mid new i.only (sees_same c.loop-j.j mid new sees);
      seen_off = all_seen_then old mid new i.only i.seen_off (sees_all c.loop-j.j mid new sees);
      served = served_more c.loop-j.j old mid new i.looked i.served sees;
      looked = looked_more c.loop-j.j old mid new i.looked sees;
      round = round_more c.loop-j.j c.args.may_cut c.loop-j.moved c.drain-moved.result old mid new i.round drained;
      clock = c.drain-moved.ensures.clock ∙ i.clock;
    }

pub returns-clause-round : goal.returns-clause-round
returns-clause-round g c =
    let old = c.args.self.now in
    let all : length c.self.inside.hands.items ≡ length old.hands = ap (λ (w : Work). length w.hands) c.self.view_is in
    let ok = c.self.inside.hands.ok.0 in
    let far = c.loop-j-test.false in
    let count = c.len-count.ensures in
    let i = c.loop-j.invariant in
    round_done c.loop-j.j c.args.may_cut c.loop-j.moved old c.loop-j.self (omega (arith, all, ok, far, count)) i.only i.seen_off i.looked (served_all c.loop-j.j old c.loop-j.self (omega (arith, all, ok, far, count)) i.served) i.round
