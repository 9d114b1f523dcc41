use Rattle.std.proofs.Common.{◌≡◌, ◌<◌, ℕ, [], ◌∷◌, subst, sym, refl, ◌∙◌, arith}
use Rattle.frame_explanation.specs.Hearing.{Did, replies}
use Rattle.frame_explanation.proofs.Going.{did-nil, did-reply, did-send, did-write}
use Rattle.frame_explanation.proofs.hearing.send_all.Goals as goal

pub loop-reply-init : goal.loop-reply-init
loop-reply-init c = record { did = did-nil c.args.world.now; sides = refl }

pub loop-reply-preserved : goal.loop-reply-preserved
loop-reply-preserved c = record {
  did = did-reply c.loop-reply._reply c.args.who c.args.at c.args.world.now c.loop-reply.world c.send_reply.new.world c.loop-reply.invariant.did c.in_ok-send_reply.ensures.did;
  sides = c.send_reply.ensures.sides ∙ c.loop-reply.invariant.sides;
}

pub returns-clause-sends : goal.returns-clause-sends
returns-clause-sends c =
    let k = c.args.who in
    let t = c.args.at in
    let old = c.args.world.now in
    let mid = c.loop-reply.world in
    let new = c.take_wire-bytes.new.self in
    let count = c.queued-waiting.result in
    let all : c.loop-reply._reply ≡ count = omega arith in
    let low = subst (λ (n : ℕ). k < n) (sym c.loop-reply.invariant.sides) c.requires in
    did-send t k count old mid new _ c.requires c.queued-waiting.ensures
    (subst (λ (n : ℕ). Did old mid (replies n k t) [] []) all c.loop-reply.invariant.did)
    (did-write k mid new _ c.take_wire-bytes.ensures.act low c.take_wire-bytes.ensures.taken)
