use Rattle.std.proofs.Common.{◌≡◌, ℕ, [], Some, length, slice_get, subst, arith}
use Rattle.venue_world.specs.Side.{Side}
use Rattle.once_session.specs.Course.{IsFree, Replies, RepliesOnce}
use Rattle.once_session.proofs.Events.{fewer-wait, none-waits, replies-none, replies-then, waits-first}
use Rattle.once_session.proofs.First.{both-same, both-then, is-named, of-later}
use Rattle.once_session.proofs.Going.{somewhere-then, went-nil, went-then}
use Rattle.once_session.proofs.answering.send_replies.Goals as goal

pub loop-at-init : goal.loop-at-init
loop-at-init c = record { went = went-nil c.args.at c.args.world.now; sent = both-same IsFree Replies c.args.world.now.sides c.requires.free replies-none }

pub queued-requires : goal.queued-requires
queued-requires c = rw c.first.ensures (is-named IsFree c.loop-at.world.sides (of-later Replies IsFree c.args.world.now.sides c.loop-at.world.sides c.loop-at.invariant.sent (λ s s' p. p.free)))

pub send_reply-requires-clause-somewhere : goal.send_reply-requires-clause-somewhere
send_reply-requires-clause-somewhere c = somewhere-then c.one_reader.ensures.some c.args.at c.args.world.now c.loop-at.world [] [] c.loop-at.invariant.went c.requires.somewhere

pub send_reply-requires-clause-free : goal.send_reply-requires-clause-free
send_reply-requires-clause-free c = of-later Replies IsFree c.args.world.now.sides c.loop-at.world.sides c.loop-at.invariant.sent (λ s s' p. p.free)

pub loop-at-preserved : goal.loop-at-preserved
loop-at-preserved c =
    let old = c.args.world.now in
    let mid = c.loop-at.world in
    let new = c.send_reply.new.world in
    record {
      went = went-then c.args.at old mid new [] [] [] [] c.loop-at.invariant.went c.in_ok-send_reply.ensures.went;
      sent = both-then Replies RepliesOnce Replies old.sides mid.sides new.sides c.loop-at.invariant.sent c.in_ok-send_reply.ensures.sent (λ s s' s'' p q. replies-then s s' s'' p q.replies);
    }

pub loop-at-smaller : goal.loop-at-smaller
loop-at-smaller c =
    let mid = c.loop-at.world in
    let free = of-later Replies IsFree c.args.world.now.sides mid.sides c.loop-at.invariant.sent (λ s s' p. p.free) in
    let waits = waits-first c.queued.result mid.sides (subst (λ (n : ℕ). (s : Side) → slice_get mid.sides n ≡ Some s → c.queued.result ≡ length s.queue) c.first.ensures c.queued.ensures) (is-named IsFree mid.sides free) in
    fewer-wait mid.sides c.send_reply.new.world.sides c.in_ok-send_reply.ensures.sent (omega (arith, waits, c.loop-at-test.true))

pub returns-clause-all : goal.returns-clause-all
returns-clause-all c =
    let mid = c.loop-at.world in
    let free = of-later Replies IsFree c.args.world.now.sides mid.sides c.loop-at.invariant.sent (λ s s' p. p.free) in
    let waits = waits-first c.queued.result mid.sides (subst (λ (n : ℕ). (s : Side) → slice_get mid.sides n ≡ Some s → c.queued.result ≡ length s.queue) c.first.ensures c.queued.ensures) (is-named IsFree mid.sides free) in
    none-waits IsFree mid.sides free (omega (arith, waits, c.loop-at-test.false))
