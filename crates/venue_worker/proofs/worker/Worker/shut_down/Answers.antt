use Rattle.std.proofs.Common.{◌≡◌, ◌∙◌, ℕ, false, arith, refl, subst, sym}
use Rattle.venue_worker.specs.Shutdown.{is_over}
use Rattle.venue_worker.proofs.Dismissing.{all_seen, all_seen_then, looked_none, looked_then, rounds_begin, rounds_done, rounds_end, rounds_next, same_then, served_then}
use Rattle.venue_worker.proofs.worker.Worker.shut_down.Goals as goal

pub returns-then-is_over-clause-only : goal.returns-then-is_over-clause-only
returns-then-is_over-clause-only g c = same_then c.args.self.now c.loop.self c.drain_all-moved.new.self c.loop.invariant.only c.drain_all-moved.ensures.only

pub returns-then-is_over-clause-seen_off : goal.returns-then-is_over-clause-seen_off
returns-then-is_over-clause-seen_off g c = all_seen_then c.args.self.now c.loop.self c.drain_all-moved.new.self c.loop.invariant.only c.loop.invariant.seen_off c.drain_all-moved.ensures.seen_off

pub returns-then-is_over-clause-served : goal.returns-then-is_over-clause-served
returns-then-is_over-clause-served g c _ = served_then c.args.self.now c.loop.self c.drain_all-moved.new.self c.loop.invariant.only c.loop.invariant.looked c.drain_all-moved.ensures.round.served

pub loop-preserved : goal.loop-preserved
loop-preserved g c =
    let old = c.args.self.now in
    let mid = c.loop.self in
    let new = c.drain_all-moved.new.self in
    let i = c.loop.invariant in
    let all = c.drain_all-moved.ensures in
    record {
      only = same_then old mid new i.only all.only;
      seen_off = all_seen_then old mid new i.only i.seen_off all.seen_off;
      served = λ _. served_then old mid new i.only i.looked all.round.served;
      looked = looked_then old mid new i.only i.looked all.looked;
      rounded = rounds_next c.loop.counter c.loop.since c.last_progress-since.result c.now-moment.result c.time_between-idle.result c.drain_all-moved.result (g.C.Clock.answered c.args.clock.now) (g.C.Clock.answered c.loop.clock) (g.C.Clock.answered c.report_waiting.new.clock)
          old mid new i.rounded (record { clock = c.report_waiting.ensures ∙ all.clock ∙ c.now-moment.ensures; idle_is = c.time_between-idle.ensures; round = all.round; since_is = c.last_progress-since.ensures })
          (subst (λ (z : ℕ). is_over z new ≡ false) c.time_between-quiet.ensures (sym c.is_over.ensures ∙ c.if-is_over.false));
    }

pub returns-clause-served : goal.returns-clause-served
returns-clause-served g c some = c.loop.invariant.served (let far = c.loop-test.false in omega (arith, some, far))

pub returns-then-is_over-clause-rounds : goal.returns-then-is_over-clause-rounds
returns-then-is_over-clause-rounds g c =
    let all = c.drain_all-moved.ensures in
    rounds_end c.loop.counter c.args.rounds c.loop.since c.last_progress-since.result c.now-moment.result c.time_between-idle.result c.time_between-quiet.result c.drain_all-moved.result
    (g.C.Clock.answered c.args.clock.now) (g.C.Clock.answered c.loop.clock) (g.C.Clock.answered c.report_waiting.new.clock) c.args.self.now c.loop.self c.drain_all-moved.new.self c.loop.invariant.rounded
    (record { clock = c.report_waiting.ensures ∙ all.clock ∙ c.now-moment.ensures; idle_is = c.time_between-idle.ensures; round = all.round; since_is = c.last_progress-since.ensures }) c.time_between-quiet.ensures (sym c.is_over.ensures ∙ c.if-is_over.true)

pub returns-clause-rounds : goal.returns-clause-rounds
returns-clause-rounds g c =
    rounds_done c.loop.counter c.args.rounds c.loop.since (g.C.Clock.answered c.args.clock.now) (g.C.Clock.answered c.loop.clock) c.args.self.now c.loop.self (let far = c.loop-test.false in omega (arith, far)) c.loop.invariant.rounded

pub loop-init : goal.loop-init
loop-init g c = record {
  only = (refl, refl, refl);
  seen_off = all_seen c.args.self.now;
  served = λ low. absurd (omega (arith, low));
  looked = looked_none c.args.self.now;
  rounded = rounds_begin c.now-since.result (g.C.Clock.answered c.args.clock.now) (g.C.Clock.answered c.now-since.new.self) c.args.self.now c.now-since.ensures;
}
