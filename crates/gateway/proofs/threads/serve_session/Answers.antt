use Rattle.std.proofs.Common.{subst}
use Rattle.gateway.specs.Served.{Served, HasServed, served}
use Rattle.gateway.proofs.threads.serve_session.Goals as goal

pub returns : goal.returns
returns g c =
    let ended = c.session_loop-ended.result in
    let after = served ended.session (g.L.Line.said ended.line) (g.C.Clock.answered c.session_loop-ended.new.clock) (g.G.Gate.passed c.session_loop-ended.new.gate) ended.hand ended.take c.session_loop-ended.new.end in
    subst (λ (s : Served). HasServed c.args.turns s after) c.start.view_is (record {
      led = c.session_loop-ended.ensures.session;
      free = c.session_loop-ended.ensures.nothing_in_hand;
      seat = c.session_loop-ended.ensures.seat;
      end_handed = c.session_loop-ended.ensures.end_handed;
    })
