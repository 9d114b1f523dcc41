use Rattle.std.proofs.Common.{◌∙◌, ap}
use Rattle.fix_session.specs.State.{begun}
use Rattle.venue_runtime.specs.Starting.{ids_at}
use Rattle.venue_runtime.proofs.Starts.{sessions_more}
use Rattle.venue_runtime.proofs.starting.sessions_of.Goals as goal

pub loop-place-preserved : goal.loop-place-preserved
loop-place-preserved c =
    let file = c.args.participants.now in
    sessions_more c.args.restarted file c.loop-place.place c.loop-place.sessions.items c.push.new.self.items c.in_ok-session.session c.in_ok-push.ensures.items
    (c.in_ok-session.ensures ∙ ap (λ n. begun c.args.restarted (ids_at file n)) c.of.ensures) c.loop-place.invariant
