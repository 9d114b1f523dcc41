use Rattle.std.proofs.Common.{◌≡◌, ◌+◌, ◌<◌, ℕ, List, ◌∷◌, [], ◌++◌, map, length, refl, ap, sym, ◌∙◌, arith}
use Rattle.std.specs.Prelude.{None}
use Rattle.std.specs.Vec.Iter.{into_iter_items, into_iter_len}
use Rattle.std.proofs.lemmas.List.{length-map}
use Rattle.std.proofs.lemmas.Simd.{map-map}
use Rattle.std.proofs.lemmas.Iterator.Adapters.{YieldsList-from_vec}
use Rattle.std.proofs.lemmas.Iterator.Consumers.{YieldsList-turn, YieldsList-end}
use Rattle.fix_dictionary.specs.declared.messages.Item.{Item}
use Rattle.fix_session.specs.State.{Seen, State}
use Rattle.gateway.specs.Served.{Served}
use Rattle.intake_seats.specs.Given.{HandEnd, TakeEnd}
use Rattle.outbound_queue.specs.declared.outgoing.Outgoing.{Outgoing}
use Rattle.venue_runtime.specs.Starting.{SessionIo, outside}
use Rattle.venue_runtime.proofs.Lists.{dealt_all, dealt_more, given_next, kept_more, left_next, long_both, map_more, none_at}
use Rattle.venue_runtime.proofs.starting.starts_of.Goals as goal

pub loop-session-init : goal.loop-session-init
loop-session-init g c =
    let none = c.in_ok-starts.ensures.items in
    record {
      states = ap (λ (zs : List Served). map (λ (s : Served). s.thread.session) zs) none;
      outsides =
          ap (λ (zs : List Served). map (λ (s : Served). outside s.thread.said s.emitted s.passed) zs ++ map (λ (o : g.row.L.Denot × g.row.C.Denot × g.row.G.Denot). outside (g.L.Line.said o.0) (g.C.Clock.answered o.1) (g.G.Gate.passed o.2)) (into_iter_items c.into_iter-lines.result)) none
          ∙ ap (λ (os : List (g.row.L.Denot × g.row.C.Denot × g.row.G.Denot)). map (λ (o : g.row.L.Denot × g.row.C.Denot × g.row.G.Denot). outside (g.L.Line.said o.0) (g.C.Clock.answered o.1) (g.G.Gate.passed o.2)) os) c.into_iter-lines.ensures.rest;
      hands = ap (λ (zs : List Served). map (λ (s : Served). s.thread.hand) zs ++ into_iter_items c.into_iter-hands.result) none ∙ c.into_iter-hands.ensures.rest;
      takes = ap (λ (zs : List Served). map (λ (s : Served). s.thread.take) zs ++ into_iter_items c.into_iter-takes.result) none ∙ c.into_iter-takes.ensures.rest;
      end_tokens = ap (λ (zs : List Served). map (λ (s : Served). s.end) zs ++ into_iter_items c.into_iter-ends.result) none ∙ c.into_iter-ends.ensures.rest;
      kept = λ k s at. absurd (none_at c.in_ok-starts.starts.items k s none at);
      lines_left = omega (arith, c.into_iter-lines.ensures.len, c.args.lines.ok.0, c.requires.lines);
      hands_left = omega (arith, c.into_iter-hands.ensures.len, c.args.hands.ok.0, c.requires.hands);
      takes_left = omega (arith, c.into_iter-takes.ensures.len, c.args.takes.ok.0, c.requires.takes);
      ends_left = omega (arith, c.into_iter-ends.ensures.len, c.args.ends.ok.0, c.requires.ends);
    }

pub unwrap-outside-requires : goal.unwrap-outside-requires
unwrap-outside-requires g c =
    let gives = c.into_iter-session-iterator.ensures.into_iter_gives in
    let len : into_iter_len c.into_iter-session-iterator.result ≡ length c.args.sessions.items = omega (arith, gives.1, c.args.sessions.ok.0) in
    let turn = YieldsList-turn (YieldsList-from_vec c.args.sessions.items gives.0 len) c.loop-session.yielded c.loop-session.session-iterator c.loop-session.yielded_by c.next.result c.next.new.self c.in-Some.session c.in-Some.is c.next.ensures.steps in
    c.next-in-loop-session.ensures.variant.1 (omega (arith, turn.0, c.loop-session.invariant.lines_left))

pub unwrap-hand-requires : goal.unwrap-hand-requires
unwrap-hand-requires g c =
    let gives = c.into_iter-session-iterator.ensures.into_iter_gives in
    let len : into_iter_len c.into_iter-session-iterator.result ≡ length c.args.sessions.items = omega (arith, gives.1, c.args.sessions.ok.0) in
    let turn = YieldsList-turn (YieldsList-from_vec c.args.sessions.items gives.0 len) c.loop-session.yielded c.loop-session.session-iterator c.loop-session.yielded_by c.next.result c.next.new.self c.in-Some.session c.in-Some.is c.next.ensures.steps in
    c.next-in-loop-session-2.ensures.variant.1 (omega (arith, turn.0, c.loop-session.invariant.hands_left))

pub unwrap-take-requires : goal.unwrap-take-requires
unwrap-take-requires g c =
    let gives = c.into_iter-session-iterator.ensures.into_iter_gives in
    let len : into_iter_len c.into_iter-session-iterator.result ≡ length c.args.sessions.items = omega (arith, gives.1, c.args.sessions.ok.0) in
    let turn = YieldsList-turn (YieldsList-from_vec c.args.sessions.items gives.0 len) c.loop-session.yielded c.loop-session.session-iterator c.loop-session.yielded_by c.next.result c.next.new.self c.in-Some.session c.in-Some.is c.next.ensures.steps in
    c.next-in-loop-session-3.ensures.variant.1 (omega (arith, turn.0, c.loop-session.invariant.takes_left))

pub unwrap-end-requires : goal.unwrap-end-requires
unwrap-end-requires g c =
    let gives = c.into_iter-session-iterator.ensures.into_iter_gives in
    let len : into_iter_len c.into_iter-session-iterator.result ≡ length c.args.sessions.items = omega (arith, gives.1, c.args.sessions.ok.0) in
    let turn = YieldsList-turn (YieldsList-from_vec c.args.sessions.items gives.0 len) c.loop-session.yielded c.loop-session.session-iterator c.loop-session.yielded_by c.next.result c.next.new.self c.in-Some.session c.in-Some.is c.next.ensures.steps in
    c.next-in-loop-session-4.ensures.variant.1 (omega (arith, turn.0, c.loop-session.invariant.ends_left))

pub loop-session-preserved : goal.loop-session-preserved
loop-session-preserved g c =
    let at = c.loop-session in
    let here = at.invariant in
    let more = c.in_ok-push.ensures.items in
    let line = c.next-in-loop-session in
    let hand = c.next-in-loop-session-2 in
    let take = c.next-in-loop-session-3 in
    let end = c.next-in-loop-session-4 in
    let all = length c.args.sessions.items in
    record {
      states = map_more (λ (s : Served). s.thread.session) (λ (s : Seen). s.state) at.starts.items c.push.new.self.items at.yielded _ c.in-Some.session more refl here.states;
      outsides =
          dealt_more (λ (s : Served). outside s.thread.said s.emitted s.passed) at.starts.items c.push.new.self.items _
          (outside (g.L.Line.said c.unwrap-outside.result.0) (g.C.Clock.answered c.unwrap-outside.result.1) (g.G.Gate.passed c.unwrap-outside.result.2)) _ _ _ more refl
          (ap (λ (os : List (g.row.L.Denot × g.row.C.Denot × g.row.G.Denot)). map (λ (o : g.row.L.Denot × g.row.C.Denot × g.row.G.Denot). outside (g.L.Line.said o.0) (g.C.Clock.answered o.1) (g.G.Gate.passed o.2)) os)
          (given_next (into_iter_items at.lines) (into_iter_items line.new.self) line.result c.unwrap-outside.result line.ensures.items c.unwrap-outside.ensures)) here.outsides;
      hands =
          dealt_more (λ (s : Served). s.thread.hand) at.starts.items c.push.new.self.items _ c.unwrap-hand.result _ _ _ more refl
          (given_next (into_iter_items at.hands) (into_iter_items hand.new.self) hand.result c.unwrap-hand.result hand.ensures.items c.unwrap-hand.ensures) here.hands;
      takes =
          dealt_more (λ (s : Served). s.thread.take) at.starts.items c.push.new.self.items _ c.unwrap-take.result _ _ _ more refl
          (given_next (into_iter_items at.takes) (into_iter_items take.new.self) take.result c.unwrap-take.result take.ensures.items c.unwrap-take.ensures) here.takes;
      end_tokens =
          dealt_more (λ (s : Served). s.end) at.starts.items c.push.new.self.items _ c.unwrap-end.result _ _ _ more refl
          (given_next (into_iter_items at.ends) (into_iter_items end.new.self) end.result c.unwrap-end.result end.ensures.items c.unwrap-end.ensures) here.end_tokens;
      kept = kept_more (λ (s : Served). s.thread.kept ≡ None) at.starts.items c.push.new.self.items _ more refl here.kept;
      lines_left = left_next (into_iter_len at.lines) (into_iter_len line.new.self) all at.yielded c.in-Some.session line.result c.unwrap-outside.result line.ensures.len c.unwrap-outside.ensures here.lines_left;
      hands_left = left_next (into_iter_len at.hands) (into_iter_len hand.new.self) all at.yielded c.in-Some.session hand.result c.unwrap-hand.result hand.ensures.len c.unwrap-hand.ensures here.hands_left;
      takes_left = left_next (into_iter_len at.takes) (into_iter_len take.new.self) all at.yielded c.in-Some.session take.result c.unwrap-take.result take.ensures.len c.unwrap-take.ensures here.takes_left;
      ends_left = left_next (into_iter_len at.ends) (into_iter_len end.new.self) all at.yielded c.in-Some.session end.result c.unwrap-end.result end.ensures.len c.unwrap-end.ensures here.ends_left;
    }

pub returns : goal.returns
returns g c =
    let gives = c.into_iter-session-iterator.ensures.into_iter_gives in
    let len : into_iter_len c.into_iter-session-iterator.result ≡ length c.args.sessions.items = omega (arith, gives.1, c.args.sessions.ok.0) in
    let all = YieldsList-end (YieldsList-from_vec c.args.sessions.items gives.0 len) c.loop-session.yielded c.loop-session.session-iterator c.loop-session.yielded_by c.next.result c.next.new.self c.in-None.is c.next.ensures.steps in
    let here = c.loop-session.invariant in
    let starts = c.loop-session.starts.items in
    let long : length starts ≡ length c.args.sessions.items = long_both (λ (s : Served). s.thread.session) (λ (s : Seen). s.state) starts c.loop-session.yielded here.states ∙ all.1 in
    record {
      states = here.states ∙ sym (map-map (λ (s : Seen). s.state) (λ (y : Seen). y) c.loop-session.yielded) ∙ ap (λ (zs : List Seen). map (λ (s : Seen). s.state) zs) all.0;
      outsides = dealt_all (λ (s : Served). outside s.thread.said s.emitted s.passed) starts _ _ here.outsides (long ∙ sym c.requires.lines ∙ sym (length-map c.args.lines.items _));
      hands_are = dealt_all (λ (s : Served). s.thread.hand) starts _ _ here.hands (long ∙ sym c.requires.hands);
      takes_are = dealt_all (λ (s : Served). s.thread.take) starts _ _ here.takes (long ∙ sym c.requires.takes);
      end_tokens = dealt_all (λ (s : Served). s.end) starts _ _ here.end_tokens (long ∙ sym c.requires.ends);
      kept = here.kept;
    }
