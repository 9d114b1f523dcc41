use Rattle.std.proofs.Common.{◌≡◌, ◌+◌, ◌++◌, map, ℕ, length}
use Rattle.std.specs.Prelude.{None, Some, slice_get}
use Rattle.std.specs.Vec.Iter.{into_iter_items, into_iter_len}
use Rattle.fix_session.specs.State.{Seen}
use Rattle.gateway.specs.Served.{Served}
use Rattle.venue_runtime.specs.Starting.{outside}
use Rattle.venue_runtime.proofs.starting.starts_of.Given as goal

abbrev pub invariant-loop-session : goal.invariant-loop-session
invariant-loop-session g l = record {
  states : map (λ (s : Served). s.thread.session) l.starts.items ≡ map (λ (s : Seen). s.state) l.yielded;
  outsides : map (λ (s : Served). outside s.thread.said s.emitted s.passed) l.starts.items ++ map (λ o. outside (g.L.Line.said o.0) (g.C.Clock.answered o.1) (g.G.Gate.passed o.2)) (into_iter_items l.lines)
      ≡ map (λ o. outside (g.L.Line.said o.0) (g.C.Clock.answered o.1) (g.G.Gate.passed o.2)) l.fn.lines.items;
  hands : map (λ (s : Served). s.thread.hand) l.starts.items ++ into_iter_items l.hands ≡ l.fn.hands.items;
  takes : map (λ (s : Served). s.thread.take) l.starts.items ++ into_iter_items l.takes ≡ l.fn.takes.items;
  end_tokens : map (λ (s : Served). s.end) l.starts.items ++ into_iter_items l.ends ≡ l.fn.ends.items;
  kept : (k : ℕ) (s : Served) → slice_get l.starts.items k ≡ Some s → s.thread.kept ≡ None;
  lines_left : into_iter_len l.lines + length l.yielded ≡ length l.fn.sessions.items;
  hands_left : into_iter_len l.hands + length l.yielded ≡ length l.fn.sessions.items;
  takes_left : into_iter_len l.takes + length l.yielded ≡ length l.fn.sessions.items;
  ends_left : into_iter_len l.ends + length l.yielded ≡ length l.fn.sessions.items;
}
