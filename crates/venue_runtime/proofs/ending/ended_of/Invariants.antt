use Rattle.std.proofs.Common.{◌≡◌, map}
use Rattle.gateway.specs.Thread.{at_start}
use Rattle.venue_runtime.proofs.ending.ended_of.Given as goal

abbrev pub invariant-loop-one : goal.invariant-loop-one
invariant-loop-one g l = map (λ e. at_start e.session e.hand e.take (g.L.Line.said e.line)) l.ended.items ≡ map (λ f. f.thread) l.yielded
