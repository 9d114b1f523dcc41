use Rattle.std.proofs.Common.{◌≡◌, ◌≤◌, ◌+◌, length}
use Rattle.gateway.specs.Said.{faults_in}
use Rattle.sef_client.specs.Heard.{AreAwaited, applications}
use Rattle.sef_client.proofs.script.Script.run.Given as goal

abbrev pub invariant-loop : goal.invariant-loop
invariant-loop g l =
    AreAwaited (applications l.party.heard) l.done l.self.steps.items
    × (l.done ≤ length l.self.steps.items)
    × (faults_in (g.L.Line.said l.line) ≡ faults_in (g.L.Line.said l.initial.line))
    × (length (g.C.Clock.answered l.clock) ≡ length (g.C.Clock.answered l.initial.clock) + l.counter)
