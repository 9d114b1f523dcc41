use Rattle.std.proofs.Common.{◌≤◌, ◌∙◌, List, length, ap, arith}
use Rattle.std.proofs.lemmas.List.{length_push}
use Rattle.sef_client.specs.Heard.{applications}
use Rattle.sef_client.proofs.Counted.{all_awaited, awaited_still}
use Rattle.sef_client.specs.declared.script.ScriptStep.{ScriptStep}
use Rattle.sef_client.specs.Heard.{AreAwaited, IsAwaited}
use Rattle.std.proofs.Common.{All}
use Rattle.sef_client.proofs.script.Script.run.Goals as goal

pub returns-then-done-len-clause-awaited : goal.returns-then-done-len-clause-awaited
returns-then-done-len-clause-awaited g c =
    let script : List ScriptStep = c.args.self.now.steps.items in
    let still : AreAwaited (applications c.exchange.new.party.heard) c.in-Ok.more script =
    awaited_still c.loop.party.heard c.steps_done.new.party.heard c.exchange.new.party.heard c.in-Ok.more c.deref.result.now script
    c.in-Ok.ensures.heard c.exchange.ensures.heard c.deref.ensures.value c.in-Ok.ensures.awaited in
    let all : All (IsAwaited (applications c.exchange.new.party.heard)) script =
    all_awaited (applications c.exchange.new.party.heard) c.in-Ok.more script (omega (arith, c.len.ensures, c.if-done-len.true)) still in
    rw c.into_heard.ensures all

pub loop-preserved : goal.loop-preserved
loop-preserved g c =
    let script : List ScriptStep = c.args.self.now.steps.items in
    let still : AreAwaited (applications c.exchange.new.party.heard) c.in-Ok.more script =
    awaited_still c.loop.party.heard c.steps_done.new.party.heard c.exchange.new.party.heard c.in-Ok.more c.deref.result.now script
    c.in-Ok.ensures.heard c.exchange.ensures.heard c.deref.ensures.value c.in-Ok.ensures.awaited in
    let within : c.in-Ok.more ≤ length script = rw (← c.deref.ensures.value) c.in-Ok.ensures.within in
    let one = ap length c.now-t.ensures ∙ length_push (g.C.Clock.answered c.loop.clock) c.now-t.result in
    let before = c.loop.invariant.3 in
    (still, within, c.in-Ok-exchange.ensures.emitted ∙ c.loop.invariant.2, omega (arith, one, before))
