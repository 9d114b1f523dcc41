use Rattle.std.proofs.Common.{◌≡◌, ◌≤◌, take}
use Rattle.sef_client.specs.Heard.{applications}
use Rattle.sef_client.proofs.heard.applications_in.Given as goal

abbrev pub invariant-loop-message : goal.invariant-loop-message
invariant-loop-message l = (l.count ≡ applications (take l.message-index l.messages)) × (l.count ≤ l.message-index)
