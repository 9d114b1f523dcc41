use Rattle.std.proofs.Common.{◌≡◌, ◌++◌, take}
use Rattle.std.specs.List.{flat_map}
use Rattle.resting_orders.specs.Rests.{request_text}
use Rattle.resting_orders.proofs.rests_text.append_requests.Given as goal

abbrev pub invariant-loop-request : goal.invariant-loop-request
invariant-loop-request l = l.text.items ≡ l.fn.text.items ++ flat_map (request_text l.page.form l.page.participants.now l.page.instruments.now l.page.end l.who) (take l.request-index l.requests)
