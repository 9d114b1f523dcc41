use Rattle.std.proofs.Common.{◌≡◌, ◌≤◌}
use Rattle.test_integration.proofs.seats.give_all.Given as goal

abbrev pub invariant-loop : goal.invariant-loop
invariant-loop l = (l.hand.board ≡ l.fn.hand.board) × (l.hand.number ≡ l.fn.hand.number) × (l.last ≤ 1000)
