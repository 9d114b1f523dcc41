use Rattle.std.proofs.Common.{◌≡◌, None}
use Rattle.test_integration.proofs.seats.take_all.Given as goal

abbrev pub invariant-loop : goal.invariant-loop
invariant-loop l = (l.take.board ≡ l.fn.take.board) × (l.take.number ≡ l.fn.take.number) × (l.take.in_hand ≡ None)
