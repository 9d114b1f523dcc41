use Rattle.std.proofs.Common.{◌≡◌, ◌<◌, ℕ, length, None, Some}
use Rattle.std.specs.Prelude.{slice_get, IfSome}
use Rattle.atomic_table.specs.Seated.{TableId}
use Rattle.intake_seats.specs.Given.{TakeEnd}
use Rattle.intake_seats.specs.Ends.{AreHands, AreTakes}
use Rattle.test_integration.proofs.seats.each_seat_has_its_own_message.Given as goal

-- the taker's end of seat k, with nothing in hand but the seat's number
abbrev pub Own : TableId → ℕ → TakeEnd ℕ → Type 0
Own board k t = (t.board ≡ board) × (t.number ≡ k) × IfSome t.in_hand (λ held. held ≡ k)

-- the same, where the first n have put back
abbrev pub OwnPutBack : TableId → ℕ → ℕ → TakeEnd ℕ → Type 0
OwnPutBack board n k t = (t.board ≡ board) × (t.number ≡ k) × IfSome t.in_hand (λ held. held ≡ k) × (k < n → t.in_hand ≡ None)

abbrev pub invariant-loop-k : goal.invariant-loop-k
invariant-loop-k g l = (l.board.words ≡ 32) × AreHands l.board l.hands.items × AreTakes l.board l.takes.items

abbrev pub invariant-loop-k-2 : goal.invariant-loop-k-2
invariant-loop-k-2 g l = (l.board.words ≡ 32) × AreHands l.board l.hands.items × (length l.takes.items ≡ 32) × ((k : ℕ) (t : TakeEnd ℕ) → slice_get l.takes.items k ≡ Some t → Own l.board k t)

abbrev pub invariant-loop-k-3 : goal.invariant-loop-k-3
invariant-loop-k-3 g l = (l.board.words ≡ 32) × AreHands l.board l.hands.items × (length l.takes.items ≡ 32) × ((k : ℕ) (t : TakeEnd ℕ) → slice_get l.takes.items k ≡ Some t → OwnPutBack l.board l.k k t)

abbrev pub invariant-loop-k-4 : goal.invariant-loop-k-4
invariant-loop-k-4 g l = Unit {0}
