-- What a contract sees of the two ends of a seat.
use Rattle.std.specs.Prelude.{◌≡◌, ℕ, List, ◌++◌, Option, Some, IfSome}
use Rattle.std.specs.Option.{option_to_list}
use Rattle.atomic_table.specs.Seated.{TableId}

-- the board, the number of the seat, the messages given, and the last word read, with the count of reads
pub record HandEnd (M : Type 0) : Type 0 where
  pub board : TableId
  pub number : ℕ
  pub given : List M
  pub last : ℕ
  pub looks : ℕ

-- the same with the messages taken and cleared, and the message in hand
pub record TakeEnd (M : Type 0) : Type 0 where
  pub board : TableId
  pub number : ℕ
  pub taken : List M
  pub in_hand : Option M
  pub last : ℕ
  pub looks : ℕ

-- the messages given are those taken, then one at most: the one in hand, if any
abbrev pub IsAhead : {M : Type 0} → List M → List M → Option M → Type 0
IsAhead {M} given taken in_hand = (more : Option M) × (given ≡ taken ++ option_to_list more) × IfSome in_hand (λ held. more ≡ Some held)
