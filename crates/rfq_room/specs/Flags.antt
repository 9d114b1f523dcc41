use Rattle.std.specs.Prelude.{ℕ, zero, suc, ◌-◌, ◌≤◌, Bool, false, List, get_or}
use Rattle.std.specs.Vec.{vec_capacity, vec_len}
use Rattle.rfq_room.specs.declared.flags.Flags.TheInside.{Inside}

-- the flags of the numbers from 1 on, and spare capacity
pub record Known : Type 0 where
  pub flags : List Bool
  pub headroom : ℕ

abbrev pub known : Inside → Known
known a = record { flags = a.flags.items; headroom = vec_capacity a.flags - vec_len a.flags }

-- the number has a flag, and it is set
abbrev pub is_set : List Bool → ℕ → Bool
is_set flags zero = false
is_set flags (suc place) = get_or flags place false

-- a number from 1 up to a count
abbrev pub IsWithin : ℕ → ℕ → Type 0
IsWithin count n = (1 ≤ n) × (n ≤ count)
