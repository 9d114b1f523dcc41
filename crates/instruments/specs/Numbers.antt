use Rattle.std.specs.Prelude.{ℕ, pos, nat_abs, nat_le, int_lt, ◌||◌, Bool, true, false, not, ◌&&◌, List, Option, Some, None}
use Rattle.toml.specs.Data.{Data, integer, get}

-- a value is stated that is not a whole number from low to high
abbrev pub is_no_number : ℕ → ℕ → Option Data → Bool
is_no_number low high None = false
is_no_number low high (Some (integer z)) = int_lt z (pos 0) || not (nat_le low (nat_abs z) && nat_le (nat_abs z) high)
is_no_number low high (Some d) = true

-- a number, or 0 where there is none
abbrev pub number_in : Option Data → ℕ
number_in (Some (integer z)) = nat_abs z
number_in _ = 0

abbrev pub number_at : List ℕ → Data → ℕ
number_at key entry = number_in (get key entry)

-- a number, or the usual one where none is stated
abbrev pub stated_or : ℕ → Option Data → ℕ
stated_or usual (Some (integer z)) = nat_abs z
stated_or usual _ = usual

abbrev pub number_or : ℕ → List ℕ → Data → ℕ
number_or usual key entry = stated_or usual (get key entry)
