-- What is kept by number.
use Rattle.std.specs.Prelude.{ℕ, ◌==◌, nat_lt, List, get_or, length, Option, Some, None, if◌then◌else◌}
use Rattle.std.specs.BTreeMap.{is_at}
use Rattle.std.specs.Map.{lookup}
use Rattle.std.specs.Ordering.{nat_cmp}
use Rattle.surveillance.specs.declared.numbered.Numbered.{Numbered}

-- nothing
abbrev pub no_number : {X : Type 0} → ℕ → Option X
no_number n = None

-- one more, in the place of what had its number
abbrev pub with_number : {X : Type 0} → (ℕ → Option X) → ℕ → X → ℕ → Option X
with_number f n x q = if q == n then Some x else f q

-- of the list where it has room for a number, and else of the map
abbrev pub numbered_at : {X : Type 0} → List (Option X) → List (ℕ × X) → ℕ → Option X
numbered_at near far n = if nat_lt n (length near) then get_or near n None else lookup (is_at (nat_cmp n)) far

abbrev pub held : {X : Type 0} → Numbered X → ℕ → Option X
held k = numbered_at k.near.items k.far.entries
