use Rattle.std.specs.Prelude.{ℕ, ◌/◌, ◌%◌, Bool, List, map}
use Rattle.std.specs.List.{range_with_len}
use Rattle.participants.specs.Relations.{is_related}

-- the relations of 32 participants as a table: whether a and b are related is at index 32 a + b
abbrev pub related_table : List (ℕ × ℕ) → List Bool
related_table pairs = map (λ k. is_related pairs (k / 32) (k % 32)) (range_with_len 0 1024)
