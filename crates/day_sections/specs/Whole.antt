-- Folds leave nothing out, and by the hour each is of one hour.
use Rattle.std.specs.Prelude.{◌≡◌, ◌≤◌, ℕ, List, All, length}
use Rattle.std.specs.List.{flat_map, range_with_len}
use Rattle.day_sections.specs.Folds.{folds, folds_200, of_200, within}

-- what stands in the folds by the hour, one after another, is the whole list, in its order: also of a list that ends
-- earlier than the hours, as the trades that are listed end earlier than all trades
abbrev pub HoursAreWhole : Type 0 → Type 0
HoursAreWhole X = (xs : List X) (hours : List ℕ) → length xs ≤ length hours → flat_map (λ f. within f xs) (folds hours) ≡ xs

-- all that stands in one of these folds is of the same hour
abbrev pub FoldsAreOfOneHour : Type 0
FoldsAreOfOneHour = (hours : List ℕ) → All (λ f. (hour : ℕ) × All (λ h. h ≡ hour) (within f hours)) (folds hours)

-- folds of 200, one after another, are the whole list too
abbrev pub FoldsAreWhole : Type 0 → Type 0
FoldsAreWhole X = (xs : List X) → flat_map (λ k. of_200 k xs) (range_with_len 0 (folds_200 (length xs))) ≡ xs
