-- A long list in folds: by the hour (UTC), where neighbors of the same hour stand together, or 200 to a fold.
use Rattle.std.specs.Prelude.{ℕ, ◌+◌, ◌-◌, ◌*◌, ◌/◌, ◌%◌, ◌==◌, Bool, true, false, List, [], ◌∷◌, ◌++◌, length, nat_le, take, drop, if◌then◌else◌}
use Rattle.page_text.specs.Parts.{Part}
use Rattle.day_tables.specs.Parts.{each_from, framed, plain_part}
use Rattle.day_tables.specs.Values.{grouped}
use Rattle.day_sections.specs.declared.folds.Fold.{Fold}
use Rattle.day_sections.specs.declared.template.TheConstants.{FOLD, FOLD_END}

-- By the hour.

-- the hour of a moment, counted from 1970
abbrev pub hour_of : ℕ → ℕ
hour_of moment = moment / 3600000

abbrev pub fold : ℕ → ℕ → Fold
fold from to = record { from = from; to = to }

-- what is of the same hour belongs to the fold; anything else ends it

abbrev pub ended : Bool → ℕ → ℕ → List Fold
ended true start k = []
ended false start k = fold start k ∷ []

abbrev pub start_after : Bool → ℕ → ℕ → ℕ
start_after true start k = start
start_after false start k = k

-- from the place `start` on all are of this hour, up to the place `k`; behind that stand the others
abbrev pub folds_from : ℕ → ℕ → ℕ → List ℕ → List Fold
folds_from start k hour [] = fold start k ∷ []
folds_from start k hour (h ∷ hs) = ended (h == hour) start k ++ folds_from (start_after (h == hour) start k) (k + 1) h hs

-- of the hours of some things
abbrev pub folds : List ℕ → List Fold
folds [] = []
folds (h ∷ hs) = folds_from 0 1 h hs

-- what stands in a fold
abbrev pub within : {X : Type 0} → Fold → List X → List X
within f xs = take (f.to - f.from) (drop f.from xs)

-- 200 to a fold: the fold with this number, from 0 on, and how many there are

abbrev pub of_200 : {X : Type 0} → ℕ → List X → List X
of_200 k xs = take 200 (drop (k * 200) xs)

abbrev pub folds_200 : ℕ → ℕ
folds_200 n = n / 200 + (if n % 200 == 0 then 0 else 1)

-- the head of a fold with this number of things: which of the list these are
abbrev pub fold_part : ℕ → ℕ → Part
fold_part k count = record { template = FOLD.now; values = grouped (k * 200 + 1) ∷ grouped (k * 200 + count) ∷ [] }

-- and its end
abbrev pub fold_end : Part
fold_end = plain_part FOLD_END.now

-- the most things that have their part in folds of 200
abbrev pub most_folded : ℕ
most_folded = 10000

-- a list in parts: up to 200 things whole, and else in folds
abbrev pub folded : {X : Type 0} → (List X → List Part) → List X → ℕ → List Part
folded table xs k = framed (fold_part k (length (of_200 k xs))) (table (of_200 k xs)) fold_end

abbrev pub whole_or_folded : {X : Type 0} → (List X → List Part) → List X → List Part
whole_or_folded table xs = if nat_le (length xs) 200 then table xs else each_from (folded table xs) 0 (folds_200 (length xs))
