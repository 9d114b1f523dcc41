-- Lists of parts.
use Rattle.std.specs.Prelude.{ℕ, zero, suc, ◌+◌, List, [], ◌∷◌, ◌++◌}
use Rattle.page_text.specs.Parts.{Part}

-- a part whose template has no place
abbrev pub plain_part : List ℕ → Part
plain_part template = record { template = template; values = [] }

-- the parts for some numbers, one after another, from the first on
abbrev pub each_from : (ℕ → List Part) → ℕ → ℕ → List Part
each_from f k zero = []
each_from f k (suc n) = f k ++ each_from f (k + 1) n

-- parts between a head and an end
abbrev pub framed : Part → List Part → Part → List Part
framed head parts end = head ∷ (parts ++ end ∷ [])
