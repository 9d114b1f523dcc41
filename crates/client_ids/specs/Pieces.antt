use Rattle.std.specs.Prelude.{ℕ, List, [], ◌∷◌}
use Rattle.std.specs.Hash.{HashWrites}

-- the bytes in fours, and the rest
abbrev pub pieces : List ℕ → HashWrites
pieces [] = [] ∷ []
pieces (a ∷ []) = (a ∷ []) ∷ []
pieces (a ∷ b ∷ []) = (a ∷ b ∷ []) ∷ []
pieces (a ∷ b ∷ c ∷ []) = (a ∷ b ∷ c ∷ []) ∷ []
pieces (a ∷ b ∷ c ∷ d ∷ bs) = (a ∷ b ∷ c ∷ d ∷ []) ∷ pieces bs
