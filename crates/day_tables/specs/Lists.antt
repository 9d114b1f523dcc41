-- Lists that are made one thing after another.
use Rattle.std.specs.Prelude.{Bool, true, false, List, [], ◌∷◌}

-- a list of one thing, if it is kept
abbrev pub kept_if : {X : Type 0} → Bool → X → List X
kept_if true x = x ∷ []
kept_if false x = []
