-- A sentence as parts.
use Rattle.std.specs.Prelude.{ℕ, List, [], ◌∷◌, ◌++◌, decimal}
use Rattle.std.specs.List.{flat_map}
use Rattle.frame_explanation.specs.declared.parts.Part.{Part}
use Rattle.frame_explanation.specs.declared.parts.Part.TheVariants.{Bytes, Number}

abbrev pub shown : Part → List ℕ
shown (Bytes bytes) = bytes.now
shown (Number number) = decimal number

abbrev pub all_shown : List Part → List ℕ
all_shown parts = flat_map shown parts

-- texts, one behind the other
abbrev pub joined : List (List ℕ) → List ℕ
joined [] = []
joined (t ∷ ts) = t ++ joined ts
