-- The value of a piece of a body.
use Rattle.std.specs.Prelude.{ℕ, List, [], Option, Some, None}
use Rattle.fix_pieces.specs.Pieces.{first_value}

abbrev pub or_nothing : Option (List ℕ) → List ℕ
or_nothing None = []
or_nothing (Some value) = value

abbrev pub value_in : List ℕ → List ℕ → List ℕ
value_in prefix body = or_nothing (first_value prefix body)
