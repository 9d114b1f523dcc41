-- The value of a piece of a body.
use Rattle.std.specs.Prelude.{ℕ, List, Bool, false, Option, Some, None, bytes_eq}
use Rattle.fix_pieces.specs.Pieces.{first_value}

abbrev pub is_value : List ℕ → Option (List ℕ) → Bool
is_value value None = false
is_value value (Some text) = bytes_eq text value

-- the first piece with this prefix has this value
abbrev pub is_piece : List ℕ → List ℕ → List ℕ → Bool
is_piece prefix value body = is_value value (first_value prefix body)
