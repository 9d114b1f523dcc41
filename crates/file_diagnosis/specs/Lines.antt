-- The lines of a text.
use Rattle.std.specs.Prelude.{ℕ, ◌==◌, Bool}

-- the byte ends a line
abbrev pub is_end : ℕ → Bool
is_end byte = byte == 10
