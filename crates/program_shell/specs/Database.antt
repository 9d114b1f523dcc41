-- The first bytes of a trail's file.
use Rattle.std.specs.Prelude.{ℕ, ◌==◌, ◌||◌, Bool, true, List, [], ◌∷◌, bytes_eq, codes}

-- no bytes; a byte 0, as the store leaves a file that it did not finish; or the first bytes of an SQLite database, with
-- a byte 0 at the end
abbrev pub may_begin : List ℕ → Bool
may_begin [] = true
may_begin (b ∷ bs) = b == 0 || bytes_eq (b ∷ bs) (codes "SQLite format 3\0")
