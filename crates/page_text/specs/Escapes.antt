-- How a byte of a value is escaped: the five bytes that HTML reads by their character references, and each that is not
-- printable as a numeric reference, so that a page is ASCII whatever its values are.
use Rattle.std.specs.Prelude.{ℕ, ◌+◌, ◌/◌, ◌%◌, List, [], ◌∷◌, Bool, ◌==◌, ◌&&◌, not, nat_lt, nat_le, codes, if◌then◌else◌}
use Rattle.std.specs.List.{flat_map}

-- from the blank to the tilde
abbrev pub is_printable : ℕ → Bool
is_printable b = nat_le 32 b && nat_le b 126

-- a hexadecimal digit
abbrev pub digit : ℕ → ℕ
digit n = if nat_lt n 10 then 48 + n else 87 + n

-- &#x1f;
abbrev pub numeric : ℕ → List ℕ
numeric b = 38 ∷ 35 ∷ 120 ∷ digit (b / 16) ∷ digit (b % 16) ∷ 59 ∷ []

abbrev pub escaped : ℕ → List ℕ
escaped b = if b == 38 then codes "&amp;" else (if b == 60 then codes "&lt;" else (if b == 62 then codes "&gt;" else (
    if b == 34 then codes "&quot;" else (if b == 39 then codes "&#39;" else (if is_printable b then b ∷ [] else numeric b)))))

-- a value as the page has it
abbrev pub escaped_all : List ℕ → List ℕ
escaped_all v = flat_map escaped v

-- neither `<` nor `>` nor `"`: such a byte ends nothing and begins nothing, in the text or in a quoted value
abbrev pub is_inert : ℕ → Bool
is_inert b = not (b == 60) && (not (b == 62) && not (b == 34))
