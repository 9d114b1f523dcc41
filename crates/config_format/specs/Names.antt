use Rattle.std.specs.Prelude.{ℕ, Bool, not, ◌&&◌, ◌==◌, nat_le, List, length}
use Rattle.std.specs.List.{list_all}

-- a byte of a name: from 33 to 126, the comma excluded
abbrev pub is_name_byte : ℕ → Bool
is_name_byte b = nat_le 33 b && (nat_le b 126 && not (b == 44))

-- 1 to 64 bytes
abbrev pub has_length_of_name : ℕ → Bool
has_length_of_name n = nat_le 1 n && nat_le n 64

-- a name, or the symbol of an instrument, has 1 to 64 such bytes
abbrev pub is_name : List ℕ → Bool
is_name bytes = has_length_of_name (length bytes) && list_all is_name_byte bytes
