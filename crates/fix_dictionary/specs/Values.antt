-- The values that fields may have, as tests on bytes.
use Rattle.std.specs.Prelude.{◌≡◌, ℕ, ◌≤◌, ℤ, unsigned_abs, ◌==◌, Bool, true, false, ◌&&◌, ◌||◌, nat_lt, nat_le, List, [], ◌∷◌, ◌++◌, ◌-◌, length, replicate}
use Rattle.std.specs.List.{list_all}
pub use Rattle.fix_fields.specs.Forms.{is_printable, is_graphic}

-- one or more printable bytes, at most this many
abbrev pub is_text : ℕ → List ℕ → Bool
is_text longest bytes = nat_lt 0 (length bytes) && (nat_le (length bytes) longest && list_all is_printable bytes)

-- one printable byte other than a space
abbrev pub is_character : List ℕ → Bool
is_character [] = false
is_character (c ∷ []) = is_graphic c
is_character (c ∷ d ∷ more) = false

-- one byte, one of the two
abbrev pub is_either : ℕ → ℕ → List ℕ → Bool
is_either a b [] = false
is_either a b (c ∷ []) = (c == a) || (c == b)
is_either a b (c ∷ d ∷ more) = false

-- the bytes, padded with 0 up to 64
abbrev pub zero_padded : List ℕ → List ℕ
zero_padded bytes = bytes ++ replicate (64 - length bytes) 0

abbrev pub IsText : ℕ → List ℕ → Type 0
IsText longest bytes = is_text longest bytes ≡ true

-- a number of millionths, at most 10^18 to either side
abbrev pub IsPrice : ℤ → Type 0
IsPrice p = unsigned_abs p ≤ 1_000_000_000_000_000_000

abbrev pub IsQuantity : ℕ → Type 0
IsQuantity q = (1 ≤ q) × (q ≤ 1_000_000_000_000_000)

-- the leaves quantity, or the filled quantity
abbrev pub IsAmount : ℕ → Type 0
IsAmount n = n ≤ 1_000_000_000_000_000

abbrev pub IsNumber : ℕ → ℕ → ℕ → Type 0
IsNumber low high n = (low ≤ n) × (n ≤ high)

-- any integer from 0 to 999,999,999
abbrev pub IsFixInt : ℕ → Type 0
IsFixInt n = IsNumber 0 999_999_999 n

-- the number of a message
abbrev pub IsSequenceNumber : ℕ → Type 0
IsSequenceNumber n = IsNumber 1 999_999_999 n

-- the number after some message
abbrev pub IsNewSequenceNumber : ℕ → Type 0
IsNewSequenceNumber n = IsNumber 1 1_000_000_000 n

-- seconds between heartbeats
abbrev pub IsInterval : ℕ → Type 0
IsInterval n = IsNumber 0 3600 n

-- the number of instances of a group; a group of parties may be absent
abbrev pub FitsParties : ℕ → Type 0
FitsParties n = n ≤ 64

abbrev pub FitsEntryTypes : ℕ → Type 0
FitsEntryTypes n = IsNumber 1 64 n

abbrev pub FitsEntries : ℕ → Type 0
FitsEntries n = IsNumber 1 400 n

-- the numbers of a resend request: from one, to another or to the last
pub record Resend : Type 0 where
  pub begin : ℕ
  pub end : ℕ

-- the other is 0, for the last, or not below the one
abbrev pub ends : ℕ → ℕ → Bool
ends begin end = (end == 0) || nat_le begin end

abbrev pub IsResend : ℕ → ℕ → Type 0
IsResend begin end = ends begin end ≡ true
