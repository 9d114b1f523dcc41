-- How the text of a value is read: as the HTML standard reads character references, of the six forms that are written,
-- for bytes 32 to 126, which all values are.
use Rattle.std.specs.Prelude.{ℕ, ◌+◌, ◌*◌, ◌-◌, List, [], ◌∷◌, ◌++◌, ◌==◌, bytes_eq, nat_lt, codes, if◌then◌else◌}

-- between references, or within one, behind its `&`
pub data Decoding : Type 0 where
  Plain : Decoding
  Reference : List ℕ → Decoding

-- the number of a hexadecimal digit
abbrev pub digit_value : ℕ → ℕ
digit_value d = if nat_lt d 58 then d - 48 else d - 87

-- the byte of a numeric reference: behind #x stand two digits
abbrev pub numbered : List ℕ → List ℕ
numbered (sign ∷ base ∷ high ∷ low ∷ []) = (digit_value high * 16 + digit_value low) ∷ []
numbered _ = []

-- the byte of a reference
abbrev pub referenced : List ℕ → List ℕ
referenced name = if bytes_eq name (codes "amp") then 38 ∷ [] else (if bytes_eq name (codes "lt") then 60 ∷ [] else (if bytes_eq name (codes "gt") then 62 ∷ [] else (
    if bytes_eq name (codes "quot") then 34 ∷ [] else (if bytes_eq name (codes "#39") then 39 ∷ [] else numbered name))))

-- what stands behind a byte of the text: `&` begins a reference, `;` ends it
abbrev pub decoding : Decoding → ℕ → Decoding
decoding Plain b = if b == 38 then Reference [] else Plain
decoding (Reference name) b = if b == 59 then Plain else Reference (name ++ b ∷ [])

-- what a byte of the text adds
abbrev pub decoded : Decoding → ℕ → List ℕ
decoded Plain b = if b == 38 then [] else b ∷ []
decoded (Reference name) b = if b == 59 then referenced name else []

-- the value that a text shows
abbrev pub read_back : Decoding → List ℕ → List ℕ
read_back d [] = []
read_back d (b ∷ bs) = decoded d b ++ read_back (decoding d b) bs
