use Rattle.std.proofs.Common.{◌≡◌, refl, sym, ℕ, Bool, true, false, ◌&&◌, nat_le, nat_lt, List, [], ◌∷◌, length, arith}
use Rattle.std.specs.List.{list_all}
use Rattle.std.proofs.lemmas.Bool.{true≢false, and_parts}
use Rattle.std.proofs.lemmas.Bool.Decides.{nat_tests}
use Rattle.fix_dictionary.specs.Values.{IsText, is_printable}
use Rattle.participants.specs.Names.{has_length_of_name, is_name, is_name_byte}
use Rattle.instruments.specs.Symbols.{is_symbol}

-- Names and symbols are identifiers.

and_both : (a b : Bool) → a ≡ true → b ≡ true → (a && b) ≡ true
and_both true b h k = k
and_both false b h k = absurd (true≢false (sym h))

all-weaker : (p q : ℕ → Bool) → ((c : ℕ) → p c ≡ true → q c ≡ true) → (cs : List ℕ) → list_all p cs ≡ true → list_all q cs ≡ true
all-weaker p q w [] h = refl
all-weaker p q w (c ∷ cs) h = let both = and_parts (p c) (list_all p cs) h in and_both (q c) (list_all q cs) (w c both.0) (all-weaker p q w cs both.1)

byte-printable : (c : ℕ) → is_name_byte c ≡ true → is_printable c ≡ true
byte-printable c h = grind (arith, nat_tests)

pub name-IsText : (bytes : List ℕ) → is_name bytes ≡ true → IsText 64 bytes
name-IsText bytes h =
    let parts = and_parts (has_length_of_name (length bytes)) (list_all is_name_byte bytes) h in
    let long = and_parts (nat_le 1 (length bytes)) (nat_le (length bytes) 64) parts.0 in
    let printable = all-weaker is_name_byte is_printable byte-printable bytes parts.1 in
    let positive : nat_lt 0 (length bytes) ≡ true = grind (arith, nat_tests) in
    and_both (nat_lt 0 (length bytes)) (nat_le (length bytes) 64 && list_all is_printable bytes) positive (and_both (nat_le (length bytes) 64) (list_all is_printable bytes) long.1 printable)

pub symbol-IsText : (bytes : List ℕ) → is_symbol bytes ≡ true → IsText 64 bytes
symbol-IsText bytes h = name-IsText bytes h
