use Rattle.std.proofs.Common.{◌≡◌, ◌⊎◌, ◌||◌, refl, Bool, true, false, inl, inr, ℕ, List, length, codes}
use Rattle.std.specs.Str.{bytes_eq}
use Rattle.fix_validation.specs.Tables.{rows_of}
use Rattle.fix_dictionary.specs.Kinds.{type_of}
use Rattle.data_dictionary.specs.Laws.{codes_stated, is_among}
use Rattle.data_dictionary.specs.MessageTypes.{application_types, session_types}
use Rattle.data_dictionary.proofs.laws.each_table_is_stated.Goals as goal

either : (b : Bool) → (b ≡ true) ⊎ (b ≡ false)
either true = inl refl
either false = inr refl

first : (a b : Bool) → (a || b) ≡ false → a ≡ false
first true b e = e
first false b e = refl

second : (a b : Bool) → (a || b) ≡ false → b ≡ false
second true b e = absurd (cc)
second false b e = e

-- none of the types is it, test by test
no_rows : (kind : List ℕ) (begin : ℕ) → is_among kind codes_stated ≡ false → length (rows_of (type_of kind) begin) ≡ 0
unfolding session_types application_types
no_rows kind begin e0 =
    let e1 = second _ _ e0 in
    let e2 = second _ _ e1 in
    let e3 = second _ _ e2 in
    let e4 = second _ _ e3 in
    let e5 = second _ _ e4 in
    let e6 = second _ _ e5 in
    let e7 = second _ _ e6 in
    let e8 = second _ _ e7 in
    let e9 = second _ _ e8 in
    let e10 = second _ _ e9 in
    let e11 = second _ _ e10 in
    let e12 = second _ _ e11 in
    let e13 = second _ _ e12 in
    let e14 = second _ _ e13 in
    let e15 = second _ _ e14 in
    let e16 = second _ _ e15 in
    let e17 = second _ _ e16 in
    let e18 = second _ _ e17 in
    let e19 = second _ _ e18 in
    let e20 = second _ _ e19 in
    let e21 = second _ _ e20 in
    let e22 = second _ _ e21 in
    let n0 : bytes_eq kind (codes "0") ≡ false = first _ _ e0 in
    let n1 : bytes_eq kind (codes "1") ≡ false = first _ _ e1 in
    let n2 : bytes_eq kind (codes "2") ≡ false = first _ _ e2 in
    let n3 : bytes_eq kind (codes "3") ≡ false = first _ _ e3 in
    let n4 : bytes_eq kind (codes "4") ≡ false = first _ _ e4 in
    let n5 : bytes_eq kind (codes "5") ≡ false = first _ _ e5 in
    let n6 : bytes_eq kind (codes "A") ≡ false = first _ _ e6 in
    let n7 : bytes_eq kind (codes "R") ≡ false = first _ _ e7 in
    let n8 : bytes_eq kind (codes "S") ≡ false = first _ _ e8 in
    let n9 : bytes_eq kind (codes "Z") ≡ false = first _ _ e9 in
    let n10 : bytes_eq kind (codes "AJ") ≡ false = first _ _ e10 in
    let n11 : bytes_eq kind (codes "AI") ≡ false = first _ _ e11 in
    let n12 : bytes_eq kind (codes "AG") ≡ false = first _ _ e12 in
    let n13 : bytes_eq kind (codes "D") ≡ false = first _ _ e13 in
    let n14 : bytes_eq kind (codes "F") ≡ false = first _ _ e14 in
    let n15 : bytes_eq kind (codes "G") ≡ false = first _ _ e15 in
    let n16 : bytes_eq kind (codes "s") ≡ false = first _ _ e16 in
    let n17 : bytes_eq kind (codes "8") ≡ false = first _ _ e17 in
    let n18 : bytes_eq kind (codes "9") ≡ false = first _ _ e18 in
    let n19 : bytes_eq kind (codes "V") ≡ false = first _ _ e19 in
    let n20 : bytes_eq kind (codes "W") ≡ false = first _ _ e20 in
    let n21 : bytes_eq kind (codes "Y") ≡ false = first _ _ e21 in
    let n22 : bytes_eq kind (codes "j") ≡ false = first _ _ e22 in
    rw n0 (
    rw n1 (
    rw n2 (
    rw n3 (
    rw n4 (
    rw n5 (
    rw n6 (
    rw n7 (
    rw n8 (
    rw n9 (
    rw n10 (
    rw n11 (
    rw n12 (
    rw n13 (
    rw n14 (
    rw n15 (
    rw n16 (
    rw n17 (
    rw n18 (
    rw n19 (
    rw n20 (
    rw n21 (
    rw n22 (
    refl)))))))))))))))))))))))

pub returns : goal.returns
unfolding session_types application_types
returns c = (λ kind begin. elim (either (is_among kind codes_stated)) [ inl e ↦ inl e | inr e ↦ inr (no_rows kind begin e) ], refl)
