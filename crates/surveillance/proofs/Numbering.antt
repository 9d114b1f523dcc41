-- What is kept by number, in a list and a map.
use Rattle.std.proofs.Common.{◌≡◌, ◌≢◌, ◌<◌, ◌≤◌, ◌==◌, ℕ, zero, suc, nat_lt, List, [], ◌∷◌, ◌++◌, length, get_or, set, Bool, true, false, cond, if◌then◌else◌, Option, Some, None, refl, sym, ap, ◌∙◌, arith, length-append}
use Rattle.std.specs.BTreeMap.{insert_entry, is_at}
use Rattle.std.specs.Map.{lookup}
use Rattle.std.specs.Ordering.{is_eq, nat_cmp}
use Rattle.std.proofs.Math.Seq.{get_or-append_seam}
use Rattle.std.proofs.lemmas.Bool.Decides.{nat_tests}
use Rattle.std.proofs.lemmas.Cmp.{nat_cmp_total}
use Rattle.std.proofs.lemmas.Grind.{get_or-set_at}
use Rattle.std.proofs.lemmas.List.{get_or_append_left, get_or-set_other, length-set}
use Rattle.surveillance.specs.Numbers.{numbered_at, with_number}
use Rattle.surveillance.proofs.Showing.{lookup_put}

-- one more place with nothing in it
pub padded : {X : Type 0} (xs : List (Option X)) (q : ℕ) → get_or (xs ++ None ∷ []) q None ≡ get_or xs q None
padded [] zero = refl
padded [] (suc q) = refl
padded (x ∷ xs) zero = refl
padded (x ∷ xs) (suc q) = padded xs q

past_end : {X : Type 0} (xs : List (Option X)) (q : ℕ) → length xs ≤ q → get_or xs q None ≡ None
past_end [] q h = refl
past_end (x ∷ xs) zero h = absurd (omega (arith, h))
past_end (x ∷ xs) (suc q) h = past_end xs q (omega (arith, h))

-- with nothing in the map
alone : {X : Type 0} (near : List (Option X)) (q : ℕ) → numbered_at near [] q ≡ get_or near q None
alone {X} near q = by (nat_lt q (length near)) refl
  where
    by : (t : Bool) → nat_lt q (length near) ≡ t → (if t then get_or near q None else None) ≡ get_or near q None
    by true e = refl
    by false e = sym (past_end near q (grind (arith, nat_tests)))

-- into the list
pub in_list : {X : Type 0} (near : List (Option X)) (far : List (ℕ × X)) (n : ℕ) (x : X) → n < length near → numbered_at (set near n (Some x)) far ≡ with_number (numbered_at near far) n x
in_list {X} near far n x low j q = by (q == n) refl j
  where
    by : (t : Bool) → (q == n) ≡ t → numbered_at (set near n (Some x)) far q ≡ (if t then Some x else numbered_at near far q)
    by true e =
        let same : q ≡ n = grind (arith, nat_tests) in
        let inside : nat_lt q (length (set near n (Some x))) ≡ true = grind (arith, nat_tests, length-set near n (Some x)) in
        ap (λ (t : Bool). if t then get_or (set near n (Some x)) q None else lookup (is_at (nat_cmp q)) far) inside ∙ get_or-set_at near n q (Some x) None same low
    by false e =
        let other : q ≢ n = grind (arith, nat_tests) in
        ap (λ (k : ℕ). if nat_lt q k then get_or (set near n (Some x)) q None else lookup (is_at (nat_cmp q)) far) (length-set near n (Some x))
        ∙ ap (λ (o : Option X). if nat_lt q (length near) then o else lookup (is_at (nat_cmp q)) far) (get_or-set_other near n q (Some x) None other)

-- behind the list, which was padded
pub at_end : {X : Type 0} (near more : List (Option X)) (n : ℕ) (x : X) → length near ≤ n → length more ≡ n → ((q : ℕ) → get_or more q None ≡ get_or near q None)
    → numbered_at (more ++ Some x ∷ []) [] ≡ with_number (numbered_at near []) n x
at_end {X} near more n x past is pads j q = (alone (more ++ Some x ∷ []) q ∙ by (q == n) refl) j
  where
    beyond : (t : Bool) → nat_lt q n ≡ t → (q == n) ≡ false → get_or (more ++ Some x ∷ []) q None ≡ numbered_at near [] q
    beyond true l e = get_or_append_left more (Some x ∷ []) None q (grind (arith, nat_tests)) ∙ (pads q ∙ sym (alone near q))
    beyond false l e =
        let out : length (more ++ Some x ∷ []) ≤ q = grind (arith, nat_tests, length-append more (Some x ∷ [])) in
        let was : length near ≤ q = grind (arith, nat_tests) in
        past_end (more ++ Some x ∷ []) q out ∙ sym (alone near q ∙ past_end near q was)

    by : (t : Bool) → (q == n) ≡ t → get_or (more ++ Some x ∷ []) q None ≡ (if t then Some x else numbered_at near [] q)
    by true e =
        let same : q ≡ length more = grind (arith, nat_tests) in
        ap (λ (k : ℕ). get_or (more ++ Some x ∷ []) k None) same ∙ get_or-append_seam more (Some x) [] None
    by false e = beyond (nat_lt q n) refl e

-- into the map
pub in_map : {X : Type 0} (near : List (Option X)) (far : List (ℕ × X)) (n : ℕ) (x : X) → length near ≤ n → numbered_at near (insert_entry nat_cmp far n x) ≡ with_number (numbered_at near far) n x
in_map {X} near far n x past j q = by (q == n) refl j
  where
    by : (t : Bool) → (q == n) ≡ t → numbered_at near (insert_entry nat_cmp far n x) q ≡ (if t then Some x else numbered_at near far q)
    by true e =
        let outside : nat_lt q (length near) ≡ false = grind (arith, nat_tests) in
        let equal : is_eq (nat_cmp q n) ≡ true = grind (arith, nat_tests) in
        ap (λ (t : Bool). if t then get_or near q None else lookup (is_at (nat_cmp q)) (insert_entry nat_cmp far n x)) outside
        ∙ (lookup_put nat_cmp_total far n x q ∙ ap (λ (t : Bool). cond t (Some x) (lookup (is_at (nat_cmp q)) far)) equal)
    by false e =
        let other : is_eq (nat_cmp q n) ≡ false = grind (arith, nat_tests) in
        ap (λ (o : Option X). if nat_lt q (length near) then get_or near q None else o)
        (lookup_put nat_cmp_total far n x q ∙ ap (λ (t : Bool). cond t (Some x) (lookup (is_at (nat_cmp q)) far)) other)

pub no_entry : {X : Type 0} (far : List (ℕ × X)) → length far ≡ 0 → far ≡ []
no_entry [] h = refl
no_entry (e ∷ es) h = absurd (omega (arith, h))
