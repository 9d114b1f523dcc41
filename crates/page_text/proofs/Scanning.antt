-- How a text is scanned piece by piece, and that an escaped value changes no spot and adds nothing to the tags.
use Rattle.std.specs.Prelude.{◌≡◌, ℕ, ◌/◌, ◌%◌, List, [], ◌∷◌, ◌++◌, Bool, true, false, ◌==◌, ◌&&◌, not, codes, if◌then◌else◌, refl}
use Rattle.std.specs.List.{list_all}
use Rattle.std.proofs.Common.{sym, ◌∙◌, ap, append_assoc, arith}
use Rattle.std.proofs.lemmas.Bool.Decides.{nat_tests}
use Rattle.page_text.specs.declared.spot.Spot.{Spot}
use Rattle.page_text.specs.declared.spot.Spot.TheVariants.{Text, Quoted}
use Rattle.page_text.specs.Spots.{after, of_tag, step, tags}
use Rattle.page_text.specs.Escapes.{digit, escaped, escaped_all, is_inert, is_printable, numeric}

pub after-append : (s : Spot) (xs ys : List ℕ) → after s (xs ++ ys) ≡ after (after s xs) ys
after-append s [] ys = refl
after-append s (x ∷ xs) ys = after-append (step s x) xs ys

pub tags-append : (s : Spot) (xs ys : List ℕ) → tags s (xs ++ ys) ≡ tags s xs ++ tags (after s xs) ys
tags-append s [] ys = refl
tags-append s (x ∷ xs) ys = ap (λ l. of_tag s x ++ l) (tags-append (step s x) xs ys) ∙ sym (append_assoc (of_tag s x) (tags (step s x) xs) (tags (after (step s x) xs) ys))

not_first : (x y : Bool) → (not x && y) ≡ true → x ≡ false
not_first true y h = cc
not_first false y h = refl

second : (x y : Bool) → (x && y) ≡ true → y ≡ true
second true y h = h
second false y h = cc

first : (x y : Bool) → (x && y) ≡ true → x ≡ true
first true y h = refl
first false y h = cc

negated : (x : Bool) → not x ≡ true → x ≡ false
negated true h = cc
negated false h = refl

-- a text that moves nothing and adds nothing
pub record IsQuiet (s : Spot) (xs : List ℕ) : Type 0 where
  pub stays : after s xs ≡ s
  pub adds : tags s xs ≡ []

quiet_text : (b : ℕ) (xs : List ℕ) (is : Bool) → (b == 60) ≡ is → is ≡ false → IsQuiet Text xs → IsQuiet Text (b ∷ xs)
quiet_text b xs is e f q = let g : (b == 60) ≡ false = e ∙ f in record { stays = rw g q.stays; adds = rw g q.adds }

quiet_quoted : (b : ℕ) (xs : List ℕ) → (b == 34) ≡ false → IsQuiet Quoted xs → IsQuiet Quoted (b ∷ xs)
quiet_quoted b xs g q = record { stays = rw g q.stays; adds = rw g q.adds }

-- whatever is inert is quiet between tags and in quotes
pub quiet_inert_text : (xs : List ℕ) → list_all is_inert xs ≡ true → IsQuiet Text xs
quiet_inert_text [] h = record { stays = refl; adds = refl }
quiet_inert_text (x ∷ xs) h =
    let here : is_inert x ≡ true = first (is_inert x) (list_all is_inert xs) h in
    quiet_text x xs (x == 60) refl (not_first (x == 60) (not (x == 62) && not (x == 34)) here) (quiet_inert_text xs (second (is_inert x) (list_all is_inert xs) h))

pub quiet_inert_quoted : (xs : List ℕ) → list_all is_inert xs ≡ true → IsQuiet Quoted xs
quiet_inert_quoted [] h = record { stays = refl; adds = refl }
quiet_inert_quoted (x ∷ xs) h =
    let here : is_inert x ≡ true = first (is_inert x) (list_all is_inert xs) h in
    let rest : (not (x == 62) && not (x == 34)) ≡ true = second (not (x == 60)) (not (x == 62) && not (x == 34)) here in
    let last : not (x == 34) ≡ true = second (not (x == 62)) (not (x == 34)) rest in
    quiet_quoted x xs (negated (x == 34) last) (quiet_inert_quoted xs (second (is_inert x) (list_all is_inert xs) h))

-- a hexadecimal digit is inert
digit_inert : (n : ℕ) → is_inert (digit n) ≡ true
digit_inert n = grind (arith, nat_tests)

escaped_cases : (b : ℕ) (e38 e60 e62 e34 e39 p : Bool) → (b == 60) ≡ e60 → (b == 62) ≡ e62 → (b == 34) ≡ e34
    → list_all is_inert (if e38 then codes "&amp;" else (if e60 then codes "&lt;" else (if e62 then codes "&gt;" else (if e34 then codes "&quot;" else (if e39 then codes "&#39;" else (if p then b ∷ [] else numeric b)))))) ≡ true
escaped_cases b true e60 e62 e34 e39 p h60 h62 h34 = refl
escaped_cases b false true e62 e34 e39 p h60 h62 h34 = refl
escaped_cases b false false true e34 e39 p h60 h62 h34 = refl
escaped_cases b false false false true e39 p h60 h62 h34 = refl
escaped_cases b false false false false true p h60 h62 h34 = refl
escaped_cases b false false false false false true h60 h62 h34 = rw (h60, h62, h34) refl
escaped_cases b false false false false false false h60 h62 h34 = rw (digit_inert (b / 16), digit_inert (b % 16)) refl

-- an escaped byte is inert
pub escaped_inert : (b : ℕ) → list_all is_inert (escaped b) ≡ true
escaped_inert b = escaped_cases b (b == 38) (b == 60) (b == 62) (b == 34) (b == 39) (is_printable b) refl refl refl

all_append : (xs ys : List ℕ) → list_all is_inert xs ≡ true → list_all is_inert ys ≡ true → list_all is_inert (xs ++ ys) ≡ true
all_append [] ys h k = k
all_append (x ∷ xs) ys h k =
    rw (first (is_inert x) (list_all is_inert xs) h) (all_append xs ys (second (is_inert x) (list_all is_inert xs) h) k)

-- and so is a value
pub value_inert : (v : List ℕ) → list_all is_inert (escaped_all v) ≡ true
value_inert [] = refl
value_inert (b ∷ v) = all_append (escaped b) (escaped_all v) (escaped_inert b) (value_inert v)
