use Rattle.std.proofs.Common.{◌≡◌, refl, sym, ap, ◌∙◌, ℕ, ◌+◌, ◌<◌, Bool, true, false, not, ◌&&◌, ◌||◌, List, [], ◌∷◌, ◌++◌, map, take, drop, length, get_or}
use Rattle.std.specs.List.{list_any, list_all}
use Rattle.std.proofs.lemmas.List.{drop_more, take_more, map-append}
use Rattle.std.proofs.lemmas.List.Folds.{list_all_at, list_all-map}
use Rattle.std.proofs.lemmas.Bool.{true≢false}
use Rattle.toml.specs.Data.{Data}
use Rattle.toml.specs.View.{view}
use Rattle.toml.specs.declared.value.Value.{Value}
use Rattle.config_format.specs.Rows.{are_distinct_by}

-- Searches through lists.

list_any-map : {X Y : Type 0} (p : Y → Bool) (f : X → Y) (xs : List X) → list_any p (map f xs) ≡ list_any (λ x. p (f x)) xs
list_any-map p f [] = refl
list_any-map p f (x ∷ xs) = ap (λ b. p (f x) || b) (list_any-map p f xs)

-- a test of the values of a list, over their models
pub any-seen : (p : Data → Bool) (vs : List Value) (ds : List Data) → map view vs ≡ ds → list_any (λ v. p (view v)) vs ≡ list_any p ds
any-seen p vs ds h = sym (list_any-map p view vs) ∙ ap (list_any p) h

-- another element of a mapped list
pub map-more : {X Y : Type 0} (f : X → Y) (xs : List X) (i : ℕ) (x : X) → x ≡ get_or xs i x → i < length xs → map f (take (i + 1) xs) ≡ map f (take i xs) ++ (f x ∷ [])
map-more f xs i x at within = ap (map f) (take_more xs i x within) ∙ (map-append f (take i xs) (get_or xs i x ∷ []) ∙ ap (λ y. map f (take i xs) ++ (f y ∷ [])) (sym at))

-- another value pushed after the first ones
pub pushed-more : {X Y : Type 0} (f : X → Y) (xs : List X) (i : ℕ) (x : X) (so_far new : List Y) (y : Y) → so_far ≡ map f (take i xs) → new ≡ so_far ++ (y ∷ []) → y ≡ f x → x ≡ get_or xs i x → i < length xs → new ≡ map f (take (i + 1) xs)
pushed-more f xs i x so_far new y before more is at within = more ∙ ap (λ l. l ++ (y ∷ [])) before ∙ ap (λ z. map f (take i xs) ++ (z ∷ [])) is ∙ sym (map-more f xs i x at within)

-- a member passes a test that all pass
pub all-at : {X : Type 0} (p : X → Bool) (xs : List X) (i : ℕ) (x : X) → list_all p xs ≡ true → x ≡ get_or xs i x → i < length xs → p x ≡ true
all-at p xs i x all at within = by (p x) refl
  where
    by : (b : Bool) → p x ≡ b → p x ≡ true
    by true e = e
    by false e = absurd (true≢false (sym all ∙ list_all_at p xs i x within (ap p (sym at) ∙ e)))

rest : {X : Type 0} (xs : List X) (i : ℕ) (x : X) → x ≡ get_or xs i x → i < length xs → drop i xs ≡ x ∷ drop (i + 1) xs
rest xs i x at within = drop_more xs i x within ∙ ap (λ y. y ∷ drop (i + 1) xs) (sym at)

-- a member that occurs again later
pub distinct-found : {X : Type 0} (same : X → X → Bool) (xs : List X) (i : ℕ) (x : X) → x ≡ get_or xs i x → i < length xs → list_any (same x) (drop (i + 1) xs) ≡ true → are_distinct_by same (drop i xs) ≡ false
distinct-found same xs i x at within again = ap (are_distinct_by same) (rest xs i x at within) ∙ ap (λ b. not b && are_distinct_by same (drop (i + 1) xs)) again

-- a member that does not
pub distinct-passed : {X : Type 0} (same : X → X → Bool) (xs : List X) (i : ℕ) (x : X) → x ≡ get_or xs i x → i < length xs → list_any (same x) (drop (i + 1) xs) ≡ false → are_distinct_by same (drop i xs) ≡ are_distinct_by same (drop (i + 1) xs)
distinct-passed same xs i x at within once = ap (are_distinct_by same) (rest xs i x at within) ∙ ap (λ b. not b && are_distinct_by same (drop (i + 1) xs)) once

pub all-seen : (p : Data → Bool) (vs : List Value) (ds : List Data) → map view vs ≡ ds → list_all p ds ≡ true → list_all (λ v. p (view v)) vs ≡ true
all-seen p vs ds h all = sym (list_all-map p view vs) ∙ (ap (list_all p) h ∙ all)

map-map : {X Y Z : Type 0} (f : Y → Z) (g : X → Y) (xs : List X) → map (λ x. f (g x)) xs ≡ map f (map g xs)
map-map f g [] = refl
map-map f g (x ∷ xs) = ap (λ ys. f (g x) ∷ ys) (map-map f g xs)

pub map-seen : {Z : Type 0} (f : Data → Z) (vs : List Value) (ds : List Data) → map view vs ≡ ds → map (λ v. f (view v)) vs ≡ map f ds
map-seen f vs ds h = map-map f view vs ∙ ap (map f) h
