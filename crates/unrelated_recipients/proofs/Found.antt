-- Three unrelated recipients are found if and only if there are.
use Rattle.std.specs.Prelude.{◌≡◌, ℕ, suc, ◌+◌, ◌<◌, Bool, true, false, ◌||◌, List, [], ◌∷◌, Contains, cond, drop, is_some, length, Option, Some, None, IfSome, refl}
use Rattle.std.specs.List.{find, flat_map, list_any}
use Rattle.std.specs.Option.{option_or}
use Rattle.std.proofs.Common.{sym, ◌∙◌, ap, arith, get_or}
use Rattle.std.proofs.lemmas.List.{at_drop_more}
use Rattle.std.proofs.lemmas.List.Folds.{find-append}
use Rattle.participants.specs.ParticipantFile.{ParticipantFile}
use Rattle.participants.specs.Relations.{are_unrelated}
use Rattle.unrelated_recipients.specs.declared.threes.Three.{Three}
use Rattle.unrelated_recipients.specs.Threes.{AreUnrelated, FoundAreUnrelated, ThreeAreFound, is_unrelated, threes_of_one, threes_of_two}

-- a search of what each of a list has, one after the other

pub found_here : {X Y : Type 0} (p : Y → Bool) (f : X → List Y) (xs : List X) (i : ℕ) (x : X) (r : Option Y) (y : Y) (whole : Option Y) → i < length xs → x ≡ get_or xs i x → r ≡ find p (f x) → r ≡ Some y
    → find p (flat_map f (drop i xs)) ≡ whole → Some y ≡ whole
found_here {X} {Y} p f xs i x r y whole below is e s h =
    let F : List X → Option Y = λ ys. find p (flat_map f ys) in
    let rest : List X = drop (i + 1) xs in
    ap (λ (o : Option Y). option_or o (find p (flat_map f rest))) (sym s ∙ e)
    ∙ (sym (find-append p (f x) (flat_map f rest))
    ∙ (ap (λ (z : X). F (z ∷ rest)) is
    ∙ (sym (at_drop_more F xs i x below) ∙ h)))

pub found_later : {X Y : Type 0} (p : Y → Bool) (f : X → List Y) (xs : List X) (i : ℕ) (x : X) (r whole : Option Y) → i < length xs → x ≡ get_or xs i x → r ≡ find p (f x) → r ≡ None
    → find p (flat_map f (drop i xs)) ≡ whole → find p (flat_map f (drop (i + 1) xs)) ≡ whole
found_later {X} {Y} p f xs i x r whole below is e s h =
    let F : List X → Option Y = λ ys. find p (flat_map f ys) in
    let rest : List X = drop (i + 1) xs in
    ap (λ (o : Option Y). option_or o (find p (flat_map f rest))) (sym s ∙ e)
    ∙ (sym (find-append p (f x) (flat_map f rest))
    ∙ (ap (λ (z : X). F (z ∷ rest)) is
    ∙ (sym (at_drop_more F xs i x below) ∙ h)))

-- whether anything is found

some_or : {X : Type 0} (a b : Option X) → is_some (option_or a b) ≡ (is_some a || is_some b)
some_or None b = refl
some_or (Some x) b = refl

any_more : (a b c d : Bool) → a ≡ b → c ≡ d → (a || c) ≡ (b || d)
any_more a b c d h k = rw (h, k) refl

found_in_each : {X Y : Type 0} (p : Y → Bool) (f : X → List Y) (g : X → Bool) → ((x : X) → is_some (find p (f x)) ≡ g x) → (xs : List X) → is_some (find p (flat_map f xs)) ≡ list_any g xs
found_in_each p f g each [] = refl
found_in_each p f g each (x ∷ xs) =
    ap is_some (find-append p (f x) (flat_map f xs))
    ∙ (some_or (find p (f x)) (find p (flat_map f xs))
    ∙ any_more (is_some (find p (f x))) (g x) (is_some (find p (flat_map f xs))) (list_any g xs) (each x) (found_in_each p f g each xs))

found_of_two : (file : ParticipantFile) (q a b : ℕ) (rs : List ℕ) → is_some (find (is_unrelated file q) (threes_of_two a b rs)) ≡ list_any (λ c. are_unrelated file q a b c) rs
found_of_two file q a b [] = refl
found_of_two file q a b (c ∷ rs) = by (are_unrelated file q a b c) (found_of_two file q a b rs)
  where
    by : (is : Bool) → is_some (find (is_unrelated file q) (threes_of_two a b rs)) ≡ list_any (λ d. are_unrelated file q a b d) rs
        → is_some (cond is (Some (record { first = a; second = b; third = c })) (find (is_unrelated file q) (threes_of_two a b rs))) ≡ (is || list_any (λ d. are_unrelated file q a b d) rs)
    by true h = refl
    by false h = h

pub three_are_found : ThreeAreFound
three_are_found file q rs =
    found_in_each (is_unrelated file q) (λ a. threes_of_one a rs) (λ a. list_any (λ b. list_any (λ c. are_unrelated file q a b c) rs) rs)
    (λ a. found_in_each (is_unrelated file q) (λ b. threes_of_two a b rs) (λ b. list_any (λ c. are_unrelated file q a b c) rs) (λ b. found_of_two file q a b rs) rs)
    rs

-- what is found

first_of : {X : Type 0} (x : X) (xs : List X) → Contains (x ∷ xs) x
first_of x xs = (0, omega arith, refl)

behind : {X : Type 0} (x y : X) (xs : List X) → Contains xs y → Contains (x ∷ xs) y
behind x y xs (k, below, is) = (suc k, omega (arith, below), is)

either : {Y : Type 0} (P : Y → Type 0) (a b : Option Y) → IfSome a P → IfSome b P → IfSome (option_or a b) P
either P None b h k = k
either P (Some y) b h k = h

found_in_lists : {X Y : Type 0} (p : Y → Bool) (f : X → List Y) (P : Y → Type 0) (xs : List X) → ((x : X) → Contains xs x → IfSome (find p (f x)) P) → IfSome (find p (flat_map f xs)) P
found_in_lists p f P [] each = tt
found_in_lists p f P (x ∷ xs) each =
    rw (find-append p (f x) (flat_map f xs)) (either P (find p (f x)) (find p (flat_map f xs)) (each x (first_of x xs)) (found_in_lists p f P xs (λ y has. each y (behind x y xs has))))

found_with_two : (file : ParticipantFile) (q a b : ℕ) (P : Three → Type 0) (rs : List ℕ) → ((c : ℕ) → Contains rs c → are_unrelated file q a b c ≡ true → P (record { first = a; second = b; third = c }))
    → IfSome (find (is_unrelated file q) (threes_of_two a b rs)) P
found_with_two file q a b P [] each = tt
found_with_two file q a b P (c ∷ rs) each =
    by (are_unrelated file q a b c) refl (found_with_two file q a b P rs (λ d has. each d (behind c d rs has)))
  where
    by : (is : Bool) → are_unrelated file q a b c ≡ is → IfSome (find (is_unrelated file q) (threes_of_two a b rs)) P
        → IfSome (cond is (Some (record { first = a; second = b; third = c })) (find (is_unrelated file q) (threes_of_two a b rs))) P
    by true h rest = each c (first_of c rs) h
    by false h rest = rest

pub found_are_unrelated : FoundAreUnrelated
found_are_unrelated file q rs =
    found_in_lists (is_unrelated file q) (λ a. threes_of_one a rs) (AreUnrelated file q rs) rs (λ a has_a.
    found_in_lists (is_unrelated file q) (λ b. threes_of_two a b rs) (AreUnrelated file q rs) rs (λ b has_b.
    found_with_two file q a b (AreUnrelated file q rs) rs (λ c has_c apart. record { first_asked = has_a; second_asked = has_b; third_asked = has_c; unrelated = apart })))
