-- Folds leave nothing out, and by the hour each is of one hour.
use Rattle.std.proofs.Common.{◌≡◌, ℕ, zero, suc, ◌+◌, ◌-◌, ◌*◌, ◌/◌, ◌%◌, ◌≤◌, ◌==◌, Bool, true, false, if◌then◌else◌, List, [], ◌∷◌, ◌++◌, All, length, take, drop, refl, sym, ap, subst, ◌∙◌, arith, append-nil, append_assoc, eqb-true, length-append}
use Rattle.std.specs.List.{flat_map, range_with_len}
use Rattle.std.proofs.Math.Seq.{take-add}
use Rattle.std.proofs.lemmas.List.{drop-drop, drop_at, length-drop, take-append-drop, take_all, take_at}
use Rattle.std.proofs.lemmas.List.Elements.{All-cons, All-nil, All-push}
use Rattle.std.proofs.lemmas.Bool.Decides.{nat_tests}
use Rattle.day_sections.specs.declared.folds.Fold.{Fold}
use Rattle.day_sections.specs.Folds.{ended, fold, folds_200, folds_from, of_200, start_after, within}
use Rattle.day_sections.specs.Whole.{FoldsAreOfOneHour, FoldsAreWhole, HoursAreWhole}

-- by the hour

abbrev held : {X : Type 0} → List X → ℕ → ℕ → ℕ → List ℕ → List X
held xs start k hour hs = flat_map (λ f. within f xs) (folds_from start k hour hs)

last_held : {X : Type 0} (xs : List X) (start k : ℕ) → start ≤ k → length xs ≤ k → take (k - start) (drop start xs) ++ [] ≡ drop start xs
last_held xs start k low all = append-nil (take (k - start) (drop start xs)) ∙ take_all (k - start) (drop start xs) (omega (arith, low, all, length-drop start xs))

one_held : {X : Type 0} (xs : List X) (start k : ℕ) → start ≤ k → take (k - start) (drop start xs) ++ drop k xs ≡ drop start xs
one_held xs start k low =
    let rest : drop (k - start) (drop start xs) ≡ drop k xs = drop-drop (k - start) start xs ∙ ap (λ n. drop n xs) (back start k low) in
    ap (λ l. take (k - start) (drop start xs) ++ l) (sym rest) ∙ take-append-drop (k - start) (drop start xs)
  where
    back : (a b : ℕ) → a ≤ b → a + (b - a) ≡ b
    back a b le = omega (arith, le)

held_from : {X : Type 0} (xs : List X) (start k hour : ℕ) (hs : List ℕ) → start ≤ k → length xs ≤ k + length hs → held xs start k hour hs ≡ drop start xs
held_from xs start k hour [] low all = last_held xs start k low (omega (arith, all))
held_from xs start k hour (h ∷ hs) low all = by _ (held_from xs start (k + 1) h hs (omega (arith, low)) (omega (arith, all))) (held_from xs k (k + 1) h hs (omega arith) (omega (arith, all)))
  where
    by : (b : Bool) → held xs start (k + 1) h hs ≡ drop start xs → held xs k (k + 1) h hs ≡ drop k xs → flat_map (λ f. within f xs) (ended b start k ++ folds_from (start_after b start k) (k + 1) h hs) ≡ drop start xs
    by true on new = on
    by false on new = ap (λ l. within (fold start k) xs ++ l) new ∙ one_held xs start k low

pub hours_are_whole : (X : Type 0) → HoursAreWhole X
hours_are_whole X [] [] short = refl
hours_are_whole X (x ∷ xs) [] short = absurd (omega (arith, short))
hours_are_whole X xs (h ∷ hs) short = held_from xs 0 1 h hs (omega arith) (omega (arith, short))

-- each of one hour

abbrev IsOfOneHour : List ℕ → Fold → Type 0
IsOfOneHour all f = (hour : ℕ) × All (λ h. h ≡ hour) (within f all)

this_hour : (all held : List ℕ) (start k hour : ℕ) (hs : List ℕ) → drop start all ≡ held ++ hs → k ≡ start + length held → All (λ h. h ≡ hour) held → IsOfOneHour all (fold start k)
this_hour all held start k hour hs split place same =
    let here : take (k - start) (drop start all) ≡ held = ap (take (k - start)) split ∙ take_at held hs (k - start) (omega (arith, place)) in
    (hour, subst (All (λ h. h ≡ hour)) (sym here) same)

behind_hour : (all held : List ℕ) (start k : ℕ) (hs : List ℕ) → drop start all ≡ held ++ hs → k ≡ start + length held → drop k all ≡ hs
behind_hour all held start k hs split place = ap (λ n. drop n all) place ∙ sym (drop-drop (length held) start all) ∙ ap (drop (length held)) split ∙ drop_at held hs (length held) refl

only_one : (h : ℕ) → All (λ x. x ≡ h) (h ∷ [])
only_one h = All-cons (λ x. x ≡ h) h [] refl (All-nil (λ x. x ≡ h))

-- from the place `start` on stand those of this hour, and behind them the others
one_hour_from : (all held : List ℕ) (start k hour : ℕ) (hs : List ℕ) → drop start all ≡ held ++ hs → k ≡ start + length held → All (λ h. h ≡ hour) held → All (IsOfOneHour all) (folds_from start k hour hs)
one_hour_from all held start k hour [] split place same = All-cons (IsOfOneHour all) (fold start k) [] (this_hour all held start k hour [] split place same) (All-nil (IsOfOneHour all))
one_hour_from all held start k hour (h ∷ hs) split place same =
    by (h == hour) refl
    (λ e. one_hour_from all (held ++ h ∷ []) start (k + 1) h hs (split ∙ sym (append_assoc held (h ∷ []) hs)) longer (All-push (λ x. x ≡ h) held h (subst (λ n. All (λ x. x ≡ n) held) (sym (eqb-true h hour e)) same) refl))
    (one_hour_from all (h ∷ []) k (k + 1) h hs (behind_hour all held start k (h ∷ hs) split place) refl (only_one h))
  where
    longer : k + 1 ≡ start + length (held ++ h ∷ [])
    longer = omega (arith, place, length-append held (h ∷ []))

    by : (b : Bool) → (h == hour) ≡ b → ((h == hour) ≡ true → All (IsOfOneHour all) (folds_from start (k + 1) h hs)) → All (IsOfOneHour all) (folds_from k (k + 1) h hs) → All (IsOfOneHour all) (ended b start k ++ folds_from (start_after b start k) (k + 1) h hs)
    by true e on new = on e
    by false e on new = All-cons (IsOfOneHour all) (fold start k) (folds_from k (k + 1) h hs) (this_hour all held start k hour (h ∷ hs) split place same) new

pub folds_are_of_one_hour : FoldsAreOfOneHour
folds_are_of_one_hour [] = All-nil (IsOfOneHour [])
folds_are_of_one_hour (h ∷ hs) = one_hour_from (h ∷ hs) (h ∷ []) 0 1 h hs refl refl (only_one h)

-- folds of 200

some_of_200 : {X : Type 0} (xs : List X) (a c : ℕ) → flat_map (λ k. of_200 k xs) (range_with_len a c) ≡ take (c * 200) (drop (a * 200) xs)
some_of_200 xs a zero = refl
some_of_200 xs a (suc c) =
    let here = drop (a * 200) xs in
    let next : drop ((a + 1) * 200) xs ≡ drop 200 here = ap (λ n. drop n xs) (more a) ∙ sym (drop-drop 200 (a * 200) xs) in
    ap (λ l. take 200 here ++ l) (some_of_200 xs (a + 1) c ∙ ap (take (c * 200)) next) ∙ (sym (take-add 200 (c * 200) here) ∙ ap (λ n. take n here) (sum c))
  where
    more : (n : ℕ) → (n + 1) * 200 ≡ n * 200 + 200
    more n = omega arith

    sum : (n : ℕ) → 200 + n * 200 ≡ suc n * 200
    sum n = omega arith

enough : (n : ℕ) (b : Bool) → (n % 200 == 0) ≡ b → n ≤ (n / 200 + (if b then 0 else 1)) * 200
enough n true e = let z : n % 200 ≡ 0 = grind (arith, nat_tests) in omega (arith, z)
enough n false e = omega arith

pub folds_are_whole : (X : Type 0) → FoldsAreWhole X
folds_are_whole X xs = some_of_200 xs 0 (folds_200 (length xs)) ∙ take_all (folds_200 (length xs) * 200) xs (enough (length xs) (length xs % 200 == 0) refl)
