use Rattle.std.proofs.Common.{◌≡◌, refl, sym, ap, ◌∙◌, subst, inl, inr, ◌⊎◌, ℕ, ℤ, ◌+◌, ◌<◌, Bool, true, false, cond, if◌then◌else◌, List, [], ◌∷◌, map, filter, arith}
use Rattle.std.proofs.lemmas.Int.{ints}
use Rattle.std.proofs.lemmas.Bool.{true≢false}
use Rattle.fix_dictionary.specs.declared.values.Side.{Side}
use Rattle.fix_dictionary.specs.declared.values.Side.TheVariants.{Buy, Sell}
use Rattle.venue_rules.specs.declared.facts.Entry.{Entry}
use Rattle.venue_rules.specs.Book.{Resting, is_better, rank, ranked, with_left}
use Rattle.venue_rules.proofs.Members.{In, In-filter, Places, Places-above}

-- Ranked orders are ordered by price, and filtering commutes with ranking.

pub not_better_through : (side : Side) (p q r : ℤ) → is_better side q p ≡ false → is_better side r q ≡ false → is_better side r p ≡ false
not_better_through Buy p q r h k = grind (arith, ints)
not_better_through Sell p q r h k = grind (arith, ints)

pub not_both : (side : Side) (p q : ℤ) → is_better side p q ≡ true → is_better side q p ≡ false
not_both Buy p q h = grind (arith, ints)
not_both Sell p q h = grind (arith, ints)

-- no order beats this one
abbrev pub NoneBetter : Side → Resting → List Resting → Type 0
NoneBetter side r rs = (s : Resting) → In s rs → is_better side s.entry.order.price r.entry.order.price ≡ false

abbrev pub Ordered : Side → List Resting → Type 0
Ordered side [] = Unit {0}
Ordered side (r ∷ rs) = NoneBetter side r rs × Ordered side rs

-- members

rank_case_In : (side : Side) (r s x : Resting) (ss : List Resting) (b : Bool) → (In x (rank side r ss) → (r ≡ x) ⊎ In x ss) → In x (if b then s ∷ rank side r ss else r ∷ s ∷ ss) → (r ≡ x) ⊎ In x (s ∷ ss)
rank_case_In side r s x ss true rec (inl e) = inr (inl e)
rank_case_In side r s x ss true rec (inr i) = later (rec i)
  where
    later : (r ≡ x) ⊎ In x ss → (r ≡ x) ⊎ In x (s ∷ ss)
    later (inl k) = inl k
    later (inr k) = inr (inr k)
rank_case_In side r s x ss false rec i = i

pub In-rank : (side : Side) (r : Resting) (ss : List Resting) (x : Resting) → In x (rank side r ss) → (r ≡ x) ⊎ In x ss
In-rank side r [] x i = i
In-rank side r (s ∷ ss) x i = rank_case_In side r s x ss (is_better side s.entry.order.price r.entry.order.price) (In-rank side r ss x) i

pub In-ranked : (side : Side) (rs : List Resting) (x : Resting) → In x (ranked side rs) → In x rs
In-ranked side [] x i = i
In-ranked side (r ∷ rs) x i = either (In-ranked side rs x) (In-rank side r (ranked side rs) x i)
  where
    either : (In x (ranked side rs) → In x rs) → (r ≡ x) ⊎ In x (ranked side rs) → In x (r ∷ rs)
    either rec (inl e) = inl e
    either rec (inr k) = inr (rec k)

-- order

rank_none_better : (side : Side) (r s : Resting) (ss : List Resting) → is_better side s.entry.order.price r.entry.order.price ≡ true → NoneBetter side s ss → NoneBetter side s (rank side r ss)
rank_none_better side r s ss h n x i = either (In-rank side r ss x i)
  where
    either : (r ≡ x) ⊎ In x ss → is_better side x.entry.order.price s.entry.order.price ≡ false
    either (inl e) = subst (λ y. is_better side y.entry.order.price s.entry.order.price ≡ false) e (not_both side s.entry.order.price r.entry.order.price h)
    either (inr k) = n x k

rank_case_Ordered : (side : Side) (r s : Resting) (ss : List Resting) (b : Bool) → is_better side s.entry.order.price r.entry.order.price ≡ b → Ordered side (rank side r ss) → NoneBetter side s ss → Ordered side ss → Ordered side (if b then s ∷ rank side r ss else r ∷ s ∷ ss)
rank_case_Ordered side r s ss true h rec n o = (rank_none_better side r s ss h n, rec)
rank_case_Ordered side r s ss false h rec n o = (all, (n, o))
  where
    all : NoneBetter side r (s ∷ ss)
    all x (inl e) = subst (λ y. is_better side y.entry.order.price r.entry.order.price ≡ false) e h
    all x (inr i) = not_better_through side r.entry.order.price s.entry.order.price x.entry.order.price h (n x i)

rank-Ordered : (side : Side) (r : Resting) (ss : List Resting) → Ordered side ss → Ordered side (rank side r ss)
rank-Ordered side r [] o = ((λ x i. absurd i), tt)
rank-Ordered side r (s ∷ ss) o = rank_case_Ordered side r s ss (is_better side s.entry.order.price r.entry.order.price) refl (rank-Ordered side r ss o.1) o.0 o.1

pub ranked-Ordered : (side : Side) (rs : List Resting) → Ordered side (ranked side rs)
ranked-Ordered side [] = tt
ranked-Ordered side (r ∷ rs) = rank-Ordered side r (ranked side rs) (ranked-Ordered side rs)

-- filters

rank_case_front : (side : Side) (r s : Resting) (ss : List Resting) (b : Bool) → b ≡ false → (if b then s ∷ rank side r ss else r ∷ s ∷ ss) ≡ r ∷ s ∷ ss
rank_case_front side r s ss true h = absurd (true≢false h)
rank_case_front side r s ss false h = refl

rank_front : (side : Side) (r : Resting) (ss : List Resting) → NoneBetter side r ss → rank side r ss ≡ r ∷ ss
rank_front side r [] n = refl
rank_front side r (s ∷ ss) n = rank_case_front side r s ss (is_better side s.entry.order.price r.entry.order.price) (n s (inl refl))

rank_case_behind : (side : Side) (r s : Resting) (ss : List Resting) (b : Bool) → b ≡ true → (if b then s ∷ rank side r ss else r ∷ s ∷ ss) ≡ s ∷ rank side r ss
rank_case_behind side r s ss true h = refl
rank_case_behind side r s ss false h = absurd (true≢false (sym h))

-- the ranked order and the one that it comes after, each kept or not
behind_cases : (side : Side) (p : Resting → Bool) (r s : Resting) (ss : List Resting) (kr ks : Bool) → is_better side s.entry.order.price r.entry.order.price ≡ true → filter p (rank side r ss) ≡ cond kr (rank side r (filter p ss)) (filter p ss)
    → cond ks (s ∷ filter p (rank side r ss)) (filter p (rank side r ss)) ≡ cond kr (rank side r (cond ks (s ∷ filter p ss) (filter p ss))) (cond ks (s ∷ filter p ss) (filter p ss))
behind_cases side p r s ss true true h rec = ap (λ xs. s ∷ xs) rec ∙ sym (rank_case_behind side r s (filter p ss) (is_better side s.entry.order.price r.entry.order.price) h)
behind_cases side p r s ss true false h rec = rec
behind_cases side p r s ss false true h rec = ap (λ xs. s ∷ xs) rec
behind_cases side p r s ss false false h rec = rec

front_cases : (side : Side) (r : Resting) (fs : List Resting) (kr : Bool) → NoneBetter side r fs → cond kr (r ∷ fs) fs ≡ cond kr (rank side r fs) fs
front_cases side r fs true n = sym (rank_front side r fs n)
front_cases side r fs false n = refl

rank_case_filter : (side : Side) (p : Resting → Bool) (r s : Resting) (ss : List Resting) (b : Bool) → is_better side s.entry.order.price r.entry.order.price ≡ b → filter p (rank side r ss) ≡ cond (p r) (rank side r (filter p ss)) (filter p ss) → NoneBetter side s ss
    → filter p (if b then s ∷ rank side r ss else r ∷ s ∷ ss) ≡ cond (p r) (rank side r (filter p (s ∷ ss))) (filter p (s ∷ ss))
rank_case_filter side p r s ss true h rec n = behind_cases side p r s ss (p r) (p s) h rec
rank_case_filter side p r s ss false h rec n = front_cases side r (filter p (s ∷ ss)) (p r) all
  where
    all_of : NoneBetter side r (s ∷ ss)
    all_of x (inl e) = subst (λ y. is_better side y.entry.order.price r.entry.order.price ≡ false) e h
    all_of x (inr i) = not_better_through side r.entry.order.price s.entry.order.price x.entry.order.price h (n x i)

    all : NoneBetter side r (filter p (s ∷ ss))
    all x i = all_of x (In-filter p (s ∷ ss) x i).0

filter-rank : (side : Side) (p : Resting → Bool) (r : Resting) (ss : List Resting) → Ordered side ss → filter p (rank side r ss) ≡ cond (p r) (rank side r (filter p ss)) (filter p ss)
filter-rank side p r [] o = refl
filter-rank side p r (s ∷ ss) o = rank_case_filter side p r s ss (is_better side s.entry.order.price r.entry.order.price) refl (filter-rank side p r ss o.1) o.0

ranked_cases : (side : Side) (r : Resting) (fs gs : List Resting) (kr : Bool) → gs ≡ ranked side fs → cond kr (rank side r gs) gs ≡ ranked side (cond kr (r ∷ fs) fs)
ranked_cases side r fs gs true e = ap (rank side r) e
ranked_cases side r fs gs false e = e

pub filter-ranked : (side : Side) (p : Resting → Bool) (rs : List Resting) → filter p (ranked side rs) ≡ ranked side (filter p rs)
filter-ranked side p [] = refl
filter-ranked side p (r ∷ rs) = filter-rank side p r (ranked side rs) (ranked-Ordered side rs) ∙ ranked_cases side r (filter p rs) (filter p (ranked side rs)) (p r) (filter-ranked side p rs)

-- one number, one order

-- no order of the list has the number
abbrev pub NoneHas : ℕ → List Resting → Type 0
NoneHas n rs = (s : Resting) → In s rs → s.entry.number ≡ n → ⊥

abbrev pub Distinct : List Resting → Type 0
Distinct [] = Unit {0}
Distinct (r ∷ rs) = NoneHas r.entry.number rs × Distinct rs

rank_case_Distinct : (side : Side) (r s : Resting) (ss : List Resting) (b : Bool) → NoneHas r.entry.number (s ∷ ss) → Distinct (s ∷ ss) → Distinct (rank side r ss) → Distinct (if b then s ∷ rank side r ss else r ∷ s ∷ ss)
rank_case_Distinct side r s ss true n d rec = (none, rec)
  where
    either : (x : Resting) → (r ≡ x) ⊎ In x ss → x.entry.number ≡ s.entry.number → ⊥
    either x (inl e) k = n s (inl refl) (sym (ap (λ (y : Resting). y.entry.number) e ∙ k))
    either x (inr i) k = d.0 x i k

    none : NoneHas s.entry.number (rank side r ss)
    none x i k = either x (In-rank side r ss x i) k
rank_case_Distinct side r s ss false n d rec = (n, d)

rank-Distinct : (side : Side) (r : Resting) (ss : List Resting) → NoneHas r.entry.number ss → Distinct ss → Distinct (rank side r ss)
rank-Distinct side r [] n d = (n, tt)
rank-Distinct side r (s ∷ ss) n d = rank_case_Distinct side r s ss (is_better side s.entry.order.price r.entry.order.price) n d (rank-Distinct side r ss (λ x i. n x (inr i)) d.1)

pub ranked-Distinct : (side : Side) (rs : List Resting) → Distinct rs → Distinct (ranked side rs)
ranked-Distinct side [] d = tt
ranked-Distinct side (r ∷ rs) d = rank-Distinct side r (ranked side rs) (λ x i. d.0 x (In-ranked side rs x i)) (ranked-Distinct side rs d.1)

filter_case_Distinct : (p : Resting → Bool) (r : Resting) (rs : List Resting) (b : Bool) → NoneHas r.entry.number rs → Distinct (filter p rs) → Distinct (cond b (r ∷ filter p rs) (filter p rs))
filter_case_Distinct p r rs true n d = ((λ x i. n x (In-filter p rs x i).0), d)
filter_case_Distinct p r rs false n d = d

pub filter-Distinct : (p : Resting → Bool) (rs : List Resting) → Distinct rs → Distinct (filter p rs)
filter-Distinct p [] d = tt
filter-Distinct p (r ∷ rs) d = filter_case_Distinct p r rs (p r) d.0 (filter-Distinct p rs d.1)

-- one of all entries, with its leaves quantity
pub with_left_from : (l : Entry → ℕ) (es : List Entry) (x : Resting) → In x (map (with_left l) es) → In x.entry es × (x ≡ with_left l x.entry)
with_left_from l [] x i = absurd i
with_left_from l (e ∷ es) x (inl k) = (inl (ap (λ (y : Resting). y.entry) k), subst (λ (y : Resting). y ≡ with_left l y.entry) k refl)
with_left_from l (e ∷ es) x (inr i) = let r = with_left_from l es x i in (inr r.0, r.1)

pub Places-Distinct : (l : Entry → ℕ) (n : ℕ) (es : List Entry) → Places (λ (e : Entry). e.number) n es → Distinct (map (with_left l) es)
Places-Distinct l n [] p = tt
Places-Distinct l n (e ∷ es) p = (none, Places-Distinct l (n + 1) es p.1)
  where
    none : NoneHas e.number (map (with_left l) es)
    none x i k = let lt : n + 1 < x.entry.number = Places-above (λ (y : Entry). y.number) (n + 1) es p.1 x.entry (with_left_from l es x i).0 in let at : e.number ≡ n + 1 = p.0 in omega (arith, lt, k, at)
