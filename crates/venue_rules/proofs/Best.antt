use Rattle.std.proofs.Common.{◌≡◌, refl, sym, ap, ◌∙◌, subst, inl, inr, ◌⊎◌, ℕ, ℤ, ◌+◌, ◌≤◌, ◌<◌, Bool, true, false, cond, if◌then◌else◌, List, [], ◌∷◌, map, filter, arith}
use Rattle.std.proofs.lemmas.Int.{ints}
use Rattle.std.proofs.lemmas.Bool.{true≢false}
use Rattle.fix_dictionary.specs.declared.values.Side.{Side}
use Rattle.fix_dictionary.specs.declared.values.Side.TheVariants.{Buy, Sell}
use Rattle.venue_rules.specs.declared.facts.Fact.{Fact}
use Rattle.venue_rules.specs.declared.facts.Fact.TheVariants.{Entered}
use Rattle.venue_rules.specs.declared.facts.Entry.{Entry}
use Rattle.venue_rules.specs.Facts.{entries, entry_in}
use Rattle.venue_rules.specs.Book.{Resting, is_better, rank, ranked, rests, resting, left, with_left}
use Rattle.venue_rules.specs.Lawful.{IsBest}
use Rattle.venue_rules.proofs.Members.{In, In-filter, In-filter_map, In-from_Contains, Places, Places-above}
use Rattle.venue_rules.proofs.Ranks.{In-rank, In-ranked, not_better_through, not_both, with_left_from}
use Rattle.venue_rules.proofs.Lefts.{In-resting}

-- The first of the ranked orders is the best: at the best price, and the earliest of those.

not_self : (side : Side) (p : ℤ) → is_better side p p ≡ false
not_self Buy p = grind (arith, ints)
not_self Sell p = grind (arith, ints)

-- s does not come before r
abbrev IsBehind : Side → Resting → Resting → Type 0
IsBehind side r s = (is_better side s.entry.order.price r.entry.order.price ≡ false) × (is_better side r.entry.order.price s.entry.order.price ≡ false → r.entry.number ≤ s.entry.number)

abbrev IsQueue : Side → List Resting → Type 0
IsQueue side [] = Unit {0}
IsQueue side (r ∷ rs) = ((s : Resting) → In s rs → IsBehind side r s) × IsQueue side rs

-- numbers that do not fall
abbrev IsRising : List Resting → Type 0
IsRising [] = Unit {0}
IsRising (r ∷ rs) = ((s : Resting) → In s rs → r.entry.number ≤ s.entry.number) × IsRising rs

-- the ranked order comes after a better one
behind_better : (side : Side) (r s : Resting) (ss : List Resting) → is_better side s.entry.order.price r.entry.order.price ≡ true → ((x : Resting) → In x ss → IsBehind side s x) → (x : Resting) → (r ≡ x) ⊎ In x ss → IsBehind side s x
behind_better side r s ss h q x (inl e) = subst (IsBehind side s) e (not_both side s.entry.order.price r.entry.order.price h, λ k. absurd (true≢false (sym h ∙ k)))
behind_better side r s ss h q x (inr i) = q x i

rank_case_queue : (side : Side) (r s : Resting) (ss : List Resting) (b : Bool) → is_better side s.entry.order.price r.entry.order.price ≡ b → ((x : Resting) → In x (s ∷ ss) → r.entry.number ≤ x.entry.number) → IsQueue side (s ∷ ss) → IsQueue side (rank side r ss) → IsQueue side (if b then s ∷ rank side r ss else r ∷ s ∷ ss)
rank_case_queue side r s ss true h n q rec = ((λ x i. behind_better side r s ss h q.0 x (In-rank side r ss x i)), rec)
rank_case_queue side r s ss false h n q rec = (all, q)
  where
    all : (x : Resting) → In x (s ∷ ss) → IsBehind side r x
    all x (inl e) = (subst (λ (y : Resting). is_better side y.entry.order.price r.entry.order.price ≡ false) e h, λ k. n x (inl e))
    all x (inr i) = (not_better_through side r.entry.order.price s.entry.order.price x.entry.order.price h (q.0 x i).0, λ k. n x (inr i))

rank_queue : (side : Side) (r : Resting) (ss : List Resting) → ((x : Resting) → In x ss → r.entry.number ≤ x.entry.number) → IsQueue side ss → IsQueue side (rank side r ss)
rank_queue side r [] n q = ((λ x i. absurd i), tt)
rank_queue side r (s ∷ ss) n q = rank_case_queue side r s ss (is_better side s.entry.order.price r.entry.order.price) refl n q (rank_queue side r ss (λ x i. n x (inr i)) q.1)

ranked_queue : (side : Side) (rs : List Resting) → IsRising rs → IsQueue side (ranked side rs)
ranked_queue side [] n = tt
ranked_queue side (r ∷ rs) n = rank_queue side r (ranked side rs) (λ x i. n.0 x (In-ranked side rs x i)) (ranked_queue side rs n.1)

entries_rise : (l : Entry → ℕ) (n : ℕ) (es : List Entry) → Places (λ (e : Entry). e.number) n es → IsRising (map (with_left l) es)
entries_rise l n [] p = tt
entries_rise l n (e ∷ es) p = (all, entries_rise l (n + 1) es p.1)
  where
    all : (s : Resting) → In s (map (with_left l) es) → e.number ≤ s.entry.number
    all s i = let lt : n + 1 < s.entry.number = Places-above (λ (y : Entry). y.number) (n + 1) es p.1 s.entry (with_left_from l es s i).0 in let at : e.number ≡ n + 1 = p.0 in omega (arith, lt, at)

filter_case_rise : (p : Resting → Bool) (r : Resting) (rs : List Resting) (b : Bool) → ((s : Resting) → In s rs → r.entry.number ≤ s.entry.number) → IsRising (filter p rs) → IsRising (cond b (r ∷ filter p rs) (filter p rs))
filter_case_rise p r rs true n rec = ((λ s i. n s (In-filter p rs s i).0), rec)
filter_case_rise p r rs false n rec = rec

filter_rise : (p : Resting → Bool) (rs : List Resting) → IsRising rs → IsRising (filter p rs)
filter_rise p [] n = tt
filter_rise p (r ∷ rs) n = filter_case_rise p r rs (p r) n.0 (filter_rise p rs n.1)

-- ranking loses nothing

rank_case_has : (side : Side) (r s x : Resting) (ss : List Resting) (b : Bool) → (r ≡ x) ⊎ In x (s ∷ ss) → ((r ≡ x) ⊎ In x ss → In x (rank side r ss)) → In x (if b then s ∷ rank side r ss else r ∷ s ∷ ss)
rank_case_has side r s x ss true (inl e) rec = inr (rec (inl e))
rank_case_has side r s x ss true (inr (inl e)) rec = inl e
rank_case_has side r s x ss true (inr (inr i)) rec = inr (rec (inr i))
rank_case_has side r s x ss false i rec = i

rank_has : (side : Side) (r : Resting) (ss : List Resting) (x : Resting) → (r ≡ x) ⊎ In x ss → In x (rank side r ss)
rank_has side r [] x i = i
rank_has side r (s ∷ ss) x i = rank_case_has side r s x ss (is_better side s.entry.order.price r.entry.order.price) i (rank_has side r ss x)

ranked_has : (side : Side) (rs : List Resting) (x : Resting) → In x rs → In x (ranked side rs)
ranked_has side [] x i = i
ranked_has side (r ∷ rs) x (inl e) = rank_has side r (ranked side rs) x (inl e)
ranked_has side (r ∷ rs) x (inr i) = rank_has side r (ranked side rs) x (inr (ranked_has side rs x i))

filter_case_has : {X : Type 0} (y x : X) (fs : List X) (b : Bool) → b ≡ true → (y ≡ x) ⊎ In x fs → In x (cond b (y ∷ fs) fs)
filter_case_has y x fs true h i = i
filter_case_has y x fs false h i = absurd (true≢false (sym h))

filter_case_past : {X : Type 0} (y x : X) (fs : List X) (b : Bool) → In x fs → In x (cond b (y ∷ fs) fs)
filter_case_past y x fs true i = inr i
filter_case_past y x fs false i = i

filter_has : {X : Type 0} (p : X → Bool) (xs : List X) (x : X) → In x xs → p x ≡ true → In x (filter p xs)
filter_has p [] x i h = i
filter_has p (y ∷ ys) x (inl e) h = filter_case_has y x (filter p ys) (p y) (ap p e ∙ h) (inl e)
filter_has p (y ∷ ys) x (inr i) h = filter_case_past y x (filter p ys) (p y) (filter_has p ys x i h)

map_has : (l : Entry → ℕ) (es : List Entry) (e : Entry) → In e es → In (with_left l e) (map (with_left l) es)
map_has l [] e i = i
map_has l (y ∷ ys) e (inl k) = inl (ap (with_left l) k)
map_has l (y ∷ ys) e (inr i) = inr (map_has l ys e i)

resting_has : (facts : List Fact) (x : ℕ) (side : Side) (s : Entry) → In s (entries facts) → rests x side (with_left (left facts) s) ≡ true → In (with_left (left facts) s) (resting facts x side)
resting_has facts x side s i h = ranked_has side (filter (rests x side) (map (with_left (left facts)) (entries facts))) (with_left (left facts) s) (filter_has (rests x side) (map (with_left (left facts)) (entries facts)) (with_left (left facts) s) (map_has (left facts) (entries facts) s i) h)

head_or_behind : (side : Side) (r : Resting) (worse : List Resting) (x : Resting) → IsQueue side (r ∷ worse) → In x (r ∷ worse) → IsBehind side r x
head_or_behind side r worse x q (inl e) = subst (IsBehind side r) e (not_self side r.entry.order.price, λ k. same r.entry.number)
  where
    same : (n : ℕ) → n ≤ n
    same n = omega arith
head_or_behind side r worse x q (inr i) = q.0 x i

pub first-IsBest : (facts : List Fact) (x : ℕ) (side : Side) (r : Resting) (worse : List Resting) → Places (λ (e : Entry). e.number) 0 (entries facts) → resting facts x side ≡ r ∷ worse → IsBest facts x side r.entry
first-IsBest facts x side r worse places best =
    let k = In-resting facts x side r (subst (λ rs. In r rs) (sym best) (inl refl)) in
    let q : IsQueue side (r ∷ worse) = subst (IsQueue side) best (ranked_queue side (filter (rests x side) (map (with_left (left facts)) (entries facts))) (filter_rise (rests x side) (map (with_left (left facts)) (entries facts)) (entries_rise (left facts) 0 (entries facts) places))) in (
      subst (λ y. rests x side y ≡ true) k.1 k.2,
      λ s c h. head_or_behind side r worse (with_left (left facts) s) q (subst (λ rs. In (with_left (left facts) s) rs) best (resting_has facts x side s (In-filter_map entry_in facts (Entered s) s (In-from_Contains facts (Entered s) c) refl) h)),
    )
