use Rattle.std.proofs.Common.{◌≡◌, refl, sym, ap, ◌∙◌, subst, ℕ, suc, ◌+◌, ◌≤◌, ◌<◌, Bool, true, false, not, cond, ◌&&◌, ◌||◌, ◌==◌, nat_le, List, [], ◌∷◌, ◌++◌, length, length-append, find, filter, Option, IsSome, arith, bytes_eq}
use Rattle.std.specs.List.{list_any}
use Rattle.std.proofs.lemmas.Bool.{eq-eqb, eqb-true}
use Rattle.std.proofs.lemmas.Bool.Decides.{nat_tests}
use Rattle.std.proofs.lemmas.List.Elements.{filter_map-append, filter-append}
use Rattle.std.proofs.lemmas.List.{append-nil}
use Rattle.std.proofs.lemmas.List.Folds.{list_all-append, list_any-append}
use Rattle.std.proofs.lemmas.Slice.Eq.{bytes_eq-Decides}
use Rattle.venue_rules.specs.declared.facts.Fact.{Fact}
use Rattle.venue_rules.specs.declared.facts.HeldSide.{HeldSide}
use Rattle.venue_rules.specs.Facts.{held_in, held_sides, is_name}
use Rattle.venue_rules.specs.Delay.{find_held, held, held_capacity, releases}
use Rattle.cross_delay.specs.Contents.{Contents}
use Rattle.cross_delay.specs.DelayFacts.{is_delay_fact}
use Rattle.cross_delay.specs.Kept.{IsDelay, are_own}
use Rattle.cross_delay.specs.Plans.{drop_plan}
use Rattle.cross_delay.specs.Steps.{Step, Nothing, Holds, Drops, IsAllowed, IsPlanOf, facts_of}
use Rattle.cross_delay.specs.Views.{stands}

-- The invariant of held sides, step by step.

both : (b c : Bool) → b ≡ true → c ≡ true → (b && c) ≡ true
both true true h k = refl
both true false h k = k
both false c h k = h

-- a stricter test passes no more

fewer : (a b : Bool) (x : HeldSide) (xs ys : List HeldSide) → (a ≡ true → b ≡ true) → length xs ≤ length ys → length (cond a (x ∷ xs) xs) ≤ length (cond b (x ∷ ys) ys)
fewer true true x xs ys h k = omega arith
fewer true false x xs ys h k = absurd (never (h refl))
  where
    never : false ≡ true → ⊥
    never e = cc
fewer false true x xs ys h k = omega arith
fewer false false x xs ys h k = k

pub filter-less : (p q : HeldSide → Bool) (xs : List HeldSide) → ((x : HeldSide) → p x ≡ true → q x ≡ true) → length (filter p xs) ≤ length (filter q xs)
filter-less p q [] h = omega arith
filter-less p q (x ∷ xs) h = fewer (p x) (q x) x (filter p xs) (filter q xs) (h x) (filter-less p q xs h)

-- and fewer where an element is left out

left_out : (a b c : Bool) (x : HeldSide) (n : HeldSide → Bool) (xs ys : List HeldSide) → n x ≡ c → (a ≡ true → b ≡ true) → (c ≡ true → a ≡ false) → length xs ≤ length ys → (IsSome (find n ys) → length xs < length ys) → IsSome (find n (cond b (x ∷ ys) ys)) → length (cond a (x ∷ xs) xs) < length (cond b (x ∷ ys) ys)
left_out a true true x n xs ys e h k l m f = let P : Bool → Type 0 = λ b. length (cond b (x ∷ xs) xs) < suc (length ys) in subst P (sym (k refl)) (omega arith)
left_out true true false x n xs ys e h k l m f = let step : length xs < length ys = m (rw e at f) in omega arith
left_out false true false x n xs ys e h k l m f = omega arith
left_out true false c x n xs ys e h k l m f = absurd (never (h refl))
  where
    never : false ≡ true → ⊥
    never e = cc
left_out false false c x n xs ys e h k l m f = m f

filter-strict : (p q n : HeldSide → Bool) (xs : List HeldSide) → ((x : HeldSide) → p x ≡ true → q x ≡ true) → ((x : HeldSide) → n x ≡ true → p x ≡ false) → IsSome (find n (filter q xs)) → length (filter p xs) < length (filter q xs)
filter-strict p q n [] h k f = cc
filter-strict p q n (x ∷ xs) h k f = left_out (p x) (q x) (n x) x n (filter p xs) (filter q xs) refl (h x) (k x) (filter-less p q xs h) (filter-strict p q n xs h k) f

-- later facts hold no side again

still : (b c : Bool) → not (b || c) ≡ true → not b ≡ true
still true c h = h
still false c h = refl

stands-before : (fs gs : List Fact) (h : HeldSide) → stands (fs ++ gs) h ≡ true → stands fs h ≡ true
stands-before fs gs h e = still (list_any (releases h) fs) (list_any (releases h) gs) (ap not (sym (list_any-append (releases h) fs gs)) ∙ e)

held-append : (fs gs : List Fact) → length (held (fs ++ gs)) ≤ length (held fs) + length (held_sides gs)
held-append fs gs =
    let sides : held_sides (fs ++ gs) ≡ held_sides fs ++ held_sides gs = filter_map-append held_in fs gs in
    let parts : length (held (fs ++ gs)) ≡ length (filter (stands (fs ++ gs)) (held_sides fs)) + length (filter (stands (fs ++ gs)) (held_sides gs)) = ap (λ hs. length (filter (stands (fs ++ gs)) hs)) sides ∙ ap length (filter-append (stands (fs ++ gs)) (held_sides fs) (held_sides gs)) ∙ length-append (filter (stands (fs ++ gs)) (held_sides fs)) (filter (stands (fs ++ gs)) (held_sides gs)) in
    omega (arith, parts, filter-less (stands (fs ++ gs)) (stands fs) (held_sides fs) (stands-before fs gs), filter-less (stands (fs ++ gs)) (λ h. true) (held_sides gs) (λ h e. refl), ap length (all-pass (held_sides gs)))
  where
    all-pass : (hs : List HeldSide) → filter (λ h. true) hs ≡ hs
    all-pass [] = refl
    all-pass (h ∷ hs) = ap (λ ks. h ∷ ks) (all-pass hs)

below : (n : ℕ) → nat_le held_capacity n ≡ false → n < held_capacity
below n h = grind (arith, nat_tests)

step-own : (step : Step) → are_own (facts_of step) ≡ true
step-own Nothing = refl
step-own (Holds h) = refl
step-own (Drops who id cancel) = refl

step-few : (fs : List Fact) (step : Step) → IsAllowed fs step → length (held fs) ≤ held_capacity → length (held fs) + length (held_sides (facts_of step)) ≤ held_capacity
step-few fs Nothing h k = omega arith
step-few fs (Holds x) h k = let l : length (held fs) < held_capacity = below (length (held fs)) h.0 in omega arith
step-few fs (Drops who id cancel) h k = omega arith

-- a planned step keeps the invariant
pub plan-kept : (delay : Contents) (added : List Fact) → IsDelay delay.facts → IsPlanOf delay added → IsDelay (delay.facts ++ added)
plan-kept delay added kept plan = record {
  own = list_all-append is_delay_fact delay.facts added ∙ both (are_own delay.facts) (are_own added) kept.own (ap are_own plan.made ∙ step-own plan.step);
  few = let l : length (held_sides added) ≡ length (held_sides (facts_of plan.step)) = ap (λ fs. length (held_sides fs)) plan.made in omega (arith, held-append delay.facts added, l, step-few delay.facts plan.step plan.allowed kept.few);
}

pub planned : (facts : List Fact) (delay : Contents) (step : Step) (added : List Fact) → facts ≡ delay.facts → IsAllowed facts step → added ≡ facts_of step → length added ≤ delay.spare.headroom → IsPlanOf delay added
planned facts delay step added same h e headroom = record {
  step = step;
  allowed = let P : List Fact → Type 0 = λ fs. IsAllowed fs step in subst P same h;
  made = e;
  headroom = headroom;
}

-- dropping a side lowers the count

and_parts : (b c : Bool) → (b && c) ≡ true → (b ≡ true) × (c ≡ true)
and_parts true true h = (refl, refl)
and_parts true false h = cc
and_parts false c h = cc

turned : (who : ℕ) (id : List ℕ) (a : ℕ) (b : List ℕ) → is_name who id a b ≡ true → is_name a b who id ≡ true
turned who id a b h =
    let p : (who == a ≡ true) × (bytes_eq id b ≡ true) = and_parts (who == a) (bytes_eq id b) h in
    both (a == who) (bytes_eq b id) (eq-eqb a who (sym (eqb-true who a p.0))) ((bytes_eq-Decides b id).1 (sym ((bytes_eq-Decides id b).0 p.1)))

gone : (a b : Bool) → b ≡ true → not (a || (b || false)) ≡ false
gone true b h = refl
gone false true h = refl
gone false false h = cc

pub held-falls : (fs : List Fact) (who : ℕ) (id : List ℕ) (cancel : Option (List ℕ)) → IsSome (find_held fs who id) → length (held (fs ++ (drop_plan who id cancel).facts)) < length (held fs)
held-falls fs who id cancel f =
    let gs : List Fact = (drop_plan who id cancel).facts in
    let n : HeldSide → Bool = λ h. is_name who id h.order.who h.order.id in
    let out : (h : HeldSide) → n h ≡ true → stands (fs ++ gs) h ≡ false = λ h e. ap not (list_any-append (releases h) fs gs) ∙ gone (list_any (releases h) fs) (is_name h.order.who h.order.id who id) (turned who id h.order.who h.order.id e) in
    let sides : held_sides (fs ++ gs) ≡ held_sides fs ++ [] = filter_map-append held_in fs gs in
    let same : length (held (fs ++ gs)) ≡ length (filter (stands (fs ++ gs)) (held_sides fs)) = ap (λ hs. length (filter (stands (fs ++ gs)) hs)) (sides ∙ append-nil (held_sides fs)) in
    omega (arith, same, filter-strict (stands (fs ++ gs)) (stands fs) n (held_sides fs) (stands-before fs gs) out f)
