use Rattle.std.proofs.Common.{◌≡◌, refl, sym, ap, ◌∙◌, ℕ, ◌+◌, ◌≤◌, Bool, true, false, not, cond, ◌&&◌, ◌||◌, ◌==◌, nat_le, List, [], ◌∷◌, ◌++◌, length, length-append, find, filter, Option, Some, None, IsSome, append-nil, arith, bytes_eq}
use Rattle.std.specs.List.{list_any, cons_option}
use Rattle.std.proofs.lemmas.List.Folds.{list_any-append}
use Rattle.std.proofs.lemmas.Bool.{eqb-true}
use Rattle.std.proofs.lemmas.List.Elements.{filter_map-append, filter-append}
use Rattle.std.proofs.lemmas.Slice.Eq.{bytes_eq-Decides}
use Rattle.venue_rules.specs.declared.facts.Fact.{Fact}
use Rattle.venue_rules.specs.declared.facts.Fact.TheVariants.{Entered, Traded, Removed, Held, Unheld, Asked, Quoted, Withdrawn, Closed}
use Rattle.venue_rules.specs.declared.facts.HeldSide.{HeldSide}
use Rattle.venue_rules.specs.declared.facts.Release.{Release}
use Rattle.venue_rules.specs.Facts.{held_in, held_sides, is_bytes, is_cross_id_used, is_name, is_order_id_used, uses_order_id}
use Rattle.venue_rules.specs.Delay.{due, find_held, held, held_capacity, releases}
use Rattle.client_ids.specs.ClientIds.{is_of}
use Rattle.cross_delay.specs.ByDue.{by_due, first_due, steps}
use Rattle.cross_delay.specs.Contents.{Contents}
use Rattle.cross_delay.specs.Kept.{are_own}
use Rattle.cross_delay.specs.Plans.{is_full}
use Rattle.cross_delay.specs.Standing.{IsKnown}
use Rattle.cross_delay.specs.Steps.{Step, Nothing, Holds, Drops, IsAllowed, IsPlanOf, facts_of}
use Rattle.cross_delay.specs.Used.{cross_name, cross_names, order_name, order_names}
use Rattle.cross_delay.specs.Views.{stands}
use Rattle.cross_delay.proofs.ByDue.{by_due-more, filter-by_due, find-by_due, first-by_due, length-by_due}
use Rattle.cross_delay.proofs.Keeping.{filter-less}

-- What is kept of the facts: held sides and used identifiers.

or_false : (b : Bool) → (b || false) ≡ b
or_false true = refl
or_false false = refl

left_true : (a b : Bool) → a ≡ true → (a || b) ≡ true
left_true true b h = refl
left_true false b h = cc

right_true : (a b : Bool) → b ≡ true → (a || b) ≡ true
right_true true b h = refl
right_true false b h = h

both_parts : (a b : Bool) → (a && b) ≡ true → (a ≡ true) × (b ≡ true)
both_parts true b h = (refl, h)
both_parts false b h = cc

-- the identifiers of orders, and of crosses

and_false : (a : Bool) → (a && false) ≡ false
and_false true = refl
and_false false = refl

pub used-names : (fs : List Fact) (who : ℕ) (id : List ℕ) → are_own fs ≡ true → list_any (is_of who id) (order_names fs) ≡ is_order_id_used fs who id
used-names [] who id own = refl
used-names (Held h ∷ fs) who id own = ap (λ b. is_name who id h.order.who h.order.id || b) (used-names fs who id own)
used-names (Unheld u ∷ fs) who id own = by u.cancel (used-names fs who id own)
  where
    by : (x : Option (List ℕ)) → list_any (is_of who id) (order_names fs) ≡ is_order_id_used fs who id → list_any (is_of who id) (cons_option (order_name (Unheld (record { who = u.who; id = u.id; cancel = x }))) (order_names fs)) ≡ ((who == u.who && is_bytes id x) || is_order_id_used fs who id)
    by None e = rw (and_false (who == u.who)) e
    by (Some c) e = ap (λ b. (who == u.who && bytes_eq id c) || b) e
used-names (Entered e ∷ fs) who id own = cc
used-names (Traded t ∷ fs) who id own = cc
used-names (Removed r ∷ fs) who id own = cc
used-names (Asked r ∷ fs) who id own = cc
used-names (Quoted q ∷ fs) who id own = cc
used-names (Withdrawn w ∷ fs) who id own = cc
used-names (Closed c ∷ fs) who id own = cc

pub crossed-names : (fs : List Fact) (who : ℕ) (id : List ℕ) → list_any (is_of who id) (cross_names fs) ≡ is_cross_id_used fs who id
crossed-names [] who id = refl
crossed-names (Held h ∷ fs) who id = ap (λ b. is_name who id h.order.who h.cross || b) (crossed-names fs who id)
crossed-names (Unheld u ∷ fs) who id = crossed-names fs who id
crossed-names (Entered e ∷ fs) who id = crossed-names fs who id
crossed-names (Traded t ∷ fs) who id = crossed-names fs who id
crossed-names (Removed r ∷ fs) who id = crossed-names fs who id
crossed-names (Asked r ∷ fs) who id = crossed-names fs who id
crossed-names (Quoted q ∷ fs) who id = crossed-names fs who id
crossed-names (Withdrawn w ∷ fs) who id = crossed-names fs who id
crossed-names (Closed c ∷ fs) who id = crossed-names fs who id

pub orders-added : (fs gs : List Fact) → order_names (fs ++ gs) ≡ order_names fs ++ order_names gs
orders-added fs gs = filter_map-append order_name fs gs

pub crosses-added : (fs gs : List Fact) → cross_names (fs ++ gs) ≡ cross_names fs ++ cross_names gs
crosses-added fs gs = filter_map-append cross_name fs gs

-- readings of the held sides

filter-twice : (p q r : HeldSide → Bool) → ((h : HeldSide) → r h ≡ (q h && p h)) → (hs : List HeldSide) → filter r hs ≡ filter p (filter q hs)
filter-twice p q r same [] = refl
filter-twice p q r same (h ∷ hs) = ap (λ b. cond b (h ∷ filter r hs) (filter r hs)) (same h) ∙ by (q h) (p h) refl (filter-twice p q r same hs)
  where
    by : (a b : Bool) → p h ≡ b → filter r hs ≡ filter p (filter q hs) → cond (a && b) (h ∷ filter r hs) (filter r hs) ≡ filter p (cond a (h ∷ filter q hs) (filter q hs))
    by true true e ih = rw e (ap (λ ks. h ∷ ks) ih)
    by true false e ih = rw e ih
    by false b e ih = ih

second : (a b : Bool) → (a && b) ≡ true → b ≡ true
second true b h = h
second false b h = cc

pub due-kept : (fs : List Fact) (t : ℕ) → first_due t (by_due (held fs)) ≡ due fs t
due-kept fs t = first-by_due t (held fs)

pub found-kept : (fs : List Fact) (who : ℕ) (id : List ℕ) → IsKnown fs → find (λ h. is_name who id h.order.who h.order.id) (by_due (held fs)) ≡ find_held fs who id
found-kept fs who id known =
    let n : HeldSide → Bool = λ h. is_name who id h.order.who h.order.id in
    let s : HeldSide → Bool = stands fs in
    let twice = filter-twice n s (λ h. s h && n h) (λ h. refl) (held_sides fs) in
    find-by_due n (held fs) (omega (arith, ap length twice, filter-less (λ h. s h && n h) n (held_sides fs) (λ h. second (s h) (n h)), known.apart who id))

-- a further side is held

alike : (p q : HeldSide → Bool) (hs : List HeldSide) → ((h : HeldSide) → p h ≡ q h) → filter p hs ≡ filter q hs
alike p q [] same = refl
alike p q (h ∷ hs) same = rw (same h, alike p q hs same) refl

sides-held : (fs : List Fact) (h : HeldSide) → held_sides (fs ++ Held h ∷ []) ≡ held_sides fs ++ h ∷ []
sides-held fs h = filter_map-append held_in fs (Held h ∷ [])

sides-dropped : (fs : List Fact) (u : Release) → held_sides (fs ++ Unheld u ∷ []) ≡ held_sides fs
sides-dropped fs u = filter_map-append held_in fs (Unheld u ∷ []) ∙ append-nil (held_sides fs)

held-held : (fs : List Fact) (h : HeldSide) → list_any (releases h) fs ≡ false → held (fs ++ Held h ∷ []) ≡ held fs ++ h ∷ []
held-held fs h new =
    ap (filter (stands (fs ++ Held h ∷ []))) (sides-held fs h)
    ∙ alike (stands (fs ++ Held h ∷ [])) (stands fs) (held_sides fs ++ h ∷ []) (λ k. ap not (list_any-append (releases k) fs (Held h ∷ []) ∙ or_false (list_any (releases k) fs)))
    ∙ filter-append (stands fs) (held_sides fs) (h ∷ [])
    ∙ ap (λ b. held fs ++ cond (not b) (h ∷ []) []) new

-- the hold of the sides with a name ends

held-dropped : (fs : List Fact) (u : Release) → held (fs ++ Unheld u ∷ []) ≡ filter (λ h. not (releases h (Unheld u))) (held fs)
held-dropped fs u =
    ap (filter (stands (fs ++ Unheld u ∷ []))) (sides-dropped fs u)
    ∙ filter-twice (λ h. not (releases h (Unheld u))) (stands fs) (stands (fs ++ Unheld u ∷ [])) (λ h. ap not (list_any-append (releases h) fs (Unheld u ∷ [])) ∙ parted (list_any (releases h) fs) (releases h (Unheld u))) (held_sides fs)
  where
    parted : (a b : Bool) → not (a || (b || false)) ≡ (not a && not b)
    parted true b = refl
    parted false true = refl
    parted false false = refl

-- names

same-name : (who : ℕ) (id : List ℕ) (a : ℕ) (b : List ℕ) → is_name who id a b ≡ true → (who ≡ a) × (id ≡ b)
same-name who id a b h =
    let p : (who == a ≡ true) × (bytes_eq id b ≡ true) = both_parts (who == a) (bytes_eq id b) h in
    (eqb-true who a p.0, (bytes_eq-Decides id b).0 p.1)

-- the identifier of a side that was held is used

one-used : (who : ℕ) (id : List ℕ) (f : Fact) (fs : List Fact) → (list_any (λ h. is_name who id h.order.who h.order.id) (held_sides fs) ≡ true → is_order_id_used fs who id ≡ true) → list_any (λ h. is_name who id h.order.who h.order.id) (held_sides fs) ≡ true → is_order_id_used (f ∷ fs) who id ≡ true
one-used who id f fs ih h = right_true (uses_order_id who id f) (is_order_id_used fs who id) (ih h)

sides-used : (fs : List Fact) (who : ℕ) (id : List ℕ) → list_any (λ h. is_name who id h.order.who h.order.id) (held_sides fs) ≡ true → is_order_id_used fs who id ≡ true
sides-used [] who id h = h
sides-used (Held k ∷ fs) who id h = by (is_name who id k.order.who k.order.id) h (sides-used fs who id)
  where
    by : (b : Bool) → (b || list_any (λ h. is_name who id h.order.who h.order.id) (held_sides fs)) ≡ true → (list_any (λ h. is_name who id h.order.who h.order.id) (held_sides fs) ≡ true → is_order_id_used fs who id ≡ true) → (b || is_order_id_used fs who id) ≡ true
    by true h ih = refl
    by false h ih = ih h
sides-used (Unheld u ∷ fs) who id h = one-used who id (Unheld u) fs (sides-used fs who id) h
sides-used (Entered e ∷ fs) who id h = one-used who id (Entered e) fs (sides-used fs who id) h
sides-used (Traded t ∷ fs) who id h = one-used who id (Traded t) fs (sides-used fs who id) h
sides-used (Removed r ∷ fs) who id h = one-used who id (Removed r) fs (sides-used fs who id) h
sides-used (Asked r ∷ fs) who id h = one-used who id (Asked r) fs (sides-used fs who id) h
sides-used (Quoted q ∷ fs) who id h = one-used who id (Quoted q) fs (sides-used fs who id) h
sides-used (Withdrawn w ∷ fs) who id h = one-used who id (Withdrawn w) fs (sides-used fs who id) h
sides-used (Closed c ∷ fs) who id h = one-used who id (Closed c) fs (sides-used fs who id) h

find-any : (n s : HeldSide → Bool) (hs : List HeldSide) → IsSome (find n (filter s hs)) → list_any n hs ≡ true
find-any n s [] h = cc
find-any n s (k ∷ ks) h = by (s k) (n k) refl h (find-any n s ks)
  where
    by : (a b : Bool) → n k ≡ b → IsSome (find n (cond a (k ∷ filter s ks) (filter s ks))) → (IsSome (find n (filter s ks)) → list_any n ks ≡ true) → (b || list_any n ks) ≡ true
    by a true e h ih = refl
    by true false e h ih = ih (rw e at h)
    by false false e h ih = ih h

found-used : (fs : List Fact) (who : ℕ) (id : List ℕ) → IsSome (find_held fs who id) → is_order_id_used fs who id ≡ true
found-used fs who id h = sides-used fs who id (find-any (λ k. is_name who id k.order.who k.order.id) (stands fs) (held_sides fs) h)

used-on : (fs gs : List Fact) (who : ℕ) (id : List ℕ) → is_order_id_used fs who id ≡ true → is_order_id_used (fs ++ gs) who id ≡ true
used-on fs gs who id h = list_any-append (uses_order_id who id) fs gs ∙ left_true (is_order_id_used fs who id) (is_order_id_used gs who id) h

-- the invariant of the identifiers, step by step

none-named : (n : HeldSide → Bool) (hs : List HeldSide) → (list_any n hs ≡ true → ⊥) → length (filter n hs) ≡ 0
none-named n [] h = refl
none-named n (k ∷ ks) h = by (n k) refl (none-named n ks (λ l. h (right_true (n k) (list_any n ks) l)))
  where
    by : (b : Bool) → n k ≡ b → length (filter n ks) ≡ 0 → length (cond b (k ∷ filter n ks) (filter n ks)) ≡ 0
    by true e ih = absurd (h (left_true (n k) (list_any n ks) e))
    by false e ih = ih

unlike : (b : Bool) → b ≡ false → b ≡ true → ⊥
unlike true h k = cc
unlike false h k = cc

apart-held : (fs : List Fact) (h : HeldSide) → IsKnown fs → is_order_id_used fs h.order.who h.order.id ≡ false → (who : ℕ) (id : List ℕ) → length (filter (λ k. is_name who id k.order.who k.order.id) (held_sides (fs ++ Held h ∷ []))) ≤ 1
apart-held fs h known new who id =
    let n : HeldSide → Bool = λ k. is_name who id k.order.who k.order.id in
    let parts : length (filter n (held_sides (fs ++ Held h ∷ []))) ≡ length (filter n (held_sides fs)) + length (filter n (h ∷ [])) = ap (λ hs. length (filter n hs)) (sides-held fs h) ∙ ap length (filter-append n (held_sides fs) (h ∷ [])) ∙ length-append (filter n (held_sides fs)) (filter n (h ∷ [])) in
    omega (arith, parts, by (n h) refl)
  where
    by : (b : Bool) → is_name who id h.order.who h.order.id ≡ b → length (filter (λ k. is_name who id k.order.who k.order.id) (held_sides fs)) + length (cond b (h ∷ []) []) ≤ 1
    by true e =
        let name : (who ≡ h.order.who) × (id ≡ h.order.id) = same-name who id h.order.who h.order.id e in
        let free : is_order_id_used fs who id ≡ false = ap (λ w. is_order_id_used fs w id) name.0 ∙ ap (is_order_id_used fs h.order.who) name.1 ∙ new in
        let none = none-named (λ k. is_name who id k.order.who k.order.id) (held_sides fs) (λ l. unlike (is_order_id_used fs who id) free (sides-used fs who id l)) in
        omega (arith, none)
    by false e = omega (arith, known.apart who id)

released-held : (fs : List Fact) (h : HeldSide) → IsKnown fs → (k : HeldSide) → list_any (releases k) (fs ++ Held h ∷ []) ≡ true → is_order_id_used (fs ++ Held h ∷ []) k.order.who k.order.id ≡ true
released-held fs h known k r = used-on fs (Held h ∷ []) k.order.who k.order.id (known.released k (sym (list_any-append (releases k) fs (Held h ∷ []) ∙ or_false (list_any (releases k) fs)) ∙ r))

released-dropped : (fs : List Fact) (u : Release) → IsKnown fs → IsSome (find_held fs u.who u.id) → (k : HeldSide) → list_any (releases k) (fs ++ Unheld u ∷ []) ≡ true → is_order_id_used (fs ++ Unheld u ∷ []) k.order.who k.order.id ≡ true
released-dropped fs u known found k r = used-on fs (Unheld u ∷ []) k.order.who k.order.id (by (list_any (releases k) fs) (is_name k.order.who k.order.id u.who u.id) refl refl (sym (list_any-append (releases k) fs (Unheld u ∷ [])) ∙ r))
  where
    by : (a b : Bool) → list_any (releases k) fs ≡ a → is_name k.order.who k.order.id u.who u.id ≡ b → (a || (b || false)) ≡ true → is_order_id_used fs k.order.who k.order.id ≡ true
    by true b e f r = known.released k e
    by false true e f r =
        let name : (k.order.who ≡ u.who) × (k.order.id ≡ u.id) = same-name k.order.who k.order.id u.who u.id f in
        ap (λ w. is_order_id_used fs w k.order.id) name.0 ∙ ap (is_order_id_used fs u.who) name.1 ∙ found-used fs u.who u.id found
    by false false e f r = cc

pub known-none : IsKnown []
known-none = record { released = λ h r. r; apart = λ who id. omega arith }

known-step : (fs : List Fact) (step : Step) → IsKnown fs → IsAllowed fs step → IsKnown (fs ++ facts_of step)
known-step fs Nothing known allowed = rw (append-nil fs) known
known-step fs (Holds h) known allowed = record { released = released-held fs h known; apart = apart-held fs h known allowed.1 }
known-step fs (Drops who id cancel) known allowed =
    let u : Release = record { who = who; id = id; cancel = cancel } in
    record {
      released = released-dropped fs u known allowed;
      apart = λ a b. rw (sides-dropped fs u) (known.apart a b);
    }

sides-step : (fs : List Fact) (step : Step) → IsKnown fs → IsAllowed fs step → by_due (held (fs ++ facts_of step)) ≡ steps (by_due (held fs)) (facts_of step)
sides-step fs Nothing known allowed = ap (λ gs. by_due (held gs)) (append-nil fs)
sides-step fs (Holds h) known allowed = ap by_due (held-held fs h (by (list_any (releases h) fs) refl)) ∙ by_due-more (held fs) h
  where
    by : (b : Bool) → list_any (releases h) fs ≡ b → list_any (releases h) fs ≡ false
    by true e = absurd (unlike (is_order_id_used fs h.order.who h.order.id) allowed.1 (known.released h e))
    by false e = e
sides-step fs (Drops who id cancel) known allowed =
    let u : Release = record { who = who; id = id; cancel = cancel } in
    ap by_due (held-dropped fs u) ∙ filter-by_due (λ h. not (releases h (Unheld u))) (held fs)

-- a planned step

pub known-kept : (delay : Contents) (added : List Fact) → IsKnown delay.facts → IsPlanOf delay added → IsKnown (delay.facts ++ added)
known-kept delay added known plan = rw plan.made (known-step delay.facts plan.step known plan.allowed)

pub sides-kept : (delay : Contents) (added : List Fact) → IsKnown delay.facts → IsPlanOf delay added → by_due (held (delay.facts ++ added)) ≡ steps (by_due (held delay.facts)) added
sides-kept delay added known plan = rw plan.made (sides-step delay.facts plan.step known plan.allowed)

-- whether the held sides are at capacity

pub full-kept : (fs : List Fact) (sides : List HeldSide) → sides ≡ by_due (held fs) → nat_le held_capacity (length sides) ≡ is_full fs
full-kept fs sides same = ap (nat_le held_capacity) (ap length same ∙ length-by_due (held fs))
