use Rattle.std.proofs.Common.{◌≡◌, refl, sym, ap, ◌∙◌, subst, inl, inr, ℕ, suc, ◌+◌, ◌-◌, ◌<◌, ◌≤◌, ◌==◌, Bool, true, false, cond, if◌then◌else◌, ◌&&◌, ◌||◌, nat_lt, List, [], ◌∷◌, ◌++◌, length, map, filter, arith, append_assoc, append-nil, length-append, eqb-true, ltb-true}
use Rattle.std.specs.List.{list_any, sum_by}
use Rattle.std.proofs.lemmas.Bool.{true≢false, and_parts}
use Rattle.std.proofs.lemmas.Bool.Decides.{nat_tests}
use Rattle.std.proofs.lemmas.List.Elements.{filter_map-append, filter-append}
use Rattle.std.proofs.lemmas.List.Folds.{list_any-append}
use Rattle.std.proofs.lemmas.List.Sums.{sum_by-append}
use Rattle.fix_dictionary.specs.declared.values.Side.{Side}
use Rattle.fix_dictionary.specs.declared.values.Side.TheVariants.{Buy, Sell}
use Rattle.venue_rules.specs.declared.facts.Fact.{Fact}
use Rattle.venue_rules.specs.declared.facts.Fact.TheVariants.{Entered, Removed, Traded}
use Rattle.venue_rules.specs.declared.facts.Entry.{Entry}
use Rattle.venue_rules.specs.declared.facts.Removal.{Removal}
use Rattle.venue_rules.specs.declared.facts.Trade.{Trade}
use Rattle.venue_rules.specs.Facts.{entries, entry_in, trades, trade_in}
use Rattle.venue_rules.specs.Book.{Fill, Resting, filled_by, is_better, is_day, is_side, left, rank, ranked, removes, resting, rests, side_capacity, takes_part, traded, with_left}
use Rattle.venue_rules.specs.Entering.{entry_facts, trade_of}
use Rattle.venue_rules.proofs.Members.{In}
use Rattle.venue_rules.proofs.Own.{left-own}

-- At most 200 orders rest on a side, after further facts too, where an order comes to rest only below capacity.

abbrev pub IsShort : List Fact → Type 0
IsShort facts = (x : ℕ) (side : Side) → length (resting facts x side) ≤ side_capacity

-- no fact raises a leaves quantity

less_left : (gone more : Bool) (q s z : ℕ) → (if gone || more then 0 else q - (s + z)) ≤ (if gone then 0 else q - s)
less_left true more q s z = omega arith
less_left false true q s z = omega arith
less_left false false q s z = omega arith

pub left-less : (facts more : List Fact) (e : Entry) → left (facts ++ more) e ≤ left facts e
left-less facts more e =
    let gone : list_any (removes e.number) (facts ++ more) ≡ (list_any (removes e.number) facts || list_any (removes e.number) more) = list_any-append (removes e.number) facts more in
    let sold : traded (facts ++ more) e.number ≡ traded facts e.number + traded more e.number =
    ap (sum_by (λ (t : Trade). if takes_part e.number t.place then t.quantity else 0)) (filter_map-append trade_in facts more) ∙ sum_by-append (λ (t : Trade). if takes_part e.number t.place then t.quantity else 0) (trades facts) (trades more) in
    let same : left (facts ++ more) e ≡ (if list_any (removes e.number) facts || list_any (removes e.number) more then 0 else e.order.quantity - (traded facts e.number + traded more e.number)) =
    ap (λ b. if b then 0 else e.order.quantity - traded (facts ++ more) e.number) gone ∙ ap (λ n. if list_any (removes e.number) facts || list_any (removes e.number) more then 0 else e.order.quantity - n) sold in
    subst (λ n. n ≤ left facts e) (sym same) (less_left (list_any (removes e.number) facts) (list_any (removes e.number) more) e.order.quantity (traded facts e.number) (traded more e.number))

-- an entry that rests, by the leaves quantity of these facts
abbrev stays : List Fact → ℕ → Side → Entry → Bool
stays facts x side e = rests x side (with_left (left facts) e)

rested_before : (day here its : Bool) (l l' : ℕ) → l' ≤ l → (day && (here && (its && nat_lt 0 l'))) ≡ true → (day && (here && (its && nat_lt 0 l))) ≡ true
rested_before true true true l l' less h = grind (arith, nat_tests)
rested_before true true false l l' less h = h
rested_before true false its l l' less h = h
rested_before false here its l l' less h = h

stayed : (facts more : List Fact) (x : ℕ) (side : Side) (e : Entry) → stays (facts ++ more) x side e ≡ true → stays facts x side e ≡ true
stayed facts more x side e h = rested_before (is_day e.order.life) (e.order.instrument == x) (is_side e.order.side side) (left facts e) (left (facts ++ more) e) (left-less facts more e) h

-- resting orders are counted among the entries

rank_case_length : (side : Side) (r s : Resting) (ss : List Resting) (b : Bool) → length (rank side r ss) ≡ suc (length ss) → length (if b then s ∷ rank side r ss else r ∷ s ∷ ss) ≡ suc (suc (length ss))
rank_case_length side r s ss true e = ap suc e
rank_case_length side r s ss false e = refl

rank-length : (side : Side) (r : Resting) (ss : List Resting) → length (rank side r ss) ≡ suc (length ss)
rank-length side r [] = refl
rank-length side r (s ∷ ss) = rank_case_length side r s ss (is_better side s.entry.order.price r.entry.order.price) (rank-length side r ss)

ranked-length : (side : Side) (rs : List Resting) → length (ranked side rs) ≡ length rs
ranked-length side [] = refl
ranked-length side (r ∷ rs) = rank-length side r (ranked side rs) ∙ ap suc (ranked-length side rs)

counted_case : {X Y : Type 0} (x : X) (y : Y) (xs : List X) (ys : List Y) (b : Bool) → length ys ≡ length xs → length (cond b (y ∷ ys) ys) ≡ length (cond b (x ∷ xs) xs)
counted_case x y xs ys true e = ap suc e
counted_case x y xs ys false e = e

counted : (x : ℕ) (side : Side) (l : Entry → ℕ) (es : List Entry) → length (filter (rests x side) (map (with_left l) es)) ≡ length (filter (λ (e : Entry). rests x side (with_left l e)) es)
counted x side l [] = refl
counted x side l (e ∷ es) = counted_case e (with_left l e) (filter (λ (y : Entry). rests x side (with_left l y)) es) (filter (rests x side) (map (with_left l) es)) (rests x side (with_left l e)) (counted x side l es)

resting-length : (facts : List Fact) (x : ℕ) (side : Side) → length (resting facts x side) ≡ length (filter (stays facts x side) (entries facts))
resting-length facts x side = ranked-length side (filter (rests x side) (map (with_left (left facts)) (entries facts))) ∙ counted x side (left facts) (entries facts)

-- a stronger test passes no more, and fewer where an element passes the weaker alone

fewer_case : {X : Type 0} (x : X) (xs ys : List X) (a b : Bool) → (a ≡ true → b ≡ true) → length xs ≤ length ys → length (cond a (x ∷ xs) xs) ≤ length (cond b (x ∷ ys) ys)
fewer_case x xs ys true true h le = omega (arith, le)
fewer_case x xs ys true false h le = absurd (true≢false (sym (h refl)))
fewer_case x xs ys false true h le = omega (arith, le)
fewer_case x xs ys false false h le = le

fewer : {X : Type 0} (p q : X → Bool) (xs : List X) → ((x : X) → p x ≡ true → q x ≡ true) → length (filter p xs) ≤ length (filter q xs)
fewer p q [] h = omega arith
fewer p q (x ∷ xs) h = fewer_case x (filter p xs) (filter q xs) (p x) (q x) (h x) (fewer p q xs h)

one_fewer : {X : Type 0} (x : X) (xs ys : List X) (a b : Bool) → a ≡ false → b ≡ true → length xs ≤ length ys → length (cond a (x ∷ xs) xs) < length (cond b (x ∷ ys) ys)
one_fewer x xs ys true b h k le = absurd (true≢false h)
one_fewer x xs ys false true h k le = omega (arith, le)
one_fewer x xs ys false false h k le = absurd (true≢false (sym k))

less_behind : {X : Type 0} (x : X) (xs ys : List X) (a b : Bool) → (a ≡ true → b ≡ true) → length xs < length ys → length (cond a (x ∷ xs) xs) < length (cond b (x ∷ ys) ys)
less_behind x xs ys true true h lt = omega (arith, lt)
less_behind x xs ys true false h lt = absurd (true≢false (sym (h refl)))
less_behind x xs ys false true h lt = omega (arith, lt)
less_behind x xs ys false false h lt = lt

still_fewer : {X : Type 0} (p q : X → Bool) (xs : List X) (x : X) → ((y : X) → p y ≡ true → q y ≡ true) → In x xs → p x ≡ false → q x ≡ true → length (filter p xs) < length (filter q xs)
still_fewer p q [] x h i gone there = absurd i
still_fewer p q (y ∷ ys) x h (inl same) gone there = one_fewer y (filter p ys) (filter q ys) (p y) (q y) (ap p same ∙ gone) (ap q same ∙ there) (fewer p q ys h)
still_fewer p q (y ∷ ys) x h (inr i) gone there = less_behind y (filter p ys) (filter q ys) (p y) (q y) (h y) (still_fewer p q ys x h i gone there)

-- resting orders after further facts: at most those that rested, plus those entered since

more_resting : (facts more : List Fact) (x : ℕ) (side : Side) → length (resting (facts ++ more) x side) ≤ length (resting facts x side) + length (filter (stays (facts ++ more) x side) (entries more))
more_resting facts more x side =
    let now : Entry → Bool = stays (facts ++ more) x side in
    let all : length (resting (facts ++ more) x side) ≡ length (filter now (entries facts)) + length (filter now (entries more)) =
    resting-length (facts ++ more) x side ∙ (ap (λ es. length (filter now es)) (filter_map-append entry_in facts more) ∙ (ap length (filter-append now (entries facts) (entries more)) ∙ length-append (filter now (entries facts)) (filter now (entries more)))) in
    let old : length (filter now (entries facts)) ≤ length (filter (stays facts x side) (entries facts)) = fewer now (stays facts x side) (entries facts) (stayed facts more x side) in
    let was : length (resting facts x side) ≡ length (filter (stays facts x side) (entries facts)) = resting-length facts x side in
    omega (arith, all, old, was)

no_more : (facts more : List Fact) → entries more ≡ [] → (x : ℕ) (side : Side) → length (resting (facts ++ more) x side) ≤ length (resting facts x side)
no_more facts more none x side =
    let all : length (resting (facts ++ more) x side) ≤ length (resting facts x side) + length (filter (stays (facts ++ more) x side) (entries more)) = more_resting facts more x side in
    let zero : length (filter (stays (facts ++ more) x side) (entries more)) ≡ 0 = ap (λ es. length (filter (stays (facts ++ more) x side) es)) none in
    omega (arith, all, zero)

-- no order entered
pub quiet-IsShort : (facts more : List Fact) → IsShort facts → entries more ≡ [] → IsShort (facts ++ more)
quiet-IsShort facts more short none x side =
    let less : length (resting (facts ++ more) x side) ≤ length (resting facts x side) = no_more facts more none x side in
    let few : length (resting facts x side) ≤ side_capacity = short x side in
    omega (arith, less, few)

-- an order's leaves quantity is at most what its fills leave
own-left : (facts : List Fact) (e : Entry) (fs : List Fill) → left (facts ++ entry_facts e fs) e ≤ e.order.quantity - filled_by fs
own-left facts e fs =
    let split : left (facts ++ entry_facts e fs) e ≡ left (facts ++ (Entered e ∷ [])) e - filled_by fs = ap (λ xs. left xs e) (sym (append_assoc facts (Entered e ∷ []) _)) ∙ left-own (facts ++ (Entered e ∷ [])) e fs in
    let most : left (facts ++ (Entered e ∷ [])) e ≤ e.order.quantity = at_most (list_any (removes e.number) (facts ++ (Entered e ∷ []))) e.order.quantity (traded (facts ++ (Entered e ∷ [])) e.number) in
    omega (arith, split, most)
  where
    at_most : (b : Bool) (q s : ℕ) → (if b then 0 else q - s) ≤ q
    at_most true q s = omega arith
    at_most false q s = omega arith

same_side : (a b : Side) → is_side a b ≡ true → a ≡ b
same_side Buy Buy h = refl
same_side Buy Sell h = absurd (true≢false (sym h))
same_side Sell Buy h = absurd (true≢false (sym h))
same_side Sell Sell h = refl

-- an order with a rest, on a side below capacity
abbrev pub HasRoom : List Fact → Entry → List Fill → Type 0
HasRoom facts e fs = is_day e.order.life ≡ true → filled_by fs < e.order.quantity → length (resting facts e.order.instrument e.order.side) < side_capacity

no_entries : (e : Entry) (fs : List Fill) → entries (entry_facts e fs) ≡ e ∷ []
no_entries e fs = ap (λ es. e ∷ es) (none fs)
  where
    none : (gs : List Fill) → entries (map (λ f. Traded (trade_of e f)) gs) ≡ []
    none [] = refl
    none (g ∷ gs) = none gs

-- an order entered
pub entered-IsShort : (facts : List Fact) (e : Entry) (fs : List Fill) → IsShort facts → HasRoom facts e fs → IsShort (facts ++ entry_facts e fs)
entered-IsShort facts e fs short room x side = go (stays (facts ++ entry_facts e fs) x side e) refl
  where
    now : Entry → Bool
    now y = stays (facts ++ entry_facts e fs) x side y

    all : length (resting (facts ++ entry_facts e fs) x side) ≤ length (resting facts x side) + length (filter (stays (facts ++ entry_facts e fs) x side) (e ∷ []))
    all = subst (λ es. length (resting (facts ++ entry_facts e fs) x side) ≤ length (resting facts x side) + length (filter (stays (facts ++ entry_facts e fs) x side) es)) (no_entries e fs) (more_resting facts (entry_facts e fs) x side)

    one : (b : Bool) → stays (facts ++ entry_facts e fs) x side e ≡ b → length (filter (stays (facts ++ entry_facts e fs) x side) (e ∷ [])) ≡ length (cond b (e ∷ []) [])
    one b h = ap (λ c. length (cond c (e ∷ []) [])) h

    go : (b : Bool) → stays (facts ++ entry_facts e fs) x side e ≡ b → length (resting (facts ++ entry_facts e fs) x side) ≤ side_capacity
    go false h = let none = one false h in let few = short x side in omega (arith, all, none, few)
    go true h =
        let day = and_parts (is_day e.order.life) (e.order.instrument == x && (is_side e.order.side side && nat_lt 0 (left (facts ++ entry_facts e fs) e))) h in
        let here = and_parts (e.order.instrument == x) (is_side e.order.side side && nat_lt 0 (left (facts ++ entry_facts e fs) e)) day.1 in
        let its = and_parts (is_side e.order.side side) (nat_lt 0 (left (facts ++ entry_facts e fs) e)) here.1 in
        let some : 0 < left (facts ++ entry_facts e fs) e = ltb-true 0 (left (facts ++ entry_facts e fs) e) its.1 in
        let most : left (facts ++ entry_facts e fs) e ≤ e.order.quantity - filled_by fs = own-left facts e fs in
        let low : length (resting facts e.order.instrument e.order.side) < side_capacity = room day.0 (omega (arith, some, most)) in
        let place : length (resting facts e.order.instrument e.order.side) ≡ length (resting facts x side) = (λ j. length (resting facts (eqb-true e.order.instrument x here.0 j) (same_side e.order.side side its.0 j))) in
        let just = one true h in
        omega (arith, all, just, low, place)

-- a resting order left, so another one fits
gone_first : (any b : Bool) → b ≡ true → (any || (b || false)) ≡ true
gone_first true b h = refl
gone_first false true h = refl
gone_first false false h = absurd (true≢false (sym h))

left-gone : (facts : List Fact) (r : Removal) (e : Entry) → (r.order == e.number) ≡ true → left (facts ++ (Removed r ∷ [])) e ≡ 0
left-gone facts r e h = ap (λ b. if b then 0 else e.order.quantity - traded (facts ++ (Removed r ∷ [])) e.number) (list_any-append (removes e.number) facts (Removed r ∷ []) ∙ gone_first (list_any (removes e.number) facts) (r.order == e.number) h)

rests_nowhere : (day here its : Bool) (l : ℕ) → l ≡ 0 → (day && (here && (its && nat_lt 0 l))) ≡ false
rests_nowhere true true true l e = ap (λ n. nat_lt 0 n) e
rests_nowhere true true false l e = refl
rests_nowhere true false its l e = refl
rests_nowhere false here its l e = refl

pub one_left : (facts : List Fact) (r : Removal) (x : ℕ) (side : Side) (e : Entry) → In e (entries facts) → (r.order == e.number) ≡ true → rests x side (with_left (left facts) e) ≡ true → length (resting (facts ++ (Removed r ∷ [])) x side) < length (resting facts x side)
one_left facts r x side e i h there =
    let now : Entry → Bool = stays (facts ++ (Removed r ∷ [])) x side in
    let same : entries (facts ++ (Removed r ∷ [])) ≡ entries facts = filter_map-append entry_in facts (Removed r ∷ []) ∙ append-nil (entries facts) in
    let after : length (resting (facts ++ (Removed r ∷ [])) x side) ≡ length (filter now (entries facts)) = resting-length (facts ++ (Removed r ∷ [])) x side ∙ ap (λ es. length (filter now es)) same in
    let was : length (resting facts x side) ≡ length (filter (stays facts x side) (entries facts)) = resting-length facts x side in
    let gone : now e ≡ false = rests_nowhere (is_day e.order.life) (e.order.instrument == x) (is_side e.order.side side) (left (facts ++ (Removed r ∷ [])) e) (left-gone facts r e h) in
    let less : length (filter now (entries facts)) < length (filter (stays facts x side) (entries facts)) = still_fewer now (stays facts x side) (entries facts) e (stayed facts (Removed r ∷ []) x side) i gone there in
    omega (arith, after, was, less)
