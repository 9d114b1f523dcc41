use Rattle.std.proofs.Common.{◌≡◌, refl, sym, ap, ◌∙◌, subst, inl, inr, ◌⊎◌, ℕ, ℤ, ◌+◌, ◌-◌, ◌<◌, ◌≤◌, min, Bool, true, false, cond, if◌then◌else◌, ◌&&◌, nat_lt, List, [], ◌∷◌, ◌++◌, map, filter, take, arith, length, append_assoc, length-append, take_at, ltb-false, ltb-true, eq-eqb, ◌==◌, ◌||◌}
use Rattle.std.specs.List.{sum, sum_by, enumerate_from}
use Rattle.std.proofs.lemmas.Int.{ints}
use Rattle.std.proofs.lemmas.Bool.{true≢false, cases_lt, or_right}
use Rattle.std.proofs.lemmas.List.Elements.{filter_map-append}
use Rattle.std.proofs.lemmas.List.Sums.{sum_by_push}
use Rattle.fix_dictionary.specs.declared.values.Side.{Side}
use Rattle.fix_dictionary.specs.declared.values.Side.TheVariants.{Buy, Sell}
use Rattle.instruments.specs.Listing.{delay_of}
use Rattle.venue_rules.specs.declared.facts.Fact.{Fact}
use Rattle.venue_rules.specs.declared.facts.Fact.TheVariants.{Entered, Traded}
use Rattle.venue_rules.specs.declared.facts.Entry.{Entry}
use Rattle.venue_rules.specs.declared.replies.Reply.{Reply}
use Rattle.venue_rules.specs.Market.{Market}
use Rattle.venue_rules.specs.Facts.{entries, entry_in, next_order}
use Rattle.venue_rules.specs.Book.{Resting, Fill, resting, rests, left, opposite, accepts, is_better, is_linked, is_too_soon, shares, paired, fills, against, is_killed, with_left}
use Rattle.venue_rules.specs.Entering.{trade_of, entry_facts}
use Rattle.venue_rules.proofs.Members.{In, Places, Places-append, In-append_right, filter-none}
use Rattle.venue_rules.proofs.Follows.{Follows, Each}
use Rattle.venue_rules.proofs.Ranks.{Ordered, ranked-Ordered}
use Rattle.venue_rules.proofs.Lefts.{resting-entered, resting-traded, entries_traded, In-resting, rests_left, side_opposite, left_traded, left_entered, taken_part}
use Rattle.venue_rules.proofs.Trading.{IsFresh, fresh-left}

-- An entering order trades with the best resting order at each step.

-- the shares, in turn
abbrev pub in_turn : ℕ → List ℕ → List ℕ
in_turn q [] = []
in_turn q (l ∷ ls) = min l q ∷ in_turn (q - l) ls

shares_from : (q : ℕ) (all done rest : List ℕ) (n : ℕ) → all ≡ done ++ rest → length done ≡ n → map (λ (p : ℕ × ℕ). min p.1 (q - sum (take p.0 all))) (enumerate_from n rest) ≡ in_turn (q - sum done) rest
shares_from q all done [] n e k = refl
shares_from q all done (l ∷ ls) n e k =
    let first : min l (q - sum (take n all)) ≡ min l (q - sum done) = ap (λ xs. min l (q - sum xs)) (ap (take n) e ∙ take_at done (l ∷ ls) n k) in
    let split : all ≡ (done ++ (l ∷ [])) ++ ls = e ∙ sym (append_assoc done (l ∷ []) ls) in
    let count : length (done ++ (l ∷ [])) ≡ n + 1 = length-append done (l ∷ []) ∙ ap (λ i. i + 1) k in
    let total : q - sum (done ++ (l ∷ [])) ≡ (q - sum done) - l = ap (λ i. q - i) (sum_by_push (λ (x : ℕ). x) done l) ∙ apart (sum done) in
    ap (λ x. x ∷ map (λ (p : ℕ × ℕ). min p.1 (q - sum (take p.0 all))) (enumerate_from (n + 1) ls)) first
    ∙ ap (λ xs. min l (q - sum done) ∷ xs) (shares_from q all (done ++ (l ∷ [])) ls (n + 1) split count ∙ ap (λ i. in_turn i ls) total)
  where
    apart : (s : ℕ) → q - (s + l) ≡ (q - s) - l
    apart s = omega arith

pub shares_in_turn : (q : ℕ) (ls : List ℕ) → shares q ls ≡ in_turn q ls
shares_in_turn q ls = shares_from q ls [] ls 0 refl refl ∙ ap (λ i. in_turn i ls) (none q)
  where
    none : (k : ℕ) → k - 0 ≡ k
    none k = omega arith

-- the positive fills of a quantity with these orders
abbrev pub eats : ℕ → List Resting → List Fill
eats q rs = filter (λ (f : Fill). nat_lt 0 f.quantity) (paired rs (in_turn q (map (λ (r : Resting). r.left) rs)))

eats_case : (f : Fill) (fs : List Fill) (b : Bool) → b ≡ false → cond b (f ∷ fs) fs ≡ fs
eats_case f fs true h = absurd (true≢false h)
eats_case f fs false h = refl

min_none : (l q : ℕ) → q ≡ 0 → nat_lt 0 (min l q) ≡ false
min_none l q e = ap (λ k. nat_lt 0 k) (zero_min l q e)
  where
    zero_min : (a b : ℕ) → b ≡ 0 → min a b ≡ 0
    zero_min a b h = omega (arith, h)

eats_nothing : (q : ℕ) (rs : List Resting) → q ≡ 0 → eats q rs ≡ []
eats_nothing q [] e = refl
eats_nothing q (r ∷ rs) e = eats_case (record { resting = r; quantity = min r.left q }) (eats (q - r.left) rs) (nat_lt 0 (min r.left q)) (min_none r.left q e) ∙ eats_nothing (q - r.left) rs (still q e)
  where
    still : (a : ℕ) → a ≡ 0 → a - r.left ≡ 0
    still a h = omega (arith, h)

-- a refused price refuses those of the orders after it
not_accepted : (side : Side) (limit p s : ℤ) → accepts side limit p ≡ false → is_better (opposite side) s p ≡ false → accepts side limit s ≡ false
not_accepted Buy limit p s h k = grind (arith, ints)
not_accepted Sell limit p s h k = grind (arith, ints)

second_false : (a b : Bool) → (a && b) ≡ false → a ≡ true → b ≡ false
second_false true b h k = h
second_false false b h k = absurd (true≢false (sym k))

abbrev taken_by : Entry → Resting → Bool
taken_by e r = accepts e.order.side e.order.price r.entry.order.price

abbrev trade_facts : Entry → List Fill → List Fact
trade_facts e fs = map (λ f. Traded (trade_of e f)) fs

abbrev NoneTooSoon : Market → Entry → List Fill → Type 0
NoneTooSoon m e fs = (f : Fill) → In f fs → is_too_soon m e.order e.moment f ≡ false

-- the trades follow from these facts, where these orders rest
abbrev Serves : Market → List Reply → Entry → List Resting → Type 0
Serves m rs e ws =
    (facts : List Fact) (q : ℕ) → Places (λ (y : Entry). y.number) 0 (entries facts) → In e (entries facts) → q ≤ left facts e → resting facts e.order.instrument (opposite e.order.side) ≡ ws
    → NoneTooSoon m e (eats q (filter (taken_by e) ws)) → Each (Follows m rs) facts (trade_facts e (eats q (filter (taken_by e) ws)))

Each-none : (m : Market) (rs : List Reply) (e : Entry) (facts : List Fact) (fs : List Fill) → fs ≡ [] → Each (Follows m rs) facts (trade_facts e fs)
Each-none m rs e facts fs h = subst (λ gs. Each (Follows m rs) facts (trade_facts e gs)) (sym h) tt

-- the steps after one trade
after_one : (m : Market) (rs : List Reply) (e : Entry) (r : Resting) (ws : List Resting) → Serves m rs e ws → (facts : List Fact) (q : ℕ) → Places (λ (y : Entry). y.number) 0 (entries facts) → In e (entries facts) → q ≤ left facts e → resting facts e.order.instrument (opposite e.order.side) ≡ r ∷ ws
    → NoneTooSoon m e (eats (q - r.left) (filter (taken_by e) ws)) → (r.left < q) ⊎ (q ≤ r.left)
    → Each (Follows m rs) (facts ++ (Traded (trade_of e (record { resting = r; quantity = min r.left q })) ∷ [])) (trade_facts e (eats (q - r.left) (filter (taken_by e) ws)))
after_one m rs e r ws rec facts q places mine room best soon (inr h) = Each-none m rs e (facts ++ (Traded (trade_of e (record { resting = r; quantity = min r.left q })) ∷ [])) (eats (q - r.left) (filter (taken_by e) ws)) (eats_nothing (q - r.left) (filter (taken_by e) ws) (omega (arith, h)))
after_one m rs e r ws rec facts q places mine room best soon (inl h) =
    let t = trade_of e (record { resting = r; quantity = min r.left q }) in
    rec (facts ++ (Traded t ∷ [])) (q - r.left) (subst (Places (λ (y : Entry). y.number) 0) (sym (entries_traded facts t)) places) (subst (λ es. In e es) (sym (entries_traded facts t)) mine)
    (less_room (left facts e) (left (facts ++ (Traded t ∷ [])) e) q r.left (min r.left q) room h (whole r.left q h) own)
    (resting-traded facts e.order.instrument (opposite e.order.side) r ws e t places best mine (side_opposite e.order.side) refl (whole r.left q h)) soon
  where
    whole : (l k : ℕ) → l < k → min l k ≡ l
    whole l k lt = omega (arith, lt)

    own : left (facts ++ (Traded (trade_of e (record { resting = r; quantity = min r.left q })) ∷ [])) e ≡ left facts e - min r.left q
    own = left_traded facts (trade_of e (record { resting = r; quantity = min r.left q })) e ∙ taken_part (left facts e) (min r.left q) (r.entry.number == e.number || e.number == e.number) (or_right (r.entry.number == e.number) (e.number == e.number) (eq-eqb e.number e.number refl))

    less_room : (n n' k l z : ℕ) → k ≤ n → l < k → z ≡ l → n' ≡ n - z → k - l ≤ n'
    less_room n n' k l z a b c d = omega (arith, a, b, c, d)

min_zero : (l q : ℕ) → nat_lt 0 (min l q) ≡ false → nat_lt 0 l ≡ true → q - l ≡ 0
min_zero l q h k = let a : min l q ≤ 0 = ltb-false 0 (min l q) h in let b : 0 < l = ltb-true 0 l k in omega (arith, a, b)

-- one order, with a share of 0 or above
one_share : (m : Market) (rs : List Reply) (e : Entry) (r : Resting) (ws : List Resting) → Serves m rs e ws → (facts : List Fact) (q : ℕ) → Places (λ (y : Entry). y.number) 0 (entries facts) → In e (entries facts) → q ≤ left facts e → resting facts e.order.instrument (opposite e.order.side) ≡ r ∷ ws → taken_by e r ≡ true
    → (b : Bool) → nat_lt 0 (min r.left q) ≡ b → let fs : List Fill = cond b (record { resting = r; quantity = min r.left q } ∷ eats (q - r.left) (filter (taken_by e) ws)) (eats (q - r.left) (filter (taken_by e) ws)) in NoneTooSoon m e fs → Each (Follows m rs) facts (trade_facts e fs)
one_share m rs e r ws rec facts q places mine room best ok true h soon = (
  (
    e,
    r,
    ws,
    mine,
    refl,
    refl,
    best,
    refl,
    ok,
    (In-resting facts e.order.instrument (opposite e.order.side) r (subst (λ ys. In r ys) (sym best) (inl refl))).0,
    waits,
    refl,
    least_room r.left q (left facts e) room,
    own_room (left facts r.entry) (ap (λ (y : Resting). y.left) entered.1),
  ),
  after_one m rs e r ws rec facts q places mine room best (λ f i. soon f (inr i)) (cases_lt r.left q),
)
  where
    entered : In r.entry (entries facts) × (r ≡ with_left (left facts) r.entry) × (rests e.order.instrument (opposite e.order.side) r ≡ true)
    entered = In-resting facts e.order.instrument (opposite e.order.side) r (subst (λ ys. In r ys) (sym best) (inl refl))

    least_room : (l k n : ℕ) → k ≤ n → min l k ≤ n
    least_room l k n a = omega (arith, a)

    own_room : (n : ℕ) → r.left ≡ n → min r.left q ≤ n
    own_room n a = omega (arith, a)

    waits : is_linked m e.order r.entry.order ≡ true → r.entry.moment + delay_of m.instruments e.order.instrument ≤ e.moment
    waits linked = ltb-false e.moment (r.entry.moment + delay_of m.instruments e.order.instrument) (second_false (is_linked m e.order r.entry.order) (nat_lt e.moment (r.entry.moment + delay_of m.instruments e.order.instrument)) (soon (record { resting = r; quantity = min r.left q }) (inl refl)) linked)
one_share m rs e r ws rec facts q places mine room best ok false h soon =
    let k = In-resting facts e.order.instrument (opposite e.order.side) r (subst (λ ys. In r ys) (sym best) (inl refl)) in
    Each-none m rs e facts (eats (q - r.left) (filter (taken_by e) ws)) (eats_nothing (q - r.left) (filter (taken_by e) ws) (min_zero r.left q h (rests_left e.order.instrument (opposite e.order.side) r k.2)))

-- one order, at an accepted price or not
one_order : (m : Market) (rs : List Reply) (e : Entry) (r : Resting) (ws : List Resting) → Serves m rs e ws → (facts : List Fact) (q : ℕ) → Places (λ (y : Entry). y.number) 0 (entries facts) → In e (entries facts) → q ≤ left facts e → resting facts e.order.instrument (opposite e.order.side) ≡ r ∷ ws
    → (b : Bool) → taken_by e r ≡ b → let ys : List Resting = cond b (r ∷ filter (taken_by e) ws) (filter (taken_by e) ws) in NoneTooSoon m e (eats q ys) → Each (Follows m rs) facts (trade_facts e (eats q ys))
one_order m rs e r ws rec facts q places mine room best true h soon = one_share m rs e r ws rec facts q places mine room best h (nat_lt 0 (min r.left q)) refl soon
one_order m rs e r ws rec facts q places mine room best false h soon =
    let ordered : Ordered (opposite e.order.side) (r ∷ ws) = subst (Ordered (opposite e.order.side)) best (ranked-Ordered (opposite e.order.side) (filter (rests e.order.instrument (opposite e.order.side)) (map (with_left (left facts)) (entries facts)))) in
    let none : filter (taken_by e) ws ≡ [] = filter-none (taken_by e) ws (λ y i. not_accepted e.order.side e.order.price r.entry.order.price y.entry.order.price h (ordered.0 y i)) in
    Each-none m rs e facts (eats q (filter (taken_by e) ws)) (ap (eats q) none)

serves : (m : Market) (rs : List Reply) (e : Entry) (ws : List Resting) → Serves m rs e ws
serves m rs e [] facts q places mine room best soon = tt
serves m rs e (r ∷ ws) facts q places mine room best soon = one_order m rs e r ws (serves m rs e ws) facts q places mine room best (taken_by e r) refl soon

killed_or_not : (m : Market) (rs : List Reply) (e : Entry) (facts : List Fact) (fs : List Fill) (b : Bool) → (NoneTooSoon m e fs → Each (Follows m rs) facts (trade_facts e fs)) → NoneTooSoon m e (if b then [] else fs) → Each (Follows m rs) facts (trade_facts e (if b then [] else fs))
killed_or_not m rs e facts fs true h soon = tt
killed_or_not m rs e facts fs false h soon = h soon

no_more : (m : Market) (e : Entry) (fs gs : List Fill) → fs ≡ gs → NoneTooSoon m e fs → NoneTooSoon m e gs
no_more m e fs gs h = subst (NoneTooSoon m e) h

-- an order enters after `base`, with the same resting orders on the other side as after `facts`; its fills are those of
-- `facts`
pub entry-Each : (m : Market) (rs : List Reply) (base facts : List Fact) (e : Entry) → Places (λ (y : Entry). y.number) 0 (entries base) → e.number ≡ next_order base → IsFresh base e.number → resting base e.order.instrument (opposite e.order.side) ≡ resting facts e.order.instrument (opposite e.order.side)
    → NoneTooSoon m e (fills facts e.order) → Each (Follows m rs) base (entry_facts e (fills facts e.order))
entry-Each m rs base facts e places number fresh same soon =
    (number, killed_or_not m rs e (base ++ (Entered e ∷ [])) all (is_killed e.order.life e.order.quantity (sum_by (λ (r : Resting). r.left) (against facts e.order))) served soon)
  where
    all : List Fill
    all = filter (λ (f : Fill). nat_lt 0 f.quantity) (paired (against facts e.order) (shares e.order.quantity (map (λ (r : Resting). r.left) (against facts e.order))))

    turn : all ≡ eats e.order.quantity (against facts e.order)
    turn = ap (λ ss. filter (λ (f : Fill). nat_lt 0 f.quantity) (paired (against facts e.order) ss)) (shares_in_turn e.order.quantity (map (λ (r : Resting). r.left) (against facts e.order)))

    entered : entries (base ++ (Entered e ∷ [])) ≡ entries base ++ (e ∷ [])
    entered = filter_map-append entry_in base (Entered e ∷ [])

    from_zero : (n k : ℕ) → k ≡ n + 1 → k ≡ (0 + n) + 1
    from_zero n k h = omega (arith, h)

    next_places : Places (λ (y : Entry). y.number) 0 (entries (base ++ (Entered e ∷ [])))
    next_places = subst (Places (λ (y : Entry). y.number) 0) (sym entered) (Places-append (λ (y : Entry). y.number) 0 (entries base) (e ∷ []) places (from_zero (length (entries base)) e.number number, tt))

    mine : In e (entries (base ++ (Entered e ∷ [])))
    mine = subst (λ es. In e es) (sym entered) (In-append_right (entries base) (e ∷ []) e (inl refl))

    room : e.order.quantity ≤ left (base ++ (Entered e ∷ [])) e
    room = whole (left_entered base e e ∙ fresh-left base e fresh)
      where
        whole : left (base ++ (Entered e ∷ [])) e ≡ e.order.quantity → e.order.quantity ≤ left (base ++ (Entered e ∷ [])) e
        whole h = omega (arith, h)

    served : NoneTooSoon m e all → Each (Follows m rs) (base ++ (Entered e ∷ [])) (trade_facts e all)
    served k =
        subst (λ fs. Each (Follows m rs) (base ++ (Entered e ∷ [])) (trade_facts e fs)) (sym turn) (
        serves m rs e (resting facts e.order.instrument (opposite e.order.side)) (base ++ (Entered e ∷ [])) e.order.quantity next_places mine room (resting-entered base e e.order.instrument (opposite e.order.side) (side_opposite e.order.side) ∙ same) (no_more m e all (eats e.order.quantity (against facts e.order)) turn k))
