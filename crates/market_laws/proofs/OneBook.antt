use Rattle.std.proofs.Common.{◌≡◌, refl, sym, ap, ◌∙◌, inl, inr, ℕ, zero, suc, ◌+◌, ◌-◌, ◌<◌, ◌==◌, Bool, true, false, cond, if◌then◌else◌, ◌&&◌, ◌||◌, nat_lt, List, [], ◌∷◌, ◌++◌, length, map, filter, slice_get, Some, arith, ne_eqb, eqb-true, append-nil}
use Rattle.std.specs.List.{list_any, sum_by}
use Rattle.std.proofs.lemmas.Bool.{and_left, and_right, or_from, true≢false}
use Rattle.std.proofs.lemmas.List.Elements.{filter_map-append, filter-append}
use Rattle.std.proofs.lemmas.List.Folds.{list_any-append}
use Rattle.std.proofs.lemmas.List.Sums.{sum_by-append, sum_by-cons}
use Rattle.std.proofs.lemmas.List.{map-append}
use Rattle.fix_dictionary.specs.declared.values.Side.{Side}
use Rattle.venue_rules.specs.declared.facts.Fact.{Fact}
use Rattle.venue_rules.specs.declared.facts.Fact.TheVariants.{Entered, Traded, Removed, Held, Unheld, Asked, Quoted, Withdrawn, Closed}
use Rattle.venue_rules.specs.declared.facts.Entry.{Entry}
use Rattle.venue_rules.specs.declared.facts.OrderFact.{OrderFact}
use Rattle.venue_rules.specs.declared.facts.Trade.{Trade}
use Rattle.venue_rules.specs.Facts.{entries, entry_in, next_order, trades, trade_in}
use Rattle.venue_rules.specs.Book.{Fill, Resting, fills, is_day, is_side, left, opposite, ranked, removes, resting, rests, takes_part, traded, with_left}
use Rattle.venue_rules.specs.Entering.{entry_facts, trade_of}
use Rattle.venue_rules.specs.Lawful.{IsNumbered}
use Rattle.venue_rules.proofs.Members.{In}
use Rattle.venue_rules.proofs.Lefts.{In-resting, rests_instrument}
use Rattle.market_laws.proofs.BookTrades.{fill_rests, one_numbered}

-- Facts that leave the resting orders of an instrument as they are.

-- the fact enters no order of this instrument, and names none that entered before
abbrev pub IsElsewhere : ℕ → List Fact → Fact → Type 0
IsElsewhere x facts (Entered n) = n.order.instrument ≡ x → ⊥
IsElsewhere x facts (Removed r) = (e : Entry) → In e (entries facts) → e.order.instrument ≡ x → r.order ≡ e.number → ⊥
IsElsewhere x facts (Traded t) = (e : Entry) → In e (entries facts) → e.order.instrument ≡ x → takes_part e.number t.place ≡ false
IsElsewhere x facts (Held h) = Unit {0}
IsElsewhere x facts (Unheld u) = Unit {0}
IsElsewhere x facts (Asked r) = Unit {0}
IsElsewhere x facts (Quoted q) = Unit {0}
IsElsewhere x facts (Withdrawn w) = Unit {0}
IsElsewhere x facts (Closed c) = Unit {0}

abbrev pub AreElsewhere : ℕ → List Fact → List Fact → Type 0
AreElsewhere x facts [] = Unit {0}
AreElsewhere x facts (f ∷ fs) = IsElsewhere x facts f × AreElsewhere x facts fs

pub AreElsewhere-append : (x : ℕ) (facts fs gs : List Fact) → AreElsewhere x facts fs → AreElsewhere x facts gs → AreElsewhere x facts (fs ++ gs)
AreElsewhere-append x facts [] gs p q = q
AreElsewhere-append x facts (f ∷ fs) gs p q = (p.0, AreElsewhere-append x facts fs gs p.1 q)

-- no order among them rests in this instrument

not_here : (x : ℕ) (side : Side) (r : Resting) → (r.entry.order.instrument ≡ x → ⊥) → rests x side r ≡ false
not_here x side r other =
    and_right (is_day r.entry.order.life) (r.entry.order.instrument == x && (is_side r.entry.order.side side && nat_lt 0 r.left)) (and_left (r.entry.order.instrument == x) (is_side r.entry.order.side side && nat_lt 0 r.left) (ne_eqb r.entry.order.instrument x other))

dropped : (r : Resting) (rs : List Resting) (b : Bool) → b ≡ false → cond b (r ∷ rs) rs ≡ rs
dropped r rs true e = absurd (true≢false e)
dropped r rs false e = refl

none_enters : (x : ℕ) (side : Side) (l : Entry → ℕ) (facts fs : List Fact) → AreElsewhere x facts fs → filter (rests x side) (map (with_left l) (entries fs)) ≡ []
none_enters x side l facts [] p = refl
none_enters x side l facts (Entered n ∷ fs) p = dropped (with_left l n) (filter (rests x side) (map (with_left l) (entries fs))) (rests x side (with_left l n)) (not_here x side (with_left l n) p.0) ∙ none_enters x side l facts fs p.1
none_enters x side l facts (Removed r ∷ fs) p = none_enters x side l facts fs p.1
none_enters x side l facts (Traded t ∷ fs) p = none_enters x side l facts fs p.1
none_enters x side l facts (Held h ∷ fs) p = none_enters x side l facts fs p.1
none_enters x side l facts (Unheld u ∷ fs) p = none_enters x side l facts fs p.1
none_enters x side l facts (Asked r ∷ fs) p = none_enters x side l facts fs p.1
none_enters x side l facts (Quoted q ∷ fs) p = none_enters x side l facts fs p.1
none_enters x side l facts (Withdrawn w ∷ fs) p = none_enters x side l facts fs p.1
none_enters x side l facts (Closed c ∷ fs) p = none_enters x side l facts fs p.1

-- an order of this instrument that entered before keeps its leaves quantity

none_removed : (x : ℕ) (facts fs : List Fact) (e : Entry) → In e (entries facts) → e.order.instrument ≡ x → AreElsewhere x facts fs → list_any (removes e.number) fs ≡ false
none_removed x facts [] e i here p = refl
none_removed x facts (Removed r ∷ fs) e i here p = or_from (r.order == e.number) (list_any (removes e.number) fs) (ne_eqb r.order e.number (p.0 e i here)) (none_removed x facts fs e i here p.1)
none_removed x facts (Entered n ∷ fs) e i here p = none_removed x facts fs e i here p.1
none_removed x facts (Traded t ∷ fs) e i here p = none_removed x facts fs e i here p.1
none_removed x facts (Held h ∷ fs) e i here p = none_removed x facts fs e i here p.1
none_removed x facts (Unheld u ∷ fs) e i here p = none_removed x facts fs e i here p.1
none_removed x facts (Asked r ∷ fs) e i here p = none_removed x facts fs e i here p.1
none_removed x facts (Quoted q ∷ fs) e i here p = none_removed x facts fs e i here p.1
none_removed x facts (Withdrawn w ∷ fs) e i here p = none_removed x facts fs e i here p.1
none_removed x facts (Closed c ∷ fs) e i here p = none_removed x facts fs e i here p.1

not_its : (n : ℕ) (t : Trade) (rest : ℕ) → takes_part n t.place ≡ false → rest ≡ 0 → (if takes_part n t.place then t.quantity else 0) + rest ≡ 0
not_its n t rest h z = let k : (if takes_part n t.place then t.quantity else 0) ≡ 0 = ap (λ b. if b then t.quantity else 0) h in omega (arith, k, z)

none_traded : (x : ℕ) (facts fs : List Fact) (e : Entry) → In e (entries facts) → e.order.instrument ≡ x → AreElsewhere x facts fs → traded fs e.number ≡ 0
none_traded x facts [] e i here p = refl
none_traded x facts (Traded t ∷ fs) e i here p =
    sum_by-cons (λ (u : Trade). if takes_part e.number u.place then u.quantity else 0) t (trades fs) ∙ not_its e.number t (traded fs e.number) (p.0 e i here) (none_traded x facts fs e i here p.1)
none_traded x facts (Entered n ∷ fs) e i here p = none_traded x facts fs e i here p.1
none_traded x facts (Removed r ∷ fs) e i here p = none_traded x facts fs e i here p.1
none_traded x facts (Held h ∷ fs) e i here p = none_traded x facts fs e i here p.1
none_traded x facts (Unheld u ∷ fs) e i here p = none_traded x facts fs e i here p.1
none_traded x facts (Asked r ∷ fs) e i here p = none_traded x facts fs e i here p.1
none_traded x facts (Quoted q ∷ fs) e i here p = none_traded x facts fs e i here p.1
none_traded x facts (Withdrawn w ∷ fs) e i here p = none_traded x facts fs e i here p.1
none_traded x facts (Closed c ∷ fs) e i here p = none_traded x facts fs e i here p.1

or_none : (a b : Bool) → b ≡ false → (a || b) ≡ a
or_none true b h = refl
or_none false b h = h

plus_none : (a b : ℕ) → b ≡ 0 → a + b ≡ a
plus_none a b h = omega (arith, h)

left_stays : (x : ℕ) (facts fs : List Fact) → AreElsewhere x facts fs → (e : Entry) → In e (entries facts) → e.order.instrument ≡ x → left (facts ++ fs) e ≡ left facts e
left_stays x facts fs p e i here =
    let gone : list_any (removes e.number) (facts ++ fs) ≡ list_any (removes e.number) facts = list_any-append (removes e.number) facts fs ∙ or_none (list_any (removes e.number) facts) (list_any (removes e.number) fs) (none_removed x facts fs e i here p) in
    let sold : traded (facts ++ fs) e.number ≡ traded facts e.number =
    ap (sum_by (λ (t : Trade). if takes_part e.number t.place then t.quantity else 0)) (filter_map-append trade_in facts fs)
    ∙ (sum_by-append (λ (t : Trade). if takes_part e.number t.place then t.quantity else 0) (trades facts) (trades fs)
    ∙ plus_none (traded facts e.number) (traded fs e.number) (none_traded x facts fs e i here p)) in
    ap (λ b. if b then 0 else e.order.quantity - traded (facts ++ fs) e.number) gone ∙ ap (λ n. if list_any (removes e.number) facts then 0 else e.order.quantity - n) sold

both_dropped : (r r' : Resting) (rs rs' : List Resting) (b b' : Bool) → b ≡ false → b' ≡ false → rs' ≡ rs → cond b' (r' ∷ rs') rs' ≡ cond b (r ∷ rs) rs
both_dropped r r' rs rs' b b' h h' e = dropped r' rs' b' h' ∙ (e ∙ sym (dropped r rs b h))

one_stays : (x : ℕ) (side : Side) (l l' : Entry → ℕ) (e : Entry) (rs rs' : List Resting) (b : Bool) → (e.order.instrument == x) ≡ b → (e.order.instrument ≡ x → l' e ≡ l e) → rs' ≡ rs
    → cond (rests x side (with_left l' e)) (with_left l' e ∷ rs') rs' ≡ cond (rests x side (with_left l e)) (with_left l e ∷ rs) rs
one_stays x side l l' e rs rs' true h same k =
    ap (λ n. let r : Resting = record { entry = e; left = n } in cond (rests x side r) (r ∷ rs') rs') (same (eqb-true e.order.instrument x h)) ∙ ap (λ ys. cond (rests x side (with_left l e)) (with_left l e ∷ ys) ys) k
one_stays x side l l' e rs rs' false h same k =
    let other : e.order.instrument ≡ x → ⊥ = λ j. true≢false (sym (is_itself e.order.instrument x j) ∙ h) in
    both_dropped (with_left l e) (with_left l' e) rs rs' (rests x side (with_left l e)) (rests x side (with_left l' e)) (not_here x side (with_left l e) other) (not_here x side (with_left l' e) other) k
  where
    is_itself : (a b : ℕ) → a ≡ b → (a == b) ≡ true
    is_itself a b j = grind (arith, j)

all_stay : (x : ℕ) (side : Side) (l l' : Entry → ℕ) (es : List Entry) → ((e : Entry) → In e es → e.order.instrument ≡ x → l' e ≡ l e) → filter (rests x side) (map (with_left l') es) ≡ filter (rests x side) (map (with_left l) es)
all_stay x side l l' [] h = refl
all_stay x side l l' (e ∷ es) h = one_stays x side l l' e (filter (rests x side) (map (with_left l) es)) (filter (rests x side) (map (with_left l') es)) (e.order.instrument == x) refl (h e (inl refl)) (all_stay x side l l' es (λ y i. h y (inr i)))

pub resting_stays : (x : ℕ) (side : Side) (facts fs : List Fact) → AreElsewhere x facts fs → resting (facts ++ fs) x side ≡ resting facts x side
resting_stays x side facts fs p =
    let l' : Entry → ℕ = left (facts ++ fs) in
    let olds : List Resting = filter (rests x side) (map (with_left l') (entries facts)) in
    let split : filter (rests x side) (map (with_left l') (entries (facts ++ fs))) ≡ olds ++ filter (rests x side) (map (with_left l') (entries fs)) =
    ap (λ es. filter (rests x side) (map (with_left l') es)) (filter_map-append entry_in facts fs) ∙ (ap (filter (rests x side)) (map-append (with_left l') (entries facts) (entries fs)) ∙ filter-append (rests x side) (map (with_left l') (entries facts)) (map (with_left l') (entries fs))) in
    ap (ranked side) (split
    ∙ (ap (λ ys. olds ++ ys) (none_enters x side l' facts fs p)
    ∙ (append-nil olds ∙ all_stay x side (left facts) l' (entries facts) (left_stays x facts fs p))))

-- an order that enters in another instrument, with its trades

slice_within : {X : Type 0} (xs : List X) (y : X) (k : ℕ) → slice_get xs k ≡ Some y → k < length xs
slice_within [] y k e = absurd (none_is y k e)
  where
    none_is : {X : Type 0} (y : X) (k : ℕ) → slice_get [] k ≡ Some y → ⊥
    none_is y k e = cc
slice_within (x ∷ xs) y zero e = omega arith
slice_within (x ∷ xs) y (suc k) e = let low : k < length xs = slice_within xs y k e in omega (arith, low)

place_in : {X : Type 0} (xs : List X) (x : X) → In x xs → (k : ℕ) × (slice_get xs k ≡ Some x)
place_in [] x i = absurd i
place_in (y ∷ ys) x (inl e) = (zero, ap Some e)
place_in (y ∷ ys) x (inr i) = let k = place_in ys x i in (suc k.0, k.1)

-- numbers are places
abbrev pub AreNumbered : List Fact → Type 0
AreNumbered facts = IsNumbered (λ (e : Entry). e.number) (entries facts)

not_next : (facts : List Fact) → AreNumbered facts → (e : Entry) → In e (entries facts) → next_order facts ≡ e.number → ⊥
not_next facts n e i same =
    let k = place_in (entries facts) e i in
    let low : k.0 < length (entries facts) = slice_within (entries facts) e k.0 k.1 in
    let at : e.number ≡ k.0 + 1 = n k.0 e k.1 in
    absurd (omega (arith, low, at, same))

-- an order that rests is the one of its number
pub not_its_number : (facts : List Fact) → AreNumbered facts → (x : ℕ) (r e : Entry) → In r (entries facts) → (r.order.instrument ≡ x → ⊥) → In e (entries facts) → e.order.instrument ≡ x → r.number ≡ e.number → ⊥
not_its_number facts n x r e i other j here same = other (ap (λ (y : Entry). y.order.instrument) (one_numbered (λ (y : Entry). y.number) (entries facts) n r e i j same) ∙ here)

trades_elsewhere : (facts : List Fact) → AreNumbered facts → (x : ℕ) (e : Entry) → e.number ≡ next_order facts → (e.order.instrument ≡ x → ⊥) → (fs : List Fill) → ((f : Fill) → In f fs → In f.resting.entry (entries facts) × (f.resting.entry.order.instrument ≡ e.order.instrument)) → AreElsewhere x facts (map (λ f. Traded (trade_of e f)) fs)
trades_elsewhere facts n x e new other [] rested = tt
trades_elsewhere facts n x e new other (f ∷ fs) rested =
    let k = rested f (inl refl) in (
      λ y i here. or_from (f.resting.entry.number == y.number) (e.number == y.number) (ne_eqb f.resting.entry.number y.number (not_its_number facts n x f.resting.entry y k.0 (λ j. other (sym k.1 ∙ j)) i here)) (ne_eqb e.number y.number (λ j. not_next facts n y i (sym new ∙ j))),
      trades_elsewhere facts n x e new other fs (λ g i. rested g (inr i)),
    )

fill_there : (facts : List Fact) (o : OrderFact) (f : Fill) → In f (fills facts o) → In f.resting.entry (entries facts) × (f.resting.entry.order.instrument ≡ o.instrument)
fill_there facts o f i =
    let k = In-resting facts o.instrument (opposite o.side) f.resting (fill_rests facts o f i) in
    (k.0, rests_instrument o.instrument (opposite o.side) f.resting k.2)

pub entry_elsewhere : (facts : List Fact) → AreNumbered facts → (x : ℕ) (e : Entry) → e.number ≡ next_order facts → (e.order.instrument ≡ x → ⊥) → AreElsewhere x facts (entry_facts e (fills facts e.order))
entry_elsewhere facts n x e new other = (other, trades_elsewhere facts n x e new other (fills facts e.order) (fill_there facts e.order))
