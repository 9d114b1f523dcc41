use Rattle.std.proofs.Common.{◌≡◌, refl, sym, ap, ◌∙◌, ℕ, zero, suc, ◌+◌, ◌-◌, ◌≤◌, ◌<◌, Bool, true, false, cond, not, ◌&&◌, ◌||◌, ◌==◌, nat_lt, ◌⊎◌, inl, inr, ℤ, List, [], ◌∷◌, filter, length, get_or, set, reverse, Option, Some, option_map, arith, if◌then◌else◌}
use Rattle.std.specs.List.{insert, remove}
use Rattle.std.specs.List.Sorted.{IsPartitionedBy, IsPartitionPoint}
use Rattle.std.specs.Option.{unwrap_or}
use Rattle.std.proofs.Math.Numerals.{one-add}
use Rattle.std.proofs.lemmas.Bool.Decides.{nat_tests}
use Rattle.std.proofs.lemmas.Int.{ints}
use Rattle.std.proofs.lemmas.List.{length-map, length-reverse, get_or_default}
use Rattle.fix_dictionary.specs.declared.values.Side.{Side}
use Rattle.fix_dictionary.specs.declared.values.Side.TheVariants.{Buy, Sell}
use Rattle.venue_rules.specs.Book.{Resting, is_better, rank, ranked, rests}
use Rattle.price_book.specs.declared.row.Row.{Row}
use Rattle.price_book.specs.declared.stored_order.StoredOrder.{StoredOrder}
use Rattle.price_book.specs.Live.{seen_slot, ranked_live, reduced, without, Ledger, Absent, IsPlaceOf}
use Rattle.price_book.specs.SideQueues.{rank_last}
use Rattle.price_book.specs.Numbered.{numbered, slot_at, number_at, IsNumbered, AreKept}
use Rattle.price_book.specs.Rows.{row_of, rows_of, comes_before, AreRanked, IsRow, behind, put_last, cut_at}
use Rattle.price_book.proofs.Living.{same-number}
use Rattle.price_book.proofs.SideQueues.{ledger-absent, ledger-filter, absent-ranked}
use Rattle.price_book.proofs.Numbers.{Found, numbered-some, without-place, number-read, numbered-at}
use Rattle.price_book.proofs.Placing.{ranked-all}
use Rattle.price_book.proofs.StoredOrderSteps.{map-remove}
use Rattle.price_book.proofs.Turned.{read-turned, set-turned, point-turned}
use Rattle.std.proofs.lemmas.List.Elements.{All-filter}

-- A side's orders in price-time priority.

before-parts : (side : Side) (p : ℤ) (n : ℕ) (a : Row) → comes_before side p n a ≡ true → is_better side p a.price ≡ false
before-parts Buy p n a h = grind (arith, ints, nat_tests)
before-parts Sell p n a h = grind (arith, ints, nat_tests)

pub before-trans : (side : Side) (p : ℤ) (n : ℕ) (a b : Row) → comes_before side b.price b.number a ≡ true → comes_before side p n b ≡ true → comes_before side p n a ≡ true
before-trans Buy p n a b h k = grind (arith, ints, nat_tests)
before-trans Sell p n a b h k = grind (arith, ints, nat_tests)

pub not-before : (side : Side) (row : Row) (p : ℤ) (n : ℕ) → row.price ≡ p → row.number ≡ n → comes_before side p n row ≡ false
not-before Buy row p n h k = grind (arith, ints, nat_tests)
not-before Sell row p n h k = grind (arith, ints, nat_tests)

later-before : (side : Side) (a : Row) (p : ℤ) (n : ℕ) → is_better side p a.price ≡ false → a.number < n → comes_before side p n a ≡ true
later-before Buy a p n h k = grind (arith, ints, nat_tests)
later-before Sell a p n h k = grind (arith, ints, nat_tests)

better-before : (side : Side) (a : Row) (p : ℤ) (n : ℕ) → is_better side a.price p ≡ true → comes_before side p n a ≡ true
better-before side a p n h = ap (λ b. b || (nat_lt a.number n && not (is_better side p a.price))) h

-- search for the place of an order, and of an entering one

pub parted-before : (side : Side) (p : ℤ) (n : ℕ) (rows : List Row) → AreRanked side rows → IsPartitionedBy (comes_before side p n) rows
parted-before side p n rows ranked i j d h l up = by (cases-le i j h)
  where
    cases-le : (i j : ℕ) → i ≤ j → (i ≡ j) ⊎ (i < j)
    cases-le zero zero h = inl refl
    cases-le zero (suc j) h = inr (omega arith)
    cases-le (suc i) zero h = absurd (omega (arith, h))
    cases-le (suc i) (suc j) h = elim (cases-le i j (omega (arith, h))) [ inl e ↦ inl (ap suc e) | inr e ↦ inr (omega (arith, e)) ]

    by : (i ≡ j) ⊎ (i < j) → comes_before side p n (get_or rows i d) ≡ true
    by (inl e) = ap (λ k. comes_before side p n (get_or rows k d)) e ∙ up
    by (inr e) = before-trans side p n (get_or rows i d) (get_or rows j d) (ranked i j d e l) up

never : (b : Bool) → b ≡ true → b ≡ false → ⊥
never true h k = cc
never false h k = cc

pub placed : (side : Side) (p : ℤ) (n : ℕ) (rows : List Row) (at k : ℕ) → AreRanked side rows → IsRow n p rows k → at ≤ length rows → IsPartitionPoint (λ y. comes_before side p n y ≡ true) (λ y. comes_before side p n y ≡ false) rows at → at ≡ k
placed side p n rows at k ranked is bound point = by (nat_lt k at) (nat_lt at k) refl refl
  where
    d : Row
    d = record { number = n; price = p; left = 0 }

    here : comes_before side p n (get_or rows k d) ≡ false
    here = not-before side (get_or rows k d) p n (is.price d) (is.number d)

    early : k < at → ⊥
    early h = never (comes_before side p n (get_or rows k d)) (point.0 k d (omega arith) h) here

    late : at < k → ⊥
    late h = never (comes_before side p n (get_or rows at d)) (ap (λ q. comes_before side q n (get_or rows at d)) (sym (is.price d)) ∙ ap (λ m. comes_before side (get_or rows k d).price m (get_or rows at d)) (sym (is.number d)) ∙ ranked at k d h is.inside) (point.1 at d (omega arith) (omega (arith, h, is.inside)))

    by : (b c : Bool) → nat_lt k at ≡ b → nat_lt at k ≡ c → at ≡ k
    by true c e f = absurd (early (grind (arith, nat_tests)))
    by false true e f = absurd (late (grind (arith, nat_tests)))
    by false false e f = grind (arith, nat_tests)

pub parted-worse : (side : Side) (p : ℤ) (rows : List Row) → AreRanked side rows → IsPartitionedBy (λ row. not (is_better side p row.price)) rows
parted-worse side p rows ranked i j d h l up = by (nat_lt i j) refl
  where
    worse : (a b : Row) → comes_before side b.price b.number a ≡ true → not (is_better side p b.price) ≡ true → not (is_better side p a.price) ≡ true
    worse a b e f = back side a b e f
      where
        back : (side : Side) (a b : Row) → comes_before side b.price b.number a ≡ true → not (is_better side p b.price) ≡ true → not (is_better side p a.price) ≡ true
        back Buy a b e f = grind (arith, ints, nat_tests)
        back Sell a b e f = grind (arith, ints, nat_tests)

    by : (b : Bool) → nat_lt i j ≡ b → not (is_better side p (get_or rows i d).price) ≡ true
    by true e = worse (get_or rows i d) (get_or rows j d) (ranked i j d (grind (arith, nat_tests)) l) up
    by false e = let same : i ≡ j = grind (arith, nat_tests) in ap (λ k. not (is_better side p (get_or rows k d).price)) same ∙ up

behind-is : (side : Side) (p : ℤ) (rows : List Row) (i : ℕ) → i ≤ length rows → ((k : ℕ) (d : Row) → k < i → is_better side p (get_or rows k d).price ≡ false) → ((d : Row) → i < length rows → is_better side p (get_or rows i d).price ≡ true) → behind side p rows ≡ i
behind-is side p [] i h before here = omega (arith, h)
behind-is side p (r ∷ rows) zero h before here = ap (λ b. cond (not b) (1 + behind side p rows) 0) (here r (omega arith))
behind-is side p (r ∷ rows) (suc i) h before here =
    ap (λ b. cond (not b) (1 + behind side p rows) 0) (before 0 r (omega arith)) ∙ ap (λ k. 1 + k) (behind-is side p rows i (omega (arith, h)) (λ k d j. before (suc k) d (omega (arith, j))) (λ d j. here d (omega (arith, j)))) ∙ one-add i

pub behind-point : (side : Side) (p : ℤ) (rows : List Row) (i : ℕ) → i ≤ length rows → IsPartitionPoint (λ (y : Row). not (is_better side p y.price) ≡ true) (λ (y : Row). not (is_better side p y.price) ≡ false) rows i → i ≡ behind side p rows
behind-point side p rows i h point = sym (behind-is side p rows i h (λ k d j. off (is_better side p (get_or rows k d).price) (point.0 k d (omega arith) j)) (λ d j. on (is_better side p (get_or rows i d).price) (point.1 i d (omega arith) j)))
  where
    off : (b : Bool) → not b ≡ true → b ≡ false
    off true e = cc
    off false e = refl

    on : (b : Bool) → not b ≡ false → b ≡ true
    on true e = refl
    on false e = cc

-- the same, with the worst first

pub placed-turned : (side : Side) (p : ℤ) (n : ℕ) (rows : List Row) (at k : ℕ) → AreRanked side (reverse rows) → IsRow n p (reverse rows) k → at ≤ length rows → IsPartitionPoint (λ y. not (comes_before side p n y) ≡ true) (λ y. not (comes_before side p n y) ≡ false) rows at → at + k ≡ length rows
placed-turned side p n rows at k ranked is bound point =
    let there : length rows - at ≡ k = placed side p n (reverse rows) (length rows - at) k ranked is (omega (arith, length-reverse rows)) (point-turned (comes_before side p n) (λ y. not (comes_before side p n y)) rows at (length rows - at) (λ y. refl) (omega (arith, bound)) point) in
    omega (arith, bound, there)

pub not-twice : (b : Bool) → b ≡ not (not b)
not-twice true = refl
not-twice false = refl

pub behind-turned : (side : Side) (p : ℤ) (rows : List Row) (i : ℕ) → i ≤ length rows → IsPartitionPoint (λ (y : Row). is_better side p y.price ≡ true) (λ (y : Row). is_better side p y.price ≡ false) rows i → i + behind side p (reverse rows) ≡ length rows
behind-turned side p rows i h point =
    let there : length rows - i ≡ behind side p (reverse rows) = behind-point side p (reverse rows) (length rows - i) (omega (arith, length-reverse rows)) (point-turned (λ (y : Row). not (is_better side p y.price)) (λ (y : Row). is_better side p y.price) rows i (length rows - i) (λ y. not-twice (is_better side p y.price)) (omega (arith, h)) point) in
    omega (arith, h, there)

-- insertion, reduction, removal

pub rank-put : (side : Side) (r : Resting) (rs : List Resting) → rows_of (rank_last side r rs) ≡ put_last side (row_of r) (rows_of rs)
rank-put side r [] = refl
rank-put side r (s ∷ ss) = by (is_better side r.entry.order.price s.entry.order.price) (rank-put side r ss)
  where
    by : (b : Bool) → rows_of (rank_last side r ss) ≡ put_last side (row_of r) (rows_of ss) → rows_of (if b then r ∷ s ∷ ss else s ∷ rank_last side r ss) ≡ insert (rows_of (s ∷ ss)) (cond (not b) (1 + behind side r.entry.order.price (rows_of ss)) 0) (row_of r)
    by true h = refl
    by false h = rw one-add (ap (λ t. row_of s ∷ t) h)

read-row : (rs : List Resting) (k : ℕ) (d : Row) (r : Resting) → k < length rs → r ≡ get_or rs k r → get_or (rows_of rs) k d ≡ row_of r
read-row [] k d r h e = absurd (omega (arith, h))
read-row (s ∷ rs) zero d r h e = ap row_of (sym e)
read-row (s ∷ rs) (suc k) d r h e = read-row rs k d r (omega (arith, h)) e

pub row-found : (n : ℕ) (rs : List Resting) (k : ℕ) (r : Resting) → IsPlaceOf n rs k → r ≡ get_or rs k r → IsRow n r.entry.order.price (rows_of rs) k
row-found n rs k r place here = record {
  inside = omega (arith, place.0, length-map rs row_of);
  number = λ d. ap (λ (row : Row). row.number) (read-row rs k d r place.0 here) ∙ ap (λ (t : Resting). t.entry.number) here ∙ place.1 r;
  price = λ d. ap (λ (row : Row). row.price) (read-row rs k d r place.0 here);
}

pub no-rows : (rs : List Resting) → rows_of rs ≡ [] → rs ≡ []
no-rows [] h = refl
no-rows (r ∷ rs) h = cc

more-left : (a b : ℕ) → a < b → nat_lt a b ≡ true
more-left a b h = grind (arith, nat_tests)

pub rows-reduced : (n q : ℕ) (rs : List Resting) (k : ℕ) (r : Resting) → IsPlaceOf n rs k → r ≡ get_or rs k r → q < r.left → rows_of (reduced n q rs) ≡ cut_at k q (rows_of rs)
rows-reduced n q [] k r place here more = absurd (omega (arith, place.0))
rows-reduced n q (s ∷ rs) zero r place here more =
    ap (λ b. rows_of (if b then (if nat_lt q s.left then record { entry = s.entry; left = s.left - q } ∷ rs else rs) else s ∷ reduced n q rs)) (same n s.entry.number (sym (place.1 s)))
    ∙ ap (λ b. rows_of (if b then record { entry = s.entry; left = s.left - q } ∷ rs else rs)) (more-left q s.left (omega (arith, more, ap (λ (t : Resting). t.left) here)))
  where
    same : (a b : ℕ) → a ≡ b → (a == b) ≡ true
    same a b h = grind (arith, nat_tests)
rows-reduced n q (s ∷ rs) (suc k) r place here more =
    ap (λ b. rows_of (if b then (if nat_lt q s.left then record { entry = s.entry; left = s.left - q } ∷ rs else rs) else s ∷ reduced n q rs)) place.2.0
    ∙ ap (λ t. row_of s ∷ t) (rows-reduced n q rs k r (omega (arith, place.0), place.1, place.2.1) here more)

pub rows-without : (n : ℕ) (rs : List Resting) (k : ℕ) → IsPlaceOf n rs k → rows_of (without n rs) ≡ remove (rows_of rs) k
rows-without n rs k place = ap rows_of (without-place n rs k place) ∙ sym (map-remove row_of rs k)

-- reduction at a place, as a write there
pub cut-set : (k q : ℕ) (rows : List Row) (row : Row) → row ≡ get_or rows k row → set rows k (record { number = row.number; price = row.price; left = row.left - q }) ≡ cut_at k q rows
cut-set k q [] row e = refl
cut-set zero q (r ∷ rows) row e = ap (λ (t : Row). record { number = t.number; price = t.price; left = t.left - q } ∷ rows) e
cut-set (suc k) q (r ∷ rows) row e = ap (λ t. r ∷ t) (cut-set k q rows row e)

pub cut-length : (k q : ℕ) (rows : List Row) → length (cut_at k q rows) ≡ length rows
cut-length k q [] = refl
cut-length zero q (r ∷ rows) = refl
cut-length (suc k) q (r ∷ rows) = ap suc (cut-length k q rows)

-- orders ranked by price, with rising numbers, are in price-time priority

abbrev Before : Side → Resting → List Resting → Type 0
Before side r [] = Unit {0}
Before side r (s ∷ ss) = (comes_before side s.entry.order.price s.entry.number (row_of r) ≡ true) × Before side r ss

abbrev Lined : Side → List Resting → Type 0
Lined side [] = Unit {0}
Lined side (r ∷ rs) = Before side r rs × Lined side rs

abbrev Above : ℕ → List Resting → Type 0
Above n [] = Unit {0}
Above n (r ∷ rs) = (n < r.entry.number) × Above n rs

above-lower : (n m : ℕ) (rs : List Resting) → n ≤ m → Above m rs → Above n rs
above-lower n m [] h a = tt
above-lower n m (r ∷ rs) h a = (omega (arith, h, a.0), above-lower n m rs h a.1)

above-ledger : (low : ℕ) (rs : List Resting) → Ledger low rs → Above low rs
above-ledger low [] l = tt
above-ledger low (r ∷ rs) l = (l.0, above-lower low r.entry.number rs (omega (arith, l.0)) (above-ledger r.entry.number rs l.2))

above-rank : (n : ℕ) (side : Side) (r : Resting) (ss : List Resting) → n < r.entry.number → Above n ss → Above n (rank side r ss)
above-rank n side r [] h a = (h, tt)
above-rank n side r (s ∷ ss) h a = by (is_better side s.entry.order.price r.entry.order.price) (above-rank n side r ss h a.1)
  where
    by : (b : Bool) → Above n (rank side r ss) → Above n (if b then s ∷ rank side r ss else r ∷ s ∷ ss)
    by true k = (a.0, k)
    by false k = (h, a)

above-ranked : (n : ℕ) (side : Side) (rs : List Resting) → Above n rs → Above n (ranked side rs)
above-ranked n side [] a = tt
above-ranked n side (r ∷ rs) a = above-rank n side r (ranked side rs) a.0 (above-ranked n side rs a.1)

before-rank : (side : Side) (s r : Resting) (ss : List Resting) → comes_before side r.entry.order.price r.entry.number (row_of s) ≡ true → Before side s ss → Before side s (rank side r ss)
before-rank side s r [] h b = (h, tt)
before-rank side s r (t ∷ ts) h b = by (is_better side t.entry.order.price r.entry.order.price) (before-rank side s r ts h b.1)
  where
    by : (c : Bool) → Before side s (rank side r ts) → Before side s (if c then t ∷ rank side r ts else r ∷ t ∷ ts)
    by true k = (b.0, k)
    by false k = (h, b)

before-all : (side : Side) (r s : Resting) (ts : List Resting) → comes_before side s.entry.order.price s.entry.number (row_of r) ≡ true → Before side s ts → Before side r ts
before-all side r s [] h b = tt
before-all side r s (t ∷ ts) h b = (before-trans side t.entry.order.price t.entry.number (row_of r) (row_of s) h b.0, before-all side r s ts h b.1)

lined-rank : (side : Side) (r : Resting) (ss : List Resting) → Above r.entry.number ss → Lined side ss → Lined side (rank side r ss)
lined-rank side r [] a l = (tt, tt)
lined-rank side r (s ∷ ss) a l = by (is_better side s.entry.order.price r.entry.order.price) refl (lined-rank side r ss a.1 l.1)
  where
    by : (b : Bool) → is_better side s.entry.order.price r.entry.order.price ≡ b → Lined side (rank side r ss) → Lined side (if b then s ∷ rank side r ss else r ∷ s ∷ ss)
    by true e k = (before-rank side s r ss (better-before side (row_of s) r.entry.order.price r.entry.number e) l.0, k)
    by false e k = let first : comes_before side s.entry.order.price s.entry.number (row_of r) ≡ true = later-before side (row_of r) s.entry.order.price s.entry.number e a.0 in ((first, before-all side r s ss first l.0), l)

lined-ranked : (low : ℕ) (side : Side) (rs : List Resting) → Ledger low rs → Lined side (ranked side rs)
lined-ranked low side [] l = tt
lined-ranked low side (r ∷ rs) l = lined-rank side r (ranked side rs) (above-ranked r.entry.number side rs (above-ledger r.entry.number rs l.2)) (lined-ranked r.entry.number side rs l.2)

before-at : (side : Side) (r : Resting) (ss : List Resting) (j : ℕ) (d : Row) → Before side r ss → j < length (rows_of ss) → comes_before side (get_or (rows_of ss) j d).price (get_or (rows_of ss) j d).number (row_of r) ≡ true
before-at side r [] j d b h = absurd (omega (arith, h))
before-at side r (s ∷ ss) zero d b h = b.0
before-at side r (s ∷ ss) (suc j) d b h = before-at side r ss j d b.1 (omega (arith, h))

lined-rows : (side : Side) (rs : List Resting) → Lined side rs → AreRanked side (rows_of rs)
lined-rows side [] l i j d h k = absurd (omega (arith, k))
lined-rows side (r ∷ rs) l zero zero d h k = absurd (omega (arith, h))
lined-rows side (r ∷ rs) l zero (suc j) d h k = before-at side r rs j d l.0 (omega (arith, k))
lined-rows side (r ∷ rs) l (suc i) zero d h k = absurd (omega (arith, h))
lined-rows side (r ∷ rs) l (suc i) (suc j) d h k = lined-rows side rs l.1 i j d (omega (arith, h)) (omega (arith, k))

pub are-ranked : (x : ℕ) (side : Side) (rs : List Resting) → Ledger 0 rs → AreRanked side (rows_of (ranked_live x side rs))
are-ranked x side rs l = lined-rows side (ranked_live x side rs) (lined-ranked 0 side (filter (rests x side) rs) (ledger-filter 0 (rests x side) rs l))

-- a resting order is on its side

numbered-filter : (n : ℕ) (p : Resting → Bool) (rs : List Resting) (r : Resting) → numbered n rs ≡ Some r → p r ≡ true → numbered n (filter p rs) ≡ Some r
numbered-filter n p [] r h k = cc
numbered-filter n p (s ∷ rs) r h k = by (n == s.entry.number) (p s) refl refl h (numbered-filter n p rs r)
  where
    by : (b c : Bool) → (n == s.entry.number) ≡ b → p s ≡ c → cond b (Some s) (numbered n rs) ≡ Some r → (numbered n rs ≡ Some r → p r ≡ true → numbered n (filter p rs) ≡ Some r) → numbered n (cond c (s ∷ filter p rs) (filter p rs)) ≡ Some r
    by true true e f h ih = ap (λ b. cond b (Some s) (numbered n (filter p rs))) e ∙ h
    by true false e f h ih = absurd (never (p s) (ap p (ap (λ o. unwrap_or o s) h) ∙ k) f)
    by false true e f h ih = ap (λ b. cond b (Some s) (numbered n (filter p rs))) e ∙ ih h k
    by false false e f h ih = ih h k

numbered-rank : (n : ℕ) (side : Side) (r : Resting) (ss : List Resting) → Absent r.entry.number ss → numbered n (rank side r ss) ≡ cond (n == r.entry.number) (Some r) (numbered n ss)
numbered-rank n side r [] a = refl
numbered-rank n side r (s ∷ ss) a = by (is_better side s.entry.order.price r.entry.order.price) (numbered-rank n side r ss a.1)
  where
    over : (b c : Bool) (o : Option Resting) → (n == s.entry.number) ≡ b → (n == r.entry.number) ≡ c → cond b (Some s) (cond c (Some r) o) ≡ cond c (Some r) (cond b (Some s) o)
    over true true o e f = absurd (never (r.entry.number == s.entry.number) (same (sym (same-number n r.entry.number f) ∙ same-number n s.entry.number e)) a.0)
      where
        same : r.entry.number ≡ s.entry.number → (r.entry.number == s.entry.number) ≡ true
        same h = grind (arith, nat_tests)
    over true false o e f = refl
    over false c o e f = refl

    by : (b : Bool) → numbered n (rank side r ss) ≡ cond (n == r.entry.number) (Some r) (numbered n ss) → numbered n (if b then s ∷ rank side r ss else r ∷ s ∷ ss) ≡ cond (n == r.entry.number) (Some r) (numbered n (s ∷ ss))
    by true ih = ap (λ o. cond (n == s.entry.number) (Some s) o) ih ∙ over (n == s.entry.number) (n == r.entry.number) (numbered n ss) refl refl
    by false ih = refl

numbered-ranked : (n low : ℕ) (side : Side) (rs : List Resting) → Ledger low rs → numbered n (ranked side rs) ≡ numbered n rs
numbered-ranked n low side [] l = refl
numbered-ranked n low side (r ∷ rs) l = numbered-rank n side r (ranked side rs) (absent-ranked r.entry.number side rs (ledger-absent r.entry.number r.entry.number rs (omega arith) l.2)) ∙ ap (λ o. cond (n == r.entry.number) (Some r) o) (numbered-ranked n r.entry.number side rs l.2)

pub stands : (n x : ℕ) (side : Side) (rs : List Resting) (r : Resting) → Ledger 0 rs → numbered n rs ≡ Some r → rests x side r ≡ true → Found n (ranked_live x side rs) r
stands n x side rs r l some on = numbered-some n (ranked_live x side rs) r (numbered-ranked n 0 side (filter (rests x side) rs) (ledger-filter 0 (rests x side) rs l) ∙ numbered-filter n (rests x side) rs r some on)

pub cut-turned : (q : ℕ) (rows : List Row) (at k : ℕ) → at + k + 1 ≡ length rows → reverse (cut_at at q rows) ≡ cut_at k q (reverse rows)
cut-turned q [] at k h = absurd (omega (arith, h))
cut-turned q (first ∷ rest) at k h =
    let rows : List Row = first ∷ rest in
    let row : Row = get_or rows at first in
    let is : row ≡ get_or rows at row = get_or_default rows at first row (omega (arith, h)) in
    let less : Row = record { number = row.number; price = row.price; left = row.left - q } in
    ap reverse (sym (cut-set at q rows row is)) ∙ set-turned rows at k less h ∙ cut-set k q (reverse rows) row (is ∙ sym (read-turned rows at k row h))

-- each order of a side is stored by its number
pub sides-kept : (x : ℕ) (side : Side) (rs : List Resting) (es : List (ℕ × StoredOrder)) → Ledger 0 rs → IsNumbered rs es → AreKept (ranked_live x side rs) es
sides-kept x side rs es l kept = ranked-all (λ (r : Resting). option_map seen_slot (slot_at es r.entry.number) ≡ Some r) side (filter (rests x side) rs) (All-filter (rests x side) (λ (r : Resting). option_map seen_slot (slot_at es r.entry.number) ≡ Some r) rs own)
  where
    own : AreKept rs es
    own = λ k d h. ap (λ n. option_map seen_slot (slot_at es n)) (sym (number-read rs k d h)) ∙ kept (number_at rs k) ∙ numbered-at 0 rs k d l h
