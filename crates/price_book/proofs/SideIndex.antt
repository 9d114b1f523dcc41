use Rattle.std.proofs.Common.{◌≡◌, refl, sym, ap, subst, ◌∙◌, ℕ, zero, suc, ◌+◌, ◌*◌, ◌≤◌, ◌<◌, Bool, true, false, cond, not, ◌&&◌, ◌==◌, nat_lt, List, [], ◌∷◌, filter, Some, length, get_or, set, arith, if◌then◌else◌}
use Rattle.std.specs.List.{insert, remove}
use Rattle.std.proofs.Math.Numerals.{one-add}
use Rattle.std.proofs.lemmas.Bool.{eq-eqb}
use Rattle.std.proofs.lemmas.Bool.Decides.{nat_tests}
use Rattle.std.proofs.lemmas.List.Edits.{length-insert, get_or-insert_at}
use Rattle.fix_dictionary.specs.declared.values.Side.{Side}
use Rattle.fix_dictionary.specs.declared.values.Side.TheVariants.{Buy, Sell}
use Rattle.venue_rules.specs.Book.{Resting, is_better, is_day, is_side, rests}
use Rattle.price_book.specs.declared.side_queue.SideQueue.{SideQueue}
use Rattle.price_book.specs.declared.row.Row.{Row}
use Rattle.price_book.specs.Rows.{row_of, rows_of, AreRanked, IsRow, behind, put_last, cut_at}
use Rattle.price_book.specs.Numbered.{numbered}
use Rattle.price_book.proofs.Numbers.{Found, numbered-some}
use Rattle.price_book.proofs.Ranking.{rank-put, row-found, rows-reduced, rows-without, cut-length, are-ranked, stands}
use Rattle.price_book.specs.Live.{is_live, ranked_live, joined_by, reduced, without, Ledger, Absent, IsPlaceOf}
use Rattle.price_book.specs.SideQueues.{rank_last}
use Rattle.price_book.specs.SideIndex.{side_index, rung_of, rows_in, held, AreOrdered, Lacks, IsLadder, lower, AreLadders}
use Rattle.price_book.proofs.Living.{other-number, same-number}
use Rattle.price_book.proofs.SideQueues.{side_queue-joined, side_queue-reduced, side_queue-without, ledger-absent, absent-filter, absent-ranked, reduced-absent, without-absent}

-- Side queues by index.

above : (n m : ℕ) → n < m → (m == n) ≡ false
above n m h = grind (arith, nat_tests)

side_index-least : (low : ℕ) (ls : List SideQueue) (k : ℕ) (d : SideQueue) → AreOrdered low ls → k < length ls → low ≤ rung_of (get_or ls k d)
side_index-least low [] k d o h = absurd (omega (arith, h))
side_index-least low (l ∷ ls) zero d o h = o.0
side_index-least low (l ∷ ls) (suc k) d o h = omega (arith, o.0, side_index-least (rung_of l + 1) ls k d o.1 (omega (arith, h)))

pub rungs-rise : (low : ℕ) (ls : List SideQueue) (i j : ℕ) (d : SideQueue) → AreOrdered low ls → i ≤ j → j < length ls → rung_of (get_or ls i d) ≤ rung_of (get_or ls j d)
rungs-rise low [] i j d o h k = absurd (omega (arith, k))
rungs-rise low (l ∷ ls) zero zero d o h k = omega arith
rungs-rise low (l ∷ ls) zero (suc j) d o h k = omega (arith, side_index-least (rung_of l + 1) ls j d o.1 (omega (arith, k)))
rungs-rise low (l ∷ ls) (suc i) zero d o h k = absurd (omega (arith, h))
rungs-rise low (l ∷ ls) (suc i) (suc j) d o h k = rungs-rise (rung_of l + 1) ls i j d o.1 (omega (arith, h)) (omega (arith, k))

-- contents of a side queue

pub held-at : (low n : ℕ) (ls : List SideQueue) (k : ℕ) (d : SideQueue) → AreOrdered low ls → k < length ls → n ≡ rung_of (get_or ls k d) → held n ls ≡ rows_in (get_or ls k d)
held-at low n [] k d o h e = absurd (omega (arith, h))
held-at low n (l ∷ ls) zero d o h e = ap (λ b. if b then rows_in l else held n ls) (eq-eqb n (rung_of l) e)
held-at low n (l ∷ ls) (suc k) d o h e =
    let later : rung_of l + 1 ≤ rung_of (get_or ls k d) = side_index-least (rung_of l + 1) ls k d o.1 (omega (arith, h)) in
    ap (λ b. if b then rows_in l else held n ls) (above (rung_of l) n (omega (arith, later, e))) ∙ held-at (rung_of l + 1) n ls k d o.1 (omega (arith, h)) e

pub held-lacks : (n : ℕ) (ls : List SideQueue) → Lacks n ls → held n ls ≡ []
held-lacks n [] a = refl
held-lacks n (l ∷ ls) a = ap (λ b. if b then rows_in l else held n ls) a.0 ∙ held-lacks n ls a.1

never : (b : Bool) → b ≡ true → b ≡ false → ⊥
never true h k = cc
never false h k = cc

-- a side queue changes in place
pub held-set : (low : ℕ) (ls : List SideQueue) (k : ℕ) (t d : SideQueue) (m : ℕ) → AreOrdered low ls → k < length ls → rung_of t ≡ rung_of (get_or ls k d) → held m (set ls k t) ≡ (if m == rung_of t then rows_in t else held m ls)
held-set low [] k t d m o h e = absurd (omega (arith, h))
held-set low (l ∷ ls) zero t d m o h e = by (m == rung_of t) (ap (λ n. m == n) e)
  where
    by : (b : Bool) → b ≡ (m == rung_of l) → (if b then rows_in t else held m ls) ≡ (if b then rows_in t else (if m == rung_of l then rows_in l else held m ls))
    by true f = refl
    by false f = ap (λ c. if c then rows_in l else held m ls) f
held-set low (l ∷ ls) (suc k) t d m o h e = by (m == rung_of l) (m == rung_of t) refl refl (held-set (rung_of l + 1) ls k t d m o.1 (omega (arith, h)) e)
  where
    by : (b c : Bool) → (m == rung_of l) ≡ b → (m == rung_of t) ≡ c → held m (set ls k t) ≡ (if m == rung_of t then rows_in t else held m ls) → (if b then rows_in l else held m (set ls k t)) ≡ (if c then rows_in t else (if b then rows_in l else held m ls))
    by true true f g ih =
        let later : rung_of l + 1 ≤ rung_of (get_or ls k d) = side_index-least (rung_of l + 1) ls k d o.1 (omega (arith, h)) in
        absurd (clash (same-number m (rung_of l) f) (same-number m (rung_of t) g) later)
      where
        clash : m ≡ rung_of l → m ≡ rung_of t → rung_of l + 1 ≤ rung_of (get_or ls k d) → ⊥
        clash a b later = omega (arith, a, b, later, e)
    by true false f g ih = refl
    by false c f g ih = ih ∙ ap (λ q. if q then rows_in t else held m ls) g

pub ordered-set : (low : ℕ) (ls : List SideQueue) (k : ℕ) (t d : SideQueue) → AreOrdered low ls → k < length ls → rung_of t ≡ rung_of (get_or ls k d) → AreOrdered low (set ls k t)
ordered-set low [] k t d o h e = absurd (omega (arith, h))
ordered-set low (l ∷ ls) zero t d o h e = (omega (arith, o.0, e), rw e o.1)
ordered-set low (l ∷ ls) (suc k) t d o h e = (o.0, ordered-set (rung_of l + 1) ls k t d o.1 (omega (arith, h)) e)

-- the place of an index

pub lower-bound : (n : ℕ) (ls : List SideQueue) → lower n ls ≤ length ls
lower-bound n [] = omega arith
lower-bound n (l ∷ ls) = by (nat_lt (rung_of l) n) (lower-bound n ls)
  where
    by : (b : Bool) → lower n ls ≤ length ls → (if b then suc (lower n ls) else 0) ≤ length (l ∷ ls)
    by true h = omega (arith, h)
    by false h = omega arith

below : (a b : ℕ) → a < b → nat_lt a b ≡ true
below a b h = grind (arith, nat_tests)

not-below : (a b : ℕ) → b ≤ a → nat_lt a b ≡ false
not-below a b h = grind (arith, nat_tests)

pub lower-is : (n : ℕ) (ls : List SideQueue) (i : ℕ) → i ≤ length ls → ((k : ℕ) (d : SideQueue) → k < i → rung_of (get_or ls k d) < n) → ((d : SideQueue) → i < length ls → n ≤ rung_of (get_or ls i d)) → lower n ls ≡ i
lower-is n [] i h before here = omega (arith, h)
lower-is n (l ∷ ls) zero h before here = ap (λ b. if b then suc (lower n ls) else 0) (not-below (rung_of l) n (here l (omega arith)))
lower-is n (l ∷ ls) (suc i) h before here = ap (λ b. if b then suc (lower n ls) else 0) (below (rung_of l) n (before 0 l (omega arith))) ∙ ap suc (lower-is n ls i (omega (arith, h)) (λ k d j. before (suc k) d (omega (arith, j))) (λ d j. here d (omega (arith, j))))

lacks-below : (low n : ℕ) (ls : List SideQueue) → n < low → AreOrdered low ls → Lacks n ls
lacks-below low n [] h o = tt
lacks-below low n (l ∷ ls) h o = (other-number n (rung_of l) (omega (arith, h, o.0)), lacks-below (rung_of l + 1) n ls (omega (arith, h, o.0)) o.1)

apart : (m n : ℕ) → (m ≡ n → ⊥) → (n == m) ≡ false
apart m n h = by (n == m) refl
  where
    by : (b : Bool) → (n == m) ≡ b → b ≡ false
    by true e = absurd (h (sym (same-number n m e)))
    by false e = refl

lt-parts : (a b : ℕ) (c : Bool) → nat_lt a b ≡ c → (c ≡ true → a < b) × (c ≡ false → b ≤ a)
lt-parts a b true e = (λ h. grind (arith, nat_tests), λ h. absurd (never true refl h))
lt-parts a b false e = (λ h. absurd (never false h refl), λ h. grind (arith, nat_tests))

pub lacks-there : (low n : ℕ) (ls : List SideQueue) → AreOrdered low ls → ((d : SideQueue) → lower n ls < length ls → rung_of (get_or ls (lower n ls) d) ≡ n → ⊥) → Lacks n ls
lacks-there low n [] o h = tt
lacks-there low n (l ∷ ls) o h = by (nat_lt (rung_of l) n) refl h (lacks-there (rung_of l + 1) n ls o.1)
  where
    by : (b : Bool) → nat_lt (rung_of l) n ≡ b → ((d : SideQueue) → (if b then suc (lower n ls) else 0) < length (l ∷ ls) → rung_of (get_or (l ∷ ls) (if b then suc (lower n ls) else 0) d) ≡ n → ⊥) → (((d : SideQueue) → lower n ls < length ls → rung_of (get_or ls (lower n ls) d) ≡ n → ⊥) → Lacks n ls) → ((n == rung_of l) ≡ false) × Lacks n ls
    by true e h ih = (above (rung_of l) n ((lt-parts (rung_of l) n true e).0 refl), ih (λ d k s. h d (omega (arith, k)) s))
    by false e h ih =
        let off : rung_of l ≡ n → ⊥ = λ s. h l (omega arith) s in
        let up : n ≤ rung_of l = (lt-parts (rung_of l) n false e).1 refl in
        (apart (rung_of l) n off, lacks-below (rung_of l + 1) n ls (omega (arith, up)) o.1)

-- insertion of a side queue
pub held-insert : (n : ℕ) (ls : List SideQueue) (t : SideQueue) (m : ℕ) → Lacks n ls → rung_of t ≡ n → held m (insert ls (lower n ls) t) ≡ (if m == n then rows_in t else held m ls)
held-insert n [] t m a e = ap (λ k. if m == k then rows_in t else []) e
held-insert n (l ∷ ls) t m a e = by (nat_lt (rung_of l) n) (held-insert n ls t m a.1 e)
  where
    over : (b c : Bool) (xs ys zs : List Row) → (m == rung_of l) ≡ b → (m == n) ≡ c → (if b then xs else (if c then ys else zs)) ≡ (if c then ys else (if b then xs else zs))
    over true true xs ys zs f g = absurd (never (n == rung_of l) (eq-eqb n (rung_of l) (sym (same-number m n g) ∙ same-number m (rung_of l) f)) a.0)
    over true false xs ys zs f g = refl
    over false c xs ys zs f g = refl

    by : (b : Bool) → held m (insert ls (lower n ls) t) ≡ (if m == n then rows_in t else held m ls) → held m (insert (l ∷ ls) (if b then suc (lower n ls) else 0) t) ≡ (if m == n then rows_in t else held m (l ∷ ls))
    by true ih = ap (λ hs. if m == rung_of l then rows_in l else hs) ih ∙ over (m == rung_of l) (m == n) (rows_in l) (rows_in t) (held m ls) refl refl
    by false ih = ap (λ k. if m == k then rows_in t else held m (l ∷ ls)) e

pub ordered-insert : (low n : ℕ) (ls : List SideQueue) (t : SideQueue) → AreOrdered low ls → low ≤ n → Lacks n ls → rung_of t ≡ n → AreOrdered low (insert ls (lower n ls) t)
ordered-insert low n [] t o h a e = (omega (arith, h, e), tt)
ordered-insert low n (l ∷ ls) t o h a e = by (nat_lt (rung_of l) n) refl (λ less. ordered-insert (rung_of l + 1) n ls t o.1 less a.1 e)
  where
    by : (b : Bool) → nat_lt (rung_of l) n ≡ b → (rung_of l + 1 ≤ n → AreOrdered (rung_of l + 1) (insert ls (lower n ls) t)) → AreOrdered low (insert (l ∷ ls) (if b then suc (lower n ls) else 0) t)
    by true f ih = let less : rung_of l < n = (lt-parts (rung_of l) n true f).0 refl in (o.0, ih (omega (arith, less)))
    by false f ih =
        let up : n ≤ rung_of l = (lt-parts (rung_of l) n false f).1 refl in
        let off : n ≡ rung_of l → ⊥ = λ s. never (n == rung_of l) (eq-eqb n (rung_of l) s) a.0 in
        (omega (arith, h, e), (omega (arith, up, off, e), o.1))

pub held-opened : (n : ℕ) (ls : List SideQueue) (t : SideQueue) (m : ℕ) → Lacks n ls → rung_of t ≡ n → rows_in t ≡ [] → held m (insert ls (lower n ls) t) ≡ held m ls
held-opened n ls t m a e none = held-insert n ls t m a e ∙ ap (λ xs. if m == n then xs else held m ls) none ∙ by (m == n) refl
  where
    by : (b : Bool) → (m == n) ≡ b → (if b then [] else held m ls) ≡ held m ls
    by true f = sym (ap (λ k. held k ls) (same-number m n f) ∙ held-lacks n ls a)
    by false f = refl

pub opened-there : (n : ℕ) (ls : List SideQueue) (t : SideQueue) → rung_of t ≡ n → IsLadder n (insert ls (lower n ls) t) (lower n ls)
opened-there n ls t e = (omega (arith, length-insert ls (lower n ls) t (lower-bound n ls), lower-bound n ls), λ d. ap rung_of (get_or-insert_at ls (lower n ls) t d (lower-bound n ls)) ∙ e)

-- the orders of a side queue change in place
pub held-changed : (f : List Row → List Row) (n : ℕ) (ls : List SideQueue) (k : ℕ) (l t : SideQueue) (m : ℕ) → AreOrdered 0 ls → IsLadder n ls k → l ≡ get_or ls k l → rung_of t ≡ rung_of l → rows_in t ≡ f (rows_in l) → held m (set ls k t) ≡ (if m == n then f (held m ls) else held m ls)
held-changed f n ls k l t m o at is e change =
    let own : rung_of l ≡ n = ap rung_of is ∙ at.1 l in
    held-set 0 ls k t l m o at.0 (e ∙ ap rung_of is) ∙ ap (λ r. if m == r then rows_in t else held m ls) (e ∙ own) ∙ by (m == n) refl
  where
    by : (b : Bool) → (m == n) ≡ b → (if b then rows_in t else held m ls) ≡ (if b then f (held m ls) else held m ls)
    by true g = change ∙ ap f (ap rows_in is ∙ sym (held-at 0 m ls k l o at.0 (same-number m n g ∙ sym (at.1 l))))
    by false g = refl

pub ordered-changed : (n : ℕ) (ls : List SideQueue) (k : ℕ) (l t : SideQueue) → AreOrdered 0 ls → IsLadder n ls k → l ≡ get_or ls k l → rung_of t ≡ rung_of l → AreOrdered 0 (set ls k t)
ordered-changed n ls k l t o at is e = ordered-set 0 ls k t l o at.0 (e ∙ ap rung_of is)

-- contents of a found side queue
pub held-there : (n : ℕ) (ls : List SideQueue) (k : ℕ) (l : SideQueue) → AreOrdered 0 ls → IsLadder n ls k → l ≡ get_or ls k l → held n ls ≡ rows_in l
held-there n ls k l o at is = held-at 0 n ls k l o at.0 (sym (at.1 l)) ∙ ap rows_in (sym is)

pub held-none : (n : ℕ) (f : List Row → List Row) (ls : List SideQueue) (m : ℕ) → f [] ≡ [] → Lacks n ls → held m ls ≡ (if m == n then f (held m ls) else held m ls)
held-none n f ls m none a = by (m == n) refl
  where
    by : (b : Bool) → (m == n) ≡ b → held m ls ≡ (if b then f (held m ls) else held m ls)
    by true g = let nothing : held m ls ≡ [] = ap (λ k. held k ls) (same-number m n g) ∙ held-lacks n ls a in nothing ∙ sym (ap f nothing ∙ none)
    by false g = refl

-- a resting order is in the queue of its instrument and side

pub own-side_index : (y : ℕ) (t : Side) (r : Resting) → is_live r ≡ true → rests y t r ≡ (side_index y t == side_index r.entry.order.instrument r.entry.order.side)
own-side_index y t r live = by t r.entry.order.side (is_day r.entry.order.life) (nat_lt 0 r.left) live
  where
    x : ℕ
    x = r.entry.order.instrument

    even : (a b : ℕ) → (a == b) ≡ (b * 2 == a * 2)
    even a b = cases (a == b) (b * 2 == a * 2) refl refl
      where
        cases : (c d : Bool) → (a == b) ≡ c → (b * 2 == a * 2) ≡ d → c ≡ d
        cases true true e f = refl
        cases false false e f = refl
        cases true false e f = absurd (grind (arith, nat_tests))
        cases false true e f = absurd (grind (arith, nat_tests))

    odd : (a b : ℕ) → (a == b) ≡ (b * 2 + 1 == a * 2 + 1)
    odd a b = cases (a == b) (b * 2 + 1 == a * 2 + 1) refl refl
      where
        cases : (c d : Bool) → (a == b) ≡ c → (b * 2 + 1 == a * 2 + 1) ≡ d → c ≡ d
        cases true true e f = refl
        cases false false e f = refl
        cases true false e f = absurd (grind (arith, nat_tests))
        cases false true e f = absurd (grind (arith, nat_tests))

    mixed : (a b : ℕ) → (b * 2 == a * 2 + 1) ≡ false
    mixed a b = cases (b * 2 == a * 2 + 1) refl
      where
        cases : (c : Bool) → (b * 2 == a * 2 + 1) ≡ c → c ≡ false
        cases true e = absurd (grind (arith, nat_tests))
        cases false e = refl

    mixed-too : (a b : ℕ) → (b * 2 + 1 == a * 2) ≡ false
    mixed-too a b = cases (b * 2 + 1 == a * 2) refl
      where
        cases : (c : Bool) → (b * 2 + 1 == a * 2) ≡ c → c ≡ false
        cases true e = absurd (grind (arith, nat_tests))
        cases false e = refl

    plain : (i : Bool) → (i && true) ≡ i
    plain true = refl
    plain false = refl

    none : (i : Bool) → (i && false) ≡ false
    none true = refl
    none false = refl

    by : (t s : Side) (d p : Bool) → (d && p) ≡ true → (d && ((x == y) && (is_side s t && p))) ≡ (side_index y t == side_index x s)
    by t s false p h = cc
    by t s true false h = cc
    by Buy Buy true true h = plain (x == y) ∙ even x y
    by Sell Sell true true h = plain (x == y) ∙ odd x y
    by Buy Sell true true h = none (x == y) ∙ sym (mixed x y)
    by Sell Buy true true h = none (x == y) ∙ sym (mixed-too x y)

same-side : (y x : ℕ) (t s : Side) → (side_index y t == side_index x s) ≡ true → t ≡ s
same-side y x Buy Buy h = refl
same-side y x Sell Sell h = refl
same-side y x Buy Sell h = absurd (grind (arith, nat_tests))
same-side y x Sell Buy h = absurd (grind (arith, nat_tests))

same-instrument : (y x : ℕ) (t s : Side) → (side_index y t == side_index x s) ≡ true → y ≡ x
same-instrument y x Buy Buy h = grind (arith, nat_tests)
same-instrument y x Sell Sell h = grind (arith, nat_tests)
same-instrument y x Buy Sell h = absurd (grind (arith, nat_tests))
same-instrument y x Sell Buy h = absurd (grind (arith, nat_tests))

-- the side queues after an entry, a trade and a removal are those of the orders

pub side_queues-joined : (rs : List Resting) (r : Resting) (before after : List SideQueue) → is_live r ≡ true → AreLadders rs before → ((m : ℕ) → held m after ≡ (if m == side_index r.entry.order.instrument r.entry.order.side then put_last r.entry.order.side (row_of r) (held m before) else held m before)) → AreLadders (joined_by r rs) after
side_queues-joined rs r before after live are change x side =
    change (side_index x side) ∙ ap (λ hs. if side_index x side == side_index r.entry.order.instrument r.entry.order.side then put_last r.entry.order.side (row_of r) hs else hs) (are x side)
    ∙ by (side_index x side == side_index r.entry.order.instrument r.entry.order.side) refl
    ∙ ap (λ b. rows_of (cond b (rank_last side r (ranked_live x side rs)) (ranked_live x side rs))) (sym (own-side_index x side r live))
    ∙ ap rows_of (sym (side_queue-joined x side r rs))
  where
    by : (b : Bool) → (side_index x side == side_index r.entry.order.instrument r.entry.order.side) ≡ b → (if b then put_last r.entry.order.side (row_of r) (rows_of (ranked_live x side rs)) else rows_of (ranked_live x side rs)) ≡ rows_of (cond b (rank_last side r (ranked_live x side rs)) (ranked_live x side rs))
    by true h = ap (λ s. put_last s (row_of r) (rows_of (ranked_live x side rs))) (sym (same-side x r.entry.order.instrument side r.entry.order.side h)) ∙ sym (rank-put side r (ranked_live x side rs))
    by false h = refl

elsewhere : (n low : ℕ) (rs : List Resting) (k : ℕ) (d : Resting) (p : Resting → Bool) → Ledger low rs → k < length rs → (get_or rs k d).entry.number ≡ n → p (get_or rs k d) ≡ false → Absent n (filter p rs)
elsewhere n low [] k d p l h e none = tt
elsewhere n low (r ∷ rs) zero d p l h e none =
    let rest : Absent n (filter p rs) = absent-filter n p rs (ledger-absent n r.entry.number rs (omega (arith, e)) l.2) in
    rw none rest
elsewhere n low (r ∷ rs) (suc k) d p l h e none =
    by (p r) (above r.entry.number n (omega (arith, ledger-least r.entry.number rs k l.2 (omega (arith, h)), e))) (elsewhere n r.entry.number rs k d p l.2 (omega (arith, h)) e none)
  where
    ledger-least : (low : ℕ) (rs : List Resting) (k : ℕ) → Ledger low rs → k < length rs → low < (get_or rs k d).entry.number
    ledger-least low [] k l h = absurd (omega (arith, h))
    ledger-least low (r ∷ rs) zero l h = l.0
    ledger-least low (r ∷ rs) (suc k) l h = omega (arith, l.0, ledger-least r.entry.number rs k l.2 (omega (arith, h)))

    by : (b : Bool) → (n == r.entry.number) ≡ false → Absent n (filter p rs) → Absent n (cond b (r ∷ filter p rs) (filter p rs))
    by true f a = (f, a)
    by false f a = a

live-at : (low : ℕ) (rs : List Resting) (k : ℕ) (d : Resting) → Ledger low rs → k < length rs → is_live (get_or rs k d) ≡ true
live-at low [] k d l h = absurd (omega (arith, h))
live-at low (r ∷ rs) zero d l h = l.1
live-at low (r ∷ rs) (suc k) d l h = live-at r.entry.number rs k d l.2 (omega (arith, h))

absent-elsewhere : (n k : ℕ) (rs : List Resting) (r : Resting) (x : ℕ) (side : Side) → Ledger 0 rs → IsPlaceOf n rs k → r ≡ get_or rs k r → (side_index x side == side_index r.entry.order.instrument r.entry.order.side) ≡ false → Absent n (ranked_live x side rs)
absent-elsewhere n k rs r x side l at is off =
    let live : is_live r ≡ true = ap is_live is ∙ live-at 0 rs k r l at.0 in
    let none : rests x side (get_or rs k r) ≡ false = ap (rests x side) (sym is) ∙ own-side_index x side r live ∙ off in
    absent-ranked n side (filter (rests x side) rs) (elsewhere n 0 rs k r (rests x side) l at.0 (at.1 r) none)

-- an order is on its own side
pub stands-there : (n : ℕ) (rs : List Resting) (r : Resting) → Ledger 0 rs → numbered n rs ≡ Some r → Found n (ranked_live r.entry.order.instrument r.entry.order.side rs) r
stands-there n rs r l some =
    let f : Found n rs r = numbered-some n rs r some in
    let live : is_live r ≡ true = ap is_live f.here ∙ live-at 0 rs f.at r l f.place.0 in
    stands n r.entry.order.instrument r.entry.order.side rs r l some (own-side_index r.entry.order.instrument r.entry.order.side r live ∙ eq-eqb (side_index r.entry.order.instrument r.entry.order.side) (side_index r.entry.order.instrument r.entry.order.side) refl)

pub row-there : (n : ℕ) (rs : List Resting) (r : Resting) (ls : List SideQueue) → Ledger 0 rs → (some : numbered n rs ≡ Some r) → AreLadders rs ls → (k : ℕ) × IsRow n r.entry.order.price (held (side_index r.entry.order.instrument r.entry.order.side) ls) k
row-there n rs r ls l some are =
    let f = stands-there n rs r l some in
    (f.at, rw (are r.entry.order.instrument r.entry.order.side) (row-found n (ranked_live r.entry.order.instrument r.entry.order.side rs) f.at r f.place f.here))

pub ranked-there : (x : ℕ) (side : Side) (rs : List Resting) (ls : List SideQueue) → Ledger 0 rs → AreLadders rs ls → AreRanked side (held (side_index x side) ls)
ranked-there x side rs ls l are = rw (are x side) (are-ranked x side rs l)

-- its change there changes it alone
changed-alone : (n : ℕ) (rs : List Resting) (r : Resting) (f : List Resting → List Resting) (g : List Row → List Row) (ls : List SideQueue) → Ledger 0 rs → numbered n rs ≡ Some r → ((ss : List Resting) → Absent n ss → f ss ≡ ss) → rows_of (f (ranked_live r.entry.order.instrument r.entry.order.side rs)) ≡ g (rows_of (ranked_live r.entry.order.instrument r.entry.order.side rs)) → AreLadders rs ls → (x : ℕ) (side : Side) → (if side_index x side == side_index r.entry.order.instrument r.entry.order.side then g (held (side_index x side) ls) else held (side_index x side) ls) ≡ rows_of (f (ranked_live x side rs))
changed-alone n rs r f g ls l some none own are x side =
    ap (λ hs. if side_index x side == side_index r.entry.order.instrument r.entry.order.side then g hs else hs) (are x side)
    ∙ by (side_index x side == side_index r.entry.order.instrument r.entry.order.side) refl
  where
    there : Found n rs r
    there = numbered-some n rs r some

    by : (b : Bool) → (side_index x side == side_index r.entry.order.instrument r.entry.order.side) ≡ b → (if b then g (rows_of (ranked_live x side rs)) else rows_of (ranked_live x side rs)) ≡ rows_of (f (ranked_live x side rs))
    by true h =
        subst (λ y. g (rows_of (ranked_live y side rs)) ≡ rows_of (f (ranked_live y side rs))) (sym (same-instrument x r.entry.order.instrument side r.entry.order.side h))
        (subst (λ t. g (rows_of (ranked_live r.entry.order.instrument t rs)) ≡ rows_of (f (ranked_live r.entry.order.instrument t rs))) (sym (same-side x r.entry.order.instrument side r.entry.order.side h)) (sym own))
    by false h = ap rows_of (sym (none (ranked_live x side rs) (absent-elsewhere n there.at rs r x side l there.place there.here h)))

pub side_queues-reduced : (n q : ℕ) (rs : List Resting) (r : Resting) (before after : List SideQueue) → Ledger 0 rs → numbered n rs ≡ Some r → q < r.left → AreLadders rs before → ((k m : ℕ) → IsRow n r.entry.order.price (held (side_index r.entry.order.instrument r.entry.order.side) before) k → held m after ≡ (if m == side_index r.entry.order.instrument r.entry.order.side then cut_at k q (held m before) else held m before)) → AreLadders (reduced n q rs) after
side_queues-reduced n q rs r before after l some more are change x side =
    let f = stands-there n rs r l some in
    let is : IsRow n r.entry.order.price (held (side_index r.entry.order.instrument r.entry.order.side) before) f.at = rw (are r.entry.order.instrument r.entry.order.side) (row-found n (ranked_live r.entry.order.instrument r.entry.order.side rs) f.at r f.place f.here) in
    change f.at (side_index x side) is
    ∙ changed-alone n rs r (reduced n q) (cut_at f.at q) before l some (reduced-absent n q) (rows-reduced n q (ranked_live r.entry.order.instrument r.entry.order.side rs) f.at r f.place f.here more) are x side
    ∙ ap rows_of (sym (side_queue-reduced n q 0 x side rs l))

pub side_queues-without : (n : ℕ) (rs : List Resting) (r : Resting) (before after : List SideQueue) → Ledger 0 rs → numbered n rs ≡ Some r → AreLadders rs before → ((k m : ℕ) → IsRow n r.entry.order.price (held (side_index r.entry.order.instrument r.entry.order.side) before) k → held m after ≡ (if m == side_index r.entry.order.instrument r.entry.order.side then remove (held m before) k else held m before)) → AreLadders (without n rs) after
side_queues-without n rs r before after l some are change x side =
    let f = stands-there n rs r l some in
    let is : IsRow n r.entry.order.price (held (side_index r.entry.order.instrument r.entry.order.side) before) f.at = rw (are r.entry.order.instrument r.entry.order.side) (row-found n (ranked_live r.entry.order.instrument r.entry.order.side rs) f.at r f.place f.here) in
    change f.at (side_index x side) is
    ∙ changed-alone n rs r (without n) (λ rows. remove rows f.at) before l some (without-absent n) (rows-without n (ranked_live r.entry.order.instrument r.entry.order.side rs) f.at f.place) are x side
    ∙ ap rows_of (sym (side_queue-without n 0 x side rs l))

-- at most as many orders as before

remove-fewer : (rows : List Row) (k : ℕ) → length (remove rows k) ≤ length rows
remove-fewer [] zero = omega arith
remove-fewer [] (suc k) = omega arith
remove-fewer (r ∷ rows) zero = omega arith
remove-fewer (r ∷ rows) (suc k) = omega (arith, remove-fewer rows k)

pub held-gone : (b : Bool) (rows : List Row) (k : ℕ) → length (if b then remove rows k else rows) ≤ length rows
held-gone true rows k = remove-fewer rows k
held-gone false rows k = omega arith

pub held-cut : (b : Bool) (rows : List Row) (k q : ℕ) → length (if b then cut_at k q rows else rows) ≤ length rows
held-cut true rows k q = omega (arith, cut-length k q rows)
held-cut false rows k q = omega arith

pub put-more : (side : Side) (row : Row) (rows : List Row) → length (put_last side row rows) ≡ length rows + 1
put-more side row [] = refl
put-more side row (s ∷ ss) = by (is_better side row.price s.price) (put-more side row ss)
  where
    by : (b : Bool) → length (put_last side row ss) ≡ length ss + 1 → length (insert (s ∷ ss) (cond (not b) (1 + behind side row.price ss) 0) row) ≡ length (s ∷ ss) + 1
    by true h = omega arith
    by false h = rw one-add (omega (arith, h))

pub held-more : (side : Side) (row : Row) (b : Bool) (rows : List Row) → length (if b then put_last side row rows else rows) ≤ length rows + 1
held-more side row true rows = omega (arith, put-more side row rows)
held-more side row false rows = omega arith

pub live-left : (r : Resting) → is_day r.entry.order.life ≡ true → 0 < r.left → is_live r ≡ true
live-left r day some = ap (λ b. b && nat_lt 0 r.left) day ∙ below 0 r.left some
