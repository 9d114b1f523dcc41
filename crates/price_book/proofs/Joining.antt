use Rattle.std.proofs.Common.{◌≡◌, refl, sym, ap, ◌∙◌, ℕ, ◌-◌, ◌+◌, ◌≤◌, ◌<◌, Bool, true, false, cond, ◌&&◌, ◌==◌, nat_lt, List, [], ◌∷◌, ◌++◌, length, drop, get_or, Option, Some, None, arith, if◌then◌else◌}
use Rattle.std.proofs.lemmas.List.{drop_all}
use Rattle.venue_rules.specs.declared.facts.Fact.{Fact}
use Rattle.venue_rules.specs.declared.facts.Fact.TheVariants.{Entered, Traded, Removed, Held, Unheld, Asked, Quoted, Withdrawn, Closed}
use Rattle.venue_rules.specs.declared.facts.Entry.{Entry}
use Rattle.venue_rules.specs.declared.facts.TradeSource.{TradeSource}
use Rattle.venue_rules.specs.declared.facts.TradeSource.TheVariants.{Book as InBook, Room as InRoom}
use Rattle.venue_rules.specs.Facts.{entries, entry_in}
use Rattle.venue_rules.specs.Book.{Resting, is_day}
use Rattle.price_book.specs.Live.{is_live, whole_order, joined_by, entered, reduced, reduced_in, without, step, steps, change, changes, less_by, left_after, left_behind, entering, Ledger, AreLedgers, Absent}
use Rattle.price_book.proofs.Readings.{drop-read}
use Rattle.price_book.proofs.Living.{cut, cut-live, gone, gone-live, live-cut, day-live, same-number}
use Rattle.price_book.proofs.SideQueues.{reduced-absent, without-absent}
use Rattle.price_book.proofs.Numbers.{pushed-absent, ledger-head}

-- An entering order, and the facts behind its entry: as if it entered last, with its leaves quantity after them.

-- a live order, with a number that no resting order has
abbrev Free : Resting → List Resting → Type 0
Free r rs = is_live r ≡ true → Absent r.entry.number rs

absent-reduced : (m n q : ℕ) (rs : List Resting) → Absent m rs → Absent m (reduced n q rs)
absent-reduced m n q [] a = tt
absent-reduced m n q (r ∷ rs) a = by (n == r.entry.number) (nat_lt q r.left) (absent-reduced m n q rs a.1)
  where
    by : (b c : Bool) → Absent m (reduced n q rs) → Absent m (if b then (if c then record { entry = r.entry; left = r.left - q } ∷ rs else rs) else r ∷ reduced n q rs)
    by true true ih = a
    by true false ih = a.1
    by false c ih = (a.0, ih)

absent-without : (m n : ℕ) (rs : List Resting) → Absent m rs → Absent m (without n rs)
absent-without m n [] a = tt
absent-without m n (r ∷ rs) a = by (n == r.entry.number) (absent-without m n rs a.1)
  where
    by : (b : Bool) → Absent m (without n rs) → Absent m (if b then rs else r ∷ without n rs)
    by true ih = a.1
    by false ih = (a.0, ih)

-- the order at the end is another

reduced-before : (n q : ℕ) (rs : List Resting) (r : Resting) → (n == r.entry.number) ≡ false → reduced n q (rs ++ r ∷ []) ≡ reduced n q rs ++ r ∷ []
reduced-before n q [] r h = ap (λ b. if b then (if nat_lt q r.left then record { entry = r.entry; left = r.left - q } ∷ [] else []) else r ∷ []) h
reduced-before n q (s ∷ rs) r h = by (n == s.entry.number) (nat_lt q s.left) (reduced-before n q rs r h)
  where
    by : (b c : Bool) → reduced n q (rs ++ r ∷ []) ≡ reduced n q rs ++ r ∷ [] → (if b then (if c then record { entry = s.entry; left = s.left - q } ∷ rs ++ r ∷ [] else rs ++ r ∷ []) else s ∷ reduced n q (rs ++ r ∷ [])) ≡ (if b then (if c then record { entry = s.entry; left = s.left - q } ∷ rs else rs) else s ∷ reduced n q rs) ++ r ∷ []
    by true true ih = refl
    by true false ih = refl
    by false c ih = ap (λ t. s ∷ t) ih

without-before : (n : ℕ) (rs : List Resting) (r : Resting) → (n == r.entry.number) ≡ false → without n (rs ++ r ∷ []) ≡ without n rs ++ r ∷ []
without-before n [] r h = ap (λ b. if b then [] else r ∷ []) h
without-before n (s ∷ rs) r h = by (n == s.entry.number) (without-before n rs r h)
  where
    by : (b : Bool) → without n (rs ++ r ∷ []) ≡ without n rs ++ r ∷ [] → (if b then rs ++ r ∷ [] else s ∷ without n (rs ++ r ∷ [])) ≡ (if b then rs else s ∷ without n rs) ++ r ∷ []
    by true ih = refl
    by false ih = ap (λ t. s ∷ t) ih

-- the order at the end is the one

reduced-last : (n q : ℕ) (rs : List Resting) (r : Resting) → Absent n rs → (n == r.entry.number) ≡ true → reduced n q (rs ++ r ∷ []) ≡ cond (nat_lt q r.left) (rs ++ record { entry = r.entry; left = r.left - q } ∷ []) rs
reduced-last n q [] r a h = ap (λ b. if b then (if nat_lt q r.left then record { entry = r.entry; left = r.left - q } ∷ [] else []) else r ∷ []) h ∙ by (nat_lt q r.left) (record { entry = r.entry; left = r.left - q })
  where
    by : (c : Bool) (s : Resting) → (if c then s ∷ [] else []) ≡ cond c (s ∷ []) []
    by true s = refl
    by false s = refl
reduced-last n q (s ∷ rs) r a h =
    ap (λ b. if b then (if nat_lt q s.left then record { entry = s.entry; left = s.left - q } ∷ rs ++ r ∷ [] else rs ++ r ∷ []) else s ∷ reduced n q (rs ++ r ∷ [])) a.0
    ∙ ap (λ t. s ∷ t) (reduced-last n q rs r a.1 h) ∙ by (nat_lt q r.left) (record { entry = r.entry; left = r.left - q })
  where
    by : (c : Bool) (t : Resting) → s ∷ cond c (rs ++ t ∷ []) rs ≡ cond c (s ∷ rs ++ t ∷ []) (s ∷ rs)
    by true t = refl
    by false t = refl

without-last : (n : ℕ) (rs : List Resting) (r : Resting) → Absent n rs → (n == r.entry.number) ≡ true → without n (rs ++ r ∷ []) ≡ rs
without-last n [] r a h = ap (λ b. if b then [] else r ∷ []) h
without-last n (s ∷ rs) r a h = ap (λ b. if b then rs ++ r ∷ [] else s ∷ without n (rs ++ r ∷ [])) a.0 ∙ ap (λ t. s ∷ t) (without-last n rs r a.1 h)

-- and where it may rest

never : (b : Bool) → (b ≡ true → ⊥) → b ≡ false
never true h = absurd (h refl)
never false h = refl

false-true : (b : Bool) → b ≡ false → b ≡ true → ⊥
false-true true h k = cc
false-true false h k = cc

same-absent : (n : ℕ) (r : Resting) (rs : List Resting) → (n == r.entry.number) ≡ true → Absent r.entry.number rs → Absent n rs
same-absent n r rs e a = rw (sym (same-number n r.entry.number e)) at a

reduced-joined : (n q : ℕ) (rs : List Resting) (r : Resting) → Free r rs → reduced n q (joined_by r rs) ≡ joined_by (cut n q r) (reduced n q rs)
reduced-joined n q rs r free = by (is_live r) (n == r.entry.number) refl refl
  where
    by : (b c : Bool) → is_live r ≡ b → (n == r.entry.number) ≡ c → reduced n q (cond b (rs ++ r ∷ []) rs) ≡ joined_by (record { entry = r.entry; left = if c then r.left - q else r.left }) (reduced n q rs)
    by true true l e =
        let a : Absent n rs = same-absent n r rs e (free l) in
        reduced-last n q rs r a e
        ∙ ap (λ b. cond b (rs ++ record { entry = r.entry; left = r.left - q } ∷ []) rs) (sym (live-cut (is_day r.entry.order.life) r.left q (day-live (is_day r.entry.order.life) (nat_lt 0 r.left) l)))
        ∙ ap (joined_by (record { entry = r.entry; left = r.left - q })) (sym (reduced-absent n q rs a))
    by true false l e = reduced-before n q rs r e ∙ ap (λ b. cond b (reduced n q rs ++ r ∷ []) (reduced n q rs)) (sym l)
    by false c l e =
        let s : Resting = record { entry = r.entry; left = if c then r.left - q else r.left } in
        let dead : is_live s ≡ false = never (is_live s) (λ h. false-true (is_live r) l (cut-live n q r (ap (λ d. is_live (record { entry = r.entry; left = if d then r.left - q else r.left })) e ∙ h))) in
        ap (λ b. cond b (reduced n q rs ++ s ∷ []) (reduced n q rs)) (sym dead)

without-joined : (n : ℕ) (rs : List Resting) (r : Resting) → Free r rs → without n (joined_by r rs) ≡ joined_by (gone n r) (without n rs)
without-joined n rs r free = by (is_live r) (n == r.entry.number) refl refl
  where
    none : (d : Bool) → (d && nat_lt 0 0) ≡ false
    none true = refl
    none false = refl

    by : (b c : Bool) → is_live r ≡ b → (n == r.entry.number) ≡ c → without n (cond b (rs ++ r ∷ []) rs) ≡ joined_by (record { entry = r.entry; left = if c then 0 else r.left }) (without n rs)
    by true true l e =
        let a : Absent n rs = same-absent n r rs e (free l) in
        without-last n rs r a e ∙ sym (without-absent n rs a) ∙ ap (λ b. cond b (without n rs ++ record { entry = r.entry; left = 0 } ∷ []) (without n rs)) (sym (none (is_day r.entry.order.life)))
    by true false l e = without-before n rs r e ∙ ap (λ b. cond b (without n rs ++ r ∷ []) (without n rs)) (sym l)
    by false c l e =
        let s : Resting = record { entry = r.entry; left = if c then 0 else r.left } in
        let dead : is_live s ≡ false = never (is_live s) (λ h. false-true (is_live r) l (gone-live n r (ap (λ d. is_live (record { entry = r.entry; left = if d then 0 else r.left })) e ∙ h))) in
        ap (λ b. cond b (without n rs ++ s ∷ []) (without n rs)) (sym dead)

free-cut : (n q : ℕ) (rs : List Resting) (r : Resting) → Free r rs → Free (cut n q r) (reduced n q rs)
free-cut n q rs r free = λ l. absent-reduced r.entry.number n q rs (free (cut-live n q r l))

free-gone : (n : ℕ) (rs : List Resting) (r : Resting) → Free r rs → Free (gone n r) (without n rs)
free-gone n rs r free = λ l. absent-without r.entry.number n rs (free (gone-live n r l))

-- a fact behind the entry

abbrev after : Resting → Fact → Resting
after r f = record { entry = r.entry; left = left_after r.entry.number r.left f }

placed : (p : TradeSource) (q : ℕ) (rs : List Resting) (r : Resting) → Free r rs → let s : Resting = record { entry = r.entry; left = less_by r.entry.number p q r.left } in (reduced_in p q (joined_by r rs) ≡ joined_by s (reduced_in p q rs)) × Free s (reduced_in p q rs)
placed (InBook a b) q rs r free =
    let first : Free (cut a q r) (reduced a q rs) = free-cut a q rs r free in
    (ap (reduced b q) (reduced-joined a q rs r free) ∙ reduced-joined b q (reduced a q rs) (cut a q r) first, free-cut b q (reduced a q rs) (cut a q r) first)
placed (InRoom a b) q rs r free = (refl, free)

step-joined : (f : Fact) (rs : List Resting) (r : Resting) → Free r rs → entry_in f ≡ None → (step (joined_by r rs) f ≡ joined_by (after r f) (step rs f)) × Free (after r f) (step rs f)
step-joined (Entered e) rs r free none = cc
step-joined (Traded t) rs r free none = placed t.place t.quantity rs r free
step-joined (Removed g) rs r free none = (without-joined g.order rs r free, free-gone g.order rs r free)
step-joined (Held z) rs r free none = (refl, free)
step-joined (Unheld z) rs r free none = (refl, free)
step-joined (Asked z) rs r free none = (refl, free)
step-joined (Quoted z) rs r free none = (refl, free)
step-joined (Withdrawn z) rs r free none = (refl, free)
step-joined (Closed z) rs r free none = (refl, free)

step-change : (rs : List Resting) (f : Fact) → entry_in f ≡ None → step rs f ≡ change rs f
step-change rs (Entered e) none = cc
step-change rs (Traded t) none = refl
step-change rs (Removed g) none = refl
step-change rs (Held z) none = refl
step-change rs (Unheld z) none = refl
step-change rs (Asked z) none = refl
step-change rs (Quoted z) none = refl
step-change rs (Withdrawn z) none = refl
step-change rs (Closed z) none = refl

-- facts that enter no order

none-first : (f : Fact) (fs : List Fact) → entries (f ∷ fs) ≡ [] → (entry_in f ≡ None) × (entries fs ≡ [])
none-first (Entered e) fs h = cc
none-first (Traded t) fs h = (refl, h)
none-first (Removed g) fs h = (refl, h)
none-first (Held z) fs h = (refl, h)
none-first (Unheld z) fs h = (refl, h)
none-first (Asked z) fs h = (refl, h)
none-first (Quoted z) fs h = (refl, h)
none-first (Withdrawn z) fs h = (refl, h)
none-first (Closed z) fs h = (refl, h)

steps-joined : (fs : List Fact) (rs : List Resting) (r : Resting) → Free r rs → entries fs ≡ [] → steps (joined_by r rs) fs ≡ joined_by (record { entry = r.entry; left = left_behind r.entry.number r.left fs }) (changes rs fs)
steps-joined [] rs r free none = refl
steps-joined (f ∷ fs) rs r free none =
    let n = none-first f fs none in
    let s = step-joined f rs r free n.0 in
    ap (λ ss. steps ss fs) s.0 ∙ steps-joined fs (step rs f) (after r f) s.1 n.1
    ∙ ap (λ ss. joined_by (record { entry = r.entry; left = left_behind r.entry.number (left_after r.entry.number r.left f) fs }) (changes ss fs)) (step-change rs f n.0)

-- facts that enter at most one order

abbrev pub joined : Option Resting → List Resting → List Resting
joined None rs = rs
joined (Some r) rs = joined_by r rs

none-behind : (e : Entry) (fs : List Fact) → length (entries (Entered e ∷ fs)) ≤ 1 → entries fs ≡ []
none-behind e fs h = by (entries fs) (omega (arith, h))
  where
    by : (es : List Entry) → length es ≤ 0 → es ≡ []
    by [] k = refl
    by (d ∷ es) k = absurd (omega (arith, k))

-- the order enters last, with its leaves quantity after the facts behind its entry
pub entered-last : (rs : List Resting) (fs : List Fact) → length (entries fs) ≤ 1 → AreLedgers rs fs → steps rs fs ≡ joined (entering fs) (changes rs fs)
entered-last rs [] one l = refl
entered-last rs (Entered e ∷ fs) one l = steps-joined fs rs (whole_order e) (λ live. pushed-absent 0 rs (whole_order e) (rw (ap (λ b. cond b (rs ++ whole_order e ∷ []) rs) live) at (ledger-head (entered e rs) fs l.1))) (none-behind e fs one)
entered-last rs (Traded t ∷ fs) one l = entered-last (step rs (Traded t)) fs one l.1
entered-last rs (Removed g ∷ fs) one l = entered-last (step rs (Removed g)) fs one l.1
entered-last rs (Held z ∷ fs) one l = entered-last rs fs one l.1
entered-last rs (Unheld z ∷ fs) one l = entered-last rs fs one l.1
entered-last rs (Asked z ∷ fs) one l = entered-last rs fs one l.1
entered-last rs (Quoted z ∷ fs) one l = entered-last rs fs one l.1
entered-last rs (Withdrawn z ∷ fs) one l = entered-last rs fs one l.1
entered-last rs (Closed z ∷ fs) one l = entered-last rs fs one l.1

pub ledger-steps : (rs : List Resting) (fs : List Fact) → AreLedgers rs fs → Ledger 0 (steps rs fs)
ledger-steps rs [] l = l
ledger-steps rs (f ∷ fs) l = ledger-steps (step rs f) fs l.1

-- the number of orders that facts enter

pub entering-some : (fs : List Fact) (r : Resting) → entering fs ≡ Some r → length (entries fs) ≤ 1 → length (entries fs) ≡ 1
entering-some [] r h one = cc
entering-some (Entered e ∷ fs) r h one = omega (arith, one)
entering-some (Traded t ∷ fs) r h one = entering-some fs r h one
entering-some (Removed g ∷ fs) r h one = entering-some fs r h one
entering-some (Held z ∷ fs) r h one = entering-some fs r h one
entering-some (Unheld z ∷ fs) r h one = entering-some fs r h one
entering-some (Asked z ∷ fs) r h one = entering-some fs r h one
entering-some (Quoted z ∷ fs) r h one = entering-some fs r h one
entering-some (Withdrawn z ∷ fs) r h one = entering-some fs r h one
entering-some (Closed z ∷ fs) r h one = entering-some fs r h one

-- a further fact

pub changes-more : (rs : List Resting) (fs : List Fact) (i : ℕ) (f : Fact) → i < length fs → f ≡ get_or fs i f → changes rs (drop i fs) ≡ changes (change rs f) (drop (i + 1) fs)
changes-more rs fs i f h e = rw (drop-read fs i f h e) refl

pub changes-end : (rs : List Resting) (fs : List Fact) (i : ℕ) → length fs ≤ i → changes rs (drop i fs) ≡ rs
changes-end rs fs i h = rw (drop_all i fs h) refl
