use Rattle.std.proofs.Common.{◌≡◌, refl, sym, ap, ◌∙◌, ℕ, zero, suc, ◌+◌, ◌≤◌, ◌<◌, Bool, true, false, not, cond, nat_lt, nat_le, List, [], ◌∷◌, ◌++◌, length, get_or, filter, find, Option, Some, None, if◌then◌else◌, arith}
use Rattle.std.specs.List.{insert}
use Rattle.std.specs.List.Sorted.{IsNonDecreasingBy, IsPartitionPoint}
use Rattle.std.proofs.lemmas.Bool.Decides.{nat_tests}
use Rattle.venue_rules.specs.declared.facts.Fact.{Fact}
use Rattle.venue_rules.specs.declared.facts.Fact.TheVariants.{Entered, Traded, Removed, Held, Unheld, Asked, Quoted, Withdrawn, Closed}
use Rattle.venue_rules.specs.declared.facts.HeldSide.{HeldSide}
use Rattle.venue_rules.specs.Delay.{earlier, earliest, releases}
use Rattle.cross_delay.specs.ByDue.{AreRising, by_due, first_due, put_first, put_last, step}

-- Sides by due moment.

is_less : (a b : ℕ) → nat_lt a b ≡ true → a < b
is_less a b h = grind (arith, nat_tests)

is_no_less : (a b : ℕ) → nat_lt a b ≡ false → b ≤ a
is_no_less a b h = grind (arith, nat_tests)

is_within : (a b : ℕ) → nat_le a b ≡ true → a ≤ b
is_within a b h = grind (arith, nat_tests)

is_beyond : (a b : ℕ) → nat_le a b ≡ false → b < a
is_beyond a b h = grind (arith, nat_tests)

no_less : (a b : ℕ) → b ≤ a → nat_lt a b ≡ false
no_less a b h = grind (arith, nat_tests)

turned : (a b : ℕ) → nat_le a b ≡ not (nat_lt b a)
turned a b = by (nat_lt b a) refl
  where
    within : (a b : ℕ) → a ≤ b → nat_le a b ≡ true
    within a b h = grind (arith, nat_tests)

    beyond : (a b : ℕ) → b < a → nat_le a b ≡ false
    beyond a b h = grind (arith, nat_tests)

    by : (c : Bool) → nat_lt b a ≡ c → nat_le a b ≡ not c
    by true e = beyond a b (is_less b a e)
    by false e = within a b (is_no_less b a e)

-- the first of them is the earliest

first-put-by : (t : ℕ) (h k : HeldSide) (ks : List HeldSide) (b c d : Bool) → nat_lt k.due h.due ≡ b → nat_le h.due t ≡ c → nat_le k.due t ≡ d → first_due t (put_first h (k ∷ ks)) ≡ (if nat_le h.due t then earlier h (first_due t (k ∷ ks)) else first_due t (k ∷ ks))
first-put-by t h k ks true true true e f g = rw (e, f, g) (rw e refl)
first-put-by t h k ks true true false e f g = let l = is_less k.due h.due e in let m = is_within h.due t f in let n = is_beyond k.due t g in absurd (omega arith)
first-put-by t h k ks true false d e f g = rw (e, f) refl
first-put-by t h k ks false true true e f g = rw (e, f, g) (rw e refl)
first-put-by t h k ks false true false e f g = rw (e, f, g) refl
first-put-by t h k ks false false true e f g = let l = is_no_less k.due h.due e in let m = is_beyond h.due t f in let n = is_within k.due t g in absurd (omega arith)
first-put-by t h k ks false false false e f g = rw (e, f, g) refl

first-put : (t : ℕ) (h : HeldSide) (ks : List HeldSide) → first_due t (put_first h ks) ≡ (if nat_le h.due t then earlier h (first_due t ks) else first_due t ks)
first-put t h [] = refl
first-put t h (k ∷ ks) = first-put-by t h k ks (nat_lt k.due h.due) (nat_le h.due t) (nat_le k.due t) refl refl refl

pub first-by_due : (t : ℕ) (hs : List HeldSide) → first_due t (by_due hs) ≡ earliest (filter (λ h. nat_le h.due t) hs)
first-by_due t [] = refl
first-by_due t (h ∷ hs) = first-put t h (by_due hs) ∙ by (nat_le h.due t) (first-by_due t hs)
  where
    by : (b : Bool) → first_due t (by_due hs) ≡ earliest (filter (λ k. nat_le k.due t) hs) → (if b then earlier h (first_due t (by_due hs)) else first_due t (by_due hs)) ≡ earliest (cond b (h ∷ filter (λ k. nat_le k.due t) hs) (filter (λ k. nat_le k.due t) hs))
    by true e = ap (earlier h) e
    by false e = e

-- the last to arrive

commute-end : (x h : HeldSide) (b : Bool) → nat_lt h.due x.due ≡ b → put_first x (h ∷ []) ≡ put_last h (x ∷ [])
commute-end x h true e = rw (turned x.due h.due, e) refl
commute-end x h false e = rw (turned x.due h.due, e) refl

commute-by : (x h k : HeldSide) (ks : List HeldSide) (p q r : Bool) → nat_le k.due h.due ≡ p → nat_lt k.due x.due ≡ q → nat_lt h.due x.due ≡ r → put_first x (put_last h ks) ≡ put_last h (put_first x ks) → put_first x (put_last h (k ∷ ks)) ≡ put_last h (put_first x (k ∷ ks))
commute-by x h k ks true true r e f g ih = rw (e, f) (rw e (ap (λ ls. k ∷ ls) ih))
commute-by x h k ks true false true e f g ih = let l = is_within k.due h.due e in let m = is_no_less k.due x.due f in let n = is_less h.due x.due g in absurd (omega arith)
commute-by x h k ks true false false e f g ih = rw (e, f) (rw (turned x.due h.due, g) (rw e refl))
commute-by x h k ks false true true e f g ih = rw (e, f) (rw (g, e) refl)
commute-by x h k ks false true false e f g ih = let l = is_beyond k.due h.due e in let m = is_less k.due x.due f in let n = is_no_less h.due x.due g in absurd (omega arith)
commute-by x h k ks false false true e f g ih = rw (e, f) (rw (turned x.due h.due, g) refl)
commute-by x h k ks false false false e f g ih = rw (e, f) (rw (turned x.due h.due, g) (rw e refl))

commute : (x h : HeldSide) (ks : List HeldSide) → put_first x (put_last h ks) ≡ put_last h (put_first x ks)
commute x h [] = commute-end x h (nat_lt h.due x.due) refl
commute x h (k ∷ ks) = commute-by x h k ks (nat_le k.due h.due) (nat_lt k.due x.due) (nat_lt h.due x.due) refl refl refl (commute x h ks)

pub by_due-more : (hs : List HeldSide) (h : HeldSide) → by_due (hs ++ h ∷ []) ≡ put_last h (by_due hs)
by_due-more [] h = refl
by_due-more (x ∷ hs) h = ap (put_first x) (by_due-more hs h) ∙ commute x h (by_due hs)

-- due moments rise

rises-low : (low high : ℕ) (ks : List HeldSide) → low ≤ high → AreRising high ks → AreRising low ks
rises-low low high [] h r = tt
rises-low low high (k ∷ ks) h r = (omega (arith, h, r.0), r.1)

rises-first : (low : ℕ) (h : HeldSide) (ks : List HeldSide) → low ≤ h.due → AreRising low ks → AreRising low (put_first h ks)
rises-first low h [] l r = (l, tt)
rises-first low h (k ∷ ks) l r = by (nat_lt k.due h.due) refl (λ m. rises-first k.due h ks m r.1)
  where
    by : (b : Bool) → nat_lt k.due h.due ≡ b → (k.due ≤ h.due → AreRising k.due (put_first h ks)) → AreRising low (if b then k ∷ put_first h ks else h ∷ k ∷ ks)
    by true e ih = let m = is_less k.due h.due e in (r.0, ih (omega (arith, m)))
    by false e ih = (l, (is_no_less k.due h.due e, r.1))

pub rises : (hs : List HeldSide) → AreRising 0 (by_due hs)
rises [] = tt
rises (h ∷ hs) = rises-first 0 h (by_due hs) (omega arith) (rises hs)

pub rises-last : (low : ℕ) (h : HeldSide) (ks : List HeldSide) → low ≤ h.due → AreRising low ks → AreRising low (put_last h ks)
rises-last low h [] l r = (l, tt)
rises-last low h (k ∷ ks) l r = by (nat_le k.due h.due) refl (λ m. rises-last k.due h ks m r.1)
  where
    by : (b : Bool) → nat_le k.due h.due ≡ b → (k.due ≤ h.due → AreRising k.due (put_last h ks)) → AreRising low (if b then k ∷ put_last h ks else h ∷ k ∷ ks)
    by true e ih = (r.0, ih (is_within k.due h.due e))
    by false e ih = let m = is_beyond k.due h.due e in (l, (omega (arith, m), r.1))

pub rises-filter : (p : HeldSide → Bool) (low : ℕ) (ks : List HeldSide) → AreRising low ks → AreRising low (filter p ks)
rises-filter p low [] r = r
rises-filter p low (k ∷ ks) r = by (p k) (rises-filter p k.due ks r.1)
  where
    by : (b : Bool) → AreRising k.due (filter p ks) → AreRising low (cond b (k ∷ filter p ks) (filter p ks))
    by true ih = (r.0, ih)
    by false ih = rises-low low k.due (filter p ks) r.0 ih

-- a further fact
pub rises-step : (hs : List HeldSide) (f : Fact) → AreRising 0 hs → AreRising 0 (step hs f)
rises-step hs (Held h) r = rises-last 0 h hs (omega arith) r
rises-step hs (Unheld u) r = rises-filter (λ h. not (releases h (Unheld u))) 0 hs r
rises-step hs (Entered e) r = r
rises-step hs (Traded t) r = r
rises-step hs (Removed m) r = r
rises-step hs (Asked m) r = r
rises-step hs (Quoted q) r = r
rises-step hs (Withdrawn w) r = r
rises-step hs (Closed m) r = r

rises-least : (low : ℕ) (ks : List HeldSide) (i : ℕ) (d : HeldSide) → AreRising low ks → i < length ks → low ≤ (get_or ks i d).due
rises-least low [] i d r h = absurd (omega (arith, h))
rises-least low (k ∷ ks) zero d r h = r.0
rises-least low (k ∷ ks) (suc i) d r h = let l = rises-least k.due ks i d r.1 (omega (arith, h)) in omega (arith, l, r.0)

pub rises-far : (low : ℕ) (ks : List HeldSide) → AreRising low ks → IsNonDecreasingBy (λ (h : HeldSide). h.due) ks
rises-far low [] r i j d h m = absurd (omega (arith, m))
rises-far low (k ∷ ks) r zero zero d h m = omega arith
rises-far low (k ∷ ks) r zero (suc j) d h m = rises-least k.due ks j d r.1 (omega (arith, m))
rises-far low (k ∷ ks) r (suc i) zero d h m = absurd (omega (arith, h))
rises-far low (k ∷ ks) r (suc i) (suc j) d h m = rises-far k.due ks r.1 i j d (omega (arith, h)) (omega (arith, m))

-- the place of the last to arrive

pub put-last-is : (h : HeldSide) (ks : List HeldSide) (i : ℕ) → i ≤ length ks → IsPartitionPoint (λ (k : HeldSide). nat_le k.due h.due ≡ true) (λ (k : HeldSide). nat_le k.due h.due ≡ false) ks i → insert ks i h ≡ put_last h ks
put-last-is h [] i l at = let none : i ≡ 0 = omega (arith, l) in ap (λ n. insert [] n h) none
put-last-is h (k ∷ ks) zero l at = let late : nat_le k.due h.due ≡ false = at.1 0 k (omega arith) (omega arith) in rw late refl
put-last-is h (k ∷ ks) (suc i) l at =
    let soon : nat_le k.due h.due ≡ true = at.0 0 k (omega arith) (omega arith) in
    rw soon (ap (λ ls. k ∷ ls) (put-last-is h ks i (omega (arith, l)) ((λ n d a b. at.0 (suc n) d (omega arith) (omega (arith, b))), (λ n d a b. at.1 (suc n) d (omega (arith, a)) (omega (arith, b))))))

-- a filter of them

first-place : (p : HeldSide → Bool) (x : HeldSide) (ks : List HeldSide) → AreRising x.due ks → put_first x (filter p ks) ≡ x ∷ filter p ks
first-place p x [] r = refl
first-place p x (k ∷ ks) r = by (p k) (first-place p x ks (rises-low x.due k.due ks r.0 r.1))
  where
    by : (b : Bool) → put_first x (filter p ks) ≡ x ∷ filter p ks → put_first x (cond b (k ∷ filter p ks) (filter p ks)) ≡ x ∷ cond b (k ∷ filter p ks) (filter p ks)
    by true ih = rw (no_less k.due x.due r.0) refl
    by false ih = ih

filter-put : (p : HeldSide → Bool) (x : HeldSide) (low : ℕ) (ks : List HeldSide) → AreRising low ks → filter p (put_first x ks) ≡ cond (p x) (put_first x (filter p ks)) (filter p ks)
filter-put p x low [] r = refl
filter-put p x low (k ∷ ks) r = by (nat_lt k.due x.due) (p x) (p k) refl refl refl (filter-put p x k.due ks r.1)
  where
    by : (q a b : Bool) → nat_lt k.due x.due ≡ q → p x ≡ a → p k ≡ b → filter p (put_first x ks) ≡ cond (p x) (put_first x (filter p ks)) (filter p ks) → filter p (put_first x (k ∷ ks)) ≡ cond (p x) (put_first x (filter p (k ∷ ks))) (filter p (k ∷ ks))
    by true true true e f g ih = rw (e, f, g) (rw e (ap (λ ls. k ∷ ls) (ih ∙ ap (λ c. cond c (put_first x (filter p ks)) (filter p ks)) f)))
    by true true false e f g ih = rw (e, f, g) (ih ∙ ap (λ c. cond c (put_first x (filter p ks)) (filter p ks)) f)
    by true false true e f g ih = rw (e, f, g) (ap (λ ls. k ∷ ls) (ih ∙ ap (λ c. cond c (put_first x (filter p ks)) (filter p ks)) f))
    by true false false e f g ih = rw (e, f, g) (ih ∙ ap (λ c. cond c (put_first x (filter p ks)) (filter p ks)) f)
    by false true true e f g ih = rw (e, f, g) (rw e refl)
    by false true false e f g ih = rw (e, f, g) (sym (first-place p x ks (rises-low x.due k.due ks (is_no_less k.due x.due e) r.1)))
    by false false true e f g ih = rw (e, f, g) refl
    by false false false e f g ih = rw (e, f, g) refl

pub filter-by_due : (p : HeldSide → Bool) (hs : List HeldSide) → by_due (filter p hs) ≡ filter p (by_due hs)
filter-by_due p [] = refl
filter-by_due p (h ∷ hs) = by (p h) refl (filter-by_due p hs)
  where
    by : (b : Bool) → p h ≡ b → by_due (filter p hs) ≡ filter p (by_due hs) → by_due (cond b (h ∷ filter p hs) (filter p hs)) ≡ filter p (put_first h (by_due hs))
    by true e ih = ap (put_first h) ih ∙ sym (filter-put p h 0 (by_due hs) (rises hs) ∙ ap (λ c. cond c (put_first h (filter p (by_due hs))) (filter p (by_due hs))) e)
    by false e ih = ih ∙ sym (filter-put p h 0 (by_due hs) (rises hs) ∙ ap (λ c. cond c (put_first h (filter p (by_due hs))) (filter p (by_due hs))) e)

length-put : (h : HeldSide) (ks : List HeldSide) → length (put_first h ks) ≡ length ks + 1
length-put h [] = refl
length-put h (k ∷ ks) = by (nat_lt k.due h.due) (length-put h ks)
  where
    by : (b : Bool) → length (put_first h ks) ≡ length ks + 1 → length (if b then k ∷ put_first h ks else h ∷ k ∷ ks) ≡ length (k ∷ ks) + 1
    by true e = omega (arith, e)
    by false e = omega arith

pub length-by_due : (hs : List HeldSide) → length (by_due hs) ≡ length hs
length-by_due [] = refl
length-by_due (h ∷ hs) = omega (arith, length-put h (by_due hs), length-by_due hs)

-- the one that passes a test which no two pass

abbrev first_of : List HeldSide → Option HeldSide
first_of [] = None
first_of (h ∷ hs) = Some h

find-first : (n : HeldSide → Bool) (hs : List HeldSide) → find n hs ≡ first_of (filter n hs)
find-first n [] = refl
find-first n (h ∷ hs) = by (n h) (find-first n hs)
  where
    by : (b : Bool) → find n hs ≡ first_of (filter n hs) → cond b (Some h) (find n hs) ≡ first_of (cond b (h ∷ filter n hs) (filter n hs))
    by true e = refl
    by false e = e

alone : (hs : List HeldSide) → length hs ≤ 1 → by_due hs ≡ hs
alone [] l = refl
alone (h ∷ []) l = refl
alone (h ∷ k ∷ ks) l = absurd (omega (arith, l))

pub find-by_due : (n : HeldSide → Bool) (hs : List HeldSide) → length (filter n hs) ≤ 1 → find n (by_due hs) ≡ find n hs
find-by_due n hs l = find-first n (by_due hs) ∙ ap first_of (sym (filter-by_due n hs) ∙ alone (filter n hs) l) ∙ sym (find-first n hs)
