-- Numbers that are counted in the place of events.
use Rattle.std.specs.Prelude.{◌≡◌, ℕ, ◌+◌, ◌<◌, ◌==◌, ◌&&◌, Bool, true, false, List, [], ◌∷◌, ◌++◌, cond, count_by, length, take, Some, if◌then◌else◌, refl}
use Rattle.std.proofs.Common.{sym, ◌∙◌, ap, arith, get_or}
use Rattle.std.proofs.lemmas.Bool.Decides.{nat_tests}
use Rattle.std.proofs.lemmas.List.Sums.{count_by_more_no, count_by_more_yes, sum_by-append}
use Rattle.day_events.specs.declared.event.Event.{Event}
use Rattle.day_sections.specs.declared.counts.Kind.{Kind}
use Rattle.day_sections.specs.Counts.{counts, is_counted, is_of_sender}
use Rattle.day_sections.specs.Numbers.{AreOf, numbers_in}

count_more_by : {X : Type 0} (test : X → Bool) (xs : List X) (i : ℕ) (x : X) (is : Bool) → test (get_or xs i x) ≡ is → i < length xs
    → count_by test (take (i + 1) xs) ≡ count_by test (take i xs) + cond is 1 0
count_more_by test xs i x true h below = count_by_more_yes test xs i x below h
count_more_by test xs i x false h below = let e = count_by_more_no test xs i x below h in omega (arith, e)

count_more : {X : Type 0} (test : X → Bool) (xs : List X) (i : ℕ) (x : X) → i < length xs → x ≡ get_or xs i x
    → count_by test (take (i + 1) xs) ≡ count_by test (take i xs) + cond (test x) 1 0
count_more test xs i x below is = count_more_by test xs i x (test x) (ap test (sym is)) below

one_if : (b : Bool) → 0 + cond b 1 0 ≡ cond b 1 0
one_if true = refl
one_if false = refl

next : (a b : ℕ) → (a + 1 == b + 1) ≡ (a == b)
next a b = grind (arith, nat_tests)

one_by : (counted sender : Bool) (from to p : ℕ)
    → count_by (λ n. n == p + 1) (if counted then (if sender then from else to + 1) ∷ [] else []) ≡ cond (counted && (if sender then from == p + 1 else to == p)) 1 0
one_by true true from to p = one_if (from == p + 1)
one_by true false from to p = one_if (to + 1 == p + 1) ∙ ap (λ (b : Bool). cond b 1 0) (next to p)
one_by false sender from to p = refl

-- the number of an event is counted where the event is
one_event : (k : Kind) (p : ℕ) (e : Event) → count_by (λ n. n == p + 1) (numbers_in k e) ≡ cond (counts k (Some p) e) 1 0
one_event k p e = one_by (is_counted k e.what) (is_of_sender k) e.at.from e.to p

pub counts_on : (k : Kind) (es : List Event) (i : ℕ) (e : Event) (old new : List ℕ) (p : ℕ) → i < length es → e ≡ get_or es i e → new ≡ old ++ numbers_in k e
    → count_by (λ n. n == p + 1) old ≡ count_by (counts k (Some p)) (take i es) → count_by (λ n. n == p + 1) new ≡ count_by (counts k (Some p)) (take (i + 1) es)
counts_on k es i e old new p below is more h =
    ap (count_by (λ n. n == p + 1)) more
    ∙ (sum_by-append (λ (n : ℕ). cond (n == p + 1) 1 0) old (numbers_in k e)
    ∙ (ap (λ (m : ℕ). m + count_by (λ n. n == p + 1) (numbers_in k e)) h
    ∙ (ap (λ (m : ℕ). count_by (counts k (Some p)) (take i es) + m) (one_event k p e)
    ∙ sym (count_more (counts k (Some p)) es i e below is))))

-- how often a participant is among the numbers of a kind
pub counted : (ns items : List ℕ) (m p : ℕ) (k : Kind) (es : List Event) → m ≡ count_by (λ n. n == p + 1) ns → ns ≡ items → AreOf k es items → m ≡ count_by (counts k (Some p)) es
counted ns items m p k es h is all = h ∙ (ap (count_by (λ n. n == p + 1)) is ∙ all p)
