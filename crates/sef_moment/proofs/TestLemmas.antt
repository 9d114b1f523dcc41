-- The test of UTC texts decides their definition.
use Rattle.std.proofs.Common.{◌≡◌, ℕ, zero, suc, ◌<◌, ◌≤◌, true, false, Bool, List, [], ◌∷◌, length, drop, get_or, refl, sym, arith, rules, ◌==◌, nat_le, nat_lt, ◌&&◌, inl, inr, Result, Ok, Err}
use Rattle.std.specs.Prelude.{slice_index, All}
use Rattle.std.specs.List.{list_all}
use Rattle.std.specs.Result.{OkIff, is_ok}
use Rattle.std.proofs.lemmas.Bool.Decides.{nat_tests}
use Rattle.std.proofs.lemmas.Bool.{cases_eq}
use Rattle.sef_moment.specs.Calendar.{IsDate}
use Rattle.sef_moment.specs.Utc.{pattern, Matches, IsDigit, IsFraction, IsUtc}
use Rattle.sef_moment.specs.UtcTest.{is_digit, matches, begins_as, is_fraction, is_date, is_utc}

both : (a b : Bool) → a ≡ true → b ≡ true → (a && b) ≡ true
both a b h k = rw (h, k) refl

first : (a b : Bool) → (a && b) ≡ true → a ≡ true
first true b h = refl
first false b h = h

second : (a b : Bool) → (a && b) ≡ true → b ≡ true
second true b h = h
second false b h = absurd (search (h, rules))

digit-to : (c : ℕ) → IsDigit c → is_digit c ≡ true
digit-to c h = let low = h.0 in let high = h.1 in grind (arith, nat_tests)

digit-from : (c : ℕ) → is_digit c ≡ true → IsDigit c
digit-from c h = (grind (arith, nat_tests), grind (arith, nat_tests))

matches-to : (p c : ℕ) → Matches p c → matches p c ≡ true
matches-to p c h =
    elim (cases_eq p 48) [
      | inl e ↦ let test : (p == 48) ≡ true = grind (arith, nat_tests) in rw test (digit-to c (h.0 e))
      | inr e ↦ let test : (p == 48) ≡ false = grind (arith, nat_tests) in let same = h.1 e in rw test (grind (arith, nat_tests))
    ]

matches-from : (p c : ℕ) → matches p c ≡ true → Matches p c
matches-from p c h =
    elim (cases_eq p 48) [
      | inl e ↦
          let test : (p == 48) ≡ true = grind (arith, nat_tests) in
          ((λ _. digit-from c (rw test at h)), λ ne. absurd (ne e))
      | inr e ↦
          let test : (p == 48) ≡ false = grind (arith, nat_tests) in
          let same : (c == p) ≡ true = rw test at h in
          ((λ is. absurd (e is)), λ _. grind (arith, nat_tests))
    ]

shifted : (text : List ℕ) (k : ℕ) → slice_index (drop 1 text) k ≡ slice_index text (suc k)
shifted [] k = refl
shifted (c ∷ cs) k = refl

begins-to : (ps text : List ℕ) → ((k : ℕ) → k < length ps → Matches (slice_index ps k) (slice_index text k)) → begins_as ps text ≡ true
begins-to [] text h = refl
begins-to (p ∷ ps) text h =
    both _ _ (matches-to p (slice_index text 0) (h 0 (omega arith)))
    (begins-to ps (drop 1 text) (λ k lt. rw (shifted text k) (h (suc k) (omega arith))))

begins-from : (ps text : List ℕ) → begins_as ps text ≡ true → (k : ℕ) → k < length ps → Matches (slice_index ps k) (slice_index text k)
begins-from [] text h k lt = absurd (omega arith)
begins-from (p ∷ ps) text h zero lt = matches-from p (slice_index text 0) (first _ _ h)
begins-from (p ∷ ps) text h (suc k) lt =
    rw (← shifted text k) (begins-from ps (drop 1 text) (second _ _ h) k (omega arith))

all-to : (cs : List ℕ) → All IsDigit cs → list_all is_digit cs ≡ true
all-to [] h = refl
all-to (c ∷ cs) h = both _ _ (digit-to c (h 0 0 (omega arith))) (all-to cs (λ k d lt. h (suc k) d (omega arith)))

all-from-at : (c : ℕ) (cs : List ℕ) → is_digit c ≡ true → All IsDigit cs → (k d : ℕ) → k < length (c ∷ cs) → IsDigit (get_or (c ∷ cs) k d)
all-from-at c cs h rest zero d lt = digit-from c h
all-from-at c cs h rest (suc k) d lt = rest k d (omega arith)

all-from : (cs : List ℕ) → list_all is_digit cs ≡ true → All IsDigit cs
all-from [] h = λ k d lt. absurd (omega arith)
all-from (c ∷ cs) h = all-from-at c cs (first _ _ h) (all-from cs (second _ _ h))

le-to : (a b : ℕ) → a ≤ b → nat_le a b ≡ true
le-to a b h = grind (arith, nat_tests)

le-from : (a b : ℕ) → nat_le a b ≡ true → a ≤ b
le-from a b h = grind (arith, nat_tests)

lt-to : (a b : ℕ) → a < b → nat_lt a b ≡ true
lt-to a b h = grind (arith, nat_tests)

lt-from : (a b : ℕ) → nat_lt a b ≡ true → a < b
lt-from a b h = grind (arith, nat_tests)

fraction-to : (cs : List ℕ) → IsFraction cs → is_fraction cs ≡ true
fraction-to [] h = refl
fraction-to (c ∷ cs) h =
    let point = h.0 in
    let short = h.1 in
    both _ _ (grind (arith, nat_tests)) (both _ _ (le-to (length cs) 9 h.1) (all-to cs h.2))

fraction-from : (cs : List ℕ) → is_fraction cs ≡ true → IsFraction cs
fraction-from [] h = tt
fraction-from (c ∷ cs) h =
    let point : (c == 46) ≡ true = first (c == 46) (nat_le (length cs) 9 && list_all is_digit cs) h in
    let rest : (nat_le (length cs) 9 && list_all is_digit cs) ≡ true = second (c == 46) (nat_le (length cs) 9 && list_all is_digit cs) h in (
      grind (arith, nat_tests),
      le-from (length cs) 9 (first (nat_le (length cs) 9) (list_all is_digit cs) rest),
      all-from cs (second (nat_le (length cs) 9) (list_all is_digit cs) rest),
    )

date-to : (y m d : ℕ) → IsDate y m d → is_date y m d ≡ true
date-to y m d h =
    both _ _ (both _ _ (le-to _ _ h.first_year) (le-to _ _ h.last_year))
    (both _ _ (both _ _ (le-to _ _ h.first_month) (le-to _ _ h.last_month))
    (both _ _ (le-to _ _ h.first_day) (le-to _ _ h.last_day)))

date-from : (y m d : ℕ) → is_date y m d ≡ true → IsDate y m d
date-from y m d h =
    let years = first _ _ h in
    let rest = second _ _ h in
    let months = first _ _ rest in
    let days = second _ _ rest in
    record {
      first_year = le-from _ _ (first _ _ years);
      last_year = le-from _ _ (second _ _ years);
      first_month = le-from _ _ (first _ _ months);
      last_month = le-from _ _ (second _ _ months);
      first_day = le-from _ _ (first _ _ days);
      last_day = le-from _ _ (second _ _ days);
    }

pub utc-to : (text : List ℕ) → IsUtc text → is_utc text ≡ true
unfolding is_utc
utc-to text h =
    both _ _ (both _ _ (begins-to pattern text h.shape.head) (fraction-to (drop 17 text) h.shape.fraction))
    (both _ _ (date-to _ _ _ h.date)
    (both _ _ (both _ _ (lt-to _ _ h.hour) (lt-to _ _ h.minute))
    (both _ _ (le-to _ _ h.second) (le-to _ _ h.moment))))

pub utc-from : (text : List ℕ) → is_utc text ≡ true → IsUtc text
unfolding is_utc
utc-from text h =
    let shape = first _ _ h in
    let rest = second _ _ h in
    let times = second _ _ rest in
    let early = first _ _ times in
    let late = second _ _ times in
    record {
      shape = record { head = begins-from pattern text (first _ _ shape); fraction = fraction-from (drop 17 text) (second _ _ shape) };
      date = date-from _ _ _ (first _ _ rest);
      hour = lt-from _ _ (first _ _ early);
      minute = lt-from _ _ (second _ _ early);
      second = le-from _ _ (first _ _ late);
      moment = le-from _ _ (second _ _ late);
    }

tested : (b : Bool) → (b ≡ true → ⊥) → b ≡ false
tested true h = absurd (h refl)
tested false h = refl

pub not_utc : (text : List ℕ) → (IsUtc text → ⊥) → is_utc text ≡ false
not_utc text h = tested (is_utc text) (λ e. h (utc-from text e))

pub tested_utc : {E : Type 0} (text : List ℕ) (r : Result ℕ E) (v : ℕ) → OkIff r (IsUtc text) v → is_ok r ≡ is_utc text
tested_utc text (Ok x) v h = sym (utc-to text h.0)
tested_utc text (Err e) v h = sym (not_utc text h)
