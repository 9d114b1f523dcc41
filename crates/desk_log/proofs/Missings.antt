-- Numbers that are said to be missing are missing.
use Rattle.std.proofs.Common.{◌≡◌, ◌⊎◌, inl, inr, ℕ, zero, suc, ◌+◌, ◌<◌, ◌≤◌, ◌==◌, ◌&&◌, ◌||◌, Bool, true, false, List, [], ◌∷◌, ◌++◌, length, Option, None, Some, if◌then◌else◌, append-nil, refl, sym, subst, ap, ◌∙◌, arith}
use Rattle.std.specs.Prelude.{nat_le, nat_lt}
use Rattle.std.specs.Bool.{Decides}
use Rattle.std.specs.List.{list_any}
use Rattle.std.proofs.lemmas.Bool.{false≢true}
use Rattle.std.proofs.lemmas.Bool.Decides.{nat_tests, Decides-and, Decides-eqb, Decides-ltb, leb_tells}
use Rattle.desk_log.specs.declared.missing.Missing.{Missing}
use Rattle.desk_log.specs.declared.numbered.Numbered.{Numbered}
use Rattle.desk_log.specs.declared.numbered.Place.{Place}
use Rattle.desk_log.specs.Missing.{AreGaps, AreGapsBetween, AreMissing, GapsAreMissing, MissingAreMissing, due_behind, first_missing, first_of, gaps_from, gaps_in, has, if_before, is_above, is_before, is_era, is_there, led_on, lesser, missing_from, missing_on, missing_to, nearer, nearest, place_from, with_rest}
use Rattle.desk_log.specs.Numbered.{Logged}

decides_le : (a b : ℕ) → Decides (nat_le a b) (a ≤ b)
decides_le a b = by (leb_tells a b)
  where
    by : ((nat_le a b ≡ true) × (a ≤ b)) ⊎ ((nat_le a b ≡ false) × (b < a)) → Decides (nat_le a b) (a ≤ b)
    by (inl h) = (λ _. h.1, λ _. h.0)
    by (inr h) = (λ e. absurd (false≢true (sym h.0 ∙ e)), λ l. let m = h.1 in absurd (omega (arith, l, m)))

record IsHad (era n : ℕ) (f : Numbered) : Type 0 where
  same : f.place.era ≡ era
  from : f.place.number ≤ n
  to : n < f.next

had : (era n : ℕ) (f : Numbered) → has era n f ≡ true → IsHad era n f
had era n f h =
    let d = (Decides-and (f.place.era == era) (nat_le f.place.number n && nat_lt n f.next) (Decides-eqb f.place.era era) (Decides-and (nat_le f.place.number n) (nat_lt n f.next) (decides_le f.place.number n) (Decides-ltb n f.next))).0 h in
    record { same = d.0; from = d.1.0; to = d.1.1 }

has_it : (era n : ℕ) (f : Numbered) → IsHad era n f → has era n f ≡ true
has_it era n f h =
    (Decides-and (f.place.era == era) (nat_le f.place.number n && nat_lt n f.next) (Decides-eqb f.place.era era) (Decides-and (nat_le f.place.number n) (nat_lt n f.next) (decides_le f.place.number n) (Decides-ltb n f.next))).1 (h.same, (h.from, h.to))

-- one more frame
either_true : (a b : Bool) → b ≡ true → (a || b) ≡ true
either_true true b h = refl
either_true false b h = h

first_true : (a b : Bool) → a ≡ true → (a || b) ≡ true
first_true true b h = refl
first_true false b h = absurd (false≢true h)

both_false : (a b : Bool) → a ≡ false → b ≡ false → (a || b) ≡ false
both_false true b h k = absurd (false≢true (sym h))
both_false false b h k = k

-- Where frames lead on from a number to another, they have each number between.

record Leads (era n : ℕ) (fs : List Numbered) : Type 0 where
  upward : n ≤ due_behind era n fs
  over : (k : ℕ) → n ≤ k → k < due_behind era n fs → is_there era k fs ≡ true

abbrev led : Bool → ℕ → ℕ → ℕ
led b next n = if b then next else n

leads : (era n : ℕ) (fs : List Numbered) → Leads era n fs
leads era n [] = record { upward = omega arith; over = λ k low high. absurd (omega (arith, low, high)) }
leads era n (f ∷ fs) = by (has era n f) refl (λ m. leads era m fs)
  where
    by : (b : Bool) → has era n f ≡ b → ((m : ℕ) → Leads era m fs) → Leads era n (f ∷ fs)
    by true h rec =
        let it = had era n f h in
        let on : led_on era n f ≡ f.next = ap (λ (b : Bool). led b f.next n) h in
        let rest = subst (λ (m : ℕ). Leads era m fs) on (rec (led_on era n f)) in
        let same : due_behind era n (f ∷ fs) ≡ due_behind era f.next fs = ap (λ (m : ℕ). due_behind era m fs) on in
        record {
          upward = omega (arith, it.to, rest.upward, same);
          over = λ k low high. here k (nat_lt k f.next) refl low (omega (arith, high, same)) it rest;
        }
      where
        here : (k : ℕ) (b : Bool) → nat_lt k f.next ≡ b → n ≤ k → k < due_behind era f.next fs → IsHad era n f → Leads era f.next fs → is_there era k (f ∷ fs) ≡ true
        here k true e low high it rest =
            first_true (has era k f) (is_there era k fs) (has_it era k f (record { same = it.same; from = omega (arith, it.from, low); to = (Decides-ltb k f.next).0 e }))
        here k false e low high it rest =
            let above : f.next ≤ k = grind (arith, nat_tests) in
            either_true (has era k f) (is_there era k fs) (rest.over k above high)
    by false h rec =
        let on : led_on era n f ≡ n = ap (λ (b : Bool). led b f.next n) h in
        let rest = rec n in
        let same : due_behind era n (f ∷ fs) ≡ due_behind era n fs = ap (λ (m : ℕ). due_behind era m fs) on in
        record {
          upward = omega (arith, rest.upward, same);
          over = λ k low high. either_true (has era k f) (is_there era k fs) (rest.over k low (omega (arith, high, same)));
        }

-- Where they lead nowhere, none has the number.
nowhere : (era n : ℕ) (fs : List Numbered) → due_behind era n fs ≡ n → is_there era n fs ≡ false
nowhere era n [] e = refl
nowhere era n (f ∷ fs) e = by (has era n f) refl (λ k. nowhere era n fs k)
  where
    by : (b : Bool) → has era n f ≡ b → (due_behind era n fs ≡ n → is_there era n fs ≡ false) → is_there era n (f ∷ fs) ≡ false
    by true h rec =
        let it = had era n f h in
        let on : led_on era n f ≡ f.next = ap (λ (b : Bool). led b f.next n) h in
        let rest = leads era (led_on era n f) fs in
        absurd (omega (arith, it.to, on, rest.upward, e))
    by false h rec =
        let on : led_on era n f ≡ n = ap (λ (b : Bool). led b f.next n) h in
        both_false (has era n f) (is_there era n fs) h (rec (sym (ap (λ (m : ℕ). due_behind era m fs) on) ∙ e))

record IsFirst (era n : ℕ) (fs : List Numbered) (first : ℕ) : Type 0 where
  upward : n ≤ first
  over : (k : ℕ) → n ≤ k → k < first → is_there era k fs ≡ true
  none : is_there era first fs ≡ false

is_first : (era : ℕ) (fs : List Numbered) (times n first : ℕ) → first_missing era fs times n ≡ Some first → IsFirst era n fs first
is_first era fs zero n first e = absurd (cc)
is_first era fs (suc times) n first e = by (due_behind era n fs == n) refl e (λ k. is_first era fs times (due_behind era n fs) first k)
  where
    by : (b : Bool) → (due_behind era n fs == n) ≡ b → (if b then Some n else first_missing era fs times (due_behind era n fs)) ≡ Some first → (first_missing era fs times (due_behind era n fs) ≡ Some first → IsFirst era (due_behind era n fs) fs first) → IsFirst era n fs first
    by true h e rec =
        let stays : due_behind era n fs ≡ n = (Decides-eqb (due_behind era n fs) n).0 h in
        let same : n ≡ first = cc in
        subst (IsFirst era n fs) same (record { upward = omega arith; over = λ k low high. absurd (omega (arith, low, high)); none = nowhere era n fs stays })
    by false h e rec =
        let rest = rec e in
        let here = leads era n fs in
        record { upward = omega (arith, here.upward, rest.upward); over = λ k low high. before k (nat_lt k (due_behind era n fs)) refl low high rest here; none = rest.none }
      where
        before : (k : ℕ) (b : Bool) → nat_lt k (due_behind era n fs) ≡ b → n ≤ k → k < first → IsFirst era (due_behind era n fs) fs first → Leads era n fs → is_there era k fs ≡ true
        before k true t low high rest here = here.over k low ((Decides-ltb k (due_behind era n fs)).0 t)
        before k false t low high rest here =
            let above : due_behind era n fs ≤ k = grind (arith, nat_tests) in
            rest.over k above high

-- The next number that a frame has as its own.

abbrev AllAbove : (era n next : ℕ) → List Numbered → Type 0
AllAbove era n next [] = Unit {0}
AllAbove era n next (f ∷ fs) = (is_above era n f ≡ true → next ≤ f.place.number) × AllAbove era n next fs

abbrev own : (era next : ℕ) → Numbered → Bool
own era next f = f.place.era == era && f.place.number == next

record IsNext (era n : ℕ) (found : Option ℕ) (fs : List Numbered) (next : ℕ) : Type 0 where
  least : (m : ℕ) → found ≡ Some m → next ≤ m
  all : AllAbove era n next fs
  there : (found ≡ Some next) ⊎ (list_any (own era next) fs ≡ true)

-- of two
record IsLesser (found : Option ℕ) (n next : ℕ) : Type 0 where
  least : (m : ℕ) → found ≡ Some m → next ≤ m
  new : next ≤ n

lesser_of : (found : Option ℕ) (n next : ℕ) → ((m : ℕ) → lesser found n ≡ Some m → next ≤ m) → IsLesser found n next
lesser_of None n next h = record { least = λ m e. absurd (cc); new = h n refl }
lesser_of (Some m) n next h = by (nat_lt n m) refl h
  where
    by : (b : Bool) → nat_lt n m ≡ b → ((k : ℕ) → (if b then Some n else Some m) ≡ Some k → next ≤ k) → IsLesser (Some m) n next
    by true t h =
        let low : n < m = (Decides-ltb n m).0 t in
        let new : next ≤ n = h n refl in
        record { least = λ k e. (let same : m ≡ k = cc in omega (arith, new, low, same)); new = new }
    by false t h =
        let high : m ≤ n = grind (arith, nat_tests) in
        let old : next ≤ m = h m refl in
        record { least = λ k e. (let same : m ≡ k = cc in omega (arith, old, same)); new = omega (arith, old, high) }

which : (found : Option ℕ) (n next : ℕ) → lesser found n ≡ Some next → (found ≡ Some next) ⊎ (n ≡ next)
which None n next e = inr (cc)
which (Some m) n next e = by (nat_lt n m) e
  where
    by : (b : Bool) → (if b then Some n else Some m) ≡ Some next → (Some m ≡ Some next) ⊎ (n ≡ next)
    by true e = inr (cc)
    by false e = inl e

is_own : (era n next : ℕ) (f : Numbered) → is_above era n f ≡ true → f.place.number ≡ next → own era next f ≡ true
is_own era n next f above same =
    let parts = (Decides-and (f.place.era == era) (nat_lt n f.place.number) (Decides-eqb f.place.era era) (Decides-ltb n f.place.number)).0 above in
    (Decides-and (f.place.era == era) (f.place.number == next) (Decides-eqb f.place.era era) (Decides-eqb f.place.number next)).1 (parts.0, same)

abbrev taken : Bool → Option ℕ → ℕ → Option ℕ
taken b found n = if b then lesser found n else found

is_next : (era n : ℕ) (found : Option ℕ) (fs : List Numbered) (next : ℕ) → nearest era n found fs ≡ Some next → IsNext era n found fs next
is_next era n found [] next e = record { least = λ m s. (let same : next ≡ m = cc in omega (arith, same)); all = tt; there = inl e }
is_next era n found (f ∷ fs) next e = by (is_above era n f) refl (is_next era n (nearer era n found f) fs next e)
  where
    by : (b : Bool) → is_above era n f ≡ b → IsNext era n (nearer era n found f) fs next → IsNext era n found (f ∷ fs) next
    by true above rest =
        let on : nearer era n found f ≡ lesser found f.place.number = ap (λ (b : Bool). taken b found f.place.number) above in
        let less = lesser_of found f.place.number next (λ m s. rest.least m (on ∙ s)) in
        record { least = less.least; all = (λ _. less.new, rest.all); there = either (rest.there) on above }
      where
        either : (nearer era n found f ≡ Some next) ⊎ (list_any (own era next) fs ≡ true) → nearer era n found f ≡ lesser found f.place.number → is_above era n f ≡ true → (found ≡ Some next) ⊎ (list_any (own era next) (f ∷ fs) ≡ true)
        either (inr h) on above = inr (either_true (own era next f) (list_any (own era next) fs) h)
        either (inl h) on above = one (which found f.place.number next (sym on ∙ h)) above
          where
            one : (found ≡ Some next) ⊎ (f.place.number ≡ next) → is_above era n f ≡ true → (found ≡ Some next) ⊎ (list_any (own era next) (f ∷ fs) ≡ true)
            one (inl s) above = inl s
            one (inr s) above = inr (first_true (own era next f) (list_any (own era next) fs) (is_own era n next f above s))
    by false below rest =
        let on : nearer era n found f ≡ found = ap (λ (b : Bool). taken b found f.place.number) below in
        record { least = λ m s. rest.least m (on ∙ s); all = (λ above. absurd (false≢true (sym below ∙ above)), rest.all); there = either rest.there on }
      where
        either : (nearer era n found f ≡ Some next) ⊎ (list_any (own era next) fs ≡ true) → nearer era n found f ≡ found → (found ≡ Some next) ⊎ (list_any (own era next) (f ∷ fs) ≡ true)
        either (inr h) on = inr (either_true (own era next f) (list_any (own era next) fs) h)
        either (inl h) on = inl (sym on ∙ h)

-- none has a number between
between : (era first next k : ℕ) (fs : List Numbered) → first ≤ k → k < next → is_there era first fs ≡ false → AllAbove era first next fs → is_there era k fs ≡ false
between era first next k [] low high none all = refl
between era first next k (f ∷ fs) low high none all =
    both_false (has era k f) (is_there era k fs) (by (has era k f) refl) (between era first next k fs low high (rest_false (has era first f) (is_there era first fs) none) all.1)
  where
    rest_false : (a b : Bool) → (a || b) ≡ false → b ≡ false
    rest_false true b h = absurd (false≢true (sym h))
    rest_false false b h = h

    one_false : (a b : Bool) → (a || b) ≡ false → a ≡ false
    one_false true b h = h
    one_false false b h = refl

    by : (b : Bool) → has era k f ≡ b → has era k f ≡ false
    by false h = h
    by true h =
        let it = had era k f h in
        side it (nat_lt first f.place.number) refl
      where
        side : IsHad era k f → (b : Bool) → nat_lt first f.place.number ≡ b → has era k f ≡ false
        side it true t =
            let above : is_above era first f ≡ true = (Decides-and (f.place.era == era) (nat_lt first f.place.number) (Decides-eqb f.place.era era) (Decides-ltb first f.place.number)).1 (it.same, (Decides-ltb first f.place.number).0 t) in
            let bound : next ≤ f.place.number = all.0 above in
            absurd (omega (arith, bound, it.from, high))
        side it false t =
            let under : f.place.number ≤ first = grind (arith, nat_tests) in
            let there : has era first f ≡ true = has_it era first f (record { same = it.same; from = under; to = omega (arith, low, it.to) }) in
            absurd (false≢true (sym (one_false (has era first f) (is_there era first fs) none) ∙ there))

from_next : (fs : List Numbered) (p : Place) (first : ℕ) (m : Missing) (next : Option ℕ) → IsFirst p.era p.number fs first → nearest p.era first None fs ≡ next → missing_to p.era first next ≡ Some m → AreMissing fs p m
from_next fs p first m None found e made = absurd (cc)
from_next fs p first m (Some next) found e made =
    let is : record { era = p.era; first = first; next = next } ≡ m = cc in
    let n = is_next p.era first None fs next e in
    subst (AreMissing fs p) is (record {
      within = refl;
      before = found.over;
      none = λ k low high. between p.era first next k fs low high found.none n.all;
      goes_on = own_there n.there;
    })
  where
    own_there : (None ≡ Some next) ⊎ (list_any (own p.era next) fs ≡ true) → list_any (own p.era next) fs ≡ true
    own_there (inl h) = absurd (cc)
    own_there (inr h) = h

from_first : (fs : List Numbered) (p : Place) (m : Missing) (first : Option ℕ) → first_missing p.era fs (length fs + 1) p.number ≡ first → missing_on p.era fs first ≡ Some m → AreMissing fs p m
from_first fs p m None e made = absurd (cc)
from_first fs p m (Some first) e made = from_next fs p first m (nearest p.era first None fs) (is_first p.era fs (length fs + 1) p.number first e) refl made

pub missing_are_missing : MissingAreMissing
missing_are_missing fs p m made = from_first fs p m (first_missing p.era fs (length fs + 1) p.number) refl made

-- and so are those of each gap

kept : (later : Option Logged) (o : Option Missing) (m : Missing) → if_before o later ≡ Some m → o ≡ Some m
kept later None m e = absurd (cc)
kept later (Some x) m e = by (is_before x later) e
  where
    by : (b : Bool) → (if b then Some x else None) ≡ Some m → Some x ≡ Some m
    by true e = e
    by false e = absurd (cc)

each_in : (fs : List Numbered) (later : Option Logged) (times : ℕ) (p : Place) → AreGaps fs p (gaps_in fs later times p)
each_in fs later zero p = tt
each_in fs later (suc k) p = by (if_before (missing_from fs p) later) refl (each_in fs later k)
  where
    by : (o : Option Missing) → if_before (missing_from fs p) later ≡ o → ((q : Place) → AreGaps fs q (gaps_in fs later k q)) → AreGaps fs p (with_rest o (gaps_in fs later k))
    by None e rec = tt
    by (Some m) e rec = (missing_are_missing fs p m (kept later (missing_from fs p) m e), rec (record { era = m.era; number = m.next }))

pub gaps_are_missing : GapsAreMissing
gaps_are_missing fs earlier later = by (is_era (place_from earlier).era later) refl
  where
    first : AreGaps fs (place_from earlier) (gaps_from fs later (place_from earlier))
    first = each_in fs later (length fs + 1) (place_from earlier)

    by : (b : Bool) → is_era (place_from earlier).era later ≡ b
        → AreGapsBetween fs earlier later (if b then gaps_from fs later (place_from earlier) else (gaps_from fs later (place_from earlier) ++ gaps_from fs later (first_of later)))
    by true e = record {
      one = gaps_from fs later (place_from earlier);
      two = [];
      both = sym (append-nil (gaps_from fs later (place_from earlier)));
      first = first;
      second = tt;
      same_era = λ _. refl;
    }
    by false e = record {
      one = gaps_from fs later (place_from earlier);
      two = gaps_from fs later (first_of later);
      both = refl;
      first = first;
      second = each_in fs later (length fs + 1) (first_of later);
      same_era = λ same. absurd (false≢true (sym e ∙ same));
    }
