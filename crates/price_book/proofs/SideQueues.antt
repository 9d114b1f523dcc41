use Rattle.std.proofs.Common.{◌≡◌, refl, sym, ap, ◌∙◌, ℕ, ◌-◌, ◌≤◌, Bool, true, false, cond, ◌&&◌, ◌==◌, nat_lt, ◌⊎◌, inl, inr, ℤ, List, [], ◌∷◌, ◌++◌, filter, Option, Some, None, arith, if◌then◌else◌, append-nil}
use Rattle.std.proofs.lemmas.Int.{ints}
use Rattle.std.proofs.lemmas.Bool.Decides.{nat_tests}
use Rattle.std.proofs.lemmas.List.Elements.{filter-append}
use Rattle.fix_dictionary.specs.declared.values.Side.{Side}
use Rattle.fix_dictionary.specs.declared.values.Side.TheVariants.{Buy, Sell}
use Rattle.venue_rules.specs.declared.facts.Fact.TheVariants.{Entered, Traded, Removed}
use Rattle.venue_rules.specs.declared.facts.Entry.{Entry}
use Rattle.venue_rules.specs.Book.{Resting, is_better, is_day, is_side, rank, ranked, rests}
use Rattle.price_book.specs.Live.{is_live, live, ranked_live, whole_order, joined_by, reduced, reduced_in, without, Ledger, Absent}
use Rattle.price_book.specs.SideQueues.{rank_last, EntryRanks, TradeRanks, RemovalRanks}
use Rattle.price_book.proofs.Living.{ledger-lower, ledger-live, ledger-reduced, resting-live, rests-live, same-number, other-number}
use Rattle.price_book.proofs.Fitting.{live-step}

-- The effect of each fact on a side in price-time priority.

-- prices are totally ordered

better-trans : (side : Side) (p q r : ℤ) → is_better side p q ≡ true → is_better side q r ≡ true → is_better side p r ≡ true
better-trans Buy p q r h k = grind (arith, ints)
better-trans Sell p q r h k = grind (arith, ints)

worse-trans : (side : Side) (p q r : ℤ) → is_better side p q ≡ false → is_better side q r ≡ false → is_better side p r ≡ false
worse-trans Buy p q r h k = grind (arith, ints)
worse-trans Sell p q r h k = grind (arith, ints)

worse-back : (side : Side) (p q : ℤ) → is_better side p q ≡ true → is_better side q p ≡ false
worse-back Buy p q h = grind (arith, ints)
worse-back Sell p q h = grind (arith, ints)

cases : (b : Bool) → (b ≡ true) ⊎ (b ≡ false)
cases true = inl refl
cases false = inr refl

-- the latest entry and the earliest one commute
rank-rank_last : (side : Side) (s r : Resting) (xs : List Resting) → rank side s (rank_last side r xs) ≡ rank_last side r (rank side s xs)
rank-rank_last side s r [] = elim (cases (is_better side r.entry.order.price s.entry.order.price)) [ inl h ↦ simp h | inr h ↦ simp h ]
rank-rank_last side s r (x ∷ xs) =
    let ih = rank-rank_last side s r xs in
    elim (cases (is_better side r.entry.order.price x.entry.order.price)) [
      | inl h1 ↦ elim (cases (is_better side x.entry.order.price s.entry.order.price)) [
        | inl h2 ↦ let h3 = better-trans side r.entry.order.price x.entry.order.price s.entry.order.price h1 h2 in simp (h1, h2, h3)
        | inr h2 ↦ elim (cases (is_better side r.entry.order.price s.entry.order.price)) [ inl h3 ↦ simp (h1, h2, h3) | inr h3 ↦ simp (h1, h2, h3) ]
      ]
      | inr h1 ↦ elim (cases (is_better side x.entry.order.price s.entry.order.price)) [
        | inl h2 ↦ simp (h1, h2) (ap (λ t. x ∷ t) ih)
        | inr h2 ↦ let h3 = worse-trans side r.entry.order.price x.entry.order.price s.entry.order.price h1 h2 in simp (h1, h2, h3)
      ]
    ]

ranked-push : (side : Side) (rs : List Resting) (r : Resting) → ranked side (rs ++ r ∷ []) ≡ rank_last side r (ranked side rs)
ranked-push side [] r = refl
ranked-push side (s ∷ rs) r = ap (rank side s) (ranked-push side rs r) ∙ rank-rank_last side s r (ranked side rs)

pub side_queue-joined : (x : ℕ) (side : Side) (r : Resting) (rs : List Resting) → ranked_live x side (joined_by r rs) ≡ cond (rests x side r) (rank_last side r (ranked_live x side rs)) (ranked_live x side rs)
side_queue-joined x side r rs = by (is_live r) (rests x side r) refl refl
  where
    by : (b c : Bool) → is_live r ≡ b → rests x side r ≡ c → ranked_live x side (cond b (rs ++ r ∷ []) rs) ≡ cond c (rank_last side r (ranked_live x side rs)) (ranked_live x side rs)
    by true true l h = ap (ranked side) (filter-append (rests x side) rs (r ∷ []) ∙ ap (λ d. filter (rests x side) rs ++ cond d (r ∷ []) []) h) ∙ ranked-push side (filter (rests x side) rs) r
    by true false l h = ap (ranked side) (filter-append (rests x side) rs (r ∷ []) ∙ ap (λ d. filter (rests x side) rs ++ cond d (r ∷ []) []) h ∙ append-nil (filter (rests x side) rs))
    by false true l h = let live = rests-live x side r h in cc
    by false false l h = refl

-- ranked orders

abbrev pub NoneBetter : Side → Resting → List Resting → Type 0
NoneBetter side s [] = Unit {0}
NoneBetter side s (t ∷ ts) = (is_better side t.entry.order.price s.entry.order.price ≡ false) × NoneBetter side s ts

abbrev pub Sorted : Side → List Resting → Type 0
Sorted side [] = Unit {0}
Sorted side (s ∷ ss) = NoneBetter side s ss × Sorted side ss

none-worse : (side : Side) (r s : Resting) (ts : List Resting) → is_better side s.entry.order.price r.entry.order.price ≡ false → NoneBetter side s ts → NoneBetter side r ts
none-worse side r s [] h n = tt
none-worse side r s (t ∷ ts) h n = (worse-trans side t.entry.order.price s.entry.order.price r.entry.order.price n.0 h, none-worse side r s ts h n.1)

none-rank : (side : Side) (s r : Resting) (ts : List Resting) → is_better side r.entry.order.price s.entry.order.price ≡ false → NoneBetter side s ts → NoneBetter side s (rank side r ts)
none-rank side s r [] h n = (h, tt)
none-rank side s r (t ∷ ts) h n = by (is_better side t.entry.order.price r.entry.order.price) (none-rank side s r ts h n.1)
  where
    by : (b : Bool) → NoneBetter side s (rank side r ts) → NoneBetter side s (if b then t ∷ rank side r ts else r ∷ t ∷ ts)
    by true k = (n.0, k)
    by false k = (h, n)

sorted-rank : (side : Side) (r : Resting) (ss : List Resting) → Sorted side ss → Sorted side (rank side r ss)
sorted-rank side r [] h = (tt, tt)
sorted-rank side r (s ∷ ss) h = by (is_better side s.entry.order.price r.entry.order.price) refl (sorted-rank side r ss h.1)
  where
    by : (b : Bool) → is_better side s.entry.order.price r.entry.order.price ≡ b → Sorted side (rank side r ss) → Sorted side (if b then s ∷ rank side r ss else r ∷ s ∷ ss)
    by true e k = (none-rank side s r ss (worse-back side s.entry.order.price r.entry.order.price e) h.0, k)
    by false e k = ((e, none-worse side r s ss e h.0), h)

pub sorted-ranked : (side : Side) (rs : List Resting) → Sorted side (ranked side rs)
sorted-ranked side [] = tt
sorted-ranked side (r ∷ rs) = sorted-rank side r (ranked side rs) (sorted-ranked side rs)

rank-front : (side : Side) (r : Resting) (ss : List Resting) → NoneBetter side r ss → rank side r ss ≡ r ∷ ss
rank-front side r [] h = refl
rank-front side r (s ∷ ss) h = ap (λ b. if b then s ∷ rank side r ss else r ∷ s ∷ ss) h.0

-- an order with a number changes in place, or goes

abbrev put : Option Resting → List Resting → List Resting
put None rs = rs
put (Some s) rs = s ∷ rs

abbrev edited : ℕ → (Resting → Option Resting) → List Resting → List Resting
edited n g [] = []
edited n g (r ∷ rs) = if n == r.entry.number then put (g r) rs else r ∷ edited n g rs

-- where it stays, it is the same order at an equal price
abbrev Keeps : (Resting → Option Resting) → Type 0
Keeps g = (r s : Resting) → g r ≡ Some s → s.entry ≡ r.entry

pub ledger-absent : (n low : ℕ) (rs : List Resting) → n ≤ low → Ledger low rs → Absent n rs
ledger-absent n low [] h l = tt
ledger-absent n low (r ∷ rs) h l = (other-number n r.entry.number (omega (arith, h, l.0)), ledger-absent n r.entry.number rs (omega (arith, h, l.0)) l.2)

pub absent-filter : (n : ℕ) (p : Resting → Bool) (rs : List Resting) → Absent n rs → Absent n (filter p rs)
absent-filter n p [] a = tt
absent-filter n p (r ∷ rs) a = by (p r) (absent-filter n p rs a.1)
  where
    by : (b : Bool) → Absent n (filter p rs) → Absent n (cond b (r ∷ filter p rs) (filter p rs))
    by true h = (a.0, h)
    by false h = h

absent-rank : (n : ℕ) (side : Side) (r : Resting) (ss : List Resting) → (n == r.entry.number) ≡ false → Absent n ss → Absent n (rank side r ss)
absent-rank n side r [] h a = (h, tt)
absent-rank n side r (s ∷ ss) h a = by (is_better side s.entry.order.price r.entry.order.price) (absent-rank n side r ss h a.1)
  where
    by : (b : Bool) → Absent n (rank side r ss) → Absent n (if b then s ∷ rank side r ss else r ∷ s ∷ ss)
    by true k = (a.0, k)
    by false k = (h, a)

pub absent-ranked : (n : ℕ) (side : Side) (rs : List Resting) → Absent n rs → Absent n (ranked side rs)
absent-ranked n side [] a = tt
absent-ranked n side (r ∷ rs) a = absent-rank n side r (ranked side rs) a.0 (absent-ranked n side rs a.1)

edited-absent : (n : ℕ) (g : Resting → Option Resting) (rs : List Resting) → Absent n rs → edited n g rs ≡ rs
edited-absent n g [] a = refl
edited-absent n g (r ∷ rs) a = ap (λ b. if b then put (g r) rs else r ∷ edited n g rs) a.0 ∙ ap (λ t. r ∷ t) (edited-absent n g rs a.1)

pub ledger-filter : (low : ℕ) (p : Resting → Bool) (rs : List Resting) → Ledger low rs → Ledger low (filter p rs)
ledger-filter low p [] l = tt
ledger-filter low p (r ∷ rs) l = by (p r) (ledger-filter r.entry.number p rs l.2)
  where
    by : (b : Bool) → Ledger r.entry.number (filter p rs) → Ledger low (cond b (r ∷ filter p rs) (filter p rs))
    by true h = (l.0, l.1, h)
    by false h = ledger-lower low r.entry.number (filter p rs) (omega (arith, l.0)) h

-- those of a side alone
edited-filter : (n low : ℕ) (g : Resting → Option Resting) (p : Resting → Bool) (rs : List Resting) → ((r s : Resting) → is_live r ≡ true → g r ≡ Some s → p s ≡ p r) → Ledger low rs → filter p (edited n g rs) ≡ edited n g (filter p rs)
edited-filter n low g p [] same l = refl
edited-filter n low g p (r ∷ rs) same l = by (n == r.entry.number) refl (p r) refl (g r) refl (edited-filter n r.entry.number g p rs same l.2)
  where
    by : (b : Bool) → (n == r.entry.number) ≡ b → (c : Bool) → p r ≡ c → (o : Option Resting) → g r ≡ o → filter p (edited n g rs) ≡ edited n g (filter p rs) → filter p (if b then put o rs else r ∷ edited n g rs) ≡ edited n g (cond c (r ∷ filter p rs) (filter p rs))
    by true e true f None o ih = sym (ap (λ b. if b then put (g r) (filter p rs) else r ∷ edited n g (filter p rs)) e ∙ ap (λ q. put q (filter p rs)) o)
    by true e true f (Some s) o ih = ap (λ c. cond c (s ∷ filter p rs) (filter p rs)) (same r s l.1 o ∙ f) ∙ sym (ap (λ b. if b then put (g r) (filter p rs) else r ∷ edited n g (filter p rs)) e ∙ ap (λ q. put q (filter p rs)) o)
    by true e false f None o ih = sym (edited-absent n g (filter p rs) (absent-filter n p rs (ledger-absent n r.entry.number rs (omega (arith, same-number n r.entry.number e)) l.2)))
    by true e false f (Some s) o ih = ap (λ c. cond c (s ∷ filter p rs) (filter p rs)) (same r s l.1 o ∙ f) ∙ sym (edited-absent n g (filter p rs) (absent-filter n p rs (ledger-absent n r.entry.number rs (omega (arith, same-number n r.entry.number e)) l.2)))
    by false e true f o h ih = ap (λ c. cond c (r ∷ filter p (edited n g rs)) (filter p (edited n g rs))) f ∙ ap (λ t. r ∷ t) ih ∙ sym (ap (λ b. if b then put (g r) (filter p rs) else r ∷ edited n g (filter p rs)) e)
    by false e false f o h ih = ap (λ c. cond c (r ∷ filter p (edited n g rs)) (filter p (edited n g rs))) f ∙ ih

-- the order itself, ranked among others
abbrev putrank : Side → Option Resting → List Resting → List Resting
putrank side None rs = rs
putrank side (Some s) rs = rank side s rs

edited-here : (n : ℕ) (g : Resting → Option Resting) (side : Side) (r : Resting) (ss : List Resting) → Keeps g → (n == r.entry.number) ≡ true → Absent n ss → edited n g (rank side r ss) ≡ putrank side (g r) ss
edited-here n g side r [] keeps e a = ap (λ b. if b then put (g r) [] else r ∷ []) e ∙ by (g r)
  where
    by : (o : Option Resting) → put o [] ≡ putrank side o []
    by None = refl
    by (Some s) = refl
edited-here n g side r (t ∷ ts) keeps e a = by (is_better side t.entry.order.price r.entry.order.price) refl (g r) refl (edited-here n g side r ts keeps e a.1)
  where
    by : (b : Bool) → is_better side t.entry.order.price r.entry.order.price ≡ b → (o : Option Resting) → g r ≡ o → edited n g (rank side r ts) ≡ putrank side (g r) ts → edited n g (if b then t ∷ rank side r ts else r ∷ t ∷ ts) ≡ putrank side o (t ∷ ts)
    by true f None o ih = ap (λ b. if b then put (g t) (rank side r ts) else t ∷ edited n g (rank side r ts)) a.0 ∙ ap (λ k. t ∷ k) (ih ∙ ap (λ q. putrank side q ts) o)
    by true f (Some s) o ih = ap (λ b. if b then put (g t) (rank side r ts) else t ∷ edited n g (rank side r ts)) a.0 ∙ ap (λ k. t ∷ k) (ih ∙ ap (λ q. putrank side q ts) o) ∙ sym (ap (λ b. if b then t ∷ rank side s ts else s ∷ t ∷ ts) (ap (λ (d : Entry). is_better side t.entry.order.price d.order.price) (keeps r s o) ∙ f))
    by false f None o ih = ap (λ b. if b then put (g r) (t ∷ ts) else r ∷ edited n g (t ∷ ts)) e ∙ ap (λ q. put q (t ∷ ts)) o
    by false f (Some s) o ih = ap (λ b. if b then put (g r) (t ∷ ts) else r ∷ edited n g (t ∷ ts)) e ∙ ap (λ q. put q (t ∷ ts)) o ∙ sym (ap (λ b. if b then t ∷ rank side s ts else s ∷ t ∷ ts) (ap (λ (d : Entry). is_better side t.entry.order.price d.order.price) (keeps r s o) ∙ f))

-- another order, ranked among those of which one changes
edited-other : (n : ℕ) (g : Resting → Option Resting) (side : Side) (r : Resting) (ss : List Resting) → Keeps g → (n == r.entry.number) ≡ false → Sorted side ss → edited n g (rank side r ss) ≡ rank side r (edited n g ss)
edited-other n g side r [] keeps e h = ap (λ b. if b then put (g r) [] else r ∷ []) e
edited-other n g side r (t ∷ ts) keeps e h = by (is_better side t.entry.order.price r.entry.order.price) refl (n == t.entry.number) refl (g t) refl (edited-other n g side r ts keeps e h.1)
  where
    by : (b : Bool) → is_better side t.entry.order.price r.entry.order.price ≡ b → (c : Bool) → (n == t.entry.number) ≡ c → (o : Option Resting) → g t ≡ o → edited n g (rank side r ts) ≡ rank side r (edited n g ts) → edited n g (if b then t ∷ rank side r ts else r ∷ t ∷ ts) ≡ rank side r (if c then put o ts else t ∷ edited n g ts)
    by true f true d None o ih = ap (λ b. if b then put (g t) (rank side r ts) else t ∷ edited n g (rank side r ts)) d ∙ ap (λ q. put q (rank side r ts)) o
    by true f true d (Some s) o ih = ap (λ b. if b then put (g t) (rank side r ts) else t ∷ edited n g (rank side r ts)) d ∙ ap (λ q. put q (rank side r ts)) o ∙ sym (ap (λ b. if b then s ∷ rank side r ts else r ∷ s ∷ ts) (ap (λ (k : Entry). is_better side k.order.price r.entry.order.price) (keeps t s o) ∙ f))
    by true f false d o k ih = ap (λ b. if b then put (g t) (rank side r ts) else t ∷ edited n g (rank side r ts)) d ∙ ap (λ q. t ∷ q) ih ∙ sym (ap (λ b. if b then t ∷ rank side r (edited n g ts) else r ∷ t ∷ edited n g ts) f)
    by false f true d None o ih = ap (λ b. if b then put (g r) (t ∷ ts) else r ∷ edited n g (t ∷ ts)) e ∙ ap (λ b. r ∷ (if b then put (g t) ts else t ∷ edited n g ts)) d ∙ ap (λ q. r ∷ put q ts) o ∙ sym (rank-front side r ts (none-worse side r t ts f h.0))
    by false f true d (Some s) o ih = ap (λ b. if b then put (g r) (t ∷ ts) else r ∷ edited n g (t ∷ ts)) e ∙ ap (λ b. r ∷ (if b then put (g t) ts else t ∷ edited n g ts)) d ∙ ap (λ q. r ∷ put q ts) o ∙ sym (ap (λ b. if b then s ∷ rank side r ts else r ∷ s ∷ ts) (ap (λ (k : Entry). is_better side k.order.price r.entry.order.price) (keeps t s o) ∙ f))
    by false f false d o k ih = ap (λ b. if b then put (g r) (t ∷ ts) else r ∷ edited n g (t ∷ ts)) e ∙ ap (λ b. r ∷ (if b then put (g t) ts else t ∷ edited n g ts)) d ∙ sym (ap (λ b. if b then t ∷ rank side r (edited n g ts) else r ∷ t ∷ edited n g ts) f)

edited-ranked : (n low : ℕ) (g : Resting → Option Resting) (side : Side) (rs : List Resting) → Keeps g → Ledger low rs → ranked side (edited n g rs) ≡ edited n g (ranked side rs)
edited-ranked n low g side [] keeps l = refl
edited-ranked n low g side (r ∷ rs) keeps l = by (n == r.entry.number) refl (edited-ranked n r.entry.number g side rs keeps l.2)
  where
    moved : (o : Option Resting) → ranked side (put o rs) ≡ putrank side o (ranked side rs)
    moved None = refl
    moved (Some s) = refl

    by : (b : Bool) → (n == r.entry.number) ≡ b → ranked side (edited n g rs) ≡ edited n g (ranked side rs) → ranked side (if b then put (g r) rs else r ∷ edited n g rs) ≡ edited n g (rank side r (ranked side rs))
    by true e ih = moved (g r) ∙ sym (edited-here n g side r (ranked side rs) keeps e (absent-ranked n side rs (ledger-absent n r.entry.number rs (omega (arith, same-number n r.entry.number e)) l.2)))
    by false e ih = ap (rank side r) ih ∙ sym (edited-other n g side r (ranked side rs) keeps e (sorted-ranked side rs))

-- a removal, and a trade

abbrev taken : Resting → Option Resting
taken r = None

abbrev cut-down : ℕ → Resting → Option Resting
cut-down q r = if nat_lt q r.left then Some (record { entry = r.entry; left = r.left - q }) else None

without-edited : (n : ℕ) (rs : List Resting) → without n rs ≡ edited n taken rs
without-edited n [] = refl
without-edited n (r ∷ rs) = ap (λ t. if n == r.entry.number then rs else r ∷ t) (without-edited n rs)

reduced-edited : (n q : ℕ) (rs : List Resting) → reduced n q rs ≡ edited n (cut-down q) rs
reduced-edited n q [] = refl
reduced-edited n q (r ∷ rs) = by (n == r.entry.number) (nat_lt q r.left) (reduced-edited n q rs)
  where
    by : (b c : Bool) → reduced n q rs ≡ edited n (cut-down q) rs → (if b then (if c then record { entry = r.entry; left = r.left - q } ∷ rs else rs) else r ∷ reduced n q rs) ≡ (if b then put (if c then Some (record { entry = r.entry; left = r.left - q }) else None) rs else r ∷ edited n (cut-down q) rs)
    by true true ih = refl
    by true false ih = refl
    by false c ih = ap (λ t. r ∷ t) ih

-- without an order of the number nothing changes
pub without-absent : (n : ℕ) (rs : List Resting) → Absent n rs → without n rs ≡ rs
without-absent n rs a = without-edited n rs ∙ edited-absent n taken rs a

pub reduced-absent : (n q : ℕ) (rs : List Resting) → Absent n rs → reduced n q rs ≡ rs
reduced-absent n q rs a = reduced-edited n q rs ∙ edited-absent n (cut-down q) rs a

none-some : {X : Type 0} (x : X) → None ≡ Some x → ⊥
none-some x e = cc

taken-keeps : Keeps taken
taken-keeps r s e = absurd (none-some s e)

abbrev value : Resting → Option Resting → Resting
value d None = d
value d (Some t) = t

cut-parts : (q : ℕ) (r s : Resting) → cut-down q r ≡ Some s → (nat_lt q r.left ≡ true) × (s ≡ record { entry = r.entry; left = r.left - q })
cut-parts q r s h = by (nat_lt q r.left) refl h
  where
    by : (b : Bool) → nat_lt q r.left ≡ b → (if b then Some (record { entry = r.entry; left = r.left - q }) else None) ≡ Some s → (nat_lt q r.left ≡ true) × (s ≡ record { entry = r.entry; left = r.left - q })
    by true e k = (e, sym (ap (value s) k))
    by false e k = absurd (none-some s k)

cut-keeps : (q : ℕ) → Keeps (cut-down q)
cut-keeps q r s h = ap (λ (t : Resting). t.entry) (cut-parts q r s h).1

cut-rests : (x : ℕ) (side : Side) (q : ℕ) (r s : Resting) → is_live r ≡ true → cut-down q r ≡ Some s → rests x side s ≡ rests x side r
cut-rests x side q r s live h =
    let p = cut-parts q r s h in
    let some : nat_lt 0 (r.left - q) ≡ nat_lt 0 r.left = still r.left q p.0 in
    ap (rests x side) p.1 ∙ ap (λ b. is_day r.entry.order.life && (r.entry.order.instrument == x && (is_side r.entry.order.side side && b))) some
  where
    still : (left q : ℕ) → nat_lt q left ≡ true → nat_lt 0 (left - q) ≡ nat_lt 0 left
    still left q h = by (nat_lt 0 (left - q)) (nat_lt 0 left) refl refl
      where
        by : (a b : Bool) → nat_lt 0 (left - q) ≡ a → nat_lt 0 left ≡ b → a ≡ b
        by true true e f = refl
        by false false e f = refl
        by true false e f = absurd (grind (arith, nat_tests))
        by false true e f = absurd (grind (arith, nat_tests))

pub side_queue-without : (n low x : ℕ) (side : Side) (rs : List Resting) → Ledger low rs → ranked_live x side (without n rs) ≡ without n (ranked_live x side rs)
side_queue-without n low x side rs l =
    ap (ranked_live x side) (without-edited n rs)
    ∙ ap (ranked side) (edited-filter n low taken (rests x side) rs (λ r s live h. absurd (gone r s h)) l)
    ∙ edited-ranked n low taken side (filter (rests x side) rs) taken-keeps (ledger-filter low (rests x side) rs l)
    ∙ sym (without-edited n (ranked_live x side rs))
  where
    gone : (r s : Resting) → taken r ≡ Some s → ⊥
    gone r s h = none-some s h

pub side_queue-reduced : (n q low x : ℕ) (side : Side) (rs : List Resting) → Ledger low rs → ranked_live x side (reduced n q rs) ≡ reduced n q (ranked_live x side rs)
side_queue-reduced n q low x side rs l =
    ap (ranked_live x side) (reduced-edited n q rs)
    ∙ ap (ranked side) (edited-filter n low (cut-down q) (rests x side) rs (cut-rests x side q) l)
    ∙ edited-ranked n low (cut-down q) side (filter (rests x side) rs) (cut-keeps q) (ledger-filter low (rests x side) rs l)
    ∙ sym (reduced-edited n q (ranked_live x side rs))

-- in terms of the facts

pub entry-ranks : EntryRanks
entry-ranks facts e x side known fits =
    let now = resting-live facts x side in
    sym (resting-live (facts ++ Entered e ∷ []) x side) ∙ ap (ranked_live x side) (live-step facts (Entered e) known fits) ∙ side_queue-joined x side (whole_order e) (live facts) ∙ ap (λ rs. cond (rests x side (whole_order e)) (rank_last side (whole_order e) rs) rs) now

pub trade-ranks : TradeRanks
trade-ranks facts t a b x side known at fits =
    let l = ledger-live facts known.rising in
    sym (resting-live (facts ++ Traded t ∷ []) x side) ∙ ap (ranked_live x side) (live-step facts (Traded t) known fits ∙ ap (λ p. reduced_in p t.quantity (live facts)) at)
    ∙ side_queue-reduced b t.quantity 0 x side (reduced a t.quantity (live facts)) (ledger-reduced a t.quantity 0 (live facts) l)
    ∙ ap (reduced b t.quantity) (side_queue-reduced a t.quantity 0 x side (live facts) l)
    ∙ ap (λ rs. reduced b t.quantity (reduced a t.quantity rs)) (resting-live facts x side)

pub removal-ranks : RemovalRanks
removal-ranks facts r x side known fits =
    sym (resting-live (facts ++ Removed r ∷ []) x side) ∙ ap (ranked_live x side) (live-step facts (Removed r) known fits) ∙ side_queue-without r.order 0 x side (live facts) (ledger-live facts known.rising) ∙ ap (without r.order) (resting-live facts x side)
