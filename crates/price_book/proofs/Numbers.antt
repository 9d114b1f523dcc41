use Rattle.std.proofs.Common.{◌≡◌, refl, sym, ap, ◌∙◌, ℕ, zero, suc, ◌-◌, ◌≤◌, ◌<◌, Bool, true, false, cond, ◌==◌, nat_lt, List, [], ◌∷◌, ◌++◌, map, length, get_or, Option, Some, None, option_map, Result, Ok, Err, OnOk, arith, if◌then◌else◌}
use Rattle.std.specs.List.{remove}
use Rattle.std.specs.Option.{unwrap_or}
use Rattle.std.specs.Result.{is_ok}
use Rattle.std.proofs.lemmas.Bool.{eq-eqb}
use Rattle.std.proofs.lemmas.Bool.Decides.{nat_tests}
use Rattle.venue_rules.specs.declared.facts.Entry.{Entry}
use Rattle.venue_rules.specs.Book.{Resting}
use Rattle.venue_rules.specs.declared.facts.Fact.{Fact}
use Rattle.price_book.specs.declared.stored_order.StoredOrder.{StoredOrder}
use Rattle.price_book.specs.Live.{seen_slot, is_live, find_live, joined_by, reduced, without, changes, Ledger, AreLedgers, Absent, IsPlaceOf}
use Rattle.price_book.specs.declared.resting_orders.RestingOrders.{RestingOrders}
use Rattle.price_book.specs.SideIndex.{IsConsistent}
use Rattle.price_book.specs.Views.{is_current}
use Rattle.price_book.specs.Numbered.{numbered, slot_at, IsNumbered, number_at}
use Rattle.price_book.proofs.Living.{same-number, other-number, ledger-lower}
use Rattle.price_book.proofs.SideQueues.{ledger-absent}

-- the order with a number

never : (b : Bool) → b ≡ true → b ≡ false → ⊥
never true h k = cc
never false h k = cc

pub eq_sym : (a b : ℕ) → (a == b) ≡ (b == a)
eq_sym a b = by (a == b) (b == a) refl refl
  where
    by : (c d : Bool) → (a == b) ≡ c → (b == a) ≡ d → c ≡ d
    by true true e f = refl
    by false false e f = refl
    by true false e f = absurd (grind (arith, nat_tests))
    by false true e f = absurd (grind (arith, nat_tests))

pub numbered-absent : (n : ℕ) (rs : List Resting) → Absent n rs → numbered n rs ≡ None
numbered-absent n [] a = refl
numbered-absent n (r ∷ rs) a = ap (λ b. cond b (Some r) (numbered n rs)) a.0 ∙ numbered-absent n rs a.1

pub numbered-none : (n : ℕ) (rs : List Resting) → numbered n rs ≡ None → Absent n rs
numbered-none n [] h = tt
numbered-none n (r ∷ rs) h = by (n == r.entry.number) refl h (numbered-none n rs)
  where
    by : (b : Bool) → (n == r.entry.number) ≡ b → cond b (Some r) (numbered n rs) ≡ None → (numbered n rs ≡ None → Absent n rs) → ((n == r.entry.number) ≡ false) × Absent n rs
    by true e h ih = cc
    by false e h ih = (e, ih h)

-- an order with this number is at a place
pub record Found (n : ℕ) (rs : List Resting) (r : Resting) : Type 0 where
  pub at : ℕ
  pub place : IsPlaceOf n rs at
  pub here : r ≡ get_or rs at r

pub numbered-some : (n : ℕ) (rs : List Resting) (r : Resting) → numbered n rs ≡ Some r → Found n rs r
numbered-some n [] r h = cc
numbered-some n (s ∷ rs) r h = by (n == s.entry.number) refl h (numbered-some n rs r)
  where
    by : (b : Bool) → (n == s.entry.number) ≡ b → cond b (Some s) (numbered n rs) ≡ Some r → (numbered n rs ≡ Some r → Found n rs r) → Found n (s ∷ rs) r
    by true e h ih = record { at = 0; place = (omega arith, (λ d. sym (same-number n s.entry.number e)), tt); here = ap (λ o. unwrap_or o s) (sym h) }
    by false e h ih = let f = ih h in record { at = suc f.at; place = (omega (arith, f.place.0), f.place.1, (e, f.place.2)); here = f.here }

-- and after each change

pub numbered-pushed : (m : ℕ) (rs : List Resting) (r : Resting) → Absent r.entry.number rs → numbered m (rs ++ r ∷ []) ≡ cond (r.entry.number == m) (Some r) (numbered m rs)
numbered-pushed m [] r a = ap (λ b. cond b (Some r) None) (eq_sym m r.entry.number)
numbered-pushed m (s ∷ rs) r a = by (m == s.entry.number) (r.entry.number == m) refl refl (numbered-pushed m rs r a.1)
  where
    by : (b c : Bool) → (m == s.entry.number) ≡ b → (r.entry.number == m) ≡ c → numbered m (rs ++ r ∷ []) ≡ cond c (Some r) (numbered m rs) → cond b (Some s) (numbered m (rs ++ r ∷ [])) ≡ cond c (Some r) (cond b (Some s) (numbered m rs))
    by true true e f ih = absurd (never (r.entry.number == s.entry.number) (eq-eqb r.entry.number s.entry.number (same-number r.entry.number m f ∙ same-number m s.entry.number e)) a.0)
    by true false e f ih = refl
    by false c e f ih = ih

apart : (a b c : ℕ) → (a == b) ≡ true → (c == b) ≡ true → (a == c) ≡ false → ⊥
apart a b c e f g = never (a == c) (eq-eqb a c (same-number a b e ∙ sym (same-number c b f))) g

joined : (a b c : ℕ) → (a == b) ≡ false → (a == c) ≡ true → (c == b) ≡ true → ⊥
joined a b c e f g = never (a == b) (eq-eqb a b (same-number a c f ∙ same-number c b g)) e

pub numbered-without : (m n low : ℕ) (rs : List Resting) → Ledger low rs → numbered m (without n rs) ≡ cond (n == m) None (numbered m rs)
numbered-without m n low [] l = by (n == m)
  where
    by : (b : Bool) → numbered m [] ≡ cond b None (numbered m [])
    by true = refl
    by false = refl
numbered-without m n low (r ∷ rs) l = by (n == r.entry.number) (n == m) (m == r.entry.number) refl refl refl (numbered-without m n r.entry.number rs l.2)
  where
    none : (n == r.entry.number) ≡ true → (n == m) ≡ true → numbered m rs ≡ None
    none e f = numbered-absent m rs (ledger-absent m r.entry.number rs (omega (arith, same-number n r.entry.number e, same-number n m f)) l.2)

    by : (b c d : Bool) → (n == r.entry.number) ≡ b → (n == m) ≡ c → (m == r.entry.number) ≡ d → numbered m (without n rs) ≡ cond c None (numbered m rs) → numbered m (if b then rs else r ∷ without n rs) ≡ cond c None (cond d (Some r) (numbered m rs))
    by true true d e f g ih = none e f
    by true false true e f g ih = absurd (apart n r.entry.number m e g f)
    by true false false e f g ih = refl
    by false true true e f g ih = absurd (joined n r.entry.number m e f g)
    by false true false e f g ih = ap (λ b. cond b (Some r) (numbered m (without n rs))) g ∙ ih
    by false false true e f g ih = ap (λ b. cond b (Some r) (numbered m (without n rs))) g
    by false false false e f g ih = ap (λ b. cond b (Some r) (numbered m (without n rs))) g ∙ ih

less : (a b : ℕ) → a < b → nat_lt a b ≡ true
less a b h = grind (arith, nat_tests)

no-less : (a b : ℕ) → b ≤ a → nat_lt a b ≡ false
no-less a b h = grind (arith, nat_tests)

abbrev cut : ℕ → Resting → Resting
cut q r = record { entry = r.entry; left = r.left - q }

-- a part of the leaves quantity
pub numbered-reduced : (m n q : ℕ) (rs : List Resting) (r : Resting) → numbered n rs ≡ Some r → q < r.left → numbered m (reduced n q rs) ≡ cond (n == m) (Some (cut q r)) (numbered m rs)
numbered-reduced m n q [] r h l = cc
numbered-reduced m n q (s ∷ rs) r h l = by (n == s.entry.number) (n == m) (m == s.entry.number) refl refl refl h (numbered-reduced m n q rs r)
  where
    same : cond true (Some s) (numbered n rs) ≡ Some r → s ≡ r
    same h = ap (λ o. unwrap_or o s) h

    here : (c d : Bool) → (n == s.entry.number) ≡ true → (n == m) ≡ c → (m == s.entry.number) ≡ d → cond d (Some (cut q s)) (numbered m rs) ≡ cond c (Some (cut q s)) (cond d (Some s) (numbered m rs))
    here true true e f g = refl
    here true false e f g = absurd (never (m == s.entry.number) (eq-eqb m s.entry.number (sym (same-number n m f) ∙ same-number n s.entry.number e)) g)
    here false true e f g = absurd (apart n s.entry.number m e g f)
    here false false e f g = refl

    by : (b c d : Bool) → (n == s.entry.number) ≡ b → (n == m) ≡ c → (m == s.entry.number) ≡ d → cond b (Some s) (numbered n rs) ≡ Some r → (numbered n rs ≡ Some r → q < r.left → numbered m (reduced n q rs) ≡ cond (n == m) (Some (cut q r)) (numbered m rs)) → numbered m (if b then (if nat_lt q s.left then cut q s ∷ rs else rs) else s ∷ reduced n q rs) ≡ cond c (Some (cut q r)) (cond d (Some s) (numbered m rs))
    by true c d e f g h ih =
        let more : q < s.left = omega (arith, l, ap (λ (t : Resting). t.left) (same h)) in
        ap (λ b. numbered m (if b then cut q s ∷ rs else rs)) (less q s.left more) ∙ ap (λ b. cond b (Some (cut q s)) (numbered m rs)) g ∙ here c d e f g ∙ ap (λ t. cond c (Some (cut q t)) (cond d (Some s) (numbered m rs))) (same h)
    by false true true e f g h ih = absurd (joined n s.entry.number m e f g)
    by false true false e f g h ih = ap (λ b. cond b (Some s) (numbered m (reduced n q rs))) g ∙ ih h l ∙ ap (λ b. cond b (Some (cut q r)) (numbered m rs)) f
    by false false true e f g h ih = ap (λ b. cond b (Some s) (numbered m (reduced n q rs))) g
    by false false false e f g h ih = ap (λ b. cond b (Some s) (numbered m (reduced n q rs))) g ∙ ih h l ∙ ap (λ b. cond b (Some (cut q r)) (numbered m rs)) f

-- all of the leaves quantity
pub reduced-all : (n q : ℕ) (rs : List Resting) (r : Resting) → numbered n rs ≡ Some r → r.left ≤ q → without n rs ≡ reduced n q rs
reduced-all n q [] r h l = refl
reduced-all n q (s ∷ rs) r h l = by (n == s.entry.number) h (reduced-all n q rs r)
  where
    by : (b : Bool) → cond b (Some s) (numbered n rs) ≡ Some r → (numbered n rs ≡ Some r → r.left ≤ q → without n rs ≡ reduced n q rs) → (if b then rs else s ∷ without n rs) ≡ (if b then (if nat_lt q s.left then cut q s ∷ rs else rs) else s ∷ reduced n q rs)
    by true h ih =
        let same : s ≡ r = ap (λ o. unwrap_or o s) h in
        sym (ap (λ b. if b then cut q s ∷ rs else rs) (no-less q s.left (omega (arith, l, ap (λ (t : Resting). t.left) same))))
    by false h ih = ap (λ t. s ∷ t) (ih h l)

-- other readings of a partially filled order stay
pub mapped-reduced : {X : Type 0} (f : Entry → X) (n q : ℕ) (rs : List Resting) (r : Resting) → numbered n rs ≡ Some r → q < r.left → map (λ (t : Resting). f t.entry) rs ≡ map (λ (t : Resting). f t.entry) (reduced n q rs)
mapped-reduced f n q [] r h l = cc
mapped-reduced f n q (s ∷ rs) r h l = by (n == s.entry.number) h (mapped-reduced f n q rs r)
  where
    by : (b : Bool) → cond b (Some s) (numbered n rs) ≡ Some r → (numbered n rs ≡ Some r → q < r.left → map (λ (t : Resting). f t.entry) rs ≡ map (λ (t : Resting). f t.entry) (reduced n q rs)) → f s.entry ∷ map (λ (t : Resting). f t.entry) rs ≡ map (λ (t : Resting). f t.entry) (if b then (if nat_lt q s.left then cut q s ∷ rs else rs) else s ∷ reduced n q rs)
    by true h ih =
        let same : s ≡ r = ap (λ o. unwrap_or o s) h in
        sym (ap (λ b. map (λ (t : Resting). f t.entry) (if b then cut q s ∷ rs else rs)) (less q s.left (omega (arith, l, ap (λ (t : Resting). t.left) same))))
    by false h ih = ap (λ xs. f s.entry ∷ xs) (ih h l)

pub without-place : (n : ℕ) (rs : List Resting) (k : ℕ) → IsPlaceOf n rs k → without n rs ≡ remove rs k
without-place n [] k p = absurd (omega (arith, p.0))
without-place n (r ∷ rs) zero p = ap (λ b. if b then rs else r ∷ without n rs) (eq-eqb n r.entry.number (sym (p.1 r)))
without-place n (r ∷ rs) (suc k) p = ap (λ b. if b then rs else r ∷ without n rs) p.2.0 ∙ ap (λ t. r ∷ t) (without-place n rs k (omega (arith, p.0), p.1, p.2.1))

-- rising numbers

number-after : (low : ℕ) (rs : List Resting) (i : ℕ) → Ledger low rs → i < length rs → low < number_at rs i
number-after low [] i l h = absurd (omega (arith, h))
number-after low (r ∷ rs) zero l h = l.0
number-after low (r ∷ rs) (suc i) l h = omega (arith, l.0, number-after r.entry.number rs i l.2 (omega (arith, h)))

pub number-one : (low : ℕ) (rs : List Resting) (i j : ℕ) → Ledger low rs → i < length rs → j < length rs → number_at rs i ≡ number_at rs j → i ≡ j
number-one low [] i j l h k e = absurd (omega (arith, h))
number-one low (r ∷ rs) zero zero l h k e = refl
number-one low (r ∷ rs) zero (suc j) l h k e = absurd (omega (arith, e, number-after r.entry.number rs j l.2 (omega (arith, k))))
number-one low (r ∷ rs) (suc i) zero l h k e = absurd (omega (arith, e, number-after r.entry.number rs i l.2 (omega (arith, h))))
number-one low (r ∷ rs) (suc i) (suc j) l h k e = ap suc (number-one r.entry.number rs i j l.2 (omega (arith, h)) (omega (arith, k)) e)

pub numbered-at : (low : ℕ) (rs : List Resting) (j : ℕ) (d : Resting) → Ledger low rs → j < length rs → numbered (number_at rs j) rs ≡ Some (get_or rs j d)
numbered-at low [] j d l h = absurd (omega (arith, h))
numbered-at low (r ∷ rs) zero d l h = ap (λ b. cond b (Some r) (numbered r.entry.number rs)) (eq-eqb r.entry.number r.entry.number refl)
numbered-at low (r ∷ rs) (suc j) d l h =
    let later = number-after r.entry.number rs j l.2 (omega (arith, h)) in
    ap (λ b. cond b (Some r) (numbered (number_at rs j) rs)) (by (number_at rs j == r.entry.number) refl later) ∙ numbered-at r.entry.number rs j d l.2 (omega (arith, h))
  where
    by : (b : Bool) → (number_at rs j == r.entry.number) ≡ b → r.entry.number < number_at rs j → b ≡ false
    by true e later = absurd (omega (arith, same-number (number_at rs j) r.entry.number e, later))
    by false e later = refl

pub number-read : (rs : List Resting) (j : ℕ) (d : Resting) → j < length rs → number_at rs j ≡ (get_or rs j d).entry.number
number-read [] j d h = absurd (omega (arith, h))
number-read (r ∷ rs) zero d h = refl
number-read (r ∷ rs) (suc j) d h = number-read rs j d (omega (arith, h))

-- orders stored by number, after each change

last-above : (low : ℕ) (rs : List Resting) (r : Resting) → Ledger low (rs ++ r ∷ []) → low < r.entry.number
last-above low [] r l = l.0
last-above low (s ∷ rs) r l = omega (arith, l.0, last-above s.entry.number rs r l.2)

pub pushed-absent : (low : ℕ) (rs : List Resting) (r : Resting) → Ledger low (rs ++ r ∷ []) → Absent r.entry.number rs
pushed-absent low [] r l = tt
pushed-absent low (s ∷ rs) r l = (eq_sym r.entry.number s.entry.number ∙ other-number s.entry.number r.entry.number (last-above s.entry.number rs r l.2), pushed-absent s.entry.number rs r l.2)

map-cond : (b : Bool) (o p : Option StoredOrder) → option_map seen_slot (cond b o p) ≡ cond b (option_map seen_slot o) (option_map seen_slot p)
map-cond true o p = refl
map-cond false o p = refl

pub put-numbered : (r : Resting) (s : StoredOrder) (rs : List Resting) (es fs : List (ℕ × StoredOrder)) → is_live r ≡ true → Ledger 0 (joined_by r rs) → seen_slot s ≡ r → ((m : ℕ) → slot_at fs m ≡ cond (r.entry.number == m) (Some s) (slot_at es m)) → IsNumbered rs es → IsNumbered (joined_by r rs) fs
put-numbered r s rs es fs live ledger seen change kept m =
    let grown : joined_by r rs ≡ rs ++ r ∷ [] = ap (λ b. cond b (rs ++ r ∷ []) rs) live in
    ap (option_map seen_slot) (change m) ∙ map-cond (r.entry.number == m) (Some s) (slot_at es m) ∙ ap (λ t. cond (r.entry.number == m) (Some t) (option_map seen_slot (slot_at es m))) seen ∙ ap (cond (r.entry.number == m) (Some r)) (kept m)
    ∙ sym (ap (numbered m) grown ∙ numbered-pushed m rs r (pushed-absent 0 rs r (rw grown at ledger)))

pub forget-numbered : (n : ℕ) (rs : List Resting) (es fs : List (ℕ × StoredOrder)) → Ledger 0 rs → ((m : ℕ) → slot_at fs m ≡ cond (n == m) None (slot_at es m)) → IsNumbered rs es → IsNumbered (without n rs) fs
forget-numbered n rs es fs ledger change kept m =
    ap (option_map seen_slot) (change m) ∙ map-cond (n == m) None (slot_at es m) ∙ ap (cond (n == m) None) (kept m) ∙ sym (numbered-without m n 0 rs ledger)

-- the order with this number is replaced
pub reduce-numbered : (n q : ℕ) (s t : StoredOrder) (rs : List Resting) (es fs : List (ℕ × StoredOrder)) → slot_at es n ≡ Some s → q < s.left → seen_slot t ≡ cut q (seen_slot s) → ((m : ℕ) → slot_at fs m ≡ cond (n == m) (Some t) (slot_at es m)) → IsNumbered rs es → IsNumbered (reduced n q rs) fs
reduce-numbered n q s t rs es fs some more seen change kept m =
    let here : numbered n rs ≡ Some (seen_slot s) = sym (kept n) ∙ ap (option_map seen_slot) some in
    ap (option_map seen_slot) (change m) ∙ map-cond (n == m) (Some t) (slot_at es m) ∙ ap (λ r. cond (n == m) (Some r) (option_map seen_slot (slot_at es m))) seen ∙ ap (cond (n == m) (Some (cut q (seen_slot s)))) (kept m)
    ∙ sym (numbered-reduced m n q rs (seen_slot s) here more)

-- no order has this number
pub kept-none : (n : ℕ) (rs : List Resting) (es : List (ℕ × StoredOrder)) → slot_at es n ≡ None → IsNumbered rs es → Absent n rs
kept-none n rs es none kept = numbered-none n rs (sym (kept n) ∙ ap (option_map seen_slot) none)

pub kept-some : (n : ℕ) (s : StoredOrder) (rs : List Resting) (es : List (ℕ × StoredOrder)) → slot_at es n ≡ Some s → IsNumbered rs es → numbered n rs ≡ Some (seen_slot s)
kept-some n s rs es some kept = sym (kept n) ∙ ap (option_map seen_slot) some

pub ledger-without : (n low : ℕ) (rs : List Resting) → Ledger low rs → Ledger low (without n rs)
ledger-without n low [] l = tt
ledger-without n low (r ∷ rs) l = by (n == r.entry.number) (ledger-without n r.entry.number rs l.2)
  where
    by : (b : Bool) → Ledger r.entry.number (without n rs) → Ledger low (if b then rs else r ∷ without n rs)
    by true ih = ledger-lower low r.entry.number rs (omega (arith, l.0)) l.2
    by false ih = (l.0, l.1, ih)

pub ledger-head : (rs : List Resting) (fs : List Fact) → AreLedgers rs fs → Ledger 0 rs
ledger-head rs [] l = l
ledger-head rs (f ∷ fs) l = l.0

-- the order of a participant's identifier is the one with its number

found-above : (low who : ℕ) (id : List ℕ) (rs : List Resting) (r : Resting) → Ledger low rs → find_live who id rs ≡ Some r → low < r.entry.number
found-above low who id [] r l h = cc
found-above low who id (s ∷ rs) r l h = by (is_current who id s) h (found-above s.entry.number who id rs r l.2)
  where
    by : (b : Bool) → cond b (Some s) (find_live who id rs) ≡ Some r → (find_live who id rs ≡ Some r → s.entry.number < r.entry.number) → low < r.entry.number
    by true h later = omega (arith, l.0, ap (λ (o : Option Resting). (unwrap_or o s).entry.number) h)
    by false h later = omega (arith, l.0, later h)

pub found-numbered : (low who : ℕ) (id : List ℕ) (rs : List Resting) (r : Resting) → Ledger low rs → find_live who id rs ≡ Some r → numbered r.entry.number rs ≡ Some r
found-numbered low who id [] r l h = cc
found-numbered low who id (s ∷ rs) r l h = by (is_current who id s) h (found-numbered s.entry.number who id rs r l.2)
  where
    by : (b : Bool) → cond b (Some s) (find_live who id rs) ≡ Some r → (find_live who id rs ≡ Some r → numbered r.entry.number rs ≡ Some r) → numbered r.entry.number (s ∷ rs) ≡ Some r
    by true h ih =
        let same : s ≡ r = ap (λ o. unwrap_or o s) h in
        ap (λ (t : Resting). numbered t.entry.number (s ∷ rs)) (sym same) ∙ ap (λ b. cond b (Some s) (numbered s.entry.number rs)) (eq-eqb s.entry.number s.entry.number refl) ∙ h
    by false h ih =
        let later : s.entry.number < r.entry.number = found-above s.entry.number who id rs r l.2 h in
        let other : (r.entry.number == s.entry.number) ≡ false = eq_sym r.entry.number s.entry.number ∙ other-number s.entry.number r.entry.number later in
        ap (λ b. cond b (Some s) (numbered r.entry.number rs)) other ∙ ih h

-- facts about an Ok
pub given-ok : {X E : Type 0} (P : Type 0) (r : Result X E) → is_ok r ≡ true → OnOk r P → P
given-ok P (Ok x) ok h = h
given-ok P (Err e) ok h = cc

pub reordered : (rs : List Resting) (es fs : List (ℕ × StoredOrder)) → ((n : ℕ) → slot_at fs n ≡ slot_at es n) → IsNumbered rs es → IsNumbered rs fs
reordered rs es fs same kept n = ap (option_map seen_slot) (same n) ∙ kept n

-- the effect of facts still to come on the stored orders
pub record Going (target : List Resting) (rest : List Fact) (o : RestingOrders) : Type 0 where
  pub now : List Resting
  pub step : IsConsistent now o
  pub same : changes now rest ≡ target
