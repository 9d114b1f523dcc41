use Rattle.std.proofs.Common.{◌≡◌, refl, sym, ap, ◌∙◌, ℕ, zero, suc, ◌≤◌, ◌<◌, Bool, true, false, cond, ◌==◌, nat_lt, nat_le, List, [], ◌∷◌, ◌++◌, length, get_or, Option, Some, None, Bor, option_map, if◌then◌else◌, eq-eqb, arith}
use Rattle.std.specs.List.{insert, slice_get}
use Rattle.std.specs.Option.{option_or}
use Rattle.std.specs.Slice.{IsItemAt}
use Rattle.std.proofs.lemmas.Option.{slice_get_past, slice_get_read}
use Rattle.std.specs.List.Sorted.{IsNonDecreasingBy, IsPartitionPoint}
use Rattle.std.proofs.lemmas.Bool.{eqb-true}
use Rattle.std.proofs.lemmas.Bool.Decides.{nat_tests}
use Rattle.std.proofs.lemmas.List.Folds.{find-append}
use Rattle.venue_rules.specs.declared.trail.RoomFact.{RoomFact}
use Rattle.trade_history.specs.ByNumber.{AreRising, put, with_number}
use Rattle.trade_history.specs.Quoted.{found}

-- Rooms by number.

is_less : (a b : ℕ) → nat_lt a b ≡ true → a < b
is_less a b h = grind (arith, nat_tests)

is_no_less : (a b : ℕ) → nat_lt a b ≡ false → b ≤ a
is_no_less a b h = grind (arith, nat_tests)

is_within : (a b : ℕ) → nat_le a b ≡ true → a ≤ b
is_within a b h = grind (arith, nat_tests)

is_beyond : (a b : ℕ) → nat_le a b ≡ false → b < a
is_beyond a b h = grind (arith, nat_tests)

apart : (a b : ℕ) → (a ≡ b → ⊥) → a == b ≡ false
apart a b h = by (a == b) refl
  where
    by : (c : Bool) → a == b ≡ c → a == b ≡ false
    by true e = absurd (h (eqb-true a b e))
    by false e = e

-- numbers do not fall

rises-put : (low : ℕ) (f : RoomFact) (rs : List RoomFact) → low ≤ f.number → AreRising low rs → AreRising low (put f rs)
rises-put low f [] l r = (l, tt)
rises-put low f (k ∷ ks) l r = by (nat_le k.number f.number) refl (λ m. rises-put k.number f ks m r.1)
  where
    by : (b : Bool) → nat_le k.number f.number ≡ b → (k.number ≤ f.number → AreRising k.number (put f ks)) → AreRising low (if b then k ∷ put f ks else f ∷ k ∷ ks)
    by true e ih = (r.0, ih (is_within k.number f.number e))
    by false e ih = let m = is_beyond k.number f.number e in (l, (omega (arith, m), r.1))

pub rises-one : (f : RoomFact) (rs : List RoomFact) → AreRising 0 rs → AreRising 0 (put f rs)
rises-one f rs r = rises-put 0 f rs (omega arith) r

rises-least : (low : ℕ) (ks : List RoomFact) (i : ℕ) (d : RoomFact) → AreRising low ks → i < length ks → low ≤ (get_or ks i d).number
rises-least low [] i d r h = absurd (omega (arith, h))
rises-least low (k ∷ ks) zero d r h = r.0
rises-least low (k ∷ ks) (suc i) d r h = let l = rises-least k.number ks i d r.1 (omega (arith, h)) in omega (arith, l, r.0)

pub rises-far : (low : ℕ) (ks : List RoomFact) → AreRising low ks → IsNonDecreasingBy (λ (h : RoomFact). h.number) ks
rises-far low [] r i j d h m = absurd (omega (arith, m))
rises-far low (k ∷ ks) r zero zero d h m = omega arith
rises-far low (k ∷ ks) r zero (suc j) d h m = rises-least k.number ks j d r.1 (omega (arith, m))
rises-far low (k ∷ ks) r (suc i) zero d h m = absurd (omega (arith, h))
rises-far low (k ∷ ks) r (suc i) (suc j) d h m = rises-far k.number ks r.1 i j d (omega (arith, h)) (omega (arith, m))

-- the place of a further room

pub put-is : (h : RoomFact) (ks : List RoomFact) (i : ℕ) → i ≤ length ks → IsPartitionPoint (λ (k : RoomFact). nat_le k.number h.number ≡ true) (λ (k : RoomFact). nat_le k.number h.number ≡ false) ks i → insert ks i h ≡ put h ks
put-is h [] i l at = let none : i ≡ 0 = omega (arith, l) in ap (λ n. insert [] n h) none
put-is h (k ∷ ks) zero l at = let late : nat_le k.number h.number ≡ false = at.1 0 k (omega arith) (omega arith) in rw late refl
put-is h (k ∷ ks) (suc i) l at =
    let soon : nat_le k.number h.number ≡ true = at.0 0 k (omega arith) (omega arith) in
    rw soon (ap (λ ls. k ∷ ls) (put-is h ks i (omega (arith, l)) ((λ n d a b. at.0 (suc n) d (omega arith) (omega (arith, b))), (λ n d a b. at.1 (suc n) d (omega (arith, a)) (omega (arith, b))))))

-- searches after an insertion

none-later : (n low : ℕ) (ks : List RoomFact) → AreRising low ks → n < low → found n ks ≡ None
none-later n low [] r h = refl
none-later n low (k ∷ ks) r h = rw (apart k.number n (λ e. absurd (omega (arith, e, h, r.0)))) (none-later n k.number ks r.1 (omega (arith, h, r.0)))

or-none : (x : Option RoomFact) → x ≡ option_or x None
or-none None = refl
or-none (Some y) = refl

pub found-put : (n : ℕ) (f : RoomFact) (low : ℕ) (ks : List RoomFact) → AreRising low ks → found n (put f ks) ≡ option_or (found n ks) (found n (f ∷ []))
found-put n f low [] r = refl
found-put n f low (k ∷ ks) r = by (nat_le k.number f.number) (k.number == n) (f.number == n) refl refl refl (found-put n f k.number ks r.1)
  where
    by : (a b c : Bool) → nat_le k.number f.number ≡ a → k.number == n ≡ b → f.number == n ≡ c → found n (put f ks) ≡ option_or (found n ks) (found n (f ∷ [])) → found n (if a then k ∷ put f ks else f ∷ k ∷ ks) ≡ option_or (found n (k ∷ ks)) (found n (f ∷ []))
    by true true c e g h ih = rw g refl
    by true false c e g h ih = rw g ih
    by false true true e g h ih = let m = is_beyond k.number f.number e in let p = eqb-true k.number n g in let q = eqb-true f.number n h in absurd (omega (arith, m, p, q))
    by false true false e g h ih = rw (h, g) refl
    by false false true e g h ih =
        let m = is_beyond k.number f.number e in
        let q = eqb-true f.number n h in
        let none : found n ks ≡ None = none-later n k.number ks r.1 (omega (arith, m, q)) in
        rw (h, g) (rw none refl)
    by false false false e g h ih = rw (h, g) (or-none (found n ks))

pub found-one-more : (n : ℕ) (f : RoomFact) (ks rs : List RoomFact) → AreRising 0 ks → found n ks ≡ found n rs → found n (put f ks) ≡ found n (rs ++ f ∷ [])
found-one-more n f ks rs r same = found-put n f 0 ks r ∙ ap (λ o. option_or o (found n (f ∷ []))) same ∙ sym (find-append (λ (x : RoomFact). x.number == n) rs (f ∷ []))

-- the place of a found room

less-apart : (a b : ℕ) → a ≤ b → b == a ≡ false → a < b
less-apart a b m e = by (nat_lt a b) refl
  where
    by : (c : Bool) → nat_lt a b ≡ c → a < b
    by true f = is_less a b f
    by false f = let low = is_no_less a b f in let same : b ≡ a = omega (arith, m, low) in let never : true ≡ false = sym (eq-eqb b a same) ∙ e in cc

pub found-at : (n low : ℕ) (ks : List RoomFact) (i : ℕ) → AreRising low ks → IsPartitionPoint (λ (k : RoomFact). nat_lt k.number n ≡ true) (λ (k : RoomFact). nat_lt k.number n ≡ false) ks i → found n ks ≡ with_number n (slice_get ks i)
found-at n low [] i r at = refl
found-at n low (k ∷ ks) zero r at = by (k.number == n) refl
  where
    late : nat_lt k.number n ≡ false
    late = at.1 0 k (omega arith) (omega arith)

    by : (b : Bool) → k.number == n ≡ b → cond b (Some k) (found n ks) ≡ (if b then Some k else None)
    by true e = refl
    by false e =
        let m = is_no_less k.number n late in
        let far : n < k.number = less-apart n k.number m e in
        none-later n k.number ks r.1 far
found-at n low (k ∷ ks) (suc i) r at =
    let soon = is_less k.number n (at.0 0 k (omega arith) (omega arith)) in
    rw (apart k.number n (λ e. absurd (omega (arith, e, soon)))) (found-at n k.number ks i r.1 ((λ m d a b. at.0 (suc m) d (omega arith) (omega (arith, b))), (λ m d a b. at.1 (suc m) d (omega (arith, a)) (omega (arith, b)))))

-- a reference to a place of a list

pub got : {X : Type 0} (xs : List X) (i : ℕ) (r : Option (Bor X)) → IsItemAt xs i r → option_map (λ (x : Bor X). x.now) r ≡ slice_get xs i
got xs i None h = sym (slice_get_past xs i h.3)
got xs i (Some x) h = sym (slice_get_read xs (length xs) i x.now refl h.3.0 h.1)
