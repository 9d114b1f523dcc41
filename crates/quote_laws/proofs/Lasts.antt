-- A quote is replaced if its maker has a later one in its room.
use Rattle.std.proofs.Common.{◌≡◌, refl, sym, ap, ◌∙◌, subst, inl, inr, ◌⊎◌, ℕ, ◌+◌, ◌<◌, ◌≤◌, Bool, true, false, cond, not, ◌&&◌, ◌||◌, ◌==◌, nat_lt, List, [], ◌∷◌, find, reverse, Option, Some, None, arith, eqb-true, eq-eqb, lt-ltb}
use Rattle.std.specs.List.{list_any}
use Rattle.std.specs.Option.{option_or}
use Rattle.std.proofs.lemmas.Bool.{true≢false, and_parts, or_from, or_right}
use Rattle.std.proofs.lemmas.Bool.Decides.{nat_tests}
use Rattle.std.proofs.lemmas.List.{reverse-append}
use Rattle.std.proofs.lemmas.List.Folds.{find-append}
use Rattle.venue_rules.specs.declared.facts.Fact.{Fact}
use Rattle.venue_rules.specs.declared.facts.RoomQuote.{RoomQuote}
use Rattle.venue_rules.specs.Facts.{quotes}
use Rattle.venue_rules.specs.Rooms.{is_last, is_replaced, last_quote}
use Rattle.venue_rules.proofs.Members.{In, Places, Places-above}

-- the last element that passes a test, of a list that is numbered by its places

abbrev IsLastOf : {X : Type 0} → (X → Bool) → (X → ℕ) → List X → Option X → Type 0
IsLastOf {X} p num xs None = (x : X) → In x xs → p x ≡ false
IsLastOf {X} p num xs (Some y) = In y xs × (p y ≡ true) × ((x : X) → In x xs → p x ≡ true → num x ≤ num y)

one_more : {X : Type 0} (p : X → Bool) (num : X → ℕ) (n : ℕ) (x : X) (xs : List X) (o : Option X) (b : Bool) → (num x ≡ n + 1) × Places num (n + 1) xs → p x ≡ b → IsLastOf p num xs o → IsLastOf p num (x ∷ xs) (option_or o (cond b (Some x) None))
one_more {X} p num n x xs (Some y) b pl e k = (inr k.0, k.1, upto)
  where
    upto : (z : X) → (x ≡ z) ⊎ In z xs → p z ≡ true → num z ≤ num y
    upto z (inl same) h = let f : num z ≡ n + 1 = ap num (sym same) ∙ pl.0 in let l : n + 1 < num y = Places-above num (n + 1) xs pl.1 y k.0 in omega (arith, f, l)
    upto z (inr i) h = k.2 z i h
one_more {X} p num n x xs None true pl e k = (inl refl, e, upto)
  where
    upto : (z : X) → (x ≡ z) ⊎ In z xs → p z ≡ true → num z ≤ num x
    upto z (inl same) h = let f : num x ≡ num z = ap num same in omega (arith, f)
    upto z (inr i) h = absurd (true≢false (sym h ∙ k z i))
one_more {X} p num n x xs None false pl e k = missing
  where
    missing : (z : X) → (x ≡ z) ⊎ In z xs → p z ≡ false
    missing z (inl same) = ap p (sym same) ∙ e
    missing z (inr i) = k z i

found_last : {X : Type 0} (p : X → Bool) (num : X → ℕ) (n : ℕ) (xs : List X) → Places num n xs → IsLastOf p num xs (find p (reverse xs))
found_last p num n [] pl = λ x i. absurd i
found_last p num n (x ∷ xs) pl =
    subst (IsLastOf p num (x ∷ xs)) (sym (ap (find p) (reverse-append (x ∷ []) xs) ∙ find-append p (reverse xs) (x ∷ [])))
    (one_more p num n x xs (find p (reverse xs)) (p x) pl refl (found_last p num (n + 1) xs pl.1))

-- tests of lists

pub none_passes : {X : Type 0} (p : X → Bool) (xs : List X) → ((x : X) → In x xs → p x ≡ true → ⊥) → list_any p xs ≡ false
none_passes p [] h = refl
none_passes p (x ∷ xs) h = or_from (p x) (list_any p xs) (untrue (p x) (h x (inl refl))) (none_passes p xs (λ y i. h y (inr i)))
  where
    untrue : (b : Bool) → (b ≡ true → ⊥) → b ≡ false
    untrue true k = absurd (k refl)
    untrue false k = refl

pub one_passes : {X : Type 0} (p : X → Bool) (xs : List X) (x : X) → In x xs → p x ≡ true → list_any p xs ≡ true
one_passes p [] x i h = absurd i
one_passes p (y ∷ ys) x (inl same) h = ap (λ b. b || list_any p ys) (ap p same ∙ h)
one_passes p (y ∷ ys) x (inr i) h = or_right (p y) (list_any p ys) (one_passes p ys x i h)

both : (a b : Bool) → a ≡ true → b ≡ true → (a && b) ≡ true
both true b h k = k
both false b h k = absurd (true≢false (sym h))

-- a later quote of the same maker in the same room
abbrev pub is_later : RoomQuote → RoomQuote → Bool
is_later q y = nat_lt q.number y.number && (y.maker == q.maker && y.room == q.room)

abbrev is_theirs : RoomQuote → RoomQuote → Bool
is_theirs q y = y.room == q.room && y.maker == q.maker

abbrev number_of : RoomQuote → ℕ
number_of y = y.number

less : (a b : ℕ) → nat_lt a b ≡ true → a < b
less a b h = grind (arith, nat_tests)

above : (a b : ℕ) → a ≤ b → (b == a) ≡ false → a < b
above a b h e = grind (arith, nat_tests)

theirs : (q y : RoomQuote) → is_later q y ≡ true → is_theirs q y ≡ true
theirs q y h =
    let k = and_parts (nat_lt q.number y.number) (y.maker == q.maker && y.room == q.room) h in
    let l = and_parts (y.maker == q.maker) (y.room == q.room) k.1 in
    both (y.room == q.room) (y.maker == q.maker) l.1 l.0

own : (q : RoomQuote) → is_theirs q q ≡ true
own q = both (q.room == q.room) (q.maker == q.maker) (eq-eqb q.room q.room refl) (eq-eqb q.maker q.maker refl)

by_last : (q : RoomQuote) (qs : List RoomQuote) (o : Option RoomQuote) → In q qs → IsLastOf (is_theirs q) number_of qs o → not (is_last q.number o) ≡ list_any (is_later q) qs
by_last q qs None i k = absurd (true≢false (sym (own q) ∙ k q i))
by_last q qs (Some y) i k = by (y.number == q.number) refl
  where
    by : (b : Bool) → (y.number == q.number) ≡ b → not b ≡ list_any (is_later q) qs
    by true e = sym (none_passes (is_later q) qs (λ z j h. past z (k.2 z j (theirs q z h)) (less q.number z.number (and_parts (nat_lt q.number z.number) (z.maker == q.maker && z.room == q.room) h).0)))
      where
        past : (z : RoomQuote) → z.number ≤ y.number → q.number < z.number → ⊥
        past z le lt = let same : y.number ≡ q.number = eqb-true y.number q.number e in omega (arith, same, le, lt)
    by false e =
        let t = and_parts (y.room == q.room) (y.maker == q.maker) k.1 in
        let lt : q.number < y.number = above q.number y.number (k.2 q i (own q)) e in
        sym (one_passes (is_later q) qs y k.0 (both (nat_lt q.number y.number) (y.maker == q.maker && y.room == q.room) (lt-ltb q.number y.number lt) (both (y.maker == q.maker) (y.room == q.room) t.1 t.0)))

pub replaced_later : (facts : List Fact) (q : RoomQuote) → Places number_of 0 (quotes facts) → In q (quotes facts) → is_replaced facts q ≡ list_any (is_later q) (quotes facts)
replaced_later facts q pl i = by_last q (quotes facts) (last_quote facts q.room q.maker) i (found_last (is_theirs q) number_of 0 (quotes facts) pl)
