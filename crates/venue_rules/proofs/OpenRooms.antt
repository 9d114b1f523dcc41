use Rattle.std.proofs.Common.{◌≡◌, refl, sym, ap, ◌∙◌, inl, inr, ◌⊎◌, ℕ, suc, ◌+◌, ◌≤◌, Bool, true, false, cond, not, ◌&&◌, ◌||◌, nat_le, List, [], ◌∷◌, ◌++◌, length, filter, arith, length-append}
use Rattle.std.specs.List.{cons_option, list_any}
use Rattle.std.proofs.lemmas.Bool.{true≢false, and_parts, or_parts}
use Rattle.std.proofs.lemmas.Bool.Decides.{nat_tests}
use Rattle.std.proofs.lemmas.List.Elements.{filter_map-append, filter-append}
use Rattle.venue_rules.specs.declared.facts.Fact.{Fact}
use Rattle.venue_rules.specs.declared.facts.Room.{Room}
use Rattle.venue_rules.specs.Facts.{room_in, rooms}
use Rattle.venue_rules.specs.Rooms.{closes, is_closed, is_open, open_rooms}
use Rattle.venue_rules.specs.Requests.{open_room}
use Rattle.venue_rules.specs.Answer.{Answer, first_of}
use Rattle.venue_rules.proofs.Together.{NoRoom}

-- The count of open rooms.

-- an answer opens no room, or no more than the limit allows
abbrev pub OpensFew : List Fact → ℕ → Answer → Type 0
OpensFew facts t x = NoRoom x.facts ⊎ (length (open_rooms facts t) + length (rooms x.facts) ≤ open_room)

-- the first refusal that holds, or none
abbrev pub EachRefusal : (Answer → Type 0) → List (Bool × Answer) → Type 0
EachRefusal P [] = Unit {0}
EachRefusal P (r ∷ rs) = P r.1 × EachRefusal P rs

abbrev pub NoneHolds : List (Bool × Answer) → Type 0
NoneHolds [] = Unit {0}
NoneHolds (r ∷ rs) = (r.0 ≡ false) × NoneHolds rs

first_case : (P : Answer → Type 0) (b c : Bool) (x y : Answer) → b ≡ c → P x → (b ≡ false → P y) → P (elim c [ true ↦ x | false ↦ y ])
first_case P b true x y h k l = k
first_case P b false x y h k l = l h

pub first_of-each : (P : Answer → Type 0) (rs : List (Bool × Answer)) (x : Answer) → EachRefusal P rs → (NoneHolds rs → P x) → P (first_of rs x)
first_of-each P [] x e k = k tt
first_of-each P (r ∷ rs) x e k = first_case P r.0 r.0 r.1 (first_of rs x) refl e.0 (λ h. first_of-each P rs x e.1 (λ n. k (h, n)))

-- rooms open now were open before

any_front : {X : Type 0} (p : X → Bool) (xs ys : List X) → list_any p (xs ++ ys) ≡ false → list_any p xs ≡ false
any_front p [] ys h = refl
any_front p (x ∷ xs) ys h = let k = or_parts (p x) (list_any p (xs ++ ys)) h in ap (λ b. b || list_any p xs) k.0 ∙ any_front p xs ys k.1

both : (a b : Bool) → a ≡ true → b ≡ true → (a && b) ≡ true
both true b h k = k
both false b h k = absurd (true≢false (sym h))

not_true : (b : Bool) → not b ≡ true → b ≡ false
not_true true h = absurd (true≢false (sym h))
not_true false h = refl

earlier_end : (u v e : ℕ) → u ≤ v → nat_le v e ≡ true → nat_le u e ≡ true
earlier_end u v e le h = grind (arith, nat_tests)

open_before : (fs gs : List Fact) (u v : ℕ) (r : Room) → u ≤ v → is_open (fs ++ gs) v r ≡ true → is_open fs u r ≡ true
open_before fs gs u v r le h =
    let k = and_parts (not (is_closed (fs ++ gs) r.number)) (nat_le v r.end) h in
    both (not (is_closed fs r.number)) (nat_le u r.end) (ap not (any_front (closes r.number) fs gs (not_true (is_closed (fs ++ gs) r.number) k.0))) (earlier_end u v r.end le k.1)

-- filters

fewer_cons : {X : Type 0} (x : X) (xs ys : List X) (a b : Bool) → (a ≡ true → b ≡ true) → length xs ≤ length ys → length (cond a (x ∷ xs) xs) ≤ length (cond b (x ∷ ys) ys)
fewer_cons x xs ys true true h le = omega (arith, le)
fewer_cons x xs ys true false h le = absurd (true≢false (sym (h refl)))
fewer_cons x xs ys false true h le = omega (arith, le)
fewer_cons x xs ys false false h le = le

filter_fewer : {X : Type 0} (p q : X → Bool) (xs : List X) → ((x : X) → p x ≡ true → q x ≡ true) → length (filter p xs) ≤ length (filter q xs)
filter_fewer p q [] h = omega arith
filter_fewer p q (x ∷ xs) h = fewer_cons x (filter p xs) (filter q xs) (p x) (q x) (h x) (filter_fewer p q xs h)

short_cons : {X : Type 0} (x : X) (xs ys : List X) (a : Bool) → length xs ≤ length ys → length (cond a (x ∷ xs) xs) ≤ suc (length ys)
short_cons x xs ys true le = omega (arith, le)
short_cons x xs ys false le = omega (arith, le)

pub filter_short : {X : Type 0} (p : X → Bool) (xs : List X) → length (filter p xs) ≤ length xs
filter_short p [] = omega arith
filter_short p (x ∷ xs) = short_cons x (filter p xs) xs (p x) (filter_short p xs)

-- no room opened
no_rooms : (fs : List Fact) → NoRoom fs → rooms fs ≡ []
no_rooms [] n = refl
no_rooms (f ∷ fs) n = ap (λ o. cons_option o (rooms fs)) n.0 ∙ no_rooms fs n.1

-- open rooms after further facts: at most those open at an earlier or the same moment, plus those of the new facts
open_after : (fs gs : List Fact) (u v : ℕ) → u ≤ v → length (open_rooms (fs ++ gs) v) ≤ length (open_rooms fs u) + length (rooms gs)
open_after fs gs u v le =
    let split : open_rooms (fs ++ gs) v ≡ filter (is_open (fs ++ gs) v) (rooms fs) ++ filter (is_open (fs ++ gs) v) (rooms gs) =
    ap (filter (is_open (fs ++ gs) v)) (filter_map-append room_in fs gs) ∙ filter-append (is_open (fs ++ gs) v) (rooms fs) (rooms gs) in
    let count : length (open_rooms (fs ++ gs) v) ≡ length (filter (is_open (fs ++ gs) v) (rooms fs)) + length (filter (is_open (fs ++ gs) v) (rooms gs)) =
    ap length split ∙ length-append (filter (is_open (fs ++ gs) v) (rooms fs)) (filter (is_open (fs ++ gs) v) (rooms gs)) in
    let old : length (filter (is_open (fs ++ gs) v) (rooms fs)) ≤ length (open_rooms fs u) = filter_fewer (is_open (fs ++ gs) v) (is_open fs u) (rooms fs) (λ r. open_before fs gs u v r le) in
    let new : length (filter (is_open (fs ++ gs) v) (rooms gs)) ≤ length (rooms gs) = filter_short (is_open (fs ++ gs) v) (rooms gs) in
    omega (arith, count, old, new)

-- after an answer that opens few rooms, few are open from its moment on
pub few_after : (facts : List Fact) (x : Answer) (u v : ℕ) → length (open_rooms facts u) ≤ open_room → OpensFew facts u x → u ≤ v → length (open_rooms (facts ++ x.facts) v) ≤ open_room
few_after facts x u v few (inl n) le =
    let all : length (open_rooms (facts ++ x.facts) v) ≤ length (open_rooms facts u) + length (rooms x.facts) = open_after facts x.facts u v le in
    let none : length (rooms x.facts) ≡ 0 = ap length (no_rooms x.facts n) in
    omega (arith, all, none, few)
few_after facts x u v few (inr more) le =
    let all : length (open_rooms (facts ++ x.facts) v) ≤ length (open_rooms facts u) + length (rooms x.facts) = open_after facts x.facts u v le in
    omega (arith, all, more)
