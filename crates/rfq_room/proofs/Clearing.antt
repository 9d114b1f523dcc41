use Rattle.std.proofs.Common.{◌≡◌, refl, sym, ap, ◌∙◌, ℕ, suc, ◌+◌, ◌≤◌, ◌<◌, Bool, true, false, not, cond, ◌&&◌, ◌||◌, ◌==◌, nat_lt, nat_le, List, [], ◌∷◌, ◌++◌, length, get_or, take, map, filter, find, reverse, Option, Some, None, Result, Ok, Err, IfOk, if◌then◌else◌, length-append, arith}
use Rattle.std.specs.List.{list_all}
use Rattle.std.specs.Option.{option_or}
use Rattle.std.proofs.lemmas.Bool.{and_parts}
use Rattle.std.proofs.lemmas.Bool.Decides.{nat_tests}
use Rattle.std.proofs.lemmas.List.{append-nil, map-append}
use Rattle.std.proofs.lemmas.List.Elements.{filter_map-append, filter-append}
use Rattle.std.proofs.lemmas.List.Folds.{list_all-append, list_any-append}
use Rattle.venue_rules.specs.declared.facts.Fact.{Fact}
use Rattle.venue_rules.specs.declared.facts.Room.{Room}
use Rattle.venue_rules.specs.declared.facts.RoomQuote.{RoomQuote}
use Rattle.venue_rules.specs.Facts.{next_quote, next_room, quote_in, quotes, room_in, rooms}
use Rattle.venue_rules.specs.Rooms.{closes, is_closed, is_last, is_live, is_open, is_replaced, is_withdrawn, last_quote, withdraws}
use Rattle.rfq_room.specs.declared.opened.OpenRoom.{OpenRoom}
use Rattle.rfq_room.specs.Contents.{Contents}
use Rattle.rfq_room.specs.Named.{named_quotes}
use Rattle.rfq_room.specs.Numbered.{AreFrom}
use Rattle.rfq_room.specs.Openness.{is_still_open, open_room}
use Rattle.rfq_room.specs.Plans.{withdrawn}
use Rattle.rfq_room.specs.Steps.{IsAllowed, IsPlanOf, Leaves, Nothing, Opens, Passes, Quotes, Step, Trades, facts_of}
use Rattle.rfq_room.specs.Views.{is_named, is_taken}
use Rattle.rfq_room.proofs.Flagging.{last-both}
use Rattle.rfq_room.proofs.Readings.{take-read}
use Rattle.rfq_room.proofs.Taking.{named_taken}

-- A stricter filter of a filtered list.

pub twice : {X : Type 0} (p q : X → Bool) → ((x : X) → q x ≡ true → p x ≡ true) → (xs : List X) → filter q (filter p xs) ≡ filter q xs
twice p q stricter [] = refl
twice {X} p q stricter (x ∷ xs) = by (p x) (q x) refl refl (twice p q stricter xs)
  where
    by : (b c : Bool) → p x ≡ b → q x ≡ c → filter q (filter p xs) ≡ filter q xs → filter q (cond b (x ∷ filter p xs) (filter p xs)) ≡ cond (q x) (x ∷ filter q xs) (filter q xs)
    by true c e f ih = ap (λ ys. cond (q x) (x ∷ ys) ys) ih
    by false true e f ih = let never : true ≡ false = sym (stricter x f) ∙ e in cc
    by false false e f ih = rw f ih

pub stricter-same : {X : Type 0} (p q : X → Bool) (xs ys : List X) → ((x : X) → q x ≡ true → p x ≡ true) → filter p xs ≡ filter p ys → filter q xs ≡ filter q ys
stricter-same p q xs ys stricter same = sym (twice p q stricter xs) ∙ ap (filter q) same ∙ twice p q stricter ys

-- the same, stricter for those that pass a third test, which all do

under-third : {X : Type 0} (p b : X → Bool) (xs : List X) → list_all b xs ≡ true → filter (λ x. b x && p x) xs ≡ filter p xs
under-third p b [] all = refl
under-third {X} p b (x ∷ xs) all =
    let parts : (b x ≡ true) × (list_all b xs ≡ true) = and_parts (b x) (list_all b xs) all in
    rw parts.0 (ap (λ ys. cond (p x) (x ∷ ys) ys) (under-third p b xs parts.1))

pub stricter-under : {X : Type 0} (p q b : X → Bool) (xs ys : List X) → list_all b xs ≡ true → list_all b ys ≡ true → ((x : X) → b x ≡ true → q x ≡ true → p x ≡ true) → filter p xs ≡ filter p ys → filter q xs ≡ filter q ys
stricter-under p q b xs ys all every stricter same =
    sym (under-third q b xs all)
    ∙ stricter-same p (λ x. b x && q x) xs ys (λ x h. let parts = and_parts (b x) (q x) h in stricter x parts.0 parts.1) same
    ∙ under-third q b ys every

pub both-more : {X : Type 0} (q : X → Bool) (xs ys zs : List X) → filter q xs ≡ filter q ys → filter q (xs ++ zs) ≡ filter q (ys ++ zs)
both-more q xs ys zs same = filter-append q xs zs ∙ ap (λ us. us ++ filter q zs) same ∙ sym (filter-append q ys zs)

-- counting one more element

pub count-more : {X : Type 0} (p : X → Bool) (xs : List X) (i : ℕ) (x : X) → i < length xs → x ≡ get_or xs i x → length (filter p (take (i + 1) xs)) ≡ length (filter p (take i xs)) + (if p x then 1 else 0)
count-more p xs i x h e = ap (λ ys. length (filter p ys)) (take-read xs i x h e) ∙ ap length (filter-append p (take i xs) (x ∷ [])) ∙ length-append (filter p (take i xs)) (filter p (x ∷ [])) ∙ ap (λ n. length (filter p (take i xs)) + n) (by (p x))
  where
    by : (b : Bool) → length (cond b (x ∷ []) []) ≡ (if b then 1 else 0)
    by true = refl
    by false = refl

-- open rooms

pub open-counted : (facts : List Fact) (t : ℕ) (rs : List Room) → length (filter (is_still_open facts t) (map open_room rs)) ≡ length (filter (is_open facts t) rs)
open-counted facts t [] = refl
open-counted facts t (r ∷ rs) = by (is_open facts t r) (open-counted facts t rs)
  where
    by : (b : Bool) → length (filter (is_still_open facts t) (map open_room rs)) ≡ length (filter (is_open facts t) rs) → length (cond b (open_room r ∷ filter (is_still_open facts t) (map open_room rs)) (filter (is_still_open facts t) (map open_room rs))) ≡ length (cond b (r ∷ filter (is_open facts t) rs) (filter (is_open facts t) rs))
    by true ih = ap suc ih
    by false ih = ih

-- the named quotes of a maker are among the live ones

taken-is-live : (facts : List Fact) (maker t : ℕ) (named : Option (List ℕ)) (q : RoomQuote) → is_taken facts maker t named q ≡ true → is_live facts t q ≡ true
taken-is-live facts maker t named q h = (and_parts (q.maker == maker) (is_live facts t q) (and_parts (q.maker == maker && is_live facts t q) (is_named q.id named) h).0).1

pub taken-live : (facts : List Fact) (maker t : ℕ) (named : Option (List ℕ)) (live : List RoomQuote) → filter (is_live facts t) live ≡ filter (is_live facts t) (quotes facts) → filter (is_taken facts maker t named) live ≡ named_quotes facts maker t named
taken-live facts maker t named live same = stricter-same (is_live facts t) (is_taken facts maker t named) live (quotes facts) (taken-is-live facts maker t named) same ∙ named_taken facts maker t named

-- What is over at a moment is over later.

earlier-end : (m t e : ℕ) → m ≤ t → nat_le t e ≡ true → nat_le m e ≡ true
earlier-end m t e h k = grind (arith, nat_tests)

both : (b c : Bool) → b ≡ true → c ≡ true → (b && c) ≡ true
both true true h k = refl
both true false h k = k
both false c h k = h

pub open-earlier : (facts : List Fact) (m t : ℕ) (o : OpenRoom) → m ≤ t → is_still_open facts t o ≡ true → is_still_open facts m o ≡ true
open-earlier facts m t o h k =
    let parts = and_parts (not (is_closed facts o.number)) (nat_le t o.end) k in
    both _ _ parts.0 (earlier-end m t o.end h parts.1)

pub record Live (facts : List Fact) (t : ℕ) (q : RoomQuote) : Type 0 where
  pub last : not (is_replaced facts q) ≡ true
  pub kept : not (is_withdrawn facts q.number) ≡ true
  pub standing : not (is_closed facts q.room) ≡ true
  pub timely : nat_le t q.end ≡ true

live-parts : (facts : List Fact) (t : ℕ) (q : RoomQuote) → is_live facts t q ≡ true → Live facts t q
live-parts facts t q h =
    let one = and_parts (not (is_replaced facts q)) (not (is_withdrawn facts q.number) && (not (is_closed facts q.room) && nat_le t q.end)) h in
    let two = and_parts (not (is_withdrawn facts q.number)) (not (is_closed facts q.room) && nat_le t q.end) one.1 in
    let three = and_parts (not (is_closed facts q.room)) (nat_le t q.end) two.1 in
    record { last = one.0; kept = two.0; standing = three.0; timely = three.1 }

live-whole : (facts : List Fact) (t : ℕ) (q : RoomQuote) → Live facts t q → is_live facts t q ≡ true
live-whole facts t q l = both _ _ l.last (both _ _ l.kept (both _ _ l.standing l.timely))

pub live-earlier : (facts : List Fact) (m t : ℕ) (q : RoomQuote) → m ≤ t → is_live facts t q ≡ true → is_live facts m q ≡ true
live-earlier facts m t q h k =
    let l = live-parts facts t q k in
    live-whole facts m q (record { last = l.last; kept = l.kept; standing = l.standing; timely = earlier-end m t q.end h l.timely })

-- Consecutive numbers.

pub from-below : {X : Type 0} (num : X → ℕ) (xs : List X) (k n : ℕ) → AreFrom k (map num xs) → k + length xs ≤ n → list_all (λ x. nat_lt (num x) n) xs ≡ true
from-below num [] k n from h = refl
from-below num (x ∷ xs) k n from h = both _ _ (less (num x) k n from.0 (omega (arith, h))) (from-below num xs (suc k) n from.1 (omega (arith, h)))
  where
    less : (a k n : ℕ) → a ≡ k → k < n → nat_lt a n ≡ true
    less a k n e h = grind (arith, nat_tests)

pub below-more : {X : Type 0} (num : X → ℕ) (xs : List X) (n m : ℕ) → list_all (λ x. nat_lt (num x) n) xs ≡ true → n ≤ m → list_all (λ x. nat_lt (num x) m) xs ≡ true
below-more num [] n m all h = refl
below-more num (x ∷ xs) n m all h =
    let parts = and_parts (nat_lt (num x) n) (list_all (λ x. nat_lt (num x) n) xs) all in
    both _ _ (less (num x) n m parts.0 h) (below-more num xs n m parts.1 h)
  where
    less : (a n m : ℕ) → nat_lt a n ≡ true → n ≤ m → nat_lt a m ≡ true
    less a n m e h = grind (arith, nat_tests)

pub filter-all : {X : Type 0} (p b : X → Bool) (xs : List X) → list_all b xs ≡ true → list_all b (filter p xs) ≡ true
filter-all p b [] all = refl
filter-all {X} p b (x ∷ xs) all =
    let parts = and_parts (b x) (list_all b xs) all in
    by (p x) parts.0 (filter-all p b xs parts.1)
  where
    by : (c : Bool) → b x ≡ true → list_all b (filter p xs) ≡ true → list_all b (cond c (x ∷ filter p xs) (filter p xs)) ≡ true
    by true h ih = both _ _ h ih
    by false h ih = ih

-- None follows, or one does.

pub data IsNextOne {X : Type 0} (num : X → ℕ) (n : ℕ) (xs : List X) : Type 0 where
  NoneMore : xs ≡ [] → IsNextOne num n xs
  OneMore : (x : X) → xs ≡ x ∷ [] → num x ≡ n → IsNextOne num n xs

from-end : {X : Type 0} (num : X → ℕ) (xs : List X) (k : ℕ) (x : X) → AreFrom k (map num xs) → num x ≡ k + length xs → AreFrom k (map num (xs ++ x ∷ []))
from-end num [] k x from e = (omega (arith, e), tt)
from-end num (y ∷ ys) k x from e = (from.0, from-end num ys (suc k) x from.1 (e ∙ omega arith))

pub from-next : {X : Type 0} (num : X → ℕ) (xs ys : List X) → AreFrom 1 (map num xs) → IsNextOne num (length xs + 1) ys → AreFrom 1 (map num (xs ++ ys))
from-next num xs ys from (NoneMore none) = rw none (rw (append-nil xs) from)
from-next num xs ys from (OneMore x one e) = rw one (from-end num xs 1 x from (e ∙ omega arith))

pub below-next : {X : Type 0} (num : X → ℕ) (xs ys : List X) (n m : ℕ) → list_all (λ x. nat_lt (num x) n) xs ≡ true → IsNextOne num n ys → n + length ys ≤ m → list_all (λ x. nat_lt (num x) m) (xs ++ ys) ≡ true
below-next num xs ys n m all (NoneMore none) h = rw none (rw (append-nil xs) (below-more num xs n m all (omega (arith, h))))
below-next num xs ys n m all (OneMore x one e) h =
    let more : n + 1 ≤ m = omega (arith, h, ap length one) in
    rw one (list_all-append (λ x. nat_lt (num x) m) xs (x ∷ []) ∙ both _ _ (below-more num xs n m all (omega (arith, more))) (both _ true (less (num x) n m e more) refl))
  where
    less : (a n m : ℕ) → a ≡ n → n + 1 ≤ m → nat_lt a m ≡ true
    less a n m e h = grind (arith, nat_tests)

-- The additions of a plan.

no-rooms : (qs : List RoomQuote) → rooms (map withdrawn qs) ≡ []
no-rooms [] = refl
no-rooms (q ∷ qs) = no-rooms qs

no-quotes : (qs : List RoomQuote) → quotes (map withdrawn qs) ≡ []
no-quotes [] = refl
no-quotes (q ∷ qs) = no-quotes qs

step-rooms : (facts : List Fact) (step : Step) → IsAllowed facts step → IsNextOne (λ (r : Room). r.number) (next_room facts) (rooms (facts_of facts step))
step-rooms facts Nothing h = NoneMore refl
step-rooms facts (Opens r) h = OneMore r refl h.0
step-rooms facts (Quotes id r q) h = NoneMore refl
step-rooms facts (Leaves maker t id) h = NoneMore (no-rooms (named_quotes facts maker t id))
step-rooms facts (Passes id q) h = NoneMore refl
step-rooms facts (Trades id q r trade) h = NoneMore refl

step-quotes : (facts : List Fact) (step : Step) → IsAllowed facts step → IsNextOne (λ (q : RoomQuote). q.number) (next_quote facts) (quotes (facts_of facts step))
step-quotes facts Nothing h = NoneMore refl
step-quotes facts (Opens r) h = NoneMore refl
step-quotes facts (Quotes id r q) h = OneMore q refl h.2
step-quotes facts (Leaves maker t id) h = NoneMore (no-quotes (named_quotes facts maker t id))
step-quotes facts (Passes id q) h = NoneMore refl
step-quotes facts (Trades id q r trade) h = NoneMore refl

pub plan-rooms : (from : Contents) (added : List Fact) → IsPlanOf from added → IsNextOne (λ (r : Room). r.number) (next_room from.facts) (rooms added)
plan-rooms from added plan = rw plan.made (step-rooms from.facts plan.step plan.allowed)

pub plan-quotes : (from : Contents) (added : List Fact) → IsPlanOf from added → IsNextOne (λ (q : RoomQuote). q.number) (next_quote from.facts) (quotes added)
plan-quotes from added plan = rw plan.made (step-quotes from.facts plan.step plan.allowed)

-- What is open or live after further facts was so before.

not-either : (a b : Bool) → not (a || b) ≡ true → not a ≡ true
not-either true b h = h
not-either false b h = refl

open-before : (facts added : List Fact) (t : ℕ) (o : OpenRoom) → is_still_open (facts ++ added) t o ≡ true → is_still_open facts t o ≡ true
open-before facts added t o h =
    let parts = and_parts (not (is_closed (facts ++ added) o.number)) (nat_le t o.end) h in
    both _ _ (not-either (is_closed facts o.number) (is_closed added o.number) (ap not (sym (list_any-append (closes o.number) facts added)) ∙ parts.0)) parts.1

twice-not : (b : Bool) → not (not b) ≡ true → b ≡ true
twice-not true h = refl
twice-not false h = h

apart : (n a b : ℕ) → nat_lt b n ≡ true → a ≡ n → a == b ≡ true → ⊥
apart n a b h e k = grind (arith, nat_tests)

still-last : (facts added : List Fact) (q : RoomQuote) → IsNextOne (λ (x : RoomQuote). x.number) (next_quote facts) (quotes added) → nat_lt q.number (next_quote facts) ≡ true → is_last q.number (option_or (last_quote added q.room q.maker) (last_quote facts q.room q.maker)) ≡ true → is_last q.number (last_quote facts q.room q.maker) ≡ true
still-last facts added q (NoneMore none) low h =
    let gone : last_quote added q.room q.maker ≡ None = ap (λ qs. find (λ (x : RoomQuote). x.room == q.room && x.maker == q.maker) (reverse qs)) none in
    ap (λ o. is_last q.number (option_or o (last_quote facts q.room q.maker))) (sym gone) ∙ h
still-last facts added q (OneMore x one e) low h = by (x.room == q.room && x.maker == q.maker) refl
  where
    here : last_quote added q.room q.maker ≡ cond (x.room == q.room && x.maker == q.maker) (Some x) None
    here = ap (λ qs. find (λ (x : RoomQuote). x.room == q.room && x.maker == q.maker) (reverse qs)) one

    by : (b : Bool) → (x.room == q.room && x.maker == q.maker) ≡ b → is_last q.number (last_quote facts q.room q.maker) ≡ true
    by true k = absurd (apart (next_quote facts) x.number q.number low e (ap (λ o. is_last q.number (option_or o (last_quote facts q.room q.maker))) (sym (here ∙ ap (λ b. cond b (Some x) None) k)) ∙ h))
    by false k = ap (λ o. is_last q.number (option_or o (last_quote facts q.room q.maker))) (sym (here ∙ ap (λ b. cond b (Some x) None) k)) ∙ h

live-before : (facts added : List Fact) (t : ℕ) → IsNextOne (λ (x : RoomQuote). x.number) (next_quote facts) (quotes added) → (q : RoomQuote) → nat_lt q.number (next_quote facts) ≡ true → is_live (facts ++ added) t q ≡ true → is_live facts t q ≡ true
live-before facts added t next q low h =
    let l = live-parts (facts ++ added) t q h in
    live-whole facts t q (record {
      last = ap (λ b. not (not b)) (still-last facts added q next low (ap (is_last q.number) (sym (last-both facts added q.room q.maker)) ∙ twice-not (is_last q.number (last_quote (facts ++ added) q.room q.maker)) l.last));
      kept = not-either (is_withdrawn facts q.number) (is_withdrawn added q.number) (ap not (sym (list_any-append (withdraws q.number) facts added)) ∙ l.kept);
      standing = not-either (is_closed facts q.room) (is_closed added q.room) (ap not (sym (list_any-append (closes q.room) facts added)) ∙ l.standing);
      timely = l.timely;
    })

-- What is kept after further facts.

pub open-added : (facts added : List Fact) (t : ℕ) (os : List OpenRoom) → filter (is_still_open facts t) os ≡ filter (is_still_open facts t) (map open_room (rooms facts)) → filter (is_still_open (facts ++ added) t) (os ++ map open_room (rooms added)) ≡ filter (is_still_open (facts ++ added) t) (map open_room (rooms (facts ++ added)))
open-added facts added t os same =
    both-more (is_still_open (facts ++ added) t) os (map open_room (rooms facts)) (map open_room (rooms added)) (stricter-same (is_still_open facts t) (is_still_open (facts ++ added) t) os (map open_room (rooms facts)) (open-before facts added t) same)
    ∙ ap (filter (is_still_open (facts ++ added) t)) (sym (ap (map open_room) (filter_map-append room_in facts added) ∙ map-append open_room (rooms facts) (rooms added)))

pub live-added : (facts added : List Fact) (t : ℕ) (live : List RoomQuote) → IsNextOne (λ (x : RoomQuote). x.number) (next_quote facts) (quotes added) → AreFrom 1 (map (λ (x : RoomQuote). x.number) (quotes facts)) → list_all (λ (x : RoomQuote). nat_lt x.number (next_quote facts)) live ≡ true → filter (is_live facts t) live ≡ filter (is_live facts t) (quotes facts) → filter (is_live (facts ++ added) t) (live ++ quotes added) ≡ filter (is_live (facts ++ added) t) (quotes (facts ++ added))
live-added facts added t live next from low same =
    both-more (is_live (facts ++ added) t) live (quotes facts) (quotes added)
    (stricter-under (is_live facts t) (is_live (facts ++ added) t) (λ (x : RoomQuote). nat_lt x.number (next_quote facts)) live (quotes facts) low (from-below (λ (x : RoomQuote). x.number) (quotes facts) 1 (next_quote facts) from (omega arith)) (live-before facts added t next) same)
    ∙ ap (filter (is_live (facts ++ added) t)) (sym (filter_map-append quote_in facts added))

pub next-added : (facts added : List Fact) → next_quote facts + length (quotes added) ≡ next_quote (facts ++ added)
next-added facts added = let whole : length (quotes (facts ++ added)) ≡ length (quotes facts) + length (quotes added) = ap length (filter_map-append quote_in facts added) ∙ length-append (quotes facts) (quotes added) in omega (arith, whole)

-- facts about an Ok

pub ok-also : {X E : Type 0} (P Q : X → Type 0) (r : Result X E) → ((x : X) → P x → Q x) → IfOk r P → IfOk r Q
ok-also P Q (Ok x) so h = so x h
ok-also P Q (Err e) so h = tt
