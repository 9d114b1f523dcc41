use Rattle.std.proofs.Common.{◌≡◌, refl, sym, ap, ◌∙◌, subst, ℕ, ◌+◌, ◌≤◌, ◌==◌, Bool, true, false, ◌||◌, List, [], ◌∷◌, ◌++◌, map, length, append-nil, append_assoc, filter_map, length-append, Option, Some, is_some, arith, eq-eqb}
use Rattle.std.specs.List.{list_any}
use Rattle.std.proofs.lemmas.Bool.{eqb-true, false_from_ne_true, or_left}
use Rattle.std.proofs.lemmas.List.Elements.{filter_map-append}
use Rattle.std.proofs.lemmas.List.Folds.{list_any-append}
use Rattle.venue_rules.specs.declared.facts.Fact.{Fact}
use Rattle.venue_rules.specs.declared.facts.Fact.TheVariants.{Entered, Traded, Removed, Held, Unheld, Asked, Quoted, Withdrawn, Closed}
use Rattle.venue_rules.specs.declared.facts.Room.{Room}
use Rattle.venue_rules.specs.declared.facts.RoomQuote.{RoomQuote}
use Rattle.venue_rules.specs.Facts.{quote_in, quotes, room_in, rooms}
use Rattle.venue_rules.specs.Rooms.{find_room, room_by_number}
use Rattle.rfq_room.specs.Contents.{Contents}
use Rattle.rfq_room.specs.Named.{named_quotes}
use Rattle.rfq_room.specs.Plans.{withdrawn}
use Rattle.rfq_room.specs.Steps.{IsAllowed, IsPlanOf, Step, Nothing, Opens, Quotes, Leaves, Passes, Trades, facts_of}
use Rattle.trade_history.specs.Numbered.{AreNext, AreNumbered, IsNext}
use Rattle.trade_history.proofs.Lists.{either, found-also, found-any}

-- Facts that follow others, appended.

pub next-both : (before fs gs : List Fact) → AreNext before fs → AreNext (before ++ fs) gs → AreNext before (fs ++ gs)
next-both before [] gs a b = subst (λ (hs : List Fact). AreNext hs gs) (append-nil before) b
next-both before (f ∷ fs) gs a b = (a.0, next-both (before ++ f ∷ []) fs gs a.1 (subst (λ (hs : List Fact). AreNext hs gs) (sym (append_assoc before (f ∷ []) fs)) b))

pub next-first : (before fs gs : List Fact) → AreNext before (fs ++ gs) → AreNext before fs
next-first before [] gs a = tt
next-first before (f ∷ fs) gs a = (a.0, next-first (before ++ f ∷ []) fs gs a.1)

pub next-rest : (before fs gs : List Fact) → AreNext before (fs ++ gs) → AreNext (before ++ fs) gs
next-rest before [] gs a = subst (λ (hs : List Fact). AreNext hs gs) (sym (append-nil before)) a
next-rest before (f ∷ fs) gs a = subst (λ (hs : List Fact). AreNext hs gs) (append_assoc before (f ∷ []) fs) (next-rest (before ++ f ∷ []) fs gs a.1)

-- The facts of a step have the next numbers.

withdrawn-next : (before : List Fact) (qs : List RoomQuote) → AreNext before (map withdrawn qs)
withdrawn-next before [] = tt
withdrawn-next before (q ∷ qs) = (tt, withdrawn-next (before ++ withdrawn q ∷ []) qs)

-- a room found by its identifier is found by its number
by-number : (facts : List Fact) (id : List ℕ) (r : Room) (n : ℕ) → find_room facts id ≡ Some r → n ≡ r.number → is_some (room_by_number facts n) ≡ true
by-number facts id r n h e = found-any (λ (x : Room). x.number == n) (rooms facts) ∙ found-also _ (λ (x : Room). x.number == n) (rooms facts) r h (eq-eqb r.number n (sym e))

step-next : (facts : List Fact) (s : Step) → IsAllowed facts s → AreNext facts (facts_of facts s)
step-next facts Nothing a = tt
step-next facts (Opens r) a = (a.0, tt)
step-next facts (Quotes id r q) a = ((a.2, by-number facts id r q.room a.0 a.1), tt)
step-next facts (Leaves maker t id) a = withdrawn-next facts (named_quotes facts maker t id)
step-next facts (Passes id q) a = (tt, tt)
step-next facts (Trades id q r trade) a = (tt, (tt, tt))

pub plan-next : (rooms : Contents) (added : List Fact) → AreNumbered rooms.facts → IsPlanOf rooms added → AreNumbered (rooms.facts ++ added)
plan-next rooms added a p = next-both [] rooms.facts added a (subst (AreNext rooms.facts) (sym p.made) (step-next rooms.facts p.step p.allowed))

-- An added quote comes alone.

quote-alone : (facts : List Fact) (s : Step) (q : RoomQuote) (more : List Fact) → Quoted q ∷ more ≡ facts_of facts s → more ≡ []
quote-alone facts Nothing q more h = cc
quote-alone facts (Opens r) q more h = cc
quote-alone facts (Quotes id r q') q more h = cc
quote-alone facts (Leaves maker t id) q more h = none-withdrawn (named_quotes facts maker t id) q more h
  where
    none-withdrawn : (qs : List RoomQuote) (q : RoomQuote) (more : List Fact) → Quoted q ∷ more ≡ map withdrawn qs → more ≡ []
    none-withdrawn [] q more h = cc
    none-withdrawn (x ∷ qs) q more h = cc
quote-alone facts (Passes id q') q more h = cc
quote-alone facts (Trades id q' r trade) q more h = cc

pub plan-alone : (rooms : Contents) (q : RoomQuote) (more : List Fact) → IsPlanOf rooms (Quoted q ∷ more) → more ≡ []
plan-alone rooms q more p = quote-alone rooms.facts p.step q more p.made

-- a quote with the next number is in a room that was asked for
quote-asked : (facts : List Fact) (q : RoomQuote) (more added : List Fact) → Quoted q ∷ more ≡ added → AreNext facts added → is_some (room_by_number facts q.room) ≡ true
quote-asked facts q more added e a = let b : AreNext facts (Quoted q ∷ more) = subst (AreNext facts) (sym e) a in b.0.1

pub plan-asked : (rooms : Contents) (q : RoomQuote) (more : List Fact) → IsPlanOf rooms (Quoted q ∷ more) → is_some (room_by_number rooms.facts q.room) ≡ true
plan-asked rooms q more p = quote-asked rooms.facts q more (facts_of rooms.facts p.step) p.made (step-next rooms.facts p.step p.allowed)

withdrawn-quotes : (qs : List RoomQuote) → quotes (map withdrawn qs) ≡ []
withdrawn-quotes [] = refl
withdrawn-quotes (q ∷ qs) = withdrawn-quotes qs

-- no quote comes after the first fact of a step
abbrev rest_of : List Fact → List Fact
rest_of [] = []
rest_of (f ∷ fs) = fs

step-first : (facts : List Fact) (s : Step) → quotes (rest_of (facts_of facts s)) ≡ []
step-first facts Nothing = refl
step-first facts (Opens r) = refl
step-first facts (Quotes id r q) = refl
step-first facts (Leaves maker t id) = rest-withdrawn (named_quotes facts maker t id)
  where
    rest-withdrawn : (qs : List RoomQuote) → quotes (rest_of (map withdrawn qs)) ≡ []
    rest-withdrawn [] = refl
    rest-withdrawn (q ∷ qs) = withdrawn-quotes qs
step-first facts (Passes id q) = refl
step-first facts (Trades id q r trade) = refl

pub plan-first : (rooms : Contents) (f : Fact) (more : List Fact) → IsPlanOf rooms (f ∷ more) → quotes (f ∷ more) ≡ quotes (f ∷ [])
plan-first rooms f more p =
    filter_map-append quote_in (f ∷ []) more
    ∙ ap (λ qs. quotes (f ∷ []) ++ qs) (ap (λ fs. quotes (rest_of fs)) p.made ∙ step-first rooms.facts p.step)
    ∙ append-nil (quotes (f ∷ []))

-- With numbered facts, a room with a quote exists.

abbrev HaveRooms : List Fact → Type 0
HaveRooms facts = (n : ℕ) → list_any (λ (q : RoomQuote). q.room == n) (quotes facts) ≡ true → list_any (λ (r : Room). r.number == n) (rooms facts) ≡ true

last-room : (before : List Fact) (f : Fact) (n : ℕ) → IsNext before f → list_any (λ (q : RoomQuote). q.room == n) (quotes (f ∷ [])) ≡ true → list_any (λ (r : Room). r.number == n) (rooms before) ≡ true
last-room before (Quoted q) n a h =
    let e : q.room ≡ n = either (q.room == n) false h (eqb-true q.room n) (λ k. cc) in
    subst (λ (m : ℕ). list_any (λ (r : Room). r.number == m) (rooms before) ≡ true) e (sym (found-any (λ (r : Room). r.number == q.room) (rooms before)) ∙ a.1)
last-room before (Entered e) n a h = cc
last-room before (Traded t) n a h = cc
last-room before (Removed r) n a h = cc
last-room before (Held s) n a h = cc
last-room before (Unheld u) n a h = cc
last-room before (Asked r) n a h = cc
last-room before (Withdrawn w) n a h = cc
last-room before (Closed c) n a h = cc

-- one of the facts so far and a further one
one-of : {X : Type 0} (kind : Fact → Option X) (p : X → Bool) (before : List Fact) (f : Fact) → list_any p (filter_map kind (before ++ f ∷ [])) ≡ (list_any p (filter_map kind before) || list_any p (filter_map kind (f ∷ [])))
one-of kind p before f = ap (list_any p) (filter_map-append kind before (f ∷ [])) ∙ list_any-append p (filter_map kind before) (filter_map kind (f ∷ []))

room-kept : (before : List Fact) (f : Fact) → HaveRooms before → IsNext before f → HaveRooms (before ++ f ∷ [])
room-kept before f h a = λ n k.
    one-of room_in (λ (r : Room). r.number == n) before f
    ∙ or_left (list_any (λ (r : Room). r.number == n) (rooms before)) (list_any (λ (r : Room). r.number == n) (rooms (f ∷ [])))
    (either (list_any (λ (q : RoomQuote). q.room == n) (quotes before)) (list_any (λ (q : RoomQuote). q.room == n) (quotes (f ∷ []))) (sym (one-of quote_in (λ (q : RoomQuote). q.room == n) before f) ∙ k) (h n) (last-room before f n a))

rooms-kept : (before fs : List Fact) → HaveRooms before → AreNext before fs → HaveRooms (before ++ fs)
rooms-kept before [] h a = subst HaveRooms (sym (append-nil before)) h
rooms-kept before (f ∷ fs) h a = subst HaveRooms (append_assoc before (f ∷ []) fs) (rooms-kept (before ++ f ∷ []) fs (room-kept before f h a.0) a.1)

pub have-rooms : (facts : List Fact) → AreNumbered facts → HaveRooms facts
have-rooms facts a = rooms-kept [] facts (λ n h. cc) a

-- No quote's number exceeds their count, so the next quote's is new.

abbrev AreCounted : List Fact → Type 0
AreCounted facts = (n : ℕ) → list_any (λ (q : RoomQuote). q.number == n) (quotes facts) ≡ true → n ≤ length (quotes facts)

last-number : (before : List Fact) (f : Fact) (n : ℕ) → IsNext before f → list_any (λ (q : RoomQuote). q.number == n) (quotes (f ∷ [])) ≡ true → n ≤ length (quotes before) + length (quotes (f ∷ []))
last-number before (Quoted q) n a h =
    let e : q.number ≡ n = either (q.number == n) false h (eqb-true q.number n) (λ k. cc) in
    let k : q.number ≡ length (quotes before) + 1 = a.0 in
    omega arith
last-number before (Entered e) n a h = cc
last-number before (Traded t) n a h = cc
last-number before (Removed r) n a h = cc
last-number before (Held s) n a h = cc
last-number before (Unheld u) n a h = cc
last-number before (Asked r) n a h = cc
last-number before (Withdrawn w) n a h = cc
last-number before (Closed c) n a h = cc

count-kept : (before : List Fact) (f : Fact) → AreCounted before → IsNext before f → AreCounted (before ++ f ∷ [])
count-kept before f h a = λ n k.
    let l : length (quotes (before ++ f ∷ [])) ≡ length (quotes before) + length (quotes (f ∷ [])) = ap length (filter_map-append quote_in before (f ∷ [])) ∙ length-append (quotes before) (quotes (f ∷ [])) in
    let m : n ≤ length (quotes before) + length (quotes (f ∷ [])) = either (list_any (λ (q : RoomQuote). q.number == n) (quotes before)) (list_any (λ (q : RoomQuote). q.number == n) (quotes (f ∷ []))) (sym (one-of quote_in (λ (q : RoomQuote). q.number == n) before f) ∙ k) (λ e. wider n (length (quotes before)) (length (quotes (f ∷ []))) (h n e)) (last-number before f n a) in
    rw l m
  where
    wider : (n a b : ℕ) → n ≤ a → n ≤ a + b
    wider n a b h = omega arith

counts-kept : (before fs : List Fact) → AreCounted before → AreNext before fs → AreCounted (before ++ fs)
counts-kept before [] h a = subst AreCounted (sym (append-nil before)) h
counts-kept before (f ∷ fs) h a = subst AreCounted (append_assoc before (f ∷ []) fs) (counts-kept (before ++ f ∷ []) fs (count-kept before f h a.0) a.1)

pub is-new : (facts : List Fact) (q : RoomQuote) → AreNumbered (facts ++ Quoted q ∷ []) → list_any (λ (x : RoomQuote). x.number == q.number) (quotes facts) ≡ false
is-new facts q a =
    let b : AreNext facts (Quoted q ∷ []) = next-rest [] facts (Quoted q ∷ []) a in
    false_from_ne_true (list_any (λ (x : RoomQuote). x.number == q.number) (quotes facts)) (λ h. past q.number (length (quotes facts)) (counts-kept [] facts (λ n k. cc) (next-first [] facts (Quoted q ∷ []) a) q.number h) b.0.0)
  where
    past : (n k : ℕ) → n ≤ k → n ≡ k + 1 → ⊥
    past n k h e = omega arith
