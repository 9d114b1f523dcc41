use Rattle.std.proofs.Common.{◌≡◌, refl, sym, ap, subst, ◌∙◌, ℕ, suc, ◌+◌, ◌≤◌, Bool, true, false, cond, List, [], ◌∷◌, map, length, find, filter_map, Option, Some, None, is_some, All, bytes_eq, ◌==◌, ◌&&◌, arith}
use Rattle.std.proofs.lemmas.List.Elements.{All-cons, All-filter, All-head, All-map, All-nil, All-tail, All-weaker}
use Rattle.std.proofs.lemmas.List.Recursion.{is_count_by}
use Rattle.std.specs.List.{cons_option, count_by}
use Rattle.venue_rules.specs.declared.facts.Fact.{Fact}
use Rattle.venue_rules.specs.declared.facts.Fact.TheVariants.{Asked, Quoted, Traded, Closed}
use Rattle.venue_rules.specs.declared.facts.Room.{Room}
use Rattle.venue_rules.specs.declared.facts.RoomQuote.{RoomQuote}
use Rattle.venue_rules.specs.declared.facts.Trade.{Trade}
use Rattle.venue_rules.specs.Facts.{quote_in, quotes, room_in, rooms}
use Rattle.venue_rules.specs.Rooms.{is_live, live_quotes, printed}
use Rattle.rfq_room.specs.declared.room_index.FlagKind.{FlagKind}
use Rattle.rfq_room.specs.declared.room_index.FlagKind.TheVariants as flag
use Rattle.rfq_room.specs.Contents.{Contents}
use Rattle.rfq_room.specs.Flags.{IsWithin}
use Rattle.rfq_room.specs.Flagged.{AreThere, IsThere, count_of}
use Rattle.rfq_room.specs.Named.{named_quotes, room_with}
use Rattle.rfq_room.specs.Numbered.{AreFrom}
use Rattle.rfq_room.specs.Plans.{withdrawn}
use Rattle.rfq_room.specs.Steps.{IsAllowed, IsPlanOf, Leaves, Nothing, Opens, Passes, Quotes, Step, Trades, facts_of}

-- a found element is one of the list

found : {X : Type 0} (P : X → Type 0) (p : X → Bool) (xs : List X) (x : X) → All P xs → find p xs ≡ Some x → P x
found P p [] x all h = cc
found {X} P p (y ∷ ys) x all h = by (p y) (found P p ys x (All-tail P y ys all)) h
  where
    by : (b : Bool) → (find p ys ≡ Some x → P x) → cond b (Some y) (find p ys) ≡ Some x → P x
    by true rest h = let same : y ≡ x = cc in subst P same (All-head P y ys all)
    by false rest h = rest h

-- the numbers that facts give are at most their count

counted : {X : Type 0} (kind : Fact → Option X) (facts : List Fact) → length (filter_map kind facts) ≡ count_by (λ f. is_some (kind f)) facts
counted {X} kind = is_count_by (λ fs. length (filter_map kind fs)) (λ f. is_some (kind f)) refl (λ f fs. by (kind f) (filter_map kind fs))
  where
    by : (x : Option X) (xs : List X) → length (cons_option x xs) ≡ cond (is_some x) (1 + length xs) (length xs)
    by None xs = refl
    by (Some x) xs = omega arith

up-to : {X : Type 0} (num : X → ℕ) (xs : List X) (k count : ℕ) → AreFrom (suc k) (map num xs) → k + length xs ≤ count → All (λ x. IsWithin count (num x)) xs
up-to num [] k count from h = All-nil (λ x. IsWithin count (num x))
up-to num (x ∷ xs) k count from h =
    let first : num x ≡ suc k = from.0 in
    All-cons (λ x. IsWithin count (num x)) x xs (omega (arith, first), omega (arith, first, h)) (up-to num xs (suc k) count from.1 (omega (arith, h)))

-- what each step flags exists

one : (P : Fact → Type 0) (f : Fact) → P f → All P (f ∷ [])
one P f h = All-cons P f [] h (All-nil P)

asked-there : (count : ℕ) (r : Room) (m : FlagKind) → IsThere count m (Asked r)
asked-there count r flag.Traded = tt
asked-there count r flag.Withdrawn = tt
asked-there count r flag.Quoted = tt

quoted-there : (facts : List Fact) (q : RoomQuote) → IsWithin (count_of flag.Quoted facts) q.room → (m : FlagKind) → IsThere (count_of m facts) m (Quoted q)
quoted-there facts q h flag.Traded = tt
quoted-there facts q h flag.Withdrawn = tt
quoted-there facts q h flag.Quoted = h

withdrawn-there : (facts : List Fact) (q : RoomQuote) → IsWithin (count_of flag.Withdrawn facts) q.number → (m : FlagKind) → IsThere (count_of m facts) m (withdrawn q)
withdrawn-there facts q h flag.Traded = tt
withdrawn-there facts q h flag.Withdrawn = h
withdrawn-there facts q h flag.Quoted = tt

traded-there : (count : ℕ) (trade : Trade) (m : FlagKind) → IsThere count m (Traded trade)
traded-there count trade flag.Traded = tt
traded-there count trade flag.Withdrawn = tt
traded-there count trade flag.Quoted = tt

closed-there : (facts : List Fact) (number : ℕ) → IsWithin (count_of flag.Traded facts) number → (m : FlagKind) → IsThere (count_of m facts) m (Closed (record { room = number }))
closed-there facts number h flag.Traded = h
closed-there facts number h flag.Withdrawn = tt
closed-there facts number h flag.Quoted = tt

named-all : (P : RoomQuote → Type 0) (facts : List Fact) (maker t : ℕ) (id : Option (List ℕ)) → All P (quotes facts) → All P (named_quotes facts maker t id)
named-all P facts maker t None all = All-filter (λ q. q.maker == maker && is_live facts t q) P (quotes facts) all
named-all P facts maker t (Some id) all = All-filter (λ q. bytes_eq q.id id) P (live_quotes facts maker t) (All-filter (λ q. q.maker == maker && is_live facts t q) P (quotes facts) all)

abbrev AreRooms : List Fact → Type 0
AreRooms facts = All (λ (r : Room). IsWithin (count_of flag.Traded facts) r.number) (rooms facts)

abbrev AreQuotes : List Fact → Type 0
AreQuotes facts = All (λ (q : RoomQuote). IsWithin (count_of flag.Withdrawn facts) q.number) (quotes facts)

step-there : (facts : List Fact) (step : Step) → AreRooms facts → AreQuotes facts → IsAllowed facts step → AreThere facts (facts_of facts step)
step-there facts Nothing rs qs h m = All-nil (IsThere (count_of m facts) m)
step-there facts (Opens r) rs qs h m = one (IsThere (count_of m facts) m) (Asked r) (asked-there (count_of m facts) r m)
step-there facts (Quotes id r q) rs qs h m =
    let P : ℕ → Type 0 = IsWithin (count_of flag.Quoted facts) in
    let number : P r.number = found (λ (x : Room). P x.number) (λ (x : Room). bytes_eq (printed 82 x.number) id) (rooms facts) r rs h.0 in
    one (IsThere (count_of m facts) m) (Quoted q) (quoted-there facts q (subst P (sym h.1) number) m)
step-there facts (Leaves maker t id) rs qs h m =
    let P : RoomQuote → Type 0 = λ q. IsWithin (count_of flag.Withdrawn facts) q.number in
    let named = named_quotes facts maker t id in
    All-map (IsThere (count_of m facts) m) withdrawn named (All-weaker P (λ q. IsThere (count_of m facts) m (withdrawn q)) (λ q k. withdrawn-there facts q k m) named (named-all P facts maker t id qs))
step-there facts (Passes id q) rs qs h m =
    let P : RoomQuote → Type 0 = λ q. IsWithin (count_of flag.Withdrawn facts) q.number in
    one (IsThere (count_of m facts) m) (withdrawn q) (withdrawn-there facts q (found P (λ (x : RoomQuote). bytes_eq (printed 81 x.number) id) (quotes facts) q qs h) m)
step-there facts (Trades id q r trade) rs qs h m =
    let P : Room → Type 0 = λ r. IsWithin (count_of flag.Traded facts) r.number in
    let number : P r = found P (λ (x : Room). x.number == q.room) (rooms facts) r rs (ap (room_with facts) (sym h.0) ∙ h.1) in
    let closed : Fact = Closed (record { room = r.number }) in
    All-cons (IsThere (count_of m facts) m) (Traded trade) (closed ∷ []) (traded-there (count_of m facts) trade m) (one (IsThere (count_of m facts) m) closed (closed-there facts r.number number m))

-- a planned step flags existing rooms and quotes
pub plan-there : (from : Contents) (added : List Fact) → AreFrom 1 (map (λ r. r.number) (rooms from.facts)) → AreFrom 1 (map (λ q. q.number) (quotes from.facts)) → IsPlanOf from added → AreThere from.facts added
plan-there from added rs qs plan =
    let facts = from.facts in
    let all_rooms = up-to (λ (r : Room). r.number) (rooms facts) 0 (count_of flag.Traded facts) rs (omega (arith, counted room_in facts)) in
    let all_quotes = up-to (λ (q : RoomQuote). q.number) (quotes facts) 0 (count_of flag.Withdrawn facts) qs (omega (arith, counted quote_in facts)) in
    rw plan.made (step-there facts plan.step all_rooms all_quotes plan.allowed)
