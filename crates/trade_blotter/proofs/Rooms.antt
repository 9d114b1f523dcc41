-- The room of a room trade is found, and its first quote.
use Rattle.std.proofs.Common.{◌≡◌, refl, sym, ap, subst, ◌∙◌, ◌⊎◌, inl, inr, ℕ, zero, suc, ◌+◌, ◌<◌, ◌==◌, Bool, true, false, cond, not, List, [], ◌∷◌, ◌++◌, map, length, filter_map, find, slice_get, slice_index_or, Contains, Option, Some, None, eq-eqb, ne_eqb, append_assoc, arith}
use Rattle.std.specs.Prelude.{take, take_while}
use Rattle.std.specs.List.{cons_option, enumerate_from, prefix_len}
use Rattle.std.proofs.lemmas.List.Elements.{filter_map-append}
use Rattle.csv.specs.Writing.{row_text}
use Rattle.venue_rules.specs.declared.facts.Fact.{Fact}
use Rattle.venue_rules.specs.declared.facts.Fact.TheVariants as fact
use Rattle.venue_rules.specs.declared.facts.TradeSource.{TradeSource}
use Rattle.venue_rules.specs.declared.facts.TradeSource.TheVariants.{Book as InBook, Room as InRoom}
use Rattle.venue_rules.specs.declared.facts.Room.{Room}
use Rattle.venue_rules.specs.declared.facts.RoomQuote.{RoomQuote}
use Rattle.venue_rules.specs.declared.facts.Trade.{Trade}
use Rattle.venue_rules.specs.declared.trail.RoomFact.{RoomFact}
use Rattle.venue_rules.specs.declared.trail.TradeFact.{TradeFact}
use Rattle.venue_rules.specs.Facts.{History, quote_in, quotes, room_in, rooms, trades}
use Rattle.venue_rules.specs.Lawful.{HappenedAfter, NumbersArePlaces}
use Rattle.venue_rules.specs.Market.{Market}
use Rattle.venue_rules.specs.Readings.{before_quote, is_quote, room_fact, room_fact_of, room_of, trade_fact, trade_facts}
use Rattle.venue_rules.specs.Rooms.{first_quote, room_by_number}
use Rattle.venue_rules.specs.RoomTrades.{RoomTradesAreLawful}
use Rattle.venue_rules.specs.Run.{Input, run}
use Rattle.trade_blotter.specs.Laws.{EmitsRoom, with_first}
use Rattle.trade_blotter.specs.Line.{line_in, room_line, room_emitted, trade_line}
use Rattle.trade_blotter.specs.Table.{deal_fields, place_fields, setup, trade_row}

none_is_some : {A : Type 0} (a : A) → None ≡ Some a → ⊥
none_is_some a e = cc

same_some : {A : Type 0} (a b : A) → Some a ≡ Some b → a ≡ b
same_some a b e = cc

-- x is in the list
abbrev In : {X : Type 0} → X → List X → Type 0
In x [] = ⊥
In x (y ∷ ys) = (y ≡ x) ⊎ In x ys

in_at : {X : Type 0} (xs : List X) (x : X) (k : ℕ) → k < length xs → slice_index_or xs k x ≡ x → In x xs
in_at [] x k lt e = absurd (omega (arith, lt))
in_at (y ∷ ys) x zero lt e = inl e
in_at (y ∷ ys) x (suc k) lt e = inr (in_at ys x k (omega (arith, lt)) e)

In-from_Contains : {X : Type 0} (xs : List X) (x : X) → Contains xs x → In x xs
In-from_Contains xs x c = in_at xs x c.0 c.1 c.2

Contains-from_In : {X : Type 0} (xs : List X) (x : X) → In x xs → Contains xs x
Contains-from_In [] x i = absurd i
Contains-from_In (y ∷ ys) x (inl e) = (0, omega arith, e)
Contains-from_In (y ∷ ys) x (inr i) = let c : Contains ys x = Contains-from_In ys x i in (suc c.0, omega (arith, c.1), c.2)

In-append_left : {X : Type 0} (xs ys : List X) (x : X) → In x xs → In x (xs ++ ys)
In-append_left [] ys x i = absurd i
In-append_left (z ∷ zs) ys x (inl e) = inl e
In-append_left (z ∷ zs) ys x (inr i) = inr (In-append_left zs ys x i)

In-after : {X : Type 0} (xs ys : List X) (x : X) → In x (xs ++ x ∷ ys)
In-after [] ys x = inl refl
In-after (z ∷ zs) ys x = inr (In-after zs ys x)

In-cons_option : {Y : Type 0} (o : Option Y) (ys : List Y) (y : Y) → In y ys → In y (cons_option o ys)
In-cons_option None ys y i = i
In-cons_option (Some w) ys y i = inr i

In-filter_map : {X Y : Type 0} (h : X → Option Y) (xs : List X) (x : X) (y : Y) → In x xs → h x ≡ Some y → In y (filter_map h xs)
In-filter_map h [] x y i e = absurd i
In-filter_map h (z ∷ zs) x y (inl same) e = subst (λ o. In y (cons_option o (filter_map h zs))) (sym (ap h same ∙ e)) (inl refl)
In-filter_map h (z ∷ zs) x y (inr i) e = In-cons_option (h z) (filter_map h zs) y (In-filter_map h zs x y i e)

found_first : {X : Type 0} (p : X → Bool) (x : X) (xs : List X) → p x ≡ true → find p (x ∷ xs) ≡ Some x
found_first p x xs h = ap (λ (b : Bool). cond b (Some x) (find p xs)) h

found_later : {X : Type 0} (p : X → Bool) (x : X) (xs : List X) → p x ≡ false → find p (x ∷ xs) ≡ find p xs
found_later p x xs h = ap (λ (b : Bool). cond b (Some x) (find p xs)) h

found_behind : {X : Type 0} (p : X → Bool) (xs ys : List X) → find p xs ≡ None → find p (xs ++ ys) ≡ find p ys
found_behind p [] ys h = refl
found_behind p (z ∷ zs) ys h = (elim (p z) as (λ b. cond b (Some z) (find p zs) ≡ None → cond b (Some z) (find p (zs ++ ys)) ≡ find p ys) [ true ↦ λ k. absurd (none_is_some z (sym k)) | false ↦ found_behind p zs ys ]) h

-- Things numbered by their places, from n + 1 on.

abbrev Places : {X : Type 0} → (X → ℕ) → ℕ → List X → Type 0
Places num n [] = Unit {0}
Places num n (x ∷ xs) = (num x ≡ n + 1) × Places num (n + 1) xs

above : {X : Type 0} (num : X → ℕ) (n : ℕ) (xs : List X) → Places num n xs → (x : X) → In x xs → n < num x
above num n [] p x i = absurd i
above num n (y ∷ ys) p x (inl same) = let e : num x ≡ n + 1 = ap num (sym same) ∙ p.0 in omega (arith, e)
above num n (y ∷ ys) p x (inr i) = let lt : n + 1 < num x = above num (n + 1) ys p.1 x i in omega (arith, lt)

-- elements before another have other numbers
apart : {X : Type 0} (num : X → ℕ) (n : ℕ) (xs ys : List X) (x : X) → Places num n (xs ++ x ∷ ys) → (y : X) → In y xs → num y ≡ num x → ⊥
apart num n [] ys x p y i e = absurd i
apart num n (z ∷ zs) ys x p y (inl same) e = not_above (num y) (num x) (ap num (sym same) ∙ p.0) (above num (n + 1) (zs ++ x ∷ ys) p.1 x (In-after zs ys x)) e
  where
    not_above : (a b : ℕ) → a ≡ n + 1 → n + 1 < b → a ≡ b → ⊥
    not_above a b k l s = omega (arith, k, l, s)
apart num n (z ∷ zs) ys x p y (inr i) e = apart num (n + 1) zs ys x p.1 y i e

found_numbered : {X : Type 0} (num : X → ℕ) (n : ℕ) (xs : List X) → Places num n xs → (x : X) → In x xs → find (λ y. num y == num x) xs ≡ Some x
found_numbered num n [] p x i = absurd i
found_numbered num n (y ∷ ys) p x (inl same) = found_first (λ z. num z == num x) y ys (eq-eqb (num y) (num x) (ap num same)) ∙ ap Some same
found_numbered num n (y ∷ ys) p x (inr i) =
    found_later (λ z. num z == num x) y ys (ne_eqb (num y) (num x) (λ e. not_above (num y) (num x) p.0 (above num (n + 1) ys p.1 x i) e)) ∙ found_numbered num (n + 1) ys p.1 x i
  where
    not_above : (a b : ℕ) → a ≡ n + 1 → n + 1 < b → a ≡ b → ⊥
    not_above a b k l e = omega (arith, k, l, e)

in_places : {X : Type 0} (num : X → ℕ) (n : ℕ) (xs : List X) → ((k : ℕ) (x : X) → slice_get xs k ≡ Some x → num x ≡ n + k + 1) → Places num n xs
in_places num n [] h = tt
in_places num n (x ∷ xs) h = (h 0 x refl ∙ here n, in_places num (n + 1) xs (λ k y e. h (suc k) y e ∙ next n k))
  where
    here : (a : ℕ) → a + 0 + 1 ≡ a + 1
    here a = omega arith

    next : (a k : ℕ) → a + suc k + 1 ≡ a + 1 + k + 1
    next a k = omega arith

from_zero : (k : ℕ) → k + 1 ≡ 0 + k + 1
from_zero k = omega arith

-- The trade.

-- what is read back of a trade has its room
read_from : (ts : List Trade) (n : ℕ) (t : TradeFact) → In t (map (λ p. trade_fact p.0 p.1) (enumerate_from n ts)) → (x : Trade) × In x ts × (room_of x.place ≡ t.room)
read_from [] n t i = absurd i
read_from (x ∷ xs) n t (inl same) = (x, inl refl, ap (λ (y : TradeFact). y.room) same)
read_from (x ∷ xs) n t (inr i) = let k = read_from xs (n + 1) t i in (k.0, inr k.1, k.2)

in_room : (place : TradeSource) (room : ℕ) → room_of place ≡ Some room → (quote : ℕ) × (place ≡ InRoom room quote)
in_room (InBook old new) room e = absurd (none_is_some room e)
in_room (InRoom r quote) room e = (quote, ap (λ (x : ℕ). InRoom x quote) (same_some r room e))

-- a trade came after some of the facts
record Happened (facts : List Fact) (x : Trade) : Type 0 where
  before : List Fact
  follows : HappenedAfter facts before (fact.Traded x)

behind : (f : Fact) (fs : List Fact) (x : Trade) → Happened fs x → Happened (f ∷ fs) x
behind f fs x p = record { before = f ∷ p.before; follows = (p.follows.0, ap (λ (l : List Fact). f ∷ l) p.follows.1) }

happened : (facts : List Fact) (x : Trade) → In x (trades facts) → Happened facts x
happened [] x i = absurd i
happened (fact.Traded y ∷ fs) x (inl same) = record { before = []; follows = (fs, ap (λ (z : Trade). fact.Traded z ∷ fs) same) }
happened (fact.Traded y ∷ fs) x (inr i) = behind (fact.Traded y) fs x (happened fs x i)
happened (fact.Entered y ∷ fs) x i = behind (fact.Entered y) fs x (happened fs x i)
happened (fact.Removed y ∷ fs) x i = behind (fact.Removed y) fs x (happened fs x i)
happened (fact.Held y ∷ fs) x i = behind (fact.Held y) fs x (happened fs x i)
happened (fact.Unheld y ∷ fs) x i = behind (fact.Unheld y) fs x (happened fs x i)
happened (fact.Asked y ∷ fs) x i = behind (fact.Asked y) fs x (happened fs x i)
happened (fact.Quoted y ∷ fs) x i = behind (fact.Quoted y) fs x (happened fs x i)
happened (fact.Withdrawn y ∷ fs) x i = behind (fact.Withdrawn y) fs x (happened fs x i)
happened (fact.Closed y ∷ fs) x i = behind (fact.Closed y) fs x (happened fs x i)

-- The facts before a quote.

taken : (p : Fact → Bool) (before later : List Fact) (f : Fact) → ((g : Fact) → In g before → p g ≡ true) → p f ≡ false → take_while p (before ++ f ∷ later) ≡ before
taken p [] later f each last = ap (λ (b : Bool). take (cond b (1 + prefix_len p later) 0) (f ∷ later)) last
taken p (g ∷ gs) later f each last =
    let rest = gs ++ f ∷ later in
    ap (λ (b : Bool). take (cond b (1 + prefix_len p rest) 0) (g ∷ rest)) (each g (inl refl))
    ∙ (ap (λ (k : ℕ). take k (g ∷ rest)) (one_more (prefix_len p rest)) ∙ ap (λ (l : List Fact). g ∷ l) (taken p gs later f (λ x i. each x (inr i)) last))
  where
    one_more : (k : ℕ) → 1 + k ≡ suc k
    one_more k = omega arith

-- no fact of these is a quote of a number that no quote of theirs has
no_quote : (number : ℕ) (fs : List Fact) → ((q : RoomQuote) → In q (quotes fs) → q.number ≡ number → ⊥) → (g : Fact) → In g fs → not (is_quote number g) ≡ true
no_quote number fs none (fact.Quoted q) i = ap not (ne_eqb q.number number (none q (In-filter_map quote_in fs (fact.Quoted q) q i refl)))
no_quote number fs none (fact.Traded x) i = refl
no_quote number fs none (fact.Entered x) i = refl
no_quote number fs none (fact.Removed x) i = refl
no_quote number fs none (fact.Held x) i = refl
no_quote number fs none (fact.Unheld x) i = refl
no_quote number fs none (fact.Asked x) i = refl
no_quote number fs none (fact.Withdrawn x) i = refl
no_quote number fs none (fact.Closed x) i = refl

before_it : (facts before later : List Fact) (q : RoomQuote) → facts ≡ before ++ fact.Quoted q ∷ later → Places (λ (x : RoomQuote). x.number) 0 (quotes facts) → before_quote facts q.number ≡ before
before_it facts before later q is places =
    let all : Places (λ (x : RoomQuote). x.number) 0 (quotes before ++ q ∷ quotes later) = subst (Places (λ (x : RoomQuote). x.number) 0) (ap quotes is ∙ filter_map-append quote_in before (fact.Quoted q ∷ later)) places in
    ap (λ (fs : List Fact). before_quote fs q.number) is
    ∙ taken (λ (f : Fact). not (is_quote q.number f)) before later (fact.Quoted q) (no_quote q.number before (λ x i e. apart (λ (y : RoomQuote). y.number) 0 (quotes before) (quotes later) q all x i e)) (ap not (eq-eqb q.number q.number refl))

first_is : (facts before later : List Fact) (q : RoomQuote) (room : ℕ) → facts ≡ before ++ fact.Quoted q ∷ later → first_quote before room ≡ None → q.room ≡ room → first_quote facts room ≡ Some q
first_is facts before later q room is none here =
    let test : RoomQuote → Bool = λ x. x.room == room in
    ap (find test) (ap quotes is ∙ filter_map-append quote_in before (fact.Quoted q ∷ later)) ∙ (found_behind test (quotes before) (q ∷ quotes later) none ∙ found_first test q (quotes later) (eq-eqb q.room room here))

-- The whole.

room_is : (facts before : List Fact) (r : Room) (q : RoomQuote) (room : ℕ) → room_by_number facts room ≡ Some r → first_quote facts room ≡ Some q → before_quote facts q.number ≡ before → room_fact facts room ≡ Some (with_first r q before)
room_is facts before r q room opened first is =
    (λ j. room_fact_of facts (opened j) (first j))
    ∙ ap (λ (fs : List Fact). Some (with_first r q fs)) is

line_is : (m : Market) (h : History) (t : TradeFact) (room : ℕ) (emitted : RoomFact) → t.room ≡ Some room → room_fact h.facts room ≡ Some emitted → trade_line m h t ≡ room_line m t room (Some emitted)
unfolding trade_line
line_is m h t room emitted placed found = ap (λ (o : Option ℕ). line_in m t o (room_emitted h o)) placed ∙ ap (room_line m t room) found

row_is : (m : Market) (h : History) (t : TradeFact) (room : ℕ) (emitted : RoomFact) → t.room ≡ Some room → room_fact h.facts room ≡ Some emitted
    → trade_row m h t ≡ row_text setup (deal_fields m t ++ place_fields m.participants (Some room) (Some emitted))
unfolding trade_row
row_is m h t room emitted placed found =
    ap (λ (o : Option ℕ). row_text setup (deal_fields m t ++ place_fields m.participants o (room_emitted h o))) placed
    ∙ ap (λ (o : Option RoomFact). row_text setup (deal_fields m t ++ place_fields m.participants (Some room) o)) found

pub room_trades_emit_rooms : ((m : Market) (is : List Input) → RoomTradesAreLawful m is) → ((m : Market) (is : List Input) → NumbersArePlaces (run m is).history.facts) → (m : Market) (is : List Input) (t : TradeFact) (room : ℕ)
    → Contains (trade_facts (run m is).history.facts) t → t.room ≡ Some room → EmitsRoom m (run m is).history t room
room_trades_emit_rooms law numbers m is t room there placed =
    let h = (run m is).history in
    let x = read_from (trades h.facts) 1 t (In-from_Contains (trade_facts h.facts) t there) in
    let place = in_room x.0.place room (x.2 ∙ placed) in
    let came = happened h.facts x.0 x.1 in
    let lawful = law m is came.before x.0 room place.0 came.follows place.1 in
    let shown = lawful.shown_with_first in
    let rest : List Fact = fact.Traded x.0 ∷ came.follows.0 in
    let later : List Fact = shown.came.0 ++ rest in
    let split : h.facts ≡ shown.before ++ fact.Quoted shown.first ∷ later =
    came.follows.1 ∙ (ap (λ (fs : List Fact). fs ++ rest) shown.came.1 ∙ append_assoc shown.before (fact.Quoted shown.first ∷ shown.came.0) rest) in
    let here : shown.first.room ≡ room = shown.here ∙ lawful.number in
    let none : first_quote shown.before room ≡ None = ap (first_quote shown.before) (sym lawful.number) ∙ shown.none_before in
    let asked_in : In (fact.Asked lawful.asked) h.facts = subst (In (fact.Asked lawful.asked)) (sym came.follows.1) (In-append_left came.before rest (fact.Asked lawful.asked) (In-from_Contains came.before (fact.Asked lawful.asked) lawful.was_asked)) in
    let rooms_placed = in_places (λ (r : Room). r.number) 0 (rooms h.facts) (λ k r e. (numbers m is).1 k r e ∙ from_zero k) in
    let quotes_placed = in_places (λ (q : RoomQuote). q.number) 0 (quotes h.facts) (λ k q e. (numbers m is).2 k q e ∙ from_zero k) in
    let opened : room_by_number h.facts room ≡ Some lawful.asked =
    ap (room_by_number h.facts) (sym lawful.number) ∙ found_numbered (λ (r : Room). r.number) 0 (rooms h.facts) rooms_placed lawful.asked (In-filter_map room_in h.facts (fact.Asked lawful.asked) lawful.asked asked_in refl) in
    let found = room_is h.facts shown.before lawful.asked shown.first room opened (first_is h.facts shown.before later shown.first room split none here) (before_it h.facts shown.before later shown.first split quotes_placed) in
    record {
      opened = lawful.asked;
      first = shown.first;
      before = shown.before;
      asked = Contains-from_In h.facts (fact.Asked lawful.asked) asked_in;
      number = lawful.number;
      quoted = (later, split);
      here = here;
      none_before = none;
      line = line_is m h t room (with_first lawful.asked shown.first shown.before) placed found;
      row = row_is m h t room (with_first lawful.asked shown.first shown.before) placed found;
    }
