-- What the venue shows of an instrument, with the orders that are kept, are its resting orders with their owners.
use Rattle.std.proofs.Common.{◌≡◌, ◌⊎◌, inl, inr, refl, sym, ap, subst, ◌∙◌, ℕ, zero, suc, ◌+◌, ◌-◌, ◌<◌, Bool, true, false, not, cond, nat_lt, if◌then◌else◌, List, [], ◌∷◌, ◌++◌, map, filter, length, slice_get, Option, Some, None, option_map, unwrap_or, append-nil, append_assoc, take, arith}
use Rattle.std.specs.Prelude.{bytes_eq}
use Rattle.std.specs.List.{cons_option, flat_map, position_or_len}
use Rattle.std.proofs.lemmas.Bool.{true≢false}
use Rattle.std.proofs.lemmas.Bool.Decides.{nat_tests}
use Rattle.std.proofs.lemmas.List.{map-append}
use Rattle.std.proofs.lemmas.List.Elements.{filter_map-append}
use Rattle.std.proofs.lemmas.Slice.Eq.{bytes_eq-Decides}
use Rattle.fix_dictionary.specs.declared.values.Side.{Side}
use Rattle.fix_dictionary.specs.declared.values.Side.TheVariants.{Buy, Sell}
use Rattle.instruments.specs.declared.instruments.Instrument.{Instrument}
use Rattle.instruments.specs.Listing.{instrument_of, is_unknown_instrument, symbol_of}
use Rattle.venue_rules.specs.declared.facts.Entry.{Entry}
use Rattle.venue_rules.specs.declared.facts.Fact.{Fact}
use Rattle.venue_rules.specs.declared.replies.SnapshotEntry.{SnapshotEntry}
use Rattle.venue_rules.specs.declared.trail.TrailRow.{TrailRow}
use Rattle.venue_rules.specs.Answer.{Answer, first_of, no_answer}
use Rattle.venue_rules.specs.Book.{Resting, filled, is_better, left, picture, rank, ranked, resting, rests, shown, with_left}
use Rattle.venue_rules.specs.Facts.{History, entries, entry_in, no_history}
use Rattle.venue_rules.specs.Lawful.{IsNumbered, NumbersArePlaces}
use Rattle.venue_rules.specs.Market.{Market}
use Rattle.venue_rules.specs.Run.{Input, Message, after, answer_input, run, run_from}
use Rattle.venue_core.specs.Replay.{AreEmitted}
use Rattle.row_replay.specs.Asking.{asks, entries_in}
use Rattle.resting_orders.specs.declared.noted.EnteredOrder.{EnteredOrder}
use Rattle.resting_orders.specs.declared.rested.RestedOrder.{RestedOrder}
use Rattle.resting_orders.specs.Noting.{entered_from, entered_on, entered_order}
use Rattle.resting_orders.specs.Resting.{book_of, books_of, books_shown, rested_at, rested_in, rested_of, rested_shown, rested_with}
use Rattle.venue_rules.proofs.Members.{In, In-append_cases}
use Rattle.trade_blotter.proofs.Lists.{In-filtered, In-map, none_is_some, same_some}

-- A resting order entered.

In-rank : (side : Side) (r : Resting) (ss : List Resting) (x : Resting) → In x (rank side r ss) → In x (r ∷ ss)
In-rank side r [] x i = i
In-rank side r (s ∷ ss) x i =
    (elim (is_better side s.entry.order.price r.entry.order.price) as (λ b. In x (if b then s ∷ rank side r ss else r ∷ s ∷ ss) → In x (r ∷ s ∷ ss)) [ true ↦ λ k. behind_first (In-rank side r ss x) k | false ↦ λ k. k ]) i
  where
    swap : In x (r ∷ ss) → In x (r ∷ s ∷ ss)
    swap (inl e) = inl e
    swap (inr k) = inr (inr k)

    behind_first : (In x (rank side r ss) → In x (r ∷ ss)) → In x (s ∷ rank side r ss) → In x (r ∷ s ∷ ss)
    behind_first rec (inl e) = inr (inl e)
    behind_first rec (inr k) = swap (rec k)

In-ranked : (side : Side) (rs : List Resting) (x : Resting) → In x (ranked side rs) → In x rs
In-ranked side [] x i = i
In-ranked side (r ∷ rs) x i = by (In-ranked side rs x) (In-rank side r (ranked side rs) x i)
  where
    by : (In x (ranked side rs) → In x rs) → In x (r ∷ ranked side rs) → In x (r ∷ rs)
    by rec (inl e) = inl e
    by rec (inr k) = inr (rec k)

entered : (facts : List Fact) (x : ℕ) (side : Side) (r : Resting) → In r (resting facts x side) → In r.entry (entries facts)
entered facts x side r i =
    let all = map (with_left (left facts)) (entries facts) in
    let there = In-map (with_left (left facts)) (entries facts) r (In-filtered (rests x side) all r (In-ranked side (filter (rests x side) all) r i)) in
    subst (λ (e : Entry). In e (entries facts)) (ap (λ (q : Resting). q.entry) there.2) there.1

-- The orders that are kept are those that entered, each with its row.

abbrev pub AreEntered : List EnteredOrder → List Entry → Type 0
AreEntered [] [] = Unit {0}
AreEntered [] (e ∷ es) = ⊥
AreEntered (o ∷ os) [] = ⊥
AreEntered (o ∷ os) (e ∷ es) = (o ≡ entered_order o.at.row e) × AreEntered os es

entered_append : (os ps : List EnteredOrder) (es fs : List Entry) → AreEntered os es → AreEntered ps fs → AreEntered (os ++ ps) (es ++ fs)
entered_append [] ps [] fs a b = b
entered_append [] ps (e ∷ es) fs a b = absurd a
entered_append (o ∷ os) ps [] fs a b = absurd a
entered_append (o ∷ os) ps (e ∷ es) fs a b = (a.0, entered_append os ps es fs a.1 b)

entered_map : (row : ℕ) (es : List Entry) → AreEntered (map (entered_order row) es) es
entered_map row [] = tt
entered_map row (e ∷ es) = (refl, entered_map row es)

entered_then : (m : Market) (h : History) (rs : List TrailRow) (is : List Input) (before : List EnteredOrder) → AreEmitted rs is → AreEntered before (entries h.facts) → AreEntered (before ++ entered_from m h rs is) (entries (run_from m h is).history.facts)
entered_then m h [] [] before emitted are = subst (λ (l : List EnteredOrder). AreEntered l (entries h.facts)) (sym (append-nil before)) are
entered_then m h [] (i ∷ is) before emitted are = absurd emitted
entered_then m h (r ∷ rs) [] before emitted are = absurd emitted
entered_then m h (r ∷ rs) (i ∷ is) before emitted are =
    let a = answer_input m h i in
    let one = map (entered_order r.n) (entries a.facts) in
    let rest = entered_from m (after h a) rs is in
    let longer : AreEntered (before ++ one) (entries (h.facts ++ a.facts)) =
    subst (AreEntered (before ++ one)) (sym (filter_map-append entry_in h.facts a.facts)) (entered_append before one (entries h.facts) (entries a.facts) are (entered_map r.n (entries a.facts))) in
    subst (λ (l : List EnteredOrder). AreEntered l (entries (run_from m (after h a) is).history.facts)) (append_assoc before one rest) (entered_then m (after h a) rs is (before ++ one) emitted.1 longer)

pub entered_are : (m : Market) (rs : List TrailRow) (is : List Input) → AreEmitted rs is → AreEntered (entered_on m rs is) (entries (run m is).history.facts)
entered_are m rs is emitted = entered_then m no_history rs is [] emitted tt

-- The k-th order has number k.

place_in : (es : List Entry) (e : Entry) → In e es → (k : ℕ) × (slice_get es k ≡ Some e)
place_in [] e i = absurd i
place_in (x ∷ xs) e (inl same) = (0, ap Some same)
place_in (x ∷ xs) e (inr i) = let k = place_in xs e i in (suc k.0, k.1)

entered_place : (os : List EnteredOrder) (es : List Entry) (k : ℕ) (e : Entry) → AreEntered os es → slice_get es k ≡ Some e → (row : ℕ) × (slice_get os k ≡ Some (entered_order row e))
entered_place [] [] k e a is = absurd (none_is_some e is)
entered_place [] (x ∷ xs) k e a is = absurd a
entered_place (o ∷ os) [] k e a is = absurd a
entered_place (o ∷ os) (x ∷ xs) zero e a is = (o.at.row, ap Some (a.0 ∙ ap (entered_order o.at.row) (same_some x e is)))
entered_place (o ∷ os) (x ∷ xs) (suc k) e a is = entered_place os xs k e a.1 is

found_order : (os : List EnteredOrder) (es : List Entry) → AreEntered os es → IsNumbered (λ (e : Entry). e.number) es → (e : Entry) → In e es → (row : ℕ) × (slice_get os (e.number - 1) ≡ Some (entered_order row e))
found_order os es are numbered e i =
    let k = place_in es e i in
    let o = entered_place os es k.0 e are k.1 in
    (o.0, ap (slice_get os) (ap (λ n. n - 1) (numbered k.0 e k.1) ∙ back k.0) ∙ o.1)
  where
    back : (n : ℕ) → n + 1 - 1 ≡ n
    back n = omega arith

-- a resting order at a row
at_row : List ℕ → Resting → ℕ → RestedOrder
at_row symbol r row = record {
  symbol = symbol;
  side = r.entry.order.side;
  price = r.entry.order.price;
  left = r.left;
  quantity = r.entry.filled_before + r.entry.order.quantity;
  filled = filled r;
  number = r.entry.number;
  owner = r.entry.order.who;
  id = r.entry.order.id;
  at = record { row = row; moment = r.entry.moment };
}

rested_alike : (os : List EnteredOrder) (symbol : List ℕ) (r : Resting) (row : ℕ) → slice_get os (r.entry.number - 1) ≡ Some (entered_order row r.entry) → rested_at os symbol (shown r) ≡ Some (rested_of os symbol r)
unfolding at_row
rested_alike os symbol r row is =
    ap (option_map (rested_with symbol (shown r))) is
    ∙ sym (ap (λ (o : Option EnteredOrder). Some (at_row symbol r (elim o [ None ↦ 0 | Some x ↦ x.at.row ]))) is)

rested_one : (os : List EnteredOrder) (es : List Entry) → AreEntered os es → IsNumbered (λ (e : Entry). e.number) es → (symbol : List ℕ) (rs : List Resting) → ((r : Resting) → In r rs → In r.entry es) → rested_in os symbol (map shown rs) ≡ map (rested_of os symbol) rs
rested_one os es are numbered symbol [] there = refl
rested_one os es are numbered symbol (r ∷ rs) there =
    let found = found_order os es are numbered r.entry (there r (inl refl)) in
    ap (λ (o : Option RestedOrder). cons_option o (rested_in os symbol (map shown rs))) (rested_alike os symbol r found.0 found.1)
    ∙ ap (λ l. rested_of os symbol r ∷ l) (rested_one os es are numbered symbol rs (λ x i. there x (inr i)))

-- of an instrument
pub rested_book : (os : List EnteredOrder) (facts : List Fact) → AreEntered os (entries facts) → NumbersArePlaces facts → (symbol : List ℕ) (x : ℕ) → rested_in os symbol (picture facts x) ≡ book_of os symbol facts x
rested_book os facts are numbered symbol x =
    let bids = resting facts x Buy in
    let offers = resting facts x Sell in
    ap (rested_in os symbol) (sym (map-append shown bids offers))
    ∙ rested_one os (entries facts) are numbered.0 symbol (bids ++ offers) (λ r i. both r (In-append_cases bids offers r i))
  where
    both : (r : Resting) → In r (resting facts x Buy) ⊎ In r (resting facts x Sell) → In r.entry (entries facts)
    both r (inl i) = entered facts x Buy r i
    both r (inr i) = entered facts x Sell r i

-- What the venue shows to who asks.

abbrev pub shown_of : Bool → List SnapshotEntry → Option (List SnapshotEntry)
shown_of true es = None
shown_of false es = Some es

shows_where : (unknown : Bool) (one two three shown : Answer) (es : List SnapshotEntry) → entries_in one.replies ≡ None → entries_in shown.replies ≡ Some es
    → entries_in (first_of ((unknown, one) ∷ (false, two) ∷ (false, three) ∷ []) shown).replies ≡ shown_of unknown es
shows_where true one two three shown es none some = none
shows_where false one two three shown es none some = some

pub shows : (m : Market) (h : History) (who : ℕ) (symbol : List ℕ) (t : ℕ) → entries_in (answer_input m h (Message (asks who symbol) t)).replies ≡ shown_of (is_unknown_instrument m.instruments symbol) (picture h.facts (instrument_of m.instruments symbol))
shows m h who symbol t = shows_where (is_unknown_instrument m.instruments symbol) _ no_answer no_answer _ (picture h.facts (instrument_of m.instruments symbol)) refl refl

-- of an instrument that there is, and of all

pub book_shown : (os : List EnteredOrder) (m : Market) (h : History) → AreEntered os (entries h.facts) → NumbersArePlaces h.facts → (symbol : List ℕ) → is_unknown_instrument m.instruments symbol ≡ false
    → rested_shown os symbol (entries_in (answer_input m h (Message (asks 0 symbol) 0)).replies) ≡ book_of os symbol h.facts (instrument_of m.instruments symbol)
book_shown os m h are numbered symbol known =
    let x = instrument_of m.instruments symbol in
    ap (rested_shown os symbol) (shows m h 0 symbol 0 ∙ ap (λ b. shown_of b (picture h.facts x)) known) ∙ rested_book os h.facts are numbered symbol x

below : (p : Instrument → Bool) (xs : List Instrument) (x : Instrument) → In x xs → p x ≡ true → position_or_len p xs < length xs
below p [] x i e = absurd i
below p (y ∷ ys) x (inl same) e = by (p y) (ap p same ∙ e)
  where
    by : (b : Bool) → b ≡ true → cond (not b) (1 + position_or_len p ys) 0 < suc (length ys)
    by true k = omega arith
    by false k = absurd (true≢false (sym k))
below p (y ∷ ys) x (inr i) e = by (p y) (below p ys x i e)
  where
    by : (b : Bool) → position_or_len p ys < length ys → cond (not b) (1 + position_or_len p ys) 0 < suc (length ys)
    by true lt = omega arith
    by false lt = omega (arith, lt)

is_below : (a b : ℕ) → a < b → nat_lt a b ≡ true
is_below a b lt = grind (arith, nat_tests)

known_symbol : (xs : List Instrument) (x : Instrument) → In x xs → is_unknown_instrument xs x.symbol ≡ false
known_symbol xs x i =
    let p : Instrument → Bool = λ y. bytes_eq x.symbol y.symbol in
    ap not (is_below (position_or_len p xs) (length xs) (below p xs x i ((bytes_eq-Decides x.symbol x.symbol).1 refl)))

books_from : (os : List EnteredOrder) (m : Market) (h : History) → AreEntered os (entries h.facts) → NumbersArePlaces h.facts → (xs : List Instrument) → ((x : Instrument) → In x xs → In x m.instruments) → books_shown os m h xs ≡ books_of os h.facts m.instruments xs
books_from os m h are numbered [] there = refl
books_from os m h are numbered (x ∷ xs) there =
    (λ j. book_shown os m h are numbered x.symbol (known_symbol m.instruments x (there x (inl refl))) j ++ books_from os m h are numbered xs (λ y i. there y (inr i)) j)

pub books_are : (os : List EnteredOrder) (m : Market) (h : History) → AreEntered os (entries h.facts) → NumbersArePlaces h.facts → books_shown os m h m.instruments ≡ books_of os h.facts m.instruments m.instruments
books_are os m h are numbered = books_from os m h are numbered m.instruments (λ x i. i)

-- one instrument further

one_suc : {X Y : Type 0} (f : X → List Y) (xs : List X) (k : ℕ) (x : X) → slice_get xs k ≡ Some x → flat_map f (take (suc k) xs) ≡ flat_map f (take k xs) ++ f x
one_suc f [] k x e = absurd (none_is_some x e)
one_suc f (y ∷ ys) zero x e = append-nil (f y) ∙ ap f (same_some y x e)
one_suc f (y ∷ ys) (suc k) x e = ap (λ l. f y ++ l) (one_suc f ys k x e) ∙ sym (append_assoc (f y) (flat_map f (take k ys)) (f x))

there_at : {X : Type 0} (xs : List X) (k : ℕ) → k < length xs → (x : X) × (slice_get xs k ≡ Some x)
there_at [] k low = absurd (omega (arith, low))
there_at (x ∷ xs) zero low = (x, refl)
there_at (x ∷ xs) (suc k) low = there_at xs k (omega (arith, low))

-- the book of a symbol, as the venue shows it
abbrev pub shown_for : List EnteredOrder → Market → History → List ℕ → List RestedOrder
shown_for os m h symbol = rested_shown os symbol (entries_in (answer_input m h (Message (asks 0 symbol) 0)).replies)

pub books_more : (os : List EnteredOrder) (m : Market) (h : History) (xs : List Instrument) (k : ℕ) (symbol : List ℕ) → k < length xs → symbol ≡ symbol_of xs k → books_shown os m h (take (k + 1) xs) ≡ books_shown os m h (take k xs) ++ shown_for os m h symbol
books_more os m h xs k symbol low is =
    let x = there_at xs k low in
    ap (λ n. books_shown os m h (take n xs)) (on k)
    ∙ (one_suc (λ (y : Instrument). shown_for os m h y.symbol) xs k x.0 x.1
    ∙ ap (λ s. books_shown os m h (take k xs) ++ shown_for os m h s) (sym (is ∙ ap (λ (o : Option Instrument). unwrap_or (option_map (λ (i : Instrument). i.symbol) o) []) x.1)))
  where
    on : (n : ℕ) → n + 1 ≡ suc n
    on n = omega arith
