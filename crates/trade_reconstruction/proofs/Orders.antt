-- The events of a day have both orders of each trade in the book, and its lines are theirs.
use Rattle.std.proofs.Common.{◌≡◌, refl, sym, ap, subst, ◌∙◌, ℕ, ℤ, zero, suc, ◌+◌, ◌-◌, min, ◌==◌, ◌⊎◌, inl, inr, Bool, true, false, not, ◌&&◌, nat_lt, if◌then◌else◌, List, [], ◌∷◌, ◌++◌, map, filter_map, find, slice_get, Option, Some, None, eq-eqb, ne_eqb, arith}
use Rattle.std.specs.Prelude.{bytes_eq}
use Rattle.std.specs.List.{enumerate_from}
use Rattle.std.proofs.lemmas.Bool.{true≢false}
use Rattle.sef_moment.specs.Utc.{greatest}
use Rattle.fix_dictionary.specs.declared.values.Side.{Side}
use Rattle.fix_dictionary.specs.declared.values.Side.TheVariants.{Buy, Sell}
use Rattle.instruments.specs.Listing.{symbol_of}
use Rattle.venue_rules.specs.declared.facts.Entry.{Entry}
use Rattle.venue_rules.specs.declared.facts.Fact.{Fact}
use Rattle.venue_rules.specs.declared.facts.Fact.TheVariants as fact
use Rattle.venue_rules.specs.declared.facts.HeldSide.{HeldSide}
use Rattle.venue_rules.specs.declared.facts.TradeSource.{TradeSource}
use Rattle.venue_rules.specs.declared.facts.TradeSource.TheVariants.{Book as InBook, Room as InRoom}
use Rattle.venue_rules.specs.declared.facts.Trade.{Trade}
use Rattle.venue_rules.specs.declared.trail.TradeFact.{TradeFact}
use Rattle.venue_rules.specs.declared.trail.TrailRow.{TrailRow}
use Rattle.venue_rules.specs.Book.{is_day, is_side, left, opposite, rests}
use Rattle.venue_rules.specs.Facts.{History, entries, entry_in as entry_in_fact, held_in as held_in_fact, held_sides, no_history, trade_in as trade_in_fact, trades}
use Rattle.venue_rules.specs.Lawful.{BestOrderTrades, HappenedAfter, NumbersArePlaces}
use Rattle.venue_rules.specs.Market.{Market}
use Rattle.venue_rules.specs.Readings.{room_of, trade_fact, trade_facts}
use Rattle.venue_rules.specs.Rooms.{printed}
use Rattle.venue_rules.specs.Run.{Input, Message, Tick, after, answer_input, run}
use Rattle.trade_reconstruction.specs.declared.entry.Entry.{Entry as OrderEntry}
use Rattle.trade_reconstruction.specs.declared.finding.Query.TheVariants.{Fill, HeldSide as SideHeld, Hit, Order, OtherFill}
use Rattle.trade_reconstruction.specs.declared.evidence_event.Entered.{Entered}
use Rattle.trade_reconstruction.specs.declared.evidence_event.Held.{Held as HeldEvent}
use Rattle.trade_reconstruction.specs.declared.evidence_event.Hit.{Hit as HitEvent}
use Rattle.trade_reconstruction.specs.declared.evidence_event.EventKind.{EventKind}
use Rattle.trade_reconstruction.specs.declared.evidence_event.EventKind.TheVariants as said
use Rattle.trade_reconstruction.specs.declared.evidence_event.EvidenceEvent.{EvidenceEvent}
use Rattle.trade_reconstruction.specs.Found.{HasOrders, HasRow, HeldAs, EmitsOrder, met_emitted, moment_emitted, price_emitted}
use Rattle.trade_reconstruction.specs.Lines.{are_linked, both_lines, enters_said, entry_moment, entry_of, entry_said, evidence, filled_of, fills_other_said, fills_said, held_until, held_until_said, hits_said, holds_said, is_sought, lines_in, moment_of, order_of, order_said, orders_lines, other_of, row_in, row_of, last_lines, trade_row, two_orders}
use Rattle.venue_core.specs.Replay.{AreEmitted}
use Rattle.trade_reconstruction.specs.Standing.{prices_of, stood_words}
use Rattle.trade_reconstruction.specs.Emitted.{stood_emitted, numbered_in, trade_numbered, words_emitted}
use Rattle.venue_rules.proofs.Members.{Contains-from_In, In, In-append_cases, In-append_left, In-append_right, In-filter_map, In-from_Contains, Places, Places-one, picked_from}
use Rattle.trade_blotter.proofs.Lists.{In-map, none_is_some, same_some}
use Rattle.trade_reconstruction.proofs.Members.{Places-found, Places-from, Places-unmap, found_first, found_later, found_map, found_picked, map_In, picked_passes, slice_In, slice_map, slice_unmap}
use Rattle.trade_reconstruction.proofs.Says.{HeardEntry, HeardFill, HeardHit, HeardHold, entry_in, entry_of_said, fill_in, fill_of_said, hold_in, hold_of_said, trade_of_said, traded_in}
use Rattle.trade_reconstruction.proofs.Replies.{AreOf, IsOf, fills_emitted, hit_emitted, hits_of, hits_emitted, input-Says, is_tick_input, moment_at, pair_emitted, price_at, emitted_hold}
use Rattle.trade_reconstruction.proofs.Days.{IsAdded, added, added_are, day_entries, day_fills, day_hits, day_holds, entry_at, is_added, it, map_map, trade_at}
use Rattle.trade_reconstruction.proofs.Links.{link_found}
use Rattle.trade_reconstruction.proofs.Stood.{stood_once}
use Rattle.trade_reconstruction.proofs.Holds.{day_apart, held_fact, holds_stay, tick_entry}

-- A trade as it is read back is a fact of the day.

pub record IsNumbered (ts : List Trade) (n k : ℕ) (t : TradeFact) : Type 0 where
  pub trade : Trade
  pub at : slice_get ts k ≡ Some trade
  pub number : ℕ
  pub is_number : number ≡ n + k
  pub read_back : trade_fact number trade ≡ t

pub numbered_trade : (ts : List Trade) (n k : ℕ) (t : TradeFact) → slice_get (map (λ p. trade_fact p.0 p.1) (enumerate_from n ts)) k ≡ Some t → IsNumbered ts n k t
numbered_trade [] n k t e = absurd (none_is_some t e)
numbered_trade (x ∷ xs) n zero t e = record { trade = x; at = refl; number = n; is_number = from_zero n; read_back = same_some (trade_fact n x) t e }
  where
    from_zero : (k : ℕ) → k ≡ k + 0
    from_zero k = omega arith
numbered_trade (x ∷ xs) n (suc k) t e = let r = numbered_trade xs (n + 1) k t e in record { trade = r.trade; at = r.at; number = r.number; is_number = r.is_number ∙ next n k; read_back = r.read_back }
  where
    next : (a b : ℕ) → a + 1 + b ≡ a + suc b
    next a b = omega arith

pub numbered_at : (ts : List TradeFact) (number : ℕ) (t : TradeFact) → numbered_in ts number ≡ Some t → slice_get ts (number - 1) ≡ Some t
numbered_at ts number t e =
    (elim (number == 0) as (λ b. (if b then None else slice_get ts (number - 1)) ≡ Some t → slice_get ts (number - 1) ≡ Some t) [ true ↦ λ k. absurd (none_is_some t k) | false ↦ λ k. k ]) e

-- numbers begin at one
from_one : (ts : List TradeFact) (number : ℕ) (t : TradeFact) → numbered_in ts number ≡ Some t → number ≡ 1 + (number - 1)
from_one ts zero t e = absurd (none_is_some t e)
from_one ts (suc n) t e = omega arith

in_book : (place : TradeSource) → room_of place ≡ None → (old : ℕ) × (new : ℕ) × (place ≡ InBook old new)
in_book (InBook old new) e = (old, new, refl)
in_book (InRoom room quote) e = absurd (none_is_some room (sym e))

-- a trade came after some of the facts
pub record Happened (facts : List Fact) (x : Trade) : Type 0 where
  pub before : List Fact
  pub follows : HappenedAfter facts before (fact.Traded x)

behind : (f : Fact) (fs : List Fact) (x : Trade) → Happened fs x → Happened (f ∷ fs) x
behind f fs x p = record { before = f ∷ p.before; follows = (p.follows.0, ap (λ (l : List Fact). f ∷ l) p.follows.1) }

pub happened : (facts : List Fact) (k : ℕ) (x : Trade) → slice_get (trades facts) k ≡ Some x → Happened facts x
happened [] k x e = absurd (none_is_some x e)
happened (fact.Traded y ∷ fs) zero x e = record { before = []; follows = (fs, ap (λ (z : Trade). fact.Traded z ∷ fs) (same_some y x e)) }
happened (fact.Traded y ∷ fs) (suc k) x e = behind (fact.Traded y) fs x (happened fs k x e)
happened (fact.Entered y ∷ fs) k x e = behind (fact.Entered y) fs x (happened fs k x e)
happened (fact.Removed y ∷ fs) k x e = behind (fact.Removed y) fs x (happened fs k x e)
happened (fact.Held y ∷ fs) k x e = behind (fact.Held y) fs x (happened fs k x e)
happened (fact.Unheld y ∷ fs) k x e = behind (fact.Unheld y) fs x (happened fs k x e)
happened (fact.Asked y ∷ fs) k x e = behind (fact.Asked y) fs x (happened fs k x e)
happened (fact.Quoted y ∷ fs) k x e = behind (fact.Quoted y) fs x (happened fs k x e)
happened (fact.Withdrawn y ∷ fs) k x e = behind (fact.Withdrawn y) fs x (happened fs k x e)
happened (fact.Closed y ∷ fs) k x e = behind (fact.Closed y) fs x (happened fs k x e)

entered_fact : (f : Fact) (e : Entry) → entry_in_fact f ≡ Some e → f ≡ fact.Entered e
entered_fact (fact.Entered x) e h = ap (λ (y : Entry). fact.Entered y) (same_some x e h)
entered_fact (fact.Held x) e h = absurd (none_is_some e h)
entered_fact (fact.Traded x) e h = absurd (none_is_some e h)
entered_fact (fact.Removed x) e h = absurd (none_is_some e h)
entered_fact (fact.Unheld x) e h = absurd (none_is_some e h)
entered_fact (fact.Asked x) e h = absurd (none_is_some e h)
entered_fact (fact.Quoted x) e h = absurd (none_is_some e h)
entered_fact (fact.Withdrawn x) e h = absurd (none_is_some e h)
entered_fact (fact.Closed x) e h = absurd (none_is_some e h)

traded_fact : (f : Fact) (x : Trade) → trade_in_fact f ≡ Some x → f ≡ fact.Traded x
traded_fact (fact.Traded y) x h = ap (λ (z : Trade). fact.Traded z) (same_some y x h)
traded_fact (fact.Held y) x h = absurd (none_is_some x h)
traded_fact (fact.Entered y) x h = absurd (none_is_some x h)
traded_fact (fact.Removed y) x h = absurd (none_is_some x h)
traded_fact (fact.Unheld y) x h = absurd (none_is_some x h)
traded_fact (fact.Asked y) x h = absurd (none_is_some x h)
traded_fact (fact.Quoted y) x h = absurd (none_is_some x h)
traded_fact (fact.Withdrawn y) x h = absurd (none_is_some x h)
traded_fact (fact.Closed y) x h = absurd (none_is_some x h)

-- Content of an event that is found.

abbrev heard : EvidenceEvent → Entered → HeardEntry
heard w e = record { row = w.row; moment = w.moment; to = w.to; order = e.order; id = e.id; symbol = e.symbol; side = e.side; quantity = e.quantity; price = e.price; original = e.original; at_tick = e.at_tick }

entered_in : (w : EvidenceEvent) (s : EventKind) (y : HeardEntry) → entry_of_said w s ≡ Some y → (e : Entered) × (s ≡ said.Entered e) × (heard w e ≡ y)
entered_in w (said.Entered e) y h = (e, refl, same_some (heard w e) y h)
entered_in w (said.Asked x) y h = absurd (none_is_some y h)
entered_in w (said.SnapshotSent x) y h = absurd (none_is_some y h)
entered_in w (said.Shown x) y h = absurd (none_is_some y h)
entered_in w (said.Quoted x) y h = absurd (none_is_some y h)
entered_in w (said.Hit x) y h = absurd (none_is_some y h)
entered_in w (said.Held x) y h = absurd (none_is_some y h)
entered_in w (said.Filled x) y h = absurd (none_is_some y h)
entered_in w (said.RestedBefore x) y h = absurd (none_is_some y h)
entered_in w (said.RestedCount x) y h = absurd (none_is_some y h)

filled_in : (w : EvidenceEvent) (s : EventKind) (y : HeardFill) → fill_of_said w s ≡ Some y → (order_said s ≡ Some y.order) × (w.row ≡ y.row)
filled_in w (said.Filled f) y h = (ap (λ (o : HeardFill). Some o.order) (same_some _ y h), ap (λ (o : HeardFill). o.row) (same_some _ y h))
filled_in w (said.Asked x) y h = absurd (none_is_some y h)
filled_in w (said.SnapshotSent x) y h = absurd (none_is_some y h)
filled_in w (said.Shown x) y h = absurd (none_is_some y h)
filled_in w (said.Quoted x) y h = absurd (none_is_some y h)
filled_in w (said.Hit x) y h = absurd (none_is_some y h)
filled_in w (said.Entered x) y h = absurd (none_is_some y h)
filled_in w (said.Held x) y h = absurd (none_is_some y h)
filled_in w (said.RestedBefore x) y h = absurd (none_is_some y h)
filled_in w (said.RestedCount x) y h = absurd (none_is_some y h)

held_in : (w : EvidenceEvent) (s : EventKind) (y : HeardHold) → hold_of_said w s ≡ Some y → (held_until_said w s ≡ min y.until greatest) × (x : HeldEvent) × (s ≡ said.Held x) × (x.cross ≡ y.cross)
held_in w (said.Held x) y h = (ap (λ (o : HeardHold). min o.until greatest) (same_some _ y h), x, refl, ap (λ (o : HeardHold). o.cross) (same_some _ y h))
held_in w (said.Asked x) y h = absurd (none_is_some y h)
held_in w (said.SnapshotSent x) y h = absurd (none_is_some y h)
held_in w (said.Shown x) y h = absurd (none_is_some y h)
held_in w (said.Quoted x) y h = absurd (none_is_some y h)
held_in w (said.Hit x) y h = absurd (none_is_some y h)
held_in w (said.Entered x) y h = absurd (none_is_some y h)
held_in w (said.Filled x) y h = absurd (none_is_some y h)
held_in w (said.RestedBefore x) y h = absurd (none_is_some y h)
held_in w (said.RestedCount x) y h = absurd (none_is_some y h)

-- A search for an event is a search of what is picked.

order_test : (n : ℕ) (w : EvidenceEvent) (s : EventKind) → enters_said n s ≡ picked_passes (λ y. y.order == n) (entry_of_said w s)
order_test n w (said.Entered e) = refl
order_test n w (said.Asked x) = refl
order_test n w (said.SnapshotSent x) = refl
order_test n w (said.Shown x) = refl
order_test n w (said.Quoted x) = refl
order_test n w (said.Hit x) = refl
order_test n w (said.Held x) = refl
order_test n w (said.Filled x) = refl
order_test n w (said.RestedBefore x) = refl
order_test n w (said.RestedCount x) = refl

fill_test : (n : ℕ) (w : EvidenceEvent) (s : EventKind) → fills_said n s ≡ picked_passes (λ y. y.trade == n) (fill_of_said w s)
fill_test n w (said.Entered e) = refl
fill_test n w (said.Asked x) = refl
fill_test n w (said.SnapshotSent x) = refl
fill_test n w (said.Shown x) = refl
fill_test n w (said.Quoted x) = refl
fill_test n w (said.Hit x) = refl
fill_test n w (said.Held x) = refl
fill_test n w (said.Filled x) = refl
fill_test n w (said.RestedBefore x) = refl
fill_test n w (said.RestedCount x) = refl

other_test : (n order : ℕ) (w : EvidenceEvent) (s : EventKind) → fills_other_said n order s ≡ picked_passes (λ y. y.trade == n && not (y.order == order)) (fill_of_said w s)
other_test n order w (said.Entered e) = refl
other_test n order w (said.Asked x) = refl
other_test n order w (said.SnapshotSent x) = refl
other_test n order w (said.Shown x) = refl
other_test n order w (said.Quoted x) = refl
other_test n order w (said.Hit x) = refl
other_test n order w (said.Held x) = refl
other_test n order w (said.Filled x) = refl
other_test n order w (said.RestedBefore x) = refl
other_test n order w (said.RestedCount x) = refl

hold_test : (who : ℕ) (id : List ℕ) (w : EvidenceEvent) (s : EventKind) → holds_said who id w.to s ≡ picked_passes (λ y. y.who == who && bytes_eq y.id id) (hold_of_said w s)
hold_test who id w (said.Entered e) = refl
hold_test who id w (said.Asked x) = refl
hold_test who id w (said.SnapshotSent x) = refl
hold_test who id w (said.Shown x) = refl
hold_test who id w (said.Quoted x) = refl
hold_test who id w (said.Hit x) = refl
hold_test who id w (said.Held x) = refl
hold_test who id w (said.Filled x) = refl
hold_test who id w (said.RestedBefore x) = refl
hold_test who id w (said.RestedCount x) = refl

-- A held side's event is found by its identifier.

hold_found : (m : Market) (rs : List TrailRow) (is : List Input) → AreEmitted rs is → (k : HeldSide) → In k (held_sides (run m is).history.facts)
    → (w : EvidenceEvent) × (find (is_sought (SideHeld k.order.who k.order.id)) (words_emitted m rs is) ≡ Some w) × (held_until w ≡ min k.due greatest) × (x : HeldEvent) × (w.said ≡ said.Held x) × (x.cross ≡ k.cross)
hold_found m rs is emitted k i =
    let words = words_emitted m rs is in
    let test : HeardHold → Bool = λ y. y.who == k.order.who && bytes_eq y.id k.order.id in
    let held = held_sides (run m is).history.facts in
    let listed : filter_map hold_in words ≡ map emitted_hold held = day_holds m no_history rs is emitted ∙ (sym (map_map it emitted_hold (added held_in_fact m no_history rs is)) ∙ ap (map emitted_hold) (sym (added_are held_in_fact m no_history rs is emitted))) in
    let first : find test (filter_map hold_in words) ≡ Some (emitted_hold k) = ap (find test) listed ∙ found_map emitted_hold test held k (day_apart m no_history rs is emitted (λ x j. absurd j) k i) in
    let w = found_picked hold_in test (is_sought (SideHeld k.order.who k.order.id)) (λ x. hold_test k.order.who k.order.id x x.said) words (emitted_hold k) first in
    let x = held_in w.0 w.0.said (emitted_hold k) w.2 in
    (w.0, w.1, x.0, x.1, x.2, x.3)

-- An order's entry is found by its number.

at_its_price : (i : Input) (e : Entry) → price_at (is_tick_input i) e.order.price ≡ price_emitted i e
at_its_price (Message taken t) e = refl
at_its_price (Tick t) e = refl

-- the events of the day state when it entered
entered_when : (m : Market) (rs : List TrailRow) (is : List Input) → AreEmitted rs is → (r : TrailRow) (i : Input) (e : Entry) → IsAdded entry_in_fact m no_history rs is (r, i, e) → (w : EvidenceEvent) (x : Entered)
    → w.to ≡ e.order.who → x.id ≡ e.order.id → w.moment ≡ moment_at (is_tick_input i) r.moment e.moment → x.at_tick ≡ is_tick_input i → entry_moment (words_emitted m rs is) w x ≡ moment_emitted i e
entered_when m rs is emitted r (Message taken t) e at w x whose id moment tick =
    let words = words_emitted m rs is in
    ap (λ (b : Bool). if b then moment_of w.moment (find (is_sought (SideHeld w.to x.id)) words) else w.moment) tick ∙ moment
entered_when m rs is emitted r (Tick t) e at w x whose id moment tick =
    let words = words_emitted m rs is in
    let of = tick_entry m (run m at.earlier).history t e at.made in
    let known : In of.side (held_sides (run m is).history.facts) = subst (λ (l : List Input). In of.side (held_sides (run m l).history.facts)) (sym at.taken) (holds_stay m no_history at.earlier (Tick t ∷ at.later) of.side of.held) in
    let hold = hold_found m rs is emitted of.side known in
    let named : find (is_sought (SideHeld w.to x.id)) words ≡ Some hold.0 =
    (λ j. find (is_sought (SideHeld (whose j) (id j))) words) ∙ ((λ j. find (is_sought (SideHeld (of.order j).who (of.order j).id)) words) ∙ hold.1) in
    ap (λ (b : Bool). if b then moment_of w.moment (find (is_sought (SideHeld w.to x.id)) words) else w.moment) tick
    ∙ (ap (moment_of w.moment) named ∙ (hold.2 ∙ ap (λ (t : ℕ). min t greatest) (sym of.moment)))

-- and as which side of which cross
held_as : (m : Market) (rs : List TrailRow) (is : List Input) → AreEmitted rs is → (r : TrailRow) (i : Input) (e : Entry) → IsAdded entry_in_fact m no_history rs is (r, i, e) → (x : OrderEntry) → x.to ≡ e.order.who → x.entered.id ≡ e.order.id
    → x.entered.at_tick ≡ is_tick_input i → HeldAs m is (words_emitted m rs is) i e x
held_as m rs is emitted r (Message taken t) e at x whose id tick = tick
held_as m rs is emitted r (Tick t) e at x whose id tick =
    let words = words_emitted m rs is in
    let facts = (run m is).history.facts in
    let of = tick_entry m (run m at.earlier).history t e at.made in
    let known : In of.side (held_sides facts) = subst (λ (l : List Input). In of.side (held_sides (run m l).history.facts)) (sym at.taken) (holds_stay m no_history at.earlier (Tick t ∷ at.later) of.side of.held) in
    let hold = hold_found m rs is emitted of.side known in
    let there = picked_from held_in_fact facts of.side known in
    record {
      side = of.side;
      held = Contains-from_In facts (fact.Held of.side) (subst (λ (f : Fact). In f facts) (held_fact there.0 of.side there.2) there.1);
      order = of.order;
      hold = hold.0;
      reported = hold.3;
      found = (λ j. find (is_sought (SideHeld (whose j) (id j))) words) ∙ ((λ j. find (is_sought (SideHeld (of.order j).who (of.order j).id)) words) ∙ hold.1);
      says = hold.4;
      cross = hold.5;
    }

-- an entry that is found
pub record EntryFound (m : Market) (rs : List TrailRow) (is : List Input) (words : List EvidenceEvent) (p : TrailRow × Input × Entry) : Type 0 where
  pub entry : OrderEntry
  pub found : entry_of words (find (is_sought (Order p.2.number)) words) ≡ Some entry
  pub at_row : entry.row ≡ p.0.n
  pub emits : EmitsOrder m rs is words p.2 entry

found_map_back : (all : List (TrailRow × Input × Entry)) (p : TrailRow × Input × Entry) → find (λ (q : TrailRow × Input × Entry). q.2.number == p.2.number) all ≡ Some p → find (λ (y : Entry). y.number == p.2.number) (map it all) ≡ Some p.2
found_map_back all p e = found_map it (λ (y : Entry). y.number == p.2.number) all p e

entry_found : (m : Market) (rs : List TrailRow) (is : List Input) → AreEmitted rs is → Places (λ (p : TrailRow × Input × Entry). p.2.number) 0 (added entry_in_fact m no_history rs is) → (p : TrailRow × Input × Entry)
    → In p (added entry_in_fact m no_history rs is) → EntryFound m rs is (words_emitted m rs is) p
entry_found m rs is emitted places p i =
    let words = words_emitted m rs is in
    let all = added entry_in_fact m no_history rs is in
    let n = p.2.number in
    let test : HeardEntry → Bool = λ y. y.order == n in
    let first : find test (filter_map entry_in words) ≡ Some (entry_at m p) = ap (find test) (day_entries m no_history rs is emitted) ∙ found_map (entry_at m) test all p (Places-found (λ (q : TrailRow × Input × Entry). q.2.number) 0 all places p i) in
    let w = found_picked entry_in test (is_sought (Order n)) (λ x. order_test n x x.said) words (entry_at m p) first in
    let x = entered_in w.0 w.0.said (entry_at m p) w.2 in
    let at = is_added entry_in_fact m no_history rs is emitted p i in
    let trigger = picked_from entry_in_fact (answer_input m (run m at.earlier).history p.1).facts p.2 at.made in
    let same : entries (run m is).history.facts ≡ map it all = added_are entry_in_fact m no_history rs is emitted in
    let entry : OrderEntry = record { row = w.0.row; to = w.0.to; moment = entry_moment words w.0 x.0; entered = x.0 } in
    record {
      entry = entry;
      found = ap (entry_of words) w.1 ∙ ap (entry_said words w.0) x.1;
      at_row = ap (λ (y : HeardEntry). y.row) x.2;
      emits = record {
        row = p.0;
        input = p.1;
        trigger = record {
          earlier = at.earlier;
          later = at.later;
          taken = at.taken;
          emitted = at.emitted;
          made = Contains-from_In (answer_input m (run m at.earlier).history p.1).facts (fact.Entered p.2) (subst (λ (f : Fact). In f (answer_input m (run m at.earlier).history p.1).facts) (entered_fact trigger.0 p.2 trigger.2) trigger.1);
        };
        at_row = ap (λ (y : HeardEntry). y.row) x.2;
        moment = entered_when m rs is emitted p.0 p.1 p.2 at w.0 x.0 (ap (λ (y : HeardEntry). y.to) x.2) (ap (λ (y : HeardEntry). y.id) x.2) (ap (λ (y : HeardEntry). y.moment) x.2) (ap (λ (y : HeardEntry). y.at_tick) x.2);
        whose = ap (λ (y : HeardEntry). y.to) x.2;
        number = ap (λ (y : HeardEntry). y.order) x.2;
        id = ap (λ (y : HeardEntry). y.id) x.2;
        symbol = ap (λ (y : HeardEntry). y.symbol) x.2;
        side = ap (λ (y : HeardEntry). y.side) x.2;
        quantity = ap (λ (y : HeardEntry). y.quantity) x.2;
        price = ap (λ (y : HeardEntry). y.price) x.2 ∙ at_its_price p.1 p.2;
        original = ap (λ (y : HeardEntry). y.original) x.2;
        held = held_as m rs is emitted p.0 p.1 p.2 at entry (ap (λ (y : HeardEntry). y.to) x.2) (ap (λ (y : HeardEntry). y.id) x.2) (ap (λ (y : HeardEntry). y.at_tick) x.2);
        link = link_found m rs is emitted p.2 (ap (find (λ (y : Entry). y.number == n)) same ∙ found_map_back all p (Places-found (λ (q : TrailRow × Input × Entry). q.2.number) 0 all places p i)) w.0 x.0 w.1 x.1;
      };
    }

-- The fills of a trade are found by its number: first the entering order's, then the other's.

-- what is found among the two fills of a trade with a number, past those of others
pub record FindsPair (test : HeardFill → Bool) (number old new found : ℕ) : Type 0 where
  pub over : (r o n : ℕ) → (n == number) ≡ false → test (record { row = r; order = o; trade = n }) ≡ false
  pub here : (r : ℕ) (rest : List HeardFill) → find test (record { row = r; order = new; trade = number } ∷ record { row = r; order = old; trade = number } ∷ rest) ≡ Some (record { row = r; order = found; trade = number })

pair_over : (test : HeardFill → Bool) (number old new found : ℕ) → FindsPair test number old new found → (r n : ℕ) (x : TradeSource) (rest : List HeardFill) → (n == number) ≡ false → find test (pair_emitted r n x rest) ≡ find test rest
pair_over test number old new found f r n (InBook a b) rest e =
    found_later test (record { row = r; order = b; trade = n }) (record { row = r; order = a; trade = n } ∷ rest) (f.over r b n e) ∙ found_later test (record { row = r; order = a; trade = n }) rest (f.over r a n e)
pair_over test number old new found f r n (InRoom room quote) rest e = refl

fill_found : (test : HeardFill → Bool) (number old new found : ℕ) → FindsPair test number old new found → (n k : ℕ) (ps : List (ℕ × Trade)) (p : ℕ × Trade) → slice_get ps k ≡ Some p → p.1.place ≡ InBook old new → number ≡ n + k
    → find test (fills_emitted n ps) ≡ Some (record { row = p.0; order = found; trade = number })
fill_found test number old new found f n k [] p e at is = absurd (none_is_some p e)
fill_found test number old new found f n zero (x ∷ xs) p e at is =
    let same : n ≡ number = start number n is in
    let first = same_some x p e in
    (λ j. find test (pair_emitted (first j).0 (same j) (first j).1.place (fills_emitted (n + 1) xs)))
    ∙ (ap (λ (y : TradeSource). find test (pair_emitted p.0 number y (fills_emitted (n + 1) xs))) at ∙ f.here p.0 (fills_emitted (n + 1) xs))
  where
    start : (a b : ℕ) → a ≡ b + 0 → b ≡ a
    start a b h = omega (arith, h)
fill_found test number old new found f n (suc k) (x ∷ xs) p e at is =
    pair_over test number old new found f x.0 n x.1.place (fills_emitted (n + 1) xs) (ne_eqb n number (λ same. apart number n k is same)) ∙ fill_found test number old new found f (n + 1) k xs p e at (next number n k is)
  where
    apart : (a b c : ℕ) → a ≡ b + suc c → b ≡ a → ⊥
    apart a b c h q = omega (arith, h, q)

    next : (a b c : ℕ) → a ≡ b + suc c → a ≡ b + 1 + c
    next a b c h = omega (arith, h)

finds_entering : (number old new : ℕ) → FindsPair (λ y. y.trade == number) number old new new
finds_entering number old new = record {
  over = λ r o n e. e;
  here = λ r rest. found_first (λ (y : HeardFill). y.trade == number) (record { row = r; order = new; trade = number }) (record { row = r; order = old; trade = number } ∷ rest) (eq-eqb number number refl);
}

not_same : (number a : ℕ) → (number == number && not (a == a)) ≡ false
not_same number a = ap (λ (b : Bool). number == number && not b) (eq-eqb a a refl) ∙ and_false (number == number)
  where
    and_false : (b : Bool) → (b && false) ≡ false
    and_false true = refl
    and_false false = refl

another : (number a b : ℕ) → (a ≡ b → ⊥) → (number == number && not (a == b)) ≡ true
another number a b apart = ap (λ (c : Bool). c && not (a == b)) (eq-eqb number number refl) ∙ ap not (ne_eqb a b apart)

other_number : (b : Bool) (c : Bool) → b ≡ false → (b && c) ≡ false
other_number b c e = ap (λ (x : Bool). x && c) e

finds_resting : (number old new : ℕ) → (old ≡ new → ⊥) → FindsPair (λ y. y.trade == number && not (y.order == new)) number old new old
finds_resting number old new apart = record {
  over = λ r o n e. other_number (n == number) (not (o == new)) e;
  here = λ r rest.
      let test : HeardFill → Bool = λ y. y.trade == number && not (y.order == new) in
      found_later test (record { row = r; order = new; trade = number }) (record { row = r; order = old; trade = number } ∷ rest) (not_same number new)
      ∙ found_first test (record { row = r; order = old; trade = number }) rest (another number old new apart);
}

-- an entry at the row and by the input of a trade
abbrev paired_with : TrailRow × Input × Trade → Entry → TrailRow × Input × Entry
paired_with q e = (q.0, q.1, e)

-- a trade in the book is reported at the row of the entering order
with_entry : (m : Market) (h : History) (rs : List TrailRow) (is : List Input) → AreEmitted rs is → (q : TrailRow × Input × Trade) (old new : ℕ) → In q (added trade_in_fact m h rs is) → q.2.place ≡ InBook old new
    → (e : Entry) × In (paired_with q e) (added entry_in_fact m h rs is) × (e.number ≡ new)
with_entry m h [] is emitted q old new i at = absurd i
with_entry m h (r ∷ rs) [] emitted q old new i at = absurd i
with_entry m h (r ∷ rs) (j ∷ js) emitted q old new i at =
    by r j rs js emitted (λ k. with_entry m (after h (answer_input m h j)) rs js emitted.1 q old new k at) (In-append_cases (map (λ x. (r, j, x)) (trades (answer_input m h j).facts)) (added trade_in_fact m (after h (answer_input m h j)) rs js) q i)
  where
    of_place : (es : List Entry) (x : TradeSource) → IsOf es x → x ≡ InBook old new → (e : Entry) × In e es × (e.number ≡ new)
    of_place es x is e = subst (λ (y : TradeSource). IsOf es y) e is

    of_trades : (es : List Entry) (ts : List Trade) → AreOf es ts → (x : Trade) → In x ts → IsOf es x.place
    of_trades es [] are x k = absurd k
    of_trades es (t ∷ ts) are x (inl same) = subst (λ (y : Trade). IsOf es y.place) same are.0
    of_trades es (t ∷ ts) are x (inr k) = of_trades es ts are.1 x k

    by : (r : TrailRow) (j : Input) (rs : List TrailRow) (js : List Input) → AreEmitted (r ∷ rs) (j ∷ js)
        → (In q (added trade_in_fact m (after h (answer_input m h j)) rs js) → (e : Entry) × In (paired_with q e) (added entry_in_fact m (after h (answer_input m h j)) rs js) × (e.number ≡ new))
        → In q (map (λ x. (r, j, x)) (trades (answer_input m h j).facts)) ⊎ In q (added trade_in_fact m (after h (answer_input m h j)) rs js)
        → (e : Entry) × In (paired_with q e) (added entry_in_fact m h (r ∷ rs) (j ∷ js)) × (e.number ≡ new)
    by r j rs js emitted rest (inl here) =
        let es = entries (answer_input m h j).facts in
        let k = In-map (λ (x : Trade). (r, j, x)) (trades (answer_input m h j).facts) q here in
        let e = of_place es q.2.place (of_trades es (trades (answer_input m h j).facts) (input-Says m h [] r j emitted.0).1.1.1.0 q.2 (subst (λ (x : Trade). In x (trades (answer_input m h j).facts)) (ap (λ (y : TrailRow × Input × Trade). y.2) k.2) k.1)) at in (
          e.0,
          In-append_left (map (λ x. (r, j, x)) es) (added entry_in_fact m (after h (answer_input m h j)) rs js) (paired_with q e.0)
              (subst (λ (y : TrailRow × Input × Trade). In (paired_with y e.0) (map (λ x. (r, j, x)) es)) k.2 (map_In (λ (x : Entry). (r, j, x)) es e.0 e.1)),
          e.2,
        )
    by r j rs js emitted rest (inr later) =
        let k = rest later in (k.0, In-append_right (map (λ x. (r, j, x)) (entries (answer_input m h j).facts)) (added entry_in_fact m (after h (answer_input m h j)) rs js) (paired_with q k.0) k.1, k.2)

-- The two orders.

not_opposite : (s : Side) → is_side s (opposite s) ≡ true → ⊥
not_opposite Buy e = true≢false (sym e)
not_opposite Sell e = true≢false (sym e)

and_first : (a b : Bool) → (a && b) ≡ true → a ≡ true
and_first true b e = refl
and_first false b e = e

and_second : (a b : Bool) → (a && b) ≡ true → b ≡ true
and_second true b e = e
and_second false b e = absurd (true≢false (sym e))

entered_then : (facts before : List Fact) (x : Trade) (e : Entry) → HappenedAfter facts before (fact.Traded x) → In (fact.Entered e) before → In e (entries facts)
entered_then facts before x e follows i = In-filter_map entry_in_fact facts (fact.Entered e) e (subst (λ (fs : List Fact). In (fact.Entered e) fs) (sym follows.1) (In-append_left before (fact.Traded x ∷ follows.0) (fact.Entered e) i)) refl

-- both orders of a trade in the book are entries of the day, of two numbers
pub record AreEntries (facts : List Fact) (old new : ℕ) : Type 0 where
  pub rested : Entry
  pub entered : Entry
  pub rested_in : In rested (entries facts)
  pub entered_in : In entered (entries facts)
  pub old_is : rested.number ≡ old
  pub new_is : entered.number ≡ new
  pub apart : old ≡ new → ⊥

are_entries : (facts : List Fact) → BestOrderTrades facts → Places (λ (e : Entry). e.number) 0 (entries facts) → (before : List Fact) (x : Trade) (old new : ℕ) → HappenedAfter facts before (fact.Traded x) → x.place ≡ InBook old new → AreEntries facts old new
are_entries facts law places before x old new follows at =
    let k = law before x old new follows at in
    let e = k.0 in
    let r = k.1.entry in
    let e_in = entered_then facts before x e follows (In-from_Contains before (fact.Entered e) k.3) in
    let r_in = entered_then facts before x r follows (In-from_Contains before (fact.Entered r) k.10) in
    let side : is_side r.order.side (opposite e.order.side) ≡ true = rested_side x.instrument (opposite e.order.side) r (left before r) k.11.0 in
    record {
      rested = r;
      entered = e;
      rested_in = r_in;
      entered_in = e_in;
      old_is = k.5;
      new_is = k.4;
      apart = λ same.
          let one : r ≡ e = Places-one (λ (y : Entry). y.number) 0 (entries facts) places r e r_in e_in (k.5 ∙ (same ∙ sym k.4)) in
          not_opposite e.order.side (ap (λ (y : Entry). is_side y.order.side (opposite e.order.side)) (sym one) ∙ side);
    }
  where
    rested_side : (place : ℕ) (side : Side) (r : Entry) (rest : ℕ) → rests place side (record { entry = r; left = rest }) ≡ true → is_side r.order.side side ≡ true
    rested_side place side r rest h =
        let on = is_side r.order.side side in
        let some = nat_lt 0 rest in
        let here = r.order.instrument == place in
        and_first on some (and_second here (on && some) (and_second (is_day r.order.life) (here && (on && some)) h))

-- The whole.

abbrev pub BestOrdersLaw : Type 0
BestOrdersLaw = (m : Market) (is : List Input) → BestOrderTrades (run m is).history.facts

abbrev pub PlacesLaw : Type 0
PlacesLaw = (m : Market) (is : List Input) → NumbersArePlaces (run m is).history.facts

lines_of : (m : Market) (rs : List TrailRow) (words stood : List EvidenceEvent) (noted : List ℕ) (t : TradeFact) (number old new : ℕ) (resting entering : OrderEntry) → t.number ≡ number → t.room ≡ None → row_of (find (is_sought (Fill number)) words) ≡ entering.row
    → order_of (find (is_sought (Fill number)) words) ≡ Some new → order_of (find (is_sought (OtherFill number new)) words) ≡ Some old → entry_of words (find (is_sought (Order old)) words) ≡ Some resting
    → entry_of words (find (is_sought (Order new)) words) ≡ Some entering
    → evidence m rs words stood noted t ≡ both_lines rs m.participants words stood (record { resting = resting; entering = entering; row = entering.row }) ++ (noted ++ last_lines m rs t entering.row)
unfolding evidence orders_lines
lines_of m rs words stood noted t number old new resting entering numbered placed at first second found_old found_new =
    let file = m.participants in
    let row : trade_row words t ≡ entering.row = (λ j. row_in words (numbered j) (placed j)) ∙ at in
    (λ j. lines_in rs file words stood (numbered j) (placed j) (row j) ++ (noted ++ last_lines m rs t (row j)))
    ∙ ap (λ (l : List ℕ). l ++ (noted ++ last_lines m rs t entering.row))
    (ap (λ (o : Option ℕ). filled_of rs file words stood number o entering.row) first
    ∙ (ap (λ (o : Option ℕ). other_of rs file words stood new o entering.row) second
    ∙ (λ j. two_orders rs file words stood (found_old j) (found_new j) entering.row)))

pub book_trades_have_orders : BestOrdersLaw → PlacesLaw → (m : Market) (rs : List TrailRow) (is : List Input) (number : ℕ) (t : TradeFact) → AreEmitted rs is
    → trade_numbered (run m is).history number ≡ Some t → t.room ≡ None → HasOrders m rs is (words_emitted m rs is) (stood_emitted m number rs is) number t
book_trades_have_orders best numbers m rs is number t emitted numbered placed =
    let facts = (run m is).history.facts in
    let words = words_emitted m rs is in
    let x = numbered_trade (trades facts) 1 (number - 1) t (numbered_at (trade_facts facts) number t numbered) in
    let from = from_one (trade_facts facts) number t numbered in
    let read : trade_fact number x.trade ≡ t = ap (λ (n : ℕ). trade_fact n x.trade) (from ∙ sym x.is_number) ∙ x.read_back in
    let place = in_book x.trade.place (ap (λ (y : TradeFact). y.room) read ∙ placed) in
    let old = place.0 in
    let new = place.1 in
    let there = happened facts (number - 1) x.trade x.at in
    let all = added entry_in_fact m no_history rs is in
    let same : entries facts ≡ map it all = added_are entry_in_fact m no_history rs is emitted in
    let in_places : Places (λ (e : Entry). e.number) 0 (entries facts) = Places-from (λ (e : Entry). e.number) 0 (entries facts) (λ k e h. (numbers m is).0 k e h ∙ from_zero k) in
    let places : Places (λ (p : TrailRow × Input × Entry). p.2.number) 0 all = Places-unmap it (λ (e : Entry). e.number) 0 all (subst (Places (λ (e : Entry). e.number) 0) same in_places) in
    let both = are_entries facts (best m is) in_places there.before x.trade old new there.follows place.2 in
    let rested = In-map it all both.rested (subst (In both.rested) same both.rested_in) in
    let entered = In-map it all both.entered (subst (In both.entered) same both.entered_in) in
    let found_old = entry_found m rs is emitted places rested.0 rested.1 in
    let found_new = entry_found m rs is emitted places entered.0 entered.1 in
    let old_is : rested.0.2.number ≡ old = ap (λ (e : Entry). e.number) rested.2 ∙ both.old_is in
    let new_is : entered.0.2.number ≡ new = ap (λ (e : Entry). e.number) entered.2 ∙ both.new_is in
    let made = added trade_in_fact m no_history rs is in
    let q = slice_unmap it made (number - 1) x.trade (ap (λ (ts : List Trade). slice_get ts (number - 1)) (sym (added_are trade_in_fact m no_history rs is emitted)) ∙ x.at) in
    let at : q.0.2.place ≡ InBook old new = ap (λ (y : Trade). y.place) q.2 ∙ place.2 in
    let listed = day_fills m no_history rs is emitted in
    let sliced = slice_map trade_at made (number - 1) q.0 q.1 in
    let fill_test_is : HeardFill → Bool = λ y. y.trade == number in
    let other_test_is : HeardFill → Bool = λ y. y.trade == number && not (y.order == new) in
    let first = found_picked fill_in fill_test_is (is_sought (Fill number)) (λ w. fill_test number w w.said) words (record { row = q.0.0.n; order = new; trade = number })
    (ap (find fill_test_is) listed ∙ fill_found fill_test_is number old new new (finds_entering number old new) 1 (number - 1) (map trade_at made) (trade_at q.0) sliced at from) in
    let second = found_picked fill_in other_test_is (is_sought (OtherFill number new)) (λ w. other_test number new w w.said) words (record { row = q.0.0.n; order = old; trade = number })
    (ap (find other_test_is) listed ∙ fill_found other_test_is number old new old (finds_resting number old new both.apart) 1 (number - 1) (map trade_at made) (trade_at q.0) sliced at from) in
    let by_first = filled_in first.0 first.0.said _ first.2 in
    let by_second = filled_in second.0 second.0.said _ second.2 in
    let own = with_entry m no_history rs is emitted q.0 old new (slice_In made (number - 1) q.0 q.1) at in
    let stood = stood_once m number no_history rs is emitted (number - 1) old new q.0 q.1 at from in
    let answered = (answer_input m (run m stood.earlier).history q.0.1).facts in
    let trigger = picked_from trade_in_fact answered q.0.2 stood.made in
    let met_one : stood.of ≡ both.rested = Places-one (λ (e : Entry). e.number) 0 (entries facts) in_places stood.of both.rested stood.of_in both.rested_in (stood.number_is ∙ sym both.old_is) in
    let together : paired_with q.0 own.0 ≡ entered.0 = Places-one (λ (p : TrailRow × Input × Entry). p.2.number) 0 all places (paired_with q.0 own.0) entered.0 own.1 entered.1 (own.2 ∙ sym new_is) in
    record {
      trade = x.trade;
      rested = rested.0.2;
      entered = entered.0.2;
      numbered = x.at;
      between = place.2 ∙ (λ j. InBook (sym old_is j) (sym new_is j));
      resting = found_old.entry;
      entering = found_new.entry;
      emits_rested = found_old.emits;
      emits_entered = found_new.emits;
      linked = λ j. are_linked m.participants (found_old.emits.whose j) (found_old.emits.link j) (found_new.emits.whose j) (found_new.emits.link j);
      read_back = sym read;
      standing = record {
        row = q.0.0;
        input = q.0.1;
        made = record {
          earlier = stood.earlier;
          later = stood.later;
          taken = stood.taken;
          emitted = stood.emitted;
          made = Contains-from_In answered (fact.Traded x.trade) (subst (λ (f : Fact). In f answered) (traded_fact trigger.0 q.0.2 trigger.2 ∙ ap (λ (y : Trade). fact.Traded y) q.2) trigger.1);
        };
        said = stood.said ∙ ap (λ (e : Entry). stood_words q.0.0.n q.0.0.moment (met_emitted m e) (prices_of m (run m stood.earlier).history (symbol_of m.instruments e.order.instrument))) (met_one ∙ sym rested.2);
      };
      lines = λ noted. lines_of m rs words (stood_emitted m number rs is) noted t number old new found_old.entry found_new.entry (ap (λ (y : TradeFact). y.number) (sym read)) placed
          (ap row_of first.1 ∙ (by_first.1 ∙ (ap (λ (p : TrailRow × Input × Entry). p.0.n) together ∙ sym found_new.at_row))) (ap order_of first.1 ∙ by_first.0) (ap order_of second.1 ∙ by_second.0)
          (ap (λ (n : ℕ). entry_of words (find (is_sought (Order n)) words)) (sym old_is) ∙ found_old.found) (ap (λ (n : ℕ). entry_of words (find (is_sought (Order n)) words)) (sym new_is) ∙ found_new.found);
    }
  where
    from_zero : (k : ℕ) → k + 1 ≡ 0 + k + 1
    from_zero k = omega arith

-- Each trade is reported at the row at which it was made: in the book by the fills, in a room by the hit.

hit_row : (w : EvidenceEvent) (s : EventKind) (y : HeardHit) → trade_of_said w s ≡ Some y → w.row ≡ y.row
hit_row w (said.Hit x) y h = ap (λ (o : HeardHit). o.row) (same_some _ y h)
hit_row w (said.Asked x) y h = absurd (none_is_some y h)
hit_row w (said.SnapshotSent x) y h = absurd (none_is_some y h)
hit_row w (said.Shown x) y h = absurd (none_is_some y h)
hit_row w (said.Quoted x) y h = absurd (none_is_some y h)
hit_row w (said.Entered x) y h = absurd (none_is_some y h)
hit_row w (said.Held x) y h = absurd (none_is_some y h)
hit_row w (said.Filled x) y h = absurd (none_is_some y h)
hit_row w (said.RestedBefore x) y h = absurd (none_is_some y h)
hit_row w (said.RestedCount x) y h = absurd (none_is_some y h)

hit_test : (n : ℕ) (w : EvidenceEvent) (s : EventKind) → hits_said n s ≡ picked_passes (λ y. y.trade == n) (trade_of_said w s)
hit_test n w (said.Hit x) = refl
hit_test n w (said.Asked x) = refl
hit_test n w (said.SnapshotSent x) = refl
hit_test n w (said.Shown x) = refl
hit_test n w (said.Quoted x) = refl
hit_test n w (said.Entered x) = refl
hit_test n w (said.Held x) = refl
hit_test n w (said.Filled x) = refl
hit_test n w (said.RestedBefore x) = refl
hit_test n w (said.RestedCount x) = refl

hits_over : (number r n : ℕ) (price : ℤ) (x : TradeSource) (rest : List HeardHit) → (n == number) ≡ false → find (λ (y : HeardHit). y.trade == number) (hits_of r n price x rest) ≡ find (λ (y : HeardHit). y.trade == number) rest
hits_over number r n price (InBook a b) rest e = refl
hits_over number r n price (InRoom room quote) rest e =
    let test : HeardHit → Bool = λ y. y.trade == number in
    let emitted = hit_emitted r n price room quote in
    found_later test emitted (emitted ∷ rest) e ∙ found_later test emitted rest e

hit_found : (number room quote n k : ℕ) (ps : List (ℕ × Trade)) (p : ℕ × Trade) → slice_get ps k ≡ Some p → p.1.place ≡ InRoom room quote → number ≡ n + k
    → find (λ (y : HeardHit). y.trade == number) (hits_emitted n ps) ≡ Some (hit_emitted p.0 number p.1.price room quote)
hit_found number room quote n k [] p e at is = absurd (none_is_some p e)
hit_found number room quote n zero (x ∷ xs) p e at is =
    let test : HeardHit → Bool = λ y. y.trade == number in
    let rest = hits_emitted (n + 1) xs in
    let emitted = hit_emitted p.0 number p.1.price room quote in
    let same : n ≡ number = start number n is in
    let first = same_some x p e in
    (λ j. find test (hits_of (first j).0 (same j) (first j).1.price (first j).1.place rest)) ∙ (ap (λ (y : TradeSource). find test (hits_of p.0 number p.1.price y rest)) at ∙ found_first test emitted (emitted ∷ rest) (eq-eqb number number refl))
  where
    start : (a b : ℕ) → a ≡ b + 0 → b ≡ a
    start a b h = omega (arith, h)
hit_found number room quote n (suc k) (x ∷ xs) p e at is =
    hits_over number x.0 n x.1.price x.1.place (hits_emitted (n + 1) xs) (ne_eqb n number (λ same. apart number n k is same)) ∙ hit_found number room quote (n + 1) k xs p e at (next number n k is)
  where
    apart : (a b c : ℕ) → a ≡ b + suc c → b ≡ a → ⊥
    apart a b c h q = omega (arith, h, q)

    next : (a b c : ℕ) → a ≡ b + suc c → a ≡ b + 1 + c
    next a b c h = omega (arith, h)

-- the hit of a trade in a room is found, with its quote and its price
record HitFound (words : List EvidenceEvent) (number quote : ℕ) (q : TrailRow × Input × Trade) : Type 0 where
  pub event : EvidenceEvent
  pub found : find (is_sought (Hit number)) words ≡ Some event
  pub at_row : event.row ≡ q.0.n
  pub hit : HitEvent
  pub says : event.said ≡ said.Hit hit
  pub quote_is : hit.quote ≡ printed 81 quote
  pub price_is : hit.price ≡ q.2.price

hit_in : (w : EvidenceEvent) (s : EventKind) (y : HeardHit) → trade_of_said w s ≡ Some y → (x : HitEvent) × (s ≡ said.Hit x) × (x.quote ≡ y.quote) × (x.price ≡ y.price)
hit_in w (said.Hit x) y h = (x, refl, ap (λ (o : HeardHit). o.quote) (same_some _ y h), ap (λ (o : HeardHit). o.price) (same_some _ y h))
hit_in w (said.Asked x) y h = absurd (none_is_some y h)
hit_in w (said.SnapshotSent x) y h = absurd (none_is_some y h)
hit_in w (said.Shown x) y h = absurd (none_is_some y h)
hit_in w (said.Quoted x) y h = absurd (none_is_some y h)
hit_in w (said.Entered x) y h = absurd (none_is_some y h)
hit_in w (said.Held x) y h = absurd (none_is_some y h)
hit_in w (said.Filled x) y h = absurd (none_is_some y h)
hit_in w (said.RestedBefore x) y h = absurd (none_is_some y h)
hit_in w (said.RestedCount x) y h = absurd (none_is_some y h)

hit_of : (m : Market) (number : ℕ) (rs : List TrailRow) (is : List Input) → AreEmitted rs is → number ≡ 1 + (number - 1) → (q : TrailRow × Input × Trade) → slice_get (added trade_in_fact m no_history rs is) (number - 1) ≡ Some q
    → (room quote : ℕ) → q.2.place ≡ InRoom room quote → HitFound (words_emitted m rs is) number quote q
hit_of m number rs is emitted from q e room quote at =
    let words = words_emitted m rs is in
    let made = added trade_in_fact m no_history rs is in
    let test : HeardHit → Bool = λ y. y.trade == number in
    let y = hit_emitted q.0.n number q.2.price room quote in
    let first = found_picked traded_in test (is_sought (Hit number)) (λ w. hit_test number w w.said) words y
    (ap (find test) (day_hits m no_history rs is emitted) ∙ hit_found number room quote 1 (number - 1) (map trade_at made) (trade_at q) (slice_map trade_at made (number - 1) q e) at from) in
    let x = hit_in first.0 first.0.said y first.2 in
    record {
      event = first.0;
      found = first.1;
      at_row = hit_row first.0 first.0.said y first.2;
      hit = x.0;
      says = x.1;
      quote_is = x.2;
      price_is = x.3;
    }

-- the row of the first event of a trade, by where it was made
row_found : (m : Market) (number : ℕ) (rs : List TrailRow) (is : List Input) → AreEmitted rs is → number ≡ 1 + (number - 1) → (q : TrailRow × Input × Trade) → slice_get (added trade_in_fact m no_history rs is) (number - 1) ≡ Some q
    → (place : TradeSource) → q.2.place ≡ place → row_in (words_emitted m rs is) number (room_of place) ≡ q.0.n
row_found m number rs is emitted from q e (InBook old new) at =
    let words = words_emitted m rs is in
    let made = added trade_in_fact m no_history rs is in
    let test : HeardFill → Bool = λ y. y.trade == number in
    let first = found_picked fill_in test (is_sought (Fill number)) (λ w. fill_test number w w.said) words (record { row = q.0.n; order = new; trade = number })
    (ap (find test) (day_fills m no_history rs is emitted) ∙ fill_found test number old new new (finds_entering number old new) 1 (number - 1) (map trade_at made) (trade_at q) (slice_map trade_at made (number - 1) q e) at from) in
    ap row_of first.1 ∙ (filled_in first.0 first.0.said _ first.2).1
row_found m number rs is emitted from q e (InRoom room quote) at = let hit = hit_of m number rs is emitted from q e room quote at in ap row_of hit.found ∙ hit.at_row

pub trades_have_rows : (m : Market) (rs : List TrailRow) (is : List Input) (number : ℕ) (t : TradeFact) → AreEmitted rs is → trade_numbered (run m is).history number ≡ Some t → HasRow m rs is (words_emitted m rs is) number t
trades_have_rows m rs is number t emitted numbered =
    let facts = (run m is).history.facts in
    let words = words_emitted m rs is in
    let x = numbered_trade (trades facts) 1 (number - 1) t (numbered_at (trade_facts facts) number t numbered) in
    let from = from_one (trade_facts facts) number t numbered in
    let read : trade_fact number x.trade ≡ t = ap (λ (n : ℕ). trade_fact n x.trade) (from ∙ sym x.is_number) ∙ x.read_back in
    let made = added trade_in_fact m no_history rs is in
    let q = slice_unmap it made (number - 1) x.trade (ap (λ (ts : List Trade). slice_get ts (number - 1)) (sym (added_are trade_in_fact m no_history rs is emitted)) ∙ x.at) in
    let at = is_added trade_in_fact m no_history rs is emitted q.0 (slice_In made (number - 1) q.0 q.1) in
    let answered = (answer_input m (run m at.earlier).history q.0.1).facts in
    let trigger = picked_from trade_in_fact answered q.0.2 at.made in
    record {
      trade = x.trade;
      numbered = x.at;
      read_back = sym read;
      row = q.0.0;
      input = q.0.1;
      made = record {
        earlier = at.earlier;
        later = at.later;
        taken = at.taken;
        emitted = at.emitted;
        made = Contains-from_In answered (fact.Traded x.trade) (subst (λ (f : Fact). In f answered) (traded_fact trigger.0 q.0.2 trigger.2 ∙ ap (λ (y : Trade). fact.Traded y) q.2) trigger.1);
      };
      hit = λ room quote placed.
          let found = hit_of m number rs is emitted from q.0 q.1 room quote (ap (λ (y : Trade). y.place) q.2 ∙ placed) in
          record { event = found.event; found = found.found; hit = found.hit; says = found.says; quote_is = found.quote_is; price_is = found.price_is ∙ ap (λ (y : Trade). y.price) q.2 };
      at_row = ap (trade_row words) (sym read) ∙ row_found m number rs is emitted from q.0 q.1 x.trade.place (ap (λ (y : Trade). y.place) q.2);
    }
