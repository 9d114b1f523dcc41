-- What is noted of a trade in the book is what rested before the order that it filled.
use Rattle.std.proofs.Common.{◌≡◌, refl, sym, ap, subst, ◌∙◌, ◌⊎◌, inl, inr, ℕ, zero, suc, ◌+◌, ◌<◌, ◌≤◌, ◌==◌, Bool, true, false, if◌then◌else◌, List, [], ◌∷◌, ◌++◌, map, filter_map, length, slice_get, Option, Some, None, append-nil, eq-eqb, ne_eqb, arith}
use Rattle.std.specs.Prelude.{option_map}
use Rattle.std.specs.List.{cons_option}
use Rattle.std.proofs.lemmas.List.Elements.{filter_map-append}
use Rattle.std.proofs.lemmas.List.{length-map}
use Rattle.instruments.specs.Listing.{symbol_of}
use Rattle.venue_rules.specs.declared.facts.Entry.{Entry}
use Rattle.venue_rules.specs.declared.facts.Fact.{Fact}
use Rattle.venue_rules.specs.declared.facts.TradeSource.{TradeSource}
use Rattle.venue_rules.specs.declared.facts.TradeSource.TheVariants.{Book as InBook, Room as InRoom}
use Rattle.venue_rules.specs.declared.facts.Trade.{Trade}
use Rattle.venue_rules.specs.declared.replies.FilledReport.{FilledReport}
use Rattle.venue_rules.specs.declared.replies.Reply.{Reply}
use Rattle.venue_rules.specs.declared.replies.ReplyBody.{ReplyBody}
use Rattle.venue_rules.specs.declared.replies.ReplyBody.TheVariants as what
use Rattle.venue_rules.specs.declared.trail.TrailRow.{TrailRow}
use Rattle.venue_rules.specs.Facts.{History, entries, entry_in as entry_in_fact, next_trade, trade_in as trade_in_fact, trades}
use Rattle.venue_rules.specs.Market.{Market}
use Rattle.venue_rules.specs.Run.{Input, after, answer_input, run_from}
use Rattle.trade_reconstruction.specs.declared.standing.Met.{Met}
use Rattle.trade_reconstruction.specs.Found.{met_emitted}
use Rattle.trade_reconstruction.specs.Standing.{later, met_after, met_by, met_filled, met_of, met_what, prices_of, stood_met, stood_words}
use Rattle.venue_core.specs.Replay.{AreEmitted, Emits}
use Rattle.trade_reconstruction.specs.Emitted.{stood_on}
use Rattle.venue_rules.proofs.Members.{In, In-append_left}
use Rattle.trade_blotter.proofs.Lists.{none_is_some, same_some}
use Rattle.trade_reconstruction.proofs.Members.{slice_In, slice_append, slice_map, slice_unmap, slice_within}
use Rattle.trade_reconstruction.proofs.Says.{HeardFill, fill_by, fill_from, fill_what}
use Rattle.trade_reconstruction.proofs.Replies.{FillsOf, at_row, fills_emitted, input-Says, met_in, met_in_what, pair_emitted}
use Rattle.trade_reconstruction.proofs.Days.{added, next_trades}
use Rattle.trade_reconstruction.proofs.Holds.{run_grows}

-- The filled order is that of the fills.

abbrev last_order : ℕ → Option ℕ → List HeardFill → Option ℕ
last_order number o [] = o
last_order number o (y ∷ ys) = last_order number (if y.trade == number then Some y.order else o) ys

abbrev resting_of : Option Met → Option ℕ
resting_of met = option_map (λ (x : Met). x.resting) met

abbrev then_order : ℕ → Option ℕ → Option HeardFill → List HeardFill → Option ℕ
then_order number o None ys = last_order number o ys
then_order number o (Some y) ys = last_order number (if y.trade == number then Some y.order else o) ys

then_cons : (number : ℕ) (o : Option ℕ) (x : Option HeardFill) (ys : List HeardFill) → last_order number o (cons_option x ys) ≡ then_order number o x ys
then_cons number o None ys = refl
then_cons number o (Some y) ys = refl

met_order : (n number : ℕ) (met : Option Met) (to : ℕ) (f : FilledReport) (o : Option ℕ) (ys : List HeardFill) → last_order number (resting_of (later met (if f.trade == number then met_of to f o else None))) ys ≡ then_order number (resting_of met) (fill_from n f o) ys
met_order n number met to f None ys = elim (f.trade == number) as (λ b. last_order number (resting_of (later met (if b then None else None))) ys ≡ last_order number (resting_of met) ys) [ true ↦ refl | false ↦ refl ]
met_order n number met to f (Some order) ys =
    elim (f.trade == number) as (λ b. last_order number (resting_of (later met (if b then met_of to f (Some order) else None))) ys ≡ last_order number (if b then Some order else resting_of met) ys) [ true ↦ refl | false ↦ refl ]

met_by_what : (n number : ℕ) (met : Option Met) (to : ℕ) (x : ReplyBody) (ys : List HeardFill) → last_order number (resting_of (later met (met_what number to x))) ys ≡ then_order number (resting_of met) (fill_what n x) ys
met_by_what n number met to (what.OrderFilled f) ys = met_order n number met to f f.order.order ys
met_by_what n number met to (what.RequestSent r) ys = refl
met_by_what n number met to (what.BookSnapshot p) ys = refl
met_by_what n number met to (what.QuoteSent q) ys = refl
met_by_what n number met to (what.OrderEntered r) ys = refl
met_by_what n number met to (what.OrderReplaced r) ys = refl
met_by_what n number met to (what.RoomTraded r) ys = refl
met_by_what n number met to (what.OrderRefused r) ys = refl
met_by_what n number met to (what.CrossRefused r) ys = refl
met_by_what n number met to (what.OrderUnfilled r) ys = refl
met_by_what n number met to (what.OrderCancelled r) ys = refl
met_by_what n number met to (what.ChangeRefused r) ys = refl
met_by_what n number met to (what.RequestRefused r) ys = refl
met_by_what n number met to (what.QuoteStatus r) ys = refl
met_by_what n number met to (what.MarketDataReject r) ys = refl
met_by_what n number met to (what.BusinessReject r) ys = refl

met_is_last : (n number : ℕ) (met : Option Met) (rs : List Reply) → resting_of (met_after number met rs) ≡ last_order number (resting_of met) (filter_map (fill_by n) rs)
met_is_last n number met [] = refl
met_is_last n number met (r ∷ rs) =
    met_is_last n number (later met (met_by number r)) rs
    ∙ (met_by_what n number met r.to r.what (filter_map (fill_by n) rs) ∙ sym (then_cons number (resting_of met) (fill_what n r.what) (filter_map (fill_by n) rs)))

-- fills of other trades state none
pair_other : (number : ℕ) (o : Option ℕ) (n trade : ℕ) (x : TradeSource) (ys : List HeardFill) → (trade == number) ≡ false → last_order number o (pair_emitted n trade x ys) ≡ last_order number o ys
pair_other number o n trade (InBook old new) ys e = (λ j. last_order number (if e j then Some old else (if e j then Some new else o)) ys)
pair_other number o n trade (InRoom room quote) ys e = refl

later_fills : (number : ℕ) (o : Option ℕ) (trade : ℕ) (ps : List (ℕ × Trade)) → number < trade → last_order number o (fills_emitted trade ps) ≡ o
later_fills number o trade [] low = refl
later_fills number o trade (p ∷ ps) low =
    pair_other number o p.0 trade p.1.place (fills_emitted (trade + 1) ps) (ne_eqb trade number (λ e. apart trade number e low)) ∙ later_fills number o (trade + 1) ps (more trade number low)
  where
    apart : (a b : ℕ) → a ≡ b → b < a → ⊥
    apart a b e l = omega (arith, e, l)

    more : (a b : ℕ) → b < a → b < a + 1
    more a b l = omega (arith, l)

earlier_fills : (number : ℕ) (o : Option ℕ) (trade : ℕ) (ps : List (ℕ × Trade)) → trade + length ps ≤ number → last_order number o (fills_emitted trade ps) ≡ o
earlier_fills number o trade [] low = refl
earlier_fills number o trade (p ∷ ps) low =
    pair_other number o p.0 trade p.1.place (fills_emitted (trade + 1) ps) (ne_eqb trade number (λ e. apart trade number (length ps) e low)) ∙ earlier_fills number o (trade + 1) ps (more trade number (length ps) low)
  where
    apart : (a b l : ℕ) → a ≡ b → a + suc l ≤ b → ⊥
    apart a b l e k = omega (arith, e, k)

    more : (a b l : ℕ) → a + suc l ≤ b → a + 1 + l ≤ b
    more a b l k = omega (arith, k)

own_fills : (number old new : ℕ) (o : Option ℕ) (trade k : ℕ) (ps : List (ℕ × Trade)) (p : ℕ × Trade) → slice_get ps k ≡ Some p → p.1.place ≡ InBook old new → number ≡ trade + k → last_order number o (fills_emitted trade ps) ≡ Some old
own_fills number old new o trade k [] p e at is = absurd (none_is_some p e)
own_fills number old new o trade zero (x ∷ xs) p e at is =
    let same : trade ≡ number = start number trade is in
    let rest = fills_emitted (trade + 1) xs in
    (λ j. last_order number o (pair_emitted x.0 trade (same_some x p e j).1.place rest))
    ∙ (ap (λ (y : TradeSource). last_order number o (pair_emitted x.0 trade y rest)) at
    ∙ (ap (λ (b : Bool). last_order number (if b then Some old else (if b then Some new else o)) rest) (eq-eqb trade number same) ∙ later_fills number (Some old) (trade + 1) xs (above number trade is)))
  where
    start : (a b : ℕ) → a ≡ b + 0 → b ≡ a
    start a b h = omega (arith, h)

    above : (a b : ℕ) → a ≡ b + 0 → a < b + 1
    above a b h = omega (arith, h)
own_fills number old new o trade (suc k) (x ∷ xs) p e at is =
    pair_other number o x.0 trade x.1.place (fills_emitted (trade + 1) xs) (ne_eqb trade number (λ same. apart number trade k is same)) ∙ own_fills number old new o (trade + 1) k xs p e at (next number trade k is)
  where
    apart : (a b c : ℕ) → a ≡ b + suc c → b ≡ a → ⊥
    apart a b c h q = omega (arith, h, q)

    next : (a b c : ℕ) → a ≡ b + suc c → a ≡ b + 1 + c
    next a b c h = omega (arith, h)

-- The filled order is one of the day.

abbrev MetAfter : Option Met → List Met → Met → Type 0
MetAfter before all met = (before ≡ Some met) ⊎ In met all

met_filled_in : (number to : ℕ) (f : FilledReport) (met : Met) → met_filled number to f ≡ Some met → met_of to f f.order.order ≡ Some met
met_filled_in number to f met e =
    (elim (f.trade == number) as (λ b. (if b then met_of to f f.order.order else None) ≡ Some met → met_of to f f.order.order ≡ Some met) [ true ↦ λ k. k | false ↦ λ k. absurd (none_is_some met k) ]) e

met_here : (number to : ℕ) (x : ReplyBody) (met : Met) → met_what number to x ≡ Some met → met_in_what to x ≡ Some met
met_here number to (what.OrderFilled f) met e = met_filled_in number to f met e
met_here number to (what.RequestSent r) met e = e
met_here number to (what.BookSnapshot p) met e = e
met_here number to (what.QuoteSent q) met e = e
met_here number to (what.OrderEntered r) met e = e
met_here number to (what.OrderReplaced r) met e = e
met_here number to (what.RoomTraded r) met e = e
met_here number to (what.OrderRefused r) met e = e
met_here number to (what.CrossRefused r) met e = e
met_here number to (what.OrderUnfilled r) met e = e
met_here number to (what.OrderCancelled r) met e = e
met_here number to (what.ChangeRefused r) met e = e
met_here number to (what.RequestRefused r) met e = e
met_here number to (what.QuoteStatus r) met e = e
met_here number to (what.MarketDataReject r) met e = e
met_here number to (what.BusinessReject r) met e = e

later_met : (before now : Option Met) (met : Met) → later before now ≡ Some met → (before ≡ Some met) ⊎ (now ≡ Some met)
later_met before None met e = inl e
later_met before (Some x) met e = inr e

cons_first : (o : Option Met) (met : Met) (xs : List Met) → o ≡ Some met → In met (cons_option o xs)
cons_first o met xs e = subst (λ (y : Option Met). In met (cons_option y xs)) (sym e) (inl refl)

cons_behind : (o : Option Met) (met : Met) (xs : List Met) → In met xs → In met (cons_option o xs)
cons_behind None met xs i = i
cons_behind (Some x) met xs i = inr i

met_among : (number : ℕ) (before : Option Met) (rs : List Reply) (met : Met) → met_after number before rs ≡ Some met → MetAfter before (filter_map met_in rs) met
met_among number before [] met e = inl e
met_among number before (r ∷ rs) met e = by (met_among number (later before (met_by number r)) rs met e)
  where
    at : (before ≡ Some met) ⊎ (met_by number r ≡ Some met) → MetAfter before (cons_option (met_in r) (filter_map met_in rs)) met
    at (inl k) = inl k
    at (inr k) = inr (cons_first (met_in r) met (filter_map met_in rs) (met_here number r.to r.what met k))

    by : MetAfter (later before (met_by number r)) (filter_map met_in rs) met → MetAfter before (cons_option (met_in r) (filter_map met_in rs)) met
    by (inl k) = at (later_met before (met_by number r) met k)
    by (inr k) = inr (cons_behind (met_in r) met (filter_map met_in rs) k)

not_before : (all : List Met) (met : Met) → MetAfter None all met → In met all
not_before all met (inl e) = absurd (none_is_some met e)
not_before all met (inr i) = i

fill_of : (m : Market) (es : List Entry) (xs : List Met) (x : Met) → FillsOf m es xs → In x xs → (e : Entry) × In e es × (x ≡ met_emitted m e)
fill_of m es [] x are i = absurd i
fill_of m es (y ∷ ys) x are (inl e) = (are.0.0, are.0.1, sym e ∙ are.0.2)
fill_of m es (y ∷ ys) x are (inr i) = fill_of m es ys x are.1 i

-- One row reports what rested.

some_met : (o : Option Met) (old : ℕ) → resting_of o ≡ Some old → (met : Met) × (o ≡ Some met) × (met.resting ≡ old)
some_met None old e = absurd (none_is_some old e)
some_met (Some met) old e = (met, refl, same_some met.resting old e)

no_met : (o : Option Met) → resting_of o ≡ None → o ≡ None
no_met None e = refl
no_met (Some met) e = absurd (none_is_some met.resting (sym e))

-- the order of the trade with a number, by the reports of an answer
met_emitted_by : (m : Market) (h : History) (r : TrailRow) (i : Input) (number : ℕ) → Emits r i
    → resting_of (met_after number None (answer_input m h i).replies) ≡ last_order number None (fills_emitted (next_trade h.facts) (at_row r.n (trades (answer_input m h i).facts)))
met_emitted_by m h r i number emits = met_is_last r.n number None (answer_input m h i).replies ∙ ap (last_order number None) (input-Says m h [] r i emits).1.0

stood_none : (m : Market) (number : ℕ) (h : History) (rs : List TrailRow) (is : List Input) → AreEmitted rs is → number < next_trade h.facts → stood_on m number h rs is ≡ []
stood_none m number h [] is emitted low = refl
stood_none m number h (r ∷ rs) [] emitted low = refl
stood_none m number h (r ∷ rs) (i ∷ is) emitted low =
    let a = answer_input m h i in
    let none = no_met (met_after number None a.replies) (met_emitted_by m h r i number emitted.0 ∙ later_fills number None (next_trade h.facts) (at_row r.n (trades a.facts)) low) in
    ap (λ (o : Option Met). stood_met m h r.n r.moment o ++ stood_on m number (after h a) rs is) none
    ∙ stood_none m number (after h a) rs is emitted.1 (higher (length (trades (h.facts ++ a.facts)) + 1) (next_trade h.facts) (length (trades a.facts)) (next_trades h a.facts) low)
  where
    higher : (x y z : ℕ) → x ≡ y + z → number < y → number < x
    higher x y z e l = omega (arith, e, l)

pub record StoodAt (m : Market) (number : ℕ) (h : History) (rs : List TrailRow) (is : List Input) (q : TrailRow × Input × Trade) (old : ℕ) : Type 0 where
  pub earlier : List Input
  pub later : List Input
  pub taken : is ≡ earlier ++ q.1 ∷ later
  pub emitted : slice_get rs (length earlier) ≡ Some q.0
  pub made : In q.2 (trades (answer_input m (run_from m h earlier).history q.1).facts)
  pub of : Entry
  pub of_in : In of (entries (run_from m h is).history.facts)
  pub number_is : of.number ≡ old
  pub said : stood_on m number h rs is ≡ stood_words q.0.n q.0.moment (met_emitted m of) (prices_of m (run_from m h earlier).history (symbol_of m.instruments of.order.instrument))

stood_here : (m : Market) (number : ℕ) (h : History) (r : TrailRow) (i : Input) (rs : List TrailRow) (is : List Input) → AreEmitted (r ∷ rs) (i ∷ is) → (k old new : ℕ) (x : Trade) → slice_get (trades (answer_input m h i).facts) k ≡ Some x
    → x.place ≡ InBook old new → number ≡ next_trade h.facts + k → StoodAt m number h (r ∷ rs) (i ∷ is) (r, i, x) old
stood_here m number h r i rs is emitted k old new x at place from =
    let a = answer_input m h i in
    let met = some_met (met_after number None a.replies) old
    (met_emitted_by m h r i number emitted.0 ∙ own_fills number old new None (next_trade h.facts) k (at_row r.n (trades a.facts)) (r.n, x) (slice_map (λ (y : Trade). (r.n, y)) (trades a.facts) k x at) place from) in
    let of = fill_of m (entries h.facts ++ entries a.facts) (filter_map met_in a.replies) met.0 (input-Says m h [] r i emitted.0).1.1.1.1.1.1.0 (not_before (filter_map met_in a.replies) met.0 (met_among number None a.replies met.0 met.1)) in
    let grows = run_grows m (after h a) [] is in
    let known : In of.0 (entries (h.facts ++ a.facts)) = subst (In of.0) (sym (filter_map-append entry_in_fact h.facts a.facts)) of.1 in
    let rest = stood_none m number (after h a) rs is emitted.1 (higher (length (trades (h.facts ++ a.facts)) + 1) (next_trade h.facts) (length (trades a.facts)) k (next_trades h a.facts) from (slice_within (trades a.facts) k x at)) in
    let met_is : met_after number None a.replies ≡ Some (met_emitted m of.0) = met.1 ∙ ap (λ (y : Met). Some y) of.2 in
    record {
      earlier = [];
      later = is;
      taken = refl;
      emitted = refl;
      made = slice_In (trades a.facts) k x at;
      of = of.0;
      of_in = subst (λ (fs : List Fact). In of.0 (entries fs)) (sym grows.1) (subst (In of.0) (sym (filter_map-append entry_in_fact (h.facts ++ a.facts) grows.0)) (In-append_left (entries (h.facts ++ a.facts)) (entries grows.0) of.0 known));
      number_is = ap (λ (y : Met). y.resting) (sym of.2) ∙ met.2;
      said = (λ j. stood_met m h r.n r.moment (met_is j) ++ rest j) ∙ append-nil (stood_words r.n r.moment (met_emitted m of.0) (prices_of m h (symbol_of m.instruments of.0.order.instrument)));
    }
  where
    higher : (x y z k : ℕ) → x ≡ y + z → number ≡ y + k → k < z → number < x
    higher x y z k e f l = omega (arith, e, f, l)

stood_later : (m : Market) (number : ℕ) (h : History) (r : TrailRow) (i : Input) (rs : List TrailRow) (is : List Input) → Emits r i → (q : TrailRow × Input × Trade) (old j : ℕ) → number ≡ next_trade h.facts + (length (trades (answer_input m h i).facts) + j)
    → StoodAt m number (after h (answer_input m h i)) rs is q old → StoodAt m number h (r ∷ rs) (i ∷ is) q old
stood_later m number h r i rs is emits q old j from s =
    let a = answer_input m h i in
    let none = no_met (met_after number None a.replies)
    (met_emitted_by m h r i number emits ∙ earlier_fills number None (next_trade h.facts) (at_row r.n (trades a.facts)) (lower (next_trade h.facts) (length (trades a.facts)) (length (at_row r.n (trades a.facts))) (length-map (trades a.facts) (λ (x : Trade). (r.n, x))) from)) in
    record {
      earlier = i ∷ s.earlier;
      later = s.later;
      taken = ap (λ (l : List Input). i ∷ l) s.taken;
      emitted = s.emitted;
      made = s.made;
      of = s.of;
      of_in = s.of_in;
      number_is = s.number_is;
      said = ap (λ (o : Option Met). stood_met m h r.n r.moment o ++ stood_on m number (after h a) rs is) none ∙ s.said;
    }
  where
    lower : (x y z : ℕ) → z ≡ y → number ≡ x + (y + j) → x + z ≤ number
    lower x y z e f = omega (arith, e, f)

-- trades of an answer, with its row and input
abbrev at_one : TrailRow → Input → Trade → TrailRow × Input × Trade
at_one r i x = (r, i, x)

abbrev at_step : TrailRow → Input → List Trade → List (TrailRow × Input × Trade)
at_step r i ts = map (λ (x : Trade). at_one r i x) ts

pub stood_once : (m : Market) (number : ℕ) (h : History) (rs : List TrailRow) (is : List Input) → AreEmitted rs is → (k old new : ℕ) (q : TrailRow × Input × Trade) → slice_get (added trade_in_fact m h rs is) k ≡ Some q → q.2.place ≡ InBook old new
    → number ≡ next_trade h.facts + k → StoodAt m number h rs is q old
stood_once m number h [] is emitted k old new q at place from = absurd (none_is_some q at)
stood_once m number h (r ∷ rs) [] emitted k old new q at place from = absurd (none_is_some q at)
stood_once m number h (r ∷ rs) (i ∷ is) emitted k old new q at place from =
    by (λ j rest f. stood_once m number (after h (answer_input m h i)) rs is emitted.1 j old new q rest place f)
    (slice_append (at_step r i (trades (answer_input m h i).facts)) (added trade_in_fact m (after h (answer_input m h i)) rs is) k q at)
  where
    further : (x y z l j : ℕ) → x ≡ y + z → l ≡ z → number ≡ y + (l + j) → number ≡ x + j
    further x y z l j e s f = omega (arith, e, s, f)

    counted : (y z l j : ℕ) → l ≡ z → k ≡ l + j → number ≡ y + k → number ≡ y + (z + j)
    counted y z l j s e f = omega (arith, s, e, f)

    by : ((j : ℕ) → slice_get (added trade_in_fact m (after h (answer_input m h i)) rs is) j ≡ Some q → number ≡ next_trade (after h (answer_input m h i)).facts + j → StoodAt m number (after h (answer_input m h i)) rs is q old)
        → (slice_get (at_step r i (trades (answer_input m h i).facts)) k ≡ Some q)
        ⊎ ((j : ℕ) × (k ≡ length (at_step r i (trades (answer_input m h i).facts)) + j) × (slice_get (added trade_in_fact m (after h (answer_input m h i)) rs is) j ≡ Some q)) → StoodAt m number h (r ∷ rs) (i ∷ is) q old
    by rec (inl here) =
        let x = slice_unmap (λ (y : Trade). at_one r i y) (trades (answer_input m h i).facts) k q here in
        subst (λ (p : TrailRow × Input × Trade). StoodAt m number h (r ∷ rs) (i ∷ is) p old) x.2
        (stood_here m number h r i rs is emitted k old new x.0 x.1 (ap (λ (p : TrailRow × Input × Trade). p.2.place) x.2 ∙ place) from)
    by rec (inr behind) =
        let ts = trades (answer_input m h i).facts in
        let many = length-map ts (λ (x : Trade). at_one r i x) in
        let f = counted (next_trade h.facts) (length ts) (length (at_step r i ts)) behind.0 many behind.1 from in
        stood_later m number h r i rs is emitted.0 q old behind.0 f
        (rec behind.0 behind.2 (further (next_trade (after h (answer_input m h i)).facts) (next_trade h.facts) (length ts) (length ts) behind.0 (next_trades h (answer_input m h i).facts) refl f))
