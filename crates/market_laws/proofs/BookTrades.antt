use Rattle.std.proofs.Common.{◌≡◌, refl, sym, ap, ap₂, ◌∙◌, subst, inl, inr, ℕ, ℤ, zero, suc, ◌+◌, ◌≤◌, ◌<◌, Bool, true, false, int_le, nat_lt, if◌then◌else◌, List, [], ◌∷◌, ◌++◌, map, filter, slice_get, Some, None, arith}
use Rattle.std.specs.List.{sum_by}
use Rattle.std.proofs.lemmas.Int.{ints}
use Rattle.std.proofs.lemmas.Bool.{true≢false}
use Rattle.fix_dictionary.specs.declared.values.Side.{Side}
use Rattle.fix_dictionary.specs.declared.values.Side.TheVariants.{Buy, Sell}
use Rattle.venue_rules.specs.declared.facts.Fact.{Fact}
use Rattle.venue_rules.specs.declared.facts.Fact.TheVariants.{Entered, Traded, Removed, Held, Unheld, Asked, Quoted, Withdrawn, Closed}
use Rattle.venue_rules.specs.declared.facts.Entry.{Entry}
use Rattle.venue_rules.specs.declared.facts.OrderFact.{OrderFact}
use Rattle.venue_rules.specs.declared.facts.Trade.{Trade}
use Rattle.venue_rules.specs.Market.{Market}
use Rattle.venue_rules.specs.Facts.{no_history, entries, entry_in}
use Rattle.venue_rules.specs.Book.{Fill, Resting, accepts, against, fills, is_killed, is_side, left, opposite, paired, resting, shares}
use Rattle.venue_rules.specs.Entering.{buyer}
use Rattle.venue_rules.specs.Lawful.{IsNumbered}
use Rattle.venue_rules.specs.Run.{Input, run}
use Rattle.venue_rules.proofs.Members.{In, In-append_left, In-append_right, In-filter, In-filter_map, Contains-from_In, picked_from}
use Rattle.venue_rules.proofs.Lefts.{In-resting, rests_side, rests_instrument}
use Rattle.venue_rules.proofs.Reports.{In-paired}
use Rattle.venue_rules.proofs.AmountLemmas.{fills_within}
use Rattle.venue_rules.proofs.Follows.{BookTradeFollows, Each-at, Follows, TradeFollows}
use Rattle.venue_rules.proofs.EveryRun.{lawful, run-Follows}
use Rattle.market_laws.specs.BookTrades.{BookTradesAreBetweenOwners, IsBetween}
use Rattle.market_laws.proofs.Sources.{BookTradeFrom}
use Rattle.market_laws.proofs.Added.{AddedBy, added_from, added_in, all_facts}

-- Each trade in the book is between the owners of its two orders.

-- an order that entered

entry_same : (e x : Entry) → Some e ≡ Some x → e ≡ x
entry_same e x k = cc

no_entry : (x : Entry) → None ≡ Some x → ⊥
no_entry x k = cc

entry_fact : (f : Fact) (e : Entry) → entry_in f ≡ Some e → f ≡ Entered e
entry_fact (Entered x) e k = ap Entered (entry_same x e k)
entry_fact (Traded t) e k = absurd (no_entry e k)
entry_fact (Asked r) e k = absurd (no_entry e k)
entry_fact (Quoted q) e k = absurd (no_entry e k)
entry_fact (Removed r) e k = absurd (no_entry e k)
entry_fact (Held h) e k = absurd (no_entry e k)
entry_fact (Unheld u) e k = absurd (no_entry e k)
entry_fact (Withdrawn w) e k = absurd (no_entry e k)
entry_fact (Closed c) e k = absurd (no_entry e k)

pub entered_in : (fs : List Fact) (e : Entry) → In e (entries fs) → In (Entered e) fs
entered_in fs e i = let k = picked_from entry_in fs e i in subst (λ f. In f fs) (entry_fact k.0 e k.2) k.1

pub entry_of : (fs : List Fact) (e : Entry) → In (Entered e) fs → In e (entries fs)
entry_of fs e i = In-filter_map entry_in fs (Entered e) e i refl

-- one number, one order

place_of : {X : Type 0} (xs : List X) (x : X) → In x xs → (k : ℕ) × (slice_get xs k ≡ Some x)
place_of [] x i = absurd i
place_of (y ∷ ys) x (inl e) = (zero, ap Some e)
place_of (y ∷ ys) x (inr i) = let k = place_of ys x i in (suc k.0, k.1)

some_same : {X : Type 0} (x y : X) → Some x ≡ Some y → x ≡ y
some_same x y k = cc

pub one_numbered : {X : Type 0} (number : X → ℕ) (xs : List X) → IsNumbered number xs → (x y : X) → In x xs → In y xs → number x ≡ number y → x ≡ y
one_numbered number xs n x y i j e =
    let p = place_of xs x i in
    let q = place_of xs y j in
    let a : number x ≡ p.0 + 1 = n p.0 x p.1 in
    let b : number y ≡ q.0 + 1 = n q.0 y q.1 in
    let same : p.0 ≡ q.0 = omega (arith, a, b, e) in
    some_same x y (sym p.1 ∙ (ap (slice_get xs) same ∙ q.1))

-- the resting order of a fill

pub fill_rests : (facts : List Fact) (o : OrderFact) (f : Fill) → In f (fills facts o) → In f.resting (resting facts o.instrument (opposite o.side))
fill_rests facts o = killed (is_killed o.life o.quantity (sum_by (λ (r : Resting). r.left) (against facts o))) (filter (λ (g : Fill). nat_lt 0 g.quantity) pairs) of
  where
    pairs : List Fill
    pairs = paired (against facts o) (shares o.quantity (map (λ (r : Resting). r.left) (against facts o)))

    of : (f : Fill) → In f (filter (λ (g : Fill). nat_lt 0 g.quantity) pairs) → In f.resting (resting facts o.instrument (opposite o.side))
    of f i = (In-filter _ _ f.resting (In-paired (against facts o) _ f (In-filter (λ (g : Fill). nat_lt 0 g.quantity) pairs f i).0)).0

    killed : (b : Bool) (fs : List Fill) → ((f : Fill) → In f fs → In f.resting (resting facts o.instrument (opposite o.side))) → (f : Fill) → In f (if b then [] else fs) → In f.resting (resting facts o.instrument (opposite o.side))
    killed true fs h f i = absurd i
    killed false fs h f i = h f i

-- what is known of the two orders

record Ends (before : List Fact) (trade : Trade) (old new : ℕ) (e r : Entry) : Type 0 where
  entered : In e (entries before)
  rested : In r (entries before)
  new_number : e.number ≡ new
  old_number : r.number ≡ old
  side : r.order.side ≡ opposite e.order.side
  of_entered : trade.instrument ≡ e.order.instrument
  of_rested : trade.instrument ≡ r.order.instrument
  buys : trade.buyer ≡ buyer e.order.side e.order.who r.order.who
  sells : trade.seller ≡ buyer e.order.side r.order.who e.order.who
  moment : trade.moment ≡ e.moment
  price : trade.price ≡ r.order.price
  within : accepts e.order.side e.order.price trade.price ≡ true
  some : 0 < trade.quantity
  left_of_entered : trade.quantity ≤ left before e
  left_of_rested : trade.quantity ≤ left before r

side_same : (a b : Side) → is_side a b ≡ true → a ≡ b
side_same Buy Buy h = refl
side_same Sell Sell h = refl
side_same Buy Sell h = absurd (true≢false (sym h))
side_same Sell Buy h = absurd (true≢false (sym h))

int_le_self : (p q : ℤ) → p ≡ q → int_le p q ≡ true
int_le_self p q e = subst (λ x. int_le p x ≡ true) e (same p)
  where
    same : (x : ℤ) → int_le x x ≡ true
    same x = grind (arith, ints)

by_side : (before : List Fact) (trade : Trade) (old new : ℕ) (e r : Entry) → Ends before trade old new e r → (side : Side) → e.order.side ≡ side → (bid : Entry) × (offer : Entry) × IsBetween before trade old new bid offer
by_side before trade old new e r k Buy at = (
  e,
  r,
  record {
    bid_entered = Contains-from_In before (Entered e) (entered_in before e k.entered);
    offer_entered = Contains-from_In before (Entered r) (entered_in before r k.rested);
    bids = at;
    offers = k.side ∙ ap opposite at;
    numbers = inr (k.old_number, k.new_number, k.moment);
    bought = k.of_entered;
    sold = k.of_rested;
    buyer = k.buys ∙ ap (λ s. buyer s e.order.who r.order.who) at;
    seller = k.sells ∙ ap (λ s. buyer s r.order.who e.order.who) at;
    within_bid = subst (λ s. accepts s e.order.price trade.price ≡ true) at k.within;
    within_offer = int_le_self r.order.price trade.price (sym k.price);
    above_zero = k.some;
    left_of_bid = k.left_of_entered;
    left_of_offer = k.left_of_rested;
  },
)
by_side before trade old new e r k Sell at = (
  r,
  e,
  record {
    bid_entered = Contains-from_In before (Entered r) (entered_in before r k.rested);
    offer_entered = Contains-from_In before (Entered e) (entered_in before e k.entered);
    bids = k.side ∙ ap opposite at;
    offers = at;
    numbers = inl (k.old_number, k.new_number, k.moment);
    bought = k.of_rested;
    sold = k.of_entered;
    buyer = k.buys ∙ ap (λ s. buyer s e.order.who r.order.who) at;
    seller = k.sells ∙ ap (λ s. buyer s r.order.who e.order.who) at;
    within_bid = int_le_self trade.price r.order.price k.price;
    within_offer = subst (λ s. accepts s e.order.price trade.price ≡ true) at k.within;
    above_zero = k.some;
    left_of_bid = k.left_of_rested;
    left_of_offer = k.left_of_entered;
  },
)

-- the orders that the trade names are those that it was made of

owners : (m : Market) (is : List Input) (trade : Trade) (old new : ℕ) (e r : Entry) (k : AddedBy m no_history is (Traded trade)) → BookTradeFrom (run m k.earlier).history (run m is).history.facts trade old new → In e (entries (run m is).history.facts) → In r (entries (run m is).history.facts) → e.number ≡ new → r.number ≡ old
    → (trade.buyer ≡ buyer e.order.side e.order.who r.order.who) × (trade.seller ≡ buyer e.order.side r.order.who e.order.who) × (trade.moment ≡ e.moment) × (0 < trade.quantity)
owners m is trade old new e r k from i j en rn =
    let facts : List Fact = (run m is).history.facts in
    let one : (x y : Entry) → In x (entries facts) → In y (entries facts) → x.number ≡ y.number → x ≡ y = one_numbered (λ (y : Entry). y.number) (entries facts) (lawful m is).numbers_are_places.0 in
    let at : In from.fill.resting (resting (run m k.earlier).history.facts from.entry.order.instrument (opposite from.entry.order.side)) = fill_rests (run m k.earlier).history.facts from.entry.order from.fill from.filled in
    let stood : In from.fill.resting.entry (entries (run m k.earlier).history.facts) = (In-resting (run m k.earlier).history.facts from.entry.order.instrument (opposite from.entry.order.side) from.fill.resting at).0 in
    let old_here : In from.fill.resting.entry (entries facts) = entry_of facts from.fill.resting.entry (all_facts m is (Entered from.fill.resting.entry) (k.facts_before (Entered from.fill.resting.entry) (entered_in (run m k.earlier).history.facts from.fill.resting.entry stood))) in
    let new_same : from.entry ≡ e = one from.entry e (entry_of facts from.entry from.entered) i (from.new_number ∙ sym en) in
    let old_same : from.fill.resting.entry ≡ r = one from.fill.resting.entry r old_here j (from.old_number ∙ sym rn) in
    let some : 0 < from.fill.quantity = ((fills_within (run m k.earlier).history.facts from.entry.order).2 from.fill (Contains-from_In (fills (run m k.earlier).history.facts from.entry.order) from.fill from.filled)).0 in (
      ap (λ (t : Trade). t.buyer) from.same ∙ ap₂ (λ (x y : Entry). buyer x.order.side x.order.who y.order.who) new_same old_same,
      ap (λ (t : Trade). t.seller) from.same ∙ ap₂ (λ (x y : Entry). buyer x.order.side y.order.who x.order.who) new_same old_same,
      ap (λ (t : Trade). t.moment) from.same ∙ ap (λ (x : Entry). x.moment) new_same,
      subst (λ (t : Trade). 0 < t.quantity) (sym from.same) some,
    )

entries_on : (before later fs : List Fact) (f : Fact) (e : Entry) → fs ≡ before ++ (f ∷ later) → In e (entries before) → In e (entries fs)
entries_on before later fs f e split i = entry_of fs e (subst (λ xs. In (Entered e) xs) (sym split) (In-append_left before (f ∷ later) (Entered e) (entered_in before e i)))

pub book_trades_between_owners : (m : Market) (is : List Input) → BookTradesAreBetweenOwners m is
book_trades_between_owners m is before trade old new happened place =
    let facts : List Fact = (run m is).history.facts in
    let i : In (Traded trade) facts = subst (λ xs. In (Traded trade) xs) (sym happened.1) (In-append_right before (Traded trade ∷ happened.0) (Traded trade) (inl refl)) in
    let k : AddedBy m no_history is (Traded trade) = added_in m is (Traded trade) i in
    let by = added_from m is (Traded trade) k old new place in
    let from : BookTradeFrom (run m k.earlier).history facts trade old new = record { entry = by.entry; fill = by.fill; entered = all_facts m is (Entered by.entry) (k.facts_then (Entered by.entry) by.entered); filled = by.filled; same = by.same; old_number = by.old_number; new_number = by.new_number } in
    let f : BookTradeFollows m before trade old new = subst (TradeFollows m before trade) place (Each-at (Follows m (run m is).replies) [] facts before (Traded trade) happened.0 (run-Follows m is) happened.1) in
    let r : Resting = f.1 in
    let stands = In-resting before trade.instrument (opposite f.0.order.side) r (subst (λ rs. In r rs) (sym f.6) (inl refl)) in
    let whose = owners m is trade old new f.0 r.entry k from (entries_on before happened.0 facts (Traded trade) f.0 happened.1 f.3) (entries_on before happened.0 facts (Traded trade) r.entry happened.1 f.9) f.4 f.5 in
    by_side before trade old new f.0 r.entry (record {
      entered = f.3;
      rested = f.9;
      new_number = f.4;
      old_number = f.5;
      side = side_same r.entry.order.side (opposite f.0.order.side) (rests_side trade.instrument (opposite f.0.order.side) r stands.2);
      of_entered = sym f.11;
      of_rested = sym (rests_instrument trade.instrument (opposite f.0.order.side) r stands.2);
      buys = whose.0;
      sells = whose.1;
      moment = whose.2;
      price = f.7;
      within = f.8;
      some = whose.3;
      left_of_entered = f.12;
      left_of_rested = f.13;
    }) f.0.order.side refl
