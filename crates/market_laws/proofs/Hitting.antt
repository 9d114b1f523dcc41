use Rattle.std.proofs.Common.{◌≡◌, refl, sym, ap, ◌∙◌, subst, inl, inr, ℕ, ◌+◌, ◌-◌, ◌≤◌, ◌<◌, min, Bool, true, false, cond, not, ◌&&◌, if◌then◌else◌, nat_lt, List, [], ◌∷◌, ◌++◌, map, filter, find, Some, None, is_none, is_some, arith, eq-eqb, le-ltb, lt-ltb, ltb-true, ltb-false}
use Rattle.std.proofs.lemmas.Bool.{true≢false, and_left, and_right, or_from, not_from_true}
use Rattle.std.proofs.lemmas.List.Elements.{filter-append}
use Rattle.std.proofs.lemmas.List.Sums.{sum_by-cons}
use Rattle.fix_dictionary.specs.declared.messages.App.TheVariants as app
use Rattle.fix_dictionary.specs.declared.messages.NewOrderSingle.{NewOrderSingle}
use Rattle.instruments.specs.Listing.{delay_of, least_of}
use Rattle.venue_rules.specs.declared.facts.Fact.{Fact}
use Rattle.venue_rules.specs.declared.facts.Fact.TheVariants.{Entered, Traded}
use Rattle.venue_rules.specs.declared.facts.Entry.{Entry}
use Rattle.venue_rules.specs.declared.facts.OrderFact.{OrderFact}
use Rattle.venue_rules.specs.declared.facts.TimeInForce.{TimeInForce}
use Rattle.venue_rules.specs.declared.facts.TimeInForce.TheVariants.{Day, ImmediateOrCancel, FillOrKill}
use Rattle.venue_rules.specs.declared.replies.SnapshotEntry.{SnapshotEntry}
use Rattle.venue_rules.specs.declared.trail.Taken.{Taken}
use Rattle.venue_rules.specs.Market.{Market}
use Rattle.venue_rules.specs.Facts.{History, entries}
use Rattle.venue_rules.specs.Book.{Fill, Resting, accepts, against, filled_by, fills, is_day, is_killed, is_linked, is_side_full, is_too_soon, opposite, paired, picture, shares, too_soon}
use Rattle.venue_rules.specs.Entering.{entering, trade_of}
use Rattle.venue_rules.specs.Orders.{accepted, is_limit, is_unsupported_life, life_of, order_asked, order_refusals}
use Rattle.venue_rules.specs.Answer.{Answer, Sender}
use Rattle.venue_rules.specs.Answers.{answer_app, type_of}
use Rattle.venue_rules.specs.MoreInputs.{answer_after}
use Rattle.venue_rules.specs.Run.{Input, Message, run}
use Rattle.venue_rules.proofs.Members.{In, In-append_left, In-append_right, In-filter, In-from_Contains, Contains-from_In}
use Rattle.venue_rules.proofs.Lefts.{In-resting, rests_left}
use Rattle.venue_rules.proofs.Fills.{eats, shares_in_turn}
use Rattle.venue_rules.proofs.Reports.{In-paired}
use Rattle.venue_rules.proofs.OpenRooms.{NoneHolds}
use Rattle.venue_rules.proofs.EveryRun.{lawful}
use Rattle.market_laws.specs.Hitting.{AsksToTrade, IsReached, IsValidOrder, LinkedOrdersHaveWaited, NeedsNoPlace, RestingOrdersTrade, ShownOrdersTrade, TradesWith, leaves}
use Rattle.market_laws.proofs.Access.{kept, map_has, past, picture_firm}
use Rattle.market_laws.proofs.BookTrades.{entry_of, one_numbered}
use Rattle.market_laws.proofs.Quoting.{all_false}

-- Resting orders can be traded with.

-- sums of leaves quantities

fewer_leaves : (p : Resting → Bool) (rs : List Resting) → leaves (filter p rs) ≤ leaves rs
fewer_leaves p [] = omega arith
fewer_leaves p (r ∷ rs) = by (p r) (fewer_leaves p rs)
  where
    by : (b : Bool) → leaves (filter p rs) ≤ leaves rs → leaves (cond b (r ∷ filter p rs) (filter p rs)) ≤ leaves (r ∷ rs)
    by true k = let a : leaves (r ∷ filter p rs) ≡ r.left + leaves (filter p rs) = sum_by-cons (λ (y : Resting). y.left) r (filter p rs) in let b : leaves (r ∷ rs) ≡ r.left + leaves rs = sum_by-cons (λ (y : Resting). y.left) r rs in omega (arith, a, b, k)
    by false k = let b : leaves (r ∷ rs) ≡ r.left + leaves rs = sum_by-cons (λ (y : Resting). y.left) r rs in omega (arith, b, k)

-- a quantity that those ahead leave some of is filled with the next order

reached_first : (q : ℕ) (r : Resting) (bs : List Resting) → 0 < r.left → 0 < q → In (record { resting = r; quantity = min r.left q }) (eats q (r ∷ bs))
reached_first q r bs low more = kept (record { resting = r; quantity = min r.left q }) (record { resting = r; quantity = min r.left q }) (eats (q - r.left) bs) (nat_lt 0 (min r.left q)) (lt-ltb 0 (min r.left q) (omega (arith, low, more))) (inl refl)

reached : (q : ℕ) (xs : List Resting) (r : Resting) (bs : List Resting) → 0 < r.left → leaves xs < q → (f : Fill) × In f (eats q (xs ++ (r ∷ bs))) × (f.resting ≡ r) × (f.quantity ≡ min r.left (q - leaves xs))
reached q [] r bs low more = (record { resting = r; quantity = min r.left q }, reached_first q r bs low (omega (arith, more)), refl, ap (min r.left) (none q))
  where
    none : (k : ℕ) → k ≡ k - leaves []
    none k = omega arith
reached q (a ∷ xs) r bs low more =
    let sum : leaves (a ∷ xs) ≡ a.left + leaves xs = sum_by-cons (λ (y : Resting). y.left) a xs in
    let k = reached (q - a.left) xs r bs low (omega (arith, sum, more)) in
    let same : (q - a.left) - leaves xs ≡ q - leaves (a ∷ xs) = omega (arith, sum) in
    (k.0, past (record { resting = a; quantity = min a.left q }) k.0 (eats (q - a.left) (xs ++ (r ∷ bs))) (nat_lt 0 (min a.left q)) k.1, k.2, k.3 ∙ ap (min r.left) same)

-- a quantity of at most what rests is filled

eats_whole : (q : ℕ) (rs : List Resting) → q ≤ leaves rs → filled_by (eats q rs) ≡ q
eats_whole q [] le = none q le
  where
    none : (k : ℕ) → k ≤ leaves [] → filled_by [] ≡ k
    none k h = omega (arith, h)
eats_whole q (r ∷ rs) le =
    let sum : leaves (r ∷ rs) ≡ r.left + leaves rs = sum_by-cons (λ (y : Resting). y.left) r rs in
    by (nat_lt 0 (min r.left q)) refl (eats_whole (q - r.left) rs (omega (arith, sum, le)))
  where
    by : (b : Bool) → nat_lt 0 (min r.left q) ≡ b → filled_by (eats (q - r.left) rs) ≡ q - r.left → filled_by (cond b (record { resting = r; quantity = min r.left q } ∷ eats (q - r.left) rs) (eats (q - r.left) rs)) ≡ q
    by true e k = let sum : filled_by (record { resting = r; quantity = min r.left q } ∷ eats (q - r.left) rs) ≡ min r.left q + filled_by (eats (q - r.left) rs) = sum_by-cons (λ (g : Fill). g.quantity) (record { resting = r; quantity = min r.left q }) (eats (q - r.left) rs) in omega (arith, sum, k)
    by false e k = let z : min r.left q ≤ 0 = ltb-false 0 (min r.left q) e in small (filled_by (eats (q - r.left) rs)) k z
      where
        small : (n : ℕ) → n ≡ q - r.left → min r.left q ≤ 0 → n ≡ q
        small n a b = omega (arith, a, b)

-- the fills of an order that is not killed

not_killed_fills : (facts : List Fact) (o : OrderFact) → is_killed o.life o.quantity (leaves (against facts o)) ≡ false → fills facts o ≡ eats o.quantity (against facts o)
not_killed_fills facts o h = alive (is_killed o.life o.quantity (leaves (against facts o))) h ∙ ap (λ ss. filter (λ (f : Fill). nat_lt 0 f.quantity) (paired (against facts o) ss)) (shares_in_turn o.quantity (map (λ (r : Resting). r.left) (against facts o)))
  where
    all : List Fill
    all = filter (λ (f : Fill). nat_lt 0 f.quantity) (paired (against facts o) (shares o.quantity (map (λ (r : Resting). r.left) (against facts o))))

    alive : (b : Bool) → b ≡ false → (if b then [] else all) ≡ all
    alive true e = absurd (true≢false e)
    alive false e = refl

enough_alive : (life : TimeInForce) (q n : ℕ) → q ≤ n → is_killed life q n ≡ false
enough_alive Day q n le = refl
enough_alive ImmediateOrCancel q n le = refl
enough_alive FillOrKill q n le = le-ltb n q le

immediate : (o : OrderFact) → o.life ≡ ImmediateOrCancel → (n : ℕ) → is_killed o.life o.quantity n ≡ false
immediate o e n = ap (λ l. is_killed l o.quantity n) e

-- the order is not killed, and needs no place in the book

no_place_alive : (facts : List Fact) (d : NewOrderSingle) (o : OrderFact) → o.life ≡ life_of d.time_in_force → NeedsNoPlace facts d o → is_killed o.life o.quantity (leaves (against facts o)) ≡ false
no_place_alive facts d o life (inl e) = immediate o (life ∙ ap life_of e) (leaves (against facts o))
no_place_alive facts d o life (inr le) = enough_alive o.life o.quantity (leaves (against facts o)) le

no_place_fits : (facts : List Fact) (d : NewOrderSingle) (o : OrderFact) → o.life ≡ life_of d.time_in_force → NeedsNoPlace facts d o → is_side_full facts o ≡ false
no_place_fits facts d o life (inl e) = and_left (is_day o.life) _ (ap is_day (life ∙ ap life_of e))
no_place_fits facts d o life (inr le) =
    let whole : filled_by (fills facts o) ≡ o.quantity = ap filled_by (not_killed_fills facts o (enough_alive o.life o.quantity (leaves (against facts o)) le)) ∙ eats_whole o.quantity (against facts o) le in
    and_right (is_day o.life) _ (and_left (nat_lt (filled_by (fills facts o)) o.quantity) _ (le-ltb (filled_by (fills facts o)) o.quantity (omega (arith, whole))))

-- no fill comes too soon

fill_against : (facts : List Fact) (o : OrderFact) (f : Fill) → In f (fills facts o) → In f.resting (against facts o)
fill_against facts o = killed (is_killed o.life o.quantity (leaves (against facts o))) (filter (λ (g : Fill). nat_lt 0 g.quantity) pairs) of
  where
    pairs : List Fill
    pairs = paired (against facts o) (shares o.quantity (map (λ (r : Resting). r.left) (against facts o)))

    of : (f : Fill) → In f (filter (λ (g : Fill). nat_lt 0 g.quantity) pairs) → In f.resting (against facts o)
    of f i = In-paired (against facts o) _ f (In-filter (λ (g : Fill). nat_lt 0 g.quantity) pairs f i).0

    killed : (b : Bool) (fs : List Fill) → ((f : Fill) → In f fs → In f.resting (against facts o)) → (f : Fill) → In f (if b then [] else fs) → In f.resting (against facts o)
    killed true fs h f i = absurd i
    killed false fs h f i = h f i

none_found : {X : Type 0} (p : X → Bool) (xs : List X) → ((x : X) → In x xs → p x ≡ false) → find p xs ≡ None
none_found p [] h = refl
none_found p (x ∷ xs) h = by (p x) (h x (inl refl)) (none_found p xs (λ y i. h y (inr i)))
  where
    by : (b : Bool) → b ≡ false → find p xs ≡ None → cond b (Some x) (find p xs) ≡ None
    by true e k = absurd (true≢false e)
    by false e k = k

in_time : (m : Market) (facts : List Fact) (o : OrderFact) (t : ℕ) → LinkedOrdersHaveWaited m facts o t → is_some (too_soon m facts o t) ≡ false
in_time m facts o t waited = ap is_some (none_found (is_too_soon m o t) (fills facts o) each)
  where
    each : (f : Fill) → In f (fills facts o) → is_too_soon m o t f ≡ false
    each f i = by (is_linked m o f.resting.entry.order) refl
      where
        by : (b : Bool) → is_linked m o f.resting.entry.order ≡ b → (b && nat_lt t (f.resting.entry.moment + delay_of m.instruments o.instrument)) ≡ false
        by false e = refl
        by true e = le-ltb t (f.resting.entry.moment + delay_of m.instruments o.instrument) (waited f.resting (Contains-from_In (against facts o) f.resting (fill_against facts o f i)) e)

-- a valid order is refused for no cause

order_passes : (m : Market) (h : History) (s : Sender) (d : NewOrderSingle) (t : ℕ) → let o : OrderFact = order_asked m s.who d in IsValidOrder m h.facts d o → NeedsNoPlace h.facts d o → LinkedOrdersHaveWaited m h.facts o t → NoneHolds (order_refusals m h s d t)
order_passes m h s d t v place waited =
    let o : OrderFact = order_asked m s.who d in (
      v.listed,
      (
        v.new_id,
        (
          or_from (not (is_limit d.order_type)) (is_unsupported_life d.time_in_force) (not_from_true (is_limit d.order_type) (eq-eqb d.order_type 50 v.limit)) v.life,
          (
            ap is_none v.price,
            (v.on_tick, (le-ltb d.quantity (least_of m.instruments o.instrument) v.least, (in_time m h.facts o t waited, (no_place_fits h.facts d o refl place, tt)))),
          ),
        ),
      ),
    )

-- the order that is reached is filled

within_filter : (p : Resting → Bool) (xs : List Resting) (r : Resting) (bs : List Resting) → p r ≡ true → filter p (xs ++ (r ∷ bs)) ≡ filter p xs ++ (r ∷ filter p bs)
within_filter p xs r bs h = filter-append p xs (r ∷ bs) ∙ ap (λ ys. filter p xs ++ ys) (stays (p r) h)
  where
    stays : (b : Bool) → b ≡ true → cond b (r ∷ filter p bs) (filter p bs) ≡ r ∷ filter p bs
    stays true e = refl
    stays false e = absurd (true≢false (sym e))

filled_with : (facts : List Fact) (o : OrderFact) (ahead : List Resting) (r : Resting) (behind : List Resting) → is_killed o.life o.quantity (leaves (against facts o)) ≡ false → IsReached facts o ahead r behind → (f : Fill) × In f (fills facts o) × (f.resting ≡ r) × (min r.left (o.quantity - leaves ahead) ≤ f.quantity)
filled_with facts o ahead r behind alive k =
    let within : Resting → Bool = λ (y : Resting). accepts o.side o.price y.entry.order.price in
    let split : against facts o ≡ filter within ahead ++ (r ∷ filter within behind) = ap (filter within) k.rests ∙ within_filter within ahead r behind k.within in
    let few : leaves (filter within ahead) ≤ leaves ahead = fewer_leaves within ahead in
    let low : 0 < r.left = ltb-true 0 r.left (rests_left o.instrument (opposite o.side) r (In-resting facts o.instrument (opposite o.side) r (subst (λ rs. In r rs) (sym k.rests) (In-append_right ahead (r ∷ behind) r (inl refl)))).2) in
    let some : leaves ahead < o.quantity = k.some in
    let f = reached o.quantity (filter within ahead) r (filter within behind) low (omega (arith, few, some)) in
    let amount : f.0.quantity ≡ min r.left (o.quantity - leaves (filter within ahead)) = f.3 in
    (f.0, subst (λ fs. In f.0 fs) (sym (not_killed_fills facts o alive ∙ ap (eats o.quantity) split)) f.1, f.2, omega (arith, few, amount))

order_answer : (m : Market) (h : History) (taken : Taken) (d : NewOrderSingle) (o : OrderFact) (t : ℕ) (ahead : List Resting) (r : Resting) (behind : List Resting) → AsksToTrade m h.facts taken d o t → IsReached h.facts o ahead r behind → (x : Answer) → x ≡ accepted m h o t → TradesWith o ahead r r.entry.order.price x
order_answer m h taken d o t ahead r behind k reach x e =
    let n : Entry = entering h.facts o 0 t in
    let life : o.life ≡ life_of d.time_in_force = ap (λ (y : OrderFact). y.life) k.order in
    let f = filled_with h.facts o ahead r behind (no_place_alive h.facts d o life k.no_place) reach in
    subst (TradesWith o ahead r r.entry.order.price) (sym e) (record {
      entry = n;
      trade = trade_of n f.0;
      entered = Contains-from_In (accepted m h o t).facts (Entered n) (inl refl);
      order = refl;
      happened = Contains-from_In (accepted m h o t).facts (Traded (trade_of n f.0)) (inr (map_has (λ (g : Fill). Traded (trade_of n g)) (fills h.facts o) f.0 f.1));
      place = ap (λ (y : Resting). (trade_of n (record { resting = y; quantity = f.0.quantity })).place) f.2;
      price = ap (λ (y : Resting). y.entry.order.price) f.2;
      quantity = f.3;
    })

asked_answer : (m : Market) (h : History) (taken : Taken) (d : NewOrderSingle) (o : OrderFact) (t : ℕ) → AsksToTrade m h.facts taken d o t → answer_app m h (record { who = taken.from; number = taken.item.number; kind = type_of taken.item.app }) taken.item.app t ≡ accepted m h o t
asked_answer m h taken d o t k =
    let s : Sender = record { who = taken.from; number = taken.item.number; kind = type_of (app.NewOrderSingle d) } in
    let asked : OrderFact = order_asked m taken.from d in
    ap (λ a. answer_app m h (record { who = taken.from; number = taken.item.number; kind = type_of a }) a t) k.message
    ∙ (all_false (order_refusals m h s d t) (accepted m h asked t) (order_passes m h s d t (subst (IsValidOrder m h.facts d) k.order k.valid) (subst (NeedsNoPlace h.facts d) k.order k.no_place) (subst (λ y. LinkedOrdersHaveWaited m h.facts y t) k.order k.waited))
    ∙ ap (λ y. accepted m h y t) (sym k.order))

pub resting_orders_trade : (m : Market) (is : List Input) → RestingOrdersTrade m is
resting_orders_trade m is taken d o t ahead r behind k reach = order_answer m (run m is).history taken d o t ahead r behind k reach (answer_after m is (Message taken t)) (asked_answer m (run m is).history taken d o t k)

pub shown_orders_trade : (m : Market) (is : List Input) → ShownOrdersTrade m is
shown_orders_trade m is before later s taken d o t ahead r behind split c number k reach =
    let facts : List Fact = (run m is).history.facts in
    let was = picture_firm before o.instrument s (In-from_Contains (picture before o.instrument) s c) in
    let old : In was.0 (entries facts) = entry_of facts was.0 (subst (λ fs. In (Entered was.0) fs) (sym split) (In-append_left before later (Entered was.0) (In-from_Contains before (Entered was.0) was.1.entered))) in
    let now : In r.entry (entries facts) = (In-resting facts o.instrument (opposite o.side) r (subst (λ rs. In r rs) (sym reach.rests) (In-append_right ahead (r ∷ behind) r (inl refl)))).0 in
    let same : r.entry ≡ was.0 = one_numbered (λ (y : Entry). y.number) (entries facts) (lawful m is).numbers_are_places.0 r.entry was.0 now old (sym number ∙ ap (λ (y : SnapshotEntry). y.order) was.2) in
    let price : r.entry.order.price ≡ s.price = ap (λ (y : Entry). y.order.price) same ∙ sym (ap (λ (y : SnapshotEntry). y.price) was.2) in
    subst (λ p. TradesWith o ahead r p (answer_after m is (Message taken t))) price (resting_orders_trade m is taken d o t ahead r behind k reach)
