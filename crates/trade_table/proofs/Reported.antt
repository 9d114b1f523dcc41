-- The replies to each message, and to a tick, report the trades that it makes: each as the facts say that it was made.
use Rattle.std.proofs.Common.{◌≡◌, refl, sym, ap, subst, ◌∙◌, inl, inr, ℕ, ℤ, ◌+◌, ◌==◌, Bool, true, false, nat_lt, not, ◌&&◌, if◌then◌else◌, List, [], ◌∷◌, ◌++◌, map, flat_map, Option, Some, None, append-nil, arith, eq-eqb, ne_eqb}
use Rattle.std.specs.Prelude.{bytes_eq, filter, is_none, sum_by}
use Rattle.std.specs.List.{enumerate_from}
use Rattle.std.proofs.lemmas.List.Elements.{filter_map-append}
use Rattle.std.proofs.lemmas.Slice.Eq.{bytes_eq-Decides}
use Rattle.fix_dictionary.specs.declared.messages.App.{App}
use Rattle.fix_dictionary.specs.declared.messages.App.TheVariants.{QuoteRequest, Quote, QuoteCancel, QuoteResponse, QuoteStatusReport, QuoteRequestReject, NewOrderSingle, OrderCancelRequest, OrderCancelReplaceRequest, NewOrderCross, ExecutionReport, OrderCancelReject, MarketDataRequest, MarketDataSnapshot, MarketDataRequestReject, BusinessMessageReject, Unsupported}
use Rattle.fix_dictionary.specs.declared.messages.NewOrderSingle.{NewOrderSingle as OrderMessage}
use Rattle.fix_dictionary.specs.declared.messages.OrderCancelRequest.{OrderCancelRequest as CancelMessage}
use Rattle.fix_dictionary.specs.declared.messages.OrderCancelReplaceRequest.{OrderCancelReplaceRequest as ReplaceMessage}
use Rattle.fix_dictionary.specs.declared.messages.NewOrderCross.{NewOrderCross as CrossMessage}
use Rattle.fix_dictionary.specs.declared.messages.QuoteRequest.{QuoteRequest as RequestMessage}
use Rattle.fix_dictionary.specs.declared.messages.Quote.{Quote as QuoteMessage}
use Rattle.fix_dictionary.specs.declared.messages.QuoteCancel.{QuoteCancel as WithdrawalMessage}
use Rattle.fix_dictionary.specs.declared.messages.QuoteResponse.{QuoteResponse as ResponseMessage}
use Rattle.fix_dictionary.specs.declared.messages.MarketDataRequest.{MarketDataRequest as MarketDataMessage}
use Rattle.fix_dictionary.specs.declared.values.Side.{Side}
use Rattle.fix_dictionary.specs.declared.values.Side.TheVariants.{Buy, Sell}
use Rattle.instruments.specs.Listing.{delay_of, instrument_of, symbol_of}
use Rattle.venue_rules.specs.declared.facts.Entry.{Entry}
use Rattle.venue_rules.specs.declared.facts.Fact.{Fact}
use Rattle.venue_rules.specs.declared.facts.Fact.TheVariants as fact
use Rattle.venue_rules.specs.declared.facts.HeldSide.{HeldSide}
use Rattle.venue_rules.specs.declared.facts.OrderFact.{OrderFact}
use Rattle.venue_rules.specs.declared.facts.TradeSource.{TradeSource}
use Rattle.venue_rules.specs.declared.facts.TradeSource.TheVariants.{Book as InBook, Room as InRoom}
use Rattle.venue_rules.specs.declared.facts.Room.{Room}
use Rattle.venue_rules.specs.declared.facts.RoomQuote.{RoomQuote}
use Rattle.venue_rules.specs.declared.facts.Trade.{Trade}
use Rattle.venue_rules.specs.declared.refusals.ChangeRefusal.TheVariants.{HeldSide as IsHeldSide}
use Rattle.venue_rules.specs.declared.replies.QuoteState.TheVariants.{Accepted, Withdrawn}
use Rattle.venue_rules.specs.declared.replies.Reply.{Reply}
use Rattle.venue_rules.specs.declared.replies.RoomReport.{RoomReport}
use Rattle.venue_rules.specs.declared.replies.ReplyBody.TheVariants.{OrderUnfilled}
use Rattle.venue_rules.specs.declared.trail.Taken.{Taken}
use Rattle.venue_rules.specs.declared.trail.TrailRow.{TrailRow}
use Rattle.venue_rules.specs.Answer.{Answer, Sender, first_of, numbered, reply}
use Rattle.venue_rules.specs.Answers.{answer_app, type_of}
use Rattle.venue_rules.specs.Book.{Fill, Resting, accepts, against, fills, filled, filled_by, is_better, is_day, is_killed, left, opposite, paired, rank, ranked, rests, shares, with_left}
use Rattle.venue_rules.specs.Changes.{Named, IsResting, IsHeld, IsUnknown, named, standing, answer_cancel_of, answer_replace_of, cancel_refusals, held_replace_refusals, replace_refusals, replace_refused, cancelled, held_cancelled, replaced, replacement}
use Rattle.venue_rules.specs.Crosses.{answer_cross, answer_due, cross_accepted, cross_refusals, side_order, first_side, second_side, due_refusals}
use Rattle.venue_rules.specs.Delay.{due}
use Rattle.venue_rules.specs.Entering.{buyer, entering, entry_facts, entry_reports, fill_reports, order_report, trade_of, unfilled_reports}
use Rattle.venue_rules.specs.Facts.{History, entries, entry_in as entry_in_fact, next_trade, quote_in as quote_in_fact, quotes, trade_in as trade_in_fact, trades}
use Rattle.venue_rules.specs.Market.{Market}
use Rattle.venue_rules.specs.MarketData.{answer_market_data, market_data_refusals, market_data}
use Rattle.venue_rules.specs.Orders.{accepted, answer_order, order_asked, order_refusals}
use Rattle.venue_rules.specs.Quotes.{answer_quote_of, quote_refusals, quote_accepted, quote_sent, quote_status, quoted, shown_with}
use Rattle.venue_rules.specs.Requests.{answer_request, request_accepted, request_refusals, request_sent, opened}
use Rattle.venue_rules.specs.Responses.{answer_response, answer_response_to, answer_response_in, answer_hit, answer_hit_at, hit_trade, response_refusals, kind_refusals, taken_side, price_for}
use Rattle.venue_rules.specs.Rooms.{find_room, find_quote, first_quote, live_quotes, printed, room_by_number}
use Rattle.venue_rules.specs.Run.{Input, Message, Tick, answer_input, answer_due_of}
use Rattle.venue_rules.specs.Withdrawals.{answer_withdrawal_of, withdraw_one, withdrawn_or, not_found, both_emitted, to_maker, to_requester}
use Rattle.trade_table.specs.declared.execution.Execution.{Execution}
use Rattle.trade_table.specs.declared.execution.Known.{Known}
use Rattle.trade_table.specs.declared.execution.SideFilled.{SideFilled}
use Rattle.trade_table.specs.declared.execution.Source.{Source}
use Rattle.trade_table.specs.declared.execution.Source.TheVariants as source
use Rattle.trade_table.specs.Executions.{taken_in}
use Rattle.trade_table.specs.Laws.{IsOrder, IsSource, sender}
use Rattle.trade_table.specs.Sources.{book_made, cross_joined, executed, hit, made_after, made_at, matched, own_id, responded, responded_in}
use Rattle.trade_table.specs.Table.{bought, sold}
use Rattle.trade_table.proofs.Crossing.{EntersAs}
use Rattle.trade_table.proofs.Learning.{AreKnown, IsKnown}
use Rattle.venue_rules.proofs.Members.{Contains-from_In, In, In-append_left, In-append_right, In-find, In-from_Contains, picked_from}
use Rattle.trade_blotter.proofs.Lists.{In-filtered, In-map, none_is_some, same_some}

-- Trades, numbered on from a number, and their executions, one for each.
abbrev pub Aligned : (ℕ → Trade → Execution → Type 0) → ℕ → List Trade → List Execution → Type 0
Aligned P n [] [] = Unit {0}
Aligned P n [] (x ∷ xs) = ⊥
Aligned P n (t ∷ ts) [] = ⊥
Aligned P n (t ∷ ts) (x ∷ xs) = P n t x × Aligned P (n + 1) ts xs

-- the cross of two orders is looked up by them; at a tick the one that enters has the name of the side that is due
abbrev pub IsJoined : History → Input → List Known → Source → Type 0
IsJoined h i ks (source.Book x) = (x.cross ≡ cross_joined ks (is_none (taken_in i)) x.entering x.resting) × EntersAs h i x.entering.who x.entering.id
IsJoined h i ks (source.Room x) = Unit {0}

-- an execution at a row, of a trade that the answer to an input made, by these facts
pub record IsReported (r : TrailRow) (i : Input) (ks : List Known) (h : History) (facts : List Fact) (n : ℕ) (t : Trade) (x : Execution) : Type 0 where
  pub number_is : x.trade ≡ n
  pub at_row : x.row ≡ r.n
  pub moment : x.moment ≡ r.moment
  pub source : IsSource facts i t t.place x.source
  pub joined : IsJoined h i ks x.source

-- an answer at a row reports its trades
abbrev pub AllReported : TrailRow → Input → List Known → History → Answer → Type 0
AllReported r i ks h a = Aligned (IsReported r i ks h (h.facts ++ a.facts)) (next_trade h.facts) (trades a.facts) (made_at r (taken_in i) ks a.replies)

pub aligned_more : {P Q : ℕ → Trade → Execution → Type 0} → ((n : ℕ) (t : Trade) (x : Execution) → P n t x → Q n t x) → (n : ℕ) (ts : List Trade) (xs : List Execution) → Aligned P n ts xs → Aligned Q n ts xs
aligned_more f n [] [] a = tt
aligned_more f n [] (x ∷ xs) a = absurd a
aligned_more f n (t ∷ ts) [] a = absurd a
aligned_more f n (t ∷ ts) (x ∷ xs) a = (f n t x a.0, aligned_more f (n + 1) ts xs a.1)

-- more facts say no less

abbrev pub Within : List Fact → List Fact → Type 0
Within fs gs = (f : Fact) → In f fs → In f gs

order_within : (fs gs : List Fact) → Within fs gs → (number : ℕ) (x : SideFilled) → IsOrder fs number x → IsOrder gs number x
order_within fs gs more number x k = record {
  entry = k.entry;
  entered = Contains-from_In gs (fact.Entered k.entry) (more (fact.Entered k.entry) (In-from_Contains fs (fact.Entered k.entry) k.entered));
  number_is = k.number_is;
  order = k.order;
  who = k.who;
  id = k.id;
  side = k.side;
}

pub source_within : (fs gs : List Fact) → Within fs gs → (i : Input) (t : Trade) (place : TradeSource) (x : Source) → IsSource fs i t place x → IsSource gs i t place x
source_within fs gs more i t (InBook old new) (source.Book x) k = record {
  entering = order_within fs gs more new x.entering k.entering;
  resting = order_within fs gs more old x.resting k.resting;
  buyer = k.buyer;
  seller = k.seller;
  at_tick = k.at_tick;
}
source_within fs gs more i t (InRoom room quote) (source.Room x) k = record {
  quote_is = k.quote_is;
  quoted = k.quoted;
  was_quoted = Contains-from_In gs (fact.Quoted k.quoted) (more (fact.Quoted k.quoted) (In-from_Contains fs (fact.Quoted k.quoted) k.was_quoted));
  named = k.named;
  id = k.id;
  requester = k.requester;
  maker = k.maker;
  hit_by = k.hit_by;
  buyer_is = k.buyer_is;
  seller_is = k.seller_is;
}
source_within fs gs more i t (InBook old new) (source.Room x) k = absurd k
source_within fs gs more i t (InRoom room quote) (source.Book x) k = absurd k

reports_within : (r : TrailRow) (i : Input) (ks : List Known) (h : History) (fs gs : List Fact) → Within fs gs → (n : ℕ) (t : Trade) (x : Execution) → IsReported r i ks h fs n t x → IsReported r i ks h gs n t x
reports_within r i ks h fs gs more n t x k = record { number_is = k.number_is; at_row = k.at_row; moment = k.moment; source = source_within fs gs more i t t.place x.source k.source; joined = k.joined }

-- the same replies, and more facts that are no trades
more_facts : (r : TrailRow) (i : Input) (ks : List Known) (h : History) (a b : Answer) → a.replies ≡ b.replies → trades a.facts ≡ trades b.facts → Within a.facts b.facts → AllReported r i ks h a → AllReported r i ks h b
more_facts r i ks h a b same_replies same_trades more k =
    subst (λ (rs : List Reply). Aligned (IsReported r i ks h (h.facts ++ b.facts)) (next_trade h.facts) (trades b.facts) (made_at r (taken_in i) ks rs)) same_replies
    (subst (λ (ts : List Trade). Aligned (IsReported r i ks h (h.facts ++ b.facts)) (next_trade h.facts) ts (made_at r (taken_in i) ks a.replies)) same_trades
    (aligned_more (reports_within r i ks h (h.facts ++ a.facts) (h.facts ++ b.facts) (λ f j. behind f (h.facts) j)) (next_trade h.facts) (trades a.facts) (made_at r (taken_in i) ks a.replies) k))
  where
    behind : (f : Fact) (before : List Fact) → In f (before ++ a.facts) → In f (before ++ b.facts)
    behind f [] j = more f j
    behind f (g ∷ gs) (inl e) = inl e
    behind f (g ∷ gs) (inr j) = inr (behind f gs j)

-- the first refusal that holds

abbrev AllRefuse : TrailRow → Input → List Known → History → List (Bool × Answer) → Type 0
AllRefuse r i ks h [] = Unit {0}
AllRefuse r i ks h (x ∷ xs) = AllReported r i ks h x.1 × AllRefuse r i ks h xs

first_reported : (r : TrailRow) (i : Input) (ks : List Known) (h : History) (xs : List (Bool × Answer)) (y : Answer) → AllRefuse r i ks h xs → AllReported r i ks h y → AllReported r i ks h (first_of xs y)
first_reported r i ks h [] y n k = k
first_reported r i ks h (x ∷ xs) y n k = elim x.0 as (λ b. AllReported r i ks h (elim b [ true ↦ x.1 | false ↦ first_of xs y ])) [ true ↦ n.0 | false ↦ first_reported r i ks h xs y n.1 k ]

-- A fill is with an order that entered.

In-rank : (side : Side) (r : Resting) (ss : List Resting) (x : Resting) → In x (rank side r ss) → In x (r ∷ ss)
In-rank side r [] x i = i
In-rank side r (s ∷ ss) x i =
    (elim (is_better side s.entry.order.price r.entry.order.price) as (λ b. In x (if b then s ∷ rank side r ss else r ∷ s ∷ ss) → In x (r ∷ s ∷ ss)) [ true ↦ λ k. behind_first (In-rank side r ss x) k | false ↦ λ k. k ]) i
  where
    swap : In x (r ∷ ss) → In x (r ∷ s ∷ ss)
    swap (inl e) = inl e
    swap (inr k) = inr (inr k)

    behind_first : (In x (rank side r ss) → In x (r ∷ ss)) → In x (s ∷ rank side r ss) → In x (r ∷ s ∷ ss)
    behind_first rec (inl e) = inr (inl e)
    behind_first rec (inr k) = swap (rec k)

In-ranked : (side : Side) (rs : List Resting) (x : Resting) → In x (ranked side rs) → In x rs
In-ranked side [] x i = i
In-ranked side (r ∷ rs) x i = by (In-ranked side rs x) (In-rank side r (ranked side rs) x i)
  where
    by : (In x (ranked side rs) → In x rs) → In x (r ∷ ranked side rs) → In x (r ∷ rs)
    by rec (inl e) = inl e
    by rec (inr k) = inr (rec k)

In-paired : (rs : List Resting) (qs : List ℕ) (f : Fill) → In f (paired rs qs) → In f.resting rs
In-paired [] qs f i = absurd i
In-paired (r ∷ rs) [] f i = absurd i
In-paired (r ∷ rs) (q ∷ qs) f (inl e) = inl (ap (λ (g : Fill). g.resting) e)
In-paired (r ∷ rs) (q ∷ qs) f (inr i) = inr (In-paired rs qs f i)

unless : (b : Bool) (f : Fill) (fs : List Fill) → In f (if b then [] else fs) → In f fs
unless true f fs i = absurd i
unless false f fs i = i

fill_entered : (facts : List Fact) (o : OrderFact) (f : Fill) → In f (fills facts o) → In f.resting.entry (entries facts)
fill_entered facts o f i =
    let rs = against facts o in
    let lefts = map (λ (r : Resting). r.left) rs in
    let qs = shares o.quantity lefts in
    let all = map (with_left (left facts)) (entries facts) in
    let here = filter (rests o.instrument (opposite o.side)) all in
    let paired_in = In-filtered (λ (g : Fill). nat_lt 0 g.quantity) (paired rs qs) f (unless (is_killed o.life o.quantity (sum_by (λ (r : Resting). r.left) rs)) f (filter (λ (g : Fill). nat_lt 0 g.quantity) (paired rs qs)) i) in
    let rests_in = In-filtered (λ (r : Resting). accepts o.side o.price r.entry.order.price) (ranked (opposite o.side) here) f.resting (In-paired rs qs f paired_in) in
    let entered = In-map (with_left (left facts)) (entries facts) f.resting (In-filtered (rests o.instrument (opposite o.side)) all f.resting (In-ranked (opposite o.side) here f.resting rests_in)) in
    subst (λ (e : Entry). In e (entries facts)) (ap (λ (r : Resting). r.entry) entered.2) entered.1

-- An order that enters.

entered_fact : (f : Fact) (e : Entry) → entry_in_fact f ≡ Some e → f ≡ fact.Entered e
entered_fact (fact.Entered x) e h = ap (λ (y : Entry). fact.Entered y) (same_some x e h)
entered_fact (fact.Traded x) e h = absurd (none_is_some e h)
entered_fact (fact.Removed x) e h = absurd (none_is_some e h)
entered_fact (fact.Held x) e h = absurd (none_is_some e h)
entered_fact (fact.Unheld x) e h = absurd (none_is_some e h)
entered_fact (fact.Asked x) e h = absurd (none_is_some e h)
entered_fact (fact.Quoted x) e h = absurd (none_is_some e h)
entered_fact (fact.Withdrawn x) e h = absurd (none_is_some e h)
entered_fact (fact.Closed x) e h = absurd (none_is_some e h)

resting_entered : (facts : List Fact) (o : OrderFact) (f : Fill) → In f (fills facts o) → In (fact.Entered f.resting.entry) facts
resting_entered facts o f i =
    let k = picked_from entry_in_fact facts f.resting.entry (fill_entered facts o f i) in
    subst (λ (x : Fact). In x facts) (entered_fact k.0 f.resting.entry k.2) k.1

-- a report of a fill
abbrev side_of : Entry → ℕ → SideFilled
side_of e trade = record { trade = trade; who = e.order.who; order = e.number; id = e.order.id; side = e.order.side }

-- one order bought, and the other sold

bought_by : (s : Side) (one other : SideFilled) → (bought s one other).who ≡ buyer s one.who other.who
bought_by Buy one other = refl
bought_by Sell one other = refl

sold_by : (s : Side) (one other : SideFilled) → (sold s one other).who ≡ buyer s other.who one.who
sold_by Buy one other = refl
sold_by Sell one other = refl

fill_reported : (r : TrailRow) (i : Input) (ks : List Known) (h : History) (facts : List Fact) (e : Entry) (f : Fill) (n : ℕ) → EntersAs h i e.order.who e.order.id → In (fact.Entered e) facts → In (fact.Entered f.resting.entry) facts
    → IsReported r i ks h facts n (trade_of e f) (matched r (taken_in i) ks (side_of e n) (side_of f.resting.entry n))
fill_reported r i ks h facts e f n enters own there = record {
  number_is = refl;
  at_row = refl;
  moment = refl;
  source = record {
    entering = record { entry = e; entered = Contains-from_In facts (fact.Entered e) own; number_is = refl; order = refl; who = refl; id = refl; side = refl };
    resting = record { entry = f.resting.entry; entered = Contains-from_In facts (fact.Entered f.resting.entry) there; number_is = refl; order = refl; who = refl; id = refl; side = refl };
    buyer = bought_by e.order.side (side_of e n) (side_of f.resting.entry n);
    seller = sold_by e.order.side (side_of e n) (side_of f.resting.entry n);
    at_tick = refl;
  };
  joined = (refl, enters);
}

-- a report before is of another trade
abbrev IsOther : Option SideFilled → ℕ → Type 0
IsOther None n = Unit {0}
IsOther (Some x) n = (x.trade == n) ≡ false

none_made : (r : TrailRow) (taken : Option Taken) (ks : List Known) (before : Option SideFilled) (x : SideFilled) → IsOther before x.trade → book_made r taken ks before (Some x) ≡ []
none_made r taken ks None x k = refl
none_made r taken ks (Some y) x k = ap (λ (b : Bool). if b then matched r taken ks y x ∷ [] else []) k

one_made : (r : TrailRow) (taken : Option Taken) (ks : List Known) (x y : SideFilled) → x.trade ≡ y.trade → book_made r taken ks (Some x) (Some y) ≡ matched r taken ks x y ∷ []
one_made r taken ks x y e = ap (λ (b : Bool). if b then matched r taken ks x y ∷ [] else []) (eq-eqb x.trade y.trade e)

nothing_made : (r : TrailRow) (taken : Option Taken) (ks : List Known) (before : Option SideFilled) → book_made r taken ks before None ≡ []
nothing_made r taken ks None = refl
nothing_made r taken ks (Some x) = refl

-- of what is left of an order no trade is reported
unfilled_idle : (r : TrailRow) (taken : Option Taken) (ks : List Known) (m : Market) (e : Entry) (fs : List Fill) (before : Option SideFilled) (n : ℕ) (b : Bool)
    → made_after r taken ks before (numbered n (if b then (λ k. reply e.order.who (OrderUnfilled (order_report m e 0 (e.filled_before + filled_by fs) k))) ∷ [] else [])) ≡ []
unfilled_idle r taken ks m e fs before n true = ap (λ (l : List Execution). (l ++ []) ++ []) (nothing_made r taken ks before)
unfilled_idle r taken ks m e fs before n false = refl

abbrev trade_facts : Entry → List Fill → List Fact
trade_facts e fs = map (λ f. fact.Traded (trade_of e f)) fs

fills_reported : (r : TrailRow) (i : Input) (ks : List Known) (h : History) (facts : List Fact) (m : Market) (e : Entry) (all : List Fill) (trade j n : ℕ) (fs : List Fill) (before : Option SideFilled) → EntersAs h i e.order.who e.order.id → IsOther before (trade + j) → In (fact.Entered e) facts
    → ((f : Fill) → In f fs → In (fact.Entered f.resting.entry) facts)
    → Aligned (IsReported r i ks h facts) (trade + j) (trades (trade_facts e fs)) (made_after r (taken_in i) ks before (numbered n (flat_map (fill_reports m e all trade) (enumerate_from j fs) ++ unfilled_reports m e all)))
fills_reported r i ks h facts m e all trade j n [] before enters other own there =
    subst (Aligned (IsReported r i ks h facts) (trade + j) []) (sym (unfilled_idle r (taken_in i) ks m e all before n (not (is_day e.order.life) && nat_lt (filled_by all) e.order.quantity))) tt
fills_reported r i ks h facts m e all trade j n (f ∷ fs) before enters other own there =
    let taken = taken_in i in
    let k = trade + j in
    let new = side_of e k in
    let old = side_of f.resting.entry k in
    let next : trade + (j + 1) ≡ k + 1 = omega arith in
    let rest = made_after r taken ks (Some old) (numbered (n + 1 + 1) (flat_map (fill_reports m e all trade) (enumerate_from (j + 1) fs) ++ unfilled_reports m e all)) in
    let behind = fills_reported r i ks h facts m e all trade (j + 1) (n + 1 + 1) fs (Some old) enters (ne_eqb k (trade + (j + 1)) (λ same. apart k (trade + (j + 1)) next same)) own (λ g x. there g (inr x)) in
    let made : (book_made r taken ks before (Some new) ++ []) ++ ((book_made r taken ks (Some new) (Some old) ++ []) ++ rest) ≡ matched r taken ks new old ∷ rest =
    (λ l. (none_made r taken ks before new other l ++ []) ++ ((one_made r taken ks new old refl l ++ []) ++ rest)) in
    subst (Aligned (IsReported r i ks h facts) k (trades (trade_facts e (f ∷ fs)))) (sym made)
    (fill_reported r i ks h facts e f k enters own (there f (inl refl)), subst (λ (a : ℕ). Aligned (IsReported r i ks h facts) a (trades (trade_facts e fs)) rest) next behind)
  where
    apart : (a b : ℕ) → b ≡ a + 1 → a ≡ b → ⊥
    apart a b h same = omega (arith, h, same)

-- a report of an entry, and those behind it
entry_reported : (r : TrailRow) (i : Input) (ks : List Known) (h : History) (before : List Fact) (m : Market) (e : Entry) (o : OrderFact) (replies : List Reply) → EntersAs h i e.order.who e.order.id → trades before ≡ []
    → made_after r (taken_in i) ks None replies ≡ made_after r (taken_in i) ks None (numbered (h.reports + 1) (entry_reports m h.facts e (fills h.facts o)))
    → AllReported r i ks h (record { facts = before ++ entry_facts e (fills h.facts o); replies = replies })
entry_reported r i ks h before m e o replies enters none same =
    let fs = fills h.facts o in
    let facts = h.facts ++ (before ++ entry_facts e fs) in
    let own : In (fact.Entered e) facts = In-append_right h.facts (before ++ entry_facts e fs) (fact.Entered e) (In-append_right before (entry_facts e fs) (fact.Entered e) (inl refl)) in
    let reported = fills_reported r i ks h facts m e fs (next_trade h.facts) 0 (h.reports + 1) fs None enters tt own (λ f x. In-append_left h.facts (before ++ entry_facts e fs) (fact.Entered f.resting.entry) (resting_entered h.facts o f x)) in
    let listed : trades (trade_facts e fs) ≡ trades (before ++ entry_facts e fs) = sym (filter_map-append trade_in_fact before (entry_facts e fs) ∙ ap (λ (l : List Trade). l ++ trades (trade_facts e fs)) none) in
    subst (Aligned (IsReported r i ks h facts) (next_trade h.facts) (trades (before ++ entry_facts e fs))) (sym same)
    (subst (λ (ts : List Trade). Aligned (IsReported r i ks h facts) (next_trade h.facts) ts (made_after r (taken_in i) ks None (numbered (h.reports + 1) (entry_reports m h.facts e fs)))) listed
    (subst (λ (a : ℕ). Aligned (IsReported r i ks h facts) a (trades (trade_facts e fs)) (made_after r (taken_in i) ks None (numbered (h.reports + 1) (entry_reports m h.facts e fs)))) (from_zero (next_trade h.facts)) reported))
  where
    from_zero : (k : ℕ) → k + 0 ≡ k
    from_zero k = omega arith

accepted_reported : (r : TrailRow) (i : Input) (ks : List Known) (m : Market) (h : History) (o : OrderFact) (t : ℕ) → EntersAs h i o.who o.id → AllReported r i ks h (accepted m h o t)
accepted_reported r i ks m h o t enters = entry_reported r i ks h [] m (entering h.facts o 0 t) o (accepted m h o t).replies enters refl refl

-- Messages.

order_reported : (r : TrailRow) (i : Input) (ks : List Known) (m : Market) (h : History) (s : Sender) (d : OrderMessage) (t : ℕ) → ((who : ℕ) (id : List ℕ) → EntersAs h i who id) → AllReported r i ks h (answer_order m h s d t)
order_reported r i ks m h s d t any = first_reported r i ks h (order_refusals m h s d t) (accepted m h (order_asked m s.who d) t) (tt, (tt, (tt, (tt, (tt, (tt, (tt, (tt, tt)))))))) (accepted_reported r i ks m h (order_asked m s.who d) t (any s.who d.order_id))

cancel_reported : (r : TrailRow) (i : Input) (ks : List Known) (m : Market) (h : History) (s : Sender) (d : CancelMessage) (n : Named) → AllReported r i ks h (answer_cancel_of m h s d n)
cancel_reported r i ks m h s d IsUnknown = tt
cancel_reported r i ks m h s d (IsHeld k) = first_reported r i ks h (cancel_refusals h s d None) (held_cancelled m h s d k) (tt, tt) tt
cancel_reported r i ks m h s d (IsResting x) = first_reported r i ks h (cancel_refusals h s d (Some (standing x))) (cancelled m h s d x) (tt, tt) tt

replaced_reported : (r : TrailRow) (i : Input) (ks : List Known) (m : Market) (h : History) (s : Sender) (d : ReplaceMessage) (x : Resting) (t : ℕ) → ((who : ℕ) (id : List ℕ) → EntersAs h i who id) → AllReported r i ks h (replaced m h s d x t)
replaced_reported r i ks m h s d x t any =
    let o = replacement d x in
    entry_reported r i ks h (fact.Removed (record { order = x.entry.number; who = s.who; id = d.order_id }) ∷ []) m (entering h.facts o (filled x) t) o (replaced m h s d x t).replies (any o.who o.id) refl refl

replace_reported : (r : TrailRow) (i : Input) (ks : List Known) (m : Market) (h : History) (s : Sender) (d : ReplaceMessage) (t : ℕ) (n : Named) → ((who : ℕ) (id : List ℕ) → EntersAs h i who id) → AllReported r i ks h (answer_replace_of m h s d t n)
replace_reported r i ks m h s d t IsUnknown any = tt
replace_reported r i ks m h s d t (IsHeld k) any = first_reported r i ks h (held_replace_refusals h s d) (replace_refused s d None IsHeldSide) (tt, tt) tt
replace_reported r i ks m h s d t (IsResting x) any = first_reported r i ks h (replace_refusals m h s d x t) (replaced m h s d x t) (tt, (tt, (tt, (tt, (tt, (tt, (tt, tt))))))) (replaced_reported r i ks m h s d x t any)

-- Crosses, and held sides as they enter.

cross_accepted_reported : (r : TrailRow) (i : Input) (ks : List Known) (m : Market) (h : History) (s : Sender) (d : CrossMessage) (t : ℕ) → ((who : ℕ) (id : List ℕ) → EntersAs h i who id) → AllReported r i ks h (cross_accepted m h s d t)
cross_accepted_reported r i ks m h s d t any =
    let first = accepted m h (side_order m s.who d (first_side d)) t in
    let held : Fact = fact.Held (record { order = side_order m s.who d (second_side d); cross = d.cross_id; due = t + delay_of m.instruments (instrument_of m.instruments d.symbol) }) in
    more_facts r i ks h first (cross_accepted m h s d t) refl (sym (filter_map-append trade_in_fact first.facts (held ∷ []) ∙ append-nil (trades first.facts))) (λ f x. In-append_left first.facts (held ∷ []) f x)
    (accepted_reported r i ks m h (side_order m s.who d (first_side d)) t (any s.who (first_side d).order_id))

cross_reported : (r : TrailRow) (i : Input) (ks : List Known) (m : Market) (h : History) (s : Sender) (d : CrossMessage) (t : ℕ) → ((who : ℕ) (id : List ℕ) → EntersAs h i who id) → AllReported r i ks h (answer_cross m h s d t)
cross_reported r i ks m h s d t any = first_reported r i ks h (cross_refusals m h s d t) (cross_accepted m h s d t) (tt, (tt, (tt, (tt, (tt, (tt, (tt, (tt, (tt, (tt, (tt, tt))))))))))) (cross_accepted_reported r i ks m h s d t any)

due_reported : (r : TrailRow) (i : Input) (ks : List Known) (m : Market) (h : History) (k : HeldSide) → EntersAs h i k.order.who k.order.id → AllReported r i ks h (answer_due m h k)
due_reported r i ks m h k enters =
    let entered = first_of (due_refusals m h k) (accepted m h k.order k.due) in
    more_facts r i ks h entered (answer_due m h k) refl refl (λ f x. inr x) (first_reported r i ks h (due_refusals m h k) (accepted m h k.order k.due) (tt, (tt, tt)) (accepted_reported r i ks m h k.order k.due enters))

due_or_none_reported : (r : TrailRow) (i : Input) (ks : List Known) (m : Market) (h : History) (o : Option HeldSide) → ((k : HeldSide) → o ≡ Some k → EntersAs h i k.order.who k.order.id) → AllReported r i ks h (answer_due_of m h o)
due_or_none_reported r i ks m h None enters = tt
due_or_none_reported r i ks m h (Some k) enters = due_reported r i ks m h k (enters k refl)

-- Requests, quotes and withdrawals.

requests_idle : (r : TrailRow) (taken : Option Taken) (ks : List Known) (m : Market) (room : Room) (tos : List ℕ) → made_after r taken ks None (map (request_sent m room) tos) ≡ []
requests_idle r taken ks m room [] = refl
requests_idle r taken ks m room (to ∷ tos) = requests_idle r taken ks m room tos

request_reported : (r : TrailRow) (i : Input) (ks : List Known) (m : Market) (h : History) (s : Sender) (d : RequestMessage) (t : ℕ) → AllReported r i ks h (answer_request m h s d t)
request_reported r i ks m h s d t =
    let room = opened m h s d t in
    first_reported r i ks h (request_refusals m h s d t) (request_accepted m room) (tt, (tt, (tt, (tt, (tt, (tt, (tt, (tt, (tt, (tt, tt))))))))))
    (subst (Aligned (IsReported r i ks h (h.facts ++ (request_accepted m room).facts)) (next_trade h.facts) []) (sym (requests_idle r (taken_in i) ks m room room.recipients)) tt)

quote_accepted_reported : (r : TrailRow) (i : Input) (ks : List Known) (m : Market) (h : History) (s : Sender) (room : Room) (d : QuoteMessage) (q : Option RoomQuote)
    → made_after r (taken_in i) ks None (quote_status s d (Some (symbol_of m.instruments room.instrument)) Accepted ∷ shown_with m h room q ++ quote_sent m room (quoted h s room d) ∷ []) ≡ []
quote_accepted_reported r i ks m h s room d None = refl
quote_accepted_reported r i ks m h s room d (Some q) = refl

quote_reported : (r : TrailRow) (i : Input) (ks : List Known) (m : Market) (h : History) (s : Sender) (d : QuoteMessage) (t : ℕ) (o : Option Room) → AllReported r i ks h (answer_quote_of m h s d t o)
quote_reported r i ks m h s d t None = tt
quote_reported r i ks m h s d t (Some room) = first_reported r i ks h (quote_refusals m h s room d t) (quote_accepted m h s room d) (tt, (tt, (tt, (tt, (tt, (tt, (tt, (tt, tt))))))))
    (subst (Aligned (IsReported r i ks h (h.facts ++ (quote_accepted m h s room d).facts)) (next_trade h.facts) []) (sym (quote_accepted_reported r i ks m h s room d (first_quote h.facts room.number))) tt)

withdrawn_idle : (r : TrailRow) (taken : Option Taken) (ks : List Known) (m : Market) (q : RoomQuote) (o : Option Room) (rs : List Reply) → made_after r taken ks None rs ≡ []
    → made_after r taken ks None (elim o [ None ↦ [] | Some x ↦ to_maker m x q Withdrawn ∷ to_requester m x q Withdrawn ∷ [] ] ++ rs) ≡ []
withdrawn_idle r taken ks m q None rs k = k
withdrawn_idle r taken ks m q (Some x) rs k = k

all_idle : (r : TrailRow) (taken : Option Taken) (ks : List Known) (m : Market) (h : History) (qs : List RoomQuote) → made_after r taken ks None (flat_map (both_emitted m h) qs) ≡ []
all_idle r taken ks m h [] = refl
all_idle r taken ks m h (q ∷ qs) = withdrawn_idle r taken ks m q (room_by_number h.facts q.room) (flat_map (both_emitted m h) qs) (all_idle r taken ks m h qs)

none_traded : (qs : List RoomQuote) → trades (map (λ (q : RoomQuote). fact.Withdrawn (record { quote = q.number })) qs) ≡ []
none_traded [] = refl
none_traded (q ∷ qs) = none_traded qs

withdrawn_reported : (r : TrailRow) (i : Input) (ks : List Known) (m : Market) (h : History) (x : Answer) (qs : List RoomQuote) → AllReported r i ks h x → AllReported r i ks h (withdrawn_or m h x qs)
withdrawn_reported r i ks m h x [] k = k
withdrawn_reported r i ks m h x (q ∷ qs) k =
    let facts = h.facts ++ (withdrawn_or m h x (q ∷ qs)).facts in
    subst (Aligned (IsReported r i ks h facts) (next_trade h.facts) (trades (map (λ (y : RoomQuote). fact.Withdrawn (record { quote = y.number })) (q ∷ qs)))) (sym (all_idle r (taken_in i) ks m h (q ∷ qs)))
    (subst (λ (ts : List Trade). Aligned (IsReported r i ks h facts) (next_trade h.facts) ts []) (sym (none_traded (q ∷ qs))) tt)

withdraw_one_reported : (r : TrailRow) (i : Input) (ks : List Known) (m : Market) (h : History) (s : Sender) (t : ℕ) (id : Option (List ℕ)) → AllReported r i ks h (withdraw_one m h s t id)
withdraw_one_reported r i ks m h s t None = tt
withdraw_one_reported r i ks m h s t (Some id) = withdrawn_reported r i ks m h (not_found s (Some id)) (filter (λ q. bytes_eq q.id id) (live_quotes h.facts s.who t)) tt

withdrawal_reported : (r : TrailRow) (i : Input) (ks : List Known) (m : Market) (h : History) (s : Sender) (d : WithdrawalMessage) (t : ℕ) (one all : Bool) → AllReported r i ks h (answer_withdrawal_of m h s d t one all)
withdrawal_reported r i ks m h s d t true all = withdraw_one_reported r i ks m h s t d.quote_id
withdrawal_reported r i ks m h s d t false true = withdrawn_reported r i ks m h (not_found s None) (live_quotes h.facts s.who t) tt
withdrawal_reported r i ks m h s d t false false = tt

-- Answers to quotes: a response of this participant came, which names this quote.

abbrev Responds : Input → Sender → List ℕ → Type 0
Responds i s quote = (sender i ≡ Some s.who) × (responded_in (taken_in i) ≡ Some quote)

quoted_fact : (f : Fact) (q : RoomQuote) → quote_in_fact f ≡ Some q → f ≡ fact.Quoted q
quoted_fact (fact.Quoted x) q h = ap (λ (y : RoomQuote). fact.Quoted y) (same_some x q h)
quoted_fact (fact.Entered x) q h = absurd (none_is_some q h)
quoted_fact (fact.Traded x) q h = absurd (none_is_some q h)
quoted_fact (fact.Removed x) q h = absurd (none_is_some q h)
quoted_fact (fact.Held x) q h = absurd (none_is_some q h)
quoted_fact (fact.Unheld x) q h = absurd (none_is_some q h)
quoted_fact (fact.Asked x) q h = absurd (none_is_some q h)
quoted_fact (fact.Withdrawn x) q h = absurd (none_is_some q h)
quoted_fact (fact.Closed x) q h = absurd (none_is_some q h)

was_quoted : (facts : List Fact) (q : RoomQuote) → In q (quotes facts) → In (fact.Quoted q) facts
was_quoted facts q i = let k = picked_from quote_in_fact facts q i in subst (λ (f : Fact). In f facts) (quoted_fact k.0 q k.2) k.1

hit_at_reported : (r : TrailRow) (i : Input) (ks : List Known) (m : Market) (h : History) (s : Sender) (room : Room) (q : RoomQuote) (d : ResponseMessage) (t : ℕ) (side : Side) (p : Option ℤ) → IsKnown ks (quotes h.facts) q → Responds i s (printed 81 q.number) → AllReported r i ks h (answer_hit_at m h s room q d t side p)
hit_at_reported r i ks m h s room q d t side None known is = tt
hit_at_reported r i ks m h s room q d t side (Some p) known is =
    let trade = next_trade h.facts in
    let taken = taken_in i in
    let facts = h.facts ++ (answer_hit_at m h s room q d t side (Some p)).facts in
    let made : List ℕ → Execution = λ quote. executed r trade (source.Room (record { quote = quote; side = side; id = own_id ks quote })) in
    let report : RoomReport = record { report = h.reports + 1; room = room.number; symbol = symbol_of m.instruments room.instrument; side = side; quantity = room.quantity; price = p; trade = trade; response_id = Some d.response_id } in
    let listed : made_at r taken ks (answer_hit_at m h s room q d t side (Some p)).replies ≡ made (printed 81 q.number) ∷ [] = ap (λ (o : Option (List ℕ)). hit r ks report (Some d.response_id) o ++ []) is.1 in
    subst (Aligned (IsReported r i ks h facts) trade (hit_trade s room q side p t ∷ [])) (sym listed)
    (record { number_is = refl; at_row = refl; moment = refl; joined = tt; source = record { quote_is = refl; quoted = known.one; was_quoted = Contains-from_In facts (fact.Quoted known.one) (In-append_left h.facts (answer_hit_at m h s room q d t side (Some p)).facts (fact.Quoted known.one) (was_quoted h.facts known.one known.quoted)); named = known.printed_is; id = known.id; requester = s.who; maker = q.maker; hit_by = is.0; buyer_is = refl; seller_is = refl } }, tt)

hit_reported : (r : TrailRow) (i : Input) (ks : List Known) (m : Market) (h : History) (s : Sender) (room : Room) (q : RoomQuote) (d : ResponseMessage) (t : ℕ) (side : Option Side) → IsKnown ks (quotes h.facts) q → Responds i s (printed 81 q.number) → AllReported r i ks h (answer_hit m h s room q d t side)
hit_reported r i ks m h s room q d t None known is = tt
hit_reported r i ks m h s room q d t (Some side) known is = hit_at_reported r i ks m h s room q d t side (price_for side q) known is

response_in_reported : (r : TrailRow) (i : Input) (ks : List Known) (m : Market) (h : History) (s : Sender) (q : RoomQuote) (d : ResponseMessage) (t : ℕ) (o : Option Room) → IsKnown ks (quotes h.facts) q → Responds i s (printed 81 q.number) → AllReported r i ks h (answer_response_in m h s q d t o)
response_in_reported r i ks m h s q d t None known is = tt
response_in_reported r i ks m h s q d t (Some room) known is =
    first_reported r i ks h (response_refusals m h s room q d t) (answer_hit m h s room q d t (taken_side room.side d.side)) (tt, (tt, (tt, (tt, (tt, (tt, tt)))))) (hit_reported r i ks m h s room q d t (taken_side room.side d.side) known is)

response_to_reported : (r : TrailRow) (i : Input) (ks : List Known) (m : Market) (h : History) (s : Sender) (d : ResponseMessage) (t : ℕ) (o : Option RoomQuote) → ((q : RoomQuote) → o ≡ Some q → IsKnown ks (quotes h.facts) q × Responds i s (printed 81 q.number)) → AllReported r i ks h (answer_response_to m h s d t o)
response_to_reported r i ks m h s d t None is = tt
response_to_reported r i ks m h s d t (Some q) is = response_in_reported r i ks m h s q d t (room_by_number h.facts q.room) (is q refl).0 (is q refl).1

response_reported : (r : TrailRow) (i : Input) (ks : List Known) (m : Market) (h : History) (s : Sender) (d : ResponseMessage) (t : ℕ) → AreKnown ks (quotes h.facts) → Responds i s d.quote_id → AllReported r i ks h (answer_response m h s d t)
response_reported r i ks m h s d t known is = first_reported r i ks h (kind_refusals s d) (answer_response_to m h s d t (find_quote h.facts d.quote_id)) (tt, tt)
    (response_to_reported r i ks m h s d t (find_quote h.facts d.quote_id)
    (λ q e. (known q (In-find (λ (y : RoomQuote). bytes_eq (printed 81 y.number) d.quote_id) (quotes h.facts) q e).0, (is.0, is.1 ∙ ap (λ (id : List ℕ). Some id) (sym ((bytes_eq-Decides (printed 81 q.number) d.quote_id).0 (In-find (λ (y : RoomQuote). bytes_eq (printed 81 y.number) d.quote_id) (quotes h.facts) q e).1))))))

market_data_reported : (r : TrailRow) (i : Input) (ks : List Known) (m : Market) (h : History) (s : Sender) (d : MarketDataMessage) → AllReported r i ks h (answer_market_data m h s d)
market_data_reported r i ks m h s d = first_reported r i ks h (market_data_refusals m s d) (market_data m h s d) (tt, (tt, (tt, tt))) tt

-- Any message, and a tick.

app_reported : (r : TrailRow) (i : Input) (ks : List Known) (m : Market) (h : History) (s : Sender) (a : App) (t : ℕ) → ((who : ℕ) (id : List ℕ) → EntersAs h i who id) → AreKnown ks (quotes h.facts) → ((d : ResponseMessage) → a ≡ QuoteResponse d → Responds i s d.quote_id) → AllReported r i ks h (answer_app m h s a t)
app_reported r i ks m h s (QuoteRequest d) t any known is = request_reported r i ks m h s d t
app_reported r i ks m h s (Quote d) t any known is = quote_reported r i ks m h s d t (find_room h.facts d.request_id)
app_reported r i ks m h s (QuoteCancel d) t any known is = withdrawal_reported r i ks m h s d t (d.cancel_type == 5) (d.cancel_type == 4)
app_reported r i ks m h s (QuoteResponse d) t any known is = response_reported r i ks m h s d t known (is d refl)
app_reported r i ks m h s (NewOrderSingle d) t any known is = order_reported r i ks m h s d t any
app_reported r i ks m h s (OrderCancelRequest d) t any known is = cancel_reported r i ks m h s d (named h s.who d.original_id)
app_reported r i ks m h s (OrderCancelReplaceRequest d) t any known is = replace_reported r i ks m h s d t (named h s.who d.original_id) any
app_reported r i ks m h s (NewOrderCross d) t any known is = cross_reported r i ks m h s d t any
app_reported r i ks m h s (MarketDataRequest d) t any known is = market_data_reported r i ks m h s d
app_reported r i ks m h s (BusinessMessageReject d) t any known is = tt
app_reported r i ks m h s (QuoteStatusReport d) t any known is = tt
app_reported r i ks m h s (QuoteRequestReject d) t any known is = tt
app_reported r i ks m h s (ExecutionReport d) t any known is = tt
app_reported r i ks m h s (OrderCancelReject d) t any known is = tt
app_reported r i ks m h s (MarketDataSnapshot d) t any known is = tt
app_reported r i ks m h s (MarketDataRequestReject d) t any known is = tt
app_reported r i ks m h s (Unsupported kind) t any known is = tt

pub input_reported : (r : TrailRow) (i : Input) (ks : List Known) (m : Market) (h : History) → AreKnown ks (quotes h.facts) → AllReported r i ks h (answer_input m h i)
input_reported r (Message taken t) ks m h known =
    app_reported r (Message taken t) ks m h (record { who = taken.from; number = taken.item.number; kind = type_of taken.item.app }) taken.item.app t (λ who id. tt) known (λ d e. (refl, ap responded e))
input_reported r (Tick t) ks m h known = due_or_none_reported r (Tick t) ks m h (due h.facts t) (λ k e. (k, e, refl, refl))
