-- The replies to each message, and to a tick, state which orders enter by it, what trades are made, and which side is
-- held.
use Rattle.std.proofs.Common.{◌≡◌, refl, sym, ap, subst, ◌∙◌, ◌⊎◌, inl, inr, ℕ, ℤ, ◌+◌, ◌==◌, Bool, true, false, not, ◌&&◌, ◌||◌, nat_lt, if◌then◌else◌, List, [], ◌∷◌, ◌++◌, map, filter_map, flat_map, Option, Some, None, is_none, append-nil, arith, pos, eqb-true}
use Rattle.std.specs.Prelude.{bytes_eq, filter, sum_by, unwrap_or}
use Rattle.std.specs.List.{cons_option, enumerate_from}
use Rattle.std.proofs.lemmas.Bool.{true≢false, false_from_ne_true}
use Rattle.std.proofs.lemmas.List.Elements.{filter_map-append}
use Rattle.std.proofs.lemmas.Slice.Eq.{bytes_eq-Decides}
use Rattle.fix_dictionary.specs.declared.messages.App.{App}
use Rattle.fix_dictionary.specs.declared.messages.App.TheVariants.{QuoteRequest, Quote, QuoteCancel, QuoteResponse, QuoteStatusReport, QuoteRequestReject, NewOrderSingle, OrderCancelRequest, OrderCancelReplaceRequest, NewOrderCross, ExecutionReport, OrderCancelReject, MarketDataRequest, MarketDataSnapshot, MarketDataRequestReject, BusinessMessageReject, Unsupported}
use Rattle.fix_dictionary.specs.declared.messages.NewOrderSingle.{NewOrderSingle as OrderMessage}
use Rattle.fix_dictionary.specs.declared.messages.OrderCancelRequest.{OrderCancelRequest as CancelMessage}
use Rattle.fix_dictionary.specs.declared.messages.OrderCancelReplaceRequest.{OrderCancelReplaceRequest as ReplaceMessage}
use Rattle.fix_dictionary.specs.declared.messages.NewOrderCross.{NewOrderCross as CrossMessage}
use Rattle.fix_dictionary.specs.declared.messages.QuoteRequest.{QuoteRequest as RequestMessage}
use Rattle.fix_dictionary.specs.declared.messages.Quote.{Quote as QuoteMessage}
use Rattle.fix_dictionary.specs.declared.messages.QuoteCancel.{QuoteCancel as WithdrawalMessage}
use Rattle.fix_dictionary.specs.declared.messages.QuoteResponse.{QuoteResponse as ResponseMessage}
use Rattle.fix_dictionary.specs.declared.messages.MarketDataRequest.{MarketDataRequest as MarketDataMessage}
use Rattle.fix_dictionary.specs.declared.values.Side.{Side}
use Rattle.instruments.specs.Listing.{delay_of, instrument_of, symbol_of}
use Rattle.venue_rules.specs.declared.facts.Entry.{Entry}
use Rattle.venue_rules.specs.declared.facts.Fact.{Fact}
use Rattle.venue_rules.specs.declared.facts.Fact.TheVariants.{Held, Traded, Withdrawn as WithdrawnFact}
use Rattle.venue_rules.specs.declared.facts.HeldSide.{HeldSide}
use Rattle.venue_rules.specs.declared.facts.OrderFact.{OrderFact}
use Rattle.venue_rules.specs.declared.facts.TradeSource.{TradeSource}
use Rattle.venue_rules.specs.declared.facts.TradeSource.TheVariants.{Book as InBook, Room as InRoom}
use Rattle.venue_rules.specs.declared.facts.Room.{Room}
use Rattle.venue_rules.specs.declared.facts.RoomQuote.{RoomQuote}
use Rattle.venue_rules.specs.declared.facts.Trade.{Trade}
use Rattle.venue_rules.specs.declared.refusals.ChangeRefusal.TheVariants.{HeldSide as IsHeldSide}
use Rattle.venue_rules.specs.declared.replies.QuoteState.TheVariants.{Accepted, Withdrawn}
use Rattle.venue_rules.specs.declared.replies.OrderReport.{OrderReport}
use Rattle.venue_rules.specs.declared.replies.Reply.{Reply}
use Rattle.venue_rules.specs.declared.trail.TrailRow.{TrailRow}
use Rattle.venue_rules.specs.declared.replies.ReplyBody.{ReplyBody}
use Rattle.venue_rules.specs.declared.replies.ReplyBody.TheVariants.{OrderEntered, OrderFilled, OrderReplaced, OrderUnfilled}
use Rattle.venue_rules.specs.Answer.{Answer, Sender, first_of, numbered, reply}
use Rattle.venue_rules.specs.Answers.{answer_app, type_of}
use Rattle.venue_rules.specs.Book.{Fill, Resting, accepts, against, fills, filled, filled_by, find_order, is_better, is_day, is_killed, left, opposite, paired, rank, ranked, rests, shares, with_left}
use Rattle.venue_rules.specs.Changes.{Named, IsResting, IsHeld, IsUnknown, named, standing, answer_cancel_of, answer_replace_of, cancel_refusals, held_replace_refusals, replace_refusals, replace_refused, cancelled, held_cancelled, replaced, replacement}
use Rattle.venue_rules.specs.Crosses.{answer_cross, answer_due, cross_accepted, cross_refusals, side_order, first_side, is_first, second_side, due_refusals}
use Rattle.venue_rules.specs.Delay.{due, find_held}
use Rattle.venue_rules.specs.Entering.{entering, entry_facts, entry_reports, fill_report, fill_reports, order_report, trade_of, unfilled_reports}
use Rattle.venue_rules.specs.Facts.{History, entries, entry_in as entry_in_fact, held_in as held_in_fact, held_sides, is_order_id_used, next_trade, room_in as room_in_fact, rooms, trade_in as trade_in_fact, trades, quotes}
use Rattle.venue_rules.specs.Market.{Market}
use Rattle.venue_rules.specs.MarketData.{answer_market_data, market_data_refusals, market_data}
use Rattle.venue_rules.specs.Orders.{accepted, answer_order, order_asked, order_refusals}
use Rattle.venue_rules.specs.Quotes.{answer_quote_of, quote_refusals, quote_accepted, quote_sent, quote_status, quoted, shown_with}
use Rattle.venue_rules.specs.Requests.{answer_request, request_accepted, request_refusals, request_sent, opened}
use Rattle.venue_rules.specs.Responses.{answer_response, answer_response_to, answer_response_in, answer_hit, answer_hit_at, response_refusals, kind_refusals, room_traded, taken_side, price_for}
use Rattle.venue_rules.specs.Rooms.{find_room, find_quote, first_quote, printed, room_by_number}
use Rattle.venue_rules.specs.Run.{Input, Message, Tick, answer_input, answer_due_of}
use Rattle.venue_rules.specs.Withdrawals.{answer_withdrawal_of, withdraw_one, withdrawn_or, not_found, both_emitted, to_maker, to_requester}
use Rattle.trade_reconstruction.specs.declared.trigger.Trigger.{Trigger}
use Rattle.trade_reconstruction.specs.declared.trigger.Trigger.TheVariants as trigger
use Rattle.trade_reconstruction.specs.declared.evidence_event.EvidenceEvent.{EvidenceEvent}
use Rattle.trade_reconstruction.specs.declared.standing.Met.{Met}
use Rattle.trade_reconstruction.specs.Found.{met_emitted, original_of, original_emitted}
use Rattle.trade_reconstruction.specs.EventKinds.{trigger_in, is_tick, price_in}
use Rattle.trade_reconstruction.specs.Standing.{met_of}
use Rattle.venue_core.specs.Replay.{Emits}
use Rattle.trade_reconstruction.specs.Emitted.{came_of}
use Rattle.venue_rules.proofs.Members.{In, In-append_left, In-append_right, In-find}
use Rattle.trade_blotter.proofs.Lists.{In-filtered, In-map}
use Rattle.trade_reconstruction.proofs.Says.{HeardAsked, HeardEntry, HeardFill, HeardHit, HeardHold, asking_by, entry_by, fill_by, hit_by, hold_by, hold_from}

-- What facts are to be reported as.

-- a message's order enters at its moment and has its price; a held side enters at a tick
abbrev pub price_at : Bool → ℤ → Option ℤ
price_at true price = None
price_at false price = Some price

abbrev pub moment_at : Bool → ℕ → ℕ → ℕ
moment_at true row entry = row
moment_at false row entry = entry

abbrev pub heard_with : Market → ℕ → Entry → ℕ → Option ℤ → Option (List ℕ) → Bool → HeardEntry
heard_with m n e moment price original tick = record { row = n; moment = moment; to = e.order.who; order = e.number; id = e.order.id; symbol = symbol_of m.instruments e.order.instrument; side = e.order.side; quantity = e.order.quantity; price = price; original = original; at_tick = tick }

abbrev pub emitted_entry : Market → ℕ → ℕ → Bool → Option (List ℕ) → Entry → HeardEntry
emitted_entry m n t tick original e = heard_with m n e (moment_at tick t e.moment) (price_at tick e.order.price) original tick

-- of a trade in the book, the entering order and the resting one
abbrev pub pair_emitted : ℕ → ℕ → TradeSource → List HeardFill → List HeardFill
pair_emitted n trade (InBook old new) rest = record { row = n; order = new; trade = trade } ∷ record { row = n; order = old; trade = trade } ∷ rest
pair_emitted n trade (InRoom room quote) rest = rest

-- of trades with their rows, the first of which has this number
abbrev pub fills_emitted : ℕ → List (ℕ × Trade) → List HeardFill
fills_emitted trade [] = []
fills_emitted trade (p ∷ ps) = pair_emitted p.0 trade p.1.place (fills_emitted (trade + 1) ps)

-- of a room trade, its number twice: to the requester and to the maker
abbrev pub hit_emitted : ℕ → ℕ → ℤ → ℕ → ℕ → HeardHit
hit_emitted n trade price room quote = record { row = n; room = room; trade = trade; quote = printed 81 quote; price = price }

abbrev pub hits_of : ℕ → ℕ → ℤ → TradeSource → List HeardHit → List HeardHit
hits_of n trade price (InRoom room quote) rest = hit_emitted n trade price room quote ∷ hit_emitted n trade price room quote ∷ rest
hits_of n trade price (InBook old new) rest = rest

abbrev pub hits_emitted : ℕ → List (ℕ × Trade) → List HeardHit
hits_emitted trade [] = []
hits_emitted trade (p ∷ ps) = hits_of p.0 trade p.1.price p.1.place (hits_emitted (trade + 1) ps)

abbrev pub at_row : ℕ → List Trade → List (ℕ × Trade)
at_row n ts = map (λ (x : Trade). (n, x)) ts

abbrev pub emitted_hold : HeldSide → HeardHold
emitted_hold k = record { who = k.order.who; id = k.order.id; cross = k.cross; until = k.due }

-- a trade in the book is of one of these entries
abbrev pub IsOf : List Entry → TradeSource → Type 0
IsOf es (InBook old new) = (e : Entry) × In e es × (e.number ≡ new)
IsOf es (InRoom room quote) = Unit {0}

abbrev pub AreOf : List Entry → List Trade → Type 0
AreOf es [] = Unit {0}
AreOf es (t ∷ ts) = IsOf es t.place × AreOf es ts

-- no side is held, or one, under an identifier that was not used
abbrev pub HoldsAnew : List Fact → List HeldSide → Type 0
HoldsAnew before ks = (ks ≡ []) ⊎ ((k : HeldSide) × (ks ≡ k ∷ []) × (is_order_id_used before k.order.who k.order.id ≡ false))

-- of a room, each recipient
abbrev pub emitted_asked : Market → ℕ → ℕ → Room → ℕ → HeardAsked
emitted_asked m n t r to = record { row = n; moment = t; to = to; requester = r.requester; request = r.id; room = r.number; symbol = symbol_of m.instruments r.instrument; side = r.side; quantity = r.quantity }

abbrev pub asked_emitted : Market → ℕ → ℕ → Room → List HeardAsked
asked_emitted m n t r = map (emitted_asked m n t r) r.recipients

-- the order whose fill a report states
abbrev pub met_in_what : ℕ → ReplyBody → Option Met
met_in_what to (OrderFilled f) = met_of to f f.order.order
met_in_what to _ = None

abbrev pub met_in : Reply → Option Met
met_in r = met_in_what r.to r.what

-- each is one of these entries
abbrev pub FillsOf : Market → List Entry → List Met → Type 0
FillsOf m es [] = Unit {0}
FillsOf m es (x ∷ xs) = ((e : Entry) × In e es × (x ≡ met_emitted m e)) × FillsOf m es xs

-- where an answer is reported
pub record Here : Type 0 where
  pub market : Market
  pub row : ℕ
  pub moment : ℕ
  pub trigger : Trigger
  pub original : Option (List ℕ)
  pub tick : Bool

abbrev pub Says : Here → History → Answer → Type 0
Says w h a =
    (filter_map (entry_by w.row w.moment w.trigger) a.replies ≡ map (emitted_entry w.market w.row w.moment w.tick w.original) (entries a.facts))
    × ((filter_map (fill_by w.row) a.replies ≡ fills_emitted (next_trade h.facts) (at_row w.row (trades a.facts)))
    × ((filter_map (hold_by w.moment w.trigger) a.replies ≡ map emitted_hold (held_sides a.facts))
    × (AreOf (entries a.facts) (trades a.facts)
    × (HoldsAnew h.facts (held_sides a.facts)
    × ((filter_map (hit_by w.row w.trigger) a.replies ≡ hits_emitted (next_trade h.facts) (at_row w.row (trades a.facts)))
    × (FillsOf w.market (entries h.facts ++ entries a.facts) (filter_map met_in a.replies)
    × (filter_map (asking_by w.row w.moment w.trigger) a.replies ≡ flat_map (asked_emitted w.market w.row w.moment) (rooms a.facts))))))))

-- the first refusal that holds

abbrev pub AllSay : Here → History → List (Bool × Answer) → Type 0
AllSay w h [] = Unit {0}
AllSay w h (r ∷ rs) = Says w h r.1 × AllSay w h rs

abbrev pub NoneHolds : List (Bool × Answer) → Type 0
NoneHolds [] = Unit {0}
NoneHolds (r ∷ rs) = (r.0 ≡ false) × NoneHolds rs

first_case : (w : Here) (h : History) (b c : Bool) (x y : Answer) → c ≡ b → Says w h x → (c ≡ false → Says w h y) → Says w h (elim b [ true ↦ x | false ↦ y ])
first_case w h true c x y e k l = k
first_case w h false c x y e k l = l e

pub first_of-Says : (w : Here) (h : History) (rs : List (Bool × Answer)) (x : Answer) → AllSay w h rs → (NoneHolds rs → Says w h x) → Says w h (first_of rs x)
first_of-Says w h [] x n k = k tt
first_of-Says w h (r ∷ rs) x n k = first_case w h r.0 r.0 r.1 (first_of rs x) refl n.0 (λ e. first_of-Says w h rs x n.1 (λ l. k (e, l)))

-- replies of nothing of the kind

pub record IsSilent (w : Here) (rs : List Reply) : Type 0 where
  pub entry : filter_map (entry_by w.row w.moment w.trigger) rs ≡ []
  pub fill : filter_map (fill_by w.row) rs ≡ []
  pub hold : filter_map (hold_by w.moment w.trigger) rs ≡ []
  pub hit : filter_map (hit_by w.row w.trigger) rs ≡ []
  pub met : filter_map met_in rs ≡ []

-- Reports that wait for their numbers.

abbrev IsSteady : {Y : Type 0} → (Reply → Option Y) → List (ℕ → Reply) → Type 0
IsSteady pick [] = Unit {0}
IsSteady pick (f ∷ fs) = ((k : ℕ) → pick (f k) ≡ pick (f 0)) × IsSteady pick fs

steady_append : {Y : Type 0} (pick : Reply → Option Y) (fs gs : List (ℕ → Reply)) → IsSteady pick fs → IsSteady pick gs → IsSteady pick (fs ++ gs)
steady_append pick [] gs a b = b
steady_append pick (f ∷ fs) gs a b = (a.0, steady_append pick fs gs a.1 b)

numbered_picked : {Y : Type 0} (pick : Reply → Option Y) (n : ℕ) (fs : List (ℕ → Reply)) → IsSteady pick fs → filter_map pick (numbered n fs) ≡ filter_map (λ f. pick (f 0)) fs
numbered_picked pick n [] s = refl
numbered_picked pick n (f ∷ fs) s = ap (λ o. cons_option o (filter_map pick (numbered (n + 1) fs))) (s.0 (n + 1)) ∙ ap (cons_option (pick (f 0))) (numbered_picked pick (n + 1) fs s.1)

-- A fill is with an order that entered.

In-rank : (side : Side) (r : Resting) (ss : List Resting) (x : Resting) → In x (rank side r ss) → In x (r ∷ ss)
In-rank side r [] x i = i
In-rank side r (s ∷ ss) x i =
    (elim (is_better side s.entry.order.price r.entry.order.price) as (λ b. In x (if b then s ∷ rank side r ss else r ∷ s ∷ ss) → In x (r ∷ s ∷ ss)) [ true ↦ λ k. behind_first (In-rank side r ss x) k | false ↦ λ k. k ]) i
  where
    swap : In x (r ∷ ss) → In x (r ∷ s ∷ ss)
    swap (inl e) = inl e
    swap (inr k) = inr (inr k)

    behind_first : (In x (rank side r ss) → In x (r ∷ ss)) → In x (s ∷ rank side r ss) → In x (r ∷ s ∷ ss)
    behind_first rec (inl e) = inr (inl e)
    behind_first rec (inr k) = swap (rec k)

In-ranked : (side : Side) (rs : List Resting) (x : Resting) → In x (ranked side rs) → In x rs
In-ranked side [] x i = i
In-ranked side (r ∷ rs) x i = by (In-ranked side rs x) (In-rank side r (ranked side rs) x i)
  where
    by : (In x (ranked side rs) → In x rs) → In x (r ∷ ranked side rs) → In x (r ∷ rs)
    by rec (inl e) = inl e
    by rec (inr k) = inr (rec k)

In-paired : (rs : List Resting) (qs : List ℕ) (f : Fill) → In f (paired rs qs) → In f.resting rs
In-paired [] qs f i = absurd i
In-paired (r ∷ rs) [] f i = absurd i
In-paired (r ∷ rs) (q ∷ qs) f (inl e) = inl (ap (λ (g : Fill). g.resting) e)
In-paired (r ∷ rs) (q ∷ qs) f (inr i) = inr (In-paired rs qs f i)

unless : (b : Bool) (f : Fill) (fs : List Fill) → In f (if b then [] else fs) → In f fs
unless true f fs i = absurd i
unless false f fs i = i

fill_entered : (facts : List Fact) (o : OrderFact) (f : Fill) → In f (fills facts o) → In f.resting.entry (entries facts)
fill_entered facts o f i =
    let rs = against facts o in
    let lefts = map (λ (r : Resting). r.left) rs in
    let qs = shares o.quantity lefts in
    let all = map (with_left (left facts)) (entries facts) in
    let here = filter (rests o.instrument (opposite o.side)) all in
    let paired_in = In-filtered (λ (g : Fill). nat_lt 0 g.quantity) (paired rs qs) f (unless (is_killed o.life o.quantity (sum_by (λ (r : Resting). r.left) rs)) f (filter (λ (g : Fill). nat_lt 0 g.quantity) (paired rs qs)) i) in
    let rests_in = In-filtered (λ (r : Resting). accepts o.side o.price r.entry.order.price) (ranked (opposite o.side) here) f.resting (In-paired rs qs f paired_in) in
    let entered = In-map (with_left (left facts)) (entries facts) f.resting (In-filtered (rests o.instrument (opposite o.side)) all f.resting (In-ranked (opposite o.side) here f.resting rests_in)) in
    subst (λ (e : Entry). In e (entries facts)) (ap (λ (r : Resting). r.entry) entered.2) entered.1

-- An order that enters.

-- what its fills' reports are picked for
pub record Picks {Y : Type 0} (pick : Reply → Option Y) (m : Market) (e : Entry) : Type 0 where
  pub steady : (x : Entry) (left done : ℕ) (f : Fill) (trade k : ℕ) → pick (fill_report m x left done f trade k) ≡ pick (fill_report m x left done f trade 0)
  pub rest : (fs : List Fill) (k : ℕ) → pick (reply e.order.who (OrderUnfilled (order_report m e 0 (e.filled_before + filled_by fs) k))) ≡ None

fills_steady : {Y : Type 0} (pick : Reply → Option Y) (m : Market) (e : Entry) → Picks pick m e → (all : List Fill) (trade j : ℕ) (fs : List Fill) → IsSteady pick (flat_map (fill_reports m e all trade) (enumerate_from j fs))
fills_steady pick m e p all trade j [] = tt
fills_steady pick m e p all trade j (f ∷ fs) = (λ k. p.steady e _ _ f (trade + j) k, (λ k. p.steady f.resting.entry _ _ f (trade + j) k, fills_steady pick m e p all trade (j + 1) fs))

abbrev unfilled : Market → Entry → List Fill → Bool → List (ℕ → Reply)
unfilled m e fs b = if b then (λ n. reply e.order.who (OrderUnfilled (order_report m e 0 (e.filled_before + filled_by fs) n))) ∷ [] else []

unfilled_steady : {Y : Type 0} (pick : Reply → Option Y) (m : Market) (e : Entry) → Picks pick m e → (fs : List Fill) (b : Bool) → IsSteady pick (unfilled m e fs b)
unfilled_steady pick m e p fs true = (λ k. p.rest fs k ∙ sym (p.rest fs 0), tt)
unfilled_steady pick m e p fs false = tt

unfilled_picked : {Y : Type 0} (pick : Reply → Option Y) (m : Market) (e : Entry) → Picks pick m e → (fs : List Fill) (b : Bool) → filter_map (λ f. pick (f 0)) (unfilled m e fs b) ≡ []
unfilled_picked pick m e p fs true = ap (λ o. cons_option o []) (p.rest fs 0)
unfilled_picked pick m e p fs false = refl

entry_steady : {Y : Type 0} (pick : Reply → Option Y) (m : Market) (facts : List Fact) (e : Entry) → Picks pick m e → (fs : List Fill) → IsSteady pick (entry_reports m facts e fs)
entry_steady pick m facts e p fs =
    steady_append pick (flat_map (fill_reports m e fs (next_trade facts)) (enumerate_from 0 fs)) (unfilled_reports m e fs) (fills_steady pick m e p fs (next_trade facts) 0 fs)
    (unfilled_steady pick m e p fs (not (is_day e.order.life) && nat_lt (filled_by fs) e.order.quantity))

-- a report on the entry, then those of its fills and of its rest: the last is of no account
pub entry_picked : {Y : Type 0} (pick : Reply → Option Y) (m : Market) (facts : List Fact) (e : Entry) → Picks pick m e → (fs : List Fill) (n : ℕ) (first : ℕ → Reply) → ((k : ℕ) → pick (first k) ≡ pick (first 0))
    → filter_map pick (numbered n (first ∷ entry_reports m facts e fs)) ≡ cons_option (pick (first 0)) (filter_map (λ f. pick (f 0)) (flat_map (fill_reports m e fs (next_trade facts)) (enumerate_from 0 fs)))
entry_picked pick m facts e p fs n first same =
    numbered_picked pick n (first ∷ entry_reports m facts e fs) (same, entry_steady pick m facts e p fs)
    ∙ ap (cons_option (pick (first 0)))
    (filter_map-append (λ (f : ℕ → Reply). pick (f 0)) (flat_map (fill_reports m e fs (next_trade facts)) (enumerate_from 0 fs)) (unfilled_reports m e fs)
    ∙ (ap (λ l. filter_map (λ (f : ℕ → Reply). pick (f 0)) (flat_map (fill_reports m e fs (next_trade facts)) (enumerate_from 0 fs)) ++ l) (unfilled_picked pick m e p fs (not (is_day e.order.life) && nat_lt (filled_by fs) e.order.quantity))
    ∙ append-nil _))

entry_picks : (n t : ℕ) (c : Trigger) (m : Market) (e : Entry) → Picks (entry_by n t c) m e
entry_picks n t c m e = record { steady = λ x left done f trade k. refl; rest = λ fs k. refl }

fill_picks : (n : ℕ) (m : Market) (e : Entry) → Picks (fill_by n) m e
fill_picks n m e = record { steady = λ x left done f trade k. refl; rest = λ fs k. refl }

hold_picks : (t : ℕ) (c : Trigger) (m : Market) (e : Entry) → Picks (hold_by t c) m e
hold_picks t c m e = record { steady = λ x left done f trade k. refl; rest = λ fs k. refl }

hit_picks : (n : ℕ) (c : Trigger) (m : Market) (e : Entry) → Picks (hit_by n c) m e
hit_picks n c m e = record { steady = λ x left done f trade k. refl; rest = λ fs k. refl }

abbrev pub trade_facts : Entry → List Fill → List Fact
trade_facts e fs = map (λ f. Traded (trade_of e f)) fs

met_picks : (m : Market) (e : Entry) → Picks met_in m e
met_picks m e = record { steady = λ x left done f trade k. refl; rest = λ fs k. refl }

fills_met : (m : Market) (e : Entry) (all : List Fill) (trade j : ℕ) (fs : List Fill) (es : List Entry) → In e es → ((f : Fill) → In f fs → In f.resting.entry es) → FillsOf m es (filter_map (λ (f : ℕ → Reply). met_in (f 0)) (flat_map (fill_reports m e all trade) (enumerate_from j fs)))
fills_met m e all trade j [] es own there = tt
fills_met m e all trade j (f ∷ fs) es own there = ((e, own, refl), ((f.resting.entry, there f (inl refl), refl), fills_met m e all trade (j + 1) fs es own (λ g i. there g (inr i))))

asking_picks : (n t : ℕ) (c : Trigger) (m : Market) (e : Entry) → Picks (asking_by n t c) m e
asking_picks n t c m e = record { steady = λ x left done f trade k. refl; rest = λ fs k. refl }

no_askings : (n t : ℕ) (c : Trigger) (m : Market) (e : Entry) (all : List Fill) (trade j : ℕ) (fs : List Fill) → filter_map (λ (f : ℕ → Reply). asking_by n t c (f 0)) (flat_map (fill_reports m e all trade) (enumerate_from j fs)) ≡ []
no_askings n t c m e all trade j [] = refl
no_askings n t c m e all trade j (f ∷ fs) = no_askings n t c m e all trade (j + 1) fs

no_rooms : (e : Entry) (fs : List Fill) → rooms (trade_facts e fs) ≡ []
no_rooms e [] = refl
no_rooms e (f ∷ fs) = no_rooms e fs

no_hits : (n : ℕ) (c : Trigger) (m : Market) (e : Entry) (all : List Fill) (trade j : ℕ) (fs : List Fill) → filter_map (λ (f : ℕ → Reply). hit_by n c (f 0)) (flat_map (fill_reports m e all trade) (enumerate_from j fs)) ≡ []
no_hits n c m e all trade j [] = refl
no_hits n c m e all trade j (f ∷ fs) = no_hits n c m e all trade (j + 1) fs

no_entries : (n t : ℕ) (c : Trigger) (m : Market) (e : Entry) (all : List Fill) (trade j : ℕ) (fs : List Fill) → filter_map (λ (f : ℕ → Reply). entry_by n t c (f 0)) (flat_map (fill_reports m e all trade) (enumerate_from j fs)) ≡ []
no_entries n t c m e all trade j [] = refl
no_entries n t c m e all trade j (f ∷ fs) = no_entries n t c m e all trade (j + 1) fs

no_holds : (t : ℕ) (c : Trigger) (m : Market) (e : Entry) (all : List Fill) (trade j : ℕ) (fs : List Fill) → filter_map (λ (f : ℕ → Reply). hold_by t c (f 0)) (flat_map (fill_reports m e all trade) (enumerate_from j fs)) ≡ []
no_holds t c m e all trade j [] = refl
no_holds t c m e all trade j (f ∷ fs) = no_holds t c m e all trade (j + 1) fs

both_filled : (n : ℕ) (m : Market) (e : Entry) (all : List Fill) (trade j : ℕ) (fs : List Fill) → filter_map (λ (f : ℕ → Reply). fill_by n (f 0)) (flat_map (fill_reports m e all trade) (enumerate_from j fs)) ≡ fills_emitted (trade + j) (at_row n (trades (trade_facts e fs)))
both_filled n m e all trade j [] = refl
both_filled n m e all trade j (f ∷ fs) =
    ap (λ l. record { row = n; order = e.number; trade = trade + j } ∷ record { row = n; order = f.resting.entry.number; trade = trade + j } ∷ l)
    (both_filled n m e all trade (j + 1) fs ∙ ap (λ k. fills_emitted k (at_row n (trades (trade_facts e fs)))) (next trade j))
  where
    next : (a b : ℕ) → a + (b + 1) ≡ a + b + 1
    next a b = omega arith

none_in_rooms : (n trade : ℕ) (e : Entry) (fs : List Fill) → hits_emitted trade (at_row n (trades (trade_facts e fs))) ≡ []
none_in_rooms n trade e [] = refl
none_in_rooms n trade e (f ∷ fs) = none_in_rooms n (trade + 1) e fs

pub no_entry_facts : (e : Entry) (fs : List Fill) → entries (trade_facts e fs) ≡ []
no_entry_facts e [] = refl
no_entry_facts e (f ∷ fs) = no_entry_facts e fs

pub no_held_facts : (e : Entry) (fs : List Fill) → held_sides (trade_facts e fs) ≡ []
no_held_facts e [] = refl
no_held_facts e (f ∷ fs) = no_held_facts e fs

trades_of_entry : (es : List Entry) (e : Entry) (fs : List Fill) → In e es → AreOf es (trades (trade_facts e fs))
trades_of_entry es e [] i = tt
trades_of_entry es e (f ∷ fs) i = ((e, i, refl), trades_of_entry es e fs i)

pub entered_once : (e : Entry) (fs : List Fill) → entries (entry_facts e fs) ≡ e ∷ []
entered_once e fs = ap (λ es. e ∷ es) (no_entry_facts e fs)

entry_said : (w : Here) (facts : List Fact) (e : Entry) (fs : List Fill) (n : ℕ) (first : ℕ → Reply) → ((k : ℕ) → entry_by w.row w.moment w.trigger (first k) ≡ Some (emitted_entry w.market w.row w.moment w.tick w.original e))
    → filter_map (entry_by w.row w.moment w.trigger) (numbered n (first ∷ entry_reports w.market facts e fs)) ≡ map (emitted_entry w.market w.row w.moment w.tick w.original) (entries (entry_facts e fs))
entry_said w facts e fs n first is =
    entry_picked (entry_by w.row w.moment w.trigger) w.market facts e (entry_picks w.row w.moment w.trigger w.market e) fs n first (λ k. is k ∙ sym (is 0))
    ∙ (ap (λ o. cons_option o (filter_map (λ (f : ℕ → Reply). entry_by w.row w.moment w.trigger (f 0)) (flat_map (fill_reports w.market e fs (next_trade facts)) (enumerate_from 0 fs)))) (is 0)
    ∙ (ap (λ l. emitted_entry w.market w.row w.moment w.tick w.original e ∷ l) (no_entries w.row w.moment w.trigger w.market e fs (next_trade facts) 0 fs)
    ∙ sym (ap (map (emitted_entry w.market w.row w.moment w.tick w.original)) (entered_once e fs))))

fill_said : (w : Here) (facts : List Fact) (e : Entry) (fs : List Fill) (n : ℕ) (first : ℕ → Reply) → ((k : ℕ) → fill_by w.row (first k) ≡ None)
    → filter_map (fill_by w.row) (numbered n (first ∷ entry_reports w.market facts e fs)) ≡ fills_emitted (next_trade facts) (at_row w.row (trades (entry_facts e fs)))
fill_said w facts e fs n first is =
    entry_picked (fill_by w.row) w.market facts e (fill_picks w.row w.market e) fs n first (λ k. is k ∙ sym (is 0))
    ∙ (ap (λ o. cons_option o (filter_map (λ (f : ℕ → Reply). fill_by w.row (f 0)) (flat_map (fill_reports w.market e fs (next_trade facts)) (enumerate_from 0 fs)))) (is 0)
    ∙ (both_filled w.row w.market e fs (next_trade facts) 0 fs ∙ ap (λ k. fills_emitted k (at_row w.row (trades (trade_facts e fs)))) (from_zero (next_trade facts))))
  where
    from_zero : (k : ℕ) → k + 0 ≡ k
    from_zero k = omega arith

hold_said : (w : Here) (facts : List Fact) (e : Entry) (fs : List Fill) (n : ℕ) (first : ℕ → Reply) (o : Option HeardHold) → ((k : ℕ) → hold_by w.moment w.trigger (first k) ≡ o)
    → filter_map (hold_by w.moment w.trigger) (numbered n (first ∷ entry_reports w.market facts e fs)) ≡ cons_option o []
hold_said w facts e fs n first o is =
    entry_picked (hold_by w.moment w.trigger) w.market facts e (hold_picks w.moment w.trigger w.market e) fs n first (λ k. is k ∙ sym (is 0))
    ∙ (ap (λ x. cons_option x (filter_map (λ (f : ℕ → Reply). hold_by w.moment w.trigger (f 0)) (flat_map (fill_reports w.market e fs (next_trade facts)) (enumerate_from 0 fs)))) (is 0)
    ∙ ap (cons_option o) (no_holds w.moment w.trigger w.market e fs (next_trade facts) 0 fs))

hit_said : (w : Here) (facts : List Fact) (e : Entry) (fs : List Fill) (n : ℕ) (first : ℕ → Reply) → ((k : ℕ) → hit_by w.row w.trigger (first k) ≡ None)
    → filter_map (hit_by w.row w.trigger) (numbered n (first ∷ entry_reports w.market facts e fs)) ≡ hits_emitted (next_trade facts) (at_row w.row (trades (entry_facts e fs)))
hit_said w facts e fs n first is =
    entry_picked (hit_by w.row w.trigger) w.market facts e (hit_picks w.row w.trigger w.market e) fs n first (λ k. is k ∙ sym (is 0))
    ∙ (ap (λ o. cons_option o (filter_map (λ (f : ℕ → Reply). hit_by w.row w.trigger (f 0)) (flat_map (fill_reports w.market e fs (next_trade facts)) (enumerate_from 0 fs)))) (is 0)
    ∙ (no_hits w.row w.trigger w.market e fs (next_trade facts) 0 fs ∙ sym (none_in_rooms w.row (next_trade facts) e fs)))

asking_said : (w : Here) (facts : List Fact) (e : Entry) (fs : List Fill) (n : ℕ) (first : ℕ → Reply) → ((k : ℕ) → asking_by w.row w.moment w.trigger (first k) ≡ None)
    → filter_map (asking_by w.row w.moment w.trigger) (numbered n (first ∷ entry_reports w.market facts e fs)) ≡ flat_map (asked_emitted w.market w.row w.moment) (rooms (entry_facts e fs))
asking_said w facts e fs n first is =
    entry_picked (asking_by w.row w.moment w.trigger) w.market facts e (asking_picks w.row w.moment w.trigger w.market e) fs n first (λ k. is k ∙ sym (is 0))
    ∙ (ap (λ o. cons_option o (filter_map (λ (f : ℕ → Reply). asking_by w.row w.moment w.trigger (f 0)) (flat_map (fill_reports w.market e fs (next_trade facts)) (enumerate_from 0 fs)))) (is 0)
    ∙ (no_askings w.row w.moment w.trigger w.market e fs (next_trade facts) 0 fs ∙ sym (ap (flat_map (asked_emitted w.market w.row w.moment)) (no_rooms e fs))))

met_said : (w : Here) (h : History) (e : Entry) (n : ℕ) (first : ℕ → Reply) → ((k : ℕ) → met_in (first k) ≡ None) → FillsOf w.market (entries h.facts ++ entries (entry_facts e (fills h.facts e.order))) (filter_map met_in (numbered n (first ∷ entry_reports w.market h.facts e (fills h.facts e.order))))
met_said w h e n first is =
    let fs = fills h.facts e.order in
    let es = entries h.facts ++ entries (entry_facts e fs) in
    subst (FillsOf w.market es)
    (sym (entry_picked met_in w.market h.facts e (met_picks w.market e) fs n first (λ k. is k ∙ sym (is 0)) ∙ ap (λ o. cons_option o (filter_map (λ (f : ℕ → Reply). met_in (f 0)) (flat_map (fill_reports w.market e fs (next_trade h.facts)) (enumerate_from 0 fs)))) (is 0)))
    (fills_met w.market e fs (next_trade h.facts) 0 fs es (In-append_right (entries h.facts) (entries (entry_facts e fs)) e (inl refl)) (λ f i. In-append_left (entries h.facts) (entries (entry_facts e fs)) f.resting.entry (fill_entered h.facts e.order f i)))

-- the trigger fits the terms of the entering order
pub record Fits (w : Here) (original : Option (List ℕ)) (e : Entry) : Type 0 where
  pub from : original ≡ w.original
  pub price : price_in w.trigger ≡ price_at w.tick e.order.price
  pub tick : is_tick w.trigger ≡ w.tick
  pub moment : w.moment ≡ moment_at w.tick w.moment e.moment

fitting : (w : Here) (original : Option (List ℕ)) (e : Entry) → Fits w original e → Some (heard_with w.market w.row e w.moment (price_in w.trigger) original (is_tick w.trigger)) ≡ Some (emitted_entry w.market w.row w.moment w.tick w.original e)
fitting w original e f = λ j. Some (heard_with w.market w.row e (f.moment j) (f.price j) (f.from j) (f.tick j))

-- the first side of a cross, with which the second is held

accepted_entry : (w : Here) (h : History) (o : OrderFact) (t : ℕ) → Fits w None (entering h.facts o 0 t)
    → filter_map (entry_by w.row w.moment w.trigger) (accepted w.market h o t).replies ≡ map (emitted_entry w.market w.row w.moment w.tick w.original) (entries (accepted w.market h o t).facts)
accepted_entry w h o t f = let e = entering h.facts o 0 t in entry_said w h.facts e (fills h.facts o) h.reports (λ n. reply o.who (OrderEntered (order_report w.market e o.quantity 0 n))) (λ k. fitting w None e f)

accepted_fill : (w : Here) (h : History) (o : OrderFact) (t : ℕ) → filter_map (fill_by w.row) (accepted w.market h o t).replies ≡ fills_emitted (next_trade h.facts) (at_row w.row (trades (accepted w.market h o t).facts))
accepted_fill w h o t = let e = entering h.facts o 0 t in fill_said w h.facts e (fills h.facts o) h.reports (λ n. reply o.who (OrderEntered (order_report w.market e o.quantity 0 n))) (λ k. refl)

accepted_hold : (w : Here) (h : History) (o : OrderFact) (t : ℕ) (held : Option HeardHold) → ((k : ℕ) → hold_from w.moment o.who (order_report w.market (entering h.facts o 0 t) o.quantity 0 k) w.trigger ≡ held)
    → filter_map (hold_by w.moment w.trigger) (accepted w.market h o t).replies ≡ cons_option held []
accepted_hold w h o t held is = let e = entering h.facts o 0 t in hold_said w h.facts e (fills h.facts o) h.reports (λ n. reply o.who (OrderEntered (order_report w.market e o.quantity 0 n))) held is

accepted_hit : (w : Here) (h : History) (o : OrderFact) (t : ℕ) → filter_map (hit_by w.row w.trigger) (accepted w.market h o t).replies ≡ hits_emitted (next_trade h.facts) (at_row w.row (trades (accepted w.market h o t).facts))
accepted_hit w h o t = let e = entering h.facts o 0 t in hit_said w h.facts e (fills h.facts o) h.reports (λ n. reply o.who (OrderEntered (order_report w.market e o.quantity 0 n))) (λ k. refl)

accepted_met : (w : Here) (h : History) (o : OrderFact) (t : ℕ) → FillsOf w.market (entries h.facts ++ entries (accepted w.market h o t).facts) (filter_map met_in (accepted w.market h o t).replies)
accepted_met w h o t = let e = entering h.facts o 0 t in met_said w h e h.reports (λ n. reply o.who (OrderEntered (order_report w.market e o.quantity 0 n))) (λ k. refl)

accepted_asking : (w : Here) (h : History) (o : OrderFact) (t : ℕ) → filter_map (asking_by w.row w.moment w.trigger) (accepted w.market h o t).replies ≡ flat_map (asked_emitted w.market w.row w.moment) (rooms (accepted w.market h o t).facts)
accepted_asking w h o t = let e = entering h.facts o 0 t in asking_said w h.facts e (fills h.facts o) h.reports (λ n. reply o.who (OrderEntered (order_report w.market e o.quantity 0 n))) (λ k. refl)

accepted_of : (m : Market) (h : History) (o : OrderFact) (t : ℕ) → AreOf (entries (accepted m h o t).facts) (trades (accepted m h o t).facts)
accepted_of m h o t = trades_of_entry (entries (accepted m h o t).facts) (entering h.facts o 0 t) (fills h.facts o) (inl refl)

accepted-Says : (w : Here) (h : History) (o : OrderFact) (t : ℕ) → Fits w None (entering h.facts o 0 t) → ((k : ℕ) → hold_from w.moment o.who (order_report w.market (entering h.facts o 0 t) o.quantity 0 k) w.trigger ≡ None) → Says w h (accepted w.market h o t)
accepted-Says w h o t f none =
    let e = entering h.facts o 0 t in
    let held = no_held_facts e (fills h.facts o) in
    (accepted_entry w h o t f, (accepted_fill w h o t, (accepted_hold w h o t None none ∙ sym (ap (map emitted_hold) held), (accepted_of w.market h o t, (inl held, (accepted_hit w h o t, (accepted_met w h o t, accepted_asking w h o t)))))))

replaced-Says : (w : Here) (h : History) (s : Sender) (d : ReplaceMessage) (r : Resting) (t : ℕ) → Fits w (Some d.original_id) (entering h.facts (replacement d r) (filled r) t) → s.who ≡ r.entry.order.who → Says w h (replaced w.market h s d r t)
replaced-Says w h s d r t f own =
    let o = replacement d r in
    let e = entering h.facts o (filled r) t in
    let fs = fills h.facts o in
    let first : ℕ → Reply = λ n. reply s.who (OrderReplaced (record { order = order_report w.market e o.quantity (filled r) n; original_id = d.original_id })) in
    let held = no_held_facts e fs in (
      entry_said w h.facts e fs h.reports first (λ k. ap (λ (who : ℕ). Some (record (heard_with w.market w.row e w.moment (price_in w.trigger) (Some d.original_id) (is_tick w.trigger)) { to = who })) own ∙ fitting w (Some d.original_id) e f),
      (
        fill_said w h.facts e fs h.reports first (λ k. refl),
        (
          hold_said w h.facts e fs h.reports first None (λ k. refl) ∙ sym (ap (map emitted_hold) held),
          (trades_of_entry (entries (entry_facts e fs)) e fs (inl refl), (inl held, (hit_said w h.facts e fs h.reports first (λ k. refl), (met_said w h e h.reports first (λ k. refl), asking_said w h.facts e fs h.reports first (λ k. refl))))),
        ),
      ),
    )

-- Messages.

-- a message at t, which names the order that another replaces, or none
pub record IsMessage (w : Here) (original : Option (List ℕ)) (t : ℕ) : Type 0 where
  pub from : original ≡ w.original
  pub tick : w.tick ≡ false
  pub same : is_tick w.trigger ≡ w.tick
  pub moment : w.moment ≡ t

-- a price that was not missing
there : (o : Option ℤ) → is_none o ≡ false → o ≡ Some (unwrap_or o (pos 0))
there None e = absurd (true≢false e)
there (Some p) e = refl

message_fits : (w : Here) (original : Option (List ℕ)) (e : Entry) (t : ℕ) (price : Option ℤ) → IsMessage w original t → price_in w.trigger ≡ price → e.moment ≡ t → e.order.price ≡ unwrap_or price (pos 0) → is_none price ≡ false → Fits w original e
message_fits w original e t price is trigger moment terms some = record {
  from = is.from;
  price = trigger ∙ (there price some ∙ (ap Some (sym terms) ∙ sym (ap (λ (b : Bool). price_at b e.order.price) is.tick)));
  tick = is.same;
  moment = is.moment ∙ (sym moment ∙ sym (ap (λ (b : Bool). moment_at b w.moment e.moment) is.tick));
}

-- with this trigger no side is held
abbrev HoldsNone : Here → Type 0
HoldsNone w = (to : ℕ) (r : OrderReport) → hold_from w.moment to r w.trigger ≡ None

order-Says : (w : Here) (h : History) (s : Sender) (d : OrderMessage) (t : ℕ) → IsMessage w None t → price_in w.trigger ≡ d.price → HoldsNone w → Says w h (answer_order w.market h s d t)
order-Says w h s d t is price none =
    let o = order_asked w.market s.who d in
    let e = entering h.facts o 0 t in
    first_of-Says w h (order_refusals w.market h s d t) (accepted w.market h o t) ((refl, (refl, (refl, (tt, (inl refl, (refl, (tt, refl))))))), ((refl, (refl, (refl, (tt, (inl refl, (refl, (tt, refl))))))), ((refl, (refl, (refl, (tt, (inl refl, (refl, (tt, refl))))))), ((refl, (refl, (refl, (tt, (inl refl, (refl, (tt, refl))))))), ((refl, (refl, (refl, (tt, (inl refl, (refl, (tt, refl))))))), ((refl, (refl, (refl, (tt, (inl refl, (refl, (tt, refl))))))), ((refl, (refl, (refl, (tt, (inl refl, (refl, (tt, refl))))))), ((refl, (refl, (refl, (tt, (inl refl, (refl, (tt, refl))))))), tt))))))))
    (λ n. accepted-Says w h o t (message_fits w None e t d.price is price refl refl n.1.1.1.0) (λ k. none o.who (order_report w.market e o.quantity 0 k)))

cancel-Says : (w : Here) (h : History) (s : Sender) (d : CancelMessage) (n : Named) → Says w h (answer_cancel_of w.market h s d n)
cancel-Says w h s d IsUnknown = (refl, (refl, (refl, (tt, (inl refl, (refl, (tt, refl)))))))
cancel-Says w h s d (IsHeld k) = first_of-Says w h (cancel_refusals h s d None) (held_cancelled w.market h s d k) ((refl, (refl, (refl, (tt, (inl refl, (refl, (tt, refl))))))), tt) (λ n. (refl, (refl, (refl, (tt, (inl refl, (refl, (tt, refl))))))))
cancel-Says w h s d (IsResting r) = first_of-Says w h (cancel_refusals h s d (Some (standing r))) (cancelled w.market h s d r) ((refl, (refl, (refl, (tt, (inl refl, (refl, (tt, refl))))))), tt) (λ n. (refl, (refl, (refl, (tt, (inl refl, (refl, (tt, refl))))))))

replace-Says : (w : Here) (h : History) (s : Sender) (d : ReplaceMessage) (t : ℕ) (n : Named) → IsMessage w (Some d.original_id) t → price_in w.trigger ≡ d.price → ((r : Resting) → n ≡ IsResting r → s.who ≡ r.entry.order.who) → Says w h (answer_replace_of w.market h s d t n)
replace-Says w h s d t IsUnknown is price own = (refl, (refl, (refl, (tt, (inl refl, (refl, (tt, refl)))))))
replace-Says w h s d t (IsHeld k) is price own = first_of-Says w h (held_replace_refusals h s d) (replace_refused s d None IsHeldSide) ((refl, (refl, (refl, (tt, (inl refl, (refl, (tt, refl))))))), tt) (λ n. (refl, (refl, (refl, (tt, (inl refl, (refl, (tt, refl))))))))
replace-Says w h s d t (IsResting r) is price own =
    let e = entering h.facts (replacement d r) (filled r) t in
    first_of-Says w h (replace_refusals w.market h s d r t) (replaced w.market h s d r t) ((refl, (refl, (refl, (tt, (inl refl, (refl, (tt, refl))))))), ((refl, (refl, (refl, (tt, (inl refl, (refl, (tt, refl))))))), ((refl, (refl, (refl, (tt, (inl refl, (refl, (tt, refl))))))), ((refl, (refl, (refl, (tt, (inl refl, (refl, (tt, refl))))))), ((refl, (refl, (refl, (tt, (inl refl, (refl, (tt, refl))))))), ((refl, (refl, (refl, (tt, (inl refl, (refl, (tt, refl))))))), ((refl, (refl, (refl, (tt, (inl refl, (refl, (tt, refl))))))), tt)))))))
    (λ n. replaced-Says w h s d r t (message_fits w (Some d.original_id) e t d.price is price refl refl n.1.1.0) (own r refl))

-- who replaces an order is its owner

abbrev rest_of : Named → Option Resting
rest_of (IsResting r) = Some r
rest_of (IsHeld k) = None
rest_of IsUnknown = None

held_rests_not : (o : Option HeldSide) → rest_of (elim o [ Some k ↦ IsHeld k | None ↦ IsUnknown ]) ≡ None
held_rests_not None = refl
held_rests_not (Some k) = refl

and_left : (a b : Bool) → (a && b) ≡ true → a ≡ true
and_left true b e = refl
and_left false b e = e

and_right : (a b : Bool) → (a && b) ≡ true → b ≡ true
and_right true b e = e
and_right false b e = absurd (true≢false (sym e))

pub named_rests : (o : Option Resting) (k : Option HeldSide) (r : Resting) → elim o [ Some x ↦ IsResting x | None ↦ elim k [ Some y ↦ IsHeld y | None ↦ IsUnknown ] ] ≡ IsResting r → o ≡ Some r
named_rests (Some x) k r e = ap rest_of e
named_rests None k r e = sym (held_rests_not k) ∙ ap rest_of e

pub named_own : (h : History) (who : ℕ) (id : List ℕ) (r : Resting) → named h who id ≡ IsResting r → who ≡ r.entry.order.who
named_own h who id r e =
    let p : Resting → Bool = λ x. rests x.entry.order.instrument x.entry.order.side x && (x.entry.order.who == who && bytes_eq x.entry.order.id id) in
    let passes = (In-find p (map (with_left (left h.facts)) (entries h.facts)) r (named_rests (find_order h.facts who id) (find_held h.facts who id) r e)).1 in
    sym (eqb-true r.entry.order.who who (and_left (r.entry.order.who == who) (bytes_eq r.entry.order.id id) (and_right (rests r.entry.order.instrument r.entry.order.side r) (r.entry.order.who == who && bytes_eq r.entry.order.id id) passes)))

-- Crosses, and held sides as they enter.

pub or_left : (a b : Bool) → (a || b) ≡ false → a ≡ false
or_left true b e = e
or_left false b e = refl

pub or_right : (a b : Bool) → (a || b) ≡ false → b ≡ false
or_right true b e = absurd (true≢false e)
or_right false b e = e

same_bytes : (a : List ℕ) → bytes_eq a a ≡ true
same_bytes a = (bytes_eq-Decides a a).1 refl

pub other_bytes : (a b : List ℕ) → bytes_eq a b ≡ false → bytes_eq b a ≡ false
other_bytes a b e = false_from_ne_true (bytes_eq b a) (λ k. true≢false (sym ((bytes_eq-Decides a b).1 (sym ((bytes_eq-Decides b a).0 k))) ∙ e))

-- the held side has the identifier of the one that did not enter
other_side : (d : CrossMessage) → bytes_eq d.first.order_id d.second.order_id ≡ false → (if bytes_eq (first_side d).order_id d.first.order_id then d.second.order_id else d.first.order_id) ≡ (second_side d).order_id
other_side d apart =
    elim (is_first d d.first) as (λ b. (if bytes_eq (if b then d.first else d.second).order_id d.first.order_id then d.second.order_id else d.first.order_id) ≡ (if b then d.second else d.first).order_id) [
      | true ↦ ap (λ (b : Bool). if b then d.second.order_id else d.first.order_id) (same_bytes d.first.order_id)
      | false ↦ ap (λ (b : Bool). if b then d.second.order_id else d.first.order_id) (other_bytes d.first.order_id d.second.order_id apart)
    ]

second_unused : (facts : List Fact) (who : ℕ) (d : CrossMessage) → is_order_id_used facts who d.first.order_id ≡ false → is_order_id_used facts who d.second.order_id ≡ false → is_order_id_used facts who (second_side d).order_id ≡ false
second_unused facts who d one other = elim (is_first d d.first) as (λ b. is_order_id_used facts who (if b then d.second else d.first).order_id ≡ false) [ true ↦ other | false ↦ one ]

-- the trigger of a cross
abbrev crossed : Market → CrossMessage → Trigger
crossed m d = trigger.Cross (record { cross = d.cross_id; first = d.first.order_id; second = d.second.order_id; price = d.price; delay = delay_of m.instruments (instrument_of m.instruments d.symbol) })

crossed_hold : (w : Here) (h : History) (s : Sender) (d : CrossMessage) (t : ℕ) → w.trigger ≡ crossed w.market d → w.moment ≡ t → bytes_eq d.first.order_id d.second.order_id ≡ false → (k : ℕ)
    → (let o = side_order w.market s.who d (first_side d) in
    hold_from w.moment o.who (order_report w.market (entering h.facts o 0 t) o.quantity 0 k) w.trigger ≡ Some (emitted_hold (record { order = side_order w.market s.who d (second_side d); cross = d.cross_id; due = t + delay_of w.market.instruments (instrument_of w.market.instruments d.symbol) })))
crossed_hold w h s d t is moment apart k =
    let o = side_order w.market s.who d (first_side d) in
    ap (hold_from w.moment o.who (order_report w.market (entering h.facts o 0 t) o.quantity 0 k)) is
    ∙ (λ j. Some (record { who = s.who; id = other_side d apart j; cross = d.cross_id; until = moment j + delay_of w.market.instruments (instrument_of w.market.instruments d.symbol) }))

cross_accepted-Says : (w : Here) (h : History) (s : Sender) (d : CrossMessage) (t : ℕ) → IsMessage w None t → w.trigger ≡ crossed w.market d → is_none d.price ≡ false → is_order_id_used h.facts s.who d.first.order_id ≡ false
    → is_order_id_used h.facts s.who d.second.order_id ≡ false → bytes_eq d.first.order_id d.second.order_id ≡ false → Says w h (cross_accepted w.market h s d t)
cross_accepted-Says w h s d t is trigger some one other apart =
    let o = side_order w.market s.who d (first_side d) in
    let e = entering h.facts o 0 t in
    let first = accepted w.market h o t in
    let k : HeldSide = record { order = side_order w.market s.who d (second_side d); cross = d.cross_id; due = t + delay_of w.market.instruments (instrument_of w.market.instruments d.symbol) } in
    let same_entries : entries first.facts ≡ entries (first.facts ++ Held k ∷ []) = sym (filter_map-append entry_in_fact first.facts (Held k ∷ []) ∙ append-nil (entries first.facts)) in
    let same_trades : trades first.facts ≡ trades (first.facts ++ Held k ∷ []) = sym (filter_map-append trade_in_fact first.facts (Held k ∷ []) ∙ append-nil (trades first.facts)) in
    let same_rooms : rooms first.facts ≡ rooms (first.facts ++ Held k ∷ []) = sym (filter_map-append room_in_fact first.facts (Held k ∷ []) ∙ append-nil (rooms first.facts)) in
    let held : held_sides (first.facts ++ Held k ∷ []) ≡ k ∷ [] = filter_map-append held_in_fact first.facts (Held k ∷ []) ∙ ap (λ ks. ks ++ k ∷ []) (no_held_facts e (fills h.facts o)) in (
      accepted_entry w h o t (message_fits w None e t d.price is (ap price_in trigger) refl refl some) ∙ ap (map (emitted_entry w.market w.row w.moment w.tick w.original)) same_entries,
      (
        accepted_fill w h o t ∙ ap (λ ts. fills_emitted (next_trade h.facts) (at_row w.row ts)) same_trades,
        (
          accepted_hold w h o t (Some (emitted_hold k)) (crossed_hold w h s d t trigger is.moment apart) ∙ sym (ap (map emitted_hold) held),
          (
            subst (λ es. AreOf es (trades (first.facts ++ Held k ∷ []))) same_entries (subst (AreOf (entries first.facts)) same_trades (accepted_of w.market h o t)),
            (
              inr (k, held, second_unused h.facts s.who d one other),
              (
                accepted_hit w h o t ∙ ap (λ ts. hits_emitted (next_trade h.facts) (at_row w.row ts)) same_trades,
                (
                  subst (λ es. FillsOf w.market (entries h.facts ++ es) (filter_map met_in first.replies)) same_entries (accepted_met w h o t),
                  accepted_asking w h o t ∙ ap (flat_map (asked_emitted w.market w.row w.moment)) same_rooms,
                ),
              ),
            ),
          ),
        ),
      ),
    )

cross-Says : (w : Here) (h : History) (s : Sender) (d : CrossMessage) (t : ℕ) → IsMessage w None t → w.trigger ≡ crossed w.market d → Says w h (answer_cross w.market h s d t)
cross-Says w h s d t is trigger =
    first_of-Says w h (cross_refusals w.market h s d t) (cross_accepted w.market h s d t) ((refl, (refl, (refl, (tt, (inl refl, (refl, (tt, refl))))))), ((refl, (refl, (refl, (tt, (inl refl, (refl, (tt, refl))))))), ((refl, (refl, (refl, (tt, (inl refl, (refl, (tt, refl))))))), ((refl, (refl, (refl, (tt, (inl refl, (refl, (tt, refl))))))), ((refl, (refl, (refl, (tt, (inl refl, (refl, (tt, refl))))))), ((refl, (refl, (refl, (tt, (inl refl, (refl, (tt, refl))))))), ((refl, (refl, (refl, (tt, (inl refl, (refl, (tt, refl))))))), ((refl, (refl, (refl, (tt, (inl refl, (refl, (tt, refl))))))), ((refl, (refl, (refl, (tt, (inl refl, (refl, (tt, refl))))))), ((refl, (refl, (refl, (tt, (inl refl, (refl, (tt, refl))))))), ((refl, (refl, (refl, (tt, (inl refl, (refl, (tt, refl))))))), tt)))))))))))
    (λ n.
    let free = n.1.1.0 in
    let one = is_order_id_used h.facts s.who d.first.order_id in
    let other = is_order_id_used h.facts s.who d.second.order_id in
    let same = bytes_eq d.first.order_id d.second.order_id in
    cross_accepted-Says w h s d t is trigger n.1.1.1.1.0 (or_left one (other || same) free) (or_left other same (or_right one (other || same) free)) (or_right other same (or_right one (other || same) free)))

due-Says : (w : Here) (h : History) (k : HeldSide) → w.tick ≡ true → w.trigger ≡ trigger.Tick → w.original ≡ None → Says w h (answer_due w.market h k)
due-Says w h k tick trigger none =
    let e = entering h.facts k.order 0 k.due in
    let fits : Fits w None e = record {
      from = sym none;
      price = ap price_in trigger ∙ sym (ap (λ (b : Bool). price_at b k.order.price) tick);
      tick = ap is_tick trigger ∙ sym tick;
      moment = sym (ap (λ (b : Bool). moment_at b w.moment k.due) tick);
    } in
    due_first w h k (first_of-Says w h (due_refusals w.market h k) (accepted w.market h k.order k.due) ((refl, (refl, (refl, (tt, (inl refl, (refl, (tt, refl))))))), ((refl, (refl, (refl, (tt, (inl refl, (refl, (tt, refl))))))), tt)) (λ n. accepted-Says w h k.order k.due fits (λ j. ap (hold_from w.moment k.order.who (order_report w.market e k.order.quantity 0 j)) trigger)))
  where
    due_first : (w : Here) (h : History) (k : HeldSide) → Says w h (first_of (due_refusals w.market h k) (accepted w.market h k.order k.due)) → Says w h (answer_due w.market h k)
    due_first w h k s = s

-- Requests and quotes.

requests_silent : (w : Here) (r : Room) (rs : List ℕ) → IsSilent w (map (request_sent w.market r) rs)
requests_silent w r [] = record { entry = refl; fill = refl; hold = refl; hit = refl; met = refl }
requests_silent w r (x ∷ xs) = let k = requests_silent w r xs in record { entry = k.entry; fill = k.fill; hold = k.hold; hit = k.hit; met = k.met }

asks_each : (w : Here) (r : Room) (rs : List ℕ) → w.trigger ≡ trigger.Request (record { requester = r.requester; request = r.id }) → filter_map (asking_by w.row w.moment w.trigger) (map (request_sent w.market r) rs) ≡ map (emitted_asked w.market w.row w.moment r) rs
asks_each w r [] is = refl
asks_each w r (to ∷ rs) is =
    ap (λ (c : Trigger). cons_option (asking_by w.row w.moment c (request_sent w.market r to)) (filter_map (asking_by w.row w.moment w.trigger) (map (request_sent w.market r) rs))) is
    ∙ ap (λ l. emitted_asked w.market w.row w.moment r to ∷ l) (asks_each w r rs is)

request-Says : (w : Here) (h : History) (s : Sender) (d : RequestMessage) (t : ℕ) → w.trigger ≡ trigger.Request (record { requester = s.who; request = d.request_id }) → Says w h (answer_request w.market h s d t)
request-Says w h s d t trigger =
    let r = opened w.market h s d t in
    let k = requests_silent w r r.recipients in
    first_of-Says w h (request_refusals w.market h s d t) (request_accepted w.market r) ((refl, (refl, (refl, (tt, (inl refl, (refl, (tt, refl))))))), ((refl, (refl, (refl, (tt, (inl refl, (refl, (tt, refl))))))), ((refl, (refl, (refl, (tt, (inl refl, (refl, (tt, refl))))))), ((refl, (refl, (refl, (tt, (inl refl, (refl, (tt, refl))))))), ((refl, (refl, (refl, (tt, (inl refl, (refl, (tt, refl))))))), ((refl, (refl, (refl, (tt, (inl refl, (refl, (tt, refl))))))), ((refl, (refl, (refl, (tt, (inl refl, (refl, (tt, refl))))))), ((refl, (refl, (refl, (tt, (inl refl, (refl, (tt, refl))))))), ((refl, (refl, (refl, (tt, (inl refl, (refl, (tt, refl))))))), ((refl, (refl, (refl, (tt, (inl refl, (refl, (tt, refl))))))), tt)))))))))) (λ n. (k.entry, (k.fill, (k.hold, (tt, (inl refl, (k.hit, (subst (FillsOf w.market _) (sym k.met) tt, asks_each w r r.recipients trigger ∙ sym (append-nil (asked_emitted w.market w.row w.moment r))))))))))

shown_silent : (w : Here) (h : History) (s : Sender) (r : Room) (d : QuoteMessage) (o : Option RoomQuote) → IsSilent w (quote_status s d (Some (symbol_of w.market.instruments r.instrument)) Accepted ∷ shown_with w.market h r o ++ quote_sent w.market r (quoted h s r d) ∷ [])
shown_silent w h s r d None = record { entry = refl; fill = refl; hold = refl; hit = refl; met = refl }
shown_silent w h s r d (Some q) = record { entry = refl; fill = refl; hold = refl; hit = refl; met = refl }

shown_asks_none : (w : Here) (h : History) (s : Sender) (r : Room) (d : QuoteMessage) (o : Option RoomQuote) → filter_map (asking_by w.row w.moment w.trigger) (quote_status s d (Some (symbol_of w.market.instruments r.instrument)) Accepted ∷ shown_with w.market h r o ++ quote_sent w.market r (quoted h s r d) ∷ []) ≡ []
shown_asks_none w h s r d None = refl
shown_asks_none w h s r d (Some q) = refl

quote-Says : (w : Here) (h : History) (s : Sender) (d : QuoteMessage) (t : ℕ) (r : Option Room) → Says w h (answer_quote_of w.market h s d t r)
quote-Says w h s d t None = (refl, (refl, (refl, (tt, (inl refl, (refl, (tt, refl)))))))
quote-Says w h s d t (Some r) =
    let k = shown_silent w h s r d (first_quote h.facts r.number) in
    first_of-Says w h (quote_refusals w.market h s r d t) (quote_accepted w.market h s r d) ((refl, (refl, (refl, (tt, (inl refl, (refl, (tt, refl))))))), ((refl, (refl, (refl, (tt, (inl refl, (refl, (tt, refl))))))), ((refl, (refl, (refl, (tt, (inl refl, (refl, (tt, refl))))))), ((refl, (refl, (refl, (tt, (inl refl, (refl, (tt, refl))))))), ((refl, (refl, (refl, (tt, (inl refl, (refl, (tt, refl))))))), ((refl, (refl, (refl, (tt, (inl refl, (refl, (tt, refl))))))), ((refl, (refl, (refl, (tt, (inl refl, (refl, (tt, refl))))))), ((refl, (refl, (refl, (tt, (inl refl, (refl, (tt, refl))))))), tt)))))))) (λ n. (k.entry, (k.fill, (k.hold, (tt, (inl refl, (k.hit, (subst (FillsOf w.market _) (sym k.met) tt, shown_asks_none w h s r d (first_quote h.facts r.number)))))))))

-- Withdrawals.

emitted_silent : (w : Here) (q : RoomQuote) (o : Option Room) (rs : List Reply) → IsSilent w rs → IsSilent w (elim o [ None ↦ [] | Some r ↦ to_maker w.market r q Withdrawn ∷ to_requester w.market r q Withdrawn ∷ [] ] ++ rs)
emitted_silent w q None rs k = k
emitted_silent w q (Some r) rs k = record { entry = k.entry; fill = k.fill; hold = k.hold; hit = k.hit; met = k.met }

all_silent : (w : Here) (h : History) (qs : List RoomQuote) → IsSilent w (flat_map (both_emitted w.market h) qs)
all_silent w h [] = record { entry = refl; fill = refl; hold = refl; hit = refl; met = refl }
all_silent w h (q ∷ qs) = emitted_silent w q (room_by_number h.facts q.room) (flat_map (both_emitted w.market h) qs) (all_silent w h qs)

emitted_asks_none : (w : Here) (q : RoomQuote) (o : Option Room) (rs : List Reply) → filter_map (asking_by w.row w.moment w.trigger) rs ≡ []
    → filter_map (asking_by w.row w.moment w.trigger) (elim o [ None ↦ [] | Some r ↦ to_maker w.market r q Withdrawn ∷ to_requester w.market r q Withdrawn ∷ [] ] ++ rs) ≡ []
emitted_asks_none w q None rs k = k
emitted_asks_none w q (Some r) rs k = k

all_ask_none : (w : Here) (h : History) (qs : List RoomQuote) → filter_map (asking_by w.row w.moment w.trigger) (flat_map (both_emitted w.market h) qs) ≡ []
all_ask_none w h [] = refl
all_ask_none w h (q ∷ qs) = emitted_asks_none w q (room_by_number h.facts q.room) (flat_map (both_emitted w.market h) qs) (all_ask_none w h qs)

none_asked : (qs : List RoomQuote) → rooms (map (λ (q : RoomQuote). WithdrawnFact (record { quote = q.number })) qs) ≡ []
none_asked [] = refl
none_asked (q ∷ qs) = none_asked qs

none_entered : (qs : List RoomQuote) → entries (map (λ (q : RoomQuote). WithdrawnFact (record { quote = q.number })) qs) ≡ []
none_entered [] = refl
none_entered (q ∷ qs) = none_entered qs

none_traded : (qs : List RoomQuote) → trades (map (λ (q : RoomQuote). WithdrawnFact (record { quote = q.number })) qs) ≡ []
none_traded [] = refl
none_traded (q ∷ qs) = none_traded qs

none_held : (qs : List RoomQuote) → held_sides (map (λ (q : RoomQuote). WithdrawnFact (record { quote = q.number })) qs) ≡ []
none_held [] = refl
none_held (q ∷ qs) = none_held qs

withdrawn-Says : (w : Here) (h : History) (x : Answer) (qs : List RoomQuote) → Says w h x → Says w h (withdrawn_or w.market h x qs)
withdrawn-Says w h x [] k = k
withdrawn-Says w h x (q ∷ qs) k =
    let silent = all_silent w h (q ∷ qs) in (
      silent.entry ∙ sym (ap (map (emitted_entry w.market w.row w.moment w.tick w.original)) (none_entered qs)),
      (
        silent.fill ∙ sym (ap (λ ts. fills_emitted (next_trade h.facts) (at_row w.row ts)) (none_traded qs)),
        (
          silent.hold ∙ sym (ap (map emitted_hold) (none_held qs)),
          (subst (AreOf _) (sym (none_traded qs)) tt, (inl (none_held qs), (silent.hit ∙ sym (ap (λ ts. hits_emitted (next_trade h.facts) (at_row w.row ts)) (none_traded qs)), (subst (FillsOf w.market _) (sym silent.met) tt, all_ask_none w h (q ∷ qs) ∙ sym (ap (flat_map (asked_emitted w.market w.row w.moment)) (none_asked qs)))))),
        ),
      ),
    )

withdraw_one-Says : (w : Here) (h : History) (s : Sender) (t : ℕ) (id : Option (List ℕ)) → Says w h (withdraw_one w.market h s t id)
withdraw_one-Says w h s t None = (refl, (refl, (refl, (tt, (inl refl, (refl, (tt, refl)))))))
withdraw_one-Says w h s t (Some id) = withdrawn-Says w h (not_found s (Some id)) _ (refl, (refl, (refl, (tt, (inl refl, (refl, (tt, refl)))))))

withdrawal-Says : (w : Here) (h : History) (s : Sender) (d : WithdrawalMessage) (t : ℕ) (one all : Bool) → Says w h (answer_withdrawal_of w.market h s d t one all)
withdrawal-Says w h s d t true all = withdraw_one-Says w h s t d.quote_id
withdrawal-Says w h s d t false true = withdrawn-Says w h (not_found s None) _ (refl, (refl, (refl, (tt, (inl refl, (refl, (tt, refl)))))))
withdrawal-Says w h s d t false false = (refl, (refl, (refl, (tt, (inl refl, (refl, (tt, refl)))))))

-- Answers to quotes.

-- a response to a quote came
abbrev IsResponse : Here → RoomQuote → Type 0
IsResponse w q = w.trigger ≡ trigger.Response (printed 81 q.number)

hit_at-Says : (w : Here) (h : History) (s : Sender) (r : Room) (q : RoomQuote) (d : ResponseMessage) (t : ℕ) (side : Side) (p : Option ℤ) → IsResponse w q → Says w h (answer_hit_at w.market h s r q d t side p)
hit_at-Says w h s r q d t side None is = (refl, (refl, (refl, (tt, (inl refl, (refl, (tt, refl)))))))
hit_at-Says w h s r q d t side (Some p) is = (refl, (refl, (refl, ((tt, tt), (inl refl, (ap (λ (c : Trigger). filter_map (hit_by w.row c) (room_traded w.market h s r q d side p t).replies) is, (tt, refl)))))))

hit-Says : (w : Here) (h : History) (s : Sender) (r : Room) (q : RoomQuote) (d : ResponseMessage) (t : ℕ) (side : Option Side) → IsResponse w q → Says w h (answer_hit w.market h s r q d t side)
hit-Says w h s r q d t None is = (refl, (refl, (refl, (tt, (inl refl, (refl, (tt, refl)))))))
hit-Says w h s r q d t (Some side) is = hit_at-Says w h s r q d t side (price_for side q) is

response_in-Says : (w : Here) (h : History) (s : Sender) (q : RoomQuote) (d : ResponseMessage) (t : ℕ) (r : Option Room) → IsResponse w q → Says w h (answer_response_in w.market h s q d t r)
response_in-Says w h s q d t None is = (refl, (refl, (refl, (tt, (inl refl, (refl, (tt, refl)))))))
response_in-Says w h s q d t (Some r) is =
    first_of-Says w h (response_refusals w.market h s r q d t) (answer_hit w.market h s r q d t (taken_side r.side d.side)) ((refl, (refl, (refl, (tt, (inl refl, (refl, (tt, refl))))))), ((refl, (refl, (refl, (tt, (inl refl, (refl, (tt, refl))))))), ((refl, (refl, (refl, (tt, (inl refl, (refl, (tt, refl))))))), ((refl, (refl, (refl, (tt, (inl refl, (refl, (tt, refl))))))), ((refl, (refl, (refl, (tt, (inl refl, (refl, (tt, refl))))))), ((refl, (refl, (refl, (tt, (inl refl, (refl, (tt, refl))))))), tt)))))) (λ n. hit-Says w h s r q d t (taken_side r.side d.side) is)

response_to-Says : (w : Here) (h : History) (s : Sender) (d : ResponseMessage) (t : ℕ) (q : Option RoomQuote) → ((x : RoomQuote) → q ≡ Some x → IsResponse w x) → Says w h (answer_response_to w.market h s d t q)
response_to-Says w h s d t None is = (refl, (refl, (refl, (tt, (inl refl, (refl, (tt, refl)))))))
response_to-Says w h s d t (Some q) is = response_in-Says w h s q d t (room_by_number h.facts q.room) (is q refl)

response-Says : (w : Here) (h : History) (s : Sender) (d : ResponseMessage) (t : ℕ) → w.trigger ≡ trigger.Response d.quote_id → Says w h (answer_response w.market h s d t)
response-Says w h s d t is = first_of-Says w h (kind_refusals s d) _ ((refl, (refl, (refl, (tt, (inl refl, (refl, (tt, refl))))))), tt) (λ n.
    response_to-Says w h s d t (find_quote h.facts d.quote_id)
    (λ x e. is ∙ ap (λ (id : List ℕ). trigger.Response id) (sym ((bytes_eq-Decides (printed 81 x.number) d.quote_id).0 (In-find (λ (y : RoomQuote). bytes_eq (printed 81 y.number) d.quote_id) (quotes h.facts) x e).1))))

market_data-Says : (w : Here) (h : History) (s : Sender) (d : MarketDataMessage) → Says w h (answer_market_data w.market h s d)
market_data-Says w h s d = first_of-Says w h (market_data_refusals w.market s d) (market_data w.market h s d) ((refl, (refl, (refl, (tt, (inl refl, (refl, (tt, refl))))))), ((refl, (refl, (refl, (tt, (inl refl, (refl, (tt, refl))))))), ((refl, (refl, (refl, (tt, (inl refl, (refl, (tt, refl))))))), tt))) (λ n. (refl, (refl, (refl, (tt, (inl refl, (refl, (tt, refl))))))))

-- Any message, and a tick.

-- where the answer to a message at t is reported
abbrev message_here : Market → List EvidenceEvent → ℕ → ℕ → Sender → App → Here
message_here m words n t s a = record { market = m; row = n; moment = t; trigger = trigger_in m.instruments words n s.who a; original = original_of a; tick = false }

app-Says : (m : Market) (h : History) (words : List EvidenceEvent) (n moment : ℕ) (s : Sender) (a : App) (t : ℕ) → moment ≡ t → Says (message_here m words n moment s a) h (answer_app m h s a t)
unfolding trigger_in
app-Says m h words n moment s (QuoteRequest d) t e = request-Says (message_here m words n moment s (QuoteRequest d)) h s d t refl
app-Says m h words n moment s (Quote d) t e = quote-Says (message_here m words n moment s (Quote d)) h s d t (find_room h.facts d.request_id)
app-Says m h words n moment s (QuoteCancel d) t e = withdrawal-Says (message_here m words n moment s (QuoteCancel d)) h s d t (d.cancel_type == 5) (d.cancel_type == 4)
app-Says m h words n moment s (QuoteResponse d) t e = response-Says (message_here m words n moment s (QuoteResponse d)) h s d t refl
app-Says m h words n moment s (NewOrderSingle d) t e = order-Says (message_here m words n moment s (NewOrderSingle d)) h s d t (record { from = refl; tick = refl; same = refl; moment = e }) refl (λ to r. refl)
app-Says m h words n moment s (OrderCancelRequest d) t e = cancel-Says (message_here m words n moment s (OrderCancelRequest d)) h s d (named h s.who d.original_id)
app-Says m h words n moment s (OrderCancelReplaceRequest d) t e =
    replace-Says (message_here m words n moment s (OrderCancelReplaceRequest d)) h s d t (named h s.who d.original_id) (record { from = refl; tick = refl; same = refl; moment = e }) refl (named_own h s.who d.original_id)
app-Says m h words n moment s (NewOrderCross d) t e = cross-Says (message_here m words n moment s (NewOrderCross d)) h s d t (record { from = refl; tick = refl; same = refl; moment = e }) refl
app-Says m h words n moment s (MarketDataRequest d) t e = market_data-Says (message_here m words n moment s (MarketDataRequest d)) h s d
app-Says m h words n moment s (BusinessMessageReject d) t e = (refl, (refl, (refl, (tt, (inl refl, (refl, (tt, refl)))))))
app-Says m h words n moment s (QuoteStatusReport d) t e = (refl, (refl, (refl, (tt, (inl refl, (refl, (tt, refl)))))))
app-Says m h words n moment s (QuoteRequestReject d) t e = (refl, (refl, (refl, (tt, (inl refl, (refl, (tt, refl)))))))
app-Says m h words n moment s (ExecutionReport d) t e = (refl, (refl, (refl, (tt, (inl refl, (refl, (tt, refl)))))))
app-Says m h words n moment s (OrderCancelReject d) t e = (refl, (refl, (refl, (tt, (inl refl, (refl, (tt, refl)))))))
app-Says m h words n moment s (MarketDataSnapshot d) t e = (refl, (refl, (refl, (tt, (inl refl, (refl, (tt, refl)))))))
app-Says m h words n moment s (MarketDataRequestReject d) t e = (refl, (refl, (refl, (tt, (inl refl, (refl, (tt, refl)))))))
app-Says m h words n moment s (Unsupported kind) t e = (refl, (refl, (refl, (tt, (inl refl, (refl, (tt, refl)))))))

-- an input whose answer is reported at a row
abbrev pub is_tick_input : Input → Bool
is_tick_input (Message taken t) = false
is_tick_input (Tick t) = true

abbrev pub here : Market → List EvidenceEvent → TrailRow → Input → Here
here m words r i = record { market = m; row = r.n; moment = r.moment; trigger = came_of m words r.n i; original = original_emitted i; tick = is_tick_input i }

due-or-none : (w : Here) (h : History) (k : Option HeldSide) → w.tick ≡ true → w.trigger ≡ trigger.Tick → w.original ≡ None → Says w h (answer_due_of w.market h k)
due-or-none w h None tick trigger none = (refl, (refl, (refl, (tt, (inl refl, (refl, (tt, refl)))))))
due-or-none w h (Some k) tick trigger none = due-Says w h k tick trigger none

pub input-Says : (m : Market) (h : History) (words : List EvidenceEvent) (r : TrailRow) (i : Input) → Emits r i → Says (here m words r i) h (answer_input m h i)
input-Says m h words r (Message taken t) emits = app-Says m h words r.n r.moment (record { who = taken.from; number = taken.item.number; kind = type_of taken.item.app }) taken.item.app t emits.3
input-Says m h words r (Tick t) emits = due-or-none (here m words r (Tick t)) h (due h.facts t) refl refl refl
