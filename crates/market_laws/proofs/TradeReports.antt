use Rattle.std.proofs.Common.{bytes_eq, filter, ◌≡◌, refl, ap, ◌∙◌, ℕ, ℤ, Bool, true, false, ◌==◌, ◌&&◌, List, [], ◌∷◌, map, Option, Some, None, inl, inr, ◌⊎◌, suc, ◌+◌, if◌then◌else◌, not, nat_lt, length, flat_map, arith, append-nil, length-append, sym, subst, ◌++◌}
use Rattle.fix_dictionary.specs.declared.messages.App.{App}
use Rattle.fix_dictionary.specs.declared.messages.App.TheVariants.{QuoteRequest, Quote, QuoteCancel, QuoteResponse, QuoteStatusReport, QuoteRequestReject, NewOrderSingle, OrderCancelRequest, OrderCancelReplaceRequest, NewOrderCross, ExecutionReport, OrderCancelReject, MarketDataRequest, MarketDataSnapshot, MarketDataRequestReject, BusinessMessageReject, Unsupported}
use Rattle.fix_dictionary.specs.declared.messages.NewOrderSingle.{NewOrderSingle as OrderMessage}
use Rattle.fix_dictionary.specs.declared.messages.OrderCancelRequest.{OrderCancelRequest as CancelMessage}
use Rattle.fix_dictionary.specs.declared.messages.OrderCancelReplaceRequest.{OrderCancelReplaceRequest as ReplaceMessage}
use Rattle.fix_dictionary.specs.declared.messages.NewOrderCross.{NewOrderCross as CrossMessage}
use Rattle.fix_dictionary.specs.declared.messages.QuoteRequest.{QuoteRequest as RequestMessage}
use Rattle.fix_dictionary.specs.declared.messages.Quote.{Quote as QuoteMessage}
use Rattle.fix_dictionary.specs.declared.messages.QuoteCancel.{QuoteCancel as WithdrawalMessage}
use Rattle.fix_dictionary.specs.declared.messages.QuoteResponse.{QuoteResponse as ResponseMessage}
use Rattle.fix_dictionary.specs.declared.messages.MarketDataRequest.{MarketDataRequest as MarketDataMessage}
use Rattle.fix_dictionary.specs.declared.values.Side.{Side}
use Rattle.instruments.specs.Listing.{symbol_of}
use Rattle.venue_rules.specs.declared.facts.Fact.{Fact}
use Rattle.venue_rules.specs.declared.facts.Fact.TheVariants.{Traded, Withdrawn as WithdrawnFact}
use Rattle.venue_rules.specs.declared.facts.OrderFact.{OrderFact}
use Rattle.venue_rules.specs.declared.facts.HeldSide.{HeldSide}
use Rattle.venue_rules.specs.declared.facts.Room.{Room}
use Rattle.venue_rules.specs.declared.facts.RoomQuote.{RoomQuote}
use Rattle.venue_rules.specs.declared.refusals.ChangeRefusal.TheVariants.{HeldSide as IsHeldSide}
use Rattle.venue_rules.specs.Market.{Market}
use Rattle.venue_rules.specs.Facts.{History, next_trade, no_history, trade_in, trades}
use Rattle.venue_rules.specs.Book.{Resting, filled, Fill, filled_by, fills, is_day}
use Rattle.venue_rules.specs.Delay.{due}
use Rattle.venue_rules.specs.Entering.{entering, buyer, entry_facts, entry_reports, fill_reports, order_report, trade_of, unfilled_reports}
use Rattle.venue_rules.specs.Answer.{Answer, Sender, numbered, reply}
use Rattle.venue_rules.specs.Orders.{accepted, answer_order, order_asked, order_refusals}
use Rattle.venue_rules.specs.Changes.{Named, IsResting, IsHeld, IsUnknown, named, standing, answer_cancel_of, answer_replace_of, cancel_refusals, held_replace_refusals, replace_refusals, replace_refused, cancelled, held_cancelled, replaced, replacement}
use Rattle.venue_rules.specs.Crosses.{answer_cross, answer_due, cross_accepted, cross_refusals, due_refusals, first_side, side_order}
use Rattle.venue_rules.specs.Requests.{answer_request, opened, request_accepted, request_refusals, request_sent}
use Rattle.venue_rules.specs.Quotes.{answer_quote_of, quote_accepted, quote_refusals, quote_sent, quote_status, quoted, shown_with}
use Rattle.venue_rules.specs.Rooms.{find_room, find_quote, live_quotes, room_by_number, first_quote}
use Rattle.venue_rules.specs.Withdrawals.{answer_withdrawal_of, not_found, withdraw_one, withdrawn_or, both_emitted, to_maker, to_requester, withdrawn_all}
use Rattle.venue_rules.specs.Responses.{answer_hit, answer_hit_at, answer_response, answer_response_in, answer_response_to, kind_refusals, price_for, response_refusals, taken_side}
use Rattle.venue_rules.specs.MarketData.{answer_market_data, market_data, market_data_refusals}
use Rattle.venue_rules.specs.Answers.{answer_app}
use Rattle.venue_rules.specs.Run.{Input, Message, Tick, answer_due_of, answer_input, run, after, run_from}
use Rattle.venue_rules.proofs.OpenRooms.{first_of-each}
use Rattle.std.specs.List.{enumerate_from}
use Rattle.std.proofs.lemmas.List.Elements.{filter_map-append}
use Rattle.fix_dictionary.specs.declared.values.Side.TheVariants.{Buy, Sell}
use Rattle.venue_rules.specs.declared.facts.Entry.{Entry}
use Rattle.venue_rules.specs.declared.facts.Trade.{Trade}
use Rattle.venue_rules.specs.declared.replies.Reply.{Reply}
use Rattle.venue_rules.specs.declared.replies.ReplyBody.TheVariants.{OrderUnfilled}
use Rattle.venue_rules.specs.declared.replies.QuoteState.TheVariants.{Accepted, Withdrawn}
use Rattle.venue_rules.proofs.EveryReport.{added, run_facts}
use Rattle.market_laws.specs.TradeReports.{AreInPairs, TradeReport, TradesAreReportedInPairs, report_in, trade_reports}

-- The reports of the trades of each answer, and of a run.

-- one more run of pairs

pub AreInPairs-append : (n : ℕ) (xs ys : List Trade) (rs ss : List TradeReport) → AreInPairs n xs rs → AreInPairs (n + length xs) ys ss → AreInPairs n (xs ++ ys) (rs ++ ss)
AreInPairs-append n [] ys [] ss p q = subst (λ k. AreInPairs k ys ss) (none n) q
  where
    none : (k : ℕ) → k + 0 ≡ k
    none k = omega arith
AreInPairs-append n [] ys (a ∷ rs) ss p q = absurd p
AreInPairs-append n (t ∷ ts) ys [] ss p q = absurd p
AreInPairs-append n (t ∷ ts) ys (a ∷ []) ss p q = absurd p
AreInPairs-append n (t ∷ ts) ys (a ∷ b ∷ rs) ss p q = (p.0, AreInPairs-append (n + 1) ts ys rs ss p.1 (subst (λ k. AreInPairs k ys ss) (moved n (length ts)) q))
  where
    moved : (j k : ℕ) → j + suc k ≡ (j + 1) + k
    moved j k = omega arith

-- an answer reports its trades in pairs
abbrev InPairs : History → Answer → Type 0
InPairs h a = AreInPairs (next_trade h.facts) (trades a.facts) (trade_reports a.replies)

quiet_pairs : (h : History) (a : Answer) → trades a.facts ≡ [] → trade_reports a.replies ≡ [] → InPairs h a
quiet_pairs h a none silent = subst (λ ts. AreInPairs (next_trade h.facts) ts (trade_reports a.replies)) (sym none) (subst (AreInPairs (next_trade h.facts) []) (sym silent) tt)

-- the fills of an order

by_side : (s : Side) (w v : ℕ) → ((w ≡ buyer s w v) × (v ≡ buyer s v w)) ⊎ ((w ≡ buyer s v w) × (v ≡ buyer s w v))
by_side Buy w v = inl (refl, refl)
by_side Sell w v = inr (refl, refl)

abbrev IsSilent : List (ℕ → Reply) → Type 0
IsSilent fs = (n : ℕ) → trade_reports (numbered n fs) ≡ []

fills_pairs : (m : Market) (e : Entry) (all : List Fill) (trade j n : ℕ) (fs : List Fill) (ys : List (ℕ → Reply)) → IsSilent ys
    → AreInPairs (trade + j) (trades (map (λ (f : Fill). Traded (trade_of e f)) fs)) (trade_reports (numbered n (flat_map (fill_reports m e all trade) (enumerate_from j fs) ++ ys)))
fills_pairs m e all trade j n [] ys silent = subst (AreInPairs (trade + j) []) (sym (silent n)) tt
fills_pairs m e all trade j n (f ∷ fs) ys silent = (
  record { first = refl; second = refl; parties = by_side e.order.side e.order.who f.resting.entry.order.who },
  subst (λ k. AreInPairs k (trades (map (λ (g : Fill). Traded (trade_of e g)) fs)) (trade_reports (numbered (n + 1 + 1) (flat_map (fill_reports m e all trade) (enumerate_from (j + 1) fs) ++ ys)))) (moved trade j) (fills_pairs m e all trade (j + 1) (n + 1 + 1) fs ys silent),
)
  where
    moved : (a b : ℕ) → a + (b + 1) ≡ a + b + 1
    moved a b = omega arith

unfilled_silent : (m : Market) (e : Entry) (fs : List Fill) (b : Bool) → IsSilent (if b then (λ (n : ℕ). reply e.order.who (OrderUnfilled (order_report m e 0 (e.filled_before + filled_by fs) n))) ∷ [] else [])
unfilled_silent m e fs true n = refl
unfilled_silent m e fs false n = refl

entry_pairs : (m : Market) (facts : List Fact) (e : Entry) (fs : List Fill) (n : ℕ) → AreInPairs (next_trade facts) (trades (entry_facts e fs)) (trade_reports (numbered n (entry_reports m facts e fs)))
entry_pairs m facts e fs n =
    subst (λ k. AreInPairs k (trades (entry_facts e fs)) (trade_reports (numbered n (entry_reports m facts e fs)))) (none (next_trade facts))
    (fills_pairs m e fs (next_trade facts) 0 n fs (unfilled_reports m e fs) (unfilled_silent m e fs (not (is_day e.order.life) && nat_lt (filled_by fs) e.order.quantity)))
  where
    none : (k : ℕ) → k + 0 ≡ k
    none k = omega arith

-- orders

accepted-pairs : (m : Market) (h : History) (o : OrderFact) (t : ℕ) → InPairs h (accepted m h o t)
accepted-pairs m h o t = entry_pairs m h.facts (entering h.facts o 0 t) (fills h.facts o) (h.reports + 1)

order-pairs : (m : Market) (h : History) (s : Sender) (d : OrderMessage) (t : ℕ) → InPairs h (answer_order m h s d t)
order-pairs m h s d t = first_of-each (InPairs h) (order_refusals m h s d t) (accepted m h (order_asked m s.who d) t) (tt, (tt, (tt, (tt, (tt, (tt, (tt, (tt, tt)))))))) (λ n. accepted-pairs m h (order_asked m s.who d) t)

cancel_of-pairs : (m : Market) (h : History) (s : Sender) (d : CancelMessage) (k : Named) → InPairs h (answer_cancel_of m h s d k)
cancel_of-pairs m h s d IsUnknown = tt
cancel_of-pairs m h s d (IsHeld k) = first_of-each (InPairs h) (cancel_refusals h s d None) (held_cancelled m h s d k) (tt, tt) (λ n. tt)
cancel_of-pairs m h s d (IsResting r) = first_of-each (InPairs h) (cancel_refusals h s d (Some (standing r))) (cancelled m h s d r) (tt, tt) (λ n. tt)

replaced-pairs : (m : Market) (h : History) (s : Sender) (d : ReplaceMessage) (r : Resting) (t : ℕ) → InPairs h (replaced m h s d r t)
replaced-pairs m h s d r t = entry_pairs m h.facts (entering h.facts (replacement d r) (filled r) t) (fills h.facts (replacement d r)) (h.reports + 1)

replace_of-pairs : (m : Market) (h : History) (s : Sender) (d : ReplaceMessage) (t : ℕ) (k : Named) → InPairs h (answer_replace_of m h s d t k)
replace_of-pairs m h s d t IsUnknown = tt
replace_of-pairs m h s d t (IsHeld k) = first_of-each (InPairs h) (held_replace_refusals h s d) (replace_refused s d None IsHeldSide) (tt, tt) (λ n. tt)
replace_of-pairs m h s d t (IsResting r) = first_of-each (InPairs h) (replace_refusals m h s d r t) (replaced m h s d r t) (tt, (tt, (tt, (tt, (tt, (tt, (tt, tt))))))) (λ n. replaced-pairs m h s d r t)

cross_accepted-pairs : (m : Market) (h : History) (s : Sender) (d : CrossMessage) (t : ℕ) → InPairs h (cross_accepted m h s d t)
cross_accepted-pairs m h s d t =
    let first : Answer = accepted m h (side_order m s.who d (first_side d)) t in
    subst (λ ts. AreInPairs (next_trade h.facts) ts (trade_reports first.replies)) (sym (filter_map-append trade_in first.facts _ ∙ append-nil (trades first.facts))) (accepted-pairs m h (side_order m s.who d (first_side d)) t)

cross-pairs : (m : Market) (h : History) (s : Sender) (d : CrossMessage) (t : ℕ) → InPairs h (answer_cross m h s d t)
cross-pairs m h s d t = first_of-each (InPairs h) (cross_refusals m h s d t) (cross_accepted m h s d t) (tt, (tt, (tt, (tt, (tt, (tt, (tt, (tt, (tt, (tt, (tt, tt))))))))))) (λ n. cross_accepted-pairs m h s d t)

due-pairs : (m : Market) (h : History) (k : HeldSide) → InPairs h (answer_due m h k)
due-pairs m h k = first_of-each (InPairs h) (due_refusals m h k) (accepted m h k.order k.due) (tt, (tt, tt)) (λ n. accepted-pairs m h k.order k.due)

-- requests and quotes

requests_silent : (m : Market) (r : Room) (who : List ℕ) → trade_reports (map (request_sent m r) who) ≡ []
requests_silent m r [] = refl
requests_silent m r (w ∷ ws) = requests_silent m r ws

request-pairs : (m : Market) (h : History) (s : Sender) (d : RequestMessage) (t : ℕ) → InPairs h (answer_request m h s d t)
request-pairs m h s d t =
    let r : Room = opened m h s d t in
    first_of-each (InPairs h) (request_refusals m h s d t) (request_accepted m r) (tt, (tt, (tt, (tt, (tt, (tt, (tt, (tt, (tt, (tt, tt)))))))))) (λ n. quiet_pairs h (request_accepted m r) refl (requests_silent m r r.recipients))

shown_silent : (m : Market) (h : History) (s : Sender) (r : Room) (d : QuoteMessage) (o : Option RoomQuote) → trade_reports (quote_status s d (Some (symbol_of m.instruments r.instrument)) Accepted ∷ shown_with m h r o ++ quote_sent m r (quoted h s r d) ∷ []) ≡ []
shown_silent m h s r d None = refl
shown_silent m h s r d (Some q) = refl

quote_of-pairs : (m : Market) (h : History) (s : Sender) (d : QuoteMessage) (t : ℕ) (r : Option Room) → InPairs h (answer_quote_of m h s d t r)
quote_of-pairs m h s d t None = tt
quote_of-pairs m h s d t (Some r) = first_of-each (InPairs h) (quote_refusals m h s r d t) (quote_accepted m h s r d) (tt, (tt, (tt, (tt, (tt, (tt, (tt, (tt, tt)))))))) (λ n. quiet_pairs h (quote_accepted m h s r d) refl (shown_silent m h s r d (first_quote h.facts r.number)))

-- withdrawals

emitted_silent : (m : Market) (q : RoomQuote) (o : Option Room) (rs : List Reply) → trade_reports rs ≡ [] → trade_reports (elim o [ None ↦ [] | Some r ↦ to_maker m r q Withdrawn ∷ to_requester m r q Withdrawn ∷ [] ] ++ rs) ≡ []
emitted_silent m q None rs k = k
emitted_silent m q (Some r) rs k = k

all_silent : (m : Market) (h : History) (qs : List RoomQuote) → trade_reports (flat_map (both_emitted m h) qs) ≡ []
all_silent m h [] = refl
all_silent m h (q ∷ qs) = emitted_silent m q (room_by_number h.facts q.room) (flat_map (both_emitted m h) qs) (all_silent m h qs)

none_traded : (qs : List RoomQuote) → trades (map (λ (q : RoomQuote). WithdrawnFact (record { quote = q.number })) qs) ≡ []
none_traded [] = refl
none_traded (q ∷ qs) = none_traded qs

withdrawn_or-pairs : (m : Market) (h : History) (a : Answer) (qs : List RoomQuote) → InPairs h a → InPairs h (withdrawn_or m h a qs)
withdrawn_or-pairs m h a [] k = k
withdrawn_or-pairs m h a (q ∷ qs) k = quiet_pairs h (withdrawn_all m h (q ∷ qs)) (none_traded (q ∷ qs)) (all_silent m h (q ∷ qs))

withdraw_one-pairs : (m : Market) (h : History) (s : Sender) (t : ℕ) (id : Option (List ℕ)) → InPairs h (withdraw_one m h s t id)
withdraw_one-pairs m h s t None = tt
withdraw_one-pairs m h s t (Some id) = withdrawn_or-pairs m h (not_found s (Some id)) (filter (λ (q : RoomQuote). bytes_eq q.id id) (live_quotes h.facts s.who t)) tt

withdrawal_of-pairs : (m : Market) (h : History) (s : Sender) (d : WithdrawalMessage) (t : ℕ) (one all : Bool) → InPairs h (answer_withdrawal_of m h s d t one all)
withdrawal_of-pairs m h s d t true all = withdraw_one-pairs m h s t d.quote_id
withdrawal_of-pairs m h s d t false true = withdrawn_or-pairs m h (not_found s None) (live_quotes h.facts s.who t) tt
withdrawal_of-pairs m h s d t false false = tt

-- responses: of a trade in a room the requester is sent the first report, the maker the second

hit_at-pairs : (m : Market) (h : History) (s : Sender) (r : Room) (q : RoomQuote) (d : ResponseMessage) (t : ℕ) (side : Side) (p : Option ℤ) → InPairs h (answer_hit_at m h s r q d t side p)
hit_at-pairs m h s r q d t side None = tt
hit_at-pairs m h s r q d t side (Some p) = (record { first = refl; second = refl; parties = by_side side s.who q.maker }, tt)

hit-pairs : (m : Market) (h : History) (s : Sender) (r : Room) (q : RoomQuote) (d : ResponseMessage) (t : ℕ) (side : Option Side) → InPairs h (answer_hit m h s r q d t side)
hit-pairs m h s r q d t None = tt
hit-pairs m h s r q d t (Some side) = hit_at-pairs m h s r q d t side (price_for side q)

response_in-pairs : (m : Market) (h : History) (s : Sender) (q : RoomQuote) (d : ResponseMessage) (t : ℕ) (r : Option Room) → InPairs h (answer_response_in m h s q d t r)
response_in-pairs m h s q d t None = tt
response_in-pairs m h s q d t (Some r) = first_of-each (InPairs h) (response_refusals m h s r q d t) (answer_hit m h s r q d t (taken_side r.side d.side)) (tt, (tt, (tt, (tt, (tt, (tt, tt)))))) (λ n. hit-pairs m h s r q d t (taken_side r.side d.side))

response_to-pairs : (m : Market) (h : History) (s : Sender) (d : ResponseMessage) (t : ℕ) (q : Option RoomQuote) → InPairs h (answer_response_to m h s d t q)
response_to-pairs m h s d t None = tt
response_to-pairs m h s d t (Some q) = response_in-pairs m h s q d t (room_by_number h.facts q.room)

response-pairs : (m : Market) (h : History) (s : Sender) (d : ResponseMessage) (t : ℕ) → InPairs h (answer_response m h s d t)
response-pairs m h s d t = first_of-each (InPairs h) (kind_refusals s d) (answer_response_to m h s d t (find_quote h.facts d.quote_id)) (tt, tt) (λ n. response_to-pairs m h s d t (find_quote h.facts d.quote_id))

market_data-pairs : (m : Market) (h : History) (s : Sender) (d : MarketDataMessage) → InPairs h (answer_market_data m h s d)
market_data-pairs m h s d = first_of-each (InPairs h) (market_data_refusals m s d) (market_data m h s d) (tt, (tt, (tt, tt))) (λ n. tt)

-- any message, and a tick

app-pairs : (m : Market) (h : History) (s : Sender) (a : App) (t : ℕ) → InPairs h (answer_app m h s a t)
app-pairs m h s (QuoteRequest d) t = request-pairs m h s d t
app-pairs m h s (Quote d) t = quote_of-pairs m h s d t (find_room h.facts d.request_id)
app-pairs m h s (QuoteCancel d) t = withdrawal_of-pairs m h s d t (d.cancel_type == 5) (d.cancel_type == 4)
app-pairs m h s (QuoteResponse d) t = response-pairs m h s d t
app-pairs m h s (NewOrderSingle d) t = order-pairs m h s d t
app-pairs m h s (OrderCancelRequest d) t = cancel_of-pairs m h s d (named h s.who d.original_id)
app-pairs m h s (OrderCancelReplaceRequest d) t = replace_of-pairs m h s d t (named h s.who d.original_id)
app-pairs m h s (NewOrderCross d) t = cross-pairs m h s d t
app-pairs m h s (MarketDataRequest d) t = market_data-pairs m h s d
app-pairs m h s (BusinessMessageReject d) t = tt
app-pairs m h s (QuoteStatusReport d) t = tt
app-pairs m h s (QuoteRequestReject d) t = tt
app-pairs m h s (ExecutionReport d) t = tt
app-pairs m h s (OrderCancelReject d) t = tt
app-pairs m h s (MarketDataSnapshot d) t = tt
app-pairs m h s (MarketDataRequestReject d) t = tt
app-pairs m h s (Unsupported kind) t = tt

due_of-pairs : (m : Market) (h : History) (k : Option HeldSide) → InPairs h (answer_due_of m h k)
due_of-pairs m h None = tt
due_of-pairs m h (Some k) = due-pairs m h k

input-pairs : (m : Market) (h : History) (i : Input) → InPairs h (answer_input m h i)
input-pairs m h (Message taken t) = app-pairs m h _ taken.item.app t
input-pairs m h (Tick t) = due_of-pairs m h (due h.facts t)

-- a list of inputs

next_after : (fs gs : List Fact) → next_trade fs + length (trades gs) ≡ next_trade (fs ++ gs)
next_after fs gs = moved (length (trades fs)) (length (trades gs)) ∙ sym (ap (λ n. n + 1) (ap length (filter_map-append trade_in fs gs) ∙ length-append (trades fs) (trades gs)))
  where
    moved : (a b : ℕ) → a + 1 + b ≡ a + b + 1
    moved a b = omega arith

run-pairs : (m : Market) (h : History) (is : List Input) → AreInPairs (next_trade h.facts) (trades (added m h is)) (trade_reports (run_from m h is).replies)
run-pairs m h [] = tt
run-pairs m h (i ∷ is) =
    let a : Answer = answer_input m h i in
    let more : List Fact = added m (after h a) is in
    let rest : List Reply = (run_from m (after h a) is).replies in
    let later : AreInPairs (next_trade h.facts + length (trades a.facts)) (trades more) (trade_reports rest) = subst (λ k. AreInPairs k (trades more) (trade_reports rest)) (sym (next_after h.facts a.facts)) (run-pairs m (after h a) is) in
    subst (λ ts. AreInPairs (next_trade h.facts) ts (trade_reports (a.replies ++ rest))) (sym (filter_map-append trade_in a.facts more))
    (subst (AreInPairs (next_trade h.facts) (trades a.facts ++ trades more)) (sym (filter_map-append (λ (r : Reply). report_in r.to r.what) a.replies rest))
    (AreInPairs-append (next_trade h.facts) (trades a.facts) (trades more) (trade_reports a.replies) (trade_reports rest) (input-pairs m h i) later))

pub trades_in_pairs : (m : Market) (is : List Input) → TradesAreReportedInPairs m is
trades_in_pairs m is = subst (λ fs. AreInPairs 1 (trades fs) (trade_reports (run m is).replies)) (sym (run_facts m no_history is)) (run-pairs m no_history is)
