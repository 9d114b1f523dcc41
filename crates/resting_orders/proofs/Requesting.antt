-- The request that each input opens, and the room that trades at it, by the replies, are those of its facts.
use Rattle.std.proofs.Common.{◌≡◌, refl, sym, ap, ◌∙◌, ℕ, ℤ, ◌+◌, ◌==◌, Bool, true, false, not, ◌&&◌, ◌||◌, nat_lt, nat_le, cond, if◌then◌else◌, List, [], ◌∷◌, ◌++◌, map, filter, filter_map, length, Option, Some, None}
use Rattle.std.specs.Prelude.{bytes_eq}
use Rattle.std.specs.List.{cons_option, list_any}
use Rattle.std.proofs.lemmas.Bool.{true≢false}
use Rattle.std.proofs.lemmas.List.Elements.{filter_map-append}
use Rattle.fix_dictionary.specs.declared.messages.App.{App}
use Rattle.fix_dictionary.specs.declared.messages.App.TheVariants.{QuoteRequest, Quote, QuoteCancel, QuoteResponse, QuoteStatusReport, QuoteRequestReject, NewOrderSingle, OrderCancelRequest, OrderCancelReplaceRequest, NewOrderCross, ExecutionReport, OrderCancelReject, MarketDataRequest, MarketDataSnapshot, MarketDataRequestReject, BusinessMessageReject, Unsupported}
use Rattle.fix_dictionary.specs.declared.messages.NewOrderSingle.{NewOrderSingle as OrderMessage}
use Rattle.fix_dictionary.specs.declared.messages.OrderCancelRequest.{OrderCancelRequest as CancelMessage}
use Rattle.fix_dictionary.specs.declared.messages.OrderCancelReplaceRequest.{OrderCancelReplaceRequest as ReplaceMessage}
use Rattle.fix_dictionary.specs.declared.messages.NewOrderCross.{NewOrderCross as CrossMessage}
use Rattle.fix_dictionary.specs.declared.messages.QuoteRequest.{QuoteRequest as RequestMessage}
use Rattle.fix_dictionary.specs.declared.messages.Quote.{Quote as QuoteMessage}
use Rattle.fix_dictionary.specs.declared.messages.QuoteCancel.{QuoteCancel as WithdrawalMessage}
use Rattle.fix_dictionary.specs.declared.messages.QuoteResponse.{QuoteResponse as ResponseMessage}
use Rattle.fix_dictionary.specs.declared.messages.MarketDataRequest.{MarketDataRequest as MarketDataMessage}
use Rattle.fix_dictionary.specs.declared.values.Side.{Side}
use Rattle.instruments.specs.Listing.{delay_of, instrument_of}
use Rattle.venue_rules.specs.declared.facts.Entry.{Entry}
use Rattle.venue_rules.specs.declared.facts.Fact.{Fact}
use Rattle.venue_rules.specs.declared.facts.Fact.TheVariants.{Entered, Traded, Removed, Held, Unheld, Asked, Quoted, Withdrawn, Closed}
use Rattle.venue_rules.specs.declared.facts.HeldSide.{HeldSide}
use Rattle.venue_rules.specs.declared.facts.OrderFact.{OrderFact}
use Rattle.venue_rules.specs.declared.facts.Release.{Release}
use Rattle.venue_rules.specs.declared.facts.Removal.{Removal}
use Rattle.venue_rules.specs.declared.facts.Room.{Room}
use Rattle.venue_rules.specs.declared.facts.RoomQuote.{RoomQuote}
use Rattle.venue_rules.specs.declared.facts.Trade.{Trade}
use Rattle.venue_rules.specs.declared.facts.Withdrawal.{Withdrawal}
use Rattle.venue_rules.specs.declared.refusals.ChangeRefusal.TheVariants.{HeldSide as IsHeldSide}
use Rattle.venue_rules.specs.Answer.{Answer, Sender, first_of}
use Rattle.venue_rules.specs.Answers.{answer_app, type_of}
use Rattle.venue_rules.specs.Book.{Fill, Resting, filled, fills}
use Rattle.venue_rules.specs.Changes.{Named, IsResting, IsHeld, IsUnknown, named, standing, answer_cancel_of, answer_replace_of, cancel_refusals, held_replace_refusals, replace_refusals, replace_refused, cancelled, held_cancelled, replaced, replacement}
use Rattle.venue_rules.specs.Crosses.{answer_cross, cross_accepted, cross_refusals, first_side, second_side, side_order, due_refusals}
use Rattle.venue_rules.specs.Delay.{due}
use Rattle.venue_rules.specs.Entering.{entering, trade_of}
use Rattle.venue_rules.specs.Facts.{History, room_in, rooms}
use Rattle.venue_rules.specs.Market.{Market}
use Rattle.venue_rules.specs.MarketData.{answer_market_data, market_data_refusals, market_data}
use Rattle.venue_rules.specs.Orders.{accepted, answer_order, order_asked, order_refusals}
use Rattle.venue_rules.specs.Quotes.{answer_quote_of, quote_refusals, quote_accepted, quoted}
use Rattle.venue_rules.specs.Requests.{answer_request, request_accepted, request_refusals, request_sent, recipients, opened}
use Rattle.venue_rules.specs.Responses.{answer_response, answer_response_to, answer_response_in, answer_hit, answer_hit_at, response_refusals, kind_refusals, taken_side, price_for}
use Rattle.venue_rules.specs.Rooms.{find_room, find_quote, is_closed, is_open, live_quotes, room_by_number}
use Rattle.venue_rules.specs.Run.{Message, Tick, answer_due_of, run}
use Rattle.venue_rules.specs.Withdrawals.{answer_withdrawal_of, withdraw_one, withdrawn_or, not_found}
use Rattle.resting_orders.specs.declared.asking.Request.{Request}
use Rattle.resting_orders.specs.Asking.{asked_as, asked_by, asked_by_app, closed_by_app, closed_in, closings, first_sent, first_traded, is_still_open, open_requests, request_of, requests, still_open}
use Rattle.resting_orders.specs.Laws.{ClosingsAgree, RequestsAgree}
use Rattle.resting_orders.proofs.Entering.{first_turns}

-- Answers with no fact of a kind.

abbrev pub Lacks : {X : Type 0} → (Fact → Option X) → Answer → Type 0
Lacks h a = filter_map h a.facts ≡ []

-- facts of other kinds are not picked
pub record Misses {X : Type 0} (h : Fact → Option X) : Type 0 where
  pub entered : (e : Entry) → h (Entered e) ≡ None
  pub traded : (t : Trade) → h (Traded t) ≡ None
  pub removed : (r : Removal) → h (Removed r) ≡ None
  pub held : (k : HeldSide) → h (Held k) ≡ None
  pub unheld : (u : Release) → h (Unheld u) ≡ None
  pub withdrawn : (w : Withdrawal) → h (Withdrawn w) ≡ None

skip : {X : Type 0} (h : Fact → Option X) (f : Fact) (fs : List Fact) → h f ≡ None → filter_map h fs ≡ [] → filter_map h (f ∷ fs) ≡ []
skip h f fs e k = (λ j. cons_option (e j) (k j))

trades_lack : {X : Type 0} (h : Fact → Option X) → Misses h → (e : Entry) (fs : List Fill) → filter_map h (map (λ (f : Fill). Traded (trade_of e f)) fs) ≡ []
trades_lack h misses e [] = refl
trades_lack h misses e (f ∷ fs) = skip h (Traded (trade_of e f)) (map (λ (x : Fill). Traded (trade_of e x)) fs) (misses.traded (trade_of e f)) (trades_lack h misses e fs)

entry_lacks : {X : Type 0} (h : Fact → Option X) → Misses h → (e : Entry) (fs : List Fill) → filter_map h (Entered e ∷ map (λ (f : Fill). Traded (trade_of e f)) fs) ≡ []
entry_lacks h misses e fs = skip h (Entered e) (map (λ (f : Fill). Traded (trade_of e f)) fs) (misses.entered e) (trades_lack h misses e fs)

accepted_lacks : {X : Type 0} (h : Fact → Option X) → Misses h → (m : Market) (s : History) (o : OrderFact) (t : ℕ) → Lacks h (accepted m s o t)
accepted_lacks h misses m s o t = entry_lacks h misses (entering s.facts o 0 t) (fills s.facts o)

pub order_lacks : {X : Type 0} (h : Fact → Option X) → Misses h → (m : Market) (g : History) (s : Sender) (d : OrderMessage) (t : ℕ) → Lacks h (answer_order m g s d t)
order_lacks h misses m g s d t =
    first_turns (Lacks h) (order_refusals m g s d t) (accepted m g (order_asked m s.who d) t) (refl, (refl, (refl, (refl, (refl, (refl, (refl, (refl, tt))))))))
    (λ n. accepted_lacks h misses m g (order_asked m s.who d) t)

replaced_lacks : {X : Type 0} (h : Fact → Option X) → Misses h → (m : Market) (g : History) (s : Sender) (d : ReplaceMessage) (r : Resting) (t : ℕ) → Lacks h (replaced m g s d r t)
replaced_lacks h misses m g s d r t =
    let o = replacement d r in
    let e = entering g.facts o (filled r) t in
    let gone : Removal = record { order = r.entry.number; who = s.who; id = d.order_id } in
    skip h (Removed gone) (Entered e ∷ map (λ (f : Fill). Traded (trade_of e f)) (fills g.facts o)) (misses.removed gone) (entry_lacks h misses e (fills g.facts o))

pub replace_lacks : {X : Type 0} (h : Fact → Option X) → Misses h → (m : Market) (g : History) (s : Sender) (d : ReplaceMessage) (t : ℕ) (n : Named) → Lacks h (answer_replace_of m g s d t n)
replace_lacks h misses m g s d t IsUnknown = refl
replace_lacks h misses m g s d t (IsHeld k) = first_turns (Lacks h) (held_replace_refusals g s d) (replace_refused s d None IsHeldSide) (refl, tt) (λ n. refl)
replace_lacks h misses m g s d t (IsResting r) = first_turns (Lacks h) (replace_refusals m g s d r t) (replaced m g s d r t) (refl, (refl, (refl, (refl, (refl, (refl, (refl, tt))))))) (λ n. replaced_lacks h misses m g s d r t)

pub cancel_lacks : {X : Type 0} (h : Fact → Option X) → Misses h → (m : Market) (g : History) (s : Sender) (d : CancelMessage) (n : Named) → Lacks h (answer_cancel_of m g s d n)
cancel_lacks h misses m g s d IsUnknown = refl
cancel_lacks h misses m g s d (IsHeld k) =
    let u : Release = record { who = s.who; id = k.order.id; cancel = Some d.order_id } in
    first_turns (Lacks h) (cancel_refusals g s d None) (held_cancelled m g s d k) (refl, tt) (λ n. skip h (Unheld u) [] (misses.unheld u) refl)
cancel_lacks h misses m g s d (IsResting r) =
    let gone : Removal = record { order = r.entry.number; who = s.who; id = d.order_id } in
    first_turns (Lacks h) (cancel_refusals g s d (Some (standing r))) (cancelled m g s d r) (refl, tt) (λ n. skip h (Removed gone) [] (misses.removed gone) refl)

pub cross_lacks : {X : Type 0} (h : Fact → Option X) → Misses h → (m : Market) (g : History) (s : Sender) (d : CrossMessage) (t : ℕ) → Lacks h (answer_cross m g s d t)
cross_lacks h misses m g s d t =
    let o = side_order m s.who d (first_side d) in
    let k : HeldSide = record { order = side_order m s.who d (second_side d); cross = d.cross_id; due = t + delay_of m.instruments (instrument_of m.instruments d.symbol) } in
    first_turns (Lacks h) (cross_refusals m g s d t) (cross_accepted m g s d t) (refl, (refl, (refl, (refl, (refl, (refl, (refl, (refl, (refl, (refl, (refl, tt)))))))))))
    (λ n. filter_map-append h (accepted m g o t).facts (Held k ∷ []) ∙ (λ j. accepted_lacks h misses m g o t j ++ skip h (Held k) [] (misses.held k) refl j))

pub due_lacks : {X : Type 0} (h : Fact → Option X) → Misses h → (m : Market) (g : History) (o : Option HeldSide) → Lacks h (answer_due_of m g o)
due_lacks h misses m g None = refl
due_lacks h misses m g (Some k) =
    let u : Release = record { who = k.order.who; id = k.order.id; cancel = None } in
    let entered = first_of (due_refusals m g k) (accepted m g k.order k.due) in
    skip h (Unheld u) entered.facts (misses.unheld u) (first_turns (Lacks h) (due_refusals m g k) (accepted m g k.order k.due) (refl, (refl, tt)) (λ n. accepted_lacks h misses m g k.order k.due))

quote_lacks : {X : Type 0} (h : Fact → Option X) → ((q : RoomQuote) → h (Quoted q) ≡ None) → (m : Market) (g : History) (s : Sender) (d : QuoteMessage) (t : ℕ) (r : Option Room) → Lacks h (answer_quote_of m g s d t r)
quote_lacks h none m g s d t None = refl
quote_lacks h none m g s d t (Some r) =
    first_turns (Lacks h) (quote_refusals m g s r d t) (quote_accepted m g s r d) (refl, (refl, (refl, (refl, (refl, (refl, (refl, (refl, tt)))))))) (λ n. skip h (Quoted (quoted g s r d)) [] (none (quoted g s r d)) refl)

withdrawals_lack : {X : Type 0} (h : Fact → Option X) → Misses h → (qs : List RoomQuote) → filter_map h (map (λ (q : RoomQuote). Withdrawn (record { quote = q.number })) qs) ≡ []
withdrawals_lack h misses [] = refl
withdrawals_lack h misses (q ∷ qs) = skip h (Withdrawn (record { quote = q.number })) (map (λ (x : RoomQuote). Withdrawn (record { quote = x.number })) qs) (misses.withdrawn (record { quote = q.number })) (withdrawals_lack h misses qs)

withdrawn_lacks : {X : Type 0} (h : Fact → Option X) → Misses h → (m : Market) (g : History) (x : Answer) (qs : List RoomQuote) → Lacks h x → Lacks h (withdrawn_or m g x qs)
withdrawn_lacks h misses m g x [] k = k
withdrawn_lacks h misses m g x (q ∷ qs) k = withdrawals_lack h misses (q ∷ qs)

withdraw_one_lacks : {X : Type 0} (h : Fact → Option X) → Misses h → (m : Market) (g : History) (s : Sender) (t : ℕ) (id : Option (List ℕ)) → Lacks h (withdraw_one m g s t id)
withdraw_one_lacks h misses m g s t None = refl
withdraw_one_lacks h misses m g s t (Some id) = withdrawn_lacks h misses m g (not_found s (Some id)) (filter (λ (q : RoomQuote). bytes_eq q.id id) (live_quotes g.facts s.who t)) refl

pub withdrawal_lacks : {X : Type 0} (h : Fact → Option X) → Misses h → (m : Market) (g : History) (s : Sender) (d : WithdrawalMessage) (t : ℕ) (one all : Bool) → Lacks h (answer_withdrawal_of m g s d t one all)
withdrawal_lacks h misses m g s d t true all = withdraw_one_lacks h misses m g s t d.quote_id
withdrawal_lacks h misses m g s d t false true = withdrawn_lacks h misses m g (not_found s None) (live_quotes g.facts s.who t) refl
withdrawal_lacks h misses m g s d t false false = refl

pub market_data_lacks : {X : Type 0} (h : Fact → Option X) (m : Market) (g : History) (s : Sender) (d : MarketDataMessage) → Lacks h (answer_market_data m g s d)
market_data_lacks h m g s d = first_turns (Lacks h) (market_data_refusals m s d) (market_data m g s d) (refl, (refl, (refl, tt))) (λ n. refl)

-- Requests.

no_rooms : Misses room_in
no_rooms = record { entered = λ e. refl; traded = λ t. refl; removed = λ r. refl; held = λ k. refl; unheld = λ u. refl; withdrawn = λ w. refl }

hit_asks_not : (m : Market) (g : History) (s : Sender) (r : Room) (q : RoomQuote) (d : ResponseMessage) (t : ℕ) (side : Option Side) → Lacks room_in (answer_hit m g s r q d t side)
hit_asks_not m g s r q d t None = refl
hit_asks_not m g s r q d t (Some side) = at (price_for side q)
  where
    at : (p : Option ℤ) → Lacks room_in (answer_hit_at m g s r q d t side p)
    at None = refl
    at (Some p) = refl

response_asks_not : (m : Market) (g : History) (s : Sender) (d : ResponseMessage) (t : ℕ) → Lacks room_in (answer_response m g s d t)
response_asks_not m g s d t = first_turns (Lacks room_in) (kind_refusals s d) (answer_response_to m g s d t (find_quote g.facts d.quote_id)) (refl, tt) (λ n. to (find_quote g.facts d.quote_id))
  where
    inside : (q : RoomQuote) (r : Option Room) → Lacks room_in (answer_response_in m g s q d t r)
    inside q None = refl
    inside q (Some r) =
        first_turns (Lacks room_in) (response_refusals m g s r q d t) (answer_hit m g s r q d t (taken_side r.side d.side)) (refl, (refl, (refl, (refl, (refl, (refl, tt))))))
        (λ n. hit_asks_not m g s r q d t (taken_side r.side d.side))

    to : (q : Option RoomQuote) → Lacks room_in (answer_response_to m g s d t q)
    to None = refl
    to (Some q) = inside q (room_by_number g.facts q.room)

sent_first : (m : Market) (r : Room) (rs : List ℕ) → nat_lt (length rs) 3 ≡ false → first_sent (map (request_sent m r) rs) ≡ Some r.number
sent_first m r [] few = absurd (true≢false few)
sent_first m r (x ∷ xs) few = refl

abbrev AreAsked : Answer → Option Request → Type 0
AreAsked a q = map request_of (rooms a.facts) ≡ cons_option q []

request_asks : (m : Market) (g : History) (s : Sender) (d : RequestMessage) (t : ℕ) → AreAsked (answer_request m g s d t) (asked_by m.instruments s.who d t (first_sent (answer_request m g s d t).replies))
request_asks m g s d t =
    let r = opened m g s d t in
    let xs = m.instruments in
    first_turns (λ (a : Answer). AreAsked a (asked_by xs s.who d t (first_sent a.replies))) (request_refusals m g s d t) (request_accepted m r)
    (refl, (refl, (refl, (refl, (refl, (refl, (refl, (refl, (refl, (refl, tt))))))))))
    (λ n. sym (ap (λ (o : Option ℕ). cons_option (asked_by xs s.who d t o) []) (sent_first m r (recipients m d) n.1.1.1.1.1.1.1.0) ∙ ap (λ (b : Bool). cons_option (if not b then Some (asked_as xs s.who d t r.number) else None) []) n.1.0))

none_asked : (a : Answer) → Lacks room_in a → AreAsked a None
none_asked a lacks = ap (map request_of) lacks

app_asks : (m : Market) (g : History) (s : Sender) (a : App) (t : ℕ) → AreAsked (answer_app m g s a t) (asked_by_app m.instruments s.who a t (answer_app m g s a t).replies)
app_asks m g s (QuoteRequest d) t = request_asks m g s d t
app_asks m g s (Quote d) t = none_asked (answer_quote_of m g s d t (find_room g.facts d.request_id)) (quote_lacks room_in (λ q. refl) m g s d t (find_room g.facts d.request_id))
app_asks m g s (QuoteCancel d) t = ap (map request_of) (withdrawal_lacks room_in no_rooms m g s d t (d.cancel_type == 5) (d.cancel_type == 4))
app_asks m g s (QuoteResponse d) t = ap (map request_of) (response_asks_not m g s d t)
app_asks m g s (NewOrderSingle d) t = ap (map request_of) (order_lacks room_in no_rooms m g s d t)
app_asks m g s (OrderCancelRequest d) t = ap (map request_of) (cancel_lacks room_in no_rooms m g s d (named g s.who d.original_id))
app_asks m g s (OrderCancelReplaceRequest d) t = ap (map request_of) (replace_lacks room_in no_rooms m g s d t (named g s.who d.original_id))
app_asks m g s (NewOrderCross d) t = ap (map request_of) (cross_lacks room_in no_rooms m g s d t)
app_asks m g s (MarketDataRequest d) t = ap (map request_of) (market_data_lacks room_in m g s d)
app_asks m g s (BusinessMessageReject d) t = refl
app_asks m g s (QuoteStatusReport d) t = refl
app_asks m g s (QuoteRequestReject d) t = refl
app_asks m g s (ExecutionReport d) t = refl
app_asks m g s (OrderCancelReject d) t = refl
app_asks m g s (MarketDataSnapshot d) t = refl
app_asks m g s (MarketDataRequestReject d) t = refl
app_asks m g s (Unsupported kind) t = refl

pub requests_agree : RequestsAgree
requests_agree m is (Message taken t) = app_asks m (run m is).history (record { who = taken.from; number = taken.item.number; kind = type_of taken.item.app }) taken.item.app t
requests_agree m is (Tick t) = ap (map request_of) (due_lacks room_in no_rooms m (run m is).history (due (run m is).history.facts t))

-- Rooms that trade.

no_closings : Misses closed_in
no_closings = record { entered = λ e. refl; traded = λ t. refl; removed = λ r. refl; held = λ k. refl; unheld = λ u. refl; withdrawn = λ w. refl }

abbrev AreClosed : Answer → Option ℕ → Type 0
AreClosed a room = closings a.facts ≡ cons_option room []

hit_closes : (m : Market) (g : History) (s : Sender) (r : Room) (q : RoomQuote) (d : ResponseMessage) (t : ℕ) (side : Option Side) → AreClosed (answer_hit m g s r q d t side) (first_traded (answer_hit m g s r q d t side).replies)
hit_closes m g s r q d t None = refl
hit_closes m g s r q d t (Some side) = at (price_for side q)
  where
    at : (p : Option ℤ) → AreClosed (answer_hit_at m g s r q d t side p) (first_traded (answer_hit_at m g s r q d t side p).replies)
    at None = refl
    at (Some p) = refl

response_closes : (m : Market) (g : History) (s : Sender) (d : ResponseMessage) (t : ℕ) → AreClosed (answer_response m g s d t) (first_traded (answer_response m g s d t).replies)
response_closes m g s d t = first_turns (λ (a : Answer). AreClosed a (first_traded a.replies)) (kind_refusals s d) (answer_response_to m g s d t (find_quote g.facts d.quote_id)) (refl, tt) (λ n. to (find_quote g.facts d.quote_id))
  where
    inside : (q : RoomQuote) (r : Option Room) → AreClosed (answer_response_in m g s q d t r) (first_traded (answer_response_in m g s q d t r).replies)
    inside q None = refl
    inside q (Some r) =
        first_turns (λ (a : Answer). AreClosed a (first_traded a.replies)) (response_refusals m g s r q d t) (answer_hit m g s r q d t (taken_side r.side d.side)) (refl, (refl, (refl, (refl, (refl, (refl, tt))))))
        (λ n. hit_closes m g s r q d t (taken_side r.side d.side))

    to : (q : Option RoomQuote) → AreClosed (answer_response_to m g s d t q) (first_traded (answer_response_to m g s d t q).replies)
    to None = refl
    to (Some q) = inside q (room_by_number g.facts q.room)

request_closes_not : (m : Market) (g : History) (s : Sender) (d : RequestMessage) (t : ℕ) → Lacks closed_in (answer_request m g s d t)
request_closes_not m g s d t = first_turns (Lacks closed_in) (request_refusals m g s d t) (request_accepted m (opened m g s d t)) (refl, (refl, (refl, (refl, (refl, (refl, (refl, (refl, (refl, (refl, tt)))))))))) (λ n. refl)

app_closes : (m : Market) (g : History) (s : Sender) (a : App) (t : ℕ) → AreClosed (answer_app m g s a t) (closed_by_app a (answer_app m g s a t).replies)
app_closes m g s (QuoteRequest d) t = request_closes_not m g s d t
app_closes m g s (Quote d) t = quote_lacks closed_in (λ q. refl) m g s d t (find_room g.facts d.request_id)
app_closes m g s (QuoteCancel d) t = withdrawal_lacks closed_in no_closings m g s d t (d.cancel_type == 5) (d.cancel_type == 4)
app_closes m g s (QuoteResponse d) t = response_closes m g s d t
app_closes m g s (NewOrderSingle d) t = order_lacks closed_in no_closings m g s d t
app_closes m g s (OrderCancelRequest d) t = cancel_lacks closed_in no_closings m g s d (named g s.who d.original_id)
app_closes m g s (OrderCancelReplaceRequest d) t = replace_lacks closed_in no_closings m g s d t (named g s.who d.original_id)
app_closes m g s (NewOrderCross d) t = cross_lacks closed_in no_closings m g s d t
app_closes m g s (MarketDataRequest d) t = market_data_lacks closed_in m g s d
app_closes m g s (BusinessMessageReject d) t = refl
app_closes m g s (QuoteStatusReport d) t = refl
app_closes m g s (QuoteRequestReject d) t = refl
app_closes m g s (ExecutionReport d) t = refl
app_closes m g s (OrderCancelReject d) t = refl
app_closes m g s (MarketDataSnapshot d) t = refl
app_closes m g s (MarketDataRequestReject d) t = refl
app_closes m g s (Unsupported kind) t = refl

pub closings_agree : ClosingsAgree
closings_agree m is (Message taken t) = app_closes m (run m is).history (record { who = taken.from; number = taken.item.number; kind = type_of taken.item.app }) taken.item.app t
closings_agree m is (Tick t) = due_lacks closed_in no_closings m (run m is).history (due (run m is).history.facts t)

-- Those kept that are open are open by the rules.

closed_is : (facts : List Fact) (n : ℕ) → list_any (λ c. c == n) (closings facts) ≡ is_closed facts n
closed_is [] n = refl
closed_is (Closed c ∷ fs) n = ap (λ (b : Bool). c.room == n || b) (closed_is fs n)
closed_is (Entered e ∷ fs) n = closed_is fs n
closed_is (Traded t ∷ fs) n = closed_is fs n
closed_is (Removed r ∷ fs) n = closed_is fs n
closed_is (Held k ∷ fs) n = closed_is fs n
closed_is (Unheld u ∷ fs) n = closed_is fs n
closed_is (Asked r ∷ fs) n = closed_is fs n
closed_is (Quoted q ∷ fs) n = closed_is fs n
closed_is (Withdrawn w ∷ fs) n = closed_is fs n

swapped : (a b : Bool) → (a && b) ≡ (b && a)
swapped true true = refl
swapped true false = refl
swapped false true = refl
swapped false false = refl

open_is : (facts : List Fact) (t : ℕ) (r : Room) → is_still_open (closings facts) t (request_of r) ≡ is_open facts t r
open_is facts t r = ap (λ (b : Bool). nat_le t r.end && not b) (closed_is facts r.number) ∙ swapped (nat_le t r.end) (not (is_closed facts r.number))

open_among : (facts : List Fact) (t : ℕ) (rs : List Room) → filter (is_still_open (closings facts) t) (map request_of rs) ≡ map request_of (filter (is_open facts t) rs)
open_among facts t [] = refl
open_among facts t (r ∷ rs) = (λ j. cond (open_is facts t r j) (request_of r ∷ open_among facts t rs j) (open_among facts t rs j)) ∙ by (is_open facts t r)
  where
    by : (b : Bool) → cond b (request_of r ∷ map request_of (filter (is_open facts t) rs)) (map request_of (filter (is_open facts t) rs)) ≡ map request_of (cond b (r ∷ filter (is_open facts t) rs) (filter (is_open facts t) rs))
    by true = refl
    by false = refl

pub still_open_is : (facts : List Fact) (t : Option ℕ) → still_open (closings facts) (requests facts) t ≡ open_requests facts t
still_open_is facts None = refl
still_open_is facts (Some t) = open_among facts t (rooms facts)
