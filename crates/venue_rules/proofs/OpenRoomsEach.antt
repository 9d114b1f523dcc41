use Rattle.std.proofs.Common.{◌≡◌, refl, inl, inr, ℕ, ◌+◌, ◌≤◌, Bool, nat_le, length, arith, true, false, List, [], ◌∷◌, filter, bytes_eq, Option, Some, None, ◌==◌}
use Rattle.fix_dictionary.specs.declared.messages.App.{App}
use Rattle.fix_dictionary.specs.declared.messages.App.TheVariants.{QuoteRequest, Quote, QuoteCancel, QuoteResponse, QuoteStatusReport, QuoteRequestReject, NewOrderSingle, OrderCancelRequest, OrderCancelReplaceRequest, NewOrderCross, ExecutionReport, OrderCancelReject, MarketDataRequest, MarketDataSnapshot, MarketDataRequestReject, BusinessMessageReject, Unsupported}
use Rattle.fix_dictionary.specs.declared.messages.NewOrderSingle.{NewOrderSingle as OrderMessage}
use Rattle.fix_dictionary.specs.declared.messages.OrderCancelRequest.{OrderCancelRequest as CancelMessage}
use Rattle.fix_dictionary.specs.declared.messages.OrderCancelReplaceRequest.{OrderCancelReplaceRequest as ReplaceMessage}
use Rattle.fix_dictionary.specs.declared.messages.NewOrderCross.{NewOrderCross as CrossMessage}
use Rattle.fix_dictionary.specs.declared.messages.QuoteRequest.{QuoteRequest as RequestMessage}
use Rattle.fix_dictionary.specs.declared.messages.Quote.{Quote as QuoteMessage}
use Rattle.fix_dictionary.specs.declared.messages.QuoteCancel.{QuoteCancel as WithdrawalMessage}
use Rattle.fix_dictionary.specs.declared.messages.QuoteResponse.{QuoteResponse as ResponseMessage}
use Rattle.fix_dictionary.specs.declared.messages.MarketDataRequest.{MarketDataRequest as MarketDataMessage}
use Rattle.venue_rules.specs.declared.facts.Fact.TheVariants.{Traded, Withdrawn}
use Rattle.venue_rules.specs.declared.facts.Entry.{Entry}
use Rattle.venue_rules.specs.declared.facts.OrderFact.{OrderFact}
use Rattle.venue_rules.specs.declared.facts.HeldSide.{HeldSide}
use Rattle.venue_rules.specs.declared.facts.Room.{Room}
use Rattle.venue_rules.specs.declared.facts.RoomQuote.{RoomQuote}
use Rattle.venue_rules.specs.Market.{Market}
use Rattle.venue_rules.specs.Facts.{History, no_history}
use Rattle.venue_rules.specs.Book.{Fill, fills, filled}
use Rattle.venue_rules.specs.Entering.{entering, entry_facts, trade_of}
use Rattle.venue_rules.specs.Answer.{Answer, Sender}
use Rattle.fix_dictionary.specs.declared.values.Side.{Side}
use Rattle.std.proofs.Common.{ℤ}
use Rattle.std.proofs.lemmas.Bool.Decides.{nat_tests}
use Rattle.venue_rules.specs.Delay.{due}
use Rattle.venue_rules.specs.Orders.{accepted, answer_order, order_asked, order_refusals}
use Rattle.venue_rules.specs.Changes.{Named, IsResting, IsHeld, IsUnknown, named, standing, answer_cancel_of, answer_replace_of, cancel_refusals, held_replace_refusals, replace_refusals, replace_refused, cancelled, held_cancelled, replaced, replacement}
use Rattle.venue_rules.specs.declared.refusals.ChangeRefusal.TheVariants.{HeldSide as IsHeldSide}
use Rattle.venue_rules.specs.Crosses.{answer_cross, cross_accepted, cross_refusals, side_order, first_side, due_refusals, answer_due}
use Rattle.venue_rules.specs.Requests.{answer_request, open_room, request_accepted, request_refusals, opened}
use Rattle.venue_rules.specs.Quotes.{answer_quote_of, quote_refusals, quote_accepted}
use Rattle.venue_rules.specs.Withdrawals.{answer_withdrawal_of, withdraw_one, withdrawn_or, not_found}
use Rattle.venue_rules.specs.Responses.{answer_response, answer_response_to, answer_response_in, answer_hit, answer_hit_at, response_refusals, kind_refusals, taken_side, price_for}
use Rattle.venue_rules.specs.MarketData.{answer_market_data, market_data_refusals, market_data}
use Rattle.venue_rules.specs.Rooms.{open_rooms, find_room, find_quote, live_quotes, room_by_number}
use Rattle.venue_rules.specs.Answers.{answer_app}
use Rattle.venue_rules.specs.Run.{Input, Message, Tick, after, answer_input, answer_due_of, run_from}
use Rattle.venue_rules.specs.Limits.{IsRising, OpenRoomsAreFew, moment_of}
use Rattle.venue_rules.proofs.Together.{NoRoom, NoRoom-append, NoRoom-map, first_of-NoRoom}
use Rattle.venue_rules.proofs.OpenRooms.{OpensFew, few_after, first_of-each}

-- Only a request opens a room; so at most 1,000 rooms are open, over every list of inputs whose moments do not fall.

entry-NoRoom : (e : Entry) (fs : List Fill) → NoRoom (entry_facts e fs)
entry-NoRoom e fs = (refl, NoRoom-map (λ f. Traded (trade_of e f)) (λ f. refl) fs)

accepted-NoRoom : (m : Market) (h : History) (o : OrderFact) (t : ℕ) → NoRoom (accepted m h o t).facts
accepted-NoRoom m h o t = entry-NoRoom (entering h.facts o 0 t) (fills h.facts o)

order-NoRoom : (m : Market) (h : History) (s : Sender) (d : OrderMessage) (t : ℕ) → NoRoom (answer_order m h s d t).facts
order-NoRoom m h s d t = first_of-NoRoom (order_refusals m h s d t) (accepted m h (order_asked m s.who d) t) (tt, (tt, (tt, (tt, (tt, (tt, (tt, (tt, tt)))))))) (accepted-NoRoom m h (order_asked m s.who d) t)

cancel_of-NoRoom : (m : Market) (h : History) (s : Sender) (d : CancelMessage) (n : Named) → NoRoom (answer_cancel_of m h s d n).facts
cancel_of-NoRoom m h s d IsUnknown = tt
cancel_of-NoRoom m h s d (IsHeld k) = first_of-NoRoom (cancel_refusals h s d None) (held_cancelled m h s d k) (tt, tt) (refl, tt)
cancel_of-NoRoom m h s d (IsResting r) = first_of-NoRoom (cancel_refusals h s d (Some (standing r))) (cancelled m h s d r) (tt, tt) (refl, tt)

replace_of-NoRoom : (m : Market) (h : History) (s : Sender) (d : ReplaceMessage) (t : ℕ) (n : Named) → NoRoom (answer_replace_of m h s d t n).facts
replace_of-NoRoom m h s d t IsUnknown = tt
replace_of-NoRoom m h s d t (IsHeld k) = first_of-NoRoom (held_replace_refusals h s d) (replace_refused s d None IsHeldSide) (tt, tt) tt
replace_of-NoRoom m h s d t (IsResting r) = first_of-NoRoom (replace_refusals m h s d r t) (replaced m h s d r t) (tt, (tt, (tt, (tt, (tt, (tt, (tt, tt))))))) (refl, entry-NoRoom (entering h.facts (replacement d r) (filled r) t) (fills h.facts (replacement d r)))

cross-NoRoom : (m : Market) (h : History) (s : Sender) (d : CrossMessage) (t : ℕ) → NoRoom (answer_cross m h s d t).facts
cross-NoRoom m h s d t = first_of-NoRoom (cross_refusals m h s d t) (cross_accepted m h s d t) (tt, (tt, (tt, (tt, (tt, (tt, (tt, (tt, (tt, (tt, (tt, tt))))))))))) (NoRoom-append (accepted m h (side_order m s.who d (first_side d)) t).facts _ (accepted-NoRoom m h (side_order m s.who d (first_side d)) t) (refl, tt))

due-NoRoom : (m : Market) (h : History) (k : HeldSide) → NoRoom (answer_due m h k).facts
due-NoRoom m h k = (refl, first_of-NoRoom (due_refusals m h k) (accepted m h k.order k.due) (tt, (tt, tt)) (accepted-NoRoom m h k.order k.due))

below : (n : ℕ) → nat_le open_room n ≡ false → n + 1 ≤ open_room
below n h = grind (arith, nat_tests)

request-OpensFew : (m : Market) (h : History) (s : Sender) (d : RequestMessage) (t : ℕ) → OpensFew h.facts t (answer_request m h s d t)
request-OpensFew m h s d t =
    first_of-each (OpensFew h.facts t) (request_refusals m h s d t) (request_accepted m (opened m h s d t)) (inl tt, (inl tt, (inl tt, (inl tt, (inl tt, (inl tt, (inl tt, (inl tt, (inl tt, (inl tt, tt))))))))))
    (λ n. inr (below (length (open_rooms h.facts t)) n.1.1.1.1.1.1.1.1.1.0))

quote_of-NoRoom : (m : Market) (h : History) (s : Sender) (d : QuoteMessage) (t : ℕ) (r : Option Room) → NoRoom (answer_quote_of m h s d t r).facts
quote_of-NoRoom m h s d t None = tt
quote_of-NoRoom m h s d t (Some r) = first_of-NoRoom (quote_refusals m h s r d t) (quote_accepted m h s r d) (tt, (tt, (tt, (tt, (tt, (tt, (tt, (tt, tt)))))))) (refl, tt)

withdrawn_or-NoRoom : (m : Market) (h : History) (x : Answer) (qs : List RoomQuote) → NoRoom x.facts → NoRoom (withdrawn_or m h x qs).facts
withdrawn_or-NoRoom m h x [] k = k
withdrawn_or-NoRoom m h x (q ∷ qs) k = (refl, NoRoom-map (λ (q : RoomQuote). Withdrawn (record { quote = q.number })) (λ q. refl) qs)

withdraw_one-NoRoom : (m : Market) (h : History) (s : Sender) (t : ℕ) (id : Option (List ℕ)) → NoRoom (withdraw_one m h s t id).facts
withdraw_one-NoRoom m h s t None = tt
withdraw_one-NoRoom m h s t (Some id) = withdrawn_or-NoRoom m h (not_found s (Some id)) (filter (λ (q : RoomQuote). bytes_eq q.id id) (live_quotes h.facts s.who t)) tt

withdrawal_of-NoRoom : (m : Market) (h : History) (s : Sender) (d : WithdrawalMessage) (t : ℕ) (one all : Bool) → NoRoom (answer_withdrawal_of m h s d t one all).facts
withdrawal_of-NoRoom m h s d t true all = withdraw_one-NoRoom m h s t d.quote_id
withdrawal_of-NoRoom m h s d t false true = withdrawn_or-NoRoom m h (not_found s None) (live_quotes h.facts s.who t) tt
withdrawal_of-NoRoom m h s d t false false = tt

hit_at-NoRoom : (m : Market) (h : History) (s : Sender) (r : Room) (q : RoomQuote) (d : ResponseMessage) (t : ℕ) (side : Side) (p : Option ℤ) → NoRoom (answer_hit_at m h s r q d t side p).facts
hit_at-NoRoom m h s r q d t side None = tt
hit_at-NoRoom m h s r q d t side (Some p) = (refl, (refl, tt))

hit-NoRoom : (m : Market) (h : History) (s : Sender) (r : Room) (q : RoomQuote) (d : ResponseMessage) (t : ℕ) (side : Option Side) → NoRoom (answer_hit m h s r q d t side).facts
hit-NoRoom m h s r q d t None = tt
hit-NoRoom m h s r q d t (Some side) = hit_at-NoRoom m h s r q d t side (price_for side q)

response_in-NoRoom : (m : Market) (h : History) (s : Sender) (q : RoomQuote) (d : ResponseMessage) (t : ℕ) (r : Option Room) → NoRoom (answer_response_in m h s q d t r).facts
response_in-NoRoom m h s q d t None = tt
response_in-NoRoom m h s q d t (Some r) = first_of-NoRoom (response_refusals m h s r q d t) (answer_hit m h s r q d t (taken_side r.side d.side)) (tt, (tt, (tt, (tt, ((refl, tt), (tt, tt)))))) (hit-NoRoom m h s r q d t (taken_side r.side d.side))

response_to-NoRoom : (m : Market) (h : History) (s : Sender) (d : ResponseMessage) (t : ℕ) (q : Option RoomQuote) → NoRoom (answer_response_to m h s d t q).facts
response_to-NoRoom m h s d t None = tt
response_to-NoRoom m h s d t (Some q) = response_in-NoRoom m h s q d t (room_by_number h.facts q.room)

response-NoRoom : (m : Market) (h : History) (s : Sender) (d : ResponseMessage) (t : ℕ) → NoRoom (answer_response m h s d t).facts
response-NoRoom m h s d t = first_of-NoRoom (kind_refusals s d) (answer_response_to m h s d t (find_quote h.facts d.quote_id)) (tt, tt) (response_to-NoRoom m h s d t (find_quote h.facts d.quote_id))

market_data-NoRoom : (m : Market) (h : History) (s : Sender) (d : MarketDataMessage) → NoRoom (answer_market_data m h s d).facts
market_data-NoRoom m h s d = first_of-NoRoom (market_data_refusals m s d) (market_data m h s d) (tt, (tt, (tt, tt))) tt

app-OpensFew : (m : Market) (h : History) (s : Sender) (a : App) (t : ℕ) → OpensFew h.facts t (answer_app m h s a t)
app-OpensFew m h s (QuoteRequest d) t = request-OpensFew m h s d t
app-OpensFew m h s (Quote d) t = inl (quote_of-NoRoom m h s d t (find_room h.facts d.request_id))
app-OpensFew m h s (QuoteCancel d) t = inl (withdrawal_of-NoRoom m h s d t (d.cancel_type == 5) (d.cancel_type == 4))
app-OpensFew m h s (QuoteResponse d) t = inl (response-NoRoom m h s d t)
app-OpensFew m h s (NewOrderSingle d) t = inl (order-NoRoom m h s d t)
app-OpensFew m h s (OrderCancelRequest d) t = inl (cancel_of-NoRoom m h s d (named h s.who d.original_id))
app-OpensFew m h s (OrderCancelReplaceRequest d) t = inl (replace_of-NoRoom m h s d t (named h s.who d.original_id))
app-OpensFew m h s (NewOrderCross d) t = inl (cross-NoRoom m h s d t)
app-OpensFew m h s (MarketDataRequest d) t = inl (market_data-NoRoom m h s d)
app-OpensFew m h s (BusinessMessageReject d) t = inl tt
app-OpensFew m h s (QuoteStatusReport d) t = inl tt
app-OpensFew m h s (QuoteRequestReject d) t = inl tt
app-OpensFew m h s (ExecutionReport d) t = inl tt
app-OpensFew m h s (OrderCancelReject d) t = inl tt
app-OpensFew m h s (MarketDataSnapshot d) t = inl tt
app-OpensFew m h s (MarketDataRequestReject d) t = inl tt
app-OpensFew m h s (Unsupported kind) t = inl tt

due_of-NoRoom : (m : Market) (h : History) (k : Option HeldSide) → NoRoom (answer_due_of m h k).facts
due_of-NoRoom m h None = tt
due_of-NoRoom m h (Some k) = due-NoRoom m h k

input-OpensFew : (m : Market) (h : History) (i : Input) → OpensFew h.facts (moment_of i) (answer_input m h i)
input-OpensFew m h (Message taken t) = app-OpensFew m h _ taken.item.app t
input-OpensFew m h (Tick t) = inl (due_of-NoRoom m h (due h.facts t))

few_from : (m : Market) (h : History) (from t : ℕ) (is : List Input) → ((u : ℕ) → from ≤ u → length (open_rooms h.facts u) ≤ open_room) → IsRising from is t → length (open_rooms (run_from m h is).history.facts t) ≤ open_room
few_from m h from t [] few rising = few t rising
few_from m h from t (i ∷ is) few rising = few_from m (after h (answer_input m h i)) (moment_of i) t is (λ v le. few_after h.facts (answer_input m h i) (moment_of i) v (few (moment_of i) rising.0) (input-OpensFew m h i) le) rising.1

pub open_rooms_few : (m : Market) (is : List Input) → OpenRoomsAreFew m is
open_rooms_few m is t rising = few_from m no_history 0 t is (λ u le. omega arith) rising
