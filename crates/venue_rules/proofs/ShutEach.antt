use Rattle.std.proofs.Common.{refl, ℕ, Bool, true, false, List, [], ◌∷◌, map, filter, bytes_eq, Option, Some, None, ◌==◌}
use Rattle.fix_dictionary.specs.declared.messages.App.{App}
use Rattle.fix_dictionary.specs.declared.messages.App.TheVariants.{QuoteRequest, Quote, QuoteCancel, QuoteResponse, QuoteStatusReport, QuoteRequestReject, NewOrderSingle, OrderCancelRequest, OrderCancelReplaceRequest, NewOrderCross, ExecutionReport, OrderCancelReject, MarketDataRequest, MarketDataSnapshot, MarketDataRequestReject, BusinessMessageReject, Unsupported}
use Rattle.fix_dictionary.specs.declared.messages.NewOrderSingle.{NewOrderSingle as OrderMessage}
use Rattle.fix_dictionary.specs.declared.messages.OrderCancelRequest.{OrderCancelRequest as CancelMessage}
use Rattle.fix_dictionary.specs.declared.messages.OrderCancelReplaceRequest.{OrderCancelReplaceRequest as ReplaceMessage}
use Rattle.fix_dictionary.specs.declared.messages.NewOrderCross.{NewOrderCross as CrossMessage}
use Rattle.fix_dictionary.specs.declared.messages.QuoteRequest.{QuoteRequest as RequestMessage}
use Rattle.fix_dictionary.specs.declared.messages.Quote.{Quote as QuoteMessage}
use Rattle.fix_dictionary.specs.declared.messages.QuoteCancel.{QuoteCancel as WithdrawalMessage}
use Rattle.fix_dictionary.specs.declared.messages.QuoteResponse.{QuoteResponse as ResponseMessage}
use Rattle.fix_dictionary.specs.declared.messages.MarketDataRequest.{MarketDataRequest as MarketDataMessage}
use Rattle.venue_rules.specs.declared.facts.Fact.TheVariants.{Withdrawn}
use Rattle.venue_rules.specs.declared.facts.Entry.{Entry}
use Rattle.venue_rules.specs.declared.facts.OrderFact.{OrderFact}
use Rattle.venue_rules.specs.declared.facts.HeldSide.{HeldSide}
use Rattle.venue_rules.specs.declared.facts.Room.{Room}
use Rattle.venue_rules.specs.declared.facts.RoomQuote.{RoomQuote}
use Rattle.venue_rules.specs.Market.{Market}
use Rattle.venue_rules.specs.Facts.{History}
use Rattle.venue_rules.specs.Book.{Fill, fills, filled}
use Rattle.venue_rules.specs.Entering.{entering, entry_facts}
use Rattle.venue_rules.specs.Answer.{Answer, Sender}
use Rattle.fix_dictionary.specs.declared.values.Side.{Side}
use Rattle.std.proofs.Common.{ℤ}
use Rattle.venue_rules.specs.Delay.{due}
use Rattle.venue_rules.specs.Orders.{accepted, answer_order, order_asked, order_refusals}
use Rattle.venue_rules.specs.Changes.{Named, IsResting, IsHeld, IsUnknown, named, standing, answer_cancel_of, answer_replace_of, cancel_refusals, held_replace_refusals, replace_refusals, replace_refused, cancelled, held_cancelled, replaced, replacement}
use Rattle.venue_rules.specs.declared.refusals.ChangeRefusal.TheVariants.{HeldSide as IsHeldSide}
use Rattle.venue_rules.specs.Crosses.{answer_cross, cross_accepted, cross_refusals, side_order, first_side, due_refusals, answer_due}
use Rattle.venue_rules.specs.Requests.{answer_request, request_accepted, request_refusals, opened}
use Rattle.venue_rules.specs.Quotes.{answer_quote_of, quote_refusals, quote_accepted}
use Rattle.venue_rules.specs.Withdrawals.{answer_withdrawal_of, withdraw_one, withdrawn_or, not_found}
use Rattle.venue_rules.specs.Responses.{answer_response, answer_response_to, answer_response_in, answer_hit, answer_hit_at, response_refusals, kind_refusals, taken_side, price_for}
use Rattle.venue_rules.specs.MarketData.{answer_market_data, market_data_refusals, market_data}
use Rattle.venue_rules.specs.Rooms.{find_room, find_quote, live_quotes, room_by_number}
use Rattle.venue_rules.specs.Answers.{answer_app}
use Rattle.venue_rules.specs.Run.{Input, Message, Tick, answer_input, answer_due_of}
use Rattle.venue_rules.proofs.Shut.{Shut, first_of-Shut, Shut-append}

-- After an answer's trade in a room, its next fact closes the room.

entry-Shut : (e : Entry) (fs : List Fill) → Shut (entry_facts e fs)
entry-Shut e [] = tt
entry-Shut e (f ∷ fs) = (tt, entry-Shut e fs)

accepted-Shut : (m : Market) (h : History) (o : OrderFact) (t : ℕ) → Shut (accepted m h o t).facts
accepted-Shut m h o t = entry-Shut (entering h.facts o 0 t) (fills h.facts o)

order-Shut : (m : Market) (h : History) (s : Sender) (d : OrderMessage) (t : ℕ) → Shut (answer_order m h s d t).facts
order-Shut m h s d t = first_of-Shut (order_refusals m h s d t) (accepted m h (order_asked m s.who d) t) (tt, (tt, (tt, (tt, (tt, (tt, (tt, (tt, tt)))))))) (accepted-Shut m h (order_asked m s.who d) t)

cancel_of-Shut : (m : Market) (h : History) (s : Sender) (d : CancelMessage) (n : Named) → Shut (answer_cancel_of m h s d n).facts
cancel_of-Shut m h s d IsUnknown = tt
cancel_of-Shut m h s d (IsHeld k) = first_of-Shut (cancel_refusals h s d None) (held_cancelled m h s d k) (tt, tt) tt
cancel_of-Shut m h s d (IsResting r) = first_of-Shut (cancel_refusals h s d (Some (standing r))) (cancelled m h s d r) (tt, tt) tt

replace_of-Shut : (m : Market) (h : History) (s : Sender) (d : ReplaceMessage) (t : ℕ) (n : Named) → Shut (answer_replace_of m h s d t n).facts
replace_of-Shut m h s d t IsUnknown = tt
replace_of-Shut m h s d t (IsHeld k) = first_of-Shut (held_replace_refusals h s d) (replace_refused s d None IsHeldSide) (tt, tt) tt
replace_of-Shut m h s d t (IsResting r) = first_of-Shut (replace_refusals m h s d r t) (replaced m h s d r t) (tt, (tt, (tt, (tt, (tt, (tt, (tt, tt))))))) (entry-Shut (entering h.facts (replacement d r) (filled r) t) (fills h.facts (replacement d r)))

cross-Shut : (m : Market) (h : History) (s : Sender) (d : CrossMessage) (t : ℕ) → Shut (answer_cross m h s d t).facts
cross-Shut m h s d t = first_of-Shut (cross_refusals m h s d t) (cross_accepted m h s d t) (tt, (tt, (tt, (tt, (tt, (tt, (tt, (tt, (tt, (tt, (tt, tt))))))))))) (Shut-append (accepted m h (side_order m s.who d (first_side d)) t).facts _ (accepted-Shut m h (side_order m s.who d (first_side d)) t) tt)

due-Shut : (m : Market) (h : History) (k : HeldSide) → Shut (answer_due m h k).facts
due-Shut m h k = first_of-Shut (due_refusals m h k) (accepted m h k.order k.due) (tt, (tt, tt)) (accepted-Shut m h k.order k.due)

request-Shut : (m : Market) (h : History) (s : Sender) (d : RequestMessage) (t : ℕ) → Shut (answer_request m h s d t).facts
request-Shut m h s d t = first_of-Shut (request_refusals m h s d t) (request_accepted m (opened m h s d t)) (tt, (tt, (tt, (tt, (tt, (tt, (tt, (tt, (tt, (tt, tt)))))))))) tt

quote_of-Shut : (m : Market) (h : History) (s : Sender) (d : QuoteMessage) (t : ℕ) (r : Option Room) → Shut (answer_quote_of m h s d t r).facts
quote_of-Shut m h s d t None = tt
quote_of-Shut m h s d t (Some r) = first_of-Shut (quote_refusals m h s r d t) (quote_accepted m h s r d) (tt, (tt, (tt, (tt, (tt, (tt, (tt, (tt, tt)))))))) tt

withdrawn-Shut : (qs : List RoomQuote) → Shut (map (λ (q : RoomQuote). Withdrawn (record { quote = q.number })) qs)
withdrawn-Shut [] = tt
withdrawn-Shut (q ∷ qs) = withdrawn-Shut qs

withdrawn_or-Shut : (m : Market) (h : History) (x : Answer) (qs : List RoomQuote) → Shut x.facts → Shut (withdrawn_or m h x qs).facts
withdrawn_or-Shut m h x [] k = k
withdrawn_or-Shut m h x (q ∷ qs) k = withdrawn-Shut (q ∷ qs)

withdraw_one-Shut : (m : Market) (h : History) (s : Sender) (t : ℕ) (id : Option (List ℕ)) → Shut (withdraw_one m h s t id).facts
withdraw_one-Shut m h s t None = tt
withdraw_one-Shut m h s t (Some id) = withdrawn_or-Shut m h (not_found s (Some id)) (filter (λ (q : RoomQuote). bytes_eq q.id id) (live_quotes h.facts s.who t)) tt

withdrawal_of-Shut : (m : Market) (h : History) (s : Sender) (d : WithdrawalMessage) (t : ℕ) (one all : Bool) → Shut (answer_withdrawal_of m h s d t one all).facts
withdrawal_of-Shut m h s d t true all = withdraw_one-Shut m h s t d.quote_id
withdrawal_of-Shut m h s d t false true = withdrawn_or-Shut m h (not_found s None) (live_quotes h.facts s.who t) tt
withdrawal_of-Shut m h s d t false false = tt

hit_at-Shut : (m : Market) (h : History) (s : Sender) (r : Room) (q : RoomQuote) (d : ResponseMessage) (t : ℕ) (side : Side) (p : Option ℤ) → Shut (answer_hit_at m h s r q d t side p).facts
hit_at-Shut m h s r q d t side None = tt
hit_at-Shut m h s r q d t side (Some p) = (([], refl), tt)

hit-Shut : (m : Market) (h : History) (s : Sender) (r : Room) (q : RoomQuote) (d : ResponseMessage) (t : ℕ) (side : Option Side) → Shut (answer_hit m h s r q d t side).facts
hit-Shut m h s r q d t None = tt
hit-Shut m h s r q d t (Some side) = hit_at-Shut m h s r q d t side (price_for side q)

response_in-Shut : (m : Market) (h : History) (s : Sender) (q : RoomQuote) (d : ResponseMessage) (t : ℕ) (r : Option Room) → Shut (answer_response_in m h s q d t r).facts
response_in-Shut m h s q d t None = tt
response_in-Shut m h s q d t (Some r) = first_of-Shut (response_refusals m h s r q d t) (answer_hit m h s r q d t (taken_side r.side d.side)) (tt, (tt, (tt, (tt, (tt, (tt, tt)))))) (hit-Shut m h s r q d t (taken_side r.side d.side))

response_to-Shut : (m : Market) (h : History) (s : Sender) (d : ResponseMessage) (t : ℕ) (q : Option RoomQuote) → Shut (answer_response_to m h s d t q).facts
response_to-Shut m h s d t None = tt
response_to-Shut m h s d t (Some q) = response_in-Shut m h s q d t (room_by_number h.facts q.room)

response-Shut : (m : Market) (h : History) (s : Sender) (d : ResponseMessage) (t : ℕ) → Shut (answer_response m h s d t).facts
response-Shut m h s d t = first_of-Shut (kind_refusals s d) (answer_response_to m h s d t (find_quote h.facts d.quote_id)) (tt, tt) (response_to-Shut m h s d t (find_quote h.facts d.quote_id))

market_data-Shut : (m : Market) (h : History) (s : Sender) (d : MarketDataMessage) → Shut (answer_market_data m h s d).facts
market_data-Shut m h s d = first_of-Shut (market_data_refusals m s d) (market_data m h s d) (tt, (tt, (tt, tt))) tt

app-Shut : (m : Market) (h : History) (s : Sender) (a : App) (t : ℕ) → Shut (answer_app m h s a t).facts
app-Shut m h s (QuoteRequest d) t = request-Shut m h s d t
app-Shut m h s (Quote d) t = quote_of-Shut m h s d t (find_room h.facts d.request_id)
app-Shut m h s (QuoteCancel d) t = withdrawal_of-Shut m h s d t (d.cancel_type == 5) (d.cancel_type == 4)
app-Shut m h s (QuoteResponse d) t = response-Shut m h s d t
app-Shut m h s (NewOrderSingle d) t = order-Shut m h s d t
app-Shut m h s (OrderCancelRequest d) t = cancel_of-Shut m h s d (named h s.who d.original_id)
app-Shut m h s (OrderCancelReplaceRequest d) t = replace_of-Shut m h s d t (named h s.who d.original_id)
app-Shut m h s (NewOrderCross d) t = cross-Shut m h s d t
app-Shut m h s (MarketDataRequest d) t = market_data-Shut m h s d
app-Shut m h s (BusinessMessageReject d) t = tt
app-Shut m h s (QuoteStatusReport d) t = tt
app-Shut m h s (QuoteRequestReject d) t = tt
app-Shut m h s (ExecutionReport d) t = tt
app-Shut m h s (OrderCancelReject d) t = tt
app-Shut m h s (MarketDataSnapshot d) t = tt
app-Shut m h s (MarketDataRequestReject d) t = tt
app-Shut m h s (Unsupported kind) t = tt

due_of-Shut : (m : Market) (h : History) (k : Option HeldSide) → Shut (answer_due_of m h k).facts
due_of-Shut m h None = tt
due_of-Shut m h (Some k) = due-Shut m h k

pub input-Shut : (m : Market) (h : History) (i : Input) → Shut (answer_input m h i).facts
input-Shut m h (Message taken t) = app-Shut m h _ taken.item.app t
input-Shut m h (Tick t) = due_of-Shut m h (due h.facts t)
