use Rattle.std.proofs.Common.{◌≡◌, refl, sym, ap, ◌∙◌, ℕ, Bool, true, false, List, [], ◌∷◌, ◌++◌, map, flat_map, Option, Some, None, ◌==◌, append-nil}
use Rattle.std.proofs.lemmas.List.Elements.{filter_map-append}
use Rattle.fix_dictionary.specs.declared.messages.App.{App}
use Rattle.fix_dictionary.specs.declared.messages.App.TheVariants.{QuoteRequest, Quote, QuoteCancel, QuoteResponse, QuoteStatusReport, QuoteRequestReject, NewOrderSingle, OrderCancelRequest, OrderCancelReplaceRequest, NewOrderCross, ExecutionReport, OrderCancelReject, MarketDataRequest, MarketDataSnapshot, MarketDataRequestReject, BusinessMessageReject, Unsupported}
use Rattle.fix_dictionary.specs.declared.messages.NewOrderSingle.{NewOrderSingle as OrderMessage}
use Rattle.fix_dictionary.specs.declared.messages.OrderCancelRequest.{OrderCancelRequest as CancelMessage}
use Rattle.fix_dictionary.specs.declared.messages.OrderCancelReplaceRequest.{OrderCancelReplaceRequest as ReplaceMessage}
use Rattle.fix_dictionary.specs.declared.messages.NewOrderCross.{NewOrderCross as CrossMessage}
use Rattle.fix_dictionary.specs.declared.messages.QuoteRequest.{QuoteRequest as RequestMessage}
use Rattle.fix_dictionary.specs.declared.messages.Quote.{Quote as QuoteMessage}
use Rattle.fix_dictionary.specs.declared.messages.QuoteCancel.{QuoteCancel as WithdrawalMessage}
use Rattle.fix_dictionary.specs.declared.messages.QuoteResponse.{QuoteResponse as ResponseMessage}
use Rattle.fix_dictionary.specs.declared.messages.MarketDataRequest.{MarketDataRequest as MarketDataMessage}
use Rattle.venue_rules.specs.declared.facts.Fact.TheVariants.{Removed, Withdrawn as WithdrawnFact}
use Rattle.venue_rules.specs.declared.facts.OrderFact.{OrderFact}
use Rattle.venue_rules.specs.declared.facts.HeldSide.{HeldSide}
use Rattle.venue_rules.specs.declared.facts.Room.{Room}
use Rattle.venue_rules.specs.declared.facts.RoomQuote.{RoomQuote}
use Rattle.venue_rules.specs.declared.replies.Reply.{Reply}
use Rattle.venue_rules.specs.declared.replies.QuoteState.TheVariants.{Accepted, Withdrawn}
use Rattle.instruments.specs.Listing.{symbol_of}
use Rattle.venue_rules.specs.Market.{Market}
use Rattle.venue_rules.specs.Facts.{History, next_trade, trades, trade_in}
use Rattle.venue_rules.specs.Book.{Resting, filled}
use Rattle.venue_rules.specs.Entering.{entering, order_report}
use Rattle.venue_rules.specs.Answer.{Answer, Sender, reply}
use Rattle.fix_dictionary.specs.declared.values.Side.{Side}
use Rattle.fix_dictionary.specs.declared.values.Side.TheVariants.{Buy, Sell}
use Rattle.venue_rules.specs.declared.replies.ReplyBody.TheVariants.{OrderEntered, OrderReplaced}
use Rattle.std.proofs.Common.{ℤ}
use Rattle.venue_rules.specs.Delay.{due}
use Rattle.venue_rules.specs.Orders.{accepted, answer_order, order_asked, order_refusals}
use Rattle.venue_rules.specs.Changes.{Named, IsResting, IsHeld, IsUnknown, named, standing, answer_cancel_of, answer_replace_of, cancel_refusals, held_replace_refusals, replace_refusals, replace_refused, cancelled, held_cancelled, replaced, replacement}
use Rattle.venue_rules.specs.declared.refusals.ChangeRefusal.TheVariants.{HeldSide as IsHeldSide}
use Rattle.venue_rules.specs.Crosses.{answer_cross, cross_accepted, cross_refusals, side_order, first_side, due_refusals, answer_due}
use Rattle.venue_rules.specs.Requests.{answer_request, request_accepted, request_refusals, request_sent, opened}
use Rattle.venue_rules.specs.Quotes.{answer_quote_of, quote_refusals, quote_accepted, quote_sent, quote_status, quoted, shown_with}
use Rattle.venue_rules.specs.Withdrawals.{answer_withdrawal_of, withdraw_one, withdrawn_or, withdrawn_all, not_found, both_emitted, to_maker, to_requester}
use Rattle.venue_rules.specs.Responses.{answer_response, answer_response_to, answer_response_in, answer_hit, answer_hit_at, response_refusals, kind_refusals, room_traded, taken_side, price_for}
use Rattle.venue_rules.specs.MarketData.{answer_market_data, market_data_refusals, market_data}
use Rattle.venue_rules.specs.Rooms.{find_room, find_quote, first_quote, room_by_number}
use Rattle.venue_rules.specs.Answers.{answer_app}
use Rattle.venue_rules.specs.Reported.{trades_emitted}
use Rattle.venue_rules.specs.Run.{Input, Message, Tick, answer_input, answer_due_of}
use Rattle.venue_rules.proofs.Reports.{Reports, IsQuiet, quiet-Reports, first_of-Reports, entered-Reports, emits}

-- The reports and trades of the answer to each message, and to a tick.

-- orders that enter

accepted-Reports : (m : Market) (h : History) (o : OrderFact) (t : ℕ) → Reports m h (accepted m h o t)
accepted-Reports m h o t = entered-Reports m h (entering h.facts o 0 t) (λ n. reply o.who (OrderEntered (order_report m (entering h.facts o 0 t) o.quantity 0 n))) (λ k. (refl, refl, λ side. refl)) (λ side. refl) [] refl

order-Reports : (m : Market) (h : History) (s : Sender) (d : OrderMessage) (t : ℕ) → Reports m h (answer_order m h s d t)
order-Reports m h s d t = first_of-Reports m h (order_refusals m h s d t) (accepted m h (order_asked m s.who d) t) ((refl, λ side. refl), ((refl, λ side. refl), ((refl, λ side. refl), ((refl, λ side. refl), ((refl, λ side. refl), ((refl, λ side. refl), ((refl, λ side. refl), ((refl, λ side. refl), tt)))))))) (accepted-Reports m h (order_asked m s.who d) t)

-- cancels and replacements

cancel_of-Reports : (m : Market) (h : History) (s : Sender) (d : CancelMessage) (n : Named) → Reports m h (answer_cancel_of m h s d n)
cancel_of-Reports m h s d IsUnknown = (refl, λ side. refl)
cancel_of-Reports m h s d (IsHeld k) = first_of-Reports m h (cancel_refusals h s d None) (held_cancelled m h s d k) ((refl, λ side. refl), tt) (refl, λ side. refl)
cancel_of-Reports m h s d (IsResting r) = first_of-Reports m h (cancel_refusals h s d (Some (standing r))) (cancelled m h s d r) ((refl, λ side. refl), tt) (refl, λ side. refl)

replaced-Reports : (m : Market) (h : History) (s : Sender) (d : ReplaceMessage) (r : Resting) (t : ℕ) → Reports m h (replaced m h s d r t)
replaced-Reports m h s d r t = entered-Reports m h (entering h.facts (replacement d r) (filled r) t) (λ n. reply s.who (OrderReplaced (record { order = order_report m (entering h.facts (replacement d r) (filled r) t) (replacement d r).quantity (filled r) n; original_id = d.original_id }))) (λ k. (refl, refl, λ side. refl)) (λ side. refl) (Removed (record { order = r.entry.number; who = s.who; id = d.order_id }) ∷ []) refl

replace_of-Reports : (m : Market) (h : History) (s : Sender) (d : ReplaceMessage) (t : ℕ) (n : Named) → Reports m h (answer_replace_of m h s d t n)
replace_of-Reports m h s d t IsUnknown = (refl, λ side. refl)
replace_of-Reports m h s d t (IsHeld k) = first_of-Reports m h (held_replace_refusals h s d) (replace_refused s d None IsHeldSide) ((refl, λ side. refl), tt) (refl, λ side. refl)
replace_of-Reports m h s d t (IsResting r) = first_of-Reports m h (replace_refusals m h s d r t) (replaced m h s d r t) ((refl, λ side. refl), ((refl, λ side. refl), ((refl, λ side. refl), ((refl, λ side. refl), ((refl, λ side. refl), ((refl, λ side. refl), ((refl, λ side. refl), tt))))))) (replaced-Reports m h s d r t)

-- crosses, and held sides as they enter

cross_accepted-Reports : (m : Market) (h : History) (s : Sender) (d : CrossMessage) (t : ℕ) → Reports m h (cross_accepted m h s d t)
cross_accepted-Reports m h s d t =
    let first = accepted m h (side_order m s.who d (first_side d)) t in
    let k : Reports m h first = accepted-Reports m h (side_order m s.who d (first_side d)) t in
    (k.0, λ side. k.1 side ∙ sym (ap (emits m side (next_trade h.facts)) (filter_map-append trade_in first.facts _ ∙ append-nil (trades first.facts))))

cross-Reports : (m : Market) (h : History) (s : Sender) (d : CrossMessage) (t : ℕ) → Reports m h (answer_cross m h s d t)
cross-Reports m h s d t = first_of-Reports m h (cross_refusals m h s d t) (cross_accepted m h s d t) ((refl, λ side. refl), ((refl, λ side. refl), ((refl, λ side. refl), ((refl, λ side. refl), ((refl, λ side. refl), ((refl, λ side. refl), ((refl, λ side. refl), ((refl, λ side. refl), ((refl, λ side. refl), ((refl, λ side. refl), ((refl, λ side. refl), tt))))))))))) (cross_accepted-Reports m h s d t)

due-Reports : (m : Market) (h : History) (k : HeldSide) → Reports m h (answer_due m h k)
due-Reports m h k = first_of-Reports m h (due_refusals m h k) (accepted m h k.order k.due) ((refl, λ side. refl), ((refl, λ side. refl), tt)) (accepted-Reports m h k.order k.due)

-- requests and quotes

requests-IsQuiet : (m : Market) (r : Room) (rs : List ℕ) → IsQuiet (map (request_sent m r) rs)
requests-IsQuiet m r [] = record { count = refl; ids = refl; emitted = λ side. refl }
requests-IsQuiet m r (x ∷ xs) = let k = requests-IsQuiet m r xs in record { count = k.count; ids = k.ids; emitted = k.emitted }

request-Reports : (m : Market) (h : History) (s : Sender) (d : RequestMessage) (t : ℕ) → Reports m h (answer_request m h s d t)
request-Reports m h s d t =
    let r = opened m h s d t in
    first_of-Reports m h (request_refusals m h s d t) (request_accepted m r) ((refl, λ side. refl), ((refl, λ side. refl), ((refl, λ side. refl), ((refl, λ side. refl), ((refl, λ side. refl), ((refl, λ side. refl), ((refl, λ side. refl), ((refl, λ side. refl), ((refl, λ side. refl), ((refl, λ side. refl), tt)))))))))) (quiet-Reports m h (request_accepted m r) (requests-IsQuiet m r r.recipients) refl)

shown-IsQuiet : (m : Market) (h : History) (s : Sender) (r : Room) (d : QuoteMessage) (o : Option RoomQuote) → IsQuiet (quote_status s d (Some (symbol_of m.instruments r.instrument)) Accepted ∷ shown_with m h r o ++ quote_sent m r (quoted h s r d) ∷ [])
shown-IsQuiet m h s r d None = record { count = refl; ids = refl; emitted = λ side. refl }
shown-IsQuiet m h s r d (Some q) = record { count = refl; ids = refl; emitted = λ side. refl }

quote_of-Reports : (m : Market) (h : History) (s : Sender) (d : QuoteMessage) (t : ℕ) (r : Option Room) → Reports m h (answer_quote_of m h s d t r)
quote_of-Reports m h s d t None = (refl, λ side. refl)
quote_of-Reports m h s d t (Some r) = first_of-Reports m h (quote_refusals m h s r d t) (quote_accepted m h s r d) ((refl, λ side. refl), ((refl, λ side. refl), ((refl, λ side. refl), ((refl, λ side. refl), ((refl, λ side. refl), ((refl, λ side. refl), ((refl, λ side. refl), ((refl, λ side. refl), tt)))))))) (quiet-Reports m h (quote_accepted m h s r d) (shown-IsQuiet m h s r d (first_quote h.facts r.number)) refl)

-- withdrawals

emitted-IsQuiet : (m : Market) (q : RoomQuote) (o : Option Room) (rs : List Reply) → IsQuiet rs → IsQuiet (elim o [ None ↦ [] | Some r ↦ to_maker m r q Withdrawn ∷ to_requester m r q Withdrawn ∷ [] ] ++ rs)
emitted-IsQuiet m q None rs k = k
emitted-IsQuiet m q (Some r) rs k = record { count = k.count; ids = k.ids; emitted = k.emitted }

all_emitted-IsQuiet : (m : Market) (h : History) (qs : List RoomQuote) → IsQuiet (flat_map (both_emitted m h) qs)
all_emitted-IsQuiet m h [] = record { count = refl; ids = refl; emitted = λ side. refl }
all_emitted-IsQuiet m h (q ∷ qs) = emitted-IsQuiet m q (room_by_number h.facts q.room) (flat_map (both_emitted m h) qs) (all_emitted-IsQuiet m h qs)

none_traded : (qs : List RoomQuote) → trades (map (λ (q : RoomQuote). WithdrawnFact (record { quote = q.number })) qs) ≡ []
none_traded [] = refl
none_traded (q ∷ qs) = none_traded qs

withdrawn_or-Reports : (m : Market) (h : History) (x : Answer) (qs : List RoomQuote) → Reports m h x → Reports m h (withdrawn_or m h x qs)
withdrawn_or-Reports m h x [] k = k
withdrawn_or-Reports m h x (q ∷ qs) k = quiet-Reports m h (withdrawn_all m h (q ∷ qs)) (all_emitted-IsQuiet m h (q ∷ qs)) (none_traded (q ∷ qs))

withdraw_one-Reports : (m : Market) (h : History) (s : Sender) (t : ℕ) (id : Option (List ℕ)) → Reports m h (withdraw_one m h s t id)
withdraw_one-Reports m h s t None = (refl, λ side. refl)
withdraw_one-Reports m h s t (Some id) = withdrawn_or-Reports m h (not_found s (Some id)) _ (refl, λ side. refl)

withdrawal_of-Reports : (m : Market) (h : History) (s : Sender) (d : WithdrawalMessage) (t : ℕ) (one all : Bool) → Reports m h (answer_withdrawal_of m h s d t one all)
withdrawal_of-Reports m h s d t true all = withdraw_one-Reports m h s t d.quote_id
withdrawal_of-Reports m h s d t false true = withdrawn_or-Reports m h (not_found s None) _ (refl, λ side. refl)
withdrawal_of-Reports m h s d t false false = (refl, λ side. refl)

-- quote responses

-- the report to the requester comes first, then the maker's, and one of them is the buyer
traded-Reports : (m : Market) (h : History) (s : Sender) (r : Room) (q : RoomQuote) (d : ResponseMessage) (t : ℕ) (side : Side) (p : ℤ) → Reports m h (room_traded m h s r q d side p t)
traded-Reports m h s r q d t taken p = (refl, emitted taken)
  where
    emitted : (taken side : Side) → trades_emitted side (room_traded m h s r q d taken p t).replies ≡ emits m side (next_trade h.facts) (trades (room_traded m h s r q d taken p t).facts)
    emitted Buy Buy = refl
    emitted Buy Sell = refl
    emitted Sell Buy = refl
    emitted Sell Sell = refl

hit_at-Reports : (m : Market) (h : History) (s : Sender) (r : Room) (q : RoomQuote) (d : ResponseMessage) (t : ℕ) (side : Side) (p : Option ℤ) → Reports m h (answer_hit_at m h s r q d t side p)
hit_at-Reports m h s r q d t side None = (refl, λ side. refl)
hit_at-Reports m h s r q d t side (Some p) = traded-Reports m h s r q d t side p

hit-Reports : (m : Market) (h : History) (s : Sender) (r : Room) (q : RoomQuote) (d : ResponseMessage) (t : ℕ) (side : Option Side) → Reports m h (answer_hit m h s r q d t side)
hit-Reports m h s r q d t None = (refl, λ side. refl)
hit-Reports m h s r q d t (Some side) = hit_at-Reports m h s r q d t side (price_for side q)

response_in-Reports : (m : Market) (h : History) (s : Sender) (q : RoomQuote) (d : ResponseMessage) (t : ℕ) (r : Option Room) → Reports m h (answer_response_in m h s q d t r)
response_in-Reports m h s q d t None = (refl, λ side. refl)
response_in-Reports m h s q d t (Some r) =
    first_of-Reports m h (response_refusals m h s r q d t) (answer_hit m h s r q d t (taken_side r.side d.side)) ((refl, λ side. refl), ((refl, λ side. refl), ((refl, λ side. refl), ((refl, λ side. refl), ((refl, λ side. refl), ((refl, λ side. refl), tt)))))) (hit-Reports m h s r q d t (taken_side r.side d.side))

response_to-Reports : (m : Market) (h : History) (s : Sender) (d : ResponseMessage) (t : ℕ) (q : Option RoomQuote) → Reports m h (answer_response_to m h s d t q)
response_to-Reports m h s d t None = (refl, λ side. refl)
response_to-Reports m h s d t (Some q) = response_in-Reports m h s q d t (room_by_number h.facts q.room)

response-Reports : (m : Market) (h : History) (s : Sender) (d : ResponseMessage) (t : ℕ) → Reports m h (answer_response m h s d t)
response-Reports m h s d t = first_of-Reports m h (kind_refusals s d) _ ((refl, λ side. refl), tt) (response_to-Reports m h s d t (find_quote h.facts d.quote_id))

-- any message, and a tick

market_data-Reports : (m : Market) (h : History) (s : Sender) (d : MarketDataMessage) → Reports m h (answer_market_data m h s d)
market_data-Reports m h s d = first_of-Reports m h (market_data_refusals m s d) (market_data m h s d) ((refl, λ side. refl), ((refl, λ side. refl), ((refl, λ side. refl), tt))) (refl, λ side. refl)

app-Reports : (m : Market) (h : History) (s : Sender) (a : App) (t : ℕ) → Reports m h (answer_app m h s a t)
app-Reports m h s (QuoteRequest d) t = request-Reports m h s d t
app-Reports m h s (Quote d) t = quote_of-Reports m h s d t (find_room h.facts d.request_id)
app-Reports m h s (QuoteCancel d) t = withdrawal_of-Reports m h s d t (d.cancel_type == 5) (d.cancel_type == 4)
app-Reports m h s (QuoteResponse d) t = response-Reports m h s d t
app-Reports m h s (NewOrderSingle d) t = order-Reports m h s d t
app-Reports m h s (OrderCancelRequest d) t = cancel_of-Reports m h s d (named h s.who d.original_id)
app-Reports m h s (OrderCancelReplaceRequest d) t = replace_of-Reports m h s d t (named h s.who d.original_id)
app-Reports m h s (NewOrderCross d) t = cross-Reports m h s d t
app-Reports m h s (MarketDataRequest d) t = market_data-Reports m h s d
app-Reports m h s (BusinessMessageReject d) t = (refl, λ side. refl)
app-Reports m h s (QuoteStatusReport d) t = (refl, λ side. refl)
app-Reports m h s (QuoteRequestReject d) t = (refl, λ side. refl)
app-Reports m h s (ExecutionReport d) t = (refl, λ side. refl)
app-Reports m h s (OrderCancelReject d) t = (refl, λ side. refl)
app-Reports m h s (MarketDataSnapshot d) t = (refl, λ side. refl)
app-Reports m h s (MarketDataRequestReject d) t = (refl, λ side. refl)
app-Reports m h s (Unsupported kind) t = (refl, λ side. refl)

due_of-Reports : (m : Market) (h : History) (k : Option HeldSide) → Reports m h (answer_due_of m h k)
due_of-Reports m h None = (refl, λ side. refl)
due_of-Reports m h (Some k) = due-Reports m h k

pub input-Reports : (m : Market) (h : History) (i : Input) → Reports m h (answer_input m h i)
input-Reports m h (Message taken t) = app-Reports m h _ taken.item.app t
input-Reports m h (Tick t) = due_of-Reports m h (due h.facts t)
