use Rattle.std.proofs.Common.{◌≡◌, refl, subst, inl, inr, ℕ, ℤ, Bool, true, false, ◌==◌, List, [], ◌∷◌, map, bytes_eq, eqb-true, Option, Some, None}
use Rattle.std.specs.List.{list_any}
use Rattle.std.proofs.lemmas.Bool.{not-false}
use Rattle.std.proofs.lemmas.List.Folds.{Any-from_list_any}
use Rattle.fix_dictionary.specs.declared.messages.App.{App}
use Rattle.fix_dictionary.specs.declared.messages.App.TheVariants.{QuoteRequest, Quote, QuoteCancel, QuoteResponse, QuoteStatusReport, QuoteRequestReject, NewOrderSingle, OrderCancelRequest, OrderCancelReplaceRequest, NewOrderCross, ExecutionReport, OrderCancelReject, MarketDataRequest, MarketDataSnapshot, MarketDataRequestReject, BusinessMessageReject, Unsupported}
use Rattle.fix_dictionary.specs.declared.messages.NewOrderSingle.{NewOrderSingle as OrderMessage}
use Rattle.fix_dictionary.specs.declared.messages.OrderCancelRequest.{OrderCancelRequest as CancelMessage}
use Rattle.fix_dictionary.specs.declared.messages.OrderCancelReplaceRequest.{OrderCancelReplaceRequest as ReplaceMessage}
use Rattle.fix_dictionary.specs.declared.messages.NewOrderCross.{NewOrderCross as CrossMessage}
use Rattle.fix_dictionary.specs.declared.messages.QuoteRequest.{QuoteRequest as RequestMessage}
use Rattle.fix_dictionary.specs.declared.messages.Quote.{Quote as QuoteMessage}
use Rattle.fix_dictionary.specs.declared.messages.QuoteCancel.{QuoteCancel as WithdrawalMessage}
use Rattle.fix_dictionary.specs.declared.messages.QuoteResponse.{QuoteResponse as ResponseMessage}
use Rattle.fix_dictionary.specs.declared.messages.MarketDataRequest.{MarketDataRequest as MarketDataMessage}
use Rattle.fix_dictionary.specs.declared.values.Side.{Side}
use Rattle.venue_rules.specs.declared.facts.Fact.{Fact}
use Rattle.venue_rules.specs.declared.facts.Fact.TheVariants.{Unheld, Withdrawn}
use Rattle.venue_rules.specs.declared.facts.OrderFact.{OrderFact}
use Rattle.venue_rules.specs.declared.facts.TradeSource.TheVariants.{Book as InBook, Room as InRoom}
use Rattle.venue_rules.specs.declared.facts.HeldSide.{HeldSide}
use Rattle.venue_rules.specs.declared.facts.Room.{Room}
use Rattle.venue_rules.specs.declared.facts.RoomQuote.{RoomQuote}
use Rattle.venue_rules.specs.declared.replies.Reply.{Reply}
use Rattle.venue_rules.specs.declared.refusals.ChangeRefusal.TheVariants.{HeldSide as IsHeldSide}
use Rattle.venue_rules.specs.declared.trail.Taken.{Taken}
use Rattle.venue_rules.specs.Market.{Market}
use Rattle.venue_rules.specs.Facts.{History, rooms}
use Rattle.venue_rules.specs.Book.{filled, Resting}
use Rattle.venue_rules.specs.Delay.{due}
use Rattle.venue_rules.specs.Entering.{entering}
use Rattle.venue_rules.specs.Answer.{Answer, Sender}
use Rattle.venue_rules.specs.Orders.{accepted, answer_order, order_asked, order_refusals}
use Rattle.venue_rules.specs.Changes.{Named, IsResting, IsHeld, IsUnknown, named, standing, answer_cancel_of, answer_replace_of, cancel_refusals, held_replace_refusals, replace_refusals, replace_refused, cancelled, held_cancelled, replaced, replacement}
use Rattle.venue_rules.specs.Crosses.{answer_cross, answer_due, cross_accepted, cross_refusals, due_refusals, first_side, side_order}
use Rattle.venue_rules.specs.Requests.{answer_request, opened, request_accepted, request_refusals}
use Rattle.venue_rules.specs.Quotes.{answer_quote_of, quote_accepted, quote_refusals, quoted, quote_sent, shown_with}
use Rattle.venue_rules.specs.Rooms.{find_room, find_quote, first_quote, live_quotes, printed, room_by_number}
use Rattle.venue_rules.specs.Withdrawals.{answer_withdrawal_of, not_found, withdraw_one, withdrawn_all, withdrawn_or}
use Rattle.venue_rules.specs.Responses.{answer_hit, answer_hit_at, answer_response, answer_response_in, answer_response_to, kind_refusals, price_for, response_refusals, taken_side}
use Rattle.venue_rules.specs.MarketData.{answer_market_data, market_data, market_data_refusals}
use Rattle.venue_rules.specs.Answers.{answer_app, type_of}
use Rattle.venue_rules.specs.Run.{Input, Message, Tick, answer_due_of, answer_input}
use Rattle.venue_rules.proofs.Members.{In, In-append_right, In-find, In-from_Contains}
use Rattle.venue_rules.proofs.OpenRooms.{first_of-each}
use Rattle.market_laws.proofs.Sources.{EachFrom, EachFrom-append, Sourced, entry-From}

-- The circumstances of each fact, for the answer to each message and to a tick.

-- an order that enters
accepted-Sourced : (m : Market) (h : History) (i : Input) (o : OrderFact) (t : ℕ) → Sourced m h i (accepted m h o t)
accepted-Sourced m h i o t = entry-From m h i (accepted m h o t).facts (accepted m h o t).replies (entering h.facts o 0 t) (inl refl)

order-Sourced : (m : Market) (h : History) (i : Input) (s : Sender) (d : OrderMessage) (t : ℕ) → Sourced m h i (answer_order m h s d t)
order-Sourced m h i s d t = first_of-each (Sourced m h i) (order_refusals m h s d t) (accepted m h (order_asked m s.who d) t) (tt, (tt, (tt, (tt, (tt, (tt, (tt, (tt, tt)))))))) (λ n. accepted-Sourced m h i (order_asked m s.who d) t)

cancel_of-Sourced : (m : Market) (h : History) (i : Input) (s : Sender) (d : CancelMessage) (k : Named) → Sourced m h i (answer_cancel_of m h s d k)
cancel_of-Sourced m h i s d IsUnknown = tt
cancel_of-Sourced m h i s d (IsHeld k) = first_of-each (Sourced m h i) (cancel_refusals h s d None) (held_cancelled m h s d k) (tt, tt) (λ n. (tt, tt))
cancel_of-Sourced m h i s d (IsResting r) = first_of-each (Sourced m h i) (cancel_refusals h s d (Some (standing r))) (cancelled m h s d r) (tt, tt) (λ n. (tt, tt))

replaced-Sourced : (m : Market) (h : History) (i : Input) (s : Sender) (d : ReplaceMessage) (r : Resting) (t : ℕ) → Sourced m h i (replaced m h s d r t)
replaced-Sourced m h i s d r t = (tt, entry-From m h i (replaced m h s d r t).facts (replaced m h s d r t).replies (entering h.facts (replacement d r) (filled r) t) (inr (inl refl)))

replace_of-Sourced : (m : Market) (h : History) (i : Input) (s : Sender) (d : ReplaceMessage) (t : ℕ) (k : Named) → Sourced m h i (answer_replace_of m h s d t k)
replace_of-Sourced m h i s d t IsUnknown = tt
replace_of-Sourced m h i s d t (IsHeld k) = first_of-each (Sourced m h i) (held_replace_refusals h s d) (replace_refused s d None IsHeldSide) (tt, tt) (λ n. tt)
replace_of-Sourced m h i s d t (IsResting r) = first_of-each (Sourced m h i) (replace_refusals m h s d r t) (replaced m h s d r t) (tt, (tt, (tt, (tt, (tt, (tt, (tt, tt))))))) (λ n. replaced-Sourced m h i s d r t)

cross_accepted-Sourced : (m : Market) (h : History) (i : Input) (s : Sender) (d : CrossMessage) (t : ℕ) → Sourced m h i (cross_accepted m h s d t)
cross_accepted-Sourced m h i s d t =
    let first : Answer = accepted m h (side_order m s.who d (first_side d)) t in
    let x : Answer = cross_accepted m h s d t in
    EachFrom-append m h i x.facts x.replies first.facts _ (entry-From m h i x.facts x.replies (entering h.facts (side_order m s.who d (first_side d)) 0 t) (inl refl)) (tt, tt)

cross-Sourced : (m : Market) (h : History) (i : Input) (s : Sender) (d : CrossMessage) (t : ℕ) → Sourced m h i (answer_cross m h s d t)
cross-Sourced m h i s d t = first_of-each (Sourced m h i) (cross_refusals m h s d t) (cross_accepted m h s d t) (tt, (tt, (tt, (tt, (tt, (tt, (tt, (tt, (tt, (tt, (tt, tt))))))))))) (λ n. cross_accepted-Sourced m h i s d t)

due-Sourced : (m : Market) (h : History) (i : Input) (k : HeldSide) → Sourced m h i (answer_due m h k)
due-Sourced m h i k = (
  tt,
  first_of-each (λ (x : Answer). EachFrom m h i (Unheld (record { who = k.order.who; id = k.order.id; cancel = None }) ∷ x.facts) x.replies x.facts) (due_refusals m h k) (accepted m h k.order k.due) (tt, (tt, tt))
      (λ n. entry-From m h i (Unheld (record { who = k.order.who; id = k.order.id; cancel = None }) ∷ (accepted m h k.order k.due).facts) (accepted m h k.order k.due).replies (entering h.facts k.order 0 k.due) (inr (inl refl))),
)

-- requests

request-Sourced : (m : Market) (h : History) (taken : Taken) (s : Sender) (d : RequestMessage) (t : ℕ) → taken.item.app ≡ QuoteRequest d → Sourced m h (Message taken t) (answer_request m h s d t)
request-Sourced m h taken s d t e = first_of-each (Sourced m h (Message taken t)) (request_refusals m h s d t) (request_accepted m (opened m h s d t)) (tt, (tt, (tt, (tt, (tt, (tt, (tt, (tt, (tt, (tt, tt)))))))))) (λ n. (
  record { taken = taken; moment = t; sender = s; asks = d; input = refl; message = e; same = refl },
  tt,
))

-- quotes

among : (rs : List ℕ) (w : ℕ) → list_any (λ p. p == w) rs ≡ true → In w rs
among rs w h = let a = Any-from_list_any (λ p. p == w) rs h in subst (λ x. In x rs) (eqb-true a.1 w a.4) (In-from_Contains rs a.1 (a.0, a.2, a.3))

accepted_quote-Sourced : (m : Market) (h : History) (taken : Taken) (s : Sender) (d : QuoteMessage) (t : ℕ) (r : Room) → taken.item.app ≡ Quote d → s.who ≡ taken.from → In r (rooms h.facts) → In s.who r.recipients → Sourced m h (Message taken t) (quote_accepted m h s r d)
accepted_quote-Sourced m h taken s d t r e from known recipient = (
  record {
    taken = taken;
    moment = t;
    sender = s;
    quotes = d;
    asked = r;
    input = refl;
    message = e;
    from = from;
    known = known;
    recipient = recipient;
    same = refl;
    sent_on = inr (In-append_right (shown_with m h r (first_quote h.facts r.number)) (quote_sent m r (quoted h s r d) ∷ []) (quote_sent m r (quoted h s r d)) (inl refl));
  },
  tt,
)

quote_of-Sourced : (m : Market) (h : History) (taken : Taken) (s : Sender) (d : QuoteMessage) (t : ℕ) (r : Option Room) → taken.item.app ≡ Quote d → s.who ≡ taken.from → ((x : Room) → r ≡ Some x → In x (rooms h.facts)) → Sourced m h (Message taken t) (answer_quote_of m h s d t r)
quote_of-Sourced m h taken s d t None e from known = tt
quote_of-Sourced m h taken s d t (Some r) e from known = first_of-each (Sourced m h (Message taken t)) (quote_refusals m h s r d t) (quote_accepted m h s r d) (tt, (tt, (tt, (tt, (tt, (tt, (tt, (tt, tt))))))))
    (λ n. accepted_quote-Sourced m h taken s d t r e from (known r refl) (among r.recipients s.who (not-false (list_any (λ p. p == s.who) r.recipients) n.0)))

-- withdrawals

withdrawn-From : (m : Market) (h : History) (i : Input) (all : List Fact) (replies : List Reply) (qs : List RoomQuote) → EachFrom m h i all replies (map (λ (q : RoomQuote). Withdrawn (record { quote = q.number })) qs)
withdrawn-From m h i all replies [] = tt
withdrawn-From m h i all replies (q ∷ qs) = (tt, withdrawn-From m h i all replies qs)

withdrawn_or-Sourced : (m : Market) (h : History) (i : Input) (x : Answer) (qs : List RoomQuote) → Sourced m h i x → Sourced m h i (withdrawn_or m h x qs)
withdrawn_or-Sourced m h i x [] k = k
withdrawn_or-Sourced m h i x (q ∷ qs) k = withdrawn-From m h i (withdrawn_all m h (q ∷ qs)).facts (withdrawn_all m h (q ∷ qs)).replies (q ∷ qs)

withdraw_one-Sourced : (m : Market) (h : History) (i : Input) (s : Sender) (t : ℕ) (id : Option (List ℕ)) → Sourced m h i (withdraw_one m h s t id)
withdraw_one-Sourced m h i s t None = tt
withdraw_one-Sourced m h i s t (Some id) = withdrawn_or-Sourced m h i (not_found s (Some id)) _ tt

withdrawal_of-Sourced : (m : Market) (h : History) (i : Input) (s : Sender) (d : WithdrawalMessage) (t : ℕ) (one all : Bool) → Sourced m h i (answer_withdrawal_of m h s d t one all)
withdrawal_of-Sourced m h i s d t true all = withdraw_one-Sourced m h i s t d.quote_id
withdrawal_of-Sourced m h i s d t false true = withdrawn_or-Sourced m h i (not_found s None) (live_quotes h.facts s.who t) tt
withdrawal_of-Sourced m h i s d t false false = tt

-- quote responses

not_in_book : (a b c d : ℕ) → InRoom a b ≡ InBook c d → ⊥
not_in_book a b c d e = cc

hit_at-Sourced : (m : Market) (h : History) (i : Input) (s : Sender) (r : Room) (q : RoomQuote) (d : ResponseMessage) (t : ℕ) (side : Side) (p : Option ℤ) → Sourced m h i (answer_hit_at m h s r q d t side p)
hit_at-Sourced m h i s r q d t side None = tt
hit_at-Sourced m h i s r q d t side (Some p) = ((λ old new place. absurd (not_in_book r.number q.number old new place)), (tt, tt))

hit-Sourced : (m : Market) (h : History) (i : Input) (s : Sender) (r : Room) (q : RoomQuote) (d : ResponseMessage) (t : ℕ) (side : Option Side) → Sourced m h i (answer_hit m h s r q d t side)
hit-Sourced m h i s r q d t None = tt
hit-Sourced m h i s r q d t (Some side) = hit_at-Sourced m h i s r q d t side (price_for side q)

response_in-Sourced : (m : Market) (h : History) (i : Input) (s : Sender) (q : RoomQuote) (d : ResponseMessage) (t : ℕ) (r : Option Room) → Sourced m h i (answer_response_in m h s q d t r)
response_in-Sourced m h i s q d t None = tt
response_in-Sourced m h i s q d t (Some r) = first_of-each (Sourced m h i) (response_refusals m h s r q d t) (answer_hit m h s r q d t (taken_side r.side d.side)) (tt, (tt, (tt, (tt, ((tt, tt), (tt, tt)))))) (λ n. hit-Sourced m h i s r q d t (taken_side r.side d.side))

response_to-Sourced : (m : Market) (h : History) (i : Input) (s : Sender) (d : ResponseMessage) (t : ℕ) (q : Option RoomQuote) → Sourced m h i (answer_response_to m h s d t q)
response_to-Sourced m h i s d t None = tt
response_to-Sourced m h i s d t (Some q) = response_in-Sourced m h i s q d t (room_by_number h.facts q.room)

response-Sourced : (m : Market) (h : History) (i : Input) (s : Sender) (d : ResponseMessage) (t : ℕ) → Sourced m h i (answer_response m h s d t)
response-Sourced m h i s d t = first_of-each (Sourced m h i) (kind_refusals s d) (answer_response_to m h s d t (find_quote h.facts d.quote_id)) (tt, tt) (λ n. response_to-Sourced m h i s d t (find_quote h.facts d.quote_id))

-- any message, and a tick

market_data-Sourced : (m : Market) (h : History) (i : Input) (s : Sender) (d : MarketDataMessage) → Sourced m h i (answer_market_data m h s d)
market_data-Sourced m h i s d = first_of-each (Sourced m h i) (market_data_refusals m s d) (market_data m h s d) (tt, (tt, (tt, tt))) (λ n. tt)

app-Sourced : (m : Market) (h : History) (taken : Taken) (s : Sender) (a : App) (t : ℕ) → taken.item.app ≡ a → s.who ≡ taken.from → Sourced m h (Message taken t) (answer_app m h s a t)
app-Sourced m h taken s (QuoteRequest d) t e from = request-Sourced m h taken s d t e
app-Sourced m h taken s (Quote d) t e from = quote_of-Sourced m h taken s d t (find_room h.facts d.request_id) e from (λ x k. (In-find (λ (r : Room). bytes_eq (printed 82 r.number) d.request_id) (rooms h.facts) x k).0)
app-Sourced m h taken s (QuoteCancel d) t e from = withdrawal_of-Sourced m h (Message taken t) s d t (d.cancel_type == 5) (d.cancel_type == 4)
app-Sourced m h taken s (QuoteResponse d) t e from = response-Sourced m h (Message taken t) s d t
app-Sourced m h taken s (NewOrderSingle d) t e from = order-Sourced m h (Message taken t) s d t
app-Sourced m h taken s (OrderCancelRequest d) t e from = cancel_of-Sourced m h (Message taken t) s d (named h s.who d.original_id)
app-Sourced m h taken s (OrderCancelReplaceRequest d) t e from = replace_of-Sourced m h (Message taken t) s d t (named h s.who d.original_id)
app-Sourced m h taken s (NewOrderCross d) t e from = cross-Sourced m h (Message taken t) s d t
app-Sourced m h taken s (MarketDataRequest d) t e from = market_data-Sourced m h (Message taken t) s d
app-Sourced m h taken s (BusinessMessageReject d) t e from = tt
app-Sourced m h taken s (QuoteStatusReport d) t e from = tt
app-Sourced m h taken s (QuoteRequestReject d) t e from = tt
app-Sourced m h taken s (ExecutionReport d) t e from = tt
app-Sourced m h taken s (OrderCancelReject d) t e from = tt
app-Sourced m h taken s (MarketDataSnapshot d) t e from = tt
app-Sourced m h taken s (MarketDataRequestReject d) t e from = tt
app-Sourced m h taken s (Unsupported kind) t e from = tt

due_of-Sourced : (m : Market) (h : History) (i : Input) (k : Option HeldSide) → Sourced m h i (answer_due_of m h k)
due_of-Sourced m h i None = tt
due_of-Sourced m h i (Some k) = due-Sourced m h i k

pub input-From : (m : Market) (h : History) (i : Input) → Sourced m h i (answer_input m h i)
input-From m h (Message taken t) = app-Sourced m h taken (record { who = taken.from; number = taken.item.number; kind = type_of taken.item.app }) taken.item.app t refl refl
input-From m h (Tick t) = due_of-Sourced m h (Tick t) (due h.facts t)
