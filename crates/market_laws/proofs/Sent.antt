use Rattle.std.proofs.Common.{◌≡◌, refl, sym, ap, ◌∙◌, subst, inl, inr, ℕ, ℤ, ◌+◌, Bool, true, false, if◌then◌else◌, ◌==◌, List, [], ◌∷◌, ◌++◌, flat_map, Option, Some, None}
use Rattle.std.specs.List.{enumerate_from}
use Rattle.std.proofs.lemmas.Bool.{true≢false}
use Rattle.fix_dictionary.specs.declared.messages.App.{App}
use Rattle.fix_dictionary.specs.declared.messages.App.TheVariants.{QuoteRequest, Quote, QuoteCancel, QuoteResponse, QuoteStatusReport, QuoteRequestReject, NewOrderSingle, OrderCancelRequest, OrderCancelReplaceRequest, NewOrderCross, ExecutionReport, OrderCancelReject, MarketDataRequest, MarketDataSnapshot, MarketDataRequestReject, BusinessMessageReject, Unsupported}
use Rattle.fix_dictionary.specs.declared.messages.NewOrderSingle.{NewOrderSingle as OrderMessage}
use Rattle.fix_dictionary.specs.declared.messages.OrderCancelRequest.{OrderCancelRequest as CancelMessage}
use Rattle.fix_dictionary.specs.declared.messages.OrderCancelReplaceRequest.{OrderCancelReplaceRequest as ReplaceMessage}
use Rattle.fix_dictionary.specs.declared.messages.NewOrderCross.{NewOrderCross as CrossMessage}
use Rattle.fix_dictionary.specs.declared.messages.QuoteRequest.{QuoteRequest as RequestMessage}
use Rattle.fix_dictionary.specs.declared.messages.Quote.{Quote as QuoteMessage}
use Rattle.fix_dictionary.specs.declared.messages.QuoteCancel.{QuoteCancel as WithdrawalMessage}
use Rattle.fix_dictionary.specs.declared.messages.QuoteResponse.{QuoteResponse as ResponseMessage}
use Rattle.fix_dictionary.specs.declared.messages.MarketDataRequest.{MarketDataRequest as MarketDataMessage}
use Rattle.fix_dictionary.specs.declared.values.Side.{Side}
use Rattle.venue_rules.specs.declared.facts.Fact.{Fact}
use Rattle.venue_rules.specs.declared.facts.Fact.TheVariants.{Asked}
use Rattle.venue_rules.specs.declared.facts.Entry.{Entry}
use Rattle.venue_rules.specs.declared.facts.OrderFact.{OrderFact}
use Rattle.venue_rules.specs.declared.facts.HeldSide.{HeldSide}
use Rattle.venue_rules.specs.declared.facts.Room.{Room}
use Rattle.venue_rules.specs.declared.facts.RoomQuote.{RoomQuote}
use Rattle.venue_rules.specs.declared.replies.Reply.{Reply}
use Rattle.venue_rules.specs.declared.refusals.ChangeRefusal.TheVariants.{HeldSide as IsHeldSide}
use Rattle.venue_rules.specs.declared.refusals.RequestRefusal.{RequestRefusal}
use Rattle.venue_rules.specs.declared.replies.ReplyBody.{ReplyBody}
use Rattle.venue_rules.specs.declared.replies.ReplyBody.TheVariants.{OrderRefused, CrossRefused, OrderEntered, OrderFilled, OrderUnfilled, OrderCancelled, OrderReplaced, ChangeRefused, RequestRefused, RequestSent, QuoteStatus, QuoteSent, RoomTraded, BookSnapshot, MarketDataReject, BusinessReject}
use Rattle.venue_rules.specs.declared.replies.QuoteState.TheVariants as state
use Rattle.venue_rules.specs.Market.{Market}
use Rattle.venue_rules.specs.Facts.{History, next_trade, no_history}
use Rattle.venue_rules.specs.Book.{Fill, fills, filled, Resting}
use Rattle.venue_rules.specs.Delay.{due}
use Rattle.venue_rules.specs.Entering.{entering, entry_reports, fill_reports, unfilled_reports}
use Rattle.venue_rules.specs.Answer.{Answer, Sender, numbered}
use Rattle.venue_rules.specs.Orders.{accepted, answer_order, order_asked, order_refusals}
use Rattle.venue_rules.specs.Changes.{Named, IsResting, IsHeld, IsUnknown, named, standing, answer_cancel_of, answer_replace_of, cancel_refusals, held_replace_refusals, replace_refusals, replace_refused, cancelled, held_cancelled, replaced, replacement}
use Rattle.venue_rules.specs.Crosses.{answer_cross, answer_due, cross_accepted, cross_refusals, due_refusals, first_side, side_order}
use Rattle.venue_rules.specs.Requests.{answer_request, opened, request_accepted, request_refused, request_refusals, request_sent}
use Rattle.venue_rules.specs.Quotes.{answer_quote_of, quote_accepted, quote_refusals, shown_with}
use Rattle.venue_rules.specs.Rooms.{find_room, find_quote, first_quote, live_quotes, room_by_number}
use Rattle.venue_rules.specs.Withdrawals.{answer_withdrawal_of, both_emitted, not_found, to_maker, to_requester, withdraw_one, withdrawn_or}
use Rattle.venue_rules.specs.Responses.{answer_hit, answer_hit_at, answer_response, answer_response_in, answer_response_to, kind_refusals, price_for, response_refusals, taken_side}
use Rattle.venue_rules.specs.MarketData.{answer_market_data, market_data, market_data_refusals}
use Rattle.venue_rules.specs.Answers.{answer_app}
use Rattle.venue_rules.specs.Run.{Input, Message, Tick, answer_due_of, answer_input, run}
use Rattle.venue_rules.proofs.Members.{In, In-from_Contains, Contains-from_In}
use Rattle.venue_rules.proofs.OpenRooms.{first_of-each}
use Rattle.market_laws.specs.Asking.{OnlyRecipientsAreAsked}
use Rattle.market_laws.proofs.Access.{mapped_from}
use Rattle.market_laws.proofs.Added.{RepliedBy, all_facts, replied_by}

-- Nobody is sent a request for quotes but its recipients.

abbrev is_request : ReplyBody → Bool
is_request (RequestSent r) = true
is_request (OrderRefused r) = false
is_request (CrossRefused r) = false
is_request (OrderEntered r) = false
is_request (OrderFilled r) = false
is_request (OrderUnfilled r) = false
is_request (OrderCancelled r) = false
is_request (OrderReplaced r) = false
is_request (ChangeRefused r) = false
is_request (RequestRefused r) = false
is_request (QuoteStatus r) = false
is_request (QuoteSent r) = false
is_request (RoomTraded r) = false
is_request (BookSnapshot r) = false
is_request (MarketDataReject r) = false
is_request (BusinessReject r) = false

-- no reply asks anybody
abbrev AskNobody : List Reply → Type 0
AskNobody [] = Unit {0}
AskNobody (r ∷ rs) = (is_request r.what ≡ false) × AskNobody rs

-- an answer asks the recipients of a request that it records, and nobody else
record Asks (m : Market) (x : Answer) : Type 0 where
  recipients : (r : Reply) → In r x.replies → is_request r.what ≡ true → (asked : Room) × In (Asked asked) x.facts × In r.to asked.recipients × (r ≡ request_sent m asked r.to)

none_asked : (rs : List Reply) (r : Reply) → AskNobody rs → In r rs → is_request r.what ≡ true → ⊥
none_asked [] r a i e = i
none_asked (s ∷ ss) r a (inl same) e = true≢false (sym e ∙ (ap (λ (y : Reply). is_request y.what) (sym same) ∙ a.0))
none_asked (s ∷ ss) r a (inr i) e = none_asked ss r a.1 i e

nobody-Asks : (m : Market) (x : Answer) → AskNobody x.replies → Asks m x
nobody-Asks m x a = record { recipients = λ r i e. absurd (none_asked x.replies r a i e) }

AskNobody-append : (rs more : List Reply) → AskNobody rs → AskNobody more → AskNobody (rs ++ more)
AskNobody-append [] more a b = b
AskNobody-append (r ∷ rs) more a b = (a.0, AskNobody-append rs more a.1 b)

-- an answer that asks nobody
abbrev Quiet : Answer → Type 0
Quiet x = AskNobody x.replies

-- reports before numbering

abbrev AreQuiet : List (ℕ → Reply) → Type 0
AreQuiet [] = Unit {0}
AreQuiet (f ∷ fs) = ((k : ℕ) → is_request (f k).what ≡ false) × AreQuiet fs

AreQuiet-append : (fs gs : List (ℕ → Reply)) → AreQuiet fs → AreQuiet gs → AreQuiet (fs ++ gs)
AreQuiet-append [] gs a b = b
AreQuiet-append (f ∷ fs) gs a b = (a.0, AreQuiet-append fs gs a.1 b)

numbered-AskNobody : (k : ℕ) (fs : List (ℕ → Reply)) → AreQuiet fs → AskNobody (numbered k fs)
numbered-AskNobody k [] a = tt
numbered-AskNobody k (f ∷ fs) a = (a.0 (k + 1), numbered-AskNobody (k + 1) fs a.1)

fills-AreQuiet : (m : Market) (e : Entry) (all : List Fill) (trade j : ℕ) (fs : List Fill) → AreQuiet (flat_map (fill_reports m e all trade) (enumerate_from j fs))
fills-AreQuiet m e all trade j [] = tt
fills-AreQuiet m e all trade j (f ∷ fs) = ((λ k. refl), ((λ k. refl), fills-AreQuiet m e all trade (j + 1) fs))

unfilled-AreQuiet : (x : ℕ → Reply) (b : Bool) → ((k : ℕ) → is_request (x k).what ≡ false) → AreQuiet (if b then x ∷ [] else [])
unfilled-AreQuiet x true q = (q, tt)
unfilled-AreQuiet x false q = tt

entry-AreQuiet : (m : Market) (facts : List Fact) (e : Entry) (fs : List Fill) → AreQuiet (entry_reports m facts e fs)
entry-AreQuiet m facts e fs = AreQuiet-append (flat_map (fill_reports m e fs (next_trade facts)) (enumerate_from 0 fs)) (unfilled_reports m e fs) (fills-AreQuiet m e fs (next_trade facts) 0 fs) (unfilled-AreQuiet _ _ (λ k. refl))

accepted-Quiet : (m : Market) (h : History) (o : OrderFact) (t : ℕ) → Quiet (accepted m h o t)
accepted-Quiet m h o t = (refl, numbered-AskNobody (h.reports + 1) (entry_reports m h.facts (entering h.facts o 0 t) (fills h.facts o)) (entry-AreQuiet m h.facts (entering h.facts o 0 t) (fills h.facts o)))

-- the answer to each message

-- one reply that asks nobody
abbrev One : Type 0
One = (false ≡ false) × Unit {0}

order-Quiet : (m : Market) (h : History) (s : Sender) (d : OrderMessage) (t : ℕ) → Quiet (answer_order m h s d t)
order-Quiet m h s d t =
    let one : One = (refl, tt) in
    first_of-each Quiet (order_refusals m h s d t) (accepted m h (order_asked m s.who d) t) (one, (one, (one, (one, (one, (one, (one, (one, tt)))))))) (λ n. accepted-Quiet m h (order_asked m s.who d) t)

cancel_of-Quiet : (m : Market) (h : History) (s : Sender) (d : CancelMessage) (k : Named) → Quiet (answer_cancel_of m h s d k)
cancel_of-Quiet m h s d IsUnknown = (refl, tt)
cancel_of-Quiet m h s d (IsHeld k) = first_of-each Quiet (cancel_refusals h s d None) (held_cancelled m h s d k) ((refl, tt), tt) (λ n. (refl, tt))
cancel_of-Quiet m h s d (IsResting r) = first_of-each Quiet (cancel_refusals h s d (Some (standing r))) (cancelled m h s d r) ((refl, tt), tt) (λ n. (refl, tt))

replaced-Quiet : (m : Market) (h : History) (s : Sender) (d : ReplaceMessage) (r : Resting) (t : ℕ) → Quiet (replaced m h s d r t)
replaced-Quiet m h s d r t =
    let e : Entry = entering h.facts (replacement d r) (filled r) t in
    (refl, numbered-AskNobody (h.reports + 1) (entry_reports m h.facts e (fills h.facts (replacement d r))) (entry-AreQuiet m h.facts e (fills h.facts (replacement d r))))

replace_of-Quiet : (m : Market) (h : History) (s : Sender) (d : ReplaceMessage) (t : ℕ) (k : Named) → Quiet (answer_replace_of m h s d t k)
replace_of-Quiet m h s d t IsUnknown = (refl, tt)
replace_of-Quiet m h s d t (IsHeld k) = first_of-each Quiet (held_replace_refusals h s d) (replace_refused s d None IsHeldSide) ((refl, tt), tt) (λ n. (refl, tt))
replace_of-Quiet m h s d t (IsResting r) =
    let one : One = (refl, tt) in
    first_of-each Quiet (replace_refusals m h s d r t) (replaced m h s d r t) (one, (one, (one, (one, (one, (one, (one, tt))))))) (λ n. replaced-Quiet m h s d r t)

cross-Quiet : (m : Market) (h : History) (s : Sender) (d : CrossMessage) (t : ℕ) → Quiet (answer_cross m h s d t)
cross-Quiet m h s d t =
    let one : One = (refl, tt) in
    let two : (false ≡ false) × One = (refl, (refl, tt)) in
    first_of-each Quiet (cross_refusals m h s d t) (cross_accepted m h s d t) (two, (two, (two, (two, (one, (two, (two, (two, (two, (two, (two, tt))))))))))) (λ n. accepted-Quiet m h (side_order m s.who d (first_side d)) t)

due-Quiet : (m : Market) (h : History) (k : HeldSide) → Quiet (answer_due m h k)
due-Quiet m h k =
    let one : One = (refl, tt) in
    first_of-each Quiet (due_refusals m h k) (accepted m h k.order k.due) (one, (one, tt)) (λ n. accepted-Quiet m h k.order k.due)

shown-AskNobody : (m : Market) (h : History) (r : Room) (o : Option RoomQuote) → AskNobody (shown_with m h r o)
shown-AskNobody m h r None = (refl, tt)
shown-AskNobody m h r (Some q) = tt

quote_of-Quiet : (m : Market) (h : History) (s : Sender) (d : QuoteMessage) (t : ℕ) (r : Option Room) → Quiet (answer_quote_of m h s d t r)
quote_of-Quiet m h s d t None = (refl, tt)
quote_of-Quiet m h s d t (Some r) =
    let one : One = (refl, tt) in
    first_of-each Quiet (quote_refusals m h s r d t) (quote_accepted m h s r d) (one, (one, (one, (one, (one, (one, (one, (one, tt)))))))) (λ n. (refl, AskNobody-append (shown_with m h r (first_quote h.facts r.number)) _ (shown-AskNobody m h r (first_quote h.facts r.number)) (refl, tt)))

both-AskNobody : (m : Market) (q : RoomQuote) (o : Option Room) (rest : List Reply) → AskNobody rest → AskNobody ((elim o [ None ↦ [] | Some r ↦ to_maker m r q state.Withdrawn ∷ to_requester m r q state.Withdrawn ∷ [] ]) ++ rest)
both-AskNobody m q None rest a = a
both-AskNobody m q (Some r) rest a = (refl, (refl, a))

emitted-AskNobody : (m : Market) (h : History) (qs : List RoomQuote) → AskNobody (flat_map (both_emitted m h) qs)
emitted-AskNobody m h [] = tt
emitted-AskNobody m h (q ∷ qs) = both-AskNobody m q (room_by_number h.facts q.room) (flat_map (both_emitted m h) qs) (emitted-AskNobody m h qs)

withdrawn_or-Quiet : (m : Market) (h : History) (x : Answer) (qs : List RoomQuote) → Quiet x → Quiet (withdrawn_or m h x qs)
withdrawn_or-Quiet m h x [] k = k
withdrawn_or-Quiet m h x (q ∷ qs) k = emitted-AskNobody m h (q ∷ qs)

withdraw_one-Quiet : (m : Market) (h : History) (s : Sender) (t : ℕ) (id : Option (List ℕ)) → Quiet (withdraw_one m h s t id)
withdraw_one-Quiet m h s t None = (refl, tt)
withdraw_one-Quiet m h s t (Some id) = withdrawn_or-Quiet m h (not_found s (Some id)) _ (refl, tt)

withdrawal_of-Quiet : (m : Market) (h : History) (s : Sender) (d : WithdrawalMessage) (t : ℕ) (one all : Bool) → Quiet (answer_withdrawal_of m h s d t one all)
withdrawal_of-Quiet m h s d t true all = withdraw_one-Quiet m h s t d.quote_id
withdrawal_of-Quiet m h s d t false true = withdrawn_or-Quiet m h (not_found s None) (live_quotes h.facts s.who t) (refl, tt)
withdrawal_of-Quiet m h s d t false false = (refl, tt)

hit_at-Quiet : (m : Market) (h : History) (s : Sender) (r : Room) (q : RoomQuote) (d : ResponseMessage) (t : ℕ) (side : Side) (p : Option ℤ) → Quiet (answer_hit_at m h s r q d t side p)
hit_at-Quiet m h s r q d t side None = (refl, tt)
hit_at-Quiet m h s r q d t side (Some p) = (refl, (refl, tt))

hit-Quiet : (m : Market) (h : History) (s : Sender) (r : Room) (q : RoomQuote) (d : ResponseMessage) (t : ℕ) (side : Option Side) → Quiet (answer_hit m h s r q d t side)
hit-Quiet m h s r q d t None = (refl, tt)
hit-Quiet m h s r q d t (Some side) = hit_at-Quiet m h s r q d t side (price_for side q)

response_in-Quiet : (m : Market) (h : History) (s : Sender) (q : RoomQuote) (d : ResponseMessage) (t : ℕ) (r : Option Room) → Quiet (answer_response_in m h s q d t r)
response_in-Quiet m h s q d t None = (refl, tt)
response_in-Quiet m h s q d t (Some r) =
    let one : One = (refl, tt) in
    first_of-each Quiet (response_refusals m h s r q d t) (answer_hit m h s r q d t (taken_side r.side d.side)) (one, (one, (one, (one, ((refl, one), (one, tt)))))) (λ n. hit-Quiet m h s r q d t (taken_side r.side d.side))

response_to-Quiet : (m : Market) (h : History) (s : Sender) (d : ResponseMessage) (t : ℕ) (q : Option RoomQuote) → Quiet (answer_response_to m h s d t q)
response_to-Quiet m h s d t None = (refl, tt)
response_to-Quiet m h s d t (Some q) = response_in-Quiet m h s q d t (room_by_number h.facts q.room)

response-Quiet : (m : Market) (h : History) (s : Sender) (d : ResponseMessage) (t : ℕ) → Quiet (answer_response m h s d t)
response-Quiet m h s d t = first_of-each Quiet (kind_refusals s d) (answer_response_to m h s d t (find_quote h.facts d.quote_id)) ((refl, tt), tt) (λ n. response_to-Quiet m h s d t (find_quote h.facts d.quote_id))

market_data-Quiet : (m : Market) (h : History) (s : Sender) (d : MarketDataMessage) → Quiet (answer_market_data m h s d)
market_data-Quiet m h s d = first_of-each Quiet (market_data_refusals m s d) (market_data m h s d) ((refl, tt), ((refl, tt), ((refl, tt), tt))) (λ n. (refl, tt))

-- a request

accepted_request-Asks : (m : Market) (r : Room) → Asks m (request_accepted m r)
accepted_request-Asks m r = record {
  recipients = λ x i e.
      let k = mapped_from (request_sent m r) r.recipients x i in
      let to : k.0 ≡ x.to = ap (λ (y : Reply). y.to) k.2 in
      (r, inl refl, subst (λ w. In w r.recipients) to k.1, sym k.2 ∙ ap (request_sent m r) to);
}

request-Asks : (m : Market) (h : History) (s : Sender) (d : RequestMessage) (t : ℕ) → Asks m (answer_request m h s d t)
request-Asks m h s d t =
    let one : (cause : RequestRefusal) → Asks m (request_refused s d cause) = λ cause. nobody-Asks m (request_refused s d cause) (refl, tt) in
    first_of-each (Asks m) (request_refusals m h s d t) (request_accepted m (opened m h s d t)) (one _, (one _, (one _, (one _, (one _, (one _, (one _, (one _, (one _, (one _, tt)))))))))) (λ n. accepted_request-Asks m (opened m h s d t))

-- any message, and a tick

app-Asks : (m : Market) (h : History) (s : Sender) (a : App) (t : ℕ) → Asks m (answer_app m h s a t)
app-Asks m h s (QuoteRequest d) t = request-Asks m h s d t
app-Asks m h s (Quote d) t = nobody-Asks m _ (quote_of-Quiet m h s d t (find_room h.facts d.request_id))
app-Asks m h s (QuoteCancel d) t = nobody-Asks m _ (withdrawal_of-Quiet m h s d t (d.cancel_type == 5) (d.cancel_type == 4))
app-Asks m h s (QuoteResponse d) t = nobody-Asks m _ (response-Quiet m h s d t)
app-Asks m h s (NewOrderSingle d) t = nobody-Asks m _ (order-Quiet m h s d t)
app-Asks m h s (OrderCancelRequest d) t = nobody-Asks m _ (cancel_of-Quiet m h s d (named h s.who d.original_id))
app-Asks m h s (OrderCancelReplaceRequest d) t = nobody-Asks m _ (replace_of-Quiet m h s d t (named h s.who d.original_id))
app-Asks m h s (NewOrderCross d) t = nobody-Asks m _ (cross-Quiet m h s d t)
app-Asks m h s (MarketDataRequest d) t = nobody-Asks m _ (market_data-Quiet m h s d)
app-Asks m h s (BusinessMessageReject d) t = nobody-Asks m _ tt
app-Asks m h s (QuoteStatusReport d) t = nobody-Asks m _ (refl, tt)
app-Asks m h s (QuoteRequestReject d) t = nobody-Asks m _ (refl, tt)
app-Asks m h s (ExecutionReport d) t = nobody-Asks m _ (refl, tt)
app-Asks m h s (OrderCancelReject d) t = nobody-Asks m _ (refl, tt)
app-Asks m h s (MarketDataSnapshot d) t = nobody-Asks m _ (refl, tt)
app-Asks m h s (MarketDataRequestReject d) t = nobody-Asks m _ (refl, tt)
app-Asks m h s (Unsupported kind) t = nobody-Asks m _ (refl, tt)

due_of-Asks : (m : Market) (h : History) (k : Option HeldSide) → Asks m (answer_due_of m h k)
due_of-Asks m h None = nobody-Asks m _ tt
due_of-Asks m h (Some k) = nobody-Asks m _ (due-Quiet m h k)

input-Asks : (m : Market) (h : History) (i : Input) → Asks m (answer_input m h i)
input-Asks m h (Message taken t) = app-Asks m h _ taken.item.app t
input-Asks m h (Tick t) = due_of-Asks m h (due h.facts t)

pub only_recipients_are_asked : (m : Market) (is : List Input) → OnlyRecipientsAreAsked m is
only_recipients_are_asked m is r sent c e =
    let facts : List Fact = (run m is).history.facts in
    let k : RepliedBy m no_history is r = replied_by m no_history is r (In-from_Contains (run m is).replies r c) in
    let a = (input-Asks m (run m k.earlier).history k.input).recipients r k.here (ap is_request e) in
    (a.0, Contains-from_In facts (Asked a.0) (all_facts m is (Asked a.0) (k.facts_then (Asked a.0) a.1)), Contains-from_In a.0.recipients r.to a.2, a.3)
