use Rattle.std.proofs.Common.{◌≡◌, refl, sym, subst, inl, inr, ℕ, zero, suc, ℤ, ◌+◌, ◌<◌, ◌≤◌, Bool, true, false, not, ◌==◌, nat_lt, nat_le, List, [], ◌∷◌, ◌++◌, length, map, filter, bytes_eq, Option, Some, None, arith, ltb-true}
use Rattle.std.specs.List.{list_all, list_any}
use Rattle.std.proofs.lemmas.Bool.{and_parts, not-false}
use Rattle.std.proofs.lemmas.Bool.Decides.{nat_tests}
use Rattle.fix_dictionary.specs.declared.messages.App.{App}
use Rattle.fix_dictionary.specs.declared.messages.App.TheVariants.{QuoteRequest, Quote, QuoteCancel, QuoteResponse, QuoteStatusReport, QuoteRequestReject, NewOrderSingle, OrderCancelRequest, OrderCancelReplaceRequest, NewOrderCross, ExecutionReport, OrderCancelReject, MarketDataRequest, MarketDataSnapshot, MarketDataRequestReject, BusinessMessageReject, Unsupported}
use Rattle.fix_dictionary.specs.declared.messages.NewOrderSingle.{NewOrderSingle as OrderMessage}
use Rattle.fix_dictionary.specs.declared.messages.OrderCancelRequest.{OrderCancelRequest as CancelMessage}
use Rattle.fix_dictionary.specs.declared.messages.OrderCancelReplaceRequest.{OrderCancelReplaceRequest as ReplaceMessage}
use Rattle.fix_dictionary.specs.declared.messages.NewOrderCross.{NewOrderCross as CrossMessage}
use Rattle.fix_dictionary.specs.declared.messages.QuoteRequest.{QuoteRequest as RequestMessage}
use Rattle.fix_dictionary.specs.declared.messages.Quote.{Quote as QuoteMessage}
use Rattle.fix_dictionary.specs.declared.messages.QuoteCancel.{QuoteCancel as WithdrawalMessage}
use Rattle.fix_dictionary.specs.declared.messages.QuoteResponse.{QuoteResponse as ResponseMessage}
use Rattle.fix_dictionary.specs.declared.messages.MarketDataRequest.{MarketDataRequest as MarketDataMessage}
use Rattle.fix_dictionary.specs.declared.values.Side.{Side}
use Rattle.instruments.specs.declared.instruments.Instrument.{Instrument}
use Rattle.instruments.specs.Listing.{delay_of, instrument_of, is_unknown_instrument}
use Rattle.instruments.specs.Rows.{are_distinct, is_delay, is_instrument, is_instrument_file, is_least, is_request_life, is_tick, most_instruments}
use Rattle.instruments.specs.Symbols.{is_symbol}
use Rattle.venue_rules.specs.declared.facts.Fact.{Fact}
use Rattle.venue_rules.specs.declared.facts.Fact.TheVariants.{Entered, Traded, Removed, Held, Unheld, Asked, Quoted, Withdrawn, Closed}
use Rattle.venue_rules.specs.declared.facts.Entry.{Entry}
use Rattle.venue_rules.specs.declared.facts.OrderFact.{OrderFact}
use Rattle.venue_rules.specs.declared.facts.HeldSide.{HeldSide}
use Rattle.venue_rules.specs.declared.facts.Room.{Room}
use Rattle.venue_rules.specs.declared.facts.RoomQuote.{RoomQuote}
use Rattle.venue_rules.specs.declared.refusals.ChangeRefusal.TheVariants.{HeldSide as IsHeldSide}
use Rattle.venue_rules.specs.Market.{Market}
use Rattle.venue_rules.specs.Facts.{History, no_history, entries, held_sides}
use Rattle.venue_rules.specs.Book.{Fill, fills, filled}
use Rattle.venue_rules.specs.Delay.{due, held, releases}
use Rattle.venue_rules.specs.Rooms.{find_quote, find_room, live_quotes, room_by_number}
use Rattle.venue_rules.specs.Entering.{entering, entry_facts, trade_of}
use Rattle.venue_rules.specs.Answer.{Answer, Sender}
use Rattle.venue_rules.specs.Orders.{accepted, answer_order, order_asked, order_refusals}
use Rattle.venue_rules.specs.Changes.{Named, IsResting, IsHeld, IsUnknown, named, standing, answer_cancel_of, answer_replace_of, cancel_refusals, held_replace_refusals, replace_refusals, replace_refused, cancelled, held_cancelled, replaced, replacement}
use Rattle.venue_rules.specs.Crosses.{answer_cross, answer_due, cross_accepted, cross_refusals, due_refusals, first_side, side_order}
use Rattle.venue_rules.specs.Requests.{answer_request, opened, request_accepted, request_refusals}
use Rattle.venue_rules.specs.Quotes.{answer_quote_of, quote_accepted, quote_refusals}
use Rattle.venue_rules.specs.Withdrawals.{answer_withdrawal_of, not_found, withdraw_one, withdrawn_or}
use Rattle.venue_rules.specs.Responses.{answer_hit, answer_hit_at, answer_response, answer_response_in, answer_response_to, kind_refusals, price_for, response_refusals, taken_side}
use Rattle.venue_rules.specs.MarketData.{answer_market_data, market_data, market_data_refusals}
use Rattle.venue_rules.specs.Answers.{answer_app}
use Rattle.venue_rules.specs.Run.{Input, Message, Tick, after, answer_due_of, answer_input, run, run_from}
use Rattle.venue_rules.specs.Lawful.{LinkedOrdersWaitASecond}
use Rattle.venue_rules.proofs.Members.{In, In-filter, In-from_Contains, In-append_left}
use Rattle.venue_rules.proofs.AmountLemmas.{In-earliest}
use Rattle.venue_rules.proofs.EveryRun.{lawful, split_at}
use Rattle.venue_rules.proofs.FollowsEach.{IsEntered, named-IsEntered}
use Rattle.venue_rules.proofs.OpenRooms.{first_of-each}

-- Orders and held sides are in listed instruments alone; so linked orders in a market of files wait at least a second.

abbrev IsListed : ℕ → Fact → Type 0
IsListed n (Entered e) = e.order.instrument < n
IsListed n (Traded t) = Unit {0}
IsListed n (Removed r) = Unit {0}
IsListed n (Held h) = h.order.instrument < n
IsListed n (Unheld u) = Unit {0}
IsListed n (Asked r) = Unit {0}
IsListed n (Quoted q) = Unit {0}
IsListed n (Withdrawn w) = Unit {0}
IsListed n (Closed c) = Unit {0}

abbrev AreListed : ℕ → List Fact → Type 0
AreListed n [] = Unit {0}
AreListed n (f ∷ fs) = IsListed n f × AreListed n fs

abbrev KeepsListed : ℕ → Answer → Type 0
KeepsListed n x = AreListed n x.facts

AreListed-append : (n : ℕ) (fs gs : List Fact) → AreListed n fs → AreListed n gs → AreListed n (fs ++ gs)
AreListed-append n [] gs a b = b
AreListed-append n (f ∷ fs) gs a b = (a.0, AreListed-append n fs gs a.1 b)

AreListed-map : {X : Type 0} (n : ℕ) (f : X → Fact) (xs : List X) → ((x : X) → IsListed n (f x)) → AreListed n (map f xs)
AreListed-map n f [] h = tt
AreListed-map n f (x ∷ xs) h = (h x, AreListed-map n f xs h)

listed_in : (n : ℕ) (fs : List Fact) (f : Fact) → AreListed n fs → In f fs → IsListed n f
listed_in n [] f a i = absurd i
listed_in n (g ∷ gs) f a (inl same) = subst (IsListed n) same a.0
listed_in n (g ∷ gs) f a (inr i) = listed_in n gs f a.1 i

entry_listed : (n : ℕ) (fs : List Fact) (e : Entry) → AreListed n fs → In e (entries fs) → e.order.instrument < n
entry_listed n [] e a i = absurd i
entry_listed n (Entered x ∷ fs) e a (inl same) = subst (λ (y : Entry). y.order.instrument < n) same a.0
entry_listed n (Entered x ∷ fs) e a (inr i) = entry_listed n fs e a.1 i
entry_listed n (Traded t ∷ fs) e a i = entry_listed n fs e a.1 i
entry_listed n (Removed r ∷ fs) e a i = entry_listed n fs e a.1 i
entry_listed n (Held h ∷ fs) e a i = entry_listed n fs e a.1 i
entry_listed n (Unheld u ∷ fs) e a i = entry_listed n fs e a.1 i
entry_listed n (Asked r ∷ fs) e a i = entry_listed n fs e a.1 i
entry_listed n (Quoted q ∷ fs) e a i = entry_listed n fs e a.1 i
entry_listed n (Withdrawn w ∷ fs) e a i = entry_listed n fs e a.1 i
entry_listed n (Closed c ∷ fs) e a i = entry_listed n fs e a.1 i

held_listed : (n : ℕ) (fs : List Fact) (k : HeldSide) → AreListed n fs → In k (held_sides fs) → k.order.instrument < n
held_listed n [] k a i = absurd i
held_listed n (Held x ∷ fs) k a (inl same) = subst (λ (y : HeldSide). y.order.instrument < n) same a.0
held_listed n (Held x ∷ fs) k a (inr i) = held_listed n fs k a.1 i
held_listed n (Entered x ∷ fs) k a i = held_listed n fs k a.1 i
held_listed n (Traded t ∷ fs) k a i = held_listed n fs k a.1 i
held_listed n (Removed r ∷ fs) k a i = held_listed n fs k a.1 i
held_listed n (Unheld u ∷ fs) k a i = held_listed n fs k a.1 i
held_listed n (Asked r ∷ fs) k a i = held_listed n fs k a.1 i
held_listed n (Quoted q ∷ fs) k a i = held_listed n fs k a.1 i
held_listed n (Withdrawn w ∷ fs) k a i = held_listed n fs k a.1 i
held_listed n (Closed c ∷ fs) k a i = held_listed n fs k a.1 i

-- orders

known_listed : (file : List Instrument) (symbol : List ℕ) → is_unknown_instrument file symbol ≡ false → instrument_of file symbol < length file
known_listed file symbol h = ltb-true (instrument_of file symbol) (length file) (not-false (nat_lt (instrument_of file symbol) (length file)) h)

entry-AreListed : (n : ℕ) (e : Entry) (fs : List Fill) → e.order.instrument < n → AreListed n (entry_facts e fs)
entry-AreListed n e fs low = (low, AreListed-map n (λ f. Traded (trade_of e f)) fs (λ f. tt))

accepted-AreListed : (n : ℕ) (m : Market) (h : History) (o : OrderFact) (t : ℕ) → o.instrument < n → KeepsListed n (accepted m h o t)
accepted-AreListed n m h o t low = entry-AreListed n (entering h.facts o 0 t) (fills h.facts o) low

abbrev Count : Market → ℕ
Count m = length m.instruments

order-AreListed : (m : Market) (h : History) (s : Sender) (d : OrderMessage) (t : ℕ) → KeepsListed (Count m) (answer_order m h s d t)
order-AreListed m h s d t =
    first_of-each (KeepsListed (Count m)) (order_refusals m h s d t) (accepted m h (order_asked m s.who d) t) (tt, (tt, (tt, (tt, (tt, (tt, (tt, (tt, tt)))))))) (λ n. accepted-AreListed (Count m) m h (order_asked m s.who d) t (known_listed m.instruments d.symbol n.0))

cancel_of-AreListed : (n : ℕ) (m : Market) (h : History) (s : Sender) (d : CancelMessage) (k : Named) → KeepsListed n (answer_cancel_of m h s d k)
cancel_of-AreListed n m h s d IsUnknown = tt
cancel_of-AreListed n m h s d (IsHeld k) = first_of-each (KeepsListed n) (cancel_refusals h s d None) (held_cancelled m h s d k) (tt, tt) (λ x. (tt, tt))
cancel_of-AreListed n m h s d (IsResting r) = first_of-each (KeepsListed n) (cancel_refusals h s d (Some (standing r))) (cancelled m h s d r) (tt, tt) (λ x. (tt, tt))

replace_of-AreListed : (n : ℕ) (m : Market) (h : History) (s : Sender) (d : ReplaceMessage) (t : ℕ) (k : Named) → AreListed n h.facts → IsEntered h.facts k → KeepsListed n (answer_replace_of m h s d t k)
replace_of-AreListed n m h s d t IsUnknown a i = tt
replace_of-AreListed n m h s d t (IsHeld k) a i = first_of-each (KeepsListed n) (held_replace_refusals h s d) (replace_refused s d None IsHeldSide) (tt, tt) (λ x. tt)
replace_of-AreListed n m h s d t (IsResting r) a i =
    first_of-each (KeepsListed n) (replace_refusals m h s d r t) (replaced m h s d r t) (tt, (tt, (tt, (tt, (tt, (tt, (tt, tt)))))))
    (λ x. (tt, entry-AreListed n (entering h.facts (replacement d r) (filled r) t) (fills h.facts (replacement d r)) (entry_listed n h.facts r.entry a i)))

cross-AreListed : (m : Market) (h : History) (s : Sender) (d : CrossMessage) (t : ℕ) → KeepsListed (Count m) (answer_cross m h s d t)
cross-AreListed m h s d t =
    first_of-each (KeepsListed (Count m)) (cross_refusals m h s d t) (cross_accepted m h s d t) (tt, (tt, (tt, (tt, (tt, (tt, (tt, (tt, (tt, (tt, (tt, tt)))))))))))
    (λ n. AreListed-append (Count m) (accepted m h (side_order m s.who d (first_side d)) t).facts _ (accepted-AreListed (Count m) m h (side_order m s.who d (first_side d)) t (known_listed m.instruments d.symbol n.0)) (known_listed m.instruments d.symbol n.0, tt))

due-AreListed : (n : ℕ) (m : Market) (h : History) (k : HeldSide) → k.order.instrument < n → KeepsListed n (answer_due m h k)
due-AreListed n m h k low = (tt, first_of-each (KeepsListed n) (due_refusals m h k) (accepted m h k.order k.due) (tt, (tt, tt)) (λ x. accepted-AreListed n m h k.order k.due low))

-- no other answer adds an order or a held side

request-AreListed : (n : ℕ) (m : Market) (h : History) (s : Sender) (d : RequestMessage) (t : ℕ) → KeepsListed n (answer_request m h s d t)
request-AreListed n m h s d t = first_of-each (KeepsListed n) (request_refusals m h s d t) (request_accepted m (opened m h s d t)) (tt, (tt, (tt, (tt, (tt, (tt, (tt, (tt, (tt, (tt, tt)))))))))) (λ x. (tt, tt))

quote_of-AreListed : (n : ℕ) (m : Market) (h : History) (s : Sender) (d : QuoteMessage) (t : ℕ) (r : Option Room) → KeepsListed n (answer_quote_of m h s d t r)
quote_of-AreListed n m h s d t None = tt
quote_of-AreListed n m h s d t (Some r) = first_of-each (KeepsListed n) (quote_refusals m h s r d t) (quote_accepted m h s r d) (tt, (tt, (tt, (tt, (tt, (tt, (tt, (tt, tt)))))))) (λ x. (tt, tt))

withdrawn_or-AreListed : (n : ℕ) (m : Market) (h : History) (x : Answer) (qs : List RoomQuote) → KeepsListed n x → KeepsListed n (withdrawn_or m h x qs)
withdrawn_or-AreListed n m h x [] k = k
withdrawn_or-AreListed n m h x (q ∷ qs) k = AreListed-map n (λ (y : RoomQuote). Withdrawn (record { quote = y.number })) (q ∷ qs) (λ y. tt)

withdraw_one-AreListed : (n : ℕ) (m : Market) (h : History) (s : Sender) (t : ℕ) (id : Option (List ℕ)) → KeepsListed n (withdraw_one m h s t id)
withdraw_one-AreListed n m h s t None = tt
withdraw_one-AreListed n m h s t (Some id) = withdrawn_or-AreListed n m h (not_found s (Some id)) (filter (λ (q : RoomQuote). bytes_eq q.id id) (live_quotes h.facts s.who t)) tt

withdrawal_of-AreListed : (n : ℕ) (m : Market) (h : History) (s : Sender) (d : WithdrawalMessage) (t : ℕ) (one all : Bool) → KeepsListed n (answer_withdrawal_of m h s d t one all)
withdrawal_of-AreListed n m h s d t true all = withdraw_one-AreListed n m h s t d.quote_id
withdrawal_of-AreListed n m h s d t false true = withdrawn_or-AreListed n m h (not_found s None) (live_quotes h.facts s.who t) tt
withdrawal_of-AreListed n m h s d t false false = tt

hit_at-AreListed : (n : ℕ) (m : Market) (h : History) (s : Sender) (r : Room) (q : RoomQuote) (d : ResponseMessage) (t : ℕ) (side : Side) (p : Option ℤ) → KeepsListed n (answer_hit_at m h s r q d t side p)
hit_at-AreListed n m h s r q d t side None = tt
hit_at-AreListed n m h s r q d t side (Some p) = (tt, (tt, tt))

hit-AreListed : (n : ℕ) (m : Market) (h : History) (s : Sender) (r : Room) (q : RoomQuote) (d : ResponseMessage) (t : ℕ) (side : Option Side) → KeepsListed n (answer_hit m h s r q d t side)
hit-AreListed n m h s r q d t None = tt
hit-AreListed n m h s r q d t (Some side) = hit_at-AreListed n m h s r q d t side (price_for side q)

response_in-AreListed : (n : ℕ) (m : Market) (h : History) (s : Sender) (q : RoomQuote) (d : ResponseMessage) (t : ℕ) (r : Option Room) → KeepsListed n (answer_response_in m h s q d t r)
response_in-AreListed n m h s q d t None = tt
response_in-AreListed n m h s q d t (Some r) =
    first_of-each (KeepsListed n) (response_refusals m h s r q d t) (answer_hit m h s r q d t (taken_side r.side d.side)) (tt, (tt, (tt, (tt, ((tt, tt), (tt, tt)))))) (λ x. hit-AreListed n m h s r q d t (taken_side r.side d.side))

response_to-AreListed : (n : ℕ) (m : Market) (h : History) (s : Sender) (d : ResponseMessage) (t : ℕ) (q : Option RoomQuote) → KeepsListed n (answer_response_to m h s d t q)
response_to-AreListed n m h s d t None = tt
response_to-AreListed n m h s d t (Some q) = response_in-AreListed n m h s q d t (room_by_number h.facts q.room)

response-AreListed : (n : ℕ) (m : Market) (h : History) (s : Sender) (d : ResponseMessage) (t : ℕ) → KeepsListed n (answer_response m h s d t)
response-AreListed n m h s d t = first_of-each (KeepsListed n) (kind_refusals s d) (answer_response_to m h s d t (find_quote h.facts d.quote_id)) (tt, tt) (λ x. response_to-AreListed n m h s d t (find_quote h.facts d.quote_id))

market_data-AreListed : (n : ℕ) (m : Market) (h : History) (s : Sender) (d : MarketDataMessage) → KeepsListed n (answer_market_data m h s d)
market_data-AreListed n m h s d = first_of-each (KeepsListed n) (market_data_refusals m s d) (market_data m h s d) (tt, (tt, (tt, tt))) (λ x. tt)

-- any message, and a tick

app-AreListed : (m : Market) (h : History) (s : Sender) (x : App) (t : ℕ) → AreListed (Count m) h.facts → KeepsListed (Count m) (answer_app m h s x t)
app-AreListed m h s (QuoteRequest d) t a = request-AreListed (Count m) m h s d t
app-AreListed m h s (Quote d) t a = quote_of-AreListed (Count m) m h s d t (find_room h.facts d.request_id)
app-AreListed m h s (QuoteCancel d) t a = withdrawal_of-AreListed (Count m) m h s d t (d.cancel_type == 5) (d.cancel_type == 4)
app-AreListed m h s (QuoteResponse d) t a = response-AreListed (Count m) m h s d t
app-AreListed m h s (NewOrderSingle d) t a = order-AreListed m h s d t
app-AreListed m h s (OrderCancelRequest d) t a = cancel_of-AreListed (Count m) m h s d (named h s.who d.original_id)
app-AreListed m h s (OrderCancelReplaceRequest d) t a = replace_of-AreListed (Count m) m h s d t (named h s.who d.original_id) a (named-IsEntered h s.who d.original_id)
app-AreListed m h s (NewOrderCross d) t a = cross-AreListed m h s d t
app-AreListed m h s (MarketDataRequest d) t a = market_data-AreListed (Count m) m h s d
app-AreListed m h s (BusinessMessageReject d) t a = tt
app-AreListed m h s (QuoteStatusReport d) t a = tt
app-AreListed m h s (QuoteRequestReject d) t a = tt
app-AreListed m h s (ExecutionReport d) t a = tt
app-AreListed m h s (OrderCancelReject d) t a = tt
app-AreListed m h s (MarketDataSnapshot d) t a = tt
app-AreListed m h s (MarketDataRequestReject d) t a = tt
app-AreListed m h s (Unsupported kind) t a = tt

due_of-AreListed : (n : ℕ) (m : Market) (h : History) (t : ℕ) (k : Option HeldSide) → AreListed n h.facts → due h.facts t ≡ k → KeepsListed n (answer_due_of m h k)
due_of-AreListed n m h t None a e = tt
due_of-AreListed n m h t (Some k) a e =
    let among : In k (filter (λ (x : HeldSide). nat_le x.due t) (held h.facts)) = In-earliest (filter (λ (x : HeldSide). nat_le x.due t) (held h.facts)) k e in
    let kept = In-filter (λ (x : HeldSide). nat_le x.due t) (held h.facts) k among in
    let side = In-filter (λ (x : HeldSide). not (list_any (releases x) h.facts)) (held_sides h.facts) k kept.0 in
    due-AreListed n m h k (held_listed n h.facts k a side.0)

input-AreListed : (m : Market) (h : History) (i : Input) → AreListed (Count m) h.facts → KeepsListed (Count m) (answer_input m h i)
input-AreListed m h (Message taken t) a = app-AreListed m h _ taken.item.app t a
input-AreListed m h (Tick t) a = due_of-AreListed (Count m) m h t (due h.facts t) a refl

run-AreListed : (m : Market) (h : History) (is : List Input) → AreListed (Count m) h.facts → AreListed (Count m) (run_from m h is).history.facts
run-AreListed m h [] a = a
run-AreListed m h (i ∷ is) a = run-AreListed m (after h (answer_input m h i)) is (AreListed-append (Count m) h.facts (answer_input m h i).facts a (input-AreListed m h i a))

-- the delay of a listed instrument of a file is at least a second

second_at_least : (n : ℕ) → is_delay n ≡ true → 1000 ≤ n
second_at_least n h = let k = and_parts (nat_le 1000 n) (nat_le n 3600000) h in grind (arith, nat_tests)

row_delay : (x : Instrument) → is_instrument x ≡ true → is_delay x.delay ≡ true
row_delay x h = (and_parts (is_request_life x.request_life) (is_delay x.delay) (and_parts (is_least x.least) _ (and_parts (is_tick x.tick) _ (and_parts (is_symbol x.symbol) _ h).1).1).1).1

delay_of_rows : (xs : List Instrument) (k : ℕ) → list_all is_instrument xs ≡ true → k < length xs → 1000 ≤ delay_of xs k
delay_of_rows [] k h low = absurd (omega (arith, low))
delay_of_rows (x ∷ xs) zero h low = second_at_least x.delay (row_delay x (and_parts (is_instrument x) (list_all is_instrument xs) h).0)
delay_of_rows (x ∷ xs) (suc k) h low = delay_of_rows xs k (and_parts (is_instrument x) (list_all is_instrument xs) h).1 (omega (arith, low))

file_rows : (xs : List Instrument) → is_instrument_file xs ≡ true → list_all is_instrument xs ≡ true
file_rows xs h = (and_parts (list_all is_instrument xs) (are_distinct xs) (and_parts (nat_le (length xs) most_instruments) _ (and_parts (nat_le 1 (length xs)) _ h).1).1).0

pub linked_wait_a_second : (m : Market) (is : List Input) → is_instrument_file m.instruments ≡ true → LinkedOrdersWaitASecond m (run m is).history.facts
linked_wait_a_second m is file trade e f traded entered entered_later place linked =
    let facts : List Fact = (run m is).history.facts in
    let at = split_at facts (Traded trade) (In-from_Contains facts (Traded trade) traded) in
    let best = (lawful m is).best_order_trades at.0 trade e.number f.number (at.1, at.2) place in
    let all : AreListed (Count m) facts = run-AreListed m no_history is tt in
    let there : In (Entered best.0) facts = subst (In (Entered best.0)) (sym at.2) (In-append_left at.0 (Traded trade ∷ at.1) (Entered best.0) (In-from_Contains at.0 (Entered best.0) best.3)) in
    let listed : trade.instrument < Count m = subst (λ n. n < Count m) best.9 (listed_in (Count m) facts (Entered best.0) all there) in
    let long : 1000 ≤ delay_of m.instruments trade.instrument = delay_of_rows m.instruments trade.instrument (file_rows m.instruments file) listed in
    let waits : e.moment + delay_of m.instruments trade.instrument ≤ f.moment = (lawful m is).linked_orders_wait trade e f traded entered entered_later place linked in
    omega (arith, long, waits)
