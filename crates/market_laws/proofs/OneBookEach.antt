use Rattle.std.proofs.Common.{◌≡◌, ◌≢◌, refl, ap, ◌∙◌, ℕ, ℤ, Bool, true, false, ◌==◌, ◌&&◌, List, [], ◌∷◌, map, bytes_eq, Option, Some, None}
use Rattle.fix_dictionary.specs.declared.messages.App.{App}
use Rattle.fix_dictionary.specs.declared.messages.App.TheVariants.{QuoteRequest, Quote, QuoteCancel, QuoteResponse, QuoteStatusReport, QuoteRequestReject, NewOrderSingle, OrderCancelRequest, OrderCancelReplaceRequest, NewOrderCross, ExecutionReport, OrderCancelReject, MarketDataRequest, MarketDataSnapshot, MarketDataRequestReject, BusinessMessageReject, Unsupported}
use Rattle.fix_dictionary.specs.declared.messages.NewOrderSingle.{NewOrderSingle as OrderMessage}
use Rattle.fix_dictionary.specs.declared.messages.OrderCancelRequest.{OrderCancelRequest as CancelMessage}
use Rattle.fix_dictionary.specs.declared.messages.OrderCancelReplaceRequest.{OrderCancelReplaceRequest as ReplaceMessage}
use Rattle.fix_dictionary.specs.declared.messages.NewOrderCross.{NewOrderCross as CrossMessage}
use Rattle.fix_dictionary.specs.declared.messages.QuoteRequest.{QuoteRequest as RequestMessage}
use Rattle.fix_dictionary.specs.declared.messages.Quote.{Quote as QuoteMessage}
use Rattle.fix_dictionary.specs.declared.messages.QuoteCancel.{QuoteCancel as WithdrawalMessage}
use Rattle.fix_dictionary.specs.declared.messages.QuoteResponse.{QuoteResponse as ResponseMessage}
use Rattle.fix_dictionary.specs.declared.messages.MarketDataRequest.{MarketDataRequest as MarketDataMessage}
use Rattle.fix_dictionary.specs.declared.values.Side.{Side}
use Rattle.instruments.specs.Listing.{symbol_of}
use Rattle.venue_rules.specs.declared.facts.Fact.{Fact}
use Rattle.venue_rules.specs.declared.facts.Fact.TheVariants.{Withdrawn}
use Rattle.venue_rules.specs.declared.facts.OrderFact.{OrderFact}
use Rattle.venue_rules.specs.declared.facts.HeldSide.{HeldSide}
use Rattle.venue_rules.specs.declared.facts.Room.{Room}
use Rattle.venue_rules.specs.declared.facts.RoomQuote.{RoomQuote}
use Rattle.venue_rules.specs.declared.refusals.ChangeRefusal.TheVariants.{HeldSide as IsHeldSide}
use Rattle.venue_rules.specs.Market.{Market}
use Rattle.venue_rules.specs.Facts.{History, entries}
use Rattle.venue_rules.specs.Book.{Resting, filled, find_order, left, resting, rests, with_left}
use Rattle.venue_rules.specs.Delay.{due, find_held}
use Rattle.venue_rules.specs.Entering.{entering}
use Rattle.venue_rules.specs.Answer.{Answer, Sender, first_of}
use Rattle.venue_rules.specs.Orders.{accepted, answer_order, order_asked, order_refusals}
use Rattle.venue_rules.specs.Changes.{Named, IsResting, IsHeld, IsUnknown, named, standing, answer_cancel_of, answer_replace_of, cancel_refusals, held_replace_refusals, replace_refusals, replace_refused, cancelled, held_cancelled, replaced, replacement}
use Rattle.venue_rules.specs.Crosses.{answer_cross, answer_due, cross_accepted, cross_refusals, due_refusals, first_side, side_order}
use Rattle.venue_rules.specs.Requests.{answer_request, opened, request_accepted, request_refusals}
use Rattle.venue_rules.specs.Quotes.{answer_quote_of, quote_accepted, quote_refusals}
use Rattle.venue_rules.specs.Rooms.{find_room, find_quote, live_quotes, room_by_number}
use Rattle.venue_rules.specs.Withdrawals.{answer_withdrawal_of, not_found, withdraw_one, withdrawn_or}
use Rattle.venue_rules.specs.Responses.{answer_hit, answer_hit_at, answer_response, answer_response_in, answer_response_to, kind_refusals, price_for, response_refusals, taken_side}
use Rattle.venue_rules.specs.MarketData.{answer_market_data, market_data, market_data_refusals}
use Rattle.venue_rules.specs.Answers.{answer_app}
use Rattle.venue_rules.specs.Run.{Input, Message, Tick, answer_due_of, answer_input, run}
use Rattle.venue_rules.proofs.Members.{In, In-find}
use Rattle.venue_rules.proofs.Ranks.{with_left_from}
use Rattle.venue_rules.proofs.OpenRooms.{EachRefusal, first_of-each}
use Rattle.venue_rules.proofs.MoreInputLemmas.{history_goes_on}
use Rattle.venue_rules.proofs.EveryRun.{lawful}
use Rattle.market_laws.specs.OneBook.{OneBookChanges, reported_symbol}
use Rattle.market_laws.proofs.OneBook.{AreElsewhere, AreElsewhere-append, AreNumbered, entry_elsewhere, not_its_number, resting_stays}

-- Each answer leaves the resting orders of an instrument as they are, unless it begins with a report of its order.

-- the facts of the answer are elsewhere, whatever it begins with
abbrev IsQuiet : ℕ → List Fact → Answer → Type 0
IsQuiet x facts a = AreElsewhere x facts a.facts

-- they are, unless the answer begins with a report of an order of this instrument
abbrev LeavesAlone : Market → ℕ → List Fact → Answer → Type 0
LeavesAlone m x facts a = reported_symbol a.replies ≢ Some (symbol_of m.instruments x) → AreElsewhere x facts a.facts

quiet_refusals : (m : Market) (x : ℕ) (facts : List Fact) (rs : List (Bool × Answer)) → EachRefusal (IsQuiet x facts) rs → EachRefusal (LeavesAlone m x facts) rs
quiet_refusals m x facts [] k = tt
quiet_refusals m x facts (r ∷ rs) k = ((λ other. k.0), quiet_refusals m x facts rs k.1)

first_of-alone : (m : Market) (x : ℕ) (facts : List Fact) (rs : List (Bool × Answer)) (a : Answer) → EachRefusal (IsQuiet x facts) rs → LeavesAlone m x facts a → LeavesAlone m x facts (first_of rs a)
first_of-alone m x facts rs a k j = first_of-each (LeavesAlone m x facts) rs a (quiet_refusals m x facts rs k) (λ n. j)

-- orders

accepted-alone : (m : Market) (h : History) (o : OrderFact) (t x : ℕ) → AreNumbered h.facts → LeavesAlone m x h.facts (accepted m h o t)
accepted-alone m h o t x n other = entry_elsewhere h.facts n x (entering h.facts o 0 t) refl (λ e. other (ap (λ k. Some (symbol_of m.instruments k)) e))

order-alone : (m : Market) (h : History) (s : Sender) (d : OrderMessage) (t x : ℕ) → AreNumbered h.facts → LeavesAlone m x h.facts (answer_order m h s d t)
order-alone m h s d t x n = first_of-alone m x h.facts (order_refusals m h s d t) (accepted m h (order_asked m s.who d) t) (tt, (tt, (tt, (tt, (tt, (tt, (tt, (tt, tt)))))))) (accepted-alone m h (order_asked m s.who d) t x n)

-- a cancelled or replaced order had entered

abbrev HadEntered : List Fact → Named → Type 0
HadEntered facts (IsResting r) = In r.entry (entries facts)
HadEntered facts (IsHeld k) = Unit {0}
HadEntered facts IsUnknown = Unit {0}

held_had : (facts : List Fact) (k : Option HeldSide) → HadEntered facts (elim k [ Some k ↦ IsHeld k | None ↦ IsUnknown ])
held_had facts None = tt
held_had facts (Some k) = tt

order_had : (facts : List Fact) (r : Option Resting) (k : Option HeldSide) → ((y : Resting) → r ≡ Some y → In y.entry (entries facts)) → HadEntered facts (elim r [ Some r ↦ IsResting r | None ↦ elim k [ Some k ↦ IsHeld k | None ↦ IsUnknown ] ])
order_had facts (Some r) k h = h r refl
order_had facts None k h = held_had facts k

found_had : (facts : List Fact) (who : ℕ) (id : List ℕ) (y : Resting) → find_order facts who id ≡ Some y → In y.entry (entries facts)
found_had facts who id y e =
    (with_left_from (left facts) (entries facts) y (In-find (λ (r : Resting). rests r.entry.order.instrument r.entry.order.side r && (r.entry.order.who == who && bytes_eq r.entry.order.id id)) (map (with_left (left facts)) (entries facts)) y e).0).0

named_had : (h : History) (who : ℕ) (id : List ℕ) → HadEntered h.facts (named h who id)
named_had h who id = order_had h.facts (find_order h.facts who id) (find_held h.facts who id) (found_had h.facts who id)

cancelled-alone : (m : Market) (h : History) (s : Sender) (d : CancelMessage) (r : Resting) (x : ℕ) → AreNumbered h.facts → In r.entry (entries h.facts) → LeavesAlone m x h.facts (cancelled m h s d r)
cancelled-alone m h s d r x n there other = ((λ e i here same. not_its_number h.facts n x r.entry e there (λ j. other (ap (λ k. Some (symbol_of m.instruments k)) j)) i here same), tt)

cancel_of-alone : (m : Market) (h : History) (s : Sender) (d : CancelMessage) (k : Named) (x : ℕ) → AreNumbered h.facts → HadEntered h.facts k → LeavesAlone m x h.facts (answer_cancel_of m h s d k)
cancel_of-alone m h s d IsUnknown x n there = λ other. tt
cancel_of-alone m h s d (IsHeld k) x n there = first_of-alone m x h.facts (cancel_refusals h s d None) (held_cancelled m h s d k) (tt, tt) (λ other. (tt, tt))
cancel_of-alone m h s d (IsResting r) x n there = first_of-alone m x h.facts (cancel_refusals h s d (Some (standing r))) (cancelled m h s d r) (tt, tt) (cancelled-alone m h s d r x n there)

replaced-alone : (m : Market) (h : History) (s : Sender) (d : ReplaceMessage) (r : Resting) (t x : ℕ) → AreNumbered h.facts → In r.entry (entries h.facts) → LeavesAlone m x h.facts (replaced m h s d r t)
replaced-alone m h s d r t x n there other =
    let away : r.entry.order.instrument ≡ x → ⊥ = λ j. other (ap (λ k. Some (symbol_of m.instruments k)) j) in (
      (λ e i here same. not_its_number h.facts n x r.entry e there away i here same),
      entry_elsewhere h.facts n x (entering h.facts (replacement d r) (filled r) t) refl away,
    )

replace_of-alone : (m : Market) (h : History) (s : Sender) (d : ReplaceMessage) (t : ℕ) (k : Named) (x : ℕ) → AreNumbered h.facts → HadEntered h.facts k → LeavesAlone m x h.facts (answer_replace_of m h s d t k)
replace_of-alone m h s d t IsUnknown x n there = λ other. tt
replace_of-alone m h s d t (IsHeld k) x n there = first_of-alone m x h.facts (held_replace_refusals h s d) (replace_refused s d None IsHeldSide) (tt, tt) (λ other. tt)
replace_of-alone m h s d t (IsResting r) x n there = first_of-alone m x h.facts (replace_refusals m h s d r t) (replaced m h s d r t) (tt, (tt, (tt, (tt, (tt, (tt, (tt, tt))))))) (replaced-alone m h s d r t x n there)

-- crosses, and held sides as they enter

cross_accepted-alone : (m : Market) (h : History) (s : Sender) (d : CrossMessage) (t x : ℕ) → AreNumbered h.facts → LeavesAlone m x h.facts (cross_accepted m h s d t)
cross_accepted-alone m h s d t x n other =
    let o : OrderFact = side_order m s.who d (first_side d) in
    AreElsewhere-append x h.facts (accepted m h o t).facts _ (accepted-alone m h o t x n other) (tt, tt)

cross-alone : (m : Market) (h : History) (s : Sender) (d : CrossMessage) (t x : ℕ) → AreNumbered h.facts → LeavesAlone m x h.facts (answer_cross m h s d t)
cross-alone m h s d t x n = first_of-alone m x h.facts (cross_refusals m h s d t) (cross_accepted m h s d t) (tt, (tt, (tt, (tt, (tt, (tt, (tt, (tt, (tt, (tt, (tt, tt))))))))))) (cross_accepted-alone m h s d t x n)

due-alone : (m : Market) (h : History) (k : HeldSide) (x : ℕ) → AreNumbered h.facts → LeavesAlone m x h.facts (answer_due m h k)
due-alone m h k x n other = (tt, first_of-alone m x h.facts (due_refusals m h k) (accepted m h k.order k.due) (tt, (tt, tt)) (accepted-alone m h k.order k.due x n) other)

-- requests, quotes and responses name no order of the book

request-quiet : (m : Market) (h : History) (s : Sender) (d : RequestMessage) (t x : ℕ) → IsQuiet x h.facts (answer_request m h s d t)
request-quiet m h s d t x = first_of-each (IsQuiet x h.facts) (request_refusals m h s d t) (request_accepted m (opened m h s d t)) (tt, (tt, (tt, (tt, (tt, (tt, (tt, (tt, (tt, (tt, tt)))))))))) (λ n. (tt, tt))

quote_of-quiet : (m : Market) (h : History) (s : Sender) (d : QuoteMessage) (t : ℕ) (r : Option Room) (x : ℕ) → IsQuiet x h.facts (answer_quote_of m h s d t r)
quote_of-quiet m h s d t None x = tt
quote_of-quiet m h s d t (Some r) x = first_of-each (IsQuiet x h.facts) (quote_refusals m h s r d t) (quote_accepted m h s r d) (tt, (tt, (tt, (tt, (tt, (tt, (tt, (tt, tt)))))))) (λ n. (tt, tt))

withdrawn_elsewhere : (x : ℕ) (facts : List Fact) (qs : List RoomQuote) → AreElsewhere x facts (map (λ (q : RoomQuote). Withdrawn (record { quote = q.number })) qs)
withdrawn_elsewhere x facts [] = tt
withdrawn_elsewhere x facts (q ∷ qs) = (tt, withdrawn_elsewhere x facts qs)

withdrawn_or-quiet : (m : Market) (h : History) (x : ℕ) (a : Answer) (qs : List RoomQuote) → IsQuiet x h.facts a → IsQuiet x h.facts (withdrawn_or m h a qs)
withdrawn_or-quiet m h x a [] k = k
withdrawn_or-quiet m h x a (q ∷ qs) k = withdrawn_elsewhere x h.facts (q ∷ qs)

withdraw_one-quiet : (m : Market) (h : History) (s : Sender) (t : ℕ) (id : Option (List ℕ)) (x : ℕ) → IsQuiet x h.facts (withdraw_one m h s t id)
withdraw_one-quiet m h s t None x = tt
withdraw_one-quiet m h s t (Some id) x = withdrawn_or-quiet m h x (not_found s (Some id)) _ tt

withdrawal_of-quiet : (m : Market) (h : History) (s : Sender) (d : WithdrawalMessage) (t : ℕ) (one all : Bool) (x : ℕ) → IsQuiet x h.facts (answer_withdrawal_of m h s d t one all)
withdrawal_of-quiet m h s d t true all x = withdraw_one-quiet m h s t d.quote_id x
withdrawal_of-quiet m h s d t false true x = withdrawn_or-quiet m h x (not_found s None) (live_quotes h.facts s.who t) tt
withdrawal_of-quiet m h s d t false false x = tt

hit_at-quiet : (m : Market) (h : History) (s : Sender) (r : Room) (q : RoomQuote) (d : ResponseMessage) (t : ℕ) (side : Side) (p : Option ℤ) (x : ℕ) → IsQuiet x h.facts (answer_hit_at m h s r q d t side p)
hit_at-quiet m h s r q d t side None x = tt
hit_at-quiet m h s r q d t side (Some p) x = ((λ e i here. refl), (tt, tt))

hit-quiet : (m : Market) (h : History) (s : Sender) (r : Room) (q : RoomQuote) (d : ResponseMessage) (t : ℕ) (side : Option Side) (x : ℕ) → IsQuiet x h.facts (answer_hit m h s r q d t side)
hit-quiet m h s r q d t None x = tt
hit-quiet m h s r q d t (Some side) x = hit_at-quiet m h s r q d t side (price_for side q) x

response_in-quiet : (m : Market) (h : History) (s : Sender) (q : RoomQuote) (d : ResponseMessage) (t : ℕ) (r : Option Room) (x : ℕ) → IsQuiet x h.facts (answer_response_in m h s q d t r)
response_in-quiet m h s q d t None x = tt
response_in-quiet m h s q d t (Some r) x = first_of-each (IsQuiet x h.facts) (response_refusals m h s r q d t) (answer_hit m h s r q d t (taken_side r.side d.side)) (tt, (tt, (tt, (tt, ((tt, tt), (tt, tt)))))) (λ n. hit-quiet m h s r q d t (taken_side r.side d.side) x)

response_to-quiet : (m : Market) (h : History) (s : Sender) (d : ResponseMessage) (t : ℕ) (q : Option RoomQuote) (x : ℕ) → IsQuiet x h.facts (answer_response_to m h s d t q)
response_to-quiet m h s d t None x = tt
response_to-quiet m h s d t (Some q) x = response_in-quiet m h s q d t (room_by_number h.facts q.room) x

response-quiet : (m : Market) (h : History) (s : Sender) (d : ResponseMessage) (t x : ℕ) → IsQuiet x h.facts (answer_response m h s d t)
response-quiet m h s d t x = first_of-each (IsQuiet x h.facts) (kind_refusals s d) (answer_response_to m h s d t (find_quote h.facts d.quote_id)) (tt, tt) (λ n. response_to-quiet m h s d t (find_quote h.facts d.quote_id) x)

market_data-quiet : (m : Market) (h : History) (s : Sender) (d : MarketDataMessage) (x : ℕ) → IsQuiet x h.facts (answer_market_data m h s d)
market_data-quiet m h s d x = first_of-each (IsQuiet x h.facts) (market_data_refusals m s d) (market_data m h s d) (tt, (tt, (tt, tt))) (λ n. tt)

-- any message, and a tick

app-alone : (m : Market) (h : History) (s : Sender) (a : App) (t x : ℕ) → AreNumbered h.facts → LeavesAlone m x h.facts (answer_app m h s a t)
app-alone m h s (QuoteRequest d) t x n other = request-quiet m h s d t x
app-alone m h s (Quote d) t x n other = quote_of-quiet m h s d t (find_room h.facts d.request_id) x
app-alone m h s (QuoteCancel d) t x n other = withdrawal_of-quiet m h s d t (d.cancel_type == 5) (d.cancel_type == 4) x
app-alone m h s (QuoteResponse d) t x n other = response-quiet m h s d t x
app-alone m h s (NewOrderSingle d) t x n other = order-alone m h s d t x n other
app-alone m h s (OrderCancelRequest d) t x n other = cancel_of-alone m h s d (named h s.who d.original_id) x n (named_had h s.who d.original_id) other
app-alone m h s (OrderCancelReplaceRequest d) t x n other = replace_of-alone m h s d t (named h s.who d.original_id) x n (named_had h s.who d.original_id) other
app-alone m h s (NewOrderCross d) t x n other = cross-alone m h s d t x n other
app-alone m h s (MarketDataRequest d) t x n other = market_data-quiet m h s d x
app-alone m h s (BusinessMessageReject d) t x n other = tt
app-alone m h s (QuoteStatusReport d) t x n other = tt
app-alone m h s (QuoteRequestReject d) t x n other = tt
app-alone m h s (ExecutionReport d) t x n other = tt
app-alone m h s (OrderCancelReject d) t x n other = tt
app-alone m h s (MarketDataSnapshot d) t x n other = tt
app-alone m h s (MarketDataRequestReject d) t x n other = tt
app-alone m h s (Unsupported kind) t x n other = tt

due_of-alone : (m : Market) (h : History) (k : Option HeldSide) (x : ℕ) → AreNumbered h.facts → LeavesAlone m x h.facts (answer_due_of m h k)
due_of-alone m h None x n other = tt
due_of-alone m h (Some k) x n other = due-alone m h k x n other

input-alone : (m : Market) (h : History) (i : Input) (x : ℕ) → AreNumbered h.facts → LeavesAlone m x h.facts (answer_input m h i)
input-alone m h (Message taken t) x n other = app-alone m h _ taken.item.app t x n other
input-alone m h (Tick t) x n other = due_of-alone m h (due h.facts t) x n other

pub one_book_changes : (m : Market) (is : List Input) → OneBookChanges m is
one_book_changes m is i x side other =
    let h : History = (run m is).history in
    ap (λ (k : History). resting k.facts x side) (history_goes_on m is i) ∙ resting_stays x side h.facts (answer_input m h i).facts (input-alone m h i x (lawful m is).numbers_are_places.0 other)
