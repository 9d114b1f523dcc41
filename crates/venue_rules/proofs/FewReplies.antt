use Rattle.std.proofs.Common.{◌≡◌, refl, ap, ℕ, ℤ, suc, ◌+◌, ◌≤◌, Bool, true, false, if◌then◌else◌, ◌==◌, nat_lt, List, [], ◌∷◌, ◌++◌, length, map, filter, flat_map, Option, Some, None, arith, length-append}
use Rattle.std.proofs.lemmas.List.{length-map}
use Rattle.std.specs.List.{enumerate_from}
use Rattle.std.proofs.lemmas.Bool.Decides.{nat_tests}
use Rattle.fix_dictionary.specs.declared.messages.App.{App}
use Rattle.fix_dictionary.specs.declared.messages.App.TheVariants.{QuoteRequest, Quote, QuoteCancel, QuoteResponse, QuoteStatusReport, QuoteRequestReject, NewOrderSingle, OrderCancelRequest, OrderCancelReplaceRequest, NewOrderCross, ExecutionReport, OrderCancelReject, MarketDataRequest, MarketDataSnapshot, MarketDataRequestReject, BusinessMessageReject, Unsupported}
use Rattle.fix_dictionary.specs.declared.messages.NewOrderSingle.{NewOrderSingle as OrderMessage}
use Rattle.fix_dictionary.specs.declared.messages.OrderCancelRequest.{OrderCancelRequest as CancelMessage}
use Rattle.fix_dictionary.specs.declared.messages.OrderCancelReplaceRequest.{OrderCancelReplaceRequest as ReplaceMessage}
use Rattle.fix_dictionary.specs.declared.messages.NewOrderCross.{NewOrderCross as CrossMessage}
use Rattle.fix_dictionary.specs.declared.messages.QuoteRequest.{QuoteRequest as RequestMessage}
use Rattle.fix_dictionary.specs.declared.messages.Quote.{Quote as QuoteMessage}
use Rattle.fix_dictionary.specs.declared.messages.QuoteResponse.{QuoteResponse as ResponseMessage}
use Rattle.fix_dictionary.specs.declared.messages.MarketDataRequest.{MarketDataRequest as MarketDataMessage}
use Rattle.fix_dictionary.specs.declared.values.Side.{Side}
use Rattle.venue_rules.specs.declared.facts.Fact.{Fact}
use Rattle.venue_rules.specs.declared.facts.Entry.{Entry}
use Rattle.venue_rules.specs.declared.facts.OrderFact.{OrderFact}
use Rattle.venue_rules.specs.declared.facts.HeldSide.{HeldSide}
use Rattle.venue_rules.specs.declared.facts.Room.{Room}
use Rattle.venue_rules.specs.declared.facts.RoomQuote.{RoomQuote}
use Rattle.venue_rules.specs.declared.replies.Reply.{Reply}
use Rattle.venue_rules.specs.declared.refusals.ChangeRefusal.TheVariants.{HeldSide as IsHeldSide}
use Rattle.venue_rules.specs.declared.replies.QuoteState.TheVariants.{Accepted}
use Rattle.venue_rules.specs.declared.replies.ReplyBody.TheVariants.{OrderEntered, OrderReplaced}
use Rattle.instruments.specs.Listing.{symbol_of}
use Rattle.venue_rules.specs.Market.{Market}
use Rattle.venue_rules.specs.Facts.{History, next_trade}
use Rattle.venue_rules.specs.Book.{Fill, Resting, accepts, against, filled, fills, is_killed, opposite, paired, resting, shares, side_capacity}
use Rattle.venue_rules.specs.Delay.{due}
use Rattle.venue_rules.specs.Rooms.{find_quote, find_room, first_quote, room_by_number}
use Rattle.venue_rules.specs.Entering.{entering, entry_reports, fill_reports, order_report, unfilled_reports}
use Rattle.venue_rules.specs.Answer.{Answer, Sender, numbered, reply}
use Rattle.venue_rules.specs.Orders.{accepted, answer_order, order_asked, order_refusals}
use Rattle.venue_rules.specs.Changes.{IsHeld, IsResting, IsUnknown, Named, answer_cancel_of, answer_replace_of, cancel_refusals, cancelled, held_cancelled, held_replace_refusals, named, replace_refusals, replace_refused, replaced, replacement, standing}
use Rattle.venue_rules.specs.Crosses.{answer_cross, answer_due, cross_accepted, cross_refusals, due_refusals, first_side, side_order}
use Rattle.venue_rules.specs.Requests.{answer_request, opened, recipient_room, recipients, request_accepted, request_refusals, request_sent}
use Rattle.venue_rules.specs.Quotes.{answer_quote_of, quote_accepted, quote_refusals, quote_sent, quote_status, quoted, shown_with}
use Rattle.venue_rules.specs.Responses.{answer_hit, answer_hit_at, answer_response, answer_response_in, answer_response_to, kind_refusals, price_for, response_refusals, taken_side}
use Rattle.venue_rules.specs.MarketData.{answer_market_data, market_data, market_data_refusals}
use Rattle.venue_rules.specs.Answers.{answer_app, type_of}
use Rattle.venue_rules.specs.Run.{Input, Message, Tick, answer_due_of, replies_to, run}
use Rattle.venue_rules.specs.Limits.{IsRising, RepliesAreFew, reply_room}
use Rattle.venue_rules.proofs.OpenRooms.{filter_short, first_of-each}
use Rattle.venue_rules.proofs.ShortSides.{IsShort}
use Rattle.venue_rules.proofs.ShortSidesEach.{run-IsShort}
use Rattle.venue_rules.proofs.Emitted.{withdrawals_few}

-- One input sends each participant few replies: an order at most two for each resting order of a side plus two, a
-- withdrawal one for each live quote.

abbrev Few : Answer → Type 0
Few x = length x.replies ≤ reply_room

-- orders

numbered-length : (n : ℕ) (fs : List (ℕ → Reply)) → length (numbered n fs) ≡ length fs
numbered-length n [] = refl
numbered-length n (f ∷ fs) = ap suc (numbered-length (n + 1) fs)

paired-short : (rs : List Resting) (qs : List ℕ) → length (paired rs qs) ≤ length rs
paired-short [] qs = omega arith
paired-short (r ∷ rs) [] = omega arith
paired-short (r ∷ rs) (q ∷ qs) = let k = paired-short rs qs in omega (arith, k)

unless_killed : (b : Bool) (fs : List Fill) (n : ℕ) → length fs ≤ n → length (if b then [] else fs) ≤ n
unless_killed true fs n h = omega arith
unless_killed false fs n h = h

-- at most as many fills as orders rest on the other side
fills-few : (facts : List Fact) (o : OrderFact) → IsShort facts → length (fills facts o) ≤ side_capacity
fills-few facts o short =
    let pairs : List Fill = paired (against facts o) (shares o.quantity (map (λ (r : Resting). r.left) (against facts o))) in
    let some : length (filter (λ (f : Fill). nat_lt 0 f.quantity) pairs) ≤ length pairs = filter_short (λ (f : Fill). nat_lt 0 f.quantity) pairs in
    let each : length pairs ≤ length (against facts o) = paired-short (against facts o) (shares o.quantity (map (λ (r : Resting). r.left) (against facts o))) in
    let there : length (against facts o) ≤ length (resting facts o.instrument (opposite o.side)) = filter_short (λ (r : Resting). accepts o.side o.price r.entry.order.price) (resting facts o.instrument (opposite o.side)) in
    let few : length (resting facts o.instrument (opposite o.side)) ≤ side_capacity = short o.instrument (opposite o.side) in
    unless_killed (is_killed o.life o.quantity _) (filter (λ (f : Fill). nat_lt 0 f.quantity) pairs) side_capacity (omega (arith, some, each, there, few))

fill_reports-length : (m : Market) (e : Entry) (all : List Fill) (trade j : ℕ) (fs : List Fill) → length (flat_map (fill_reports m e all trade) (enumerate_from j fs)) ≤ length fs + length fs
fill_reports-length m e all trade j [] = omega arith
fill_reports-length m e all trade j (f ∷ fs) = let k = fill_reports-length m e all trade (j + 1) fs in omega (arith, k)

unfilled-length : (x : ℕ → Reply) (b : Bool) → length (if b then x ∷ [] else []) ≤ 1
unfilled-length x true = omega arith
unfilled-length x false = omega arith

-- one report of the order, two of each fill, and one of a cancelled rest
entry-few : (m : Market) (facts : List Fact) (e : Entry) (fs : List Fill) (n : ℕ) (first : ℕ → Reply) → length fs ≤ side_capacity → length (numbered n (first ∷ entry_reports m facts e fs)) ≤ reply_room
entry-few m facts e fs n first few =
    let count : length (numbered n (first ∷ entry_reports m facts e fs)) ≡ suc (length (entry_reports m facts e fs)) = numbered-length n (first ∷ entry_reports m facts e fs) in
    let both : length (entry_reports m facts e fs) ≡ length (flat_map (fill_reports m e fs (next_trade facts)) (enumerate_from 0 fs)) + length (unfilled_reports m e fs) = length-append (flat_map (fill_reports m e fs (next_trade facts)) (enumerate_from 0 fs)) (unfilled_reports m e fs) in
    let two : length (flat_map (fill_reports m e fs (next_trade facts)) (enumerate_from 0 fs)) ≤ length fs + length fs = fill_reports-length m e fs (next_trade facts) 0 fs in
    let one : length (unfilled_reports m e fs) ≤ 1 = unfilled-length _ _ in
    omega (arith, count, both, two, one, few)

accepted-Few : (m : Market) (h : History) (o : OrderFact) (t : ℕ) → IsShort h.facts → Few (accepted m h o t)
accepted-Few m h o t short = entry-few m h.facts (entering h.facts o 0 t) (fills h.facts o) h.reports (λ n. reply o.who (OrderEntered (order_report m (entering h.facts o 0 t) o.quantity 0 n))) (fills-few h.facts o short)

-- one, two and three replies are within the bound

one_few : 1 ≤ reply_room
one_few = omega arith

two_few : 2 ≤ reply_room
two_few = omega arith

order-Few : (m : Market) (h : History) (s : Sender) (d : OrderMessage) (t : ℕ) → IsShort h.facts → Few (answer_order m h s d t)
order-Few m h s d t short =
    first_of-each Few (order_refusals m h s d t) (accepted m h (order_asked m s.who d) t) (one_few, (one_few, (one_few, (one_few, (one_few, (one_few, (one_few, (one_few, tt)))))))) (λ n. accepted-Few m h (order_asked m s.who d) t short)

cancel_of-Few : (m : Market) (h : History) (s : Sender) (d : CancelMessage) (k : Named) → Few (answer_cancel_of m h s d k)
cancel_of-Few m h s d IsUnknown = one_few
cancel_of-Few m h s d (IsHeld k) = first_of-each Few (cancel_refusals h s d None) (held_cancelled m h s d k) (one_few, tt) (λ n. one_few)
cancel_of-Few m h s d (IsResting r) = first_of-each Few (cancel_refusals h s d (Some (standing r))) (cancelled m h s d r) (one_few, tt) (λ n. one_few)

replace_of-Few : (m : Market) (h : History) (s : Sender) (d : ReplaceMessage) (t : ℕ) (k : Named) → IsShort h.facts → Few (answer_replace_of m h s d t k)
replace_of-Few m h s d t IsUnknown short = one_few
replace_of-Few m h s d t (IsHeld k) short = first_of-each Few (held_replace_refusals h s d) (replace_refused s d None IsHeldSide) (one_few, tt) (λ n. one_few)
replace_of-Few m h s d t (IsResting r) short =
    let o : OrderFact = replacement d r in
    let e : Entry = entering h.facts o (filled r) t in
    first_of-each Few (replace_refusals m h s d r t) (replaced m h s d r t) (one_few, (one_few, (one_few, (one_few, (one_few, (one_few, (one_few, tt)))))))
    (λ n. entry-few m h.facts e (fills h.facts o) h.reports (λ k. reply s.who (OrderReplaced (record { order = order_report m e o.quantity (filled r) k; original_id = d.original_id }))) (fills-few h.facts o short))

cross-Few : (m : Market) (h : History) (s : Sender) (d : CrossMessage) (t : ℕ) → IsShort h.facts → Few (answer_cross m h s d t)
cross-Few m h s d t short =
    first_of-each Few (cross_refusals m h s d t) (cross_accepted m h s d t) (two_few, (two_few, (two_few, (two_few, (one_few, (two_few, (two_few, (two_few, (two_few, (two_few, (two_few, tt))))))))))) (λ n. accepted-Few m h (side_order m s.who d (first_side d)) t short)

due-Few : (m : Market) (h : History) (k : HeldSide) → IsShort h.facts → Few (answer_due m h k)
due-Few m h k short = first_of-each Few (due_refusals m h k) (accepted m h k.order k.due) (one_few, (one_few, tt)) (λ n. accepted-Few m h k.order k.due short)

-- requests, quotes and responses

few_recipients : (n : ℕ) → nat_lt recipient_room n ≡ false → n ≤ reply_room
few_recipients n h = grind (arith, nat_tests)

request-Few : (m : Market) (h : History) (s : Sender) (d : RequestMessage) (t : ℕ) → Few (answer_request m h s d t)
request-Few m h s d t =
    first_of-each Few (request_refusals m h s d t) (request_accepted m (opened m h s d t)) (one_few, (one_few, (one_few, (one_few, (one_few, (one_few, (one_few, (one_few, (one_few, (one_few, tt))))))))))
    (λ n. sent (few_recipients (length (recipients m d)) n.1.1.1.1.1.1.0))
  where
    sent : length (recipients m d) ≤ reply_room → Few (request_accepted m (opened m h s d t))
    sent few = let count : length (map (request_sent m (opened m h s d t)) (recipients m d)) ≡ length (recipients m d) = length-map (recipients m d) (request_sent m (opened m h s d t)) in omega (arith, count, few)

shown-short : (m : Market) (h : History) (r : Room) (o : Option RoomQuote) (x y : Reply) → length (x ∷ (shown_with m h r o ++ (y ∷ []))) ≤ reply_room
shown-short m h r None x y = omega arith
shown-short m h r (Some q) x y = omega arith

quote_of-Few : (m : Market) (h : History) (s : Sender) (d : QuoteMessage) (t : ℕ) (r : Option Room) → Few (answer_quote_of m h s d t r)
quote_of-Few m h s d t None = one_few
quote_of-Few m h s d t (Some r) =
    first_of-each Few (quote_refusals m h s r d t) (quote_accepted m h s r d) (one_few, (one_few, (one_few, (one_few, (one_few, (one_few, (one_few, (one_few, tt))))))))
    (λ n. shown-short m h r (first_quote h.facts r.number) (quote_status s d (Some (symbol_of m.instruments r.instrument)) Accepted) (quote_sent m r (quoted h s r d)))

hit_at-Few : (m : Market) (h : History) (s : Sender) (r : Room) (q : RoomQuote) (d : ResponseMessage) (t : ℕ) (side : Side) (p : Option ℤ) → Few (answer_hit_at m h s r q d t side p)
hit_at-Few m h s r q d t side None = one_few
hit_at-Few m h s r q d t side (Some p) = two_few

hit-Few : (m : Market) (h : History) (s : Sender) (r : Room) (q : RoomQuote) (d : ResponseMessage) (t : ℕ) (side : Option Side) → Few (answer_hit m h s r q d t side)
hit-Few m h s r q d t None = one_few
hit-Few m h s r q d t (Some side) = hit_at-Few m h s r q d t side (price_for side q)

response_in-Few : (m : Market) (h : History) (s : Sender) (q : RoomQuote) (d : ResponseMessage) (t : ℕ) (r : Option Room) → Few (answer_response_in m h s q d t r)
response_in-Few m h s q d t None = one_few
response_in-Few m h s q d t (Some r) =
    first_of-each Few (response_refusals m h s r q d t) (answer_hit m h s r q d t (taken_side r.side d.side)) (one_few, (one_few, (one_few, (one_few, (two_few, (one_few, tt)))))) (λ n. hit-Few m h s r q d t (taken_side r.side d.side))

response_to-Few : (m : Market) (h : History) (s : Sender) (d : ResponseMessage) (t : ℕ) (q : Option RoomQuote) → Few (answer_response_to m h s d t q)
response_to-Few m h s d t None = one_few
response_to-Few m h s d t (Some q) = response_in-Few m h s q d t (room_by_number h.facts q.room)

response-Few : (m : Market) (h : History) (s : Sender) (d : ResponseMessage) (t : ℕ) → Few (answer_response m h s d t)
response-Few m h s d t = first_of-each Few (kind_refusals s d) (answer_response_to m h s d t (find_quote h.facts d.quote_id)) (one_few, tt) (λ n. response_to-Few m h s d t (find_quote h.facts d.quote_id))

market_data-Few : (m : Market) (h : History) (s : Sender) (d : MarketDataMessage) → Few (answer_market_data m h s d)
market_data-Few m h s d = first_of-each Few (market_data_refusals m s d) (market_data m h s d) (one_few, (one_few, (one_few, tt))) (λ n. one_few)

-- any message, and a tick

abbrev FewTo : ℕ → Answer → Type 0
FewTo j x = length (replies_to j x.replies) ≤ reply_room

few_to : (j : ℕ) (x : Answer) → Few x → FewTo j x
few_to j x few = let short : length (replies_to j x.replies) ≤ length x.replies = filter_short (λ (r : Reply). r.to == j) x.replies in omega (arith, short, few)

none_few : 0 ≤ reply_room
none_few = omega arith

app-Few : (m : Market) (is : List Input) (s : Sender) (a : App) (t j : ℕ) → IsRising 0 is t → IsShort (run m is).history.facts → FewTo j (answer_app m (run m is).history s a t)
app-Few m is s (QuoteRequest d) t j rising short = few_to j (answer_request m (run m is).history s d t) (request-Few m (run m is).history s d t)
app-Few m is s (Quote d) t j rising short = few_to j (answer_quote_of m (run m is).history s d t (find_room (run m is).history.facts d.request_id)) (quote_of-Few m (run m is).history s d t (find_room (run m is).history.facts d.request_id))
app-Few m is s (QuoteCancel d) t j rising short = let few = withdrawals_few m is t j s d rising in omega (arith, few)
app-Few m is s (QuoteResponse d) t j rising short = few_to j (answer_response m (run m is).history s d t) (response-Few m (run m is).history s d t)
app-Few m is s (NewOrderSingle d) t j rising short = few_to j (answer_order m (run m is).history s d t) (order-Few m (run m is).history s d t short)
app-Few m is s (OrderCancelRequest d) t j rising short = few_to j (answer_cancel_of m (run m is).history s d (named (run m is).history s.who d.original_id)) (cancel_of-Few m (run m is).history s d (named (run m is).history s.who d.original_id))
app-Few m is s (OrderCancelReplaceRequest d) t j rising short =
    few_to j (answer_replace_of m (run m is).history s d t (named (run m is).history s.who d.original_id)) (replace_of-Few m (run m is).history s d t (named (run m is).history s.who d.original_id) short)
app-Few m is s (NewOrderCross d) t j rising short = few_to j (answer_cross m (run m is).history s d t) (cross-Few m (run m is).history s d t short)
app-Few m is s (MarketDataRequest d) t j rising short = few_to j (answer_market_data m (run m is).history s d) (market_data-Few m (run m is).history s d)
app-Few m is s (BusinessMessageReject d) t j rising short = none_few
app-Few m is s (QuoteStatusReport d) t j rising short = few_to j (answer_app m (run m is).history s (QuoteStatusReport d) t) one_few
app-Few m is s (QuoteRequestReject d) t j rising short = few_to j (answer_app m (run m is).history s (QuoteRequestReject d) t) one_few
app-Few m is s (ExecutionReport d) t j rising short = few_to j (answer_app m (run m is).history s (ExecutionReport d) t) one_few
app-Few m is s (OrderCancelReject d) t j rising short = few_to j (answer_app m (run m is).history s (OrderCancelReject d) t) one_few
app-Few m is s (MarketDataSnapshot d) t j rising short = few_to j (answer_app m (run m is).history s (MarketDataSnapshot d) t) one_few
app-Few m is s (MarketDataRequestReject d) t j rising short = few_to j (answer_app m (run m is).history s (MarketDataRequestReject d) t) one_few
app-Few m is s (Unsupported kind) t j rising short = few_to j (answer_app m (run m is).history s (Unsupported kind) t) one_few

due_of-Few : (m : Market) (h : History) (k : Option HeldSide) → IsShort h.facts → Few (answer_due_of m h k)
due_of-Few m h None short = none_few
due_of-Few m h (Some k) short = due-Few m h k short

pub replies_few : (m : Market) → RepliesAreFew m
replies_few m is (Message taken t) j rising = app-Few m is (record { who = taken.from; number = taken.item.number; kind = type_of taken.item.app }) taken.item.app t j rising (run-IsShort m is)
replies_few m is (Tick t) j rising = few_to j (answer_due_of m (run m is).history (due (run m is).history.facts t)) (due_of-Few m (run m is).history (due (run m is).history.facts t) (run-IsShort m is))
