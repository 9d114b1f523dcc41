use Rattle.std.proofs.Common.{◌≡◌, refl, sym, subst, ℕ, ℤ, ◌<◌, ◌≤◌, Bool, true, false, ◌&&◌, ◌==◌, nat_lt, nat_le, List, [], ◌∷◌, ◌++◌, length, map, filter, bytes_eq, Option, Some, None, arith, append_assoc, append-nil, lt-ltb, eq-eqb}
use Rattle.std.proofs.lemmas.Bool.{true≢false, and_parts}
use Rattle.std.proofs.lemmas.Bool.Decides.{nat_tests}
use Rattle.fix_dictionary.specs.declared.messages.App.{App}
use Rattle.fix_dictionary.specs.declared.messages.App.TheVariants.{QuoteRequest, Quote, QuoteCancel, QuoteResponse, QuoteStatusReport, QuoteRequestReject, NewOrderSingle, OrderCancelRequest, OrderCancelReplaceRequest, NewOrderCross, ExecutionReport, OrderCancelReject, MarketDataRequest, MarketDataSnapshot, MarketDataRequestReject, BusinessMessageReject, Unsupported}
use Rattle.fix_dictionary.specs.declared.messages.NewOrderSingle.{NewOrderSingle as OrderMessage}
use Rattle.fix_dictionary.specs.declared.messages.OrderCancelRequest.{OrderCancelRequest as CancelMessage}
use Rattle.fix_dictionary.specs.declared.messages.OrderCancelReplaceRequest.{OrderCancelReplaceRequest as ReplaceMessage}
use Rattle.fix_dictionary.specs.declared.messages.NewOrderCross.{NewOrderCross as CrossMessage}
use Rattle.fix_dictionary.specs.declared.messages.QuoteRequest.{QuoteRequest as RequestMessage}
use Rattle.fix_dictionary.specs.declared.messages.Quote.{Quote as QuoteMessage}
use Rattle.fix_dictionary.specs.declared.messages.QuoteCancel.{QuoteCancel as WithdrawalMessage}
use Rattle.fix_dictionary.specs.declared.messages.QuoteResponse.{QuoteResponse as ResponseMessage}
use Rattle.fix_dictionary.specs.declared.messages.MarketDataRequest.{MarketDataRequest as MarketDataMessage}
use Rattle.fix_dictionary.specs.declared.values.Side.{Side}
use Rattle.venue_rules.specs.declared.facts.Fact.{Fact}
use Rattle.venue_rules.specs.declared.facts.Fact.TheVariants.{Removed, Unheld, Withdrawn}
use Rattle.venue_rules.specs.declared.facts.OrderFact.{OrderFact}
use Rattle.venue_rules.specs.declared.facts.HeldSide.{HeldSide}
use Rattle.venue_rules.specs.declared.facts.Release.{Release}
use Rattle.venue_rules.specs.declared.facts.Removal.{Removal}
use Rattle.venue_rules.specs.declared.facts.Room.{Room}
use Rattle.venue_rules.specs.declared.facts.RoomQuote.{RoomQuote}
use Rattle.venue_rules.specs.declared.refusals.ChangeRefusal.TheVariants.{HeldSide as IsHeldSide}
use Rattle.venue_rules.specs.Market.{Market}
use Rattle.venue_rules.specs.Facts.{History, entries, no_history}
use Rattle.venue_rules.specs.Book.{Resting, filled, filled_by, fills, find_order, is_day, is_side_full, left, resting, rests, side_capacity, with_left}
use Rattle.venue_rules.specs.Delay.{due, find_held}
use Rattle.venue_rules.specs.Rooms.{find_quote, find_room, live_quotes, room_by_number}
use Rattle.venue_rules.specs.Entering.{entering, entry_facts}
use Rattle.venue_rules.specs.Answer.{Answer, Sender, first_of}
use Rattle.venue_rules.specs.Orders.{accepted, answer_order, order_asked, order_refusals}
use Rattle.venue_rules.specs.Changes.{IsHeld, IsResting, IsUnknown, Named, answer_cancel_of, answer_replace_of, cancel_refusals, cancelled, held_cancelled, held_replace_refusals, named, replace_refusals, replace_refused, replaced, replacement, standing}
use Rattle.venue_rules.specs.Crosses.{answer_cross, answer_due, cross_accepted, cross_refusals, due_refusals, first_side, side_order}
use Rattle.venue_rules.specs.Requests.{answer_request, opened, request_accepted, request_refusals}
use Rattle.venue_rules.specs.Quotes.{answer_quote_of, quote_accepted, quote_refusals}
use Rattle.venue_rules.specs.Withdrawals.{answer_withdrawal_of, not_found, withdraw_one, withdrawn_or}
use Rattle.venue_rules.specs.Responses.{answer_hit, answer_hit_at, answer_response, answer_response_in, answer_response_to, kind_refusals, price_for, response_refusals, taken_side}
use Rattle.venue_rules.specs.MarketData.{answer_market_data, market_data, market_data_refusals}
use Rattle.venue_rules.specs.Answers.{answer_app}
use Rattle.venue_rules.specs.Run.{Input, Message, Tick, after, answer_due_of, answer_input, run, run_from}
use Rattle.venue_rules.specs.Limits.{SidesAreShort}
use Rattle.venue_rules.proofs.Members.{In, In-find}
use Rattle.venue_rules.proofs.Ranks.{with_left_from}
use Rattle.venue_rules.proofs.Lefts.{resting-unheld}
use Rattle.venue_rules.proofs.OpenRooms.{first_of-each}
use Rattle.venue_rules.proofs.ShortSides.{IsShort, entered-IsShort, one_left, quiet-IsShort}

-- Every answer keeps the sides within capacity.

abbrev KeepsShort : List Fact → Answer → Type 0
KeepsShort facts x = IsShort (facts ++ x.facts)

no_change : (facts : List Fact) → IsShort facts → IsShort (facts ++ [])
no_change facts short = subst IsShort (sym (append-nil facts)) short

second_false : (a b : Bool) → (a && b) ≡ false → a ≡ true → b ≡ false
second_false true b h k = h
second_false false b h k = absurd (true≢false (sym k))

below : (n : ℕ) → nat_le side_capacity n ≡ false → n < side_capacity
below n h = grind (arith, nat_tests)

-- a side that is not full has capacity for the rest
room_for : (facts : List Fact) (o : OrderFact) → is_side_full facts o ≡ false → is_day o.life ≡ true → filled_by (fills facts o) < o.quantity → length (resting facts o.instrument o.side) < side_capacity
room_for facts o h day less =
    below (length (resting facts o.instrument o.side))
    (second_false (nat_lt (filled_by (fills facts o)) o.quantity) (nat_le side_capacity (length (resting facts o.instrument o.side)))
    (second_false (is_day o.life) _ h day) (lt-ltb (filled_by (fills facts o)) o.quantity less))

accepted-IsShort : (m : Market) (h : History) (o : OrderFact) (t : ℕ) → IsShort h.facts → is_side_full h.facts o ≡ false → KeepsShort h.facts (accepted m h o t)
accepted-IsShort m h o t short h0 = entered-IsShort h.facts (entering h.facts o 0 t) (fills h.facts o) short (room_for h.facts o h0)

order-IsShort : (m : Market) (h : History) (s : Sender) (d : OrderMessage) (t : ℕ) → IsShort h.facts → KeepsShort h.facts (answer_order m h s d t)
order-IsShort m h s d t short =
    let same : IsShort (h.facts ++ []) = no_change h.facts short in
    first_of-each (KeepsShort h.facts) (order_refusals m h s d t) (accepted m h (order_asked m s.who d) t) (same, (same, (same, (same, (same, (same, (same, (same, tt))))))))
    (λ n. accepted-IsShort m h (order_asked m s.who d) t short n.1.1.1.1.1.1.1.0)

-- a replaced order rested on that side

abbrev RestsThere : List Fact → Named → Type 0
RestsThere facts (IsResting r) = In r.entry (entries facts) × (rests r.entry.order.instrument r.entry.order.side (with_left (left facts) r.entry) ≡ true)
RestsThere facts (IsHeld k) = Unit {0}
RestsThere facts IsUnknown = Unit {0}

held_there : (facts : List Fact) (k : Option HeldSide) → RestsThere facts (elim k [ Some k ↦ IsHeld k | None ↦ IsUnknown ])
held_there facts None = tt
held_there facts (Some k) = tt

order_there : (facts : List Fact) (r : Option Resting) (k : Option HeldSide) → ((x : Resting) → r ≡ Some x → RestsThere facts (IsResting x)) → RestsThere facts (elim r [ Some r ↦ IsResting r | None ↦ elim k [ Some k ↦ IsHeld k | None ↦ IsUnknown ] ])
order_there facts (Some r) k h = h r refl
order_there facts None k h = held_there facts k

found_there : (facts : List Fact) (who : ℕ) (id : List ℕ) (x : Resting) → find_order facts who id ≡ Some x → RestsThere facts (IsResting x)
found_there facts who id x e =
    let k = In-find (λ (r : Resting). rests r.entry.order.instrument r.entry.order.side r && (r.entry.order.who == who && bytes_eq r.entry.order.id id)) (map (with_left (left facts)) (entries facts)) x e in
    let w = with_left_from (left facts) (entries facts) x k.0 in
    (w.0, subst (λ (y : Resting). rests x.entry.order.instrument x.entry.order.side y ≡ true) w.1 (and_parts (rests x.entry.order.instrument x.entry.order.side x) (x.entry.order.who == who && bytes_eq x.entry.order.id id) k.1).0)

named-RestsThere : (h : History) (who : ℕ) (id : List ℕ) → RestsThere h.facts (named h who id)
named-RestsThere h who id = order_there h.facts (find_order h.facts who id) (find_held h.facts who id) (found_there h.facts who id)

replaced-IsShort : (m : Market) (h : History) (s : Sender) (d : ReplaceMessage) (r : Resting) (t : ℕ) → IsShort h.facts → RestsThere h.facts (IsResting r) → KeepsShort h.facts (replaced m h s d r t)
replaced-IsShort m h s d r t short there =
    let x : Removal = record { order = r.entry.number; who = s.who; id = d.order_id } in
    let o : OrderFact = replacement d r in
    let without : IsShort (h.facts ++ (Removed x ∷ [])) = quiet-IsShort h.facts (Removed x ∷ []) short refl in
    let less : length (resting (h.facts ++ (Removed x ∷ [])) r.entry.order.instrument r.entry.order.side) < length (resting h.facts r.entry.order.instrument r.entry.order.side) =
    one_left h.facts x r.entry.order.instrument r.entry.order.side r.entry there.0 (eq-eqb r.entry.number r.entry.number refl) there.1 in
    let few : length (resting h.facts r.entry.order.instrument r.entry.order.side) ≤ side_capacity = short r.entry.order.instrument r.entry.order.side in
    subst IsShort (append_assoc h.facts (Removed x ∷ []) (entry_facts (entering h.facts o (filled r) t) (fills h.facts o)))
    (entered-IsShort (h.facts ++ (Removed x ∷ [])) (entering h.facts o (filled r) t) (fills h.facts o) without (λ day some. omega (arith, less, few)))

replace_of-IsShort : (m : Market) (h : History) (s : Sender) (d : ReplaceMessage) (t : ℕ) (k : Named) → IsShort h.facts → RestsThere h.facts k → KeepsShort h.facts (answer_replace_of m h s d t k)
replace_of-IsShort m h s d t IsUnknown short there = no_change h.facts short
replace_of-IsShort m h s d t (IsHeld k) short there = first_of-each (KeepsShort h.facts) (held_replace_refusals h s d) (replace_refused s d None IsHeldSide) (no_change h.facts short, tt) (λ n. no_change h.facts short)
replace_of-IsShort m h s d t (IsResting r) short there =
    let same : IsShort (h.facts ++ []) = no_change h.facts short in
    first_of-each (KeepsShort h.facts) (replace_refusals m h s d r t) (replaced m h s d r t) (same, (same, (same, (same, (same, (same, (same, tt))))))) (λ n. replaced-IsShort m h s d r t short there)

-- crosses, and held sides as they enter

cross-IsShort : (m : Market) (h : History) (s : Sender) (d : CrossMessage) (t : ℕ) → IsShort h.facts → KeepsShort h.facts (answer_cross m h s d t)
cross-IsShort m h s d t short =
    let same : IsShort (h.facts ++ []) = no_change h.facts short in
    let first = (accepted m h (side_order m s.who d (first_side d)) t).facts in
    first_of-each (KeepsShort h.facts) (cross_refusals m h s d t) (cross_accepted m h s d t) (same, (same, (same, (same, (same, (same, (same, (same, (same, (same, (same, tt)))))))))))
    (λ n. subst IsShort (append_assoc h.facts first _) (quiet-IsShort (h.facts ++ first) _ (accepted-IsShort m h (side_order m s.who d (first_side d)) t short n.1.1.1.1.1.1.1.1.1.0) refl))

due-IsShort : (m : Market) (h : History) (k : HeldSide) → IsShort h.facts → KeepsShort h.facts (answer_due m h k)
due-IsShort m h k short =
    let u : Release = record { who = k.order.who; id = k.order.id; cancel = None } in
    let facts : List Fact = h.facts ++ (Unheld u ∷ []) in
    let now : IsShort (h.facts ++ (Unheld u ∷ [])) = quiet-IsShort h.facts (Unheld u ∷ []) short refl in
    let same : IsShort ((h.facts ++ (Unheld u ∷ [])) ++ []) = no_change (h.facts ++ (Unheld u ∷ [])) now in
    subst IsShort (append_assoc h.facts (Unheld u ∷ []) (first_of (due_refusals m h k) (accepted m h k.order k.due)).facts)
    (first_of-each (KeepsShort (h.facts ++ (Unheld u ∷ []))) (due_refusals m h k) (accepted m h k.order k.due) (same, (same, tt))
    (λ n. entered-IsShort (h.facts ++ (Unheld u ∷ [])) (entering h.facts k.order 0 k.due) (fills h.facts k.order) now
    (λ day some. subst (λ (rs : List Resting). length rs < side_capacity) (sym (resting-unheld h.facts u k.order.instrument k.order.side)) (room_for h.facts k.order n.1.0 day some))))

-- no other answer adds an order

abbrev EntersNone : Answer → Type 0
EntersNone x = entries x.facts ≡ []

cancel_of-EntersNone : (m : Market) (h : History) (s : Sender) (d : CancelMessage) (k : Named) → EntersNone (answer_cancel_of m h s d k)
cancel_of-EntersNone m h s d IsUnknown = refl
cancel_of-EntersNone m h s d (IsHeld k) = first_of-each EntersNone (cancel_refusals h s d None) (held_cancelled m h s d k) (refl, tt) (λ n. refl)
cancel_of-EntersNone m h s d (IsResting r) = first_of-each EntersNone (cancel_refusals h s d (Some (standing r))) (cancelled m h s d r) (refl, tt) (λ n. refl)

request-EntersNone : (m : Market) (h : History) (s : Sender) (d : RequestMessage) (t : ℕ) → EntersNone (answer_request m h s d t)
request-EntersNone m h s d t = first_of-each EntersNone (request_refusals m h s d t) (request_accepted m (opened m h s d t)) (refl, (refl, (refl, (refl, (refl, (refl, (refl, (refl, (refl, (refl, tt)))))))))) (λ n. refl)

quote_of-EntersNone : (m : Market) (h : History) (s : Sender) (d : QuoteMessage) (t : ℕ) (r : Option Room) → EntersNone (answer_quote_of m h s d t r)
quote_of-EntersNone m h s d t None = refl
quote_of-EntersNone m h s d t (Some r) = first_of-each EntersNone (quote_refusals m h s r d t) (quote_accepted m h s r d) (refl, (refl, (refl, (refl, (refl, (refl, (refl, (refl, tt)))))))) (λ n. refl)

none_entered : (qs : List RoomQuote) → entries (map (λ (q : RoomQuote). Withdrawn (record { quote = q.number })) qs) ≡ []
none_entered [] = refl
none_entered (q ∷ qs) = none_entered qs

withdrawn_or-EntersNone : (m : Market) (h : History) (x : Answer) (qs : List RoomQuote) → EntersNone x → EntersNone (withdrawn_or m h x qs)
withdrawn_or-EntersNone m h x [] k = k
withdrawn_or-EntersNone m h x (q ∷ qs) k = none_entered qs

withdraw_one-EntersNone : (m : Market) (h : History) (s : Sender) (t : ℕ) (id : Option (List ℕ)) → EntersNone (withdraw_one m h s t id)
withdraw_one-EntersNone m h s t None = refl
withdraw_one-EntersNone m h s t (Some id) = withdrawn_or-EntersNone m h (not_found s (Some id)) (filter (λ (q : RoomQuote). bytes_eq q.id id) (live_quotes h.facts s.who t)) refl

withdrawal_of-EntersNone : (m : Market) (h : History) (s : Sender) (d : WithdrawalMessage) (t : ℕ) (one all : Bool) → EntersNone (answer_withdrawal_of m h s d t one all)
withdrawal_of-EntersNone m h s d t true all = withdraw_one-EntersNone m h s t d.quote_id
withdrawal_of-EntersNone m h s d t false true = withdrawn_or-EntersNone m h (not_found s None) (live_quotes h.facts s.who t) refl
withdrawal_of-EntersNone m h s d t false false = refl

hit_at-EntersNone : (m : Market) (h : History) (s : Sender) (r : Room) (q : RoomQuote) (d : ResponseMessage) (t : ℕ) (side : Side) (p : Option ℤ) → EntersNone (answer_hit_at m h s r q d t side p)
hit_at-EntersNone m h s r q d t side None = refl
hit_at-EntersNone m h s r q d t side (Some p) = refl

hit-EntersNone : (m : Market) (h : History) (s : Sender) (r : Room) (q : RoomQuote) (d : ResponseMessage) (t : ℕ) (side : Option Side) → EntersNone (answer_hit m h s r q d t side)
hit-EntersNone m h s r q d t None = refl
hit-EntersNone m h s r q d t (Some side) = hit_at-EntersNone m h s r q d t side (price_for side q)

response_in-EntersNone : (m : Market) (h : History) (s : Sender) (q : RoomQuote) (d : ResponseMessage) (t : ℕ) (r : Option Room) → EntersNone (answer_response_in m h s q d t r)
response_in-EntersNone m h s q d t None = refl
response_in-EntersNone m h s q d t (Some r) =
    first_of-each EntersNone (response_refusals m h s r q d t) (answer_hit m h s r q d t (taken_side r.side d.side)) (refl, (refl, (refl, (refl, (refl, (refl, tt)))))) (λ n. hit-EntersNone m h s r q d t (taken_side r.side d.side))

response_to-EntersNone : (m : Market) (h : History) (s : Sender) (d : ResponseMessage) (t : ℕ) (q : Option RoomQuote) → EntersNone (answer_response_to m h s d t q)
response_to-EntersNone m h s d t None = refl
response_to-EntersNone m h s d t (Some q) = response_in-EntersNone m h s q d t (room_by_number h.facts q.room)

response-EntersNone : (m : Market) (h : History) (s : Sender) (d : ResponseMessage) (t : ℕ) → EntersNone (answer_response m h s d t)
response-EntersNone m h s d t = first_of-each EntersNone (kind_refusals s d) (answer_response_to m h s d t (find_quote h.facts d.quote_id)) (refl, tt) (λ n. response_to-EntersNone m h s d t (find_quote h.facts d.quote_id))

market_data-EntersNone : (m : Market) (h : History) (s : Sender) (d : MarketDataMessage) → EntersNone (answer_market_data m h s d)
market_data-EntersNone m h s d = first_of-each EntersNone (market_data_refusals m s d) (market_data m h s d) (refl, (refl, (refl, tt))) (λ n. refl)

-- any message, and a tick

quiet : (h : History) (x : Answer) → IsShort h.facts → EntersNone x → KeepsShort h.facts x
quiet h x short none = quiet-IsShort h.facts x.facts short none

app-IsShort : (m : Market) (h : History) (s : Sender) (a : App) (t : ℕ) → IsShort h.facts → KeepsShort h.facts (answer_app m h s a t)
app-IsShort m h s (QuoteRequest d) t short = quiet h (answer_request m h s d t) short (request-EntersNone m h s d t)
app-IsShort m h s (Quote d) t short = quiet h (answer_quote_of m h s d t (find_room h.facts d.request_id)) short (quote_of-EntersNone m h s d t (find_room h.facts d.request_id))
app-IsShort m h s (QuoteCancel d) t short = quiet h (answer_withdrawal_of m h s d t (d.cancel_type == 5) (d.cancel_type == 4)) short (withdrawal_of-EntersNone m h s d t (d.cancel_type == 5) (d.cancel_type == 4))
app-IsShort m h s (QuoteResponse d) t short = quiet h (answer_response m h s d t) short (response-EntersNone m h s d t)
app-IsShort m h s (NewOrderSingle d) t short = order-IsShort m h s d t short
app-IsShort m h s (OrderCancelRequest d) t short = quiet h (answer_cancel_of m h s d (named h s.who d.original_id)) short (cancel_of-EntersNone m h s d (named h s.who d.original_id))
app-IsShort m h s (OrderCancelReplaceRequest d) t short = replace_of-IsShort m h s d t (named h s.who d.original_id) short (named-RestsThere h s.who d.original_id)
app-IsShort m h s (NewOrderCross d) t short = cross-IsShort m h s d t short
app-IsShort m h s (MarketDataRequest d) t short = quiet h (answer_market_data m h s d) short (market_data-EntersNone m h s d)
app-IsShort m h s (BusinessMessageReject d) t short = no_change h.facts short
app-IsShort m h s (QuoteStatusReport d) t short = no_change h.facts short
app-IsShort m h s (QuoteRequestReject d) t short = no_change h.facts short
app-IsShort m h s (ExecutionReport d) t short = no_change h.facts short
app-IsShort m h s (OrderCancelReject d) t short = no_change h.facts short
app-IsShort m h s (MarketDataSnapshot d) t short = no_change h.facts short
app-IsShort m h s (MarketDataRequestReject d) t short = no_change h.facts short
app-IsShort m h s (Unsupported kind) t short = no_change h.facts short

due_of-IsShort : (m : Market) (h : History) (k : Option HeldSide) → IsShort h.facts → KeepsShort h.facts (answer_due_of m h k)
due_of-IsShort m h None short = no_change h.facts short
due_of-IsShort m h (Some k) short = due-IsShort m h k short

input-IsShort : (m : Market) (h : History) (i : Input) → IsShort h.facts → KeepsShort h.facts (answer_input m h i)
input-IsShort m h (Message taken t) short = app-IsShort m h _ taken.item.app t short
input-IsShort m h (Tick t) short = due_of-IsShort m h (due h.facts t) short

from-IsShort : (m : Market) (h : History) (is : List Input) → IsShort h.facts → IsShort (run_from m h is).history.facts
from-IsShort m h [] short = short
from-IsShort m h (i ∷ is) short = from-IsShort m (after h (answer_input m h i)) is (input-IsShort m h i short)

pub run-IsShort : (m : Market) (is : List Input) → IsShort (run m is).history.facts
run-IsShort m is = from-IsShort m no_history is (λ x side. omega arith)

pub sides_short : (m : Market) (is : List Input) → SidesAreShort m is
sides_short m is = run-IsShort m is
