-- What each input changes of the held sides, by the replies to it, is what its facts change (17 CFR 37.9(b)(1)).
use Rattle.std.proofs.Common.{◌≡◌, refl, sym, ap, ◌∙◌, ℕ, ℤ, ◌+◌, ◌<◌, ◌≤◌, ◌==◌, Bool, true, false, not, ◌&&◌, ◌||◌, nat_lt, nat_le, cond, if◌then◌else◌, List, [], ◌∷◌, ◌++◌, map, filter, length, Option, Some, None, append-nil, eqb-true, eq-eqb, take, get_or, arith}
use Rattle.std.specs.Prelude.{bytes_eq, IfSome}
use Rattle.std.specs.List.{list_all, list_any}
use Rattle.std.proofs.lemmas.Bool.{true≢false}
use Rattle.std.proofs.lemmas.Bool.Decides.{nat_tests}
use Rattle.std.proofs.lemmas.List.{take_more}
use Rattle.std.proofs.lemmas.List.Folds.{list_any-append}
use Rattle.std.proofs.lemmas.List.Elements.{filter-append, filter_map-append}
use Rattle.std.proofs.lemmas.Slice.Eq.{bytes_eq-Decides}
use Rattle.fix_dictionary.specs.declared.messages.App.{App}
use Rattle.fix_dictionary.specs.declared.messages.App.TheVariants.{QuoteRequest, Quote, QuoteCancel, QuoteResponse, QuoteStatusReport, QuoteRequestReject, NewOrderSingle, OrderCancelRequest, OrderCancelReplaceRequest, NewOrderCross, ExecutionReport, OrderCancelReject, MarketDataRequest, MarketDataSnapshot, MarketDataRequestReject, BusinessMessageReject, Unsupported}
use Rattle.fix_dictionary.specs.declared.messages.CrossSide.{CrossSide}
use Rattle.fix_dictionary.specs.declared.messages.NewOrderSingle.{NewOrderSingle as OrderMessage}
use Rattle.fix_dictionary.specs.declared.messages.OrderCancelRequest.{OrderCancelRequest as CancelMessage}
use Rattle.fix_dictionary.specs.declared.messages.OrderCancelReplaceRequest.{OrderCancelReplaceRequest as ReplaceMessage}
use Rattle.fix_dictionary.specs.declared.messages.NewOrderCross.{NewOrderCross as CrossMessage}
use Rattle.fix_dictionary.specs.declared.messages.QuoteRequest.{QuoteRequest as RequestMessage}
use Rattle.fix_dictionary.specs.declared.messages.Quote.{Quote as QuoteMessage}
use Rattle.fix_dictionary.specs.declared.messages.QuoteCancel.{QuoteCancel as WithdrawalMessage}
use Rattle.fix_dictionary.specs.declared.messages.QuoteResponse.{QuoteResponse as ResponseMessage}
use Rattle.fix_dictionary.specs.declared.messages.MarketDataRequest.{MarketDataRequest as MarketDataMessage}
use Rattle.fix_dictionary.specs.declared.values.Side.{Side}
use Rattle.instruments.specs.Listing.{is_unknown_instrument}
use Rattle.venue_rules.specs.declared.facts.Entry.{Entry}
use Rattle.venue_rules.specs.declared.facts.Fact.{Fact}
use Rattle.venue_rules.specs.declared.facts.Fact.TheVariants.{Held, Unheld, Traded, Withdrawn as WithdrawnFact}
use Rattle.venue_rules.specs.declared.facts.HeldSide.{HeldSide}
use Rattle.venue_rules.specs.declared.facts.OrderFact.{OrderFact}
use Rattle.venue_rules.specs.declared.facts.Release.{Release}
use Rattle.venue_rules.specs.declared.facts.Room.{Room}
use Rattle.venue_rules.specs.declared.facts.RoomQuote.{RoomQuote}
use Rattle.venue_rules.specs.declared.refusals.ChangeRefusal.TheVariants.{HeldSide as IsHeldSide}
use Rattle.venue_rules.specs.Answer.{Answer, Sender}
use Rattle.venue_rules.specs.Answers.{answer_app, type_of}
use Rattle.venue_rules.specs.Book.{Fill, Resting, filled, fills, find_order}
use Rattle.venue_rules.specs.Changes.{Named, IsResting, IsHeld, IsUnknown, named, standing, answer_cancel_of, answer_replace_of, cancel_refusals, held_replace_refusals, replace_refusals, replace_refused, cancelled, held_cancelled, replaced, replacement}
use Rattle.venue_rules.specs.Crosses.{answer_cross, cross_accepted, cross_refusals, first_side, is_first, side_order, due_refusals}
use Rattle.venue_rules.specs.Delay.{due, earlier, earliest, find_held, held, releases}
use Rattle.venue_rules.specs.Entering.{entering, trade_of}
use Rattle.venue_rules.specs.Facts.{History, held_in, held_sides, is_name, is_order_id_used, no_history, uses_order_id}
use Rattle.venue_rules.specs.Market.{Market}
use Rattle.venue_rules.specs.MarketData.{answer_market_data, market_data_refusals, market_data}
use Rattle.venue_rules.specs.Orders.{accepted, answer_order, order_asked, order_refusals}
use Rattle.venue_rules.specs.Quotes.{answer_quote_of, quote_refusals, quote_accepted}
use Rattle.venue_rules.specs.Requests.{answer_request, request_accepted, request_refusals, opened}
use Rattle.venue_rules.specs.Responses.{answer_response, answer_response_to, answer_response_in, answer_hit, answer_hit_at, response_refusals, kind_refusals, taken_side, price_for}
use Rattle.venue_rules.specs.Rooms.{find_room, find_quote, live_quotes, room_by_number}
use Rattle.venue_rules.specs.Run.{Input, Message, Tick, after, answer_due_of, answer_input, run, run_from}
use Rattle.venue_rules.specs.Withdrawals.{answer_withdrawal_of, withdraw_one, withdrawn_or, not_found}
use Rattle.cross_delay.specs.DelayFacts.{delay_facts, is_delay_fact}
use Rattle.resting_orders.specs.declared.holding.HeldChange.{HeldChange}
use Rattle.resting_orders.specs.declared.holding.HeldChange.TheVariants.{Same, Holds, Ends}
use Rattle.resting_orders.specs.Holding.{change_at, change_by_app, change_by_cancel, change_by_cross, change_by_due, changed, first_due, first_ends, first_enters, is_other, second_held, sooner, sooner_due}
use Rattle.resting_orders.specs.Laws.{SidesAgree}
use Rattle.resting_orders.proofs.Entering.{NoneHolds, and_left, and_right, first_turns}
use Rattle.venue_rules.proofs.Members.{In-find}
use Rattle.trade_blotter.proofs.Lists.{none_is_some}

-- Laws of held sides, of the crate below.

abbrev pub HeldAlone : Type 0
HeldAlone = (fs : List Fact) → held (delay_facts fs) ≡ held fs

abbrev pub DueFact : Type 0
DueFact = (p : Fact → Bool) (fs : List Fact) (t : ℕ) (k : HeldSide) → list_all p fs ≡ true → due fs t ≡ Some k → p (Held k) ≡ true

abbrev pub FoundFact : Type 0
FoundFact = (p : Fact → Bool) (fs : List Fact) (who : ℕ) (id : List ℕ) (k : HeldSide) → list_all p fs ≡ true → find_held fs who id ≡ Some k → p (Held k) ≡ true

-- Answers that change nothing of the held sides.

abbrev IsStill : Answer → Type 0
IsStill a = delay_facts a.facts ≡ []

trades_still : (e : Entry) (fs : List Fill) → delay_facts (map (λ (f : Fill). Traded (trade_of e f)) fs) ≡ []
trades_still e [] = refl
trades_still e (f ∷ fs) = trades_still e fs

accepted_still : (m : Market) (h : History) (o : OrderFact) (t : ℕ) → IsStill (accepted m h o t)
accepted_still m h o t = trades_still (entering h.facts o 0 t) (fills h.facts o)

order_still : (m : Market) (h : History) (s : Sender) (d : OrderMessage) (t : ℕ) → IsStill (answer_order m h s d t)
order_still m h s d t =
    first_turns IsStill (order_refusals m h s d t) (accepted m h (order_asked m s.who d) t) (refl, (refl, (refl, (refl, (refl, (refl, (refl, (refl, tt))))))))
    (λ n. accepted_still m h (order_asked m s.who d) t)

replaced_still : (m : Market) (h : History) (s : Sender) (d : ReplaceMessage) (r : Resting) (t : ℕ) → IsStill (replaced m h s d r t)
replaced_still m h s d r t = trades_still (entering h.facts (replacement d r) (filled r) t) (fills h.facts (replacement d r))

replace_still : (m : Market) (h : History) (s : Sender) (d : ReplaceMessage) (t : ℕ) (n : Named) → IsStill (answer_replace_of m h s d t n)
replace_still m h s d t IsUnknown = refl
replace_still m h s d t (IsHeld k) = first_turns IsStill (held_replace_refusals h s d) (replace_refused s d None IsHeldSide) (refl, tt) (λ n. refl)
replace_still m h s d t (IsResting r) = first_turns IsStill (replace_refusals m h s d r t) (replaced m h s d r t) (refl, (refl, (refl, (refl, (refl, (refl, (refl, tt))))))) (λ n. replaced_still m h s d r t)

request_still : (m : Market) (h : History) (s : Sender) (d : RequestMessage) (t : ℕ) → IsStill (answer_request m h s d t)
request_still m h s d t = first_turns IsStill (request_refusals m h s d t) (request_accepted m (opened m h s d t)) (refl, (refl, (refl, (refl, (refl, (refl, (refl, (refl, (refl, (refl, tt)))))))))) (λ n. refl)

quote_still : (m : Market) (h : History) (s : Sender) (d : QuoteMessage) (t : ℕ) (r : Option Room) → IsStill (answer_quote_of m h s d t r)
quote_still m h s d t None = refl
quote_still m h s d t (Some r) = first_turns IsStill (quote_refusals m h s r d t) (quote_accepted m h s r d) (refl, (refl, (refl, (refl, (refl, (refl, (refl, (refl, tt)))))))) (λ n. refl)

withdrawals_still : (qs : List RoomQuote) → delay_facts (map (λ (q : RoomQuote). WithdrawnFact (record { quote = q.number })) qs) ≡ []
withdrawals_still [] = refl
withdrawals_still (q ∷ qs) = withdrawals_still qs

withdrawn_still : (m : Market) (h : History) (x : Answer) (qs : List RoomQuote) → IsStill x → IsStill (withdrawn_or m h x qs)
withdrawn_still m h x [] k = k
withdrawn_still m h x (q ∷ qs) k = withdrawals_still qs

withdraw_one_still : (m : Market) (h : History) (s : Sender) (t : ℕ) (id : Option (List ℕ)) → IsStill (withdraw_one m h s t id)
withdraw_one_still m h s t None = refl
withdraw_one_still m h s t (Some id) = withdrawn_still m h (not_found s (Some id)) (filter (λ (q : RoomQuote). bytes_eq q.id id) (live_quotes h.facts s.who t)) refl

withdrawal_still : (m : Market) (h : History) (s : Sender) (d : WithdrawalMessage) (t : ℕ) (one all : Bool) → IsStill (answer_withdrawal_of m h s d t one all)
withdrawal_still m h s d t true all = withdraw_one_still m h s t d.quote_id
withdrawal_still m h s d t false true = withdrawn_still m h (not_found s None) (live_quotes h.facts s.who t) refl
withdrawal_still m h s d t false false = refl

hit_at_still : (m : Market) (h : History) (s : Sender) (r : Room) (q : RoomQuote) (d : ResponseMessage) (t : ℕ) (side : Side) (p : Option ℤ) → IsStill (answer_hit_at m h s r q d t side p)
hit_at_still m h s r q d t side None = refl
hit_at_still m h s r q d t side (Some p) = refl

hit_still : (m : Market) (h : History) (s : Sender) (r : Room) (q : RoomQuote) (d : ResponseMessage) (t : ℕ) (side : Option Side) → IsStill (answer_hit m h s r q d t side)
hit_still m h s r q d t None = refl
hit_still m h s r q d t (Some side) = hit_at_still m h s r q d t side (price_for side q)

response_in_still : (m : Market) (h : History) (s : Sender) (q : RoomQuote) (d : ResponseMessage) (t : ℕ) (r : Option Room) → IsStill (answer_response_in m h s q d t r)
response_in_still m h s q d t None = refl
response_in_still m h s q d t (Some r) =
    first_turns IsStill (response_refusals m h s r q d t) (answer_hit m h s r q d t (taken_side r.side d.side)) (refl, (refl, (refl, (refl, (refl, (refl, tt))))))
    (λ n. hit_still m h s r q d t (taken_side r.side d.side))

response_to_still : (m : Market) (h : History) (s : Sender) (d : ResponseMessage) (t : ℕ) (q : Option RoomQuote) → IsStill (answer_response_to m h s d t q)
response_to_still m h s d t None = refl
response_to_still m h s d t (Some q) = response_in_still m h s q d t (room_by_number h.facts q.room)

response_still : (m : Market) (h : History) (s : Sender) (d : ResponseMessage) (t : ℕ) → IsStill (answer_response m h s d t)
response_still m h s d t = first_turns IsStill (kind_refusals s d) _ (refl, tt) (λ n. response_to_still m h s d t (find_quote h.facts d.quote_id))

market_data_still : (m : Market) (h : History) (s : Sender) (d : MarketDataMessage) → IsStill (answer_market_data m h s d)
market_data_still m h s d = first_turns IsStill (market_data_refusals m s d) (market_data m h s d) (refl, (refl, (refl, tt))) (λ n. refl)

-- What an answer changes.

abbrev pub IsChange : History → Answer → HeldChange → Type 0
IsChange h a Same = delay_facts a.facts ≡ []
IsChange h a (Holds k) = (delay_facts a.facts ≡ Held k ∷ []) × (is_order_id_used h.facts k.order.who k.order.id ≡ false)
IsChange h a (Ends who id) = (u : Release) × (delay_facts a.facts ≡ Unheld u ∷ []) × (u.who ≡ who) × (u.id ≡ id) × (is_order_id_used h.facts who id ≡ true)

-- names

same_name : (who : ℕ) (id : List ℕ) (a : ℕ) (b : List ℕ) → is_name who id a b ≡ true → (who ≡ a) × (id ≡ b)
same_name who id a b e = (eqb-true who a (and_left (who == a) (bytes_eq id b) e), (bytes_eq-Decides id b).0 (and_right (who == a) (bytes_eq id b) e))

both_true : (a b : Bool) → a ≡ true → b ≡ true → (a && b) ≡ true
both_true true b e k = k
both_true false b e k = absurd (true≢false (sym e))

own_name : (who : ℕ) (id : List ℕ) → is_name who id who id ≡ true
own_name who id = both_true (who == who) (bytes_eq id id) (eq-eqb who who refl) ((bytes_eq-Decides id id).1 refl)

-- the identifier of a side that is held is used

none_all : (p : Fact → Bool) (fs : List Fact) → list_any p fs ≡ false → list_all (λ f. not (p f)) fs ≡ true
none_all p [] e = refl
none_all p (f ∷ fs) e = by (p f) e (none_all p fs)
  where
    by : (b : Bool) → (b || list_any p fs) ≡ false → (list_any p fs ≡ false → list_all (λ f. not (p f)) fs ≡ true) → (not b && list_all (λ f. not (p f)) fs) ≡ true
    by true e rest = absurd (true≢false e)
    by false e rest = rest e

never : (b : Bool) → b ≡ true → not b ≡ true → ⊥
never true e k = true≢false (sym k)
never false e k = true≢false (sym e)

used_where : (fs : List Fact) (k : HeldSide) → ((p : Fact → Bool) → list_all p fs ≡ true → p (Held k) ≡ true) → is_order_id_used fs k.order.who k.order.id ≡ true
used_where fs k all = by (is_order_id_used fs k.order.who k.order.id) refl
  where
    by : (b : Bool) → is_order_id_used fs k.order.who k.order.id ≡ b → is_order_id_used fs k.order.who k.order.id ≡ true
    by true e = e
    by false e =
        let uses : Fact → Bool = uses_order_id k.order.who k.order.id in
        absurd (never (is_name k.order.who k.order.id k.order.who k.order.id) (own_name k.order.who k.order.id) (all (λ f. not (uses f)) (none_all uses fs e)))

-- a cancel

abbrev held_of : Named → Option HeldSide
held_of (IsHeld k) = Some k
held_of (IsResting r) = None
held_of IsUnknown = None

named_held : (o : Option Resting) (k : Option HeldSide) (x : HeldSide) → elim o [ Some r ↦ IsResting r | None ↦ elim k [ Some y ↦ IsHeld y | None ↦ IsUnknown ] ] ≡ IsHeld x → k ≡ Some x
named_held (Some r) k x e = absurd (none_is_some x (ap held_of e))
named_held None (Some y) x e = ap held_of e
named_held None None x e = absurd (none_is_some x (ap held_of e))

cancel_change : FoundFact → (m : Market) (h : History) (s : Sender) (d : CancelMessage) (n : Named) → named h s.who d.original_id ≡ n → IsChange h (answer_cancel_of m h s d n) (change_by_cancel s.who d.original_id (first_ends (answer_cancel_of m h s d n).replies))
cancel_change found m h s d IsUnknown is = refl
cancel_change found m h s d (IsResting r) is = first_turns (λ (a : Answer). IsChange h a (change_by_cancel s.who d.original_id (first_ends a.replies))) (cancel_refusals h s d (Some (standing r))) (cancelled m h s d r) (refl, tt) (λ n. refl)
cancel_change found m h s d (IsHeld k) is = first_turns (λ (a : Answer). IsChange h a (change_by_cancel s.who d.original_id (first_ends a.replies))) (cancel_refusals h s d None) (held_cancelled m h s d k) (refl, tt) (λ n. ends)
  where
    there : find_held h.facts s.who d.original_id ≡ Some k
    there = named_held (find_order h.facts s.who d.original_id) (find_held h.facts s.who d.original_id) k is

    name : (s.who ≡ k.order.who) × (d.original_id ≡ k.order.id)
    name = same_name s.who d.original_id k.order.who k.order.id (In-find (λ (x : HeldSide). is_name s.who d.original_id x.order.who x.order.id) (held h.facts) k there).1

    used : is_order_id_used h.facts s.who d.original_id ≡ true
    used = (λ j. is_order_id_used h.facts (name.0 j) (name.1 j)) ∙ used_where h.facts k (λ p all. found p h.facts s.who d.original_id k all there)

    ends : IsChange h (held_cancelled m h s d k) (Ends s.who d.original_id)
    ends = (record { who = s.who; id = k.order.id; cancel = Some d.order_id }, refl, refl, sym name.1, used)

-- a cross

or_first : (a b : Bool) → (a || b) ≡ false → a ≡ false
or_first true b e = absurd (true≢false e)
or_first false b e = refl

or_second : (a b : Bool) → (a || b) ≡ false → b ≡ false
or_second true b e = absurd (true≢false e)
or_second false b e = e

one_unused : (fs : List Fact) (who : ℕ) (a b : CrossSide) (c : Bool) → is_order_id_used fs who a.order_id ≡ false → is_order_id_used fs who b.order_id ≡ false → is_order_id_used fs who (if c then a else b).order_id ≡ false
one_unused fs who a b true free other = free
one_unused fs who a b false free other = other

holds_where : (m : Market) (h : History) (s : Sender) (d : CrossMessage) (t : ℕ) (unknown : Bool) → unknown ≡ false → IsChange h (cross_accepted m h s d t) (Holds (second_held m.instruments s.who d t))
    → IsChange h (cross_accepted m h s d t) (if true && not unknown then Holds (second_held m.instruments s.who d t) else Same)
holds_where m h s d t true e holds = absurd (true≢false e)
holds_where m h s d t false e holds = holds

cross_change : (m : Market) (h : History) (s : Sender) (d : CrossMessage) (t : ℕ) → IsChange h (answer_cross m h s d t) (change_by_cross m.instruments s.who d t (first_enters (answer_cross m h s d t).replies))
cross_change m h s d t =
    first_turns (λ (a : Answer). IsChange h a (change_by_cross m.instruments s.who d t (first_enters a.replies))) (cross_refusals m h s d t) (cross_accepted m h s d t)
    (refl, (refl, (refl, (refl, (refl, (refl, (refl, (refl, (refl, (refl, (refl, tt)))))))))))
    (λ n. holds_where m h s d t (is_unknown_instrument m.instruments d.symbol) n.0 (facts, unused n))
  where
    k : HeldSide
    k = second_held m.instruments s.who d t

    facts : delay_facts (cross_accepted m h s d t).facts ≡ Held k ∷ []
    facts =
        let o = side_order m s.who d (first_side d) in
        filter-append is_delay_fact (accepted m h o t).facts (Held k ∷ []) ∙ ap (λ (l : List Fact). l ++ Held k ∷ []) (accepted_still m h o t)

    unused : NoneHolds (cross_refusals m h s d t) → is_order_id_used h.facts s.who k.order.id ≡ false
    unused n =
        let one = is_order_id_used h.facts s.who d.first.order_id in
        let two = is_order_id_used h.facts s.who d.second.order_id in
        let same = bytes_eq d.first.order_id d.second.order_id in
        let rest = or_second one (two || same) n.1.1.0 in
        one_unused h.facts s.who d.second d.first (is_first d d.first) (or_first two same rest) (or_first one (two || same) n.1.1.0)

-- a tick

due_change : (m : Market) (h : History) (o : Option HeldSide) → ((k : HeldSide) → o ≡ Some k → is_order_id_used h.facts k.order.who k.order.id ≡ true) → IsChange h (answer_due_of m h o) (change_by_due o)
due_change m h None used = refl
due_change m h (Some k) used =
    let u : Release = record { who = k.order.who; id = k.order.id; cancel = None } in
    (u, ap (λ (l : List Fact). Unheld u ∷ l) (first_turns IsStill (due_refusals m h k) (accepted m h k.order k.due) (refl, (refl, tt)) (λ n. accepted_still m h k.order k.due)), refl, refl, used k refl)

-- any input

app_change : FoundFact → (m : Market) (h : History) (s : Sender) (a : App) (t : ℕ) → IsChange h (answer_app m h s a t) (change_by_app m.instruments s.who a t (answer_app m h s a t).replies)
app_change found m h s (QuoteRequest d) t = request_still m h s d t
app_change found m h s (Quote d) t = quote_still m h s d t (find_room h.facts d.request_id)
app_change found m h s (QuoteCancel d) t = withdrawal_still m h s d t (d.cancel_type == 5) (d.cancel_type == 4)
app_change found m h s (QuoteResponse d) t = response_still m h s d t
app_change found m h s (NewOrderSingle d) t = order_still m h s d t
app_change found m h s (OrderCancelRequest d) t = cancel_change found m h s d (named h s.who d.original_id) refl
app_change found m h s (OrderCancelReplaceRequest d) t = replace_still m h s d t (named h s.who d.original_id)
app_change found m h s (NewOrderCross d) t = cross_change m h s d t
app_change found m h s (MarketDataRequest d) t = market_data_still m h s d
app_change found m h s (BusinessMessageReject d) t = refl
app_change found m h s (QuoteStatusReport d) t = refl
app_change found m h s (QuoteRequestReject d) t = refl
app_change found m h s (ExecutionReport d) t = refl
app_change found m h s (OrderCancelReject d) t = refl
app_change found m h s (MarketDataSnapshot d) t = refl
app_change found m h s (MarketDataRequestReject d) t = refl
app_change found m h s (Unsupported kind) t = refl

input_change : DueFact → FoundFact → (m : Market) (h : History) (i : Input) → IsChange h (answer_input m h i) (change_at m.instruments (held h.facts) i (answer_input m h i).replies)
input_change due_fact found m h (Message taken t) = app_change found m h (record { who = taken.from; number = taken.item.number; kind = type_of taken.item.app }) taken.item.app t
input_change due_fact found m h (Tick t) = due_change m h (due h.facts t) (λ k is. used_where h.facts k (λ p all. due_fact p h.facts t k all is))

-- The held sides after it.

abbrev stands : List Fact → HeldSide → Bool
stands fs k = not (list_any (releases k) fs)

or_none : (b : Bool) → (b || false) ≡ b
or_none true = refl
or_none false = refl

alike : (p q : HeldSide → Bool) (ks : List HeldSide) → ((k : HeldSide) → p k ≡ q k) → filter p ks ≡ filter q ks
alike p q [] same = refl
alike p q (k ∷ ks) same = (λ j. cond (same k j) (k ∷ alike p q ks same j) (alike p q ks same j))

twice : (p q r : HeldSide → Bool) → ((k : HeldSide) → r k ≡ (q k && p k)) → (ks : List HeldSide) → filter r ks ≡ filter p (filter q ks)
twice p q r same [] = refl
twice p q r same (k ∷ ks) = ap (λ (b : Bool). cond b (k ∷ filter r ks) (filter r ks)) (same k) ∙ by (q k) (p k) refl (twice p q r same ks)
  where
    by : (a b : Bool) → p k ≡ b → filter r ks ≡ filter p (filter q ks) → cond (a && b) (k ∷ filter r ks) (filter r ks) ≡ filter p (cond a (k ∷ filter q ks) (filter q ks))
    by true true e rest = ap (λ l. k ∷ l) rest ∙ sym (ap (λ (b : Bool). cond b (k ∷ filter p (filter q ks)) (filter p (filter q ks))) e)
    by true false e rest = rest ∙ sym (ap (λ (b : Bool). cond b (k ∷ filter p (filter q ks)) (filter p (filter q ks))) e)
    by false b e rest = rest

held_one : (fs : List Fact) (k : HeldSide) → list_any (releases k) fs ≡ false → held (fs ++ Held k ∷ []) ≡ held fs ++ k ∷ []
held_one fs k fresh =
    let more = fs ++ Held k ∷ [] in
    ap (filter (stands more)) (filter_map-append held_in fs (Held k ∷ []))
    ∙ (alike (stands more) (stands fs) (held_sides fs ++ k ∷ []) (λ x. ap not (list_any-append (releases x) fs (Held k ∷ []) ∙ or_none (list_any (releases x) fs)))
    ∙ (filter-append (stands fs) (held_sides fs) (k ∷ []) ∙ ap (λ (b : Bool). held fs ++ cond (not b) (k ∷ []) []) fresh))

ended_one : (fs : List Fact) (u : Release) → held (fs ++ Unheld u ∷ []) ≡ filter (is_other u.who u.id) (held fs)
ended_one fs u =
    let more = fs ++ Unheld u ∷ [] in
    ap (filter (stands more)) (filter_map-append held_in fs (Unheld u ∷ []) ∙ append-nil (held_sides fs))
    ∙ twice (is_other u.who u.id) (stands fs) (stands more) (λ k. ap not (list_any-append (releases k) fs (Unheld u ∷ [])) ∙ parted (list_any (releases k) fs) (is_name k.order.who k.order.id u.who u.id)) (held_sides fs)
  where
    parted : (a b : Bool) → not (a || (b || false)) ≡ (not a && not b)
    parted true b = refl
    parted false true = refl
    parted false false = refl

-- a side that is held no longer had a used identifier
abbrev pub AreKnown : List Fact → Type 0
AreKnown fs = (k : HeldSide) → list_any (releases k) (delay_facts fs) ≡ true → is_order_id_used fs k.order.who k.order.id ≡ true

or_true : (a b : Bool) → (a || b) ≡ true → (a ≡ true → b ≡ true) → b ≡ true
or_true true b e k = k refl
or_true false b e k = e

left_true : (a b : Bool) → a ≡ true → (a || b) ≡ true
left_true true b e = refl
left_true false b e = absurd (true≢false (sym e))

used_on : (fs gs : List Fact) (k : HeldSide) → is_order_id_used fs k.order.who k.order.id ≡ true → is_order_id_used (fs ++ gs) k.order.who k.order.id ≡ true
used_on fs gs k e = list_any-append (uses_order_id k.order.who k.order.id) fs gs ∙ left_true (is_order_id_used fs k.order.who k.order.id) (is_order_id_used gs k.order.who k.order.id) e

known_more : (fs gs ds : List Fact) → delay_facts gs ≡ ds → ((k : HeldSide) → list_any (releases k) ds ≡ true → is_order_id_used fs k.order.who k.order.id ≡ true) → AreKnown fs → AreKnown (fs ++ gs)
known_more fs gs ds are each known k e =
    used_on fs gs k
    (by (list_any (releases k) (delay_facts fs)) refl (sym (ap (list_any (releases k)) (filter-append is_delay_fact fs gs ∙ ap (λ l. delay_facts fs ++ l) are) ∙ list_any-append (releases k) (delay_facts fs) ds) ∙ e))
  where
    by : (b : Bool) → list_any (releases k) (delay_facts fs) ≡ b → (b || list_any (releases k) ds) ≡ true → is_order_id_used fs k.order.who k.order.id ≡ true
    by true is e = known k is
    by false is e = each k e

unreleased : (fs : List Fact) (k : HeldSide) → AreKnown fs → is_order_id_used fs k.order.who k.order.id ≡ false → list_any (releases k) (delay_facts fs) ≡ false
unreleased fs k known fresh = by (list_any (releases k) (delay_facts fs)) refl
  where
    by : (b : Bool) → list_any (releases k) (delay_facts fs) ≡ b → list_any (releases k) (delay_facts fs) ≡ false
    by true e = absurd (true≢false (sym (known k e) ∙ fresh))
    by false e = e

-- what goes on after a change
record GoesOn (fs gs : List Fact) (c : HeldChange) : Type 0 where
  pub held : held (fs ++ gs) ≡ changed c (held fs)
  pub known : AreKnown (fs ++ gs)

joined : HeldAlone → (fs gs ds : List Fact) → delay_facts gs ≡ ds → held (fs ++ gs) ≡ held (delay_facts fs ++ ds)
joined alone fs gs ds are = sym (alone (fs ++ gs)) ∙ ap held (filter-append is_delay_fact fs gs ∙ ap (λ l. delay_facts fs ++ l) are)

goes_on : HeldAlone → (h : History) (a : Answer) (c : HeldChange) → IsChange h a c → AreKnown h.facts → GoesOn h.facts a.facts c
goes_on alone h a Same still known = record {
  held = joined alone h.facts a.facts [] still ∙ (ap held (append-nil (delay_facts h.facts)) ∙ alone h.facts);
  known = known_more h.facts a.facts [] still (λ k e. absurd (true≢false (sym e))) known;
}
goes_on alone h a (Holds k) holds known = record {
  held = joined alone h.facts a.facts (Held k ∷ []) holds.0 ∙ (held_one (delay_facts h.facts) k (unreleased h.facts k known holds.1) ∙ ap (λ l. l ++ k ∷ []) (alone h.facts));
  known = known_more h.facts a.facts (Held k ∷ []) holds.0 (λ x e. absurd (true≢false (sym e))) known;
}
goes_on alone h a (Ends who id) ends known =
    let u = ends.0 in
    record {
      held = joined alone h.facts a.facts (Unheld u ∷ []) ends.1 ∙ (ended_one (delay_facts h.facts) u ∙ (λ j. filter (is_other (ends.2 j) (ends.3 j)) (alone h.facts j)));
      known = known_more h.facts a.facts (Unheld u ∷ []) ends.1
          (λ k e.
          let name = same_name k.order.who k.order.id u.who u.id (sym (or_none (is_name k.order.who k.order.id u.who u.id)) ∙ e) in
          (λ j. is_order_id_used h.facts ((name.0 ∙ ends.2) j) ((name.1 ∙ ends.3) j)) ∙ ends.4) known;
    }

known_run : HeldAlone → DueFact → FoundFact → (m : Market) (h : History) (is : List Input) → AreKnown h.facts → AreKnown (run_from m h is).history.facts
known_run alone due_fact found m h [] known = known
known_run alone due_fact found m h (i ∷ is) known =
    let a = answer_input m h i in
    known_run alone due_fact found m (after h a) is (goes_on alone h a (change_at m.instruments (held h.facts) i a.replies) (input_change due_fact found m h i) known).known

pub sides_agree : HeldAlone → DueFact → FoundFact → SidesAgree
sides_agree alone due_fact found m is i =
    let h = (run m is).history in
    let a = answer_input m h i in
    sym (goes_on alone h a (change_at m.instruments (held h.facts) i a.replies) (input_change due_fact found m h i) (known_run alone due_fact found m no_history is (λ k e. absurd (true≢false (sym e))))).held

-- The first side that is due, side by side.

joined_true : (h k e : HeldSide) (b c d : Bool) → nat_lt k.due e.due ≡ b → nat_lt e.due h.due ≡ c → nat_lt k.due h.due ≡ d → (b ≡ true → c ≡ true → d ≡ true) → (b ≡ false → c ≡ false → d ≡ false) → earlier h (if b then Some k else Some e) ≡ sooner (if c then Some e else Some h) k
joined_true h k e true true d is_b is_c is_d up down = ap (λ (x : Bool). if x then Some k else Some h) (is_d ∙ up refl refl) ∙ sym (ap (λ (x : Bool). if x then Some k else Some e) is_b)
joined_true h k e true false d is_b is_c is_d up down = refl
joined_true h k e false true d is_b is_c is_d up down = ap (λ (x : Bool). if x then Some e else Some h) is_c ∙ sym (ap (λ (x : Bool). if x then Some k else Some e) is_b)
joined_true h k e false false d is_b is_c is_d up down = ap (λ (x : Bool). if x then Some e else Some h) is_c ∙ sym (ap (λ (x : Bool). if x then Some k else Some h) (is_d ∙ down refl refl))

joined_some : (h k : HeldSide) (o : Option HeldSide) → earlier h (sooner o k) ≡ sooner (earlier h o) k
joined_some h k None = refl
joined_some h k (Some e) =
    joined_true h k e (nat_lt k.due e.due) (nat_lt e.due h.due) (nat_lt k.due h.due) refl refl refl (λ b c. before b c) (λ b c. behind b c)
  where
    before : nat_lt k.due e.due ≡ true → nat_lt e.due h.due ≡ true → nat_lt k.due h.due ≡ true
    before b c = grind (arith, nat_tests)

    behind : nat_lt k.due e.due ≡ false → nat_lt e.due h.due ≡ false → nat_lt k.due h.due ≡ false
    behind b c = grind (arith, nat_tests)

earliest_more : (ks : List HeldSide) (k : HeldSide) → earliest (ks ++ k ∷ []) ≡ sooner (earliest ks) k
earliest_more [] k = refl
earliest_more (h ∷ hs) k = ap (earlier h) (earliest_more hs k) ∙ joined_some h k (earliest hs)

due_one : (t : ℕ) (ks : List HeldSide) (k : HeldSide) → first_due t (ks ++ k ∷ []) ≡ sooner_due t (first_due t ks) k
due_one t ks k = ap earliest (filter-append (λ (x : HeldSide). nat_le x.due t) ks (k ∷ [])) ∙ by (nat_le k.due t)
  where
    due : List HeldSide
    due = filter (λ (x : HeldSide). nat_le x.due t) ks

    by : (b : Bool) → earliest (filter (λ (x : HeldSide). nat_le x.due t) ks ++ cond b (k ∷ []) []) ≡ (if b then sooner (first_due t ks) k else first_due t ks)
    by true = earliest_more (filter (λ (x : HeldSide). nat_le x.due t) ks) k
    by false = ap earliest (append-nil (filter (λ (x : HeldSide). nat_le x.due t) ks))

pub due_more : (t : ℕ) (ks : List HeldSide) (i : ℕ) (k : HeldSide) (now next : Option HeldSide) → i < length ks → k ≡ get_or ks i k → now ≡ first_due t (take i ks) → next ≡ sooner_due t now k → next ≡ first_due t (take (i + 1) ks)
due_more t ks i k now next low at_i is goes =
    let longer : take (i + 1) ks ≡ take i ks ++ k ∷ [] = take_more ks i k low ∙ ap (λ (x : HeldSide). take i ks ++ x ∷ []) (sym at_i) in
    goes ∙ (ap (λ (o : Option HeldSide). sooner_due t o k) is ∙ (sym (due_one t (take i ks) k) ∙ ap (first_due t) (sym longer)))

-- a side that is due is due no later

abbrev pub IsPassed : ℕ → Option HeldSide → Type 0
IsPassed t due = IfSome due (λ k. k.due ≤ t)

passed_one : (t : ℕ) (first : Option HeldSide) (k : HeldSide) → IsPassed t first → k.due ≤ t → IsPassed t (sooner first k)
passed_one t None k passed low = low
passed_one t (Some e) k passed low = (elim (nat_lt k.due e.due) as (λ b. IsPassed t (if b then Some k else Some e)) [ true ↦ low | false ↦ passed ])

pub passed_more : (t : ℕ) (first : Option HeldSide) (k : HeldSide) → IsPassed t first → IsPassed t (sooner_due t first k)
passed_more t first k passed = by (nat_le k.due t) refl
  where
    by : (b : Bool) → nat_le k.due t ≡ b → IsPassed t (if b then sooner first k else first)
    by true e = passed_one t first k passed (grind (arith, nat_tests, e))
    by false e = passed
