-- The replies to each message, and to a tick, state which orders enter by it, and whose they are.
use Rattle.std.proofs.Common.{◌≡◌, refl, sym, ap, ◌∙◌, ℕ, ℤ, ◌+◌, ◌-◌, ◌==◌, Bool, true, false, not, ◌&&◌, nat_lt, if◌then◌else◌, List, [], ◌∷◌, ◌++◌, map, filter_map, flat_map, take, Option, Some, None, append-nil, eqb-true}
use Rattle.std.specs.Prelude.{bytes_eq}
use Rattle.std.specs.List.{cons_option, enumerate_from}
use Rattle.std.proofs.lemmas.Bool.{true≢false}
use Rattle.std.proofs.lemmas.List.Elements.{filter_map-append}
use Rattle.fix_dictionary.specs.declared.messages.App.{App}
use Rattle.fix_dictionary.specs.declared.messages.App.TheVariants.{QuoteRequest, Quote, QuoteCancel, QuoteResponse, QuoteStatusReport, QuoteRequestReject, NewOrderSingle, OrderCancelRequest, OrderCancelReplaceRequest, NewOrderCross, ExecutionReport, OrderCancelReject, MarketDataRequest, MarketDataSnapshot, MarketDataRequestReject, BusinessMessageReject, Unsupported}
use Rattle.fix_dictionary.specs.declared.messages.NewOrderSingle.{NewOrderSingle as OrderMessage}
use Rattle.fix_dictionary.specs.declared.messages.OrderCancelRequest.{OrderCancelRequest as CancelMessage}
use Rattle.fix_dictionary.specs.declared.messages.OrderCancelReplaceRequest.{OrderCancelReplaceRequest as ReplaceMessage}
use Rattle.fix_dictionary.specs.declared.messages.NewOrderCross.{NewOrderCross as CrossMessage}
use Rattle.fix_dictionary.specs.declared.messages.QuoteRequest.{QuoteRequest as RequestMessage}
use Rattle.fix_dictionary.specs.declared.messages.Quote.{Quote as QuoteMessage}
use Rattle.fix_dictionary.specs.declared.messages.QuoteCancel.{QuoteCancel as WithdrawalMessage}
use Rattle.fix_dictionary.specs.declared.messages.QuoteResponse.{QuoteResponse as ResponseMessage}
use Rattle.fix_dictionary.specs.declared.messages.MarketDataRequest.{MarketDataRequest as MarketDataMessage}
use Rattle.fix_dictionary.specs.declared.values.Side.{Side}
use Rattle.instruments.specs.Listing.{delay_of, instrument_of, symbol_of}
use Rattle.venue_rules.specs.declared.facts.Entry.{Entry}
use Rattle.venue_rules.specs.declared.facts.Fact.{Fact}
use Rattle.venue_rules.specs.declared.facts.Fact.TheVariants.{Held, Traded, Withdrawn as WithdrawnFact}
use Rattle.venue_rules.specs.declared.facts.HeldSide.{HeldSide}
use Rattle.venue_rules.specs.declared.facts.OrderFact.{OrderFact}
use Rattle.venue_rules.specs.declared.facts.Room.{Room}
use Rattle.venue_rules.specs.declared.facts.RoomQuote.{RoomQuote}
use Rattle.venue_rules.specs.declared.refusals.ChangeRefusal.TheVariants.{HeldSide as IsHeldSide}
use Rattle.venue_rules.specs.declared.replies.QuoteState.TheVariants.{Accepted, Withdrawn}
use Rattle.venue_rules.specs.declared.replies.Reply.{Reply}
use Rattle.venue_rules.specs.declared.replies.ReplyBody.TheVariants.{OrderEntered, OrderReplaced, OrderUnfilled}
use Rattle.venue_rules.specs.Answer.{Answer, Sender, first_of, numbered, reply}
use Rattle.venue_rules.specs.Answers.{answer_app, type_of}
use Rattle.venue_rules.specs.Book.{Fill, Resting, fills, filled, filled_by, find_order, is_day, left, rests, with_left}
use Rattle.venue_rules.specs.Changes.{Named, IsResting, IsHeld, IsUnknown, named, standing, answer_cancel_of, answer_replace_of, cancel_refusals, held_replace_refusals, replace_refusals, replace_refused, cancelled, held_cancelled, replaced, replacement}
use Rattle.venue_rules.specs.Crosses.{answer_cross, cross_accepted, cross_refusals, side_order, first_side, second_side, due_refusals}
use Rattle.venue_rules.specs.Delay.{due, find_held, held}
use Rattle.venue_rules.specs.Entering.{entering, entry_facts, entry_reports, fill_report, fill_reports, order_report, trade_of, unfilled_reports}
use Rattle.venue_rules.specs.Facts.{History, entries, entry_in, next_trade}
use Rattle.venue_rules.specs.Market.{Market}
use Rattle.venue_rules.specs.MarketData.{answer_market_data, market_data_refusals, market_data}
use Rattle.venue_rules.specs.Orders.{accepted, answer_order, order_asked, order_refusals}
use Rattle.venue_rules.specs.Quotes.{answer_quote_of, quote_refusals, quote_accepted, quote_sent, quote_status, quoted, shown_with}
use Rattle.venue_rules.specs.Requests.{answer_request, request_accepted, request_refusals, request_sent, opened}
use Rattle.venue_rules.specs.Responses.{answer_response, answer_response_to, answer_response_in, answer_hit, answer_hit_at, response_refusals, kind_refusals, taken_side, price_for}
use Rattle.venue_rules.specs.Rooms.{find_room, find_quote, first_quote, room_by_number}
use Rattle.venue_rules.specs.Run.{Input, Message, Tick, answer_due_of, answer_input, run}
use Rattle.venue_rules.specs.Withdrawals.{answer_withdrawal_of, withdraw_one, withdrawn_or, not_found, both_emitted, to_maker, to_requester}
use Rattle.resting_orders.specs.declared.noted.EnteredAt.{EnteredAt}
use Rattle.resting_orders.specs.Holding.{entry_moment, moment_from}
use Rattle.resting_orders.specs.Laws.{OrdersAgree}
use Rattle.resting_orders.specs.Noting.{entered_by, entered_order}
use Rattle.venue_rules.proofs.Members.{In-find}

abbrev here : ℕ → ℕ → EnteredAt
here row t = record { row = row; moment = t }

-- the replies of an answer report the orders that enter by it, at a row and a moment
abbrev pub AreReported : ℕ → ℕ → Answer → Type 0
AreReported row t a = filter_map (entered_by (here row t)) a.replies ≡ map (entered_order row) (entries a.facts)

-- the first refusal that holds

abbrev pub All : (Answer → Type 0) → List (Bool × Answer) → Type 0
All P [] = Unit {0}
All P (r ∷ rs) = P r.1 × All P rs

abbrev pub NoneHolds : List (Bool × Answer) → Type 0
NoneHolds [] = Unit {0}
NoneHolds (r ∷ rs) = (r.0 ≡ false) × NoneHolds rs

first_case : (P : Answer → Type 0) (b c : Bool) (x y : Answer) → c ≡ b → P x → (c ≡ false → P y) → P (elim b [ true ↦ x | false ↦ y ])
first_case P true c x y e k l = k
first_case P false c x y e k l = l e

pub first_turns : (P : Answer → Type 0) (rs : List (Bool × Answer)) (x : Answer) → All P rs → (NoneHolds rs → P x) → P (first_of rs x)
first_turns P [] x n k = k tt
first_turns P (r ∷ rs) x n k = first_case P r.0 r.0 r.1 (first_of rs x) refl n.0 (λ e. first_turns P rs x n.1 (λ l. k (e, l)))

-- Reports that wait for their numbers.

abbrev IsSteady : {Y : Type 0} → (Reply → Option Y) → List (ℕ → Reply) → Type 0
IsSteady pick [] = Unit {0}
IsSteady pick (f ∷ fs) = ((k : ℕ) → pick (f k) ≡ pick (f 0)) × IsSteady pick fs

steady_append : {Y : Type 0} (pick : Reply → Option Y) (fs gs : List (ℕ → Reply)) → IsSteady pick fs → IsSteady pick gs → IsSteady pick (fs ++ gs)
steady_append pick [] gs a b = b
steady_append pick (f ∷ fs) gs a b = (a.0, steady_append pick fs gs a.1 b)

numbered_picked : {Y : Type 0} (pick : Reply → Option Y) (n : ℕ) (fs : List (ℕ → Reply)) → IsSteady pick fs → filter_map pick (numbered n fs) ≡ filter_map (λ f. pick (f 0)) fs
numbered_picked pick n [] s = refl
numbered_picked pick n (f ∷ fs) s = ap (λ o. cons_option o (filter_map pick (numbered (n + 1) fs))) (s.0 (n + 1)) ∙ ap (cons_option (pick (f 0))) (numbered_picked pick (n + 1) fs s.1)

-- An order that enters.

-- the reports of its fills and of its rest are not picked
record Skips {Y : Type 0} (pick : Reply → Option Y) (m : Market) (e : Entry) : Type 0 where
  pub fill : (x : Entry) (left done : ℕ) (f : Fill) (trade k : ℕ) → pick (fill_report m x left done f trade k) ≡ None
  pub rest : (fs : List Fill) (k : ℕ) → pick (reply e.order.who (OrderUnfilled (order_report m e 0 (e.filled_before + filled_by fs) k))) ≡ None

fills_steady : {Y : Type 0} (pick : Reply → Option Y) (m : Market) (e : Entry) → Skips pick m e → (all : List Fill) (trade j : ℕ) (fs : List Fill) → IsSteady pick (flat_map (fill_reports m e all trade) (enumerate_from j fs))
fills_steady pick m e p all trade j [] = tt
fills_steady pick m e p all trade j (f ∷ fs) = (λ k. p.fill e _ _ f (trade + j) k ∙ sym (p.fill e _ _ f (trade + j) 0), (λ k. p.fill f.resting.entry _ _ f (trade + j) k ∙ sym (p.fill f.resting.entry _ _ f (trade + j) 0), fills_steady pick m e p all trade (j + 1) fs))

fills_skipped : {Y : Type 0} (pick : Reply → Option Y) (m : Market) (e : Entry) → Skips pick m e → (all : List Fill) (trade j : ℕ) (fs : List Fill) → filter_map (λ f. pick (f 0)) (flat_map (fill_reports m e all trade) (enumerate_from j fs)) ≡ []
fills_skipped pick m e p all trade j [] = refl
fills_skipped pick m e p all trade j (f ∷ fs) =
    let rest = filter_map (λ g. pick (g 0)) (flat_map (fill_reports m e all trade) (enumerate_from (j + 1) fs)) in
    let so_far = filled_by (take (j + 1) all) in
    ap (λ o. cons_option o (cons_option (pick (fill_report m f.resting.entry (f.resting.left - f.quantity) (filled f.resting + f.quantity) f (trade + j) 0)) rest)) (p.fill e (e.order.quantity - so_far) (e.filled_before + so_far) f (trade + j) 0)
    ∙ (ap (λ o. cons_option o rest) (p.fill f.resting.entry (f.resting.left - f.quantity) (filled f.resting + f.quantity) f (trade + j) 0) ∙ fills_skipped pick m e p all trade (j + 1) fs)

abbrev unfilled : Market → Entry → List Fill → Bool → List (ℕ → Reply)
unfilled m e fs b = if b then (λ n. reply e.order.who (OrderUnfilled (order_report m e 0 (e.filled_before + filled_by fs) n))) ∷ [] else []

unfilled_steady : {Y : Type 0} (pick : Reply → Option Y) (m : Market) (e : Entry) → Skips pick m e → (fs : List Fill) (b : Bool) → IsSteady pick (unfilled m e fs b)
unfilled_steady pick m e p fs true = (λ k. p.rest fs k ∙ sym (p.rest fs 0), tt)
unfilled_steady pick m e p fs false = tt

unfilled_skipped : {Y : Type 0} (pick : Reply → Option Y) (m : Market) (e : Entry) → Skips pick m e → (fs : List Fill) (b : Bool) → filter_map (λ f. pick (f 0)) (unfilled m e fs b) ≡ []
unfilled_skipped pick m e p fs true = ap (λ o. cons_option o []) (p.rest fs 0)
unfilled_skipped pick m e p fs false = refl

entry_steady : {Y : Type 0} (pick : Reply → Option Y) (m : Market) (facts : List Fact) (e : Entry) → Skips pick m e → (fs : List Fill) → IsSteady pick (entry_reports m facts e fs)
entry_steady pick m facts e p fs =
    steady_append pick (flat_map (fill_reports m e fs (next_trade facts)) (enumerate_from 0 fs)) (unfilled_reports m e fs) (fills_steady pick m e p fs (next_trade facts) 0 fs)
    (unfilled_steady pick m e p fs (not (is_day e.order.life) && nat_lt (filled_by fs) e.order.quantity))

-- of a report on the entry and those of its fills and of its rest, the first alone may be picked
entry_picked : {Y : Type 0} (pick : Reply → Option Y) (m : Market) (facts : List Fact) (e : Entry) → Skips pick m e → (fs : List Fill) (n : ℕ) (first : ℕ → Reply) (o : Option Y) → ((k : ℕ) → pick (first k) ≡ o)
    → filter_map pick (numbered n (first ∷ entry_reports m facts e fs)) ≡ cons_option o []
entry_picked pick m facts e p fs n first o is =
    let fills = flat_map (fill_reports m e fs (next_trade facts)) (enumerate_from 0 fs) in
    numbered_picked pick n (first ∷ entry_reports m facts e fs) (λ k. is k ∙ sym (is 0), entry_steady pick m facts e p fs)
    ∙ (ap (λ x. cons_option x (filter_map (λ f. pick (f 0)) (entry_reports m facts e fs))) (is 0)
    ∙ ap (cons_option o)
    (filter_map-append (λ (f : ℕ → Reply). pick (f 0)) fills (unfilled_reports m e fs)
    ∙ (ap (λ l. l ++ filter_map (λ (f : ℕ → Reply). pick (f 0)) (unfilled_reports m e fs)) (fills_skipped pick m e p fs (next_trade facts) 0 fs)
    ∙ unfilled_skipped pick m e p fs (not (is_day e.order.life) && nat_lt (filled_by fs) e.order.quantity))))

entered_skips : (row t : ℕ) (m : Market) (e : Entry) → Skips (entered_by (here row t)) m e
entered_skips row t m e = record { fill = λ x left done f trade k. refl; rest = λ fs k. refl }

abbrev trade_facts : Entry → List Fill → List Fact
trade_facts e fs = map (λ f. Traded (trade_of e f)) fs

no_entry_facts : (e : Entry) (fs : List Fill) → entries (trade_facts e fs) ≡ []
no_entry_facts e [] = refl
no_entry_facts e (f ∷ fs) = no_entry_facts e fs

entered_once : (e : Entry) (fs : List Fill) → entries (entry_facts e fs) ≡ e ∷ []
entered_once e fs = ap (λ es. e ∷ es) (no_entry_facts e fs)

entry_reported : (row t : ℕ) (m : Market) (facts : List Fact) (e : Entry) (fs : List Fill) (n : ℕ) (first : ℕ → Reply) → ((k : ℕ) → entered_by (here row t) (first k) ≡ Some (entered_order row e))
    → filter_map (entered_by (here row t)) (numbered n (first ∷ entry_reports m facts e fs)) ≡ map (entered_order row) (entries (entry_facts e fs))
entry_reported row t m facts e fs n first is = entry_picked (entered_by (here row t)) m facts e (entered_skips row t m e) fs n first (Some (entered_order row e)) is ∙ sym (ap (map (entered_order row)) (entered_once e fs))

accepted_quiet : (row : ℕ) (m : Market) (h : History) (o : OrderFact) (t : ℕ) → AreReported row t (accepted m h o t)
accepted_quiet row m h o t =
    let e = entering h.facts o 0 t in
    let fs = fills h.facts o in
    entry_reported row t m h.facts e fs h.reports (λ n. reply o.who (OrderEntered (order_report m e o.quantity 0 n))) (λ k. refl)

-- Messages.

order_quiet : (row : ℕ) (m : Market) (h : History) (s : Sender) (d : OrderMessage) (t : ℕ) → AreReported row t (answer_order m h s d t)
order_quiet row m h s d t =
    first_turns (AreReported row t) (order_refusals m h s d t) (accepted m h (order_asked m s.who d) t) (refl, (refl, (refl, (refl, (refl, (refl, (refl, (refl, tt))))))))
    (λ n. accepted_quiet row m h (order_asked m s.who d) t)

abbrev rest_of : Named → Option Resting
rest_of (IsResting r) = Some r
rest_of (IsHeld k) = None
rest_of IsUnknown = None

held_rests_not : (k : Option HeldSide) → rest_of (elim k [ Some y ↦ IsHeld y | None ↦ IsUnknown ]) ≡ None
held_rests_not None = refl
held_rests_not (Some y) = refl

named_rests : (o : Option Resting) (k : Option HeldSide) (r : Resting) → elim o [ Some x ↦ IsResting x | None ↦ elim k [ Some y ↦ IsHeld y | None ↦ IsUnknown ] ] ≡ IsResting r → o ≡ Some r
named_rests (Some x) k r e = ap rest_of e
named_rests None k r e = sym (held_rests_not k) ∙ ap rest_of e

pub and_left : (a b : Bool) → (a && b) ≡ true → a ≡ true
and_left true b e = refl
and_left false b e = absurd (true≢false (sym e))

pub and_right : (a b : Bool) → (a && b) ≡ true → b ≡ true
and_right true b e = e
and_right false b e = absurd (true≢false (sym e))

named_own : (h : History) (who : ℕ) (id : List ℕ) (r : Resting) → named h who id ≡ IsResting r → who ≡ r.entry.order.who
named_own h who id r e =
    let p : Resting → Bool = λ x. rests x.entry.order.instrument x.entry.order.side x && (x.entry.order.who == who && bytes_eq x.entry.order.id id) in
    let passes = (In-find p (map (with_left (left h.facts)) (entries h.facts)) r (named_rests (find_order h.facts who id) (find_held h.facts who id) r e)).1 in
    sym (eqb-true r.entry.order.who who (and_left (r.entry.order.who == who) (bytes_eq r.entry.order.id id) (and_right (rests r.entry.order.instrument r.entry.order.side r) (r.entry.order.who == who && bytes_eq r.entry.order.id id) passes)))

replaced_quiet : (row : ℕ) (m : Market) (h : History) (s : Sender) (d : ReplaceMessage) (r : Resting) (t : ℕ) → s.who ≡ r.entry.order.who → AreReported row t (replaced m h s d r t)
replaced_quiet row m h s d r t own =
    let o = replacement d r in
    let e = entering h.facts o (filled r) t in
    let fs = fills h.facts o in
    let first : ℕ → Reply = λ n. reply s.who (OrderReplaced (record { order = order_report m e o.quantity (filled r) n; original_id = d.original_id })) in
    entry_reported row t m h.facts e fs h.reports first (λ k. ap (λ (who : ℕ). Some (record (entered_order row e) { owner = who })) own)

replace_quiet : (row : ℕ) (m : Market) (h : History) (s : Sender) (d : ReplaceMessage) (t : ℕ) (n : Named) → ((r : Resting) → n ≡ IsResting r → s.who ≡ r.entry.order.who) → AreReported row t (answer_replace_of m h s d t n)
replace_quiet row m h s d t IsUnknown own = refl
replace_quiet row m h s d t (IsHeld k) own = first_turns (AreReported row t) (held_replace_refusals h s d) (replace_refused s d None IsHeldSide) (refl, tt) (λ n. refl)
replace_quiet row m h s d t (IsResting r) own =
    first_turns (AreReported row t) (replace_refusals m h s d r t) (replaced m h s d r t) (refl, (refl, (refl, (refl, (refl, (refl, (refl, tt)))))))
    (λ n. replaced_quiet row m h s d r t (own r refl))

requests_silent : (row t : ℕ) (m : Market) (r : Room) (rs : List ℕ) → filter_map (entered_by (here row t)) (map (request_sent m r) rs) ≡ []
requests_silent row t m r [] = refl
requests_silent row t m r (x ∷ xs) = requests_silent row t m r xs

shown_silent : (row t : ℕ) (m : Market) (h : History) (s : Sender) (r : Room) (d : QuoteMessage) (o : Option RoomQuote) → filter_map (entered_by (here row t)) (quote_status s d (Some (symbol_of m.instruments r.instrument)) Accepted ∷ shown_with m h r o ++ quote_sent m r (quoted h s r d) ∷ []) ≡ []
shown_silent row t m h s r d None = refl
shown_silent row t m h s r d (Some q) = refl

quote_quiet : (row : ℕ) (m : Market) (h : History) (s : Sender) (d : QuoteMessage) (t : ℕ) (r : Option Room) → AreReported row t (answer_quote_of m h s d t r)
quote_quiet row m h s d t None = refl
quote_quiet row m h s d t (Some r) =
    first_turns (AreReported row t) (quote_refusals m h s r d t) (quote_accepted m h s r d) (refl, (refl, (refl, (refl, (refl, (refl, (refl, (refl, tt))))))))
    (λ n. shown_silent row t m h s r d (first_quote h.facts r.number))

request_quiet : (row : ℕ) (m : Market) (h : History) (s : Sender) (d : RequestMessage) (t : ℕ) → AreReported row t (answer_request m h s d t)
request_quiet row m h s d t =
    let r = opened m h s d t in
    first_turns (AreReported row t) (request_refusals m h s d t) (request_accepted m r)
    (refl, (refl, (refl, (refl, (refl, (refl, (refl, (refl, (refl, (refl, tt))))))))))
    (λ n. requests_silent row t m r r.recipients)

emitted_silent : (row t : ℕ) (m : Market) (q : RoomQuote) (o : Option Room) (rs : List Reply) → filter_map (entered_by (here row t)) rs ≡ [] → filter_map (entered_by (here row t)) (elim o [ None ↦ [] | Some r ↦ to_maker m r q Withdrawn ∷ to_requester m r q Withdrawn ∷ [] ] ++ rs) ≡ []
emitted_silent row t m q None rs k = k
emitted_silent row t m q (Some r) rs k = k

all_silent : (row t : ℕ) (m : Market) (h : History) (qs : List RoomQuote) → filter_map (entered_by (here row t)) (flat_map (both_emitted m h) qs) ≡ []
all_silent row t m h [] = refl
all_silent row t m h (q ∷ qs) = emitted_silent row t m q (room_by_number h.facts q.room) (flat_map (both_emitted m h) qs) (all_silent row t m h qs)

abbrev withdrawals : List RoomQuote → List Fact
withdrawals qs = map (λ (q : RoomQuote). WithdrawnFact (record { quote = q.number })) qs

none_entered : (qs : List RoomQuote) → entries (withdrawals qs) ≡ []
none_entered [] = refl
none_entered (q ∷ qs) = none_entered qs

withdrawn_quiet : (row t : ℕ) (m : Market) (h : History) (x : Answer) (qs : List RoomQuote) → AreReported row t x → AreReported row t (withdrawn_or m h x qs)
withdrawn_quiet row t m h x [] k = k
withdrawn_quiet row t m h x (q ∷ qs) k = all_silent row t m h (q ∷ qs) ∙ sym (ap (map (entered_order row)) (none_entered qs))

withdraw_one_quiet : (row : ℕ) (m : Market) (h : History) (s : Sender) (t : ℕ) (id : Option (List ℕ)) → AreReported row t (withdraw_one m h s t id)
withdraw_one_quiet row m h s t None = refl
withdraw_one_quiet row m h s t (Some id) = withdrawn_quiet row t m h (not_found s (Some id)) _ refl

withdrawal_quiet : (row : ℕ) (m : Market) (h : History) (s : Sender) (d : WithdrawalMessage) (t : ℕ) (one all : Bool) → AreReported row t (answer_withdrawal_of m h s d t one all)
withdrawal_quiet row m h s d t true all = withdraw_one_quiet row m h s t d.quote_id
withdrawal_quiet row m h s d t false true = withdrawn_quiet row t m h (not_found s None) _ refl
withdrawal_quiet row m h s d t false false = refl

hit_at_quiet : (row : ℕ) (m : Market) (h : History) (s : Sender) (r : Room) (q : RoomQuote) (d : ResponseMessage) (t : ℕ) (side : Side) (p : Option ℤ) → AreReported row t (answer_hit_at m h s r q d t side p)
hit_at_quiet row m h s r q d t side None = refl
hit_at_quiet row m h s r q d t side (Some p) = refl

hit_quiet : (row : ℕ) (m : Market) (h : History) (s : Sender) (r : Room) (q : RoomQuote) (d : ResponseMessage) (t : ℕ) (side : Option Side) → AreReported row t (answer_hit m h s r q d t side)
hit_quiet row m h s r q d t None = refl
hit_quiet row m h s r q d t (Some side) = hit_at_quiet row m h s r q d t side (price_for side q)

response_in_quiet : (row : ℕ) (m : Market) (h : History) (s : Sender) (q : RoomQuote) (d : ResponseMessage) (t : ℕ) (r : Option Room) → AreReported row t (answer_response_in m h s q d t r)
response_in_quiet row m h s q d t None = refl
response_in_quiet row m h s q d t (Some r) =
    first_turns (AreReported row t) (response_refusals m h s r q d t) (answer_hit m h s r q d t (taken_side r.side d.side)) (refl, (refl, (refl, (refl, (refl, (refl, tt))))))
    (λ n. hit_quiet row m h s r q d t (taken_side r.side d.side))

response_to_quiet : (row : ℕ) (m : Market) (h : History) (s : Sender) (d : ResponseMessage) (t : ℕ) (q : Option RoomQuote) → AreReported row t (answer_response_to m h s d t q)
response_to_quiet row m h s d t None = refl
response_to_quiet row m h s d t (Some q) = response_in_quiet row m h s q d t (room_by_number h.facts q.room)

response_quiet : (row : ℕ) (m : Market) (h : History) (s : Sender) (d : ResponseMessage) (t : ℕ) → AreReported row t (answer_response m h s d t)
response_quiet row m h s d t = first_turns (AreReported row t) (kind_refusals s d) _ (refl, tt) (λ n. response_to_quiet row m h s d t (find_quote h.facts d.quote_id))

market_data_quiet : (row : ℕ) (m : Market) (h : History) (s : Sender) (d : MarketDataMessage) (t : ℕ) → AreReported row t (answer_market_data m h s d)
market_data_quiet row m h s d t = first_turns (AreReported row t) (market_data_refusals m s d) (market_data m h s d) (refl, (refl, (refl, tt))) (λ n. refl)

cancel_quiet : (row t : ℕ) (m : Market) (h : History) (s : Sender) (d : CancelMessage) (n : Named) → AreReported row t (answer_cancel_of m h s d n)
cancel_quiet row t m h s d IsUnknown = refl
cancel_quiet row t m h s d (IsHeld k) = first_turns (AreReported row t) (cancel_refusals h s d None) (held_cancelled m h s d k) (refl, tt) (λ n. refl)
cancel_quiet row t m h s d (IsResting r) = first_turns (AreReported row t) (cancel_refusals h s d (Some (standing r))) (cancelled m h s d r) (refl, tt) (λ n. refl)

cross_quiet : (row : ℕ) (m : Market) (h : History) (s : Sender) (d : CrossMessage) (t : ℕ) → AreReported row t (answer_cross m h s d t)
cross_quiet row m h s d t = first_turns (AreReported row t) (cross_refusals m h s d t) (cross_accepted m h s d t) (refl, (refl, (refl, (refl, (refl, (refl, (refl, (refl, (refl, (refl, (refl, tt))))))))))) (λ n.
    let o = side_order m s.who d (first_side d) in
    let first = accepted m h o t in
    let k : HeldSide = record { order = side_order m s.who d (second_side d); cross = d.cross_id; due = t + delay_of m.instruments (instrument_of m.instruments d.symbol) } in
    accepted_quiet row m h o t ∙ ap (map (entered_order row)) (sym (filter_map-append entry_in first.facts (Held k ∷ []) ∙ append-nil (entries first.facts))))

-- a message
pub app_reported : (row : ℕ) (m : Market) (h : History) (s : Sender) (a : App) (t : ℕ) → AreReported row t (answer_app m h s a t)
app_reported row m h s (QuoteRequest d) t = request_quiet row m h s d t
app_reported row m h s (Quote d) t = quote_quiet row m h s d t (find_room h.facts d.request_id)
app_reported row m h s (QuoteCancel d) t = withdrawal_quiet row m h s d t (d.cancel_type == 5) (d.cancel_type == 4)
app_reported row m h s (QuoteResponse d) t = response_quiet row m h s d t
app_reported row m h s (NewOrderSingle d) t = order_quiet row m h s d t
app_reported row m h s (OrderCancelRequest d) t = cancel_quiet row t m h s d (named h s.who d.original_id)
app_reported row m h s (OrderCancelReplaceRequest d) t = replace_quiet row m h s d t (named h s.who d.original_id) (named_own h s.who d.original_id)
app_reported row m h s (NewOrderCross d) t = cross_quiet row m h s d t
app_reported row m h s (MarketDataRequest d) t = market_data_quiet row m h s d t
app_reported row m h s (BusinessMessageReject d) t = refl
app_reported row m h s (QuoteStatusReport d) t = refl
app_reported row m h s (QuoteRequestReject d) t = refl
app_reported row m h s (ExecutionReport d) t = refl
app_reported row m h s (OrderCancelReject d) t = refl
app_reported row m h s (MarketDataSnapshot d) t = refl
app_reported row m h s (MarketDataRequestReject d) t = refl
app_reported row m h s (Unsupported kind) t = refl

-- the side that is due, if any
due_reported : (row t : ℕ) (m : Market) (h : History) (o : Option HeldSide) → AreReported row (moment_from t o) (answer_due_of m h o)
due_reported row t m h None = refl
due_reported row t m h (Some k) = first_turns (AreReported row k.due) (due_refusals m h k) (accepted m h k.order k.due) (refl, (refl, tt)) (λ n. accepted_quiet row m h k.order k.due)

input_reported : (row : ℕ) (m : Market) (h : History) (i : Input) → AreReported row (entry_moment (held h.facts) i) (answer_input m h i)
input_reported row m h (Message taken t) = app_reported row m h (record { who = taken.from; number = taken.item.number; kind = type_of taken.item.app }) taken.item.app t
input_reported row m h (Tick t) = due_reported row t m h (due h.facts t)

pub orders_agree : OrdersAgree
orders_agree m is i row = input_reported row m (run m is).history i
