-- What is learned of quotes: each quote of the facts is known, with its maker's own identifier.
use Rattle.std.proofs.Common.{◌≡◌, refl, sym, ap, subst, ◌∙◌, ◌⊎◌, inl, inr, ℕ, ℤ, ◌+◌, ◌==◌, Bool, true, false, if◌then◌else◌, List, [], ◌∷◌, ◌++◌, map, Option, Some, None, append-nil}
use Rattle.std.specs.Prelude.{bytes_eq, filter}
use Rattle.std.specs.List.{flat_map}
use Rattle.std.proofs.lemmas.Bool.{true≢false}
use Rattle.std.proofs.lemmas.List.Elements.{filter_map-append}
use Rattle.std.proofs.lemmas.Slice.Eq.{bytes_eq-Decides}
use Rattle.fix_dictionary.specs.declared.messages.App.{App}
use Rattle.fix_dictionary.specs.declared.messages.App.TheVariants.{QuoteRequest, Quote, QuoteCancel, QuoteResponse, QuoteStatusReport, QuoteRequestReject, NewOrderSingle, OrderCancelRequest, OrderCancelReplaceRequest, NewOrderCross, ExecutionReport, OrderCancelReject, MarketDataRequest, MarketDataSnapshot, MarketDataRequestReject, BusinessMessageReject, Unsupported}
use Rattle.fix_dictionary.specs.declared.messages.NewOrderCross.{NewOrderCross as CrossMessage}
use Rattle.fix_dictionary.specs.declared.messages.MarketDataRequest.{MarketDataRequest as MarketDataMessage}
use Rattle.fix_dictionary.specs.declared.messages.NewOrderSingle.{NewOrderSingle as OrderMessage}
use Rattle.fix_dictionary.specs.declared.messages.OrderCancelRequest.{OrderCancelRequest as CancelMessage}
use Rattle.fix_dictionary.specs.declared.messages.OrderCancelReplaceRequest.{OrderCancelReplaceRequest as ReplaceMessage}
use Rattle.fix_dictionary.specs.declared.messages.Quote.{Quote as QuoteMessage}
use Rattle.fix_dictionary.specs.declared.messages.QuoteCancel.{QuoteCancel as WithdrawalMessage}
use Rattle.fix_dictionary.specs.declared.messages.QuoteRequest.{QuoteRequest as RequestMessage}
use Rattle.fix_dictionary.specs.declared.messages.QuoteResponse.{QuoteResponse as ResponseMessage}
use Rattle.fix_dictionary.specs.declared.values.Side.{Side}
use Rattle.instruments.specs.Listing.{delay_of, instrument_of, symbol_of}
use Rattle.venue_rules.specs.declared.facts.Entry.{Entry}
use Rattle.venue_rules.specs.declared.facts.Fact.{Fact}
use Rattle.venue_rules.specs.declared.facts.Fact.TheVariants as fact
use Rattle.venue_rules.specs.declared.facts.HeldSide.{HeldSide}
use Rattle.venue_rules.specs.declared.facts.OrderFact.{OrderFact}
use Rattle.venue_rules.specs.declared.facts.Room.{Room}
use Rattle.venue_rules.specs.declared.facts.RoomQuote.{RoomQuote}
use Rattle.venue_rules.specs.declared.refusals.ChangeRefusal.TheVariants.{HeldSide as IsHeldSide}
use Rattle.venue_rules.specs.declared.replies.QuoteState.TheVariants.{Accepted}
use Rattle.venue_rules.specs.declared.replies.Reply.{Reply}
use Rattle.venue_rules.specs.declared.replies.ReplyBody.{ReplyBody}
use Rattle.venue_rules.specs.declared.replies.ReplyBody.TheVariants as what
use Rattle.venue_rules.specs.Answer.{Answer, Sender, first_of}
use Rattle.venue_rules.specs.Answers.{answer_app, type_of}
use Rattle.venue_rules.specs.Book.{Fill, fills, filled}
use Rattle.venue_rules.specs.Changes.{Named, IsResting, IsHeld, IsUnknown, named, standing, answer_cancel_of, answer_replace_of, cancel_refusals, held_replace_refusals, replace_refusals, replace_refused, cancelled, held_cancelled, replaced, replacement}
use Rattle.venue_rules.specs.Crosses.{answer_due, cross_accepted, cross_refusals, side_order, first_side, second_side, due_refusals}
use Rattle.venue_rules.specs.Delay.{due}
use Rattle.venue_rules.specs.Entering.{entering, trade_of}
use Rattle.venue_rules.specs.Facts.{History, held_sides, quote_in as quote_in_fact, quotes}
use Rattle.venue_rules.specs.Market.{Market}
use Rattle.venue_rules.specs.MarketData.{answer_market_data, market_data_refusals, market_data}
use Rattle.venue_rules.specs.Orders.{accepted, answer_order, order_asked, order_refusals}
use Rattle.venue_rules.specs.Quotes.{answer_quote_of, quote_refusals, quote_accepted, quote_sent, quote_status, quoted, shown_with}
use Rattle.venue_rules.specs.Requests.{answer_request, request_accepted, request_refusals, opened}
use Rattle.venue_rules.specs.Responses.{answer_response, answer_response_to, answer_response_in, answer_hit, answer_hit_at, response_refusals, kind_refusals, taken_side, price_for}
use Rattle.venue_rules.specs.Rooms.{find_room, find_quote, first_quote, live_quotes, printed, room_by_number}
use Rattle.venue_rules.specs.Run.{Input, Message, Tick, after, answer_input, answer_due_of}
use Rattle.venue_rules.specs.Withdrawals.{answer_withdrawal_of, withdraw_one, withdrawn_or, not_found}
use Rattle.trade_table.specs.declared.execution.Known.{Known}
use Rattle.trade_table.specs.declared.execution.Known.TheVariants.{Quote as QuoteKnown}
use Rattle.trade_table.specs.Executions.{taken_in}
use Rattle.trade_table.specs.Sources.{cross_known, crossed_in, id_of, known_at, known_by, newest, or, own_id, quote_known, quoted_in, side_entered}
use Rattle.venue_rules.proofs.Members.{In, In-append_cases, In-append_left, In-append_right}
use Rattle.trade_blotter.proofs.Lists.{none_is_some}

-- each quote of these facts, or one that is printed as it is, is the newest that its printed number names
pub record IsKnown (ks : List Known) (qs : List RoomQuote) (q : RoomQuote) : Type 0 where
  pub one : RoomQuote
  pub quoted : In one qs
  pub printed_is : printed 81 one.number ≡ printed 81 q.number
  pub id : own_id ks (printed 81 q.number) ≡ Some one.id

abbrev pub AreKnown : List Known → List RoomQuote → Type 0
AreKnown ks qs = (q : RoomQuote) → In q qs → IsKnown ks qs q

-- the newest of two lists

or_assoc : {A : Type 0} (x y z : Option A) → or (or x y) z ≡ or x (or y z)
or_assoc None y z = refl
or_assoc (Some x) y z = refl

or_none : {A : Type 0} (o : Option A) → o ≡ or o None
or_none None = refl
or_none (Some x) = refl

newest_append : {A B : Type 0} (pick : A → Option B) (xs ys : List A) → newest pick (xs ++ ys) ≡ or (newest pick ys) (newest pick xs)
newest_append pick [] ys = or_none (newest pick ys)
newest_append pick (x ∷ xs) ys = ap (λ o. or o (pick x)) (newest_append pick xs ys) ∙ or_assoc (newest pick ys) (newest pick xs) (pick x)

-- nothing of a quote
abbrev Quiet : List Known → Type 0
Quiet ks = (id : List ℕ) → newest (id_of id) ks ≡ None

quiet_append : (xs ys : List Known) → Quiet xs → Quiet ys → Quiet (xs ++ ys)
quiet_append xs ys a b id = newest_append (id_of id) xs ys ∙ (λ j. or (b id j) (a id j))

side_quiet : (d : CrossMessage) (who : ℕ) (id : List ℕ) (o : Option ℕ) → Quiet (side_entered d who id o)
side_quiet d who id None k = refl
side_quiet d who id (Some order) k = refl

cross_quiet : (o : Option CrossMessage) (who : ℕ) (x : ReplyBody) → Quiet (cross_known o who x)
cross_quiet None who x k = refl
cross_quiet (Some d) who (what.OrderEntered r) k = side_quiet d who r.id r.order k
cross_quiet (Some d) who (what.OrderFilled r) k = refl
cross_quiet (Some d) who (what.OrderReplaced r) k = refl
cross_quiet (Some d) who (what.OrderRefused r) k = refl
cross_quiet (Some d) who (what.CrossRefused r) k = refl
cross_quiet (Some d) who (what.OrderUnfilled r) k = refl
cross_quiet (Some d) who (what.OrderCancelled r) k = refl
cross_quiet (Some d) who (what.ChangeRefused r) k = refl
cross_quiet (Some d) who (what.RequestSent r) k = refl
cross_quiet (Some d) who (what.RequestRefused r) k = refl
cross_quiet (Some d) who (what.QuoteSent r) k = refl
cross_quiet (Some d) who (what.QuoteStatus r) k = refl
cross_quiet (Some d) who (what.BookSnapshot r) k = refl
cross_quiet (Some d) who (what.MarketDataReject r) k = refl
cross_quiet (Some d) who (what.RoomTraded r) k = refl
cross_quiet (Some d) who (what.BusinessReject r) k = refl

by_quiet : (a : App) (r : Reply) → quoted_in a ≡ None → Quiet (known_by a r)
by_quiet a r none = quiet_append (quote_known (quoted_in a) r.what) (cross_known (crossed_in a) r.to r.what) (subst (λ (o : Option (List ℕ)). Quiet (quote_known o r.what)) (sym none) (λ id. refl)) (cross_quiet (crossed_in a) r.to r.what)

all_quiet : (a : App) (rs : List Reply) → quoted_in a ≡ None → Quiet (flat_map (known_by a) rs)
all_quiet a [] none = λ id. refl
all_quiet a (r ∷ rs) none = quiet_append (known_by a r) (flat_map (known_by a) rs) (by_quiet a r none) (all_quiet a rs none)

-- Only the answer to a quote adds a quote, and only that to a cross a held side.

abbrev pub NoQuote : Answer → Type 0
NoQuote a = quotes a.facts ≡ []

abbrev pub NoSide : Answer → Type 0
NoSide a = held_sides a.facts ≡ []

abbrev AddsNone : Answer → Type 0
AddsNone a = NoQuote a × NoSide a

abbrev pub All : (Answer → Type 0) → List (Bool × Answer) → Type 0
All P [] = Unit {0}
All P (x ∷ xs) = P x.1 × All P xs

pub first_keeps : (P : Answer → Type 0) (xs : List (Bool × Answer)) (y : Answer) → All P xs → P y → P (first_of xs y)
first_keeps P [] y n k = k
first_keeps P (x ∷ xs) y n k = elim x.0 as (λ b. P (elim b [ true ↦ x.1 | false ↦ first_of xs y ])) [ true ↦ n.0 | false ↦ first_keeps P xs y n.1 k ]

first_adds : (xs : List (Bool × Answer)) (y : Answer) → All AddsNone xs → AddsNone y → AddsNone (first_of xs y)
first_adds xs y n k = first_keeps AddsNone xs y n k

nothing_of : (e : Entry) (fs : List Fill) → (quotes (map (λ f. fact.Traded (trade_of e f)) fs) ≡ []) × (held_sides (map (λ f. fact.Traded (trade_of e f)) fs) ≡ [])
nothing_of e [] = (refl, refl)
nothing_of e (f ∷ fs) = nothing_of e fs

none_withdrawn : (qs : List RoomQuote) → (quotes (map (λ (q : RoomQuote). fact.Withdrawn (record { quote = q.number })) qs) ≡ []) × (held_sides (map (λ (q : RoomQuote). fact.Withdrawn (record { quote = q.number })) qs) ≡ [])
none_withdrawn [] = (refl, refl)
none_withdrawn (q ∷ qs) = none_withdrawn qs

pub accepted_adds : (m : Market) (h : History) (o : OrderFact) (t : ℕ) → AddsNone (accepted m h o t)
accepted_adds m h o t = nothing_of (entering h.facts o 0 t) (fills h.facts o)

cancel_adds : (m : Market) (h : History) (s : Sender) (d : CancelMessage) (n : Named) → AddsNone (answer_cancel_of m h s d n)
cancel_adds m h s d IsUnknown = (refl, refl)
cancel_adds m h s d (IsHeld k) = first_adds (cancel_refusals h s d None) (held_cancelled m h s d k) ((refl, refl), tt) (refl, refl)
cancel_adds m h s d (IsResting x) = first_adds (cancel_refusals h s d (Some (standing x))) (cancelled m h s d x) ((refl, refl), tt) (refl, refl)

replace_adds : (m : Market) (h : History) (s : Sender) (d : ReplaceMessage) (t : ℕ) (n : Named) → AddsNone (answer_replace_of m h s d t n)
replace_adds m h s d t IsUnknown = (refl, refl)
replace_adds m h s d t (IsHeld k) = first_adds (held_replace_refusals h s d) (replace_refused s d None IsHeldSide) ((refl, refl), tt) (refl, refl)
replace_adds m h s d t (IsResting x) =
    first_adds (replace_refusals m h s d x t) (replaced m h s d x t) ((refl, refl), ((refl, refl), ((refl, refl), ((refl, refl), ((refl, refl), ((refl, refl), ((refl, refl), tt))))))) (nothing_of (entering h.facts (replacement d x) (filled x) t) (fills h.facts (replacement d x)))

cross_adds : (m : Market) (h : History) (s : Sender) (d : CrossMessage) (t : ℕ) → NoQuote (cross_accepted m h s d t)
cross_adds m h s d t =
    let first = accepted m h (side_order m s.who d (first_side d)) t in
    let held : Fact = fact.Held (record { order = side_order m s.who d (second_side d); cross = d.cross_id; due = t + delay_of m.instruments (instrument_of m.instruments d.symbol) }) in
    filter_map-append quote_in_fact first.facts (held ∷ []) ∙ (append-nil (quotes first.facts) ∙ (accepted_adds m h (side_order m s.who d (first_side d)) t).0)

due_adds : (m : Market) (h : History) (k : HeldSide) → AddsNone (answer_due m h k)
due_adds m h k = first_adds (due_refusals m h k) (accepted m h k.order k.due) ((refl, refl), ((refl, refl), tt)) (accepted_adds m h k.order k.due)

pub due_or_none_adds : (m : Market) (h : History) (o : Option HeldSide) → AddsNone (answer_due_of m h o)
due_or_none_adds m h None = (refl, refl)
due_or_none_adds m h (Some k) = due_adds m h k

withdrawn_adds : (m : Market) (h : History) (x : Answer) (qs : List RoomQuote) → AddsNone x → AddsNone (withdrawn_or m h x qs)
withdrawn_adds m h x [] k = k
withdrawn_adds m h x (q ∷ qs) k = none_withdrawn (q ∷ qs)

withdraw_one_adds : (m : Market) (h : History) (s : Sender) (t : ℕ) (id : Option (List ℕ)) → AddsNone (withdraw_one m h s t id)
withdraw_one_adds m h s t None = (refl, refl)
withdraw_one_adds m h s t (Some id) = withdrawn_adds m h (not_found s (Some id)) (filter (λ q. bytes_eq q.id id) (live_quotes h.facts s.who t)) (refl, refl)

withdrawal_adds : (m : Market) (h : History) (s : Sender) (d : WithdrawalMessage) (t : ℕ) (one all : Bool) → AddsNone (answer_withdrawal_of m h s d t one all)
withdrawal_adds m h s d t true all = withdraw_one_adds m h s t d.quote_id
withdrawal_adds m h s d t false true = withdrawn_adds m h (not_found s None) (live_quotes h.facts s.who t) (refl, refl)
withdrawal_adds m h s d t false false = (refl, refl)

hit_at_adds : (m : Market) (h : History) (s : Sender) (r : Room) (q : RoomQuote) (d : ResponseMessage) (t : ℕ) (side : Side) (p : Option ℤ) → AddsNone (answer_hit_at m h s r q d t side p)
hit_at_adds m h s r q d t side None = (refl, refl)
hit_at_adds m h s r q d t side (Some p) = (refl, refl)

hit_adds : (m : Market) (h : History) (s : Sender) (r : Room) (q : RoomQuote) (d : ResponseMessage) (t : ℕ) (side : Option Side) → AddsNone (answer_hit m h s r q d t side)
hit_adds m h s r q d t None = (refl, refl)
hit_adds m h s r q d t (Some side) = hit_at_adds m h s r q d t side (price_for side q)

response_in_adds : (m : Market) (h : History) (s : Sender) (q : RoomQuote) (d : ResponseMessage) (t : ℕ) (o : Option Room) → AddsNone (answer_response_in m h s q d t o)
response_in_adds m h s q d t None = (refl, refl)
response_in_adds m h s q d t (Some r) = first_adds (response_refusals m h s r q d t) (answer_hit m h s r q d t (taken_side r.side d.side)) ((refl, refl), ((refl, refl), ((refl, refl), ((refl, refl), ((refl, refl), ((refl, refl), tt)))))) (hit_adds m h s r q d t (taken_side r.side d.side))

response_to_adds : (m : Market) (h : History) (s : Sender) (d : ResponseMessage) (t : ℕ) (o : Option RoomQuote) → AddsNone (answer_response_to m h s d t o)
response_to_adds m h s d t None = (refl, refl)
response_to_adds m h s d t (Some q) = response_in_adds m h s q d t (room_by_number h.facts q.room)

response_adds : (m : Market) (h : History) (s : Sender) (d : ResponseMessage) (t : ℕ) → AddsNone (answer_response m h s d t)
response_adds m h s d t = first_adds (kind_refusals s d) (answer_response_to m h s d t (find_quote h.facts d.quote_id)) ((refl, refl), tt) (response_to_adds m h s d t (find_quote h.facts d.quote_id))

request_adds : (m : Market) (h : History) (s : Sender) (d : RequestMessage) (t : ℕ) → AddsNone (answer_request m h s d t)
request_adds m h s d t = first_adds (request_refusals m h s d t) (request_accepted m (opened m h s d t)) ((refl, refl), ((refl, refl), ((refl, refl), ((refl, refl), ((refl, refl), ((refl, refl), ((refl, refl), ((refl, refl), ((refl, refl), ((refl, refl), tt)))))))))) (refl, refl)

order_adds : (m : Market) (h : History) (s : Sender) (d : OrderMessage) (t : ℕ) → AddsNone (answer_order m h s d t)
order_adds m h s d t = first_adds (order_refusals m h s d t) (accepted m h (order_asked m s.who d) t) ((refl, refl), ((refl, refl), ((refl, refl), ((refl, refl), ((refl, refl), ((refl, refl), ((refl, refl), ((refl, refl), tt)))))))) (accepted_adds m h (order_asked m s.who d) t)

market_data_adds : (m : Market) (h : History) (s : Sender) (d : MarketDataMessage) → AddsNone (answer_market_data m h s d)
market_data_adds m h s d = first_adds (market_data_refusals m s d) (market_data m h s d) ((refl, refl), ((refl, refl), ((refl, refl), tt))) (refl, refl)

quote_adds : (m : Market) (h : History) (s : Sender) (d : QuoteMessage) (t : ℕ) (o : Option Room) → NoSide (answer_quote_of m h s d t o)
quote_adds m h s d t None = refl
quote_adds m h s d t (Some r) = first_keeps NoSide (quote_refusals m h s r d t) (quote_accepted m h s r d) (refl, (refl, (refl, (refl, (refl, (refl, (refl, (refl, tt)))))))) refl

-- any message but a cross
pub app_sides : (m : Market) (h : History) (s : Sender) (a : App) (t : ℕ) → crossed_in a ≡ None → NoSide (answer_app m h s a t)
app_sides m h s (QuoteRequest d) t none = (request_adds m h s d t).1
app_sides m h s (Quote d) t none = quote_adds m h s d t (find_room h.facts d.request_id)
app_sides m h s (QuoteCancel d) t none = (withdrawal_adds m h s d t (d.cancel_type == 5) (d.cancel_type == 4)).1
app_sides m h s (QuoteResponse d) t none = (response_adds m h s d t).1
app_sides m h s (NewOrderSingle d) t none = (order_adds m h s d t).1
app_sides m h s (OrderCancelRequest d) t none = (cancel_adds m h s d (named h s.who d.original_id)).1
app_sides m h s (OrderCancelReplaceRequest d) t none = (replace_adds m h s d t (named h s.who d.original_id)).1
app_sides m h s (NewOrderCross d) t none = absurd (none_is_some d (sym none))
app_sides m h s (MarketDataRequest d) t none = (market_data_adds m h s d).1
app_sides m h s (BusinessMessageReject d) t none = refl
app_sides m h s (QuoteStatusReport d) t none = refl
app_sides m h s (QuoteRequestReject d) t none = refl
app_sides m h s (ExecutionReport d) t none = refl
app_sides m h s (OrderCancelReject d) t none = refl
app_sides m h s (MarketDataSnapshot d) t none = refl
app_sides m h s (MarketDataRequestReject d) t none = refl
app_sides m h s (Unsupported kind) t none = refl

-- what an answer adds, and what is learned from it
abbrev Learns : App → Answer → Type 0
Learns a x = ((quotes x.facts ≡ []) × Quiet (flat_map (known_by a) x.replies)) ⊎ ((q : RoomQuote) × (quotes x.facts ≡ q ∷ []) × (flat_map (known_by a) x.replies ≡ QuoteKnown (record { number = q.number; id = q.id }) ∷ []))

none_learned : (a : App) (x : Answer) → quoted_in a ≡ None → NoQuote x → Learns a x
none_learned a x none adds = inl (adds, all_quiet a x.replies none)

abbrev AllLearn : QuoteMessage → List (Bool × Answer) → Type 0
AllLearn d [] = Unit {0}
AllLearn d (x ∷ xs) = Learns (Quote d) x.1 × AllLearn d xs

first_learns : (d : QuoteMessage) (xs : List (Bool × Answer)) (y : Answer) → AllLearn d xs → Learns (Quote d) y → Learns (Quote d) (first_of xs y)
first_learns d [] y n k = k
first_learns d (x ∷ xs) y n k = elim x.0 as (λ b. Learns (Quote d) (elim b [ true ↦ x.1 | false ↦ first_of xs y ])) [ true ↦ n.0 | false ↦ first_learns d xs y n.1 k ]

quote_accepted_learns : (m : Market) (h : History) (s : Sender) (r : Room) (d : QuoteMessage) (o : Option RoomQuote) → o ≡ first_quote h.facts r.number → Learns (Quote d) (quote_accepted m h s r d)
quote_accepted_learns m h s r d o is =
    inr (quoted h s r d, refl, ap (λ (l : List Reply). flat_map (known_by (Quote d)) (quote_status s d (Some (symbol_of m.instruments r.instrument)) Accepted ∷ l ++ quote_sent m r (quoted h s r d) ∷ [])) (ap (shown_with m h r) (sym is)) ∙ by o)
  where
    by : (o : Option RoomQuote) → flat_map (known_by (Quote d)) (quote_status s d (Some (symbol_of m.instruments r.instrument)) Accepted ∷ shown_with m h r o ++ quote_sent m r (quoted h s r d) ∷ []) ≡ QuoteKnown (record { number = (quoted h s r d).number; id = d.quote_id }) ∷ []
    by None = refl
    by (Some q) = refl

quote_learns : (m : Market) (h : History) (s : Sender) (d : QuoteMessage) (t : ℕ) (o : Option Room) → Learns (Quote d) (answer_quote_of m h s d t o)
quote_learns m h s d t None = inl (refl, λ id. refl)
quote_learns m h s d t (Some r) = first_learns d (quote_refusals m h s r d t) (quote_accepted m h s r d) (inl (refl, λ id. refl), (inl (refl, λ id. refl), (inl (refl, λ id. refl), (inl (refl, λ id. refl), (inl (refl, λ id. refl), (inl (refl, λ id. refl), (inl (refl, λ id. refl), (inl (refl, λ id. refl), tt)))))))) (quote_accepted_learns m h s r d (first_quote h.facts r.number) refl)

app_learns : (m : Market) (h : History) (s : Sender) (a : App) (t : ℕ) → Learns a (answer_app m h s a t)
app_learns m h s (QuoteRequest d) t = none_learned (QuoteRequest d) (answer_app m h s (QuoteRequest d) t) refl (request_adds m h s d t).0
app_learns m h s (Quote d) t = quote_learns m h s d t (find_room h.facts d.request_id)
app_learns m h s (QuoteCancel d) t = none_learned (QuoteCancel d) (answer_app m h s (QuoteCancel d) t) refl (withdrawal_adds m h s d t (d.cancel_type == 5) (d.cancel_type == 4)).0
app_learns m h s (QuoteResponse d) t = none_learned (QuoteResponse d) (answer_app m h s (QuoteResponse d) t) refl (response_adds m h s d t).0
app_learns m h s (NewOrderSingle d) t = none_learned (NewOrderSingle d) (answer_app m h s (NewOrderSingle d) t) refl (order_adds m h s d t).0
app_learns m h s (OrderCancelRequest d) t = none_learned (OrderCancelRequest d) (answer_app m h s (OrderCancelRequest d) t) refl (cancel_adds m h s d (named h s.who d.original_id)).0
app_learns m h s (OrderCancelReplaceRequest d) t = none_learned (OrderCancelReplaceRequest d) (answer_app m h s (OrderCancelReplaceRequest d) t) refl (replace_adds m h s d t (named h s.who d.original_id)).0
app_learns m h s (NewOrderCross d) t = none_learned (NewOrderCross d) (answer_app m h s (NewOrderCross d) t) refl (first_keeps NoQuote (cross_refusals m h s d t) (cross_accepted m h s d t) (refl, (refl, (refl, (refl, (refl, (refl, (refl, (refl, (refl, (refl, (refl, tt))))))))))) (cross_adds m h s d t))
app_learns m h s (MarketDataRequest d) t = none_learned (MarketDataRequest d) (answer_app m h s (MarketDataRequest d) t) refl (market_data_adds m h s d).0
app_learns m h s (BusinessMessageReject d) t = inl (refl, λ id. refl)
app_learns m h s (QuoteStatusReport d) t = inl (refl, λ id. refl)
app_learns m h s (QuoteRequestReject d) t = inl (refl, λ id. refl)
app_learns m h s (ExecutionReport d) t = inl (refl, λ id. refl)
app_learns m h s (OrderCancelReject d) t = inl (refl, λ id. refl)
app_learns m h s (MarketDataSnapshot d) t = inl (refl, λ id. refl)
app_learns m h s (MarketDataRequestReject d) t = inl (refl, λ id. refl)
app_learns m h s (Unsupported kind) t = inl (refl, λ id. refl)

-- One answer further.

quiet_known : (ks new : List Known) (qs : List RoomQuote) → Quiet new → AreKnown ks qs → AreKnown (ks ++ new) qs
quiet_known ks new qs quiet known q i =
    let k = known q i in
    record { one = k.one; quoted = k.quoted; printed_is = k.printed_is; id = newest_append (id_of (printed 81 q.number)) ks new ∙ (ap (λ o. or o (own_id ks (printed 81 q.number))) (quiet (printed 81 q.number)) ∙ k.id) }

one_known : (ks : List Known) (qs : List RoomQuote) (new : RoomQuote) → AreKnown ks qs → AreKnown (ks ++ QuoteKnown (record { number = new.number; id = new.id }) ∷ []) (qs ++ new ∷ [])
one_known ks qs new before q i = by (bytes_eq (printed 81 new.number) (printed 81 q.number)) refl (In-append_cases qs (new ∷ []) q i)
  where
    k : Known
    k = QuoteKnown (record { number = new.number; id = new.id })

    picked : (b : Bool) → bytes_eq (printed 81 new.number) (printed 81 q.number) ≡ b → own_id (ks ++ k ∷ []) (printed 81 q.number) ≡ or (if b then Some new.id else None) (own_id ks (printed 81 q.number))
    picked b is = newest_append (id_of (printed 81 q.number)) ks (k ∷ []) ∙ ap (λ (c : Bool). or (if c then Some new.id else None) (own_id ks (printed 81 q.number))) is

    older : In q qs → IsKnown ks qs q → bytes_eq (printed 81 new.number) (printed 81 q.number) ≡ false → IsKnown (ks ++ k ∷ []) (qs ++ new ∷ []) q
    older j had is = record { one = had.one; quoted = In-append_left qs (new ∷ []) had.one had.quoted; printed_is = had.printed_is; id = picked false is ∙ had.id }

    itself : (new ≡ q) → bytes_eq (printed 81 new.number) (printed 81 q.number) ≡ true
    itself e = (bytes_eq-Decides (printed 81 new.number) (printed 81 q.number)).1 (ap (λ (y : RoomQuote). printed 81 y.number) e)

    by : (b : Bool) → bytes_eq (printed 81 new.number) (printed 81 q.number) ≡ b → In q qs ⊎ In q (new ∷ []) → IsKnown (ks ++ k ∷ []) (qs ++ new ∷ []) q
    by true is j = record { one = new; quoted = In-append_right qs (new ∷ []) new (inl refl); printed_is = (bytes_eq-Decides (printed 81 new.number) (printed 81 q.number)).0 is; id = picked true is }
    by false is (inl j) = older j (before q j) is
    by false is (inr (inl e)) = absurd (true≢false (sym (itself e) ∙ is))
    by false is (inr (inr j)) = absurd j

learned_known : (ks : List Known) (h : History) (a : App) (x : Answer) → Learns a x → AreKnown ks (quotes h.facts) → AreKnown (ks ++ flat_map (known_by a) x.replies) (quotes (after h x).facts)
learned_known ks h a x (inl p) known =
    subst (AreKnown (ks ++ flat_map (known_by a) x.replies)) (sym (filter_map-append quote_in_fact h.facts x.facts ∙ (ap (λ (l : List RoomQuote). quotes h.facts ++ l) p.0 ∙ append-nil (quotes h.facts)))) (quiet_known ks (flat_map (known_by a) x.replies) (quotes h.facts) p.1 known)
learned_known ks h a x (inr p) known =
    subst (λ (l : List Known). AreKnown (ks ++ l) (quotes (after h x).facts)) (sym p.2)
    (subst (AreKnown (ks ++ QuoteKnown (record { number = p.0.number; id = p.0.id }) ∷ [])) (sym (filter_map-append quote_in_fact h.facts x.facts ∙ ap (λ (l : List RoomQuote). quotes h.facts ++ l) p.1)) (one_known ks (quotes h.facts) p.0 known))

pub input_known : (m : Market) (h : History) (ks : List Known) (i : Input) → AreKnown ks (quotes h.facts) → AreKnown (ks ++ known_at (taken_in i) (answer_input m h i).replies) (quotes (after h (answer_input m h i)).facts)
input_known m h ks (Message taken t) known =
    learned_known ks h taken.item.app (answer_input m h (Message taken t)) (app_learns m h (record { who = taken.from; number = taken.item.number; kind = type_of taken.item.app }) taken.item.app t) known
input_known m h ks (Tick t) known =
    let x = answer_input m h (Tick t) in
    subst (AreKnown (ks ++ [])) (sym (filter_map-append quote_in_fact h.facts x.facts ∙ (ap (λ (l : List RoomQuote). quotes h.facts ++ l) (due_or_none_adds m h (due h.facts t)).0 ∙ append-nil (quotes h.facts)))) (quiet_known ks [] (quotes h.facts) (λ id. refl) known)
