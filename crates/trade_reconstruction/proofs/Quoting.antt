-- Each quote of a day is reported to the requester of its room.
use Rattle.std.proofs.Common.{◌≡◌, refl, sym, ap, subst, ◌∙◌, ◌⊎◌, inl, inr, ℕ, ℤ, ◌+◌, ◌==◌, Bool, true, false, List, [], ◌∷◌, ◌++◌, map, filter, Option, Some, None, append-nil, bytes_eq}
use Rattle.std.specs.List.{flat_map}
use Rattle.std.proofs.lemmas.List.Elements.{filter_map-append}
use Rattle.fix_dictionary.specs.declared.messages.App.{App}
use Rattle.fix_dictionary.specs.declared.messages.App.TheVariants.{QuoteRequest, Quote, QuoteCancel, QuoteResponse, QuoteStatusReport, QuoteRequestReject, NewOrderSingle, OrderCancelRequest, OrderCancelReplaceRequest, NewOrderCross, ExecutionReport, OrderCancelReject, MarketDataRequest, MarketDataSnapshot, MarketDataRequestReject, BusinessMessageReject, Unsupported}
use Rattle.fix_dictionary.specs.declared.messages.Quote.{Quote as QuoteMessage}
use Rattle.fix_dictionary.specs.declared.messages.QuoteCancel.{QuoteCancel as WithdrawalMessage}
use Rattle.fix_dictionary.specs.declared.messages.QuoteResponse.{QuoteResponse as ResponseMessage}
use Rattle.fix_dictionary.specs.declared.messages.OrderCancelRequest.{OrderCancelRequest as CancelMessage}
use Rattle.fix_dictionary.specs.declared.messages.OrderCancelReplaceRequest.{OrderCancelReplaceRequest as ReplaceMessage}
use Rattle.fix_dictionary.specs.declared.messages.NewOrderCross.{NewOrderCross as CrossMessage}
use Rattle.fix_dictionary.specs.declared.values.Side.{Side}
use Rattle.instruments.specs.Listing.{delay_of, instrument_of}
use Rattle.venue_rules.specs.declared.facts.Entry.{Entry}
use Rattle.venue_rules.specs.declared.facts.Fact.{Fact}
use Rattle.venue_rules.specs.declared.facts.Fact.TheVariants.{Held, Traded, Withdrawn as WithdrawnFact}
use Rattle.venue_rules.specs.declared.facts.Fact.TheVariants as fact
use Rattle.venue_rules.specs.declared.facts.HeldSide.{HeldSide}
use Rattle.venue_rules.specs.declared.facts.Room.{Room}
use Rattle.venue_rules.specs.declared.facts.RoomQuote.{RoomQuote}
use Rattle.venue_rules.specs.declared.trail.TrailRow.{TrailRow}
use Rattle.venue_rules.specs.Answer.{Answer, Sender, first_of}
use Rattle.venue_rules.specs.Answers.{answer_app, type_of}
use Rattle.venue_rules.specs.Book.{Fill, filled, fills}
use Rattle.venue_rules.specs.Changes.{Named, IsResting, IsHeld, IsUnknown, answer_cancel_of, answer_replace_of, cancel_refusals, held_replace_refusals, replace_refused, replace_refusals, cancelled, held_cancelled, named, replaced, replacement, standing}
use Rattle.venue_rules.specs.Crosses.{cross_accepted, cross_refusals, due_refusals, first_side, second_side, side_order}
use Rattle.venue_rules.specs.Delay.{due}
use Rattle.venue_rules.specs.Entering.{entering, trade_of}
use Rattle.venue_rules.specs.Facts.{History, no_history, quote_in as quote_in_fact, quotes, room_in as room_in_fact, rooms}
use Rattle.venue_rules.specs.Market.{Market}
use Rattle.venue_rules.specs.MarketData.{market_data, market_data_refusals}
use Rattle.venue_rules.specs.Orders.{accepted, order_asked, order_refusals}
use Rattle.venue_rules.specs.Quotes.{answer_quote_of, quote_accepted, quote_refusals, quote_sent, quoted, shown_with}
use Rattle.venue_rules.specs.Requests.{opened, request_accepted, request_refusals}
use Rattle.venue_rules.specs.Responses.{answer_hit, answer_hit_at, answer_response_in, answer_response_to, kind_refusals, price_for, response_refusals, taken_side}
use Rattle.venue_rules.specs.Rooms.{find_quote, find_room, first_quote, live_quotes, printed, room_by_number}
use Rattle.venue_rules.specs.Run.{Input, Message, Tick, after, answer_due_of, answer_input, run, run_from}
use Rattle.venue_rules.specs.Withdrawals.{answer_withdrawal_of, not_found, withdraw_one, withdrawn_or}
use Rattle.venue_core.specs.Replay.{AreEmitted}
use Rattle.trade_reconstruction.specs.declared.evidence_event.EventKind.TheVariants as said
use Rattle.trade_reconstruction.specs.declared.evidence_event.EvidenceEvent.{EvidenceEvent}
use Rattle.trade_reconstruction.specs.declared.trigger.Trigger.{Trigger}
use Rattle.trade_reconstruction.specs.EventKinds.{quote_id_in, word, words_in, words_of}
use Rattle.trade_reconstruction.specs.Emitted.{came_of, words_at, words_emitted, words_from}
use Rattle.trade_reconstruction.specs.Laws.{IsReported, QuotesAreReported, quoted_as}
use Rattle.trade_reconstruction.proofs.Holds.{run_grows}
use Rattle.venue_rules.proofs.Members.{Contains-from_In, In, In-append_cases, In-append_left, In-append_right, In-filter_map, In-find, In-from_Contains, picked_from}
use Rattle.trade_blotter.proofs.Lists.{none_is_some, same_some}

-- An answer without quotes.

abbrev pub Quiet : Answer → Type 0
Quiet a = quotes a.facts ≡ []

abbrev pub AllQuiet : List (Bool × Answer) → Type 0
AllQuiet [] = Unit {0}
AllQuiet (r ∷ rs) = Quiet r.1 × AllQuiet rs

quiet_first : (rs : List (Bool × Answer)) (x : Answer) → AllQuiet rs → Quiet x → Quiet (first_of rs x)
quiet_first [] x all here = here
quiet_first (r ∷ rs) x all here = elim r.0 as (λ b. Quiet (elim b [ true ↦ r.1 | false ↦ first_of rs x ])) [ true ↦ all.0 | false ↦ quiet_first rs x all.1 here ]

quiet_trades : (e : Entry) (fs : List Fill) → quotes (map (λ (f : Fill). Traded (trade_of e f)) fs) ≡ []
quiet_trades e [] = refl
quiet_trades e (f ∷ fs) = quiet_trades e fs

quiet_withdrawals : (qs : List RoomQuote) → quotes (map (λ (q : RoomQuote). WithdrawnFact (record { quote = q.number })) qs) ≡ []
quiet_withdrawals [] = refl
quiet_withdrawals (q ∷ qs) = quiet_withdrawals qs

quiet_cancel : (m : Market) (h : History) (s : Sender) (d : CancelMessage) (n : Named) → Quiet (answer_cancel_of m h s d n)
quiet_cancel m h s d IsUnknown = refl
quiet_cancel m h s d (IsHeld k) = quiet_first (cancel_refusals h s d None) (held_cancelled m h s d k) (refl, tt) refl
quiet_cancel m h s d (IsResting r) = quiet_first (cancel_refusals h s d (Some (standing r))) (cancelled m h s d r) (refl, tt) refl

quiet_replace : (m : Market) (h : History) (s : Sender) (d : ReplaceMessage) (t : ℕ) (n : Named) → Quiet (answer_replace_of m h s d t n)
quiet_replace m h s d t IsUnknown = refl
quiet_replace m h s d t (IsHeld k) = quiet_first (held_replace_refusals h s d) (replace_refused s d None _) (refl, tt) refl
quiet_replace m h s d t (IsResting r) = quiet_first (replace_refusals m h s d r t) (replaced m h s d r t) (refl, (refl, (refl, (refl, (refl, (refl, (refl, tt))))))) (quiet_trades (entering h.facts (replacement d r) (filled r) t) (fills h.facts (replacement d r)))

quiet_withdrawn : (m : Market) (h : History) (x : Answer) (qs : List RoomQuote) → Quiet x → Quiet (withdrawn_or m h x qs)
quiet_withdrawn m h x [] q = q
quiet_withdrawn m h x (y ∷ ys) q = quiet_withdrawals ys

quiet_one : (m : Market) (h : History) (s : Sender) (t : ℕ) (id : Option (List ℕ)) → Quiet (withdraw_one m h s t id)
quiet_one m h s t None = refl
quiet_one m h s t (Some id) = quiet_withdrawn m h (not_found s (Some id)) (filter (λ (q : RoomQuote). bytes_eq q.id id) (live_quotes h.facts s.who t)) refl

quiet_withdrawal : (m : Market) (h : History) (s : Sender) (d : WithdrawalMessage) (t : ℕ) (one all : Bool) → Quiet (answer_withdrawal_of m h s d t one all)
quiet_withdrawal m h s d t true all = quiet_one m h s t d.quote_id
quiet_withdrawal m h s d t false true = quiet_withdrawn m h (not_found s None) (live_quotes h.facts s.who t) refl
quiet_withdrawal m h s d t false false = refl

quiet_hit_at : (m : Market) (h : History) (s : Sender) (r : Room) (q : RoomQuote) (d : ResponseMessage) (t : ℕ) (side : Side) (price : Option ℤ) → Quiet (answer_hit_at m h s r q d t side price)
quiet_hit_at m h s r q d t side None = refl
quiet_hit_at m h s r q d t side (Some price) = refl

quiet_hit : (m : Market) (h : History) (s : Sender) (r : Room) (q : RoomQuote) (d : ResponseMessage) (t : ℕ) (side : Option Side) → Quiet (answer_hit m h s r q d t side)
quiet_hit m h s r q d t None = refl
quiet_hit m h s r q d t (Some side) = quiet_hit_at m h s r q d t side (price_for side q)

quiet_in : (m : Market) (h : History) (s : Sender) (q : RoomQuote) (d : ResponseMessage) (t : ℕ) (o : Option Room) → Quiet (answer_response_in m h s q d t o)
quiet_in m h s q d t None = refl
quiet_in m h s q d t (Some r) = quiet_first (response_refusals m h s r q d t) (answer_hit m h s r q d t (taken_side r.side d.side)) (refl, (refl, (refl, (refl, (refl, (refl, tt)))))) (quiet_hit m h s r q d t (taken_side r.side d.side))

quiet_to : (m : Market) (h : History) (s : Sender) (d : ResponseMessage) (t : ℕ) (o : Option RoomQuote) → Quiet (answer_response_to m h s d t o)
quiet_to m h s d t None = refl
quiet_to m h s d t (Some q) = quiet_in m h s q d t (room_by_number h.facts q.room)

quiet_due : (m : Market) (h : History) (o : Option HeldSide) → Quiet (answer_due_of m h o)
quiet_due m h None = refl
quiet_due m h (Some k) = quiet_first (due_refusals m h k) (accepted m h k.order k.due) (refl, (refl, tt)) (quiet_trades (entering h.facts k.order 0 k.due) (fills h.facts k.order))

-- Each quote that an answer adds is sent to the requester of a room.

abbrev Sends : Market → History → Answer → Type 0
Sends m h a = (q : RoomQuote) → In q (quotes a.facts) → (r : Room) × In r (rooms h.facts) × (r.number ≡ q.room) × In (quote_sent m r q) a.replies

quiet_sends : (m : Market) (h : History) (a : Answer) → Quiet a → Sends m h a
quiet_sends m h a quiet q i = absurd (subst (In q) quiet i)

sends_first : (m : Market) (h : History) (rs : List (Bool × Answer)) (x : Answer) → AllQuiet rs → Sends m h x → Sends m h (first_of rs x)
sends_first m h [] x all here = here
sends_first m h (r ∷ rs) x all here = elim r.0 as (λ b. Sends m h (elim b [ true ↦ r.1 | false ↦ first_of rs x ])) [ true ↦ quiet_sends m h r.1 all.0 | false ↦ sends_first m h rs x all.1 here ]

accepted_sends : (m : Market) (h : History) (s : Sender) (r : Room) (d : QuoteMessage) → In r (rooms h.facts) → Sends m h (quote_accepted m h s r d)
accepted_sends m h s r d there q (inl same) =
    (r, there, ap (λ (x : RoomQuote). x.room) same, subst (λ (x : RoomQuote). In (quote_sent m r x) (quote_accepted m h s r d).replies) same (inr (In-append_right (shown_with m h r (first_quote h.facts r.number)) (quote_sent m r (quoted h s r d) ∷ []) (quote_sent m r (quoted h s r d)) (inl refl))))
accepted_sends m h s r d there q (inr nowhere) = absurd nowhere

quote_sends : (m : Market) (h : History) (s : Sender) (d : QuoteMessage) (t : ℕ) (o : Option Room) → ((r : Room) → o ≡ Some r → In r (rooms h.facts)) → Sends m h (answer_quote_of m h s d t o)
quote_sends m h s d t None known = quiet_sends m h (answer_quote_of m h s d t None) refl
quote_sends m h s d t (Some r) known = sends_first m h (quote_refusals m h s r d t) (quote_accepted m h s r d) (refl, (refl, (refl, (refl, (refl, (refl, (refl, (refl, tt)))))))) (accepted_sends m h s r d (known r refl))

quiet_cross : (m : Market) (h : History) (s : Sender) (d : CrossMessage) (t : ℕ) → Quiet (cross_accepted m h s d t)
quiet_cross m h s d t =
    let o = side_order m s.who d (first_side d) in
    let k : HeldSide = record { order = side_order m s.who d (second_side d); cross = d.cross_id; due = t + delay_of m.instruments (instrument_of m.instruments d.symbol) } in
    let first = (accepted m h o t).facts in
    filter_map-append quote_in_fact first (Held k ∷ []) ∙ (append-nil (quotes first) ∙ quiet_trades (entering h.facts o 0 t) (fills h.facts o))

abbrev pub IsOther : App → Type 0
IsOther (Quote d) = ⊥
IsOther _ = Unit {0}

-- only the answer to a quote adds one
pub app_quiet : (m : Market) (h : History) (s : Sender) (x : App) (t : ℕ) → IsOther x → Quiet (answer_app m h s x t)
app_quiet m h s (Quote d) t other = absurd other
app_quiet m h s (QuoteRequest d) t other = quiet_first (request_refusals m h s d t) (request_accepted m (opened m h s d t)) (refl, (refl, (refl, (refl, (refl, (refl, (refl, (refl, (refl, (refl, tt)))))))))) refl
app_quiet m h s (QuoteCancel d) t other = quiet_withdrawal m h s d t (d.cancel_type == 5) (d.cancel_type == 4)
app_quiet m h s (QuoteResponse d) t other = quiet_first (kind_refusals s d) (answer_response_to m h s d t (find_quote h.facts d.quote_id)) (refl, tt) (quiet_to m h s d t (find_quote h.facts d.quote_id))
app_quiet m h s (NewOrderSingle d) t other = quiet_first (order_refusals m h s d t) (accepted m h (order_asked m s.who d) t) (refl, (refl, (refl, (refl, (refl, (refl, (refl, (refl, tt)))))))) (quiet_trades (entering h.facts (order_asked m s.who d) 0 t) (fills h.facts (order_asked m s.who d)))
app_quiet m h s (OrderCancelRequest d) t other = quiet_cancel m h s d (named h s.who d.original_id)
app_quiet m h s (OrderCancelReplaceRequest d) t other = quiet_replace m h s d t (named h s.who d.original_id)
app_quiet m h s (NewOrderCross d) t other = quiet_first (cross_refusals m h s d t) (cross_accepted m h s d t) (refl, (refl, (refl, (refl, (refl, (refl, (refl, (refl, (refl, (refl, (refl, tt))))))))))) (quiet_cross m h s d t)
app_quiet m h s (MarketDataRequest d) t other = quiet_first (market_data_refusals m s d) (market_data m h s d) (refl, (refl, (refl, tt))) refl
app_quiet m h s (BusinessMessageReject d) t other = refl
app_quiet m h s (QuoteStatusReport d) t other = refl
app_quiet m h s (QuoteRequestReject d) t other = refl
app_quiet m h s (ExecutionReport d) t other = refl
app_quiet m h s (OrderCancelReject d) t other = refl
app_quiet m h s (MarketDataSnapshot d) t other = refl
app_quiet m h s (MarketDataRequestReject d) t other = refl
app_quiet m h s (Unsupported kind) t other = refl

pub input_quiet : (m : Market) (h : History) (t : ℕ) → Quiet (answer_input m h (Tick t))
input_quiet m h t = quiet_due m h (due h.facts t)

app_sends : (m : Market) (h : History) (s : Sender) (x : App) (t : ℕ) → Sends m h (answer_app m h s x t)
app_sends m h s (Quote d) t = quote_sends m h s d t (find_room h.facts d.request_id) (λ r e. (In-find (λ (x : Room). bytes_eq (printed 82 x.number) d.request_id) (rooms h.facts) r e).0)
app_sends m h s (QuoteRequest d) t = quiet_sends m h (answer_app m h s (QuoteRequest d) t) (app_quiet m h s (QuoteRequest d) t tt)
app_sends m h s (QuoteCancel d) t = quiet_sends m h (answer_app m h s (QuoteCancel d) t) (app_quiet m h s (QuoteCancel d) t tt)
app_sends m h s (QuoteResponse d) t = quiet_sends m h (answer_app m h s (QuoteResponse d) t) (app_quiet m h s (QuoteResponse d) t tt)
app_sends m h s (NewOrderSingle d) t = quiet_sends m h (answer_app m h s (NewOrderSingle d) t) (app_quiet m h s (NewOrderSingle d) t tt)
app_sends m h s (OrderCancelRequest d) t = quiet_sends m h (answer_app m h s (OrderCancelRequest d) t) (app_quiet m h s (OrderCancelRequest d) t tt)
app_sends m h s (OrderCancelReplaceRequest d) t = quiet_sends m h (answer_app m h s (OrderCancelReplaceRequest d) t) (app_quiet m h s (OrderCancelReplaceRequest d) t tt)
app_sends m h s (NewOrderCross d) t = quiet_sends m h (answer_app m h s (NewOrderCross d) t) (app_quiet m h s (NewOrderCross d) t tt)
app_sends m h s (MarketDataRequest d) t = quiet_sends m h (answer_app m h s (MarketDataRequest d) t) (app_quiet m h s (MarketDataRequest d) t tt)
app_sends m h s (BusinessMessageReject d) t = λ q i. absurd i
app_sends m h s (QuoteStatusReport d) t = λ q i. absurd i
app_sends m h s (QuoteRequestReject d) t = λ q i. absurd i
app_sends m h s (ExecutionReport d) t = λ q i. absurd i
app_sends m h s (OrderCancelReject d) t = λ q i. absurd i
app_sends m h s (MarketDataSnapshot d) t = λ q i. absurd i
app_sends m h s (MarketDataRequestReject d) t = λ q i. absurd i
app_sends m h s (Unsupported kind) t = λ q i. absurd i

input_sends : (m : Market) (h : History) (i : Input) → Sends m h (answer_input m h i)
input_sends m h (Message taken t) = app_sends m h (record { who = taken.from; number = taken.item.number; kind = type_of taken.item.app }) taken.item.app t
input_sends m h (Tick t) = quiet_sends m h (answer_input m h (Tick t)) (input_quiet m h t)

-- What is sent has its event.

flat_In : {A B : Type 0} (f : A → List B) (xs : List A) (x : A) (y : B) → In x xs → In y (f x) → In y (flat_map f xs)
flat_In f [] x y i j = absurd i
flat_In f (z ∷ zs) x y (inl same) j = In-append_left (f z) (flat_map f zs) y (subst (λ w. In y (f w)) (sym same) j)
flat_In f (z ∷ zs) x y (inr i) j = In-append_right (f z) (flat_map f zs) y (flat_In f zs x y i j)

sent_word : (row moment : ℕ) (c : Trigger) (m : Market) (r : Room) (q : RoomQuote) → In (word row moment r.requester (said.Quoted (quoted_as m r q (quote_id_in c)))) (words_in row moment c (quote_sent m r q))
unfolding words_in
sent_word row moment c m r q = inl refl

-- and all of a day have

words_begin : (m : Market) (h : History) (words : List EvidenceEvent) (rs : List TrailRow) (is : List Input) (w : EvidenceEvent) → In w words → In w (words_from m h words rs is)
words_begin m h words [] is w i = i
words_begin m h words (r ∷ rs) [] w i = i
words_begin m h words (r ∷ rs) (j ∷ js) w i = words_begin m (after h (answer_input m h j)) (words ++ words_at m h words r j) rs js w (In-append_left words (words_at m h words r j) w i)

abbrev Reported : Market → List Fact → List EvidenceEvent → RoomQuote → Type 0
Reported m facts words q = (r : Room) × In r (rooms facts) × (r.number ≡ q.room) × (w : EvidenceEvent) × In w words × (w.to ≡ r.requester) × (id : Option (List ℕ)) × (w.said ≡ said.Quoted (quoted_as m r q id))

abbrev Whole : Market → History → List EvidenceEvent → List TrailRow → List Input → RoomQuote → Type 0
Whole m h words rs is q = In q (quotes h.facts) ⊎ Reported m (run_from m h is).history.facts (words_from m h words rs is) q

-- a quote that the answer at a row adds
reports_here : (m : Market) (h : History) (words : List EvidenceEvent) (r : TrailRow) (j : Input) (rs : List TrailRow) (js : List Input) (q : RoomQuote) → In q (quotes (answer_input m h j).facts) → Whole m h words (r ∷ rs) (j ∷ js) q
reports_here m h words r j rs js q k =
    let a = answer_input m h j in
    let sent = input_sends m h j q k in
    let c = came_of m words r.n j in
    let w = word r.n r.moment sent.0.requester (said.Quoted (quoted_as m sent.0 q (quote_id_in c))) in
    let new = words_of r.n r.moment c a.replies in
    let grows = run_grows m h [] (j ∷ js) in
    let among : In w new = flat_In (words_in r.n r.moment c) a.replies (quote_sent m sent.0 q) w sent.3 (sent_word r.n r.moment c m sent.0 q) in
    inr (
      sent.0,
      subst (λ (fs : List Fact). In sent.0 (rooms fs)) (sym grows.1) (subst (In sent.0) (sym (filter_map-append room_in_fact h.facts grows.0)) (In-append_left (rooms h.facts) (rooms grows.0) sent.0 sent.1)),
      sent.2,
      w,
      words_begin m (after h a) (words ++ words_at m h words r j) rs js w (In-append_right words new w among),
      refl,
      quote_id_in c,
      refl,
    )

reports_among : (m : Market) (h : History) (words : List EvidenceEvent) (r : TrailRow) (j : Input) (rs : List TrailRow) (js : List Input) (q : RoomQuote) → In q (quotes h.facts) ⊎ In q (quotes (answer_input m h j).facts)
    → Whole m h words (r ∷ rs) (j ∷ js) q
reports_among m h words r j rs js q (inl old) = inl old
reports_among m h words r j rs js q (inr new) = reports_here m h words r j rs js q new

reports_step : (m : Market) (h : History) (words : List EvidenceEvent) (r : TrailRow) (j : Input) (rs : List TrailRow) (js : List Input) (q : RoomQuote)
    → Whole m (after h (answer_input m h j)) (words ++ words_at m h words r j) rs js q → Whole m h words (r ∷ rs) (j ∷ js) q
reports_step m h words r j rs js q (inl k) =
    reports_among m h words r j rs js q (In-append_cases (quotes h.facts) (quotes (answer_input m h j).facts) q (subst (In q) (filter_map-append quote_in_fact h.facts (answer_input m h j).facts) k))
reports_step m h words r j rs js q (inr k) = inr k

day_reports : (m : Market) (h : History) (words : List EvidenceEvent) (rs : List TrailRow) (is : List Input) → AreEmitted rs is → (q : RoomQuote) → In q (quotes (run_from m h is).history.facts) → Whole m h words rs is q
day_reports m h words [] [] emitted q i = inl i
day_reports m h words [] (j ∷ js) emitted q i = absurd emitted
day_reports m h words (r ∷ rs) [] emitted q i = absurd emitted
day_reports m h words (r ∷ rs) (j ∷ js) emitted q i =
    reports_step m h words r j rs js q (day_reports m (after h (answer_input m h j)) (words ++ words_at m h words r j) rs js emitted.1 q i)

pub room_fact_in : (facts : List Fact) (r : Room) → In r (rooms facts) → In (fact.Asked r) facts
room_fact_in facts r i = let k = picked_from room_in_fact facts r i in subst (λ (f : Fact). In f facts) (is_asked k.0 k.2) k.1
  where
    is_asked : (f : Fact) → room_in_fact f ≡ Some r → f ≡ fact.Asked r
    is_asked (fact.Asked y) h = ap (λ (z : Room). fact.Asked z) (same_some y r h)
    is_asked (fact.Traded y) h = absurd (none_is_some r h)
    is_asked (fact.Held y) h = absurd (none_is_some r h)
    is_asked (fact.Entered y) h = absurd (none_is_some r h)
    is_asked (fact.Removed y) h = absurd (none_is_some r h)
    is_asked (fact.Unheld y) h = absurd (none_is_some r h)
    is_asked (fact.Quoted y) h = absurd (none_is_some r h)
    is_asked (fact.Withdrawn y) h = absurd (none_is_some r h)
    is_asked (fact.Closed y) h = absurd (none_is_some r h)

pub quotes_are_reported : QuotesAreReported
quotes_are_reported m rs is q emitted there =
    by (day_reports m no_history [] rs is emitted q (In-filter_map quote_in_fact (run m is).history.facts (fact.Quoted q) q (In-from_Contains (run m is).history.facts (fact.Quoted q) there) refl))
  where
    by : In q (quotes no_history.facts) ⊎ Reported m (run m is).history.facts (words_emitted m rs is) q → IsReported m (run m is).history.facts (words_emitted m rs is) q
    by (inl k) = absurd k
    by (inr k) = record {
      asked = k.0;
      was_asked = Contains-from_In (run m is).history.facts (fact.Asked k.0) (room_fact_in (run m is).history.facts k.0 k.1);
      here = k.2;
      event = k.3;
      reported = Contains-from_In (words_emitted m rs is) k.3 k.4;
      to = k.5;
      id = k.6;
      says = k.7;
    }
