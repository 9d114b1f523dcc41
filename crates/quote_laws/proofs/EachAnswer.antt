-- The events of each answer say what its facts do.
use Rattle.std.proofs.Common.{bytes_eq, filter, ◌≡◌, refl, sym, ap, ◌∙◌, subst, inl, inr, ℕ, ℤ, ◌+◌, Bool, true, false, ◌==◌, ◌&&◌, ◌||◌, not, nat_lt, nat_le, if◌then◌else◌, List, [], ◌∷◌, ◌++◌, map, flat_map, Option, Some, None, arith, eqb-true, eq-eqb}
use Rattle.std.specs.List.{enumerate_from, list_any}
use Rattle.std.proofs.lemmas.Bool.{true≢false, and_parts, or_parts, or_from}
use Rattle.std.proofs.lemmas.List.Elements.{filter_map-append}
use Rattle.std.proofs.lemmas.List.Folds.{list_any-append}
use Rattle.std.proofs.lemmas.Slice.Eq.{bytes_eq-Decides}
use Rattle.fix_dictionary.specs.declared.messages.App.{App}
use Rattle.fix_dictionary.specs.declared.messages.App.TheVariants.{QuoteRequest, Quote, QuoteCancel, QuoteResponse, QuoteStatusReport, QuoteRequestReject, NewOrderSingle, OrderCancelRequest, OrderCancelReplaceRequest, NewOrderCross, ExecutionReport, OrderCancelReject, MarketDataRequest, MarketDataSnapshot, MarketDataRequestReject, BusinessMessageReject, Unsupported}
use Rattle.fix_dictionary.specs.declared.messages.NewOrderSingle.{NewOrderSingle as OrderMessage}
use Rattle.fix_dictionary.specs.declared.messages.OrderCancelRequest.{OrderCancelRequest as CancelMessage}
use Rattle.fix_dictionary.specs.declared.messages.OrderCancelReplaceRequest.{OrderCancelReplaceRequest as ReplaceMessage}
use Rattle.fix_dictionary.specs.declared.messages.NewOrderCross.{NewOrderCross as CrossMessage}
use Rattle.fix_dictionary.specs.declared.messages.QuoteRequest.{QuoteRequest as RequestMessage}
use Rattle.fix_dictionary.specs.declared.messages.Quote.{Quote as QuoteMessage}
use Rattle.fix_dictionary.specs.declared.messages.QuoteCancel.{QuoteCancel as WithdrawalMessage}
use Rattle.fix_dictionary.specs.declared.messages.QuoteResponse.{QuoteResponse as ResponseMessage}
use Rattle.fix_dictionary.specs.declared.messages.MarketDataRequest.{MarketDataRequest as MarketDataMessage}
use Rattle.fix_dictionary.specs.declared.values.Side.{Side}
use Rattle.instruments.specs.Listing.{symbol_of}
use Rattle.venue_rules.specs.declared.facts.Entry.{Entry}
use Rattle.venue_rules.specs.declared.facts.Fact.{Fact}
use Rattle.venue_rules.specs.declared.facts.Fact.TheVariants.{Entered, Traded, Removed, Held, Unheld, Asked, Quoted, Withdrawn as WithdrawnFact, Closed}
use Rattle.venue_rules.specs.declared.facts.HeldSide.{HeldSide}
use Rattle.venue_rules.specs.declared.facts.OrderFact.{OrderFact}
use Rattle.venue_rules.specs.declared.facts.Room.{Room}
use Rattle.venue_rules.specs.declared.facts.RoomQuote.{RoomQuote}
use Rattle.venue_rules.specs.declared.facts.TradeSource.{TradeSource}
use Rattle.venue_rules.specs.declared.facts.TradeSource.TheVariants.{Book as InBook, Room as InRoom}
use Rattle.venue_rules.specs.declared.refusals.ChangeRefusal.TheVariants.{HeldSide as IsHeldSide}
use Rattle.venue_rules.specs.declared.replies.QuoteState.TheVariants.{Accepted, Withdrawn}
use Rattle.venue_rules.specs.declared.replies.Reply.{Reply}
use Rattle.venue_rules.specs.declared.replies.ReplyBody.TheVariants.{OrderUnfilled}
use Rattle.venue_rules.specs.Answer.{Answer, Sender, first_of, numbered, reply}
use Rattle.venue_rules.specs.Answers.{answer_app}
use Rattle.venue_rules.specs.Book.{Resting, filled, Fill, filled_by, fills, is_day}
use Rattle.venue_rules.specs.Changes.{Named, IsResting, IsHeld, IsUnknown, named, standing, answer_cancel_of, answer_replace_of, cancel_refusals, held_replace_refusals, replace_refusals, replace_refused, cancelled, held_cancelled, replaced, replacement}
use Rattle.venue_rules.specs.Crosses.{answer_cross, answer_due, cross_accepted, cross_refusals, due_refusals, first_side, side_order}
use Rattle.venue_rules.specs.Entering.{entering, entry_facts, entry_reports, fill_reports, order_report, trade_of, unfilled_reports}
use Rattle.venue_rules.specs.Facts.{History, next_trade, quote_in, quotes, rooms}
use Rattle.venue_rules.specs.Market.{Market}
use Rattle.venue_rules.specs.MarketData.{answer_market_data, market_data, market_data_refusals}
use Rattle.venue_rules.specs.Orders.{accepted, answer_order, order_asked, order_refusals}
use Rattle.venue_rules.specs.Quotes.{answer_quote_of, quote_accepted, quote_refusals, quote_sent, quote_status, quoted, shown_with}
use Rattle.venue_rules.specs.Requests.{answer_request, opened, request_accepted, request_refusals, request_sent}
use Rattle.venue_rules.specs.Responses.{answer_hit, answer_hit_at, answer_response, answer_response_in, answer_response_to, kind_refusals, passed, price_for, response_refusals, taken_side}
use Rattle.venue_rules.specs.Rooms.{find_quote, find_room, first_quote, is_closed, is_live, is_replaced, is_withdrawn, live_quotes, printed, room_by_number}
use Rattle.venue_rules.specs.Run.{answer_due_of}
use Rattle.venue_rules.specs.Withdrawals.{answer_withdrawal_of, both_emitted, not_found, to_maker, to_requester, withdraw_one, withdrawn_all, withdrawn_or}
use Rattle.venue_rules.proofs.Hits.{found-is_live}
use Rattle.venue_rules.proofs.EveryRun.{quotes_placed, asked_in, maker_among, member_follows, quoted_in, rooms_more}
use Rattle.venue_rules.proofs.Follows.{Each, Follows}
use Rattle.venue_rules.proofs.Members.{Places-one, In, In-append_left, In-filter, In-find, find-none}
use Rattle.venue_rules.proofs.OpenRooms.{first_of-each}
use Rattle.day_events.specs.Events.{named_in}
use Rattle.quote_laws.proofs.Steps.{Step, Quotes, Ends, Trades, Source, end_step, reply_steps, trade_steps, fact_steps, has_traded, is_place_in, trades_in, Fits}

-- what is known of a history
pub record Known (m : Market) (h : History) : Type 0 where
  pub replies : List Reply
  pub follows : Each (Follows m replies) [] h.facts
  pub closed : (room : ℕ) → is_closed h.facts room ≡ has_traded h.facts room

-- a quote that is withdrawn or passed at this moment is live then
abbrev pub EndsLive : ℕ → History → Answer → Type 0
EndsLive t h a = (y : RoomQuote) → In y (quotes h.facts) → is_withdrawn a.facts y.number ≡ true → is_live h.facts t y ≡ true

-- what an answer says in a row of this source
abbrev pub Agrees : Source → History → Answer → Type 0
Agrees x h a = (reply_steps x a.replies ≡ fact_steps (next_trade h.facts) a.facts) × ((room : ℕ) → is_closed a.facts room ≡ has_traded a.facts room) × Each Fits h.facts a.facts × EndsLive x.moment h a

-- Answers without facts of rooms.

abbrev IsOfBook : TradeSource → Type 0
IsOfBook (InBook old new) = Unit {0}
IsOfBook (InRoom room quote) = ⊥

abbrev Quiet : List Fact → Type 0
Quiet [] = Unit {0}
Quiet (Traded t ∷ fs) = IsOfBook t.place × Quiet fs
Quiet (Quoted x ∷ fs) = ⊥
Quiet (WithdrawnFact x ∷ fs) = ⊥
Quiet (Closed x ∷ fs) = ⊥
Quiet (Entered x ∷ fs) = Quiet fs
Quiet (Removed x ∷ fs) = Quiet fs
Quiet (Held x ∷ fs) = Quiet fs
Quiet (Unheld x ∷ fs) = Quiet fs
Quiet (Asked x ∷ fs) = Quiet fs

Quiet-append : (fs gs : List Fact) → Quiet fs → Quiet gs → Quiet (fs ++ gs)
Quiet-append [] gs a b = b
Quiet-append (Traded t ∷ fs) gs a b = (a.0, Quiet-append fs gs a.1 b)
Quiet-append (Quoted x ∷ fs) gs a b = absurd a
Quiet-append (WithdrawnFact x ∷ fs) gs a b = absurd a
Quiet-append (Closed x ∷ fs) gs a b = absurd a
Quiet-append (Entered x ∷ fs) gs a b = Quiet-append fs gs a b
Quiet-append (Removed x ∷ fs) gs a b = Quiet-append fs gs a b
Quiet-append (Held x ∷ fs) gs a b = Quiet-append fs gs a b
Quiet-append (Unheld x ∷ fs) gs a b = Quiet-append fs gs a b
Quiet-append (Asked x ∷ fs) gs a b = Quiet-append fs gs a b

no_trade_steps : (n t : ℕ) (p : TradeSource) (rest : List Step) → IsOfBook p → rest ≡ [] → trade_steps n t p ++ rest ≡ []
no_trade_steps n t (InBook old new) rest q e = e
no_trade_steps n t (InRoom room quote) rest q e = absurd q

quiet_steps : (n : ℕ) (fs : List Fact) → Quiet fs → fact_steps n fs ≡ []
quiet_steps n [] q = refl
quiet_steps n (Traded t ∷ fs) q = no_trade_steps n t.moment t.place (fact_steps (n + 1) fs) q.0 (quiet_steps (n + 1) fs q.1)
quiet_steps n (Quoted x ∷ fs) q = absurd q
quiet_steps n (WithdrawnFact x ∷ fs) q = absurd q
quiet_steps n (Closed x ∷ fs) q = absurd q
quiet_steps n (Entered x ∷ fs) q = quiet_steps n fs q
quiet_steps n (Removed x ∷ fs) q = quiet_steps n fs q
quiet_steps n (Held x ∷ fs) q = quiet_steps n fs q
quiet_steps n (Unheld x ∷ fs) q = quiet_steps n fs q
quiet_steps n (Asked x ∷ fs) q = quiet_steps n fs q

same_or : (p : TradeSource) (b c : Bool) (room : ℕ) → IsOfBook p → b ≡ c → b ≡ (is_place_in room p || c)
same_or (InBook old new) b c room q e = e
same_or (InRoom r quote) b c room q e = absurd q

quiet_closed : (fs : List Fact) (room : ℕ) → Quiet fs → is_closed fs room ≡ has_traded fs room
quiet_closed [] room q = refl
quiet_closed (Traded t ∷ fs) room q = same_or t.place (is_closed fs room) (has_traded fs room) room q.0 (quiet_closed fs room q.1)
quiet_closed (Quoted x ∷ fs) room q = absurd q
quiet_closed (WithdrawnFact x ∷ fs) room q = absurd q
quiet_closed (Closed x ∷ fs) room q = absurd q
quiet_closed (Entered x ∷ fs) room q = quiet_closed fs room q
quiet_closed (Removed x ∷ fs) room q = quiet_closed fs room q
quiet_closed (Held x ∷ fs) room q = quiet_closed fs room q
quiet_closed (Unheld x ∷ fs) room q = quiet_closed fs room q
quiet_closed (Asked x ∷ fs) room q = quiet_closed fs room q

quiet_fits : (before fs : List Fact) → Quiet fs → Each Fits before fs
quiet_fits before [] q = tt
quiet_fits before (Traded x ∷ fs) q = (tt, quiet_fits (before ++ (Traded x ∷ [])) fs q.1)
quiet_fits before (Quoted x ∷ fs) q = absurd q
quiet_fits before (WithdrawnFact x ∷ fs) q = absurd q
quiet_fits before (Closed x ∷ fs) q = absurd q
quiet_fits before (Entered x ∷ fs) q = (tt, quiet_fits (before ++ (Entered x ∷ [])) fs q)
quiet_fits before (Removed x ∷ fs) q = (tt, quiet_fits (before ++ (Removed x ∷ [])) fs q)
quiet_fits before (Held x ∷ fs) q = (tt, quiet_fits (before ++ (Held x ∷ [])) fs q)
quiet_fits before (Unheld x ∷ fs) q = (tt, quiet_fits (before ++ (Unheld x ∷ [])) fs q)
quiet_fits before (Asked x ∷ fs) q = (tt, quiet_fits (before ++ (Asked x ∷ [])) fs q)

quiet_stands : (fs : List Fact) (n : ℕ) → Quiet fs → is_withdrawn fs n ≡ false
quiet_stands [] n q = refl
quiet_stands (Traded x ∷ fs) n q = quiet_stands fs n q.1
quiet_stands (Quoted x ∷ fs) n q = absurd q
quiet_stands (WithdrawnFact x ∷ fs) n q = absurd q
quiet_stands (Closed x ∷ fs) n q = absurd q
quiet_stands (Entered x ∷ fs) n q = quiet_stands fs n q
quiet_stands (Removed x ∷ fs) n q = quiet_stands fs n q
quiet_stands (Held x ∷ fs) n q = quiet_stands fs n q
quiet_stands (Unheld x ∷ fs) n q = quiet_stands fs n q
quiet_stands (Asked x ∷ fs) n q = quiet_stands fs n q

silent : (x : Source) (h : History) (a : Answer) → Quiet a.facts → reply_steps x a.replies ≡ [] → Agrees x h a
silent x h a q e = (
  e ∙ sym (quiet_steps (next_trade h.facts) a.facts q),
  λ room. quiet_closed a.facts room q,
  quiet_fits h.facts a.facts q,
  λ y i w. absurd (true≢false (sym w ∙ quiet_stands a.facts y.number q)),
)

-- orders

fills_quiet : (e : Entry) (fs : List Fill) → Quiet (map (λ (f : Fill). Traded (trade_of e f)) fs)
fills_quiet e [] = tt
fills_quiet e (f ∷ fs) = (tt, fills_quiet e fs)

entry_quiet : (e : Entry) (fs : List Fill) → Quiet (entry_facts e fs)
entry_quiet e fs = fills_quiet e fs

abbrev IsSilent : Source → List (ℕ → Reply) → Type 0
IsSilent x fs = (n : ℕ) → reply_steps x (numbered n fs) ≡ []

fills_silent : (x : Source) (m : Market) (e : Entry) (all : List Fill) (trade j n : ℕ) (fs : List Fill) (ys : List (ℕ → Reply)) → IsSilent x ys → reply_steps x (numbered n (flat_map (fill_reports m e all trade) (enumerate_from j fs) ++ ys)) ≡ []
fills_silent x m e all trade j n [] ys s = s n
fills_silent x m e all trade j n (f ∷ fs) ys s = fills_silent x m e all trade (j + 1) (n + 1 + 1) fs ys s

unfilled_silent : (x : Source) (m : Market) (e : Entry) (fs : List Fill) (b : Bool) → IsSilent x (if b then (λ (n : ℕ). reply e.order.who (OrderUnfilled (order_report m e 0 (e.filled_before + filled_by fs) n))) ∷ [] else [])
unfilled_silent x m e fs true n = refl
unfilled_silent x m e fs false n = refl

entry_silent : (x : Source) (m : Market) (facts : List Fact) (e : Entry) (fs : List Fill) (n : ℕ) → reply_steps x (numbered n (entry_reports m facts e fs)) ≡ []
entry_silent x m facts e fs n = fills_silent x m e fs (next_trade facts) 0 n fs (unfilled_reports m e fs) (unfilled_silent x m e fs (not (is_day e.order.life) && nat_lt (filled_by fs) e.order.quantity))

abbrev IsQuiet : Source → Answer → Type 0
IsQuiet x a = Quiet a.facts × (reply_steps x a.replies ≡ [])

accepted-quiet : (x : Source) (m : Market) (h : History) (o : OrderFact) (t : ℕ) → IsQuiet x (accepted m h o t)
accepted-quiet x m h o t = (entry_quiet (entering h.facts o 0 t) (fills h.facts o), entry_silent x m h.facts (entering h.facts o 0 t) (fills h.facts o) (h.reports + 1))

order-quiet : (x : Source) (m : Market) (h : History) (s : Sender) (d : OrderMessage) (t : ℕ) → IsQuiet x (answer_order m h s d t)
order-quiet x m h s d t =
    let z : Unit {0} × ([] ≡ []) = (tt, refl) in
    first_of-each (IsQuiet x) (order_refusals m h s d t) (accepted m h (order_asked m s.who d) t) (z, (z, (z, (z, (z, (z, (z, (z, tt)))))))) (λ n. accepted-quiet x m h (order_asked m s.who d) t)

cancel_of-quiet : (x : Source) (m : Market) (h : History) (s : Sender) (d : CancelMessage) (k : Named) → IsQuiet x (answer_cancel_of m h s d k)
cancel_of-quiet x m h s d IsUnknown = (tt, refl)
cancel_of-quiet x m h s d (IsHeld k) = first_of-each (IsQuiet x) (cancel_refusals h s d None) (held_cancelled m h s d k) ((tt, refl), tt) (λ n. (tt, refl))
cancel_of-quiet x m h s d (IsResting r) = first_of-each (IsQuiet x) (cancel_refusals h s d (Some (standing r))) (cancelled m h s d r) ((tt, refl), tt) (λ n. (tt, refl))

replaced-quiet : (x : Source) (m : Market) (h : History) (s : Sender) (d : ReplaceMessage) (r : Resting) (t : ℕ) → IsQuiet x (replaced m h s d r t)
replaced-quiet x m h s d r t =
    let e : Entry = entering h.facts (replacement d r) (filled r) t in
    let fs : List Fill = fills h.facts (replacement d r) in
    (entry_quiet e fs, entry_silent x m h.facts e fs (h.reports + 1))

replace_of-quiet : (x : Source) (m : Market) (h : History) (s : Sender) (d : ReplaceMessage) (t : ℕ) (k : Named) → IsQuiet x (answer_replace_of m h s d t k)
replace_of-quiet x m h s d t IsUnknown = (tt, refl)
replace_of-quiet x m h s d t (IsHeld k) = first_of-each (IsQuiet x) (held_replace_refusals h s d) (replace_refused s d None IsHeldSide) ((tt, refl), tt) (λ n. (tt, refl))
replace_of-quiet x m h s d t (IsResting r) =
    let z : Unit {0} × ([] ≡ []) = (tt, refl) in
    first_of-each (IsQuiet x) (replace_refusals m h s d r t) (replaced m h s d r t) (z, (z, (z, (z, (z, (z, (z, tt))))))) (λ n. replaced-quiet x m h s d r t)

cross_accepted-quiet : (x : Source) (m : Market) (h : History) (s : Sender) (d : CrossMessage) (t : ℕ) → IsQuiet x (cross_accepted m h s d t)
cross_accepted-quiet x m h s d t =
    let first : Answer = accepted m h (side_order m s.who d (first_side d)) t in
    let k : IsQuiet x first = accepted-quiet x m h (side_order m s.who d (first_side d)) t in
    (Quiet-append first.facts _ k.0 tt, k.1)

cross-quiet : (x : Source) (m : Market) (h : History) (s : Sender) (d : CrossMessage) (t : ℕ) → IsQuiet x (answer_cross m h s d t)
cross-quiet x m h s d t =
    let z : Unit {0} × ([] ≡ []) = (tt, refl) in
    first_of-each (IsQuiet x) (cross_refusals m h s d t) (cross_accepted m h s d t) (z, (z, (z, (z, (z, (z, (z, (z, (z, (z, (z, tt))))))))))) (λ n. cross_accepted-quiet x m h s d t)

due-quiet : (x : Source) (m : Market) (h : History) (k : HeldSide) → IsQuiet x (answer_due m h k)
due-quiet x m h k = first_of-each (IsQuiet x) (due_refusals m h k) (accepted m h k.order k.due) ((tt, refl), ((tt, refl), tt)) (λ n. accepted-quiet x m h k.order k.due)

-- requests, and market data

requests_silent : (x : Source) (m : Market) (r : Room) (who : List ℕ) → reply_steps x (map (request_sent m r) who) ≡ []
requests_silent x m r [] = refl
requests_silent x m r (w ∷ ws) = requests_silent x m r ws

request-quiet : (x : Source) (m : Market) (h : History) (s : Sender) (d : RequestMessage) (t : ℕ) → IsQuiet x (answer_request m h s d t)
request-quiet x m h s d t =
    let z : Unit {0} × ([] ≡ []) = (tt, refl) in
    let r : Room = opened m h s d t in
    first_of-each (IsQuiet x) (request_refusals m h s d t) (request_accepted m r) (z, (z, (z, (z, (z, (z, (z, (z, (z, (z, tt)))))))))) (λ n. (tt, requests_silent x m r r.recipients))

market_data-quiet : (x : Source) (m : Market) (h : History) (s : Sender) (d : MarketDataMessage) → IsQuiet x (answer_market_data m h s d)
market_data-quiet x m h s d = first_of-each (IsQuiet x) (market_data_refusals m s d) (market_data m h s d) ((tt, refl), ((tt, refl), ((tt, refl), tt))) (λ n. (tt, refl))

-- Quotes.

-- of an answer without facts and steps
abbrev Nothing : Source → History → Type 0
Nothing x h = (◌≡◌ {A = List Step} [] []) × ((room : ℕ) → false ≡ false) × Unit {0} × ((y : RoomQuote) → In y (quotes h.facts) → false ≡ true → is_live h.facts x.moment y ≡ true)

abbrev source : Sender → Option (List ℕ) → ℕ → Source
source s n t = record { from = s.who + 1; named = n; moment = t }

quote_steps : (m : Market) (h : History) (s : Sender) (r : Room) (d : QuoteMessage) (t : ℕ) (o : Option RoomQuote) → printed 82 r.number ≡ d.request_id
    → reply_steps (source s (Some d.request_id) t) (quote_status s d (Some (symbol_of m.instruments r.instrument)) Accepted ∷ shown_with m h r o ++ quote_sent m r (quoted h s r d) ∷ []) ≡ fact_steps (next_trade h.facts) (Quoted (quoted h s r d) ∷ [])
quote_steps m h s r d t None e = ap (λ (id : List ℕ). Quotes (quoted h s r d).number (Some id) (s.who + 1) (quoted h s r d).end ∷ []) (sym e)
quote_steps m h s r d t (Some q) e = ap (λ (id : List ℕ). Quotes (quoted h s r d).number (Some id) (s.who + 1) (quoted h s r d).end ∷ []) (sym e)

named_room : (facts : List Fact) (id : List ℕ) (r : Room) → find_room facts id ≡ Some r → printed 82 r.number ≡ id
named_room facts id r e = (bytes_eq-Decides (printed 82 r.number) id).0 (In-find (λ (y : Room). bytes_eq (printed 82 y.number) id) (rooms facts) r e).1

quote_of-agrees : (m : Market) (h : History) (s : Sender) (d : QuoteMessage) (t : ℕ) (o : Option Room) → find_room h.facts d.request_id ≡ o → Agrees (source s (Some d.request_id) t) h (answer_quote_of m h s d t o)
quote_of-agrees m h s d t None e = (refl, λ room. refl, tt, λ y i w. absurd (true≢false (sym w)))
quote_of-agrees m h s d t (Some r) e =
    let x : Source = source s (Some d.request_id) t in
    let z : Nothing x h = (refl, λ room. refl, tt, λ y i w. absurd (true≢false (sym w))) in
    first_of-each (Agrees x h) (quote_refusals m h s r d t) (quote_accepted m h s r d) (z, (z, (z, (z, (z, (z, (z, (z, tt)))))))) (λ n. (
      quote_steps m h s r d t (first_quote h.facts r.number) (named_room h.facts d.request_id r e),
      λ room. refl,
      (tt, tt),
      λ y i w. absurd (true≢false (sym w)),
    ))

-- Who asked is not who quotes.

among : (rs : List ℕ) (w : ℕ) → In w rs → list_any (λ (p : ℕ). p == w) rs ≡ true
among [] w i = absurd i
among (r ∷ rs) w (inl e) = ap (λ b. b || list_any (λ (p : ℕ). p == w) rs) (eq-eqb r w e)
among (r ∷ rs) w (inr i) = ap (λ b. (r == w) || b) (among rs w i) ∙ any_or (r == w)
  where
    any_or : (b : Bool) → (b || true) ≡ true
    any_or true = refl
    any_or false = refl

others : (m : Market) (h : History) (known : Known m h) (r : Room) (q : RoomQuote) → In r (rooms h.facts) → In q (quotes h.facts) → r.number ≡ q.room → q.maker ≡ r.requester → ⊥
others m h known r q i j e same =
    let k = member_follows (Follows m known.replies) h.facts (Asked r) known.follows (asked_in h.facts r i) in
    let in_it : In q.maker r.recipients = maker_among m known.replies h.facts known.follows r q i j e in
    true≢false (sym (among r.recipients r.requester (subst (λ w. In w r.recipients) same in_it)) ∙ k.3.2)

asked_of : (m : Market) (h : History) (known : Known m h) (q : RoomQuote) → In q (quotes h.facts) → (r : Room) × In r (rooms h.facts) × (r.number ≡ q.room)
asked_of m h known q i =
    let k = member_follows (Follows m known.replies) h.facts (Quoted q) known.follows (quoted_in h.facts q i) in
    (k.3.0, rooms_more k.0 k.1 (Quoted q) h.facts k.3.0 k.2 k.3.2, k.3.3)

room_found : (facts : List Fact) (n : ℕ) (r : Room) → room_by_number facts n ≡ Some r → In r (rooms facts) × (r.number ≡ n)
room_found facts n r e = let k = In-find (λ (y : Room). y.number == n) (rooms facts) r e in (k.0, eqb-true r.number n k.1)

apart : (a b : ℕ) → (a ≡ b → ⊥) → (a == b) ≡ false
apart a b h = by (a == b) refl
  where
    by : (c : Bool) → (a == b) ≡ c → (a == b) ≡ false
    by true e = absurd (h (eqb-true a b e))
    by false e = e

more_apart : (a b : ℕ) → (a ≡ b → ⊥) → (a + 1 == b + 1) ≡ false
more_apart a b h = apart (a + 1) (b + 1) (λ e. h (omega (arith, e)))

more_same : (a b : ℕ) → a ≡ b → (a + 1 == b + 1) ≡ true
more_same a b e = eq-eqb (a + 1) (b + 1) (ap (λ k. k + 1) e)

-- Withdrawals.

both_ended : (b c : Bool) (id jd : Option (List ℕ)) (rest : List Step) → b ≡ true → c ≡ false → end_step b id ++ (end_step c jd ++ rest) ≡ Ends jd ∷ rest
both_ended true false id jd rest h k = refl
both_ended true true id jd rest h k = absurd (true≢false k)
both_ended false c id jd rest h k = absurd (true≢false (sym h))

-- a quote that may be withdrawn
abbrev IsOwn : History → Sender → ℕ → RoomQuote → Type 0
IsOwn h s t q = In q (quotes h.facts) × (q.maker ≡ s.who) × (has_traded h.facts q.room ≡ false) × (is_live h.facts t q ≡ true)

abbrev withdrawals : List RoomQuote → List Fact
withdrawals qs = map (λ (q : RoomQuote). WithdrawnFact (record { quote = q.number })) qs

one_withdrawn : (m : Market) (h : History) (known : Known m h) (s : Sender) (x : Source) (q : RoomQuote) (rest : List Reply) (more : List Step) (o : Option Room) → x.from ≡ s.who + 1 → IsOwn h s x.moment q → room_by_number h.facts q.room ≡ o → reply_steps x rest ≡ more
    → reply_steps x (elim o [ None ↦ [] | Some r ↦ to_maker m r q Withdrawn ∷ to_requester m r q Withdrawn ∷ [] ] ++ rest) ≡ Ends (Some (printed 81 q.number)) ∷ more
one_withdrawn m h known s x q rest more None from own e k =
    let a = asked_of m h known q own.0 in
    absurd (true≢false (sym (eq-eqb a.0.number q.room a.2) ∙ find-none (λ (y : Room). y.number == q.room) (rooms h.facts) e a.0 a.1))
one_withdrawn m h known s x q rest more (Some r) from own e k =
    let f = room_found h.facts q.room r e in
    let mine : (q.maker + 1 == x.from) ≡ true = ap (λ w. q.maker + 1 == w) from ∙ more_same q.maker s.who own.1 in
    let other : (r.requester + 1 == x.from) ≡ false = ap (λ w. r.requester + 1 == w) from ∙ more_apart r.requester s.who (λ same. others m h known r q f.0 own.0 f.1 (own.1 ∙ sym same)) in
    both_ended (q.maker + 1 == x.from) (r.requester + 1 == x.from) (Some q.id) (Some (printed 81 q.number)) (reply_steps x rest) mine other ∙ ap (λ l. Ends (Some (printed 81 q.number)) ∷ l) k

withdrawn_steps : (m : Market) (h : History) (known : Known m h) (s : Sender) (x : Source) (n : ℕ) (qs : List RoomQuote) → x.from ≡ s.who + 1 → ((q : RoomQuote) → In q qs → IsOwn h s x.moment q) → reply_steps x (flat_map (both_emitted m h) qs) ≡ fact_steps n (withdrawals qs)
withdrawn_steps m h known s x n [] from own = refl
withdrawn_steps m h known s x n (q ∷ qs) from own =
    one_withdrawn m h known s x q (flat_map (both_emitted m h) qs) (fact_steps n (withdrawals qs)) (room_by_number h.facts q.room) from (own q (inl refl)) refl (withdrawn_steps m h known s x n qs from (λ y i. own y (inr i)))

withdrawn_closed : (qs : List RoomQuote) (room : ℕ) → is_closed (withdrawals qs) room ≡ has_traded (withdrawals qs) room
withdrawn_closed [] room = refl
withdrawn_closed (q ∷ qs) room = withdrawn_closed qs room

withdrawn_fits : (before : List Fact) (qs : List RoomQuote) → ((q : RoomQuote) → In q qs → In q (quotes before) × (has_traded before q.room ≡ false)) → Each Fits before (withdrawals qs)
withdrawn_fits before [] own = tt
withdrawn_fits before (q ∷ qs) own =
    let w : List Fact = WithdrawnFact (record { quote = q.number }) ∷ [] in
    let k = own q (inl refl) in (
      (q, k.0, refl, k.1),
      withdrawn_fits (before ++ w) qs (λ y i. (
        subst (λ ys. In y ys) (sym (filter_map-append quote_in before w)) (In-append_left (quotes before) (quotes w) y (own y (inr i)).0),
        list_any-append (trades_in y.room) before w ∙ or_from (has_traded before y.room) false (own y (inr i)).1 refl,
      )),
    )

found_withdrawn : (qs : List RoomQuote) (n : ℕ) → is_withdrawn (withdrawals qs) n ≡ true → (q : RoomQuote) × In q qs × (q.number ≡ n)
found_withdrawn [] n w = absurd (true≢false (sym w))
found_withdrawn (q ∷ qs) n w = by (q.number == n) refl w (λ v. found_withdrawn qs n v)
  where
    by : (b : Bool) → (q.number == n) ≡ b → (b || is_withdrawn (withdrawals qs) n) ≡ true → (is_withdrawn (withdrawals qs) n ≡ true → (y : RoomQuote) × In y qs × (y.number ≡ n)) → (y : RoomQuote) × In y (q ∷ qs) × (y.number ≡ n)
    by true e v later = (q, inl refl, eqb-true q.number n e)
    by false e v later = let k = later v in (k.0, inr k.1, k.2)

one_quote : (m : Market) (h : History) (known : Known m h) (y q : RoomQuote) → In y (quotes h.facts) → In q (quotes h.facts) → q.number ≡ y.number → q ≡ y
one_quote m h known y q i j e = Places-one (λ (z : RoomQuote). z.number) 0 (quotes h.facts) (quotes_placed m known.replies h.facts known.follows) q y j i e

withdrawn_live : (m : Market) (h : History) (known : Known m h) (s : Sender) (t : ℕ) (qs : List RoomQuote) → ((q : RoomQuote) → In q qs → IsOwn h s t q) → EndsLive t h (withdrawn_all m h qs)
withdrawn_live m h known s t qs own y i w =
    let k = found_withdrawn qs y.number w in
    subst (λ (q : RoomQuote). is_live h.facts t q ≡ true) (one_quote m h known y k.0 i (own k.0 k.1).0 k.2) (own k.0 k.1).3

withdrawn-agrees : (m : Market) (h : History) (known : Known m h) (s : Sender) (x : Source) (qs : List RoomQuote) → x.from ≡ s.who + 1 → ((q : RoomQuote) → In q qs → IsOwn h s x.moment q) → Agrees x h (withdrawn_all m h qs)
withdrawn-agrees m h known s x qs from own = (
  withdrawn_steps m h known s x (next_trade h.facts) qs from own,
  λ room. withdrawn_closed qs room,
  withdrawn_fits h.facts qs (λ q i. ((own q i).0, (own q i).2)),
  λ y i w. withdrawn_live m h known s x.moment qs own y i w,
)

withdrawn_or-agrees : (m : Market) (h : History) (known : Known m h) (s : Sender) (x : Source) (a : Answer) (qs : List RoomQuote) → x.from ≡ s.who + 1 → ((q : RoomQuote) → In q qs → IsOwn h s x.moment q) → Agrees x h a → Agrees x h (withdrawn_or m h a qs)
withdrawn_or-agrees m h known s x a [] from own k = k
withdrawn_or-agrees m h known s x a (q ∷ qs) from own k = withdrawn-agrees m h known s x (q ∷ qs) from own

not_true : (b : Bool) → not b ≡ true → b ≡ false
not_true true h = absurd (true≢false (sym h))
not_true false h = refl

not_false : (b : Bool) → not b ≡ false → b ≡ true
not_false true h = refl
not_false false h = absurd (true≢false h)

live_own : (m : Market) (h : History) (known : Known m h) (s : Sender) (t : ℕ) (q : RoomQuote) → In q (live_quotes h.facts s.who t) → IsOwn h s t q
live_own m h known s t q i =
    let k = In-filter (λ (y : RoomQuote). (y.maker == s.who) && is_live h.facts t y) (quotes h.facts) q i in
    let both = and_parts (q.maker == s.who) (is_live h.facts t q) k.1 in
    let l = and_parts (not (is_replaced h.facts q)) (not (is_withdrawn h.facts q.number) && (not (is_closed h.facts q.room) && nat_le t q.end)) both.1 in
    let w = and_parts (not (is_withdrawn h.facts q.number)) (not (is_closed h.facts q.room) && nat_le t q.end) l.1 in
    let c = and_parts (not (is_closed h.facts q.room)) (nat_le t q.end) w.1 in
    (k.0, eqb-true q.maker s.who both.0, sym (known.closed q.room) ∙ not_true (is_closed h.facts q.room) c.0, both.1)

withdraw_one-agrees : (m : Market) (h : History) (known : Known m h) (s : Sender) (x : Source) (id : Option (List ℕ)) → x.from ≡ s.who + 1 → Agrees x h (withdraw_one m h s x.moment id)
withdraw_one-agrees m h known s x None from = (refl, λ room. refl, tt, λ y i w. absurd (true≢false (sym w)))
withdraw_one-agrees m h known s x (Some id) from =
    withdrawn_or-agrees m h known s x (not_found s (Some id)) (filter (λ (q : RoomQuote). bytes_eq q.id id) (live_quotes h.facts s.who x.moment)) from
    (λ q i. live_own m h known s x.moment q (In-filter (λ (y : RoomQuote). bytes_eq y.id id) (live_quotes h.facts s.who x.moment) q i).0) (refl, λ room. refl, tt, λ y i w. absurd (true≢false (sym w)))

withdrawal_of-agrees : (m : Market) (h : History) (known : Known m h) (s : Sender) (x : Source) (d : WithdrawalMessage) (one all : Bool) → x.from ≡ s.who + 1 → Agrees x h (answer_withdrawal_of m h s d x.moment one all)
withdrawal_of-agrees m h known s x d true all from = withdraw_one-agrees m h known s x d.quote_id from
withdrawal_of-agrees m h known s x d false true from = withdrawn_or-agrees m h known s x (not_found s None) (live_quotes h.facts s.who x.moment) from (λ q i. live_own m h known s x.moment q i) (refl, λ room. refl, tt, λ y i w. absurd (true≢false (sym w)))
withdrawal_of-agrees m h known s x d false false from = (refl, λ room. refl, tt, λ y i w. absurd (true≢false (sym w)))

-- Responses.

-- the first refusal that holds, where those before it do not
abbrev Cases : (Answer → Type 0) → List (Bool × Answer) → Answer → Type 0
Cases P [] x = P x
Cases P (r ∷ rs) x = (r.0 ≡ true → P r.1) × (r.0 ≡ false → Cases P rs x)

one_case : (P : Answer → Type 0) (b c : Bool) (x y : Answer) → b ≡ c → (b ≡ true → P x) → (b ≡ false → P y) → P (elim c [ true ↦ x | false ↦ y ])
one_case P b true x y e k l = k e
one_case P b false x y e k l = l e

first_of-cases : (P : Answer → Type 0) (rs : List (Bool × Answer)) (x : Answer) → Cases P rs x → P (first_of rs x)
first_of-cases P [] x k = k
first_of-cases P (r ∷ rs) x k = one_case P r.0 r.0 r.1 (first_of rs x) refl k.0 (λ e. first_of-cases P rs x (k.1 e))

named_quote : (facts : List Fact) (id : List ℕ) (q : RoomQuote) → find_quote facts id ≡ Some q → In q (quotes facts) × (printed 81 q.number ≡ id)
named_quote facts id q e = let k = In-find (λ (y : RoomQuote). bytes_eq (printed 81 y.number) id) (quotes facts) q e in (k.0, (bytes_eq-Decides (printed 81 q.number) id).0 k.1)

same_or_same : (b : Bool) → (false || (b || false)) ≡ (b || (false || false))
same_or_same true = refl
same_or_same false = refl

hit_at-agrees : (m : Market) (h : History) (s : Sender) (r : Room) (q : RoomQuote) (d : ResponseMessage) (t : ℕ) (side : Side) (p : Option ℤ) → printed 81 q.number ≡ d.quote_id → Agrees (source s (Some d.quote_id) t) h (answer_hit_at m h s r q d t side p)
hit_at-agrees m h s r q d t side None e = (refl, λ room. refl, tt, λ y i w. absurd (true≢false (sym w)))
hit_at-agrees m h s r q d t side (Some p) e = (
  ap (λ (id : List ℕ). Trades (next_trade h.facts) r.number (Some id) t ∷ Trades (next_trade h.facts) r.number (Some id) t ∷ []) (sym e),
  λ room. same_or_same (r.number == room),
  (tt, (tt, tt)),
  λ y i w. absurd (true≢false (sym w)),
)

hit-agrees : (m : Market) (h : History) (s : Sender) (r : Room) (q : RoomQuote) (d : ResponseMessage) (t : ℕ) (side : Option Side) → printed 81 q.number ≡ d.quote_id → Agrees (source s (Some d.quote_id) t) h (answer_hit m h s r q d t side)
hit-agrees m h s r q d t None e = (refl, λ room. refl, tt, λ y i w. absurd (true≢false (sym w)))
hit-agrees m h s r q d t (Some side) e = hit_at-agrees m h s r q d t side (price_for side q) e

passed_live : (m : Market) (h : History) (known : Known m h) (y q : RoomQuote) (t : ℕ) → In y (quotes h.facts) → In q (quotes h.facts) → ((q.number == y.number) || false) ≡ true → is_live h.facts t q ≡ true → is_live h.facts t y ≡ true
passed_live m h known y q t i j w live = subst (λ (z : RoomQuote). is_live h.facts t z ≡ true) (one_quote m h known y q i j (eqb-true q.number y.number (alone (q.number == y.number) w))) live
  where
    alone : (b : Bool) → (b || false) ≡ true → b ≡ true
    alone true e = refl
    alone false e = absurd (true≢false (sym e))

passed-agrees : (m : Market) (h : History) (known : Known m h) (s : Sender) (r : Room) (q : RoomQuote) (d : ResponseMessage) (t : ℕ) → In q (quotes h.facts) → In r (rooms h.facts) → r.number ≡ q.room → printed 81 q.number ≡ d.quote_id → r.requester ≡ s.who → (is_closed h.facts r.number || is_replaced h.facts q) ≡ false → is_withdrawn h.facts q.number ≡ false → nat_lt q.end t ≡ false → Agrees (source s (Some d.quote_id) t) h (passed m s r q d)
passed-agrees m h known s r q d t i j room named asks there stands timely = (
  both_ended (s.who + 1 == s.who + 1) (q.maker + 1 == s.who + 1) (Some d.quote_id) (Some d.quote_id) [] (more_same s.who s.who refl) (more_apart q.maker s.who (λ same. others m h known r q j i room (same ∙ sym asks)))
      ∙ ap (λ (id : List ℕ). Ends (Some id) ∷ []) (sym named),
  λ y. refl,
  ((q, i, refl, ap (has_traded h.facts) (sym room) ∙ (sym (known.closed r.number) ∙ (or_parts (is_closed h.facts r.number) (is_replaced h.facts q) there).0)), tt),
  λ y k w. passed_live m h known y q t k i w (found-is_live h.facts q t (ap (λ n. is_closed h.facts n || is_replaced h.facts q) (sym room) ∙ there) stands timely),
)

own_silent : (b : Bool) (id : Option (List ℕ)) → b ≡ true → end_step b id ++ [] ≡ []
own_silent true id e = refl
own_silent false id e = absurd (true≢false (sym e))

response_in-agrees : (m : Market) (h : History) (known : Known m h) (s : Sender) (q : RoomQuote) (d : ResponseMessage) (t : ℕ) (o : Option Room) → In q (quotes h.facts) → printed 81 q.number ≡ d.quote_id → room_by_number h.facts q.room ≡ o → Agrees (source s (Some d.quote_id) t) h (answer_response_in m h s q d t o)
response_in-agrees m h known s q d t None i named e = (refl, λ room. refl, tt, λ y i w. absurd (true≢false (sym w)))
response_in-agrees m h known s q d t (Some r) i named e =
    let x : Source = source s (Some d.quote_id) t in
    let f = room_found h.facts q.room r e in
    let z : Nothing x h = (refl, λ room. refl, tt, λ y i w. absurd (true≢false (sym w))) in
    first_of-cases (Agrees x h) (response_refusals m h s r q d t) (answer_hit m h s r q d t (taken_side r.side d.side)) (
      λ a. z,
      λ asks. (
        λ a. z,
        λ there. (
          λ a. (own_silent (s.who + 1 == s.who + 1) (Some d.quote_id) (more_same s.who s.who refl), λ room. refl, tt, λ y i w. absurd (true≢false (sym w))),
          λ b. (
            λ a. z,
            λ c. (
              λ a. passed-agrees m h known s r q d t i f.0 f.1 named (eqb-true r.requester s.who (not_false (r.requester == s.who) asks)) there b c,
              λ g. (λ a. z, λ k. hit-agrees m h s r q d t (taken_side r.side d.side) named),
            ),
          ),
        ),
      ),
    )

response_to-agrees : (m : Market) (h : History) (known : Known m h) (s : Sender) (d : ResponseMessage) (t : ℕ) (o : Option RoomQuote) → find_quote h.facts d.quote_id ≡ o → Agrees (source s (Some d.quote_id) t) h (answer_response_to m h s d t o)
response_to-agrees m h known s d t None e = (refl, λ room. refl, tt, λ y i w. absurd (true≢false (sym w)))
response_to-agrees m h known s d t (Some q) e = let k = named_quote h.facts d.quote_id q e in response_in-agrees m h known s q d t (room_by_number h.facts q.room) k.0 k.1 refl

response-agrees : (m : Market) (h : History) (known : Known m h) (s : Sender) (d : ResponseMessage) (t : ℕ) → Agrees (source s (Some d.quote_id) t) h (answer_response m h s d t)
response-agrees m h known s d t = first_of-each (Agrees (source s (Some d.quote_id) t) h) (kind_refusals s d) (answer_response_to m h s d t (find_quote h.facts d.quote_id)) ((refl, λ room. refl, tt, λ y i w. absurd (true≢false (sym w))), tt) (λ n. response_to-agrees m h known s d t (find_quote h.facts d.quote_id) refl)

-- any message, and a tick

quiet : (x : Source) (h : History) (a : Answer) → IsQuiet x a → Agrees x h a
quiet x h a k = silent x h a k.0 k.1

pub app-agrees : (m : Market) (h : History) (known : Known m h) (s : Sender) (a : App) (t : ℕ) → Agrees (source s (named_in a) t) h (answer_app m h s a t)
app-agrees m h known s (QuoteRequest d) t = quiet (source s None t) h (answer_request m h s d t) (request-quiet (source s None t) m h s d t)
app-agrees m h known s (Quote d) t = quote_of-agrees m h s d t (find_room h.facts d.request_id) refl
app-agrees m h known s (QuoteCancel d) t = withdrawal_of-agrees m h known s (source s None t) d (d.cancel_type == 5) (d.cancel_type == 4) refl
app-agrees m h known s (QuoteResponse d) t = response-agrees m h known s d t
app-agrees m h known s (NewOrderSingle d) t = quiet (source s d.link_id t) h (answer_order m h s d t) (order-quiet (source s d.link_id t) m h s d t)
app-agrees m h known s (OrderCancelRequest d) t = quiet (source s None t) h (answer_cancel_of m h s d (named h s.who d.original_id)) (cancel_of-quiet (source s None t) m h s d (named h s.who d.original_id))
app-agrees m h known s (OrderCancelReplaceRequest d) t = quiet (source s None t) h (answer_replace_of m h s d t (named h s.who d.original_id)) (replace_of-quiet (source s None t) m h s d t (named h s.who d.original_id))
app-agrees m h known s (NewOrderCross d) t = quiet (source s None t) h (answer_cross m h s d t) (cross-quiet (source s None t) m h s d t)
app-agrees m h known s (MarketDataRequest d) t = quiet (source s None t) h (answer_market_data m h s d) (market_data-quiet (source s None t) m h s d)
app-agrees m h known s (BusinessMessageReject d) t = (refl, λ room. refl, tt, λ y i w. absurd (true≢false (sym w)))
app-agrees m h known s (QuoteStatusReport d) t = (refl, λ room. refl, tt, λ y i w. absurd (true≢false (sym w)))
app-agrees m h known s (QuoteRequestReject d) t = (refl, λ room. refl, tt, λ y i w. absurd (true≢false (sym w)))
app-agrees m h known s (ExecutionReport d) t = (refl, λ room. refl, tt, λ y i w. absurd (true≢false (sym w)))
app-agrees m h known s (OrderCancelReject d) t = (refl, λ room. refl, tt, λ y i w. absurd (true≢false (sym w)))
app-agrees m h known s (MarketDataSnapshot d) t = (refl, λ room. refl, tt, λ y i w. absurd (true≢false (sym w)))
app-agrees m h known s (MarketDataRequestReject d) t = (refl, λ room. refl, tt, λ y i w. absurd (true≢false (sym w)))
app-agrees m h known s (Unsupported kind) t = (refl, λ room. refl, tt, λ y i w. absurd (true≢false (sym w)))

pub due_of-agrees : (x : Source) (m : Market) (h : History) (k : Option HeldSide) → Agrees x h (answer_due_of m h k)
due_of-agrees x m h None = (refl, λ room. refl, tt, λ y i w. absurd (true≢false (sym w)))
due_of-agrees x m h (Some k) = quiet x h (answer_due m h k) (due-quiet x m h k)
