-- The replies of an answer state what its facts say of orders of the book: which enter, trade and leave.
use Rattle.std.proofs.Common.{◌≡◌, refl, sym, ap, subst, ◌∙◌, ◌⊎◌, inl, inr, ℕ, ℤ, ◌+◌, ◌==◌, Bool, true, false, not, ◌&&◌, nat_lt, if◌then◌else◌, List, [], ◌∷◌, ◌++◌, map, filter_map, Option, Some, None, append-nil, eqb-true}
use Rattle.std.specs.Prelude.{bytes_eq}
use Rattle.std.specs.List.{cons_option, enumerate_from, flat_map}
use Rattle.std.proofs.lemmas.Bool.{true≢false}
use Rattle.std.proofs.lemmas.Grind.{flat_map-append}
use Rattle.std.proofs.lemmas.Slice.Eq.{bytes_eq-Decides}
use Rattle.std.proofs.lemmas.List.Elements.{filter_map-append}
use Rattle.fix_dictionary.specs.declared.messages.App.{App}
use Rattle.fix_dictionary.specs.declared.messages.App.TheVariants.{QuoteRequest, Quote, QuoteCancel, QuoteResponse, QuoteStatusReport, QuoteRequestReject, NewOrderSingle, OrderCancelRequest, OrderCancelReplaceRequest, NewOrderCross, ExecutionReport, OrderCancelReject, MarketDataRequest, MarketDataSnapshot, MarketDataRequestReject, BusinessMessageReject, Unsupported}
use Rattle.fix_dictionary.specs.declared.messages.NewOrderSingle.{NewOrderSingle as OrderMessage}
use Rattle.fix_dictionary.specs.declared.messages.OrderCancelRequest.{OrderCancelRequest as CancelMessage}
use Rattle.fix_dictionary.specs.declared.messages.OrderCancelReplaceRequest.{OrderCancelReplaceRequest as ReplaceMessage}
use Rattle.fix_dictionary.specs.declared.messages.NewOrderCross.{NewOrderCross as CrossMessage}
use Rattle.fix_dictionary.specs.declared.messages.QuoteRequest.{QuoteRequest as RequestMessage}
use Rattle.fix_dictionary.specs.declared.messages.Quote.{Quote as QuoteMessage}
use Rattle.fix_dictionary.specs.declared.messages.QuoteCancel.{QuoteCancel as WithdrawalMessage}
use Rattle.fix_dictionary.specs.declared.messages.QuoteResponse.{QuoteResponse as ResponseMessage}
use Rattle.fix_dictionary.specs.declared.messages.MarketDataRequest.{MarketDataRequest as MarketDataMessage}
use Rattle.fix_dictionary.specs.declared.values.Side.{Side}
use Rattle.instruments.specs.Listing.{delay_of, instrument_of, symbol_of}
use Rattle.venue_rules.specs.declared.facts.Entry.{Entry}
use Rattle.venue_rules.specs.declared.facts.Fact.{Fact}
use Rattle.venue_rules.specs.declared.facts.Fact.TheVariants.{Entered, Held, Traded, Removed, Unheld, Withdrawn as WithdrawnFact}
use Rattle.venue_rules.specs.declared.facts.HeldSide.{HeldSide}
use Rattle.venue_rules.specs.declared.facts.OrderFact.{OrderFact}
use Rattle.venue_rules.specs.declared.facts.Release.{Release}
use Rattle.venue_rules.specs.declared.facts.Removal.{Removal}
use Rattle.venue_rules.specs.declared.facts.Room.{Room}
use Rattle.venue_rules.specs.declared.facts.RoomQuote.{RoomQuote}
use Rattle.venue_rules.specs.declared.facts.TradeSource.{TradeSource}
use Rattle.venue_rules.specs.declared.facts.TradeSource.TheVariants.{Book as InBook, Room as InRoom}
use Rattle.venue_rules.specs.declared.refusals.ChangeRefusal.TheVariants.{HeldSide as IsHeldSide}
use Rattle.venue_rules.specs.declared.replies.QuoteState.TheVariants.{Accepted, Withdrawn}
use Rattle.venue_rules.specs.declared.replies.Reply.{Reply}
use Rattle.venue_rules.specs.declared.replies.ReplyBody.TheVariants.{OrderCancelled, OrderEntered, OrderReplaced, OrderUnfilled}
use Rattle.venue_rules.specs.Answer.{Answer, Sender, first_of, numbered, reply}
use Rattle.venue_rules.specs.Answers.{answer_app, type_of}
use Rattle.venue_rules.specs.Book.{Fill, Resting, fills, filled, filled_by, find_order, is_day, left, rests, with_left}
use Rattle.venue_rules.specs.Changes.{Named, IsResting, IsHeld, IsUnknown, named, standing, answer_cancel_of, answer_replace_of, cancel_refusals, held_replace_refusals, replace_refusals, replace_refused, cancelled, held_cancelled, replaced, replacement}
use Rattle.venue_rules.specs.Crosses.{answer_cross, cross_accepted, cross_refusals, side_order, first_side, second_side, due_refusals}
use Rattle.venue_rules.specs.Delay.{due, find_held}
use Rattle.venue_rules.specs.Entering.{entering, entry_facts, entry_reports, fill_reports, order_report, trade_of, unfilled_reports}
use Rattle.venue_rules.specs.Facts.{History, entries, entry_in, next_order, next_trade}
use Rattle.venue_rules.specs.Market.{Market}
use Rattle.venue_rules.specs.MarketData.{answer_market_data, market_data_refusals, market_data}
use Rattle.venue_rules.specs.Orders.{accepted, answer_order, order_asked, order_refusals}
use Rattle.venue_rules.specs.Quotes.{answer_quote_of, quote_refusals, quote_accepted, quote_sent, quote_status, quoted, shown_with}
use Rattle.venue_rules.specs.Requests.{answer_request, request_accepted, request_refusals, request_sent, opened}
use Rattle.venue_rules.specs.Responses.{answer_response, answer_response_to, answer_response_in, answer_hit, answer_hit_at, response_refusals, kind_refusals, taken_side, price_for}
use Rattle.venue_rules.specs.Rooms.{find_room, find_quote, first_quote, room_by_number}
use Rattle.venue_rules.specs.Run.{Input, Message, Tick, answer_due_of, answer_input}
use Rattle.venue_rules.specs.Withdrawals.{answer_withdrawal_of, withdraw_one, withdrawn_or, not_found, both_emitted, to_maker, to_requester}
use Rattle.venue_rules.proofs.Members.{In, In-find}
use Rattle.trade_blotter.proofs.Lists.{In-map}
use Rattle.trail_answers.proofs.Said.{Said, Enters, Replaces, Fills, Leaves, said}

-- What is stated.

pub data Event : Type 0 where
  -- an order with a number, of a participant, under an identifier
  HasEntered : ℕ → ℕ → List ℕ → Event
  HasTraded : ℕ → Event

abbrev pub entered_event : ℕ → List ℕ → Option ℕ → Option Event
entered_event who id None = None
entered_event who id (Some n) = Some (HasEntered n who id)

abbrev pub traded_event : Option ℕ → Option Event
traded_event None = None
traded_event (Some n) = Some (HasTraded n)

abbrev pub stated_said : ℕ → Said → Option Event
stated_said who (Enters n id) = entered_event who id n
stated_said who (Replaces n id original) = entered_event who id n
stated_said who (Fills n) = traded_event n
stated_said who _ = None

abbrev pub stated : Reply → Option Event
stated r = stated_said r.to (said r)

abbrev pub traded_at : TradeSource → List Event
traded_at (InBook resting entering) = HasTraded entering ∷ HasTraded resting ∷ []
traded_at (InRoom room quote) = []

abbrev pub happened : Fact → List Event
happened (Entered e) = HasEntered e.number e.order.who e.order.id ∷ []
happened (Traded t) = traded_at t.place
happened _ = []

-- the entry of an answer, if there is one, has the next number
abbrev pub IsNext : History → List Entry → Type 0
IsNext h es = (es ≡ []) ⊎ ((e : Entry) × (es ≡ e ∷ []) × (e.number ≡ next_order h.facts))

abbrev pub removal_in : Fact → Option Removal
removal_in (Removed r) = Some r
removal_in _ = None

abbrev pub removals : List Fact → List Removal
removals facts = filter_map removal_in facts

-- an order leaves by a cancel, and the reply has its number
pub record IsCancelled (a : Answer) (gone : Removal) : Type 0 where
  pub facts : a.facts ≡ Removed gone ∷ []
  pub reply : Reply
  pub there : In reply a.replies
  pub says : said reply ≡ Leaves (Some gone.order)

-- an order leaves by a replacement, and the reply has the identifier under which it entered, and the new number
pub record IsReplaced (h : History) (a : Answer) (gone : Removal) : Type 0 where
  pub earlier : Entry
  pub entry : Entry
  pub later : List Fact
  pub facts : a.facts ≡ Removed gone ∷ Entered entry ∷ later
  pub entered : In earlier (entries h.facts)
  pub number : earlier.number ≡ gone.order
  pub reply : Reply
  pub there : In reply a.replies
  pub to : reply.to ≡ earlier.order.who
  pub says : said reply ≡ Replaces (Some entry.number) entry.order.id earlier.order.id

pub record IsStated (h : History) (a : Answer) : Type 0 where
  pub events : filter_map stated a.replies ≡ flat_map happened a.facts
  pub next : IsNext h (entries a.facts)
  pub gone : (r : Removal) → In r (removals a.facts) → IsCancelled a r ⊎ IsReplaced h a r

-- nothing is said of an order
pub record IsQuiet (a : Answer) : Type 0 where
  pub events : filter_map stated a.replies ≡ []
  pub nothing : flat_map happened a.facts ≡ []
  pub unentered : entries a.facts ≡ []
  pub gone : removals a.facts ≡ []

none_gone : (h : History) (a : Answer) (rs : List Removal) → rs ≡ [] → (r : Removal) → In r rs → IsCancelled a r ⊎ IsReplaced h a r
none_gone h a [] e r i = absurd i
none_gone h a (x ∷ xs) e r i = absurd (cc)

pub quiet_stated : (h : History) (a : Answer) → IsQuiet a → IsStated h a
quiet_stated h a q = record { events = q.events ∙ sym q.nothing; next = inl q.unentered; gone = none_gone h a (removals a.facts) q.gone }

silent : (a : Answer) → filter_map stated a.replies ≡ [] → flat_map happened a.facts ≡ [] → entries a.facts ≡ [] → removals a.facts ≡ [] → IsQuiet a
silent a e n es g = record { events = e; nothing = n; unentered = es; gone = g }

-- the first refusal that holds

abbrev All : (Answer → Type 0) → List (Bool × Answer) → Type 0
All P [] = Unit {0}
All P (r ∷ rs) = P r.1 × All P rs

first_case : (P : Answer → Type 0) (b : Bool) (x y : Answer) → P x → P y → P (elim b [ true ↦ x | false ↦ y ])
first_case P true x y k l = k
first_case P false x y k l = l

first_turns : (P : Answer → Type 0) (rs : List (Bool × Answer)) (x : Answer) → All P rs → P x → P (first_of rs x)
first_turns P [] x n k = k
first_turns P (r ∷ rs) x n k = first_case P r.0 r.1 (first_of rs x) n.0 (first_turns P rs x n.1 k)

-- Reports that wait for their numbers.

abbrev IsSteady : List (ℕ → Reply) → Type 0
IsSteady [] = Unit {0}
IsSteady (f ∷ fs) = ((k : ℕ) → stated (f k) ≡ stated (f 0)) × IsSteady fs

steady_append : (fs gs : List (ℕ → Reply)) → IsSteady fs → IsSteady gs → IsSteady (fs ++ gs)
steady_append [] gs a b = b
steady_append (f ∷ fs) gs a b = (a.0, steady_append fs gs a.1 b)

numbered_stated : (n : ℕ) (fs : List (ℕ → Reply)) → IsSteady fs → filter_map stated (numbered n fs) ≡ filter_map (λ f. stated (f 0)) fs
numbered_stated n [] s = refl
numbered_stated n (f ∷ fs) s = ap (λ o. cons_option o (filter_map stated (numbered (n + 1) fs))) (s.0 (n + 1)) ∙ ap (cons_option (stated (f 0))) (numbered_stated (n + 1) fs s.1)

-- An order that enters.

fills_steady : (m : Market) (e : Entry) (all : List Fill) (trade j : ℕ) (fs : List Fill) → IsSteady (flat_map (fill_reports m e all trade) (enumerate_from j fs))
fills_steady m e all trade j [] = tt
fills_steady m e all trade j (f ∷ fs) = (λ k. refl, (λ k. refl, fills_steady m e all trade (j + 1) fs))

abbrev trade_facts : Entry → List Fill → List Fact
trade_facts e fs = map (λ f. Traded (trade_of e f)) fs

fills_stated : (m : Market) (e : Entry) (all : List Fill) (trade j : ℕ) (fs : List Fill) → filter_map (λ f. stated (f 0)) (flat_map (fill_reports m e all trade) (enumerate_from j fs)) ≡ flat_map happened (trade_facts e fs)
fills_stated m e all trade j [] = refl
fills_stated m e all trade j (f ∷ fs) = ap (λ l. HasTraded e.number ∷ HasTraded f.resting.entry.number ∷ l) (fills_stated m e all trade (j + 1) fs)

abbrev unfilled : Market → Entry → List Fill → Bool → List (ℕ → Reply)
unfilled m e fs b = if b then (λ n. reply e.order.who (OrderUnfilled (order_report m e 0 (e.filled_before + filled_by fs) n))) ∷ [] else []

unfilled_steady : (m : Market) (e : Entry) (fs : List Fill) (b : Bool) → IsSteady (unfilled m e fs b)
unfilled_steady m e fs true = (λ k. refl, tt)
unfilled_steady m e fs false = tt

unfilled_stated : (m : Market) (e : Entry) (fs : List Fill) (b : Bool) → filter_map (λ f. stated (f 0)) (unfilled m e fs b) ≡ []
unfilled_stated m e fs true = refl
unfilled_stated m e fs false = refl

entry_steady : (m : Market) (facts : List Fact) (e : Entry) (fs : List Fill) → IsSteady (entry_reports m facts e fs)
entry_steady m facts e fs =
    steady_append (flat_map (fill_reports m e fs (next_trade facts)) (enumerate_from 0 fs)) (unfilled_reports m e fs) (fills_steady m e fs (next_trade facts) 0 fs)
    (unfilled_steady m e fs (not (is_day e.order.life) && nat_lt (filled_by fs) e.order.quantity))

-- the report of the entry, and those of its fills
entry_stated : (m : Market) (facts : List Fact) (e : Entry) (fs : List Fill) (n : ℕ) (first : ℕ → Reply) → ((k : ℕ) → stated (first k) ≡ Some (HasEntered e.number e.order.who e.order.id))
    → filter_map stated (numbered n (first ∷ entry_reports m facts e fs)) ≡ flat_map happened (entry_facts e fs)
entry_stated m facts e fs n first is =
    let fills = flat_map (fill_reports m e fs (next_trade facts)) (enumerate_from 0 fs) in
    numbered_stated n (first ∷ entry_reports m facts e fs) (λ k. is k ∙ sym (is 0), entry_steady m facts e fs)
    ∙ (ap (λ o. cons_option o (filter_map (λ f. stated (f 0)) (entry_reports m facts e fs))) (is 0)
    ∙ ap (λ l. HasEntered e.number e.order.who e.order.id ∷ l)
    (filter_map-append (λ (f : ℕ → Reply). stated (f 0)) fills (unfilled_reports m e fs)
    ∙ ((λ k. fills_stated m e fs (next_trade facts) 0 fs k ++ unfilled_stated m e fs (not (is_day e.order.life) && nat_lt (filled_by fs) e.order.quantity) k) ∙ append-nil (flat_map happened (trade_facts e fs)))))

no_entries : (e : Entry) (fs : List Fill) → entries (trade_facts e fs) ≡ []
no_entries e [] = refl
no_entries e (f ∷ fs) = no_entries e fs

none_removed : (e : Entry) (fs : List Fill) → removals (trade_facts e fs) ≡ []
none_removed e [] = refl
none_removed e (f ∷ fs) = none_removed e fs

accepted_stated : (m : Market) (h : History) (o : OrderFact) (t : ℕ) → IsStated h (accepted m h o t)
accepted_stated m h o t =
    let e = entering h.facts o 0 t in
    let fs = fills h.facts o in
    record {
      events = entry_stated m h.facts e fs h.reports (λ n. reply o.who (OrderEntered (order_report m e o.quantity 0 n))) (λ k. refl);
      next = inr (e, ap (λ es. e ∷ es) (no_entries e fs), refl);
      gone = none_gone h (accepted m h o t) (removals (entry_facts e fs)) (none_removed e fs);
    }

-- and a held side behind it
cross_stated : (m : Market) (h : History) (o : OrderFact) (t : ℕ) (k : HeldSide) → IsStated h (record { facts = (accepted m h o t).facts ++ Held k ∷ []; replies = (accepted m h o t).replies })
cross_stated m h o t k =
    let e = entering h.facts o 0 t in
    let fs = fills h.facts o in
    let first = accepted m h o t in
    record {
      events = (accepted_stated m h o t).events ∙ sym (flat_map-append happened first.facts (Held k ∷ []) ∙ append-nil (flat_map happened first.facts));
      next = inr (e, filter_map-append entry_in first.facts (Held k ∷ []) ∙ append-nil (entries first.facts) ∙ ap (λ es. e ∷ es) (no_entries e fs), refl);
      gone = none_gone h (record { facts = first.facts ++ Held k ∷ []; replies = first.replies }) (removals (first.facts ++ Held k ∷ []))
          (filter_map-append removal_in first.facts (Held k ∷ []) ∙ append-nil (removals first.facts) ∙ none_removed e fs);
    }

-- or the end of a held side before it
due_stated : (m : Market) (h : History) (o : OrderFact) (t : ℕ) (u : Release) → IsStated h (record { facts = Unheld u ∷ (accepted m h o t).facts; replies = (accepted m h o t).replies })
due_stated m h o t u =
    let e = entering h.facts o 0 t in
    let fs = fills h.facts o in
    let a : Answer = record { facts = Unheld u ∷ (accepted m h o t).facts; replies = (accepted m h o t).replies } in
    record { events = (accepted_stated m h o t).events; next = inr (e, ap (λ es. e ∷ es) (no_entries e fs), refl); gone = none_gone h a (removals a.facts) (none_removed e fs) }

-- A replacement, and a cancel, of an order that rests.

abbrev rest_of : Named → Option Resting
rest_of (IsResting r) = Some r
rest_of (IsHeld k) = None
rest_of IsUnknown = None

held_rests_not : (k : Option HeldSide) → rest_of (elim k [ Some y ↦ IsHeld y | None ↦ IsUnknown ]) ≡ None
held_rests_not None = refl
held_rests_not (Some y) = refl

named_rests : (o : Option Resting) (k : Option HeldSide) (r : Resting) → elim o [ Some x ↦ IsResting x | None ↦ elim k [ Some y ↦ IsHeld y | None ↦ IsUnknown ] ] ≡ IsResting r → o ≡ Some r
named_rests (Some x) k r e = ap rest_of e
named_rests None k r e = sym (held_rests_not k) ∙ ap rest_of e

and_left : (a b : Bool) → (a && b) ≡ true → a ≡ true
and_left true b e = refl
and_left false b e = absurd (true≢false (sym e))

and_right : (a b : Bool) → (a && b) ≡ true → b ≡ true
and_right true b e = e
and_right false b e = absurd (true≢false (sym e))

-- the order that is named is one that entered, the sender's, under this identifier
record IsOwn (h : History) (who : ℕ) (id : List ℕ) (r : Resting) : Type 0 where
  pub entered : In r.entry (entries h.facts)
  pub owner : who ≡ r.entry.order.who
  pub named : r.entry.order.id ≡ id

named_own : (h : History) (who : ℕ) (id : List ℕ) (r : Resting) → named h who id ≡ IsResting r → IsOwn h who id r
named_own h who id r e =
    let p : Resting → Bool = λ x. rests x.entry.order.instrument x.entry.order.side x && (x.entry.order.who == who && bytes_eq x.entry.order.id id) in
    let found = In-find p (map (with_left (left h.facts)) (entries h.facts)) r (named_rests (find_order h.facts who id) (find_held h.facts who id) r e) in
    let passes = and_right (rests r.entry.order.instrument r.entry.order.side r) (r.entry.order.who == who && bytes_eq r.entry.order.id id) found.1 in
    let from = In-map (with_left (left h.facts)) (entries h.facts) r found.0 in
    record {
      entered = subst (λ (x : Entry). In x (entries h.facts)) (ap (λ (x : Resting). x.entry) from.2) from.1;
      owner = sym (eqb-true r.entry.order.who who (and_left (r.entry.order.who == who) (bytes_eq r.entry.order.id id) passes));
      named = (bytes_eq-Decides r.entry.order.id id).0 (and_right (r.entry.order.who == who) (bytes_eq r.entry.order.id id) passes);
    }

replaced_stated : (m : Market) (h : History) (s : Sender) (d : ReplaceMessage) (r : Resting) (t : ℕ) → IsOwn h s.who d.original_id r → IsStated h (replaced m h s d r t)
replaced_stated m h s d r t own =
    let o = replacement d r in
    let e = entering h.facts o (filled r) t in
    let fs = fills h.facts o in
    let first : ℕ → Reply = λ n. reply s.who (OrderReplaced (record { order = order_report m e o.quantity (filled r) n; original_id = d.original_id })) in
    record {
      events = entry_stated m h.facts e fs h.reports first (λ k. ap (λ (who : ℕ). Some (HasEntered e.number who e.order.id)) own.owner);
      next = inr (e, ap (λ es. e ∷ es) (no_entries e fs), refl);
      gone = one_gone (removals (entry_facts e fs)) (none_removed e fs) (record { earlier = r.entry; entry = e; later = trade_facts e fs; facts = refl; entered = own.entered; number = refl; reply = first (h.reports + 1); there = inl refl; to = own.owner; says = ap (Replaces (Some e.number) e.order.id) (sym own.named) });
    }
  where
    one_gone : (rs : List Removal) → rs ≡ [] → IsReplaced h (replaced m h s d r t) (record { order = r.entry.number; who = s.who; id = d.order_id }) → (x : Removal) → In x (record { order = r.entry.number; who = s.who; id = d.order_id } ∷ rs) → IsCancelled (replaced m h s d r t) x ⊎ IsReplaced h (replaced m h s d r t) x
    one_gone rs e k x (inl same) = inr (subst (IsReplaced h (replaced m h s d r t)) same k)
    one_gone rs e k x (inr i) = none_gone h (replaced m h s d r t) rs e x i

cancelled_stated : (m : Market) (h : History) (s : Sender) (d : CancelMessage) (r : Resting) → IsStated h (cancelled m h s d r)
cancelled_stated m h s d r = record { events = refl; next = inl refl; gone = one_gone }
  where
    one_gone : (x : Removal) → In x (record { order = r.entry.number; who = s.who; id = d.order_id } ∷ []) → IsCancelled (cancelled m h s d r) x ⊎ IsReplaced h (cancelled m h s d r) x
    one_gone x (inl same) = inl (subst (IsCancelled (cancelled m h s d r)) same (record {
      facts = refl;
      reply = reply s.who (OrderCancelled (record { order = record (order_report m r.entry 0 (filled r) (h.reports + 1)) { id = d.order_id }; original_id = d.original_id }));
      there = inl refl;
      says = refl;
    }))
    one_gone x (inr i) = absurd i

replace_stated : (m : Market) (h : History) (s : Sender) (d : ReplaceMessage) (t : ℕ) (n : Named) → ((r : Resting) → n ≡ IsResting r → IsOwn h s.who d.original_id r) → IsStated h (answer_replace_of m h s d t n)
replace_stated m h s d t IsUnknown own = quiet_stated h _ (silent _ refl refl refl refl)
replace_stated m h s d t (IsHeld k) own = quiet_stated h _ (first_turns IsQuiet (held_replace_refusals h s d) (replace_refused s d None IsHeldSide) (silent _ refl refl refl refl, tt) (silent _ refl refl refl refl))
replace_stated m h s d t (IsResting r) own = first_turns (IsStated h) (replace_refusals m h s d r t) (replaced m h s d r t) (quiet_stated h _ (silent _ refl refl refl refl), (quiet_stated h _ (silent _ refl refl refl refl), (quiet_stated h _ (silent _ refl refl refl refl), (quiet_stated h _ (silent _ refl refl refl refl), (quiet_stated h _ (silent _ refl refl refl refl), (quiet_stated h _ (silent _ refl refl refl refl), (quiet_stated h _ (silent _ refl refl refl refl), tt))))))) (replaced_stated m h s d r t (own r refl))

cancel_stated : (m : Market) (h : History) (s : Sender) (d : CancelMessage) (n : Named) → IsStated h (answer_cancel_of m h s d n)
cancel_stated m h s d IsUnknown = quiet_stated h _ (silent _ refl refl refl refl)
cancel_stated m h s d (IsHeld k) = first_turns (IsStated h) (cancel_refusals h s d None) (held_cancelled m h s d k) (quiet_stated h _ (silent _ refl refl refl refl), tt) (quiet_stated h _ (silent _ refl refl refl refl))
cancel_stated m h s d (IsResting r) = first_turns (IsStated h) (cancel_refusals h s d (Some (standing r))) (cancelled m h s d r) (quiet_stated h _ (silent _ refl refl refl refl), tt) (cancelled_stated m h s d r)

-- Messages.

order_stated : (m : Market) (h : History) (s : Sender) (d : OrderMessage) (t : ℕ) → IsStated h (answer_order m h s d t)
order_stated m h s d t = first_turns (IsStated h) (order_refusals m h s d t) (accepted m h (order_asked m s.who d) t) (quiet_stated h _ (silent _ refl refl refl refl), (quiet_stated h _ (silent _ refl refl refl refl), (quiet_stated h _ (silent _ refl refl refl refl), (quiet_stated h _ (silent _ refl refl refl refl), (quiet_stated h _ (silent _ refl refl refl refl), (quiet_stated h _ (silent _ refl refl refl refl), (quiet_stated h _ (silent _ refl refl refl refl), (quiet_stated h _ (silent _ refl refl refl refl), tt)))))))) (accepted_stated m h (order_asked m s.who d) t)

requests_silent : (m : Market) (r : Room) (rs : List ℕ) → filter_map stated (map (request_sent m r) rs) ≡ []
requests_silent m r [] = refl
requests_silent m r (x ∷ xs) = requests_silent m r xs

shown_silent : (m : Market) (h : History) (s : Sender) (r : Room) (d : QuoteMessage) (o : Option RoomQuote) → filter_map stated (quote_status s d (Some (symbol_of m.instruments r.instrument)) Accepted ∷ shown_with m h r o ++ quote_sent m r (quoted h s r d) ∷ []) ≡ []
shown_silent m h s r d None = refl
shown_silent m h s r d (Some q) = refl

quote_stated : (m : Market) (h : History) (s : Sender) (d : QuoteMessage) (t : ℕ) (r : Option Room) → IsQuiet (answer_quote_of m h s d t r)
quote_stated m h s d t None = silent _ refl refl refl refl
quote_stated m h s d t (Some r) = first_turns IsQuiet (quote_refusals m h s r d t) (quote_accepted m h s r d) (silent _ refl refl refl refl, (silent _ refl refl refl refl, (silent _ refl refl refl refl, (silent _ refl refl refl refl, (silent _ refl refl refl refl, (silent _ refl refl refl refl, (silent _ refl refl refl refl, (silent _ refl refl refl refl, tt)))))))) (silent _ (shown_silent m h s r d (first_quote h.facts r.number)) refl refl refl)

request_stated : (m : Market) (h : History) (s : Sender) (d : RequestMessage) (t : ℕ) → IsQuiet (answer_request m h s d t)
request_stated m h s d t =
    let r = opened m h s d t in
    first_turns IsQuiet (request_refusals m h s d t) (request_accepted m r) (silent _ refl refl refl refl, (silent _ refl refl refl refl, (silent _ refl refl refl refl, (silent _ refl refl refl refl, (silent _ refl refl refl refl, (silent _ refl refl refl refl, (silent _ refl refl refl refl, (silent _ refl refl refl refl, (silent _ refl refl refl refl, (silent _ refl refl refl refl, tt)))))))))) (silent _ (requests_silent m r r.recipients) refl refl refl)

emitted_silent : (m : Market) (q : RoomQuote) (o : Option Room) (rs : List Reply) → filter_map stated rs ≡ [] → filter_map stated (elim o [ None ↦ [] | Some r ↦ to_maker m r q Withdrawn ∷ to_requester m r q Withdrawn ∷ [] ] ++ rs) ≡ []
emitted_silent m q None rs k = k
emitted_silent m q (Some r) rs k = k

all_silent : (m : Market) (h : History) (qs : List RoomQuote) → filter_map stated (flat_map (both_emitted m h) qs) ≡ []
all_silent m h [] = refl
all_silent m h (q ∷ qs) = emitted_silent m q (room_by_number h.facts q.room) (flat_map (both_emitted m h) qs) (all_silent m h qs)

abbrev withdrawals : List RoomQuote → List Fact
withdrawals qs = map (λ (q : RoomQuote). WithdrawnFact (record { quote = q.number })) qs

nothing_happened : (qs : List RoomQuote) → flat_map happened (withdrawals qs) ≡ []
nothing_happened [] = refl
nothing_happened (q ∷ qs) = nothing_happened qs

nothing_entered : (qs : List RoomQuote) → entries (withdrawals qs) ≡ []
nothing_entered [] = refl
nothing_entered (q ∷ qs) = nothing_entered qs

nothing_removed : (qs : List RoomQuote) → removals (withdrawals qs) ≡ []
nothing_removed [] = refl
nothing_removed (q ∷ qs) = nothing_removed qs

withdrawn_stated : (m : Market) (h : History) (x : Answer) (qs : List RoomQuote) → IsQuiet x → IsQuiet (withdrawn_or m h x qs)
withdrawn_stated m h x [] k = k
withdrawn_stated m h x (q ∷ qs) k = silent _ (all_silent m h (q ∷ qs)) (nothing_happened (q ∷ qs)) (nothing_entered (q ∷ qs)) (nothing_removed (q ∷ qs))

withdraw_one_stated : (m : Market) (h : History) (s : Sender) (t : ℕ) (id : Option (List ℕ)) → IsQuiet (withdraw_one m h s t id)
withdraw_one_stated m h s t None = silent _ refl refl refl refl
withdraw_one_stated m h s t (Some id) = withdrawn_stated m h (not_found s (Some id)) _ (silent _ refl refl refl refl)

withdrawal_stated : (m : Market) (h : History) (s : Sender) (d : WithdrawalMessage) (t : ℕ) (one all : Bool) → IsQuiet (answer_withdrawal_of m h s d t one all)
withdrawal_stated m h s d t true all = withdraw_one_stated m h s t d.quote_id
withdrawal_stated m h s d t false true = withdrawn_stated m h (not_found s None) _ (silent _ refl refl refl refl)
withdrawal_stated m h s d t false false = silent _ refl refl refl refl

hit_at_stated : (m : Market) (h : History) (s : Sender) (r : Room) (q : RoomQuote) (d : ResponseMessage) (t : ℕ) (side : Side) (p : Option ℤ) → IsQuiet (answer_hit_at m h s r q d t side p)
hit_at_stated m h s r q d t side None = silent _ refl refl refl refl
hit_at_stated m h s r q d t side (Some p) = silent _ refl refl refl refl

hit_stated : (m : Market) (h : History) (s : Sender) (r : Room) (q : RoomQuote) (d : ResponseMessage) (t : ℕ) (side : Option Side) → IsQuiet (answer_hit m h s r q d t side)
hit_stated m h s r q d t None = silent _ refl refl refl refl
hit_stated m h s r q d t (Some side) = hit_at_stated m h s r q d t side (price_for side q)

response_in_stated : (m : Market) (h : History) (s : Sender) (q : RoomQuote) (d : ResponseMessage) (t : ℕ) (r : Option Room) → IsQuiet (answer_response_in m h s q d t r)
response_in_stated m h s q d t None = silent _ refl refl refl refl
response_in_stated m h s q d t (Some r) = first_turns IsQuiet (response_refusals m h s r q d t) (answer_hit m h s r q d t (taken_side r.side d.side)) (silent _ refl refl refl refl, (silent _ refl refl refl refl, (silent _ refl refl refl refl, (silent _ refl refl refl refl, (silent _ refl refl refl refl, (silent _ refl refl refl refl, tt)))))) (hit_stated m h s r q d t (taken_side r.side d.side))

response_to_stated : (m : Market) (h : History) (s : Sender) (d : ResponseMessage) (t : ℕ) (q : Option RoomQuote) → IsQuiet (answer_response_to m h s d t q)
response_to_stated m h s d t None = silent _ refl refl refl refl
response_to_stated m h s d t (Some q) = response_in_stated m h s q d t (room_by_number h.facts q.room)

response_stated : (m : Market) (h : History) (s : Sender) (d : ResponseMessage) (t : ℕ) → IsQuiet (answer_response m h s d t)
response_stated m h s d t = first_turns IsQuiet (kind_refusals s d) _ (silent _ refl refl refl refl, tt) (response_to_stated m h s d t (find_quote h.facts d.quote_id))

market_data_stated : (m : Market) (h : History) (s : Sender) (d : MarketDataMessage) → IsQuiet (answer_market_data m h s d)
market_data_stated m h s d = first_turns IsQuiet (market_data_refusals m s d) (market_data m h s d) (silent _ refl refl refl refl, (silent _ refl refl refl refl, (silent _ refl refl refl refl, tt))) (silent _ refl refl refl refl)

cross_message_stated : (m : Market) (h : History) (s : Sender) (d : CrossMessage) (t : ℕ) → IsStated h (answer_cross m h s d t)
cross_message_stated m h s d t = first_turns (IsStated h) (cross_refusals m h s d t) (cross_accepted m h s d t) (quiet_stated h _ (silent _ refl refl refl refl), (quiet_stated h _ (silent _ refl refl refl refl), (quiet_stated h _ (silent _ refl refl refl refl), (quiet_stated h _ (silent _ refl refl refl refl), (quiet_stated h _ (silent _ refl refl refl refl), (quiet_stated h _ (silent _ refl refl refl refl), (quiet_stated h _ (silent _ refl refl refl refl), (quiet_stated h _ (silent _ refl refl refl refl), (quiet_stated h _ (silent _ refl refl refl refl), (quiet_stated h _ (silent _ refl refl refl refl), (quiet_stated h _ (silent _ refl refl refl refl), tt)))))))))))
    (cross_stated m h (side_order m s.who d (first_side d)) t (record { order = side_order m s.who d (second_side d); cross = d.cross_id; due = t + delay_of m.instruments (instrument_of m.instruments d.symbol) }))

app_stated : (m : Market) (h : History) (s : Sender) (a : App) (t : ℕ) → IsStated h (answer_app m h s a t)
app_stated m h s (QuoteRequest d) t = quiet_stated h _ (request_stated m h s d t)
app_stated m h s (Quote d) t = quiet_stated h _ (quote_stated m h s d t (find_room h.facts d.request_id))
app_stated m h s (QuoteCancel d) t = quiet_stated h _ (withdrawal_stated m h s d t (d.cancel_type == 5) (d.cancel_type == 4))
app_stated m h s (QuoteResponse d) t = quiet_stated h _ (response_stated m h s d t)
app_stated m h s (NewOrderSingle d) t = order_stated m h s d t
app_stated m h s (OrderCancelRequest d) t = cancel_stated m h s d (named h s.who d.original_id)
app_stated m h s (OrderCancelReplaceRequest d) t = replace_stated m h s d t (named h s.who d.original_id) (named_own h s.who d.original_id)
app_stated m h s (NewOrderCross d) t = cross_message_stated m h s d t
app_stated m h s (MarketDataRequest d) t = quiet_stated h _ (market_data_stated m h s d)
app_stated m h s (BusinessMessageReject d) t = quiet_stated h _ (silent _ refl refl refl refl)
app_stated m h s (QuoteStatusReport d) t = quiet_stated h _ (silent _ refl refl refl refl)
app_stated m h s (QuoteRequestReject d) t = quiet_stated h _ (silent _ refl refl refl refl)
app_stated m h s (ExecutionReport d) t = quiet_stated h _ (silent _ refl refl refl refl)
app_stated m h s (OrderCancelReject d) t = quiet_stated h _ (silent _ refl refl refl refl)
app_stated m h s (MarketDataSnapshot d) t = quiet_stated h _ (silent _ refl refl refl refl)
app_stated m h s (MarketDataRequestReject d) t = quiet_stated h _ (silent _ refl refl refl refl)
app_stated m h s (Unsupported kind) t = quiet_stated h _ (silent _ refl refl refl refl)

abbrev with_end : Release → Answer → Answer
with_end u x = record { facts = Unheld u ∷ x.facts; replies = x.replies }

tick_stated : (m : Market) (h : History) (o : Option HeldSide) → IsStated h (answer_due_of m h o)
tick_stated m h None = quiet_stated h _ (silent _ refl refl refl refl)
tick_stated m h (Some k) =
    let u : Release = record { who = k.order.who; id = k.order.id; cancel = None } in
    first_turns (λ (x : Answer). IsStated h (with_end u x)) (due_refusals m h k) (accepted m h k.order k.due) (quiet_stated h _ (silent _ refl refl refl refl), (quiet_stated h _ (silent _ refl refl refl refl), tt)) (due_stated m h k.order k.due u)

pub input_stated : (m : Market) (h : History) (i : Input) → IsStated h (answer_input m h i)
input_stated m h (Message taken t) = app_stated m h (record { who = taken.from; number = taken.item.number; kind = type_of taken.item.app }) taken.item.app t
input_stated m h (Tick t) = tick_stated m h (due h.facts t)
