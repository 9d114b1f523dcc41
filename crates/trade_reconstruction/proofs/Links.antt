-- The link in an order's line is the one that the order carries by the rules.
use Rattle.std.proofs.Common.{◌≡◌, refl, sym, ap, subst, ◌∙◌, ◌⊎◌, inl, inr, ℕ, ℤ, ◌+◌, ◌==◌, Bool, true, false, cond, not, ◌&&◌, ◌||◌, if◌then◌else◌, List, [], ◌∷◌, ◌++◌, map, filter_map, flat_map, Option, Some, None, append-nil, find, eq-eqb, eqb-true}
use Rattle.std.specs.Prelude.{bytes_eq, filter}
use Rattle.std.specs.List.{cons_option, enumerate_from, list_any}
use Rattle.std.proofs.lemmas.List.{map-append}
use Rattle.std.proofs.lemmas.List.Folds.{list_any-append}
use Rattle.std.proofs.lemmas.Bool.{true≢false, false_from_ne_true}
use Rattle.std.proofs.lemmas.List.Elements.{filter_map-append}
use Rattle.std.proofs.lemmas.Slice.Eq.{bytes_eq-Decides}
use Rattle.fix_dictionary.specs.declared.messages.App.{App}
use Rattle.fix_dictionary.specs.declared.messages.App.TheVariants.{QuoteRequest, Quote, QuoteCancel, QuoteResponse, QuoteStatusReport, QuoteRequestReject, NewOrderSingle, OrderCancelRequest, OrderCancelReplaceRequest, NewOrderCross, ExecutionReport, OrderCancelReject, MarketDataRequest, MarketDataSnapshot, MarketDataRequestReject, BusinessMessageReject, Unsupported}
use Rattle.fix_dictionary.specs.declared.messages.NewOrderSingle.{NewOrderSingle as OrderMessage}
use Rattle.fix_dictionary.specs.declared.messages.OrderCancelRequest.{OrderCancelRequest as CancelMessage}
use Rattle.fix_dictionary.specs.declared.messages.OrderCancelReplaceRequest.{OrderCancelReplaceRequest as ReplaceMessage}
use Rattle.fix_dictionary.specs.declared.messages.NewOrderCross.{NewOrderCross as CrossMessage}
use Rattle.fix_dictionary.specs.declared.messages.QuoteRequest.{QuoteRequest as RequestMessage}
use Rattle.fix_dictionary.specs.declared.messages.Quote.{Quote as QuoteMessage}
use Rattle.fix_dictionary.specs.declared.messages.QuoteCancel.{QuoteCancel as WithdrawalMessage}
use Rattle.fix_dictionary.specs.declared.messages.QuoteResponse.{QuoteResponse as ResponseMessage}
use Rattle.fix_dictionary.specs.declared.messages.MarketDataRequest.{MarketDataRequest as MarketDataMessage}
use Rattle.fix_dictionary.specs.declared.values.Side.{Side}
use Rattle.instruments.specs.Listing.{delay_of, instrument_of, symbol_of}
use Rattle.venue_rules.specs.declared.facts.Entry.{Entry}
use Rattle.venue_rules.specs.declared.facts.Fact.{Fact}
use Rattle.venue_rules.specs.declared.facts.Fact.TheVariants.{Held, Removed, Traded, Unheld, Withdrawn as WithdrawnFact}
use Rattle.venue_rules.specs.declared.facts.Fact.TheVariants as fact
use Rattle.venue_rules.specs.declared.facts.HeldSide.{HeldSide}
use Rattle.venue_rules.specs.declared.facts.OrderFact.{OrderFact}
use Rattle.venue_rules.specs.declared.facts.Room.{Room}
use Rattle.venue_rules.specs.declared.facts.RoomQuote.{RoomQuote}
use Rattle.venue_rules.specs.declared.refusals.ChangeRefusal.TheVariants.{HeldSide as IsHeldSide}
use Rattle.venue_rules.specs.declared.replies.QuoteState.TheVariants.{Accepted, Withdrawn}
use Rattle.venue_rules.specs.declared.replies.OrderReport.{OrderReport}
use Rattle.venue_rules.specs.declared.replies.Reply.{Reply}
use Rattle.venue_rules.specs.declared.trail.TrailRow.{TrailRow}
use Rattle.venue_rules.specs.declared.replies.ReplyBody.{ReplyBody}
use Rattle.venue_rules.specs.declared.replies.ReplyBody.TheVariants.{OrderEntered, OrderReplaced}
use Rattle.venue_rules.specs.declared.replies.ReplyBody.TheVariants as what
use Rattle.venue_rules.specs.declared.replies.FilledReport.{FilledReport}
use Rattle.venue_rules.specs.declared.replies.BookSnapshot.{BookSnapshot}
use Rattle.venue_rules.specs.declared.replies.RequestSent.{RequestSent}
use Rattle.venue_rules.specs.declared.replies.RoomReport.{RoomReport}
use Rattle.venue_rules.specs.Answer.{Answer, Sender, first_of, numbered, reply}
use Rattle.venue_rules.specs.Answers.{answer_app, type_of}
use Rattle.venue_rules.specs.Book.{Fill, Resting, fills, filled, find_order, left, rests, with_left}
use Rattle.venue_rules.specs.Changes.{Named, IsResting, IsHeld, IsUnknown, named, standing, answer_cancel_of, answer_replace_of, cancel_refusals, held_replace_refusals, replace_refusals, replace_refused, cancelled, held_cancelled, replaced, replacement}
use Rattle.venue_rules.specs.Crosses.{answer_cross, answer_due, cross_accepted, cross_refusals, side_order, first_side, is_first, second_side, due_refusals}
use Rattle.venue_rules.specs.Delay.{due, find_held, held, releases}
use Rattle.venue_rules.specs.Entering.{entering, entry_facts, entry_reports, fill_reports, order_report}
use Rattle.venue_rules.specs.Facts.{History, entries, entry_in as entry_in_fact, held_in as held_in_fact, held_sides, is_order_id_used, next_trade, no_history, uses_order_id}
use Rattle.venue_rules.specs.Market.{Market}
use Rattle.venue_rules.specs.MarketData.{answer_market_data, market_data_refusals, market_data}
use Rattle.venue_rules.specs.Orders.{accepted, answer_order, order_asked, order_refusals}
use Rattle.venue_rules.specs.Quotes.{answer_quote_of, quote_refusals, quote_accepted, quote_sent, quote_status, quoted, shown_with}
use Rattle.venue_rules.specs.Requests.{answer_request, request_accepted, request_refusals, request_sent, opened}
use Rattle.venue_rules.specs.Responses.{answer_response, answer_response_to, answer_response_in, answer_hit, answer_hit_at, response_refusals, kind_refusals, taken_side, price_for}
use Rattle.venue_rules.specs.Rooms.{find_room, find_quote, first_quote, room_by_number}
use Rattle.venue_rules.specs.Run.{Input, Message, Tick, after, answer_input, answer_due_of, run, run_from}
use Rattle.venue_rules.specs.Withdrawals.{answer_withdrawal_of, withdraw_one, withdrawn_or, not_found, both_emitted, to_maker, to_requester}
use Rattle.trade_reconstruction.specs.declared.trigger.Trigger.{Trigger}
use Rattle.trade_reconstruction.specs.declared.trigger.Trigger.TheVariants as trigger
use Rattle.trade_reconstruction.specs.declared.finding.Query.TheVariants.{Entry as EntrySought, Order}
use Rattle.trade_reconstruction.specs.declared.evidence_event.Entered.{Entered}
use Rattle.trade_reconstruction.specs.declared.evidence_event.EventKind.{EventKind}
use Rattle.trade_reconstruction.specs.declared.evidence_event.EventKind.TheVariants as said
use Rattle.trade_reconstruction.specs.declared.evidence_event.EvidenceEvent.{EvidenceEvent}
use Rattle.trade_reconstruction.specs.EventKinds.{asked_in, trigger_in, entered_of, filled_of, held_by, hit_in, link_at, link_in, link_known, pictured_in, prices_words, said_by, words_in, words_of}
use Rattle.venue_core.specs.Replay.{AreEmitted}
use Rattle.trade_reconstruction.specs.Lines.{enters_said, is_entry_said, is_sought, link_id, link_of, link_said}
use Rattle.trade_reconstruction.specs.Emitted.{came_of, words_at, words_from, words_emitted}
use Rattle.venue_rules.proofs.Members.{In, In-append_cases, In-find, picked_from}
use Rattle.trade_blotter.proofs.Lists.{In-filtered, In-map, none_is_some, same_some}
use Rattle.trade_reconstruction.proofs.Members.{found_first, found_longer, found_map, found_past, found_picked, picked_passes}
use Rattle.trade_reconstruction.proofs.Says.{IsDeaf, replies_say, shown_silent, what_words}
use Rattle.trade_reconstruction.proofs.Replies.{HoldsAnew, NoneHolds, Picks, entered_once, entry_picked, input-Says, named_own, named_rests, no_held_facts, or_left, or_right, other_bytes}
use Rattle.trade_reconstruction.proofs.Holds.{any_In, and_parts, and_true, due_in_held, unused_apart}

-- an order's link, as it enters
pub record HeardLink : Type 0 where
  pub order : ℕ
  pub to : ℕ
  pub id : List ℕ
  pub link : Option (List ℕ)

abbrev pub linking_of_said : EvidenceEvent → EventKind → Option HeardLink
linking_of_said w (said.Entered e) = Some (record { order = e.order; to = w.to; id = e.id; link = link_id e.link })
linking_of_said w _ = None

abbrev pub linking_in : EvidenceEvent → Option HeardLink
linking_in w = linking_of_said w w.said

linking-deaf : IsDeaf linking_in
linking-deaf = λ n t to s. refl

abbrev linking_from : Trigger → ℕ → OrderReport → Option ℕ → Option HeardLink
linking_from c to r None = None
linking_from c to r (Some order) = Some (record { order = order; to = to; id = r.id; link = link_id (link_in c) })

abbrev linking_what : Trigger → ℕ → ReplyBody → Option HeardLink
linking_what c to (what.OrderEntered r) = linking_from c to r r.order
linking_what c to (what.OrderReplaced r) = linking_from c to r.order r.order.order
linking_what c to _ = None

abbrev linking_by : Trigger → Reply → Option HeardLink
linking_by c r = linking_what c r.to r.what

-- The events of a reply state its links.

asked_linking : (n t : ℕ) (c : Trigger) (to : ℕ) (r : RequestSent) → filter_map linking_in (said_by n t to (asked_in c r) ++ []) ≡ []
asked_linking n t (trigger.Request x) to r = refl
asked_linking n t (trigger.Quote x) to r = refl
asked_linking n t (trigger.Response x) to r = refl
asked_linking n t (trigger.Order x) to r = refl
asked_linking n t (trigger.Cross x) to r = refl
asked_linking n t trigger.Tick to r = refl
asked_linking n t trigger.Other to r = refl

hit_linking : (n t : ℕ) (c : Trigger) (to : ℕ) (r : RoomReport) → filter_map linking_in (said_by n t to (hit_in c r) ++ []) ≡ []
hit_linking n t (trigger.Request x) to r = refl
hit_linking n t (trigger.Quote x) to r = refl
hit_linking n t (trigger.Response x) to r = refl
hit_linking n t (trigger.Order x) to r = refl
hit_linking n t (trigger.Cross x) to r = refl
hit_linking n t trigger.Tick to r = refl
hit_linking n t trigger.Other to r = refl

prices_linking : (n t : ℕ) (c : Trigger) (to : ℕ) (p : BookSnapshot) → filter_map linking_in (said_by n t to (pictured_in c p) ++ prices_words n t to c p) ≡ []
prices_linking n t (trigger.Request x) to p = refl
prices_linking n t (trigger.Quote x) to p = shown_silent linking_in linking-deaf n t to p.request_id p.entries
prices_linking n t (trigger.Response x) to p = refl
prices_linking n t (trigger.Order x) to p = refl
prices_linking n t (trigger.Cross x) to p = refl
prices_linking n t trigger.Tick to p = refl
prices_linking n t trigger.Other to p = refl

held_linking : (n t : ℕ) (c : Trigger) (to : ℕ) (r : OrderReport) → filter_map linking_in (said_by n t to (held_by c r) ++ []) ≡ []
held_linking n t (trigger.Request x) to r = refl
held_linking n t (trigger.Quote x) to r = refl
held_linking n t (trigger.Response x) to r = refl
held_linking n t (trigger.Order x) to r = refl
held_linking n t (trigger.Cross x) to r = refl
held_linking n t trigger.Tick to r = refl
held_linking n t trigger.Other to r = refl

entered_linking : (n t : ℕ) (c : Trigger) (to : ℕ) (original : Option (List ℕ)) (r : OrderReport) (o : Option ℕ) (rest : List EvidenceEvent) → filter_map linking_in rest ≡ []
    → filter_map linking_in (said_by n t to (entered_of c original r o) ++ rest) ≡ cons_option (linking_from c to r o) []
entered_linking n t c to original r None rest k = k
entered_linking n t c to original r (Some order) rest k = ap (cons_option (linking_from c to r (Some order))) k

filled_linking : (n t to : ℕ) (f : FilledReport) (o : Option ℕ) → filter_map linking_in (said_by n t to (filled_of f o) ++ []) ≡ []
filled_linking n t to f None = refl
filled_linking n t to f (Some order) = refl

what_linking : (n t : ℕ) (c : Trigger) (to : ℕ) (x : ReplyBody) → filter_map linking_in (what_words n t c to x) ≡ cons_option (linking_what c to x) []
what_linking n t c to (what.RequestSent r) = asked_linking n t c to r
what_linking n t c to (what.BookSnapshot p) = prices_linking n t c to p
what_linking n t c to (what.QuoteSent q) = refl
what_linking n t c to (what.OrderEntered r) = entered_linking n t c to None r r.order (said_by n t to (held_by c r) ++ []) (held_linking n t c to r)
what_linking n t c to (what.OrderReplaced r) = entered_linking n t c to _ r.order r.order.order [] refl
what_linking n t c to (what.OrderFilled f) = filled_linking n t to f f.order.order
what_linking n t c to (what.RoomTraded r) = hit_linking n t c to r
what_linking n t c to (what.OrderRefused r) = refl
what_linking n t c to (what.CrossRefused r) = refl
what_linking n t c to (what.OrderUnfilled r) = refl
what_linking n t c to (what.OrderCancelled r) = refl
what_linking n t c to (what.ChangeRefused r) = refl
what_linking n t c to (what.RequestRefused r) = refl
what_linking n t c to (what.QuoteStatus r) = refl
what_linking n t c to (what.MarketDataReject r) = refl
what_linking n t c to (what.BusinessReject r) = refl

linkings_say : (n t : ℕ) (c : Trigger) (rs : List Reply) → filter_map linking_in (words_of n t c rs) ≡ filter_map (linking_by c) rs
unfolding words_in
linkings_say n t c rs = replies_say linking_in (linking_by c) n t c (λ r. what_linking n t c r.to r.what) rs

-- The answers.

abbrev pub emitted_link : Entry → HeardLink
emitted_link e = record { order = e.number; to = e.order.who; id = e.order.id; link = e.order.link }

abbrev entry_named : ℕ → List ℕ → Entry → Bool
entry_named who id e = e.order.who == who && bytes_eq e.order.id id

-- under an identifier that was not used, or that of a held side, which is held no longer
abbrev Anew : List Fact → List Fact → Entry → Type 0
Anew before new e = (is_order_id_used before e.order.who e.order.id ≡ false) ⊎ ((k : HeldSide) × In k (held before) × (e.order ≡ k.order) × In (Unheld (record { who = k.order.who; id = k.order.id; cancel = None })) new)

abbrev EntersAnew : List Fact → List Fact → Type 0
EntersAnew before new = (entries new ≡ []) ⊎ ((e : Entry) × (entries new ≡ e ∷ []) × Anew before new e)

-- held sides carry no link, and have another identifier than the entering order
abbrev AreBare : List Entry → List HeldSide → Type 0
AreBare es [] = Unit {0}
AreBare es (k ∷ ks) = ((k.order.link ≡ None) × ((e : Entry) → In e es → entry_named k.order.who k.order.id e ≡ false)) × AreBare es ks

abbrev Turns : Trigger → History → Answer → Type 0
Turns c h a = (filter_map (linking_by c) a.replies ≡ map emitted_link (entries a.facts)) × (EntersAnew h.facts a.facts × AreBare (entries a.facts) (held_sides a.facts))

abbrev AllTurn : (Answer → Type 0) → List (Bool × Answer) → Type 0
AllTurn P [] = Unit {0}
AllTurn P (r ∷ rs) = P r.1 × AllTurn P rs

turn_case : (P : Answer → Type 0) (b c : Bool) (x y : Answer) → c ≡ b → P x → (c ≡ false → P y) → P (elim b [ true ↦ x | false ↦ y ])
turn_case P true c x y e k l = k
turn_case P false c x y e k l = l e

first_turns : (P : Answer → Type 0) (rs : List (Bool × Answer)) (x : Answer) → AllTurn P rs → (NoneHolds rs → P x) → P (first_of rs x)
first_turns P [] x n k = k tt
first_turns P (r ∷ rs) x n k = turn_case P r.0 r.0 r.1 (first_of rs x) refl n.0 (λ e. first_turns P rs x n.1 (λ l. k (e, l)))

link_picks : (c : Trigger) (m : Market) (e : Entry) → Picks (linking_by c) m e
link_picks c m e = record { steady = λ x left done f trade k. refl; rest = λ fs k. refl }

no_linkings : (c : Trigger) (m : Market) (e : Entry) (all : List Fill) (trade j : ℕ) (fs : List Fill) → filter_map (λ (f : ℕ → Reply). linking_by c (f 0)) (flat_map (fill_reports m e all trade) (enumerate_from j fs)) ≡ []
no_linkings c m e all trade j [] = refl
no_linkings c m e all trade j (f ∷ fs) = no_linkings c m e all trade (j + 1) fs

link_emitted : (c : Trigger) (m : Market) (facts : List Fact) (e : Entry) (fs : List Fill) (n : ℕ) (first : ℕ → Reply) → ((k : ℕ) → linking_by c (first k) ≡ Some (emitted_link e))
    → filter_map (linking_by c) (numbered n (first ∷ entry_reports m facts e fs)) ≡ map emitted_link (entries (entry_facts e fs))
link_emitted c m facts e fs n first is =
    entry_picked (linking_by c) m facts e (link_picks c m e) fs n first (λ k. is k ∙ sym (is 0))
    ∙ (ap (λ o. cons_option o (filter_map (λ (f : ℕ → Reply). linking_by c (f 0)) (flat_map (fill_reports m e fs (next_trade facts)) (enumerate_from 0 fs)))) (is 0)
    ∙ (ap (λ l. emitted_link e ∷ l) (no_linkings c m e fs (next_trade facts) 0 fs) ∙ sym (ap (map emitted_link) (entered_once e fs))))

accepted_link : (c : Trigger) (m : Market) (h : History) (o : OrderFact) (t : ℕ) → link_id (link_in c) ≡ o.link → filter_map (linking_by c) (accepted m h o t).replies ≡ map emitted_link (entries (accepted m h o t).facts)
accepted_link c m h o t link =
    let e = entering h.facts o 0 t in
    link_emitted c m h.facts e (fills h.facts o) h.reports (λ n. reply o.who (OrderEntered (order_report m e o.quantity 0 n))) (λ k. ap (λ (l : Option (List ℕ)). Some (record (emitted_link e) { link = l })) link)

accepted_turns : (c : Trigger) (m : Market) (h : History) (o : OrderFact) (t : ℕ) → link_id (link_in c) ≡ o.link → is_order_id_used h.facts o.who o.id ≡ false → Turns c h (accepted m h o t)
accepted_turns c m h o t link unused =
    let e = entering h.facts o 0 t in
    let fs = fills h.facts o in
    (accepted_link c m h o t link, (inr (e, entered_once e fs, inl unused), subst (AreBare (entries (accepted m h o t).facts)) (sym (no_held_facts e fs)) tt))

order_turns : (c : Trigger) (m : Market) (h : History) (s : Sender) (d : OrderMessage) (t : ℕ) → link_id (link_in c) ≡ d.link_id → Turns c h (answer_order m h s d t)
order_turns c m h s d t link = first_turns (Turns c h) (order_refusals m h s d t) (accepted m h (order_asked m s.who d) t) ((refl, (inl refl, tt)), ((refl, (inl refl, tt)), ((refl, (inl refl, tt)), ((refl, (inl refl, tt)), ((refl, (inl refl, tt)), ((refl, (inl refl, tt)), ((refl, (inl refl, tt)), ((refl, (inl refl, tt)), tt)))))))) (λ n. accepted_turns c m h (order_asked m s.who d) t link n.1.0)

cancel_turns : (c : Trigger) (m : Market) (h : History) (s : Sender) (d : CancelMessage) (n : Named) → Turns c h (answer_cancel_of m h s d n)
cancel_turns c m h s d IsUnknown = (refl, (inl refl, tt))
cancel_turns c m h s d (IsHeld k) = first_turns (Turns c h) (cancel_refusals h s d None) (held_cancelled m h s d k) ((refl, (inl refl, tt)), tt) (λ n. (refl, (inl refl, tt)))
cancel_turns c m h s d (IsResting r) = first_turns (Turns c h) (cancel_refusals h s d (Some (standing r))) (cancelled m h s d r) ((refl, (inl refl, tt)), tt) (λ n. (refl, (inl refl, tt)))

replaced_turns : (c : Trigger) (m : Market) (h : History) (s : Sender) (d : ReplaceMessage) (r : Resting) (t : ℕ) → s.who ≡ r.entry.order.who → link_id (link_in c) ≡ r.entry.order.link → is_order_id_used h.facts s.who d.order_id ≡ false → Turns c h (replaced m h s d r t)
replaced_turns c m h s d r t own link unused =
    let o = replacement d r in
    let e = entering h.facts o (filled r) t in
    let fs = fills h.facts o in
    let first : ℕ → Reply = λ n. reply s.who (OrderReplaced (record { order = order_report m e o.quantity (filled r) n; original_id = d.original_id })) in (
      link_emitted c m h.facts e fs h.reports first (λ k. λ j. Some (record (emitted_link e) { to = own j; link = link j })),
      (inr (e, entered_once e fs, inl (subst (λ (who : ℕ). is_order_id_used h.facts who d.order_id ≡ false) own unused)), subst (AreBare (entries (entry_facts e fs))) (sym (no_held_facts e fs)) tt),
    )

replace_turns : (c : Trigger) (m : Market) (h : History) (s : Sender) (d : ReplaceMessage) (t : ℕ) (n : Named) → ((r : Resting) → n ≡ IsResting r → s.who ≡ r.entry.order.who) → ((r : Resting) → n ≡ IsResting r → link_id (link_in c) ≡ r.entry.order.link) → Turns c h (answer_replace_of m h s d t n)
replace_turns c m h s d t IsUnknown own link = (refl, (inl refl, tt))
replace_turns c m h s d t (IsHeld k) own link = first_turns (Turns c h) (held_replace_refusals h s d) (replace_refused s d None IsHeldSide) ((refl, (inl refl, tt)), tt) (λ n. (refl, (inl refl, tt)))
replace_turns c m h s d t (IsResting r) own link = first_turns (Turns c h) (replace_refusals m h s d r t) (replaced m h s d r t) ((refl, (inl refl, tt)), ((refl, (inl refl, tt)), ((refl, (inl refl, tt)), ((refl, (inl refl, tt)), ((refl, (inl refl, tt)), ((refl, (inl refl, tt)), ((refl, (inl refl, tt)), tt))))))) (λ n. replaced_turns c m h s d r t (own r refl) (link r refl) n.0)

first_unused : (facts : List Fact) (who : ℕ) (d : CrossMessage) → is_order_id_used facts who d.first.order_id ≡ false → is_order_id_used facts who d.second.order_id ≡ false → is_order_id_used facts who (first_side d).order_id ≡ false
first_unused facts who d one other = elim (is_first d d.first) as (λ b. is_order_id_used facts who (if b then d.first else d.second).order_id ≡ false) [ true ↦ one | false ↦ other ]

sides_apart : (d : CrossMessage) → bytes_eq d.first.order_id d.second.order_id ≡ false → bytes_eq (first_side d).order_id (second_side d).order_id ≡ false
sides_apart d apart = elim (is_first d d.first) as (λ b. bytes_eq (if b then d.first else d.second).order_id (if b then d.second else d.first).order_id ≡ false) [ true ↦ apart | false ↦ other_bytes d.first.order_id d.second.order_id apart ]

and_false : (a b : Bool) → b ≡ false → (a && b) ≡ false
and_false true b e = e
and_false false b e = refl

cross_turns : (c : Trigger) (m : Market) (h : History) (s : Sender) (d : CrossMessage) (t : ℕ) → link_id (link_in c) ≡ None → Turns c h (answer_cross m h s d t)
cross_turns c m h s d t link = first_turns (Turns c h) (cross_refusals m h s d t) (cross_accepted m h s d t) ((refl, (inl refl, tt)), ((refl, (inl refl, tt)), ((refl, (inl refl, tt)), ((refl, (inl refl, tt)), ((refl, (inl refl, tt)), ((refl, (inl refl, tt)), ((refl, (inl refl, tt)), ((refl, (inl refl, tt)), ((refl, (inl refl, tt)), ((refl, (inl refl, tt)), ((refl, (inl refl, tt)), tt))))))))))) (λ n.
    let one = is_order_id_used h.facts s.who d.first.order_id in
    let other = is_order_id_used h.facts s.who d.second.order_id in
    let same = bytes_eq d.first.order_id d.second.order_id in
    let free = n.1.1.0 in
    both (or_left one (other || same) free) (or_left other same (or_right one (other || same) free)) (or_right other same (or_right one (other || same) free)))
  where
    both : is_order_id_used h.facts s.who d.first.order_id ≡ false → is_order_id_used h.facts s.who d.second.order_id ≡ false → bytes_eq d.first.order_id d.second.order_id ≡ false → Turns c h (cross_accepted m h s d t)
    both one other apart =
        let o = side_order m s.who d (first_side d) in
        let e = entering h.facts o 0 t in
        let first = accepted m h o t in
        let k : HeldSide = record { order = side_order m s.who d (second_side d); cross = d.cross_id; due = t + delay_of m.instruments (instrument_of m.instruments d.symbol) } in
        let same : entries first.facts ≡ entries (first.facts ++ Held k ∷ []) = sym (filter_map-append entry_in_fact first.facts (Held k ∷ []) ∙ append-nil (entries first.facts)) in
        let is_one : entries (first.facts ++ Held k ∷ []) ≡ e ∷ [] = sym same ∙ entered_once e (fills h.facts o) in
        let held_one : held_sides (first.facts ++ Held k ∷ []) ≡ k ∷ [] = filter_map-append held_in_fact first.facts (Held k ∷ []) ∙ ap (λ ks. ks ++ k ∷ []) (no_held_facts e (fills h.facts o)) in
        let differs : entry_named k.order.who k.order.id e ≡ false = and_false (s.who == s.who) (bytes_eq (first_side d).order_id (second_side d).order_id) (sides_apart d apart) in (
          accepted_link c m h o t link ∙ ap (map emitted_link) same,
          (inr (e, is_one, inl (first_unused h.facts s.who d one other)), subst (AreBare (entries (first.facts ++ Held k ∷ []))) (sym held_one) ((refl, λ x i. only k x e differs (subst (In x) is_one i)), tt)),
        )
      where
        only : (k : HeldSide) (x e : Entry) → entry_named k.order.who k.order.id e ≡ false → In x (e ∷ []) → entry_named k.order.who k.order.id x ≡ false
        only k x e f (inl y) = ap (entry_named k.order.who k.order.id) (sym y) ∙ f
        only k x e f (inr y) = absurd y

-- an order of a held side, or none
abbrev OfSide : Trigger → HeldSide → Answer → Type 0
OfSide c k a = (filter_map (linking_by c) a.replies ≡ map emitted_link (entries a.facts)) × (((entries a.facts ≡ []) ⊎ ((e : Entry) × (entries a.facts ≡ e ∷ []) × (e.order ≡ k.order))) × (held_sides a.facts ≡ []))

due_turns : (m : Market) (h : History) (k : HeldSide) → In k (held h.facts) → k.order.link ≡ None → Turns trigger.Tick h (answer_due m h k)
due_turns m h k there bare =
    let e = entering h.facts k.order 0 k.due in
    let fs = fills h.facts k.order in
    by (first_of (due_refusals m h k) (accepted m h k.order k.due))
    (first_turns (OfSide trigger.Tick k) (due_refusals m h k) (accepted m h k.order k.due) ((refl, (inl refl, refl)), ((refl, (inl refl, refl)), tt)) (λ n. (accepted_link trigger.Tick m h k.order k.due (sym bare), (inr (e, entered_once e fs, refl), no_held_facts e fs))))
  where
    gone : Fact
    gone = Unheld (record { who = k.order.who; id = k.order.id; cancel = None })

    anew : (x : Answer) → (entries x.facts ≡ []) ⊎ ((e : Entry) × (entries x.facts ≡ e ∷ []) × (e.order ≡ k.order)) → EntersAnew h.facts (gone ∷ x.facts)
    anew x (inl none) = inl none
    anew x (inr one) = inr (one.0, one.1, inr (k, there, one.2, inl refl))

    by : (x : Answer) → OfSide trigger.Tick k x → Turns trigger.Tick h (record { facts = gone ∷ x.facts; replies = x.replies })
    by x s = (s.0, (anew x s.1.0, subst (AreBare (entries x.facts)) (sym s.1.1) tt))

requests_unlinked : (c : Trigger) (m : Market) (r : Room) (rs : List ℕ) → filter_map (linking_by c) (map (request_sent m r) rs) ≡ []
requests_unlinked c m r [] = refl
requests_unlinked c m r (x ∷ xs) = requests_unlinked c m r xs

shown_unlinked : (c : Trigger) (m : Market) (h : History) (s : Sender) (r : Room) (d : QuoteMessage) (o : Option RoomQuote) → filter_map (linking_by c) (quote_status s d (Some (symbol_of m.instruments r.instrument)) Accepted ∷ shown_with m h r o ++ quote_sent m r (quoted h s r d) ∷ []) ≡ []
shown_unlinked c m h s r d None = refl
shown_unlinked c m h s r d (Some q) = refl

quote_turns : (c : Trigger) (m : Market) (h : History) (s : Sender) (d : QuoteMessage) (t : ℕ) (r : Option Room) → Turns c h (answer_quote_of m h s d t r)
quote_turns c m h s d t None = (refl, (inl refl, tt))
quote_turns c m h s d t (Some r) = first_turns (Turns c h) (quote_refusals m h s r d t) (quote_accepted m h s r d) ((refl, (inl refl, tt)), ((refl, (inl refl, tt)), ((refl, (inl refl, tt)), ((refl, (inl refl, tt)), ((refl, (inl refl, tt)), ((refl, (inl refl, tt)), ((refl, (inl refl, tt)), ((refl, (inl refl, tt)), tt)))))))) (λ n. (shown_unlinked c m h s r d (first_quote h.facts r.number), (inl refl, tt)))

request_turns : (c : Trigger) (m : Market) (h : History) (s : Sender) (d : RequestMessage) (t : ℕ) → Turns c h (answer_request m h s d t)
request_turns c m h s d t = let r = opened m h s d t in first_turns (Turns c h) (request_refusals m h s d t) (request_accepted m r) ((refl, (inl refl, tt)), ((refl, (inl refl, tt)), ((refl, (inl refl, tt)), ((refl, (inl refl, tt)), ((refl, (inl refl, tt)), ((refl, (inl refl, tt)), ((refl, (inl refl, tt)), ((refl, (inl refl, tt)), ((refl, (inl refl, tt)), ((refl, (inl refl, tt)), tt)))))))))) (λ n. (requests_unlinked c m r r.recipients, (inl refl, tt)))

emitted_unlinked : (c : Trigger) (m : Market) (q : RoomQuote) (o : Option Room) (rs : List Reply) → filter_map (linking_by c) rs ≡ [] → filter_map (linking_by c) (elim o [ None ↦ [] | Some r ↦ to_maker m r q Withdrawn ∷ to_requester m r q Withdrawn ∷ [] ] ++ rs) ≡ []
emitted_unlinked c m q None rs k = k
emitted_unlinked c m q (Some r) rs k = k

all_unlinked : (c : Trigger) (m : Market) (h : History) (qs : List RoomQuote) → filter_map (linking_by c) (flat_map (both_emitted m h) qs) ≡ []
all_unlinked c m h [] = refl
all_unlinked c m h (q ∷ qs) = emitted_unlinked c m q (room_by_number h.facts q.room) (flat_map (both_emitted m h) qs) (all_unlinked c m h qs)

none_entered : (qs : List RoomQuote) → entries (map (λ (q : RoomQuote). WithdrawnFact (record { quote = q.number })) qs) ≡ []
none_entered [] = refl
none_entered (q ∷ qs) = none_entered qs

none_held : (qs : List RoomQuote) → held_sides (map (λ (q : RoomQuote). WithdrawnFact (record { quote = q.number })) qs) ≡ []
none_held [] = refl
none_held (q ∷ qs) = none_held qs

withdrawn_turns : (c : Trigger) (m : Market) (h : History) (x : Answer) (qs : List RoomQuote) → Turns c h x → Turns c h (withdrawn_or m h x qs)
withdrawn_turns c m h x [] k = k
withdrawn_turns c m h x (q ∷ qs) k = (all_unlinked c m h (q ∷ qs) ∙ sym (ap (map emitted_link) (none_entered qs)), (inl (none_entered qs), subst (AreBare _) (sym (none_held qs)) tt))

withdraw_one_turns : (c : Trigger) (m : Market) (h : History) (s : Sender) (t : ℕ) (id : Option (List ℕ)) → Turns c h (withdraw_one m h s t id)
withdraw_one_turns c m h s t None = (refl, (inl refl, tt))
withdraw_one_turns c m h s t (Some id) = withdrawn_turns c m h (not_found s (Some id)) _ (refl, (inl refl, tt))

withdrawal_turns : (c : Trigger) (m : Market) (h : History) (s : Sender) (d : WithdrawalMessage) (t : ℕ) (one all : Bool) → Turns c h (answer_withdrawal_of m h s d t one all)
withdrawal_turns c m h s d t true all = withdraw_one_turns c m h s t d.quote_id
withdrawal_turns c m h s d t false true = withdrawn_turns c m h (not_found s None) _ (refl, (inl refl, tt))
withdrawal_turns c m h s d t false false = (refl, (inl refl, tt))

hit_at_turns : (c : Trigger) (m : Market) (h : History) (s : Sender) (r : Room) (q : RoomQuote) (d : ResponseMessage) (t : ℕ) (side : Side) (p : Option ℤ) → Turns c h (answer_hit_at m h s r q d t side p)
hit_at_turns c m h s r q d t side None = (refl, (inl refl, tt))
hit_at_turns c m h s r q d t side (Some p) = (refl, (inl refl, tt))

hit_turns : (c : Trigger) (m : Market) (h : History) (s : Sender) (r : Room) (q : RoomQuote) (d : ResponseMessage) (t : ℕ) (side : Option Side) → Turns c h (answer_hit m h s r q d t side)
hit_turns c m h s r q d t None = (refl, (inl refl, tt))
hit_turns c m h s r q d t (Some side) = hit_at_turns c m h s r q d t side (price_for side q)

response_in_turns : (c : Trigger) (m : Market) (h : History) (s : Sender) (q : RoomQuote) (d : ResponseMessage) (t : ℕ) (r : Option Room) → Turns c h (answer_response_in m h s q d t r)
response_in_turns c m h s q d t None = (refl, (inl refl, tt))
response_in_turns c m h s q d t (Some r) = first_turns (Turns c h) (response_refusals m h s r q d t) (answer_hit m h s r q d t (taken_side r.side d.side)) ((refl, (inl refl, tt)), ((refl, (inl refl, tt)), ((refl, (inl refl, tt)), ((refl, (inl refl, tt)), ((refl, (inl refl, tt)), ((refl, (inl refl, tt)), tt)))))) (λ n. hit_turns c m h s r q d t (taken_side r.side d.side))

response_to_turns : (c : Trigger) (m : Market) (h : History) (s : Sender) (d : ResponseMessage) (t : ℕ) (q : Option RoomQuote) → Turns c h (answer_response_to m h s d t q)
response_to_turns c m h s d t None = (refl, (inl refl, tt))
response_to_turns c m h s d t (Some q) = response_in_turns c m h s q d t (room_by_number h.facts q.room)

response_turns : (c : Trigger) (m : Market) (h : History) (s : Sender) (d : ResponseMessage) (t : ℕ) → Turns c h (answer_response m h s d t)
response_turns c m h s d t = first_turns (Turns c h) (kind_refusals s d) _ ((refl, (inl refl, tt)), tt) (λ n. response_to_turns c m h s d t (find_quote h.facts d.quote_id))

market_data_turns : (c : Trigger) (m : Market) (h : History) (s : Sender) (d : MarketDataMessage) → Turns c h (answer_market_data m h s d)
market_data_turns c m h s d = first_turns (Turns c h) (market_data_refusals m s d) (market_data m h s d) ((refl, (inl refl, tt)), ((refl, (inl refl, tt)), ((refl, (inl refl, tt)), tt))) (λ n. (refl, (inl refl, tt)))

-- the events before have the links of the resting orders
abbrev Known : List EvidenceEvent → History → Type 0
Known words h = (who : ℕ) (id : List ℕ) (r : Resting) → named h who id ≡ IsResting r → link_id (link_known words who id) ≡ r.entry.order.link

at_its_row : (n : ℕ) (link : Option (List ℕ)) → link_id (link_at n link) ≡ link
at_its_row n None = refl
at_its_row n (Some link) = refl

app_turns : (m : Market) (h : History) (words : List EvidenceEvent) (n : ℕ) (s : Sender) (a : App) (t : ℕ) → Known words h → Turns (trigger_in m.instruments words n s.who a) h (answer_app m h s a t)
unfolding trigger_in
app_turns m h words n s (QuoteRequest d) t known = request_turns (trigger_in m.instruments words n s.who (QuoteRequest d)) m h s d t
app_turns m h words n s (Quote d) t known = quote_turns (trigger_in m.instruments words n s.who (Quote d)) m h s d t (find_room h.facts d.request_id)
app_turns m h words n s (QuoteCancel d) t known = withdrawal_turns (trigger_in m.instruments words n s.who (QuoteCancel d)) m h s d t (d.cancel_type == 5) (d.cancel_type == 4)
app_turns m h words n s (QuoteResponse d) t known = response_turns (trigger_in m.instruments words n s.who (QuoteResponse d)) m h s d t
app_turns m h words n s (NewOrderSingle d) t known = order_turns (trigger_in m.instruments words n s.who (NewOrderSingle d)) m h s d t (at_its_row n d.link_id)
app_turns m h words n s (OrderCancelRequest d) t known = cancel_turns (trigger_in m.instruments words n s.who (OrderCancelRequest d)) m h s d (named h s.who d.original_id)
app_turns m h words n s (OrderCancelReplaceRequest d) t known =
    replace_turns (trigger_in m.instruments words n s.who (OrderCancelReplaceRequest d)) m h s d t (named h s.who d.original_id) (named_own h s.who d.original_id) (known s.who d.original_id)
app_turns m h words n s (NewOrderCross d) t known = cross_turns (trigger_in m.instruments words n s.who (NewOrderCross d)) m h s d t refl
app_turns m h words n s (MarketDataRequest d) t known = market_data_turns (trigger_in m.instruments words n s.who (MarketDataRequest d)) m h s d
app_turns m h words n s (BusinessMessageReject d) t known = (refl, (inl refl, tt))
app_turns m h words n s (QuoteStatusReport d) t known = (refl, (inl refl, tt))
app_turns m h words n s (QuoteRequestReject d) t known = (refl, (inl refl, tt))
app_turns m h words n s (ExecutionReport d) t known = (refl, (inl refl, tt))
app_turns m h words n s (OrderCancelReject d) t known = (refl, (inl refl, tt))
app_turns m h words n s (MarketDataSnapshot d) t known = (refl, (inl refl, tt))
app_turns m h words n s (MarketDataRequestReject d) t known = (refl, (inl refl, tt))
app_turns m h words n s (Unsupported kind) t known = (refl, (inl refl, tt))

due_or_none : (m : Market) (h : History) (o : Option HeldSide) → ((k : HeldSide) → o ≡ Some k → In k (held h.facts) × (k.order.link ≡ None)) → Turns trigger.Tick h (answer_due_of m h o)
due_or_none m h None there = (refl, (inl refl, tt))
due_or_none m h (Some k) there = let p = there k refl in due_turns m h k p.0 p.1

input_turns : (m : Market) (h : History) (words : List EvidenceEvent) (n : ℕ) (i : Input) → Known words h → ((k : HeldSide) → In k (held_sides h.facts) → k.order.link ≡ None) → Turns (came_of m words n i) h (answer_input m h i)
input_turns m h words n (Message taken t) known bare = app_turns m h words n (record { who = taken.from; number = taken.item.number; kind = type_of taken.item.app }) taken.item.app t known
input_turns m h words n (Tick t) known bare =
    due_or_none m h (due h.facts t) (λ k e. let there = due_in_held h.facts t k e in (there, bare k (In-filtered (λ (x : HeldSide). not (list_any (releases x) h.facts)) (held_sides h.facts) k there)))

-- Identifiers over every day.

pub record Kept (fs : List Fact) : Type 0 where
  pub names : (e : Entry) → In e (entries fs) → find (entry_named e.order.who e.order.id) (entries fs) ≡ Some e
  pub apart : (k : HeldSide) → In k (held fs) → (e : Entry) → In e (entries fs) → entry_named k.order.who k.order.id e ≡ false
  pub bare : (k : HeldSide) → In k (held_sides fs) → k.order.link ≡ None

kept_nothing : Kept []
kept_nothing = record { names = λ e i. absurd i; apart = λ k i. absurd i; bare = λ k i. absurd i }

entered_fact : (f : Fact) (e : Entry) → entry_in_fact f ≡ Some e → f ≡ fact.Entered e
entered_fact (fact.Entered x) e h = ap (λ (y : Entry). fact.Entered y) (same_some x e h)
entered_fact (fact.Held x) e h = absurd (none_is_some e h)
entered_fact (fact.Traded x) e h = absurd (none_is_some e h)
entered_fact (fact.Removed x) e h = absurd (none_is_some e h)
entered_fact (fact.Unheld x) e h = absurd (none_is_some e h)
entered_fact (fact.Asked x) e h = absurd (none_is_some e h)
entered_fact (fact.Quoted x) e h = absurd (none_is_some e h)
entered_fact (fact.Withdrawn x) e h = absurd (none_is_some e h)
entered_fact (fact.Closed x) e h = absurd (none_is_some e h)

-- two identifiers are equal both ways
same_both : (a b : ℕ) (x y : List ℕ) → (a == b && bytes_eq x y) ≡ true → (b == a && bytes_eq y x) ≡ true
same_both a b x y t = let p = and_parts (a == b) (bytes_eq x y) t in and_true (b == a) (bytes_eq y x) (eq-eqb b a (sym (eqb-true a b p.0))) ((bytes_eq-Decides y x).1 (sym ((bytes_eq-Decides x y).0 p.1)))

unused_entry : (facts : List Fact) (who : ℕ) (id : List ℕ) → is_order_id_used facts who id ≡ false → (x : Entry) → In x (entries facts) → entry_named who id x ≡ false
unused_entry facts who id unused x i = false_from_ne_true (entry_named who id x) (λ t.
    let there = picked_from entry_in_fact facts x i in
    true≢false (sym (any_In (uses_order_id who id) facts there.0 there.1 (ap (uses_order_id who id) (entered_fact there.0 x there.2) ∙ same_both x.order.who who x.order.id id t)) ∙ unused))

own_entry : (e : Entry) → entry_named e.order.who e.order.id e ≡ true
own_entry e = and_true (e.order.who == e.order.who) (bytes_eq e.order.id e.order.id) (eq-eqb e.order.who e.order.who refl) ((bytes_eq-Decides e.order.id e.order.id).1 refl)

new_apart : (before new : List Fact) → Kept before → (e : Entry) → Anew before new e → (x : Entry) → In x (entries before) → entry_named e.order.who e.order.id x ≡ false
new_apart before new kept e (inl unused) x i = unused_entry before e.order.who e.order.id unused x i
new_apart before new kept e (inr side) x i = ap (λ (o : OrderFact). entry_named o.who o.id x) side.2 ∙ kept.apart side.0 side.1 x i

names_after : (before new : List Fact) → Kept before → EntersAnew before new → (e : Entry) → In e (entries before ++ entries new) → find (entry_named e.order.who e.order.id) (entries before ++ entries new) ≡ Some e
names_after before new kept (inl none) e i =
    let same : entries before ++ entries new ≡ entries before = ap (λ es. entries before ++ es) none ∙ append-nil (entries before) in
    ap (find (entry_named e.order.who e.order.id)) same ∙ kept.names e (subst (In e) same i)
names_after before new kept (inr one) e i = ap (λ es. find (entry_named e.order.who e.order.id) (entries before ++ es)) one.1 ∙ by e (In-append_cases (entries before) (one.0 ∷ []) e (subst (λ es. In e (entries before ++ es)) one.1 i))
  where
    by : (x : Entry) → In x (entries before) ⊎ In x (one.0 ∷ []) → find (entry_named x.order.who x.order.id) (entries before ++ one.0 ∷ []) ≡ Some x
    by x (inl old) = found_longer (entry_named x.order.who x.order.id) (entries before) (one.0 ∷ []) x (kept.names x old)
    by x (inr (inl same)) =
        subst (λ y. find (entry_named y.order.who y.order.id) (entries before ++ one.0 ∷ []) ≡ Some y) same
        (found_past (entry_named one.0.order.who one.0.order.id) (entries before) (one.0 ∷ []) (new_apart before new kept one.0 one.2) ∙ found_first (entry_named one.0.order.who one.0.order.id) one.0 [] (own_entry one.0))
    by x (inr (inr nowhere)) = absurd nowhere

filter_true_at : {X : Type 0} (p : X → Bool) (y : X) (ys : List X) (x : X) (b : Bool) → p y ≡ b → (In x (filter p ys) → p x ≡ true) → In x (cond b (y ∷ filter p ys) (filter p ys)) → p x ≡ true
filter_true_at p y ys x true e rec (inl same) = ap p (sym same) ∙ e
filter_true_at p y ys x true e rec (inr i) = rec i
filter_true_at p y ys x false e rec i = rec i

filter_true : {X : Type 0} (p : X → Bool) (xs : List X) (x : X) → In x (filter p xs) → p x ≡ true
filter_true p [] x i = absurd i
filter_true p (y ∷ ys) x i = filter_true_at p y ys x (p y) refl (filter_true p ys x) i

filter_has_at : {X : Type 0} (p : X → Bool) (y : X) (ys : List X) (x : X) (b : Bool) → p y ≡ b → p x ≡ true → (In x ys → In x (filter p ys)) → In x (y ∷ ys) → In x (cond b (y ∷ filter p ys) (filter p ys))
filter_has_at p y ys x true e t rec (inl same) = inl same
filter_has_at p y ys x true e t rec (inr i) = inr (rec i)
filter_has_at p y ys x false e t rec (inl same) = absurd (true≢false (sym t ∙ (ap p (sym same) ∙ e)))
filter_has_at p y ys x false e t rec (inr i) = rec i

filter_has : {X : Type 0} (p : X → Bool) (xs : List X) (x : X) → p x ≡ true → In x xs → In x (filter p xs)
filter_has p [] x t i = absurd i
filter_has p (y ∷ ys) x t i = filter_has_at p y ys x (p y) refl t (filter_has p ys x t) i

not_true : (b : Bool) → not b ≡ true → b ≡ false
not_true true e = absurd (true≢false (sym e))
not_true false e = refl

-- what stays held has another identifier than the entering order
held_apart : (before new : List Fact) (k : HeldSide) → In k (held_sides before) → list_any (releases k) new ≡ false → (e : Entry) → Anew before new e → entry_named k.order.who k.order.id e ≡ false
held_apart before new k i stays e (inl unused) = false_from_ne_true (entry_named k.order.who k.order.id e) (λ t. true≢false (sym (same_both e.order.who k.order.who e.order.id k.order.id t) ∙ unused_apart before e.order.who e.order.id unused k i))
held_apart before new k i stays e (inr side) = false_from_ne_true (entry_named k.order.who k.order.id e) (λ t.
    let named : entry_named k.order.who k.order.id e ≡ (side.0.order.who == k.order.who && bytes_eq side.0.order.id k.order.id) = ap (λ (o : OrderFact). o.who == k.order.who && bytes_eq o.id k.order.id) side.2 in
    let gone : Fact = Unheld (record { who = side.0.order.who; id = side.0.order.id; cancel = None }) in
    true≢false (sym (any_In (releases k) new gone side.3 (same_both side.0.order.who k.order.who side.0.order.id k.order.id (sym named ∙ t))) ∙ stays))

bare_of : (es : List Entry) (ks : List HeldSide) (k : HeldSide) → AreBare es ks → In k ks → (k.order.link ≡ None) × ((e : Entry) → In e es → entry_named k.order.who k.order.id e ≡ false)
bare_of es [] k are i = absurd i
bare_of es (x ∷ xs) k are (inl same) = subst (λ (y : HeldSide). (y.order.link ≡ None) × ((e : Entry) → In e es → entry_named y.order.who y.order.id e ≡ false)) same are.0
bare_of es (x ∷ xs) k are (inr i) = bare_of es xs k are.1 i

anew_unused : (before : List Fact) (ks : List HeldSide) (k : HeldSide) → HoldsAnew before ks → In k ks → is_order_id_used before k.order.who k.order.id ≡ false
anew_unused before ks k (inl none) i = absurd (subst (In k) none i)
anew_unused before ks k (inr one) i = by (subst (In k) one.1 i)
  where
    by : In k (one.0 ∷ []) → is_order_id_used before k.order.who k.order.id ≡ false
    by (inl same) = subst (λ (y : HeldSide). is_order_id_used before y.order.who y.order.id ≡ false) same one.2
    by (inr nowhere) = absurd nowhere

apart_after : (before new : List Fact) → Kept before → EntersAnew before new → AreBare (entries new) (held_sides new) → HoldsAnew before (held_sides new) → (k : HeldSide) → In k (held (before ++ new)) → (e : Entry) → In e (entries before ++ entries new)
    → entry_named k.order.who k.order.id e ≡ false
apart_after before new kept enters are anew k there e i =
    by (In-append_cases (held_sides before) (held_sides new) k (subst (In k) (filter_map-append held_in_fact before new) (In-filtered (λ (x : HeldSide). not (list_any (releases x) (before ++ new))) (held_sides (before ++ new)) k there)))
    (In-append_cases (entries before) (entries new) e i)
  where
    stays : (list_any (releases k) before || list_any (releases k) new) ≡ false
    stays = sym (list_any-append (releases k) before new) ∙ not_true (list_any (releases k) (before ++ new)) (filter_true (λ (x : HeldSide). not (list_any (releases x) (before ++ new))) (held_sides (before ++ new)) k there)

    still : In k (held_sides before) → In k (held before)
    still old = filter_has (λ (x : HeldSide). not (list_any (releases x) before)) (held_sides before) k (ap not (or_left (list_any (releases k) before) (list_any (releases k) new) stays)) old

    of_new : EntersAnew before new → In k (held_sides before) → In e (entries new) → entry_named k.order.who k.order.id e ≡ false
    of_new (inl none) old j = absurd (subst (In e) none j)
    of_new (inr one) old j = which (subst (In e) one.1 j)
      where
        which : In e (one.0 ∷ []) → entry_named k.order.who k.order.id e ≡ false
        which (inl same) = ap (entry_named k.order.who k.order.id) (sym same) ∙ held_apart before new k old (or_right (list_any (releases k) before) (list_any (releases k) new) stays) one.0 one.2
        which (inr nowhere) = absurd nowhere

    by : In k (held_sides before) ⊎ In k (held_sides new) → In e (entries before) ⊎ In e (entries new) → entry_named k.order.who k.order.id e ≡ false
    by (inl old) (inl j) = kept.apart k (still old) e j
    by (inl old) (inr j) = of_new enters old j
    by (inr fresh) (inl j) = unused_entry before k.order.who k.order.id (anew_unused before (held_sides new) k anew fresh) e j
    by (inr fresh) (inr j) = (bare_of (entries new) (held_sides new) k are fresh).1 e j

kept_after : (before new : List Fact) → Kept before → EntersAnew before new → AreBare (entries new) (held_sides new) → HoldsAnew before (held_sides new) → Kept (before ++ new)
kept_after before new kept enters are anew =
    let same : entries (before ++ new) ≡ entries before ++ entries new = filter_map-append entry_in_fact before new in
    record {
      names = λ e i. ap (find (entry_named e.order.who e.order.id)) same ∙ names_after before new kept enters e (subst (In e) same i);
      apart = λ k there e i. apart_after before new kept enters are anew k there e (subst (In e) same i);
      bare = λ k i. all_bare k (In-append_cases (held_sides before) (held_sides new) k (subst (In k) (filter_map-append held_in_fact before new) i));
    }
  where
    all_bare : (k : HeldSide) → In k (held_sides before) ⊎ In k (held_sides new) → k.order.link ≡ None
    all_bare k (inl old) = kept.bare k old
    all_bare k (inr fresh) = (bare_of (entries new) (held_sides new) k are fresh).0

-- Over a day.

linked_in : (w : EvidenceEvent) (s : EventKind) (y : HeardLink) → linking_of_said w s ≡ Some y → link_id (link_said s) ≡ y.link
linked_in w (said.Entered e) y h = ap (λ (o : HeardLink). o.link) (same_some _ y h)
linked_in w (said.Asked x) y h = absurd (none_is_some y h)
linked_in w (said.SnapshotSent x) y h = absurd (none_is_some y h)
linked_in w (said.Shown x) y h = absurd (none_is_some y h)
linked_in w (said.Quoted x) y h = absurd (none_is_some y h)
linked_in w (said.Hit x) y h = absurd (none_is_some y h)
linked_in w (said.Held x) y h = absurd (none_is_some y h)
linked_in w (said.Filled x) y h = absurd (none_is_some y h)
linked_in w (said.RestedBefore x) y h = absurd (none_is_some y h)
linked_in w (said.RestedCount x) y h = absurd (none_is_some y h)

name_test : (who : ℕ) (id : List ℕ) (w : EvidenceEvent) (s : EventKind) → is_entry_said who id w.to s ≡ picked_passes (λ y. y.to == who && bytes_eq y.id id) (linking_of_said w s)
name_test who id w (said.Entered e) = refl
name_test who id w (said.Asked x) = refl
name_test who id w (said.SnapshotSent x) = refl
name_test who id w (said.Shown x) = refl
name_test who id w (said.Quoted x) = refl
name_test who id w (said.Hit x) = refl
name_test who id w (said.Held x) = refl
name_test who id w (said.Filled x) = refl
name_test who id w (said.RestedBefore x) = refl
name_test who id w (said.RestedCount x) = refl

order_test : (n : ℕ) (w : EvidenceEvent) (s : EventKind) → enters_said n s ≡ picked_passes (λ y. y.order == n) (linking_of_said w s)
order_test n w (said.Entered e) = refl
order_test n w (said.Asked x) = refl
order_test n w (said.SnapshotSent x) = refl
order_test n w (said.Shown x) = refl
order_test n w (said.Quoted x) = refl
order_test n w (said.Hit x) = refl
order_test n w (said.Held x) = refl
order_test n w (said.Filled x) = refl
order_test n w (said.RestedBefore x) = refl
order_test n w (said.RestedCount x) = refl

known_from : (words : List EvidenceEvent) (h : History) → Kept h.facts → filter_map linking_in words ≡ map emitted_link (entries h.facts) → Known words h
known_from words h kept listed who id r e =
    let p : Resting → Bool = λ x. rests x.entry.order.instrument x.entry.order.side x && (x.entry.order.who == who && bytes_eq x.entry.order.id id) in
    let passes = In-find p (map (with_left (left h.facts)) (entries h.facts)) r (named_rests (find_order h.facts who id) (find_held h.facts who id) r e) in
    let name = and_parts (r.entry.order.who == who) (bytes_eq r.entry.order.id id) (and_parts (rests r.entry.order.instrument r.entry.order.side r) (r.entry.order.who == who && bytes_eq r.entry.order.id id) passes.1).1 in
    let one = In-map (with_left (left h.facts)) (entries h.facts) r passes.0 in
    let there : In r.entry (entries h.facts) = subst (λ (x : Entry). In x (entries h.facts)) (ap (λ (x : Resting). x.entry) one.2) one.1 in
    let who_is = eqb-true r.entry.order.who who name.0 in
    let id_is = (bytes_eq-Decides r.entry.order.id id).0 name.1 in
    let test : HeardLink → Bool = λ y. y.to == who && bytes_eq y.id id in
    let named_first : find (entry_named who id) (entries h.facts) ≡ Some r.entry = (λ j. find (entry_named (sym who_is j) (sym id_is j)) (entries h.facts)) ∙ kept.names r.entry there in
    let w = found_picked linking_in test (is_sought (EntrySought who id)) (λ x. name_test who id x x.said) words (emitted_link r.entry) (ap (find test) listed ∙ found_map emitted_link test (entries h.facts) r.entry named_first) in
    ap (λ (o : Option EvidenceEvent). link_id (link_of o)) w.1 ∙ linked_in w.0 w.0.said (emitted_link r.entry) w.2

row_links : (m : Market) (h : History) (words : List EvidenceEvent) (r : TrailRow) (i : Input) → Turns (came_of m words r.n i) h (answer_input m h i) → filter_map linking_in (words_at m h words r i) ≡ map emitted_link (entries (answer_input m h i).facts)
row_links m h words r i turns = linkings_say r.n r.moment (came_of m words r.n i) (answer_input m h i).replies ∙ turns.0

day_linked : (m : Market) (h : History) (words : List EvidenceEvent) (rs : List TrailRow) (is : List Input) → AreEmitted rs is → Kept h.facts → filter_map linking_in words ≡ map emitted_link (entries h.facts)
    → filter_map linking_in (words_from m h words rs is) ≡ map emitted_link (entries (run_from m h is).history.facts)
day_linked m h words [] [] emitted kept listed = listed
day_linked m h words [] (i ∷ is) emitted kept listed = absurd emitted
day_linked m h words (r ∷ rs) [] emitted kept listed = absurd emitted
day_linked m h words (r ∷ rs) (i ∷ is) emitted kept listed =
    let a = answer_input m h i in
    let turns = input_turns m h words r.n i (known_from words h kept listed) kept.bare in
    day_linked m (after h a) (words ++ words_at m h words r i) rs is emitted.1 (kept_after h.facts a.facts kept turns.1.0 turns.1.1 (input-Says m h [] r i emitted.0).1.1.1.1.0)
    (filter_map-append linking_in words (words_at m h words r i)
    ∙ ((λ j. listed j ++ row_links m h words r i turns j) ∙ (sym (map-append emitted_link (entries h.facts) (entries a.facts)) ∙ ap (map emitted_link) (sym (filter_map-append entry_in_fact h.facts a.facts)))))

-- the link of an order that is found
pub link_found : (m : Market) (rs : List TrailRow) (is : List Input) → AreEmitted rs is → (e : Entry) → find (λ (y : Entry). y.number == e.number) (entries (run m is).history.facts) ≡ Some e → (w : EvidenceEvent) (x : Entered)
    → find (is_sought (Order e.number)) (words_emitted m rs is) ≡ Some w → w.said ≡ said.Entered x → link_id x.link ≡ e.order.link
link_found m rs is emitted e first w x found says =
    let words = words_emitted m rs is in
    let test : HeardLink → Bool = λ y. y.order == e.number in
    let other = found_picked linking_in test (is_sought (Order e.number)) (λ v. order_test e.number v v.said) words (emitted_link e) (ap (find test) (day_linked m no_history [] rs is emitted kept_nothing refl) ∙ found_map emitted_link test (entries (run m is).history.facts) e first) in
    let same : other.0 ≡ w = same_some other.0 w (sym other.1 ∙ found) in
    sym (ap (λ (s : EventKind). link_id (link_said s)) says) ∙ linked_in w w.said (emitted_link e) (subst (λ (v : EvidenceEvent). linking_in v ≡ Some (emitted_link e)) same other.2)
