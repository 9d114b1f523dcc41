use Rattle.std.proofs.Common.{◌≡◌, refl, sym, ap, ap₂, ◌∙◌, subst, ℕ, ℤ, ◌+◌, ◌-◌, min, Bool, true, false, not, ◌&&◌, ◌||◌, ◌==◌, nat_lt, nat_le, if◌then◌else◌, List, [], ◌∷◌, ◌++◌, map, flat_map, filter, filter_map, length, take, Option, Some, None, is_none, option_map, bytes_eq}
use Rattle.std.specs.List.{enumerate_from, list_any}
use Rattle.std.proofs.lemmas.Bool.{true≢false}
use Rattle.std.proofs.lemmas.List.{map-append, take-map}
use Rattle.sef_moment.specs.Utc.{greatest}
use Rattle.fix_dictionary.specs.declared.messages.NewOrderSingle.{NewOrderSingle as OrderMessage}
use Rattle.fix_dictionary.specs.declared.messages.OrderCancelRequest.{OrderCancelRequest as CancelMessage}
use Rattle.fix_dictionary.specs.declared.messages.OrderCancelReplaceRequest.{OrderCancelReplaceRequest as ReplaceMessage}
use Rattle.fix_dictionary.specs.declared.messages.NewOrderCross.{NewOrderCross as CrossMessage}
use Rattle.fix_dictionary.specs.declared.messages.QuoteRequest.{QuoteRequest as RequestMessage}
use Rattle.fix_dictionary.specs.declared.messages.Quote.{Quote as QuoteMessage}
use Rattle.fix_dictionary.specs.declared.messages.QuoteCancel.{QuoteCancel as WithdrawalMessage}
use Rattle.fix_dictionary.specs.declared.messages.QuoteResponse.{QuoteResponse as ResponseMessage}
use Rattle.fix_dictionary.specs.declared.messages.MarketDataRequest.{MarketDataRequest as MarketDataMessage}
use Rattle.fix_dictionary.specs.declared.messages.Party.{Party}
use Rattle.fix_dictionary.specs.declared.values.Side.{Side}
use Rattle.fix_dictionary.specs.declared.values.Side.TheVariants.{Buy, Sell}
use Rattle.participants.specs.ParticipantFile.{ParticipantFile}
use Rattle.participants.specs.Relations.{apart, are_unrelated, find_participant, three_unrelated}
use Rattle.instruments.specs.Listing.{delay_of, instrument_of, request_life_of, symbol_of}
use Rattle.venue_rules.specs.declared.facts.Fact.{Fact}
use Rattle.venue_rules.specs.declared.facts.Fact.TheVariants.{Entered, Traded, Removed, Held, Unheld, Quoted, Withdrawn, Closed}
use Rattle.venue_rules.specs.declared.facts.Entry.{Entry}
use Rattle.venue_rules.specs.declared.facts.OrderFact.{OrderFact}
use Rattle.venue_rules.specs.declared.facts.HeldSide.{HeldSide}
use Rattle.venue_rules.specs.declared.facts.Room.{Room}
use Rattle.venue_rules.specs.declared.facts.RoomQuote.{RoomQuote}
use Rattle.venue_rules.specs.declared.facts.Trade.{Trade}
use Rattle.venue_rules.specs.declared.replies.Reply.{Reply}
use Rattle.venue_rules.specs.declared.replies.ReplyBody.TheVariants.{OrderEntered, OrderReplaced, OrderUnfilled, BookSnapshot, QuoteSent}
use Rattle.venue_rules.specs.declared.replies.QuoteState.TheVariants as state
use Rattle.venue_rules.specs.declared.refusals.ChangeRefusal.TheVariants.{HeldSide as IsHeldSide}
use Rattle.venue_rules.specs.declared.refusals.CrossRefusal.{CrossRefusal}
use Rattle.venue_rules.specs.declared.refusals.CrossRefusal.TheVariants as cross
use Rattle.venue_rules.specs.declared.refusals.OrderRefusal.{OrderRefusal}
use Rattle.venue_rules.specs.declared.refusals.OrderRefusal.TheVariants as order
use Rattle.venue_rules.specs.Market.{Market}
use Rattle.venue_rules.specs.Facts.{History, next_trade}
use Rattle.venue_rules.specs.Book.{Fill, Resting, fills, filled, filled_by, find_order, is_day, opposite}
use Rattle.venue_rules.specs.Delay.{find_held, held, held_capacity}
use Rattle.venue_rules.specs.Rooms.{find_quote, find_room, first_quote, live_quotes, room_by_number}
use Rattle.venue_rules.specs.Entering.{buyer, entering, entry_facts, entry_reports, fill_report, fill_reports, order_report, trade_of, unfilled_reports}
use Rattle.venue_rules.specs.Answer.{Answer, Sender, answers, first_of, numbered, reply}
use Rattle.venue_rules.specs.Orders.{accepted, answer_order, duplicate, order_asked, order_refusals, order_under, refused_naming}
use Rattle.venue_rules.specs.Changes.{Named, IsResting, IsHeld, IsUnknown, named, standing, answer_cancel_of, answer_replace_of, cancel_refusals, held_replace_refusals, replace_refusals, replace_refused, cancelled, held_cancelled, replaced, replacement}
use Rattle.venue_rules.specs.Crosses.{answer_cross, answer_due, cross_accepted, cross_duplicate, cross_refusals, due_refusals, first_side, second_side, side_order, side_refused}
use Rattle.venue_rules.specs.Requests.{answer_request, has_twice, named_recipients, open_room, opened, recipient_room, recipients, request_accepted, request_refusals, request_sent}
use Rattle.venue_rules.specs.Quotes.{answer_quote_of, quote_accepted, quote_end, quote_refusals, quote_sent, quote_status, quoted, shown_with}
use Rattle.venue_rules.specs.Withdrawals.{answer_withdrawal_of, both_emitted, not_found, to_maker, to_requester, withdraw_one, withdrawn_all, withdrawn_or}
use Rattle.venue_rules.specs.Responses.{answer_hit, answer_hit_at, answer_response, answer_response_in, answer_response_to, hit_trade, kind_refusals, price_for, response_refusals, room_report, room_traded, taken_side}
use Rattle.venue_rules.specs.MarketData.{answer_market_data, market_data, market_data_refusals}
use Rattle.market_laws.specs.Renaming.{IsRenamed, Renaming, renamed_entry, renamed_fact, renamed_held, renamed_order, renamed_quote, renamed_reply, renamed_room, renamed_trade}
use Rattle.market_laws.proofs.RenamedLists.{any_mapped, each_mapped, filter_mapped, length_mapped, none_mapped, picked_mapped}
use Rattle.market_laws.proofs.RenamedFacts.{closed_r, cross_used_r, facts_r, fills_r, filled_by_r, find_held_r, find_order_r, find_quote_r, find_room_r, first_quote_r, held_r, live_quotes_r, next_order_r, next_quote_r, next_room_r, next_trade_r, open_r, open_rooms_r, order_used_r, picture_r, quote_used_r, renamed_fill, renamed_resting, replaced_quote_r, request_used_r, room_by_number_r, same_who, side_full_r, too_soon_r, with_file, withdrawn_r}

-- The answer to each message, with renamed participants.

abbrev pub history_r : Renaming → History → History
history_r r h = record { facts = facts_r r h.facts; reports = h.reports }

abbrev pub answer_r : Renaming → Answer → Answer
answer_r r a = record { facts = map (renamed_fact r) a.facts; replies = map (renamed_reply r) a.replies }

abbrev pub sender_r : Renaming → Sender → Sender
sender_r r s = record { who = r.place s.who; number = s.number; kind = s.kind }

both_same : (fs gs : List Fact) (rs ss : List Reply) → fs ≡ gs → rs ≡ ss → let x : Answer = record { facts = fs; replies = rs } in let y : Answer = record { facts = gs; replies = ss } in x ≡ y
both_same fs gs rs ss e f = ap₂ (λ (xs : List Fact) (ys : List Reply). let a : Answer = record { facts = xs; replies = ys } in a) e f

-- the first refusal that holds

abbrev SameCases : Renaming → List (Bool × Answer) → List (Bool × Answer) → Type 0
SameCases r [] [] = Unit {0}
SameCases r [] (d ∷ ds) = ⊥
SameCases r (c ∷ cs) [] = ⊥
SameCases r (c ∷ cs) (d ∷ ds) = (c.0 ≡ d.0) × (c.1 ≡ answer_r r d.1) × SameCases r cs ds

case_r : (r : Renaming) (a b : Bool) (x y u v : Answer) → a ≡ b → x ≡ answer_r r u → y ≡ answer_r r v → let p : Answer = elim a [ true ↦ x | false ↦ y ] in let q : Answer = elim b [ true ↦ u | false ↦ v ] in p ≡ answer_r r q
case_r r true true x y u v e f g = f
case_r r false false x y u v e f g = g
case_r r true false x y u v e f g = absurd (true≢false e)
case_r r false true x y u v e f g = absurd (true≢false (sym e))

first_of_r : (r : Renaming) (cs ds : List (Bool × Answer)) (x y : Answer) → SameCases r cs ds → x ≡ answer_r r y → first_of cs x ≡ answer_r r (first_of ds y)
first_of_r r [] [] x y k e = e
first_of_r r [] (d ∷ ds) x y k e = absurd k
first_of_r r (c ∷ cs) [] x y k e = absurd k
first_of_r r (c ∷ cs) (d ∷ ds) x y k e = case_r r c.0 d.0 c.1 (first_of cs x) d.1 (first_of ds y) k.0 k.1 (first_of_r r cs ds x y k.2 e)

-- reports before numbering

abbrev AreSame : Renaming → List (ℕ → Reply) → List (ℕ → Reply) → Type 0
AreSame r [] [] = Unit {0}
AreSame r [] (g ∷ gs) = ⊥
AreSame r (f ∷ fs) [] = ⊥
AreSame r (f ∷ fs) (g ∷ gs) = ((n : ℕ) → f n ≡ renamed_reply r (g n)) × AreSame r fs gs

AreSame-append : (r : Renaming) (fs gs more rest : List (ℕ → Reply)) → AreSame r fs gs → AreSame r more rest → AreSame r (fs ++ more) (gs ++ rest)
AreSame-append r [] [] more rest k l = l
AreSame-append r [] (g ∷ gs) more rest k l = absurd k
AreSame-append r (f ∷ fs) [] more rest k l = absurd k
AreSame-append r (f ∷ fs) (g ∷ gs) more rest k l = (k.0, AreSame-append r fs gs more rest k.1 l)

numbered_r : (r : Renaming) (n : ℕ) (fs gs : List (ℕ → Reply)) → AreSame r fs gs → numbered n fs ≡ map (renamed_reply r) (numbered n gs)
numbered_r r n [] [] k = refl
numbered_r r n [] (g ∷ gs) k = absurd k
numbered_r r n (f ∷ fs) [] k = absurd k
numbered_r r n (f ∷ fs) (g ∷ gs) k = ap₂ (λ (x : Reply) xs. x ∷ xs) (k.0 (n + 1)) (numbered_r r (n + 1) fs gs k.1)

-- an order that enters

fills_same : (m : Market) (r : Renaming) (file : ParticipantFile) (e : Entry) (all : List Fill) (trade j : ℕ) (fs : List Fill) → AreSame r (flat_map (fill_reports (with_file m file) (renamed_entry r e) (map (renamed_fill r) all) trade) (enumerate_from j (map (renamed_fill r) fs))) (flat_map (fill_reports m e all trade) (enumerate_from j fs))
fills_same m r file e all trade j [] = tt
fills_same m r file e all trade j (f ∷ fs) = (
  λ n. ap (λ s. fill_report (with_file m file) (renamed_entry r e) (e.order.quantity - s) (e.filled_before + s) (renamed_fill r f) (trade + j) n) (ap filled_by (take-map (renamed_fill r) (j + 1) all) ∙ filled_by_r r (take (j + 1) all)),
  ((λ n. refl), fills_same m r file e all trade (j + 1) fs),
)

rest_same : (r : Renaming) (b : Bool) (f g : ℕ → Reply) → ((n : ℕ) → f n ≡ renamed_reply r (g n)) → AreSame r (if b then f ∷ [] else []) (if b then g ∷ [] else [])
rest_same r true f g k = (k, tt)
rest_same r false f g k = tt

unfilled_same : (m : Market) (r : Renaming) (file : ParticipantFile) (e : Entry) (fs : List Fill) (s : ℕ) → s ≡ filled_by fs
    → AreSame r (if not (is_day e.order.life) && nat_lt s e.order.quantity then (λ n. reply (r.place e.order.who) (OrderUnfilled (order_report (with_file m file) (renamed_entry r e) 0 (e.filled_before + s) n))) ∷ [] else []) (unfilled_reports m e fs)
unfilled_same m r file e fs s k =
    subst (λ z. AreSame r (if not (is_day e.order.life) && nat_lt z e.order.quantity then (λ n. reply (r.place e.order.who) (OrderUnfilled (order_report (with_file m file) (renamed_entry r e) 0 (e.filled_before + z) n))) ∷ [] else []) (unfilled_reports m e fs)) (sym k)
    (rest_same r (not (is_day e.order.life) && nat_lt (filled_by fs) e.order.quantity) (λ n. reply (r.place e.order.who) (OrderUnfilled (order_report (with_file m file) (renamed_entry r e) 0 (e.filled_before + filled_by fs) n))) (λ n. reply e.order.who (OrderUnfilled (order_report m e 0 (e.filled_before + filled_by fs) n))) (λ n. refl))

reports_same : (m : Market) (r : Renaming) (file : ParticipantFile) (facts : List Fact) (e : Entry) (fs : List Fill) → AreSame r (entry_reports (with_file m file) (facts_r r facts) (renamed_entry r e) (map (renamed_fill r) fs)) (entry_reports m facts e fs)
reports_same m r file facts e fs =
    AreSame-append r (flat_map (fill_reports (with_file m file) (renamed_entry r e) (map (renamed_fill r) fs) (next_trade (facts_r r facts))) (enumerate_from 0 (map (renamed_fill r) fs))) (flat_map (fill_reports m e fs (next_trade facts)) (enumerate_from 0 fs)) (unfilled_reports (with_file m file) (renamed_entry r e) (map (renamed_fill r) fs)) (unfilled_reports m e fs)
    (subst (λ t. AreSame r (flat_map (fill_reports (with_file m file) (renamed_entry r e) (map (renamed_fill r) fs) t) (enumerate_from 0 (map (renamed_fill r) fs))) (flat_map (fill_reports m e fs (next_trade facts)) (enumerate_from 0 fs))) (sym (next_trade_r r facts)) (fills_same m r file e fs (next_trade facts) 0 fs))
    (unfilled_same m r file e fs (filled_by (map (renamed_fill r) fs)) (filled_by_r r fs))

-- the entry with the next number
entering_r : (r : Renaming) (facts : List Fact) (o : OrderFact) (before t : ℕ) → entering (facts_r r facts) (renamed_order r o) before t ≡ renamed_entry r (entering facts o before t)
entering_r r facts o before t = ap (λ n. let e : Entry = record { number = n; order = renamed_order r o; filled_before = before; moment = t } in e) (next_order_r r facts)

entry_reports_r : (m : Market) (r : Renaming) (file : ParticipantFile) (h : History) (o : OrderFact) (before t : ℕ) (first : Entry → ℕ → Reply) (first_then : ℕ → Reply) → ((n : ℕ) → first (renamed_entry r (entering h.facts o before t)) n ≡ renamed_reply r (first_then n))
    → numbered h.reports (first (entering (facts_r r h.facts) (renamed_order r o) before t) ∷ entry_reports (with_file m file) (facts_r r h.facts) (entering (facts_r r h.facts) (renamed_order r o) before t) (fills (facts_r r h.facts) (renamed_order r o)))
    ≡ map (renamed_reply r) (numbered h.reports (first_then ∷ entry_reports m h.facts (entering h.facts o before t) (fills h.facts o)))
entry_reports_r m r file h o before t first first_then k =
    ap₂ (λ e fs. numbered h.reports (first e ∷ entry_reports (with_file m file) (facts_r r h.facts) e fs)) (entering_r r h.facts o before t) (fills_r r h.facts o)
    ∙ numbered_r r h.reports (first (renamed_entry r (entering h.facts o before t)) ∷ entry_reports (with_file m file) (facts_r r h.facts) (renamed_entry r (entering h.facts o before t)) (map (renamed_fill r) (fills h.facts o))) (first_then ∷ entry_reports m h.facts (entering h.facts o before t) (fills h.facts o)) (k, reports_same m r file h.facts (entering h.facts o before t) (fills h.facts o))

buyer_r : (r : Renaming) (side : Side) (a b : ℕ) → buyer side (r.place a) (r.place b) ≡ r.place (buyer side a b)
buyer_r r Buy a b = refl
buyer_r r Sell a b = refl

trade_r : (r : Renaming) (e : Entry) (f : Fill) → trade_of (renamed_entry r e) (renamed_fill r f) ≡ renamed_trade r (trade_of e f)
trade_r r e f = ap₂ (λ x y. let t : Trade = record (trade_of e f) { buyer = x; seller = y } in t) (buyer_r r e.order.side e.order.who f.resting.entry.order.who) (buyer_r r e.order.side f.resting.entry.order.who e.order.who)

trades_same : (r : Renaming) (e : Entry) (fs : List Fill) → map (λ f. Traded (trade_of (renamed_entry r e) f)) (map (renamed_fill r) fs) ≡ map (renamed_fact r) (map (λ f. Traded (trade_of e f)) fs)
trades_same r e fs = each_mapped (λ f. Traded (trade_of (renamed_entry r e) f)) (λ f. Traded (trade_of e f)) (renamed_fill r) (renamed_fact r) (λ f. ap Traded (trade_r r e f)) fs

entry_facts_r : (r : Renaming) (facts : List Fact) (o : OrderFact) (before t : ℕ) → entry_facts (entering (facts_r r facts) (renamed_order r o) before t) (fills (facts_r r facts) (renamed_order r o)) ≡ map (renamed_fact r) (entry_facts (entering facts o before t) (fills facts o))
entry_facts_r r facts o before t =
    ap₂ entry_facts (entering_r r facts o before t) (fills_r r facts o)
    ∙ ap (λ fs. Entered (renamed_entry r (entering facts o before t)) ∷ fs) (trades_same r (entering facts o before t) (fills facts o))

accepted_r : (m : Market) (r : Renaming) (file : ParticipantFile) (h : History) (o : OrderFact) (t : ℕ) → accepted (with_file m file) (history_r r h) (renamed_order r o) t ≡ answer_r r (accepted m h o t)
accepted_r m r file h o t =
    both_same _ _ _ _ (entry_facts_r r h.facts o 0 t)
    (entry_reports_r m r file h o 0 t (λ e n. reply (r.place o.who) (OrderEntered (order_report (with_file m file) e o.quantity 0 n))) (λ n. reply o.who (OrderEntered (order_report m (entering h.facts o 0 t) o.quantity 0 n))) (λ n. refl))

-- the order that a duplicate's report names keeps its number

under_numbered : (r : Renaming) (o : Option Resting) → option_map (λ (x : Resting). x.entry.number) (option_map (renamed_resting r) o) ≡ option_map (λ (x : Resting). x.entry.number) o
under_numbered r (Some x) = refl
under_numbered r None = refl

under_r : (r : Renaming) (old new_file : ParticipantFile) → IsRenamed r old new_file → (facts : List Fact) (who : ℕ) (id : List ℕ) → order_under (facts_r r facts) (r.place who) id ≡ order_under facts who id
under_r r old new_file k facts who id = ap (option_map (λ (x : Resting). x.entry.number)) (find_order_r r old new_file k facts who id) ∙ under_numbered r (find_order facts who id)

duplicate_r : (m : Market) (r : Renaming) (file : ParticipantFile) → IsRenamed r m.participants file → (h : History) (s : Sender) (d : OrderMessage) (cause : OrderRefusal) → duplicate (history_r r h) (sender_r r s) d cause ≡ answer_r r (duplicate h s d cause)
duplicate_r m r file k h s d cause = ap (λ (n : Option ℕ). refused_naming n (history_r r h) (sender_r r s) d cause) (under_r r m.participants file k h.facts s.who d.order_id)

cross_duplicate_r : (m : Market) (r : Renaming) (file : ParticipantFile) → IsRenamed r m.participants file → (h : History) (s : Sender) (d : CrossMessage) (cause : CrossRefusal) → cross_duplicate (history_r r h) (sender_r r s) d cause ≡ answer_r r (cross_duplicate h s d cause)
cross_duplicate_r m r file k h s d cause =
    ap₂ (λ (one two : Option ℕ). answers (numbered h.reports (side_refused one (sender_r r s) d cause d.first ∷ side_refused two (sender_r r s) d cause d.second ∷ []))) (under_r r m.participants file k h.facts s.who d.first.order_id) (under_r r m.participants file k h.facts s.who d.second.order_id)

pub order_r : (m : Market) (r : Renaming) (file : ParticipantFile) → IsRenamed r m.participants file → (h : History) (s : Sender) (d : OrderMessage) (t : ℕ) → answer_order (with_file m file) (history_r r h) (sender_r r s) d t ≡ answer_r r (answer_order m h s d t)
order_r m r file k h s d t =
    let o : OrderFact = order_asked m s.who d in
    first_of_r r (order_refusals (with_file m file) (history_r r h) (sender_r r s) d t) (order_refusals m h s d t) (accepted (with_file m file) (history_r r h) (renamed_order r o) t) (accepted m h o t)
    (refl, refl, (order_used_r r m.participants file k h.facts s.who d.order_id, duplicate_r m r file k h s d order.DuplicateClOrdId, (refl, refl, (refl, refl, (refl, refl, (refl, refl, (too_soon_r m r file k h.facts o t, refl, (side_full_r r h.facts o, refl, tt))))))))
    (accepted_r m r file h o t)

-- cancels and replacements

abbrev named_to : Renaming → Named → Named
named_to r (IsResting x) = IsResting (renamed_resting r x)
named_to r (IsHeld k) = IsHeld (renamed_held r k)
named_to r IsUnknown = IsUnknown

abbrev choose : Option Resting → Option HeldSide → Named
choose (Some x) o = IsResting x
choose None (Some k) = IsHeld k
choose None None = IsUnknown

held_chosen : (o : Option HeldSide) → (elim o [ Some k ↦ IsHeld k | None ↦ IsUnknown ]) ≡ choose None o
held_chosen (Some k) = refl
held_chosen None = refl

named_chosen : (p : Option Resting) (o : Option HeldSide) → (elim p [ Some x ↦ IsResting x | None ↦ elim o [ Some k ↦ IsHeld k | None ↦ IsUnknown ] ]) ≡ choose p o
named_chosen (Some x) o = refl
named_chosen None o = held_chosen o

choose_r : (r : Renaming) (p : Option Resting) (o : Option HeldSide) → choose (option_map (renamed_resting r) p) (option_map (renamed_held r) o) ≡ named_to r (choose p o)
choose_r r (Some x) o = refl
choose_r r None (Some k) = refl
choose_r r None None = refl

named_r : (r : Renaming) (old new_file : ParticipantFile) → IsRenamed r old new_file → (h : History) (who : ℕ) (id : List ℕ) → named (history_r r h) (r.place who) id ≡ named_to r (named h who id)
named_r r old new_file k h who id =
    named_chosen (find_order (facts_r r h.facts) (r.place who) id) (find_held (facts_r r h.facts) (r.place who) id)
    ∙ (ap₂ choose (find_order_r r old new_file k h.facts who id) (find_held_r r old new_file k h.facts who id)
    ∙ (choose_r r (find_order h.facts who id) (find_held h.facts who id) ∙ ap (named_to r) (sym (named_chosen (find_order h.facts who id) (find_held h.facts who id)))))

cancel_of_r : (m : Market) (r : Renaming) (file : ParticipantFile) → IsRenamed r m.participants file → (h : History) (s : Sender) (d : CancelMessage) (x : Named) → answer_cancel_of (with_file m file) (history_r r h) (sender_r r s) d (named_to r x) ≡ answer_r r (answer_cancel_of m h s d x)
cancel_of_r m r file k h s d IsUnknown = refl
cancel_of_r m r file k h s d (IsHeld x) =
    first_of_r r (cancel_refusals (history_r r h) (sender_r r s) d None) (cancel_refusals h s d None) (held_cancelled (with_file m file) (history_r r h) (sender_r r s) d (renamed_held r x)) (held_cancelled m h s d x) (order_used_r r m.participants file k h.facts s.who d.order_id, refl, tt) refl
cancel_of_r m r file k h s d (IsResting x) =
    first_of_r r (cancel_refusals (history_r r h) (sender_r r s) d (Some (standing x))) (cancel_refusals h s d (Some (standing x))) (cancelled (with_file m file) (history_r r h) (sender_r r s) d (renamed_resting r x)) (cancelled m h s d x) (order_used_r r m.participants file k h.facts s.who d.order_id, refl, tt) refl

pub cancel_r : (m : Market) (r : Renaming) (file : ParticipantFile) → IsRenamed r m.participants file → (h : History) (s : Sender) (d : CancelMessage) → answer_cancel_of (with_file m file) (history_r r h) (sender_r r s) d (named (history_r r h) (r.place s.who) d.original_id) ≡ answer_r r (answer_cancel_of m h s d (named h s.who d.original_id))
cancel_r m r file k h s d = ap (answer_cancel_of (with_file m file) (history_r r h) (sender_r r s) d) (named_r r m.participants file k h s.who d.original_id) ∙ cancel_of_r m r file k h s d (named h s.who d.original_id)

replaced_r : (m : Market) (r : Renaming) (file : ParticipantFile) (h : History) (s : Sender) (d : ReplaceMessage) (x : Resting) (t : ℕ) → replaced (with_file m file) (history_r r h) (sender_r r s) d (renamed_resting r x) t ≡ answer_r r (replaced m h s d x t)
replaced_r m r file h s d x t =
    let o : OrderFact = replacement d x in
    both_same _ _ _ _ (ap (λ fs. Removed (record { order = x.entry.number; who = r.place s.who; id = d.order_id }) ∷ fs) (entry_facts_r r h.facts o (filled x) t))
    (entry_reports_r m r file h o (filled x) t (λ e n. reply (r.place s.who) (OrderReplaced (record { order = order_report (with_file m file) e o.quantity (filled x) n; original_id = d.original_id }))) (λ n. reply s.who (OrderReplaced (record { order = order_report m (entering h.facts o (filled x) t) o.quantity (filled x) n; original_id = d.original_id }))) (λ n. refl))

replace_of_r : (m : Market) (r : Renaming) (file : ParticipantFile) → IsRenamed r m.participants file → (h : History) (s : Sender) (d : ReplaceMessage) (t : ℕ) (x : Named) → answer_replace_of (with_file m file) (history_r r h) (sender_r r s) d t (named_to r x) ≡ answer_r r (answer_replace_of m h s d t x)
replace_of_r m r file k h s d t IsUnknown = refl
replace_of_r m r file k h s d t (IsHeld x) =
    first_of_r r (held_replace_refusals (history_r r h) (sender_r r s) d) (held_replace_refusals h s d) (replace_refused (sender_r r s) d None IsHeldSide) (replace_refused s d None IsHeldSide) (order_used_r r m.participants file k h.facts s.who d.order_id, refl, tt) refl
replace_of_r m r file k h s d t (IsResting x) =
    first_of_r r (replace_refusals (with_file m file) (history_r r h) (sender_r r s) d (renamed_resting r x) t) (replace_refusals m h s d x t) (replaced (with_file m file) (history_r r h) (sender_r r s) d (renamed_resting r x) t) (replaced m h s d x t)
    (order_used_r r m.participants file k h.facts s.who d.order_id, refl, (refl, refl, (refl, refl, (refl, refl, (refl, refl, (refl, refl, (too_soon_r m r file k h.facts (replacement d x) t, refl, tt)))))))
    (replaced_r m r file h s d x t)

pub replace_r : (m : Market) (r : Renaming) (file : ParticipantFile) → IsRenamed r m.participants file → (h : History) (s : Sender) (d : ReplaceMessage) (t : ℕ) → answer_replace_of (with_file m file) (history_r r h) (sender_r r s) d t (named (history_r r h) (r.place s.who) d.original_id) ≡ answer_r r (answer_replace_of m h s d t (named h s.who d.original_id))
replace_r m r file k h s d t = ap (answer_replace_of (with_file m file) (history_r r h) (sender_r r s) d t) (named_r r m.participants file k h s.who d.original_id) ∙ replace_of_r m r file k h s d t (named h s.who d.original_id)

-- crosses, and held sides as they enter

cross_accepted_r : (m : Market) (r : Renaming) (file : ParticipantFile) (h : History) (s : Sender) (d : CrossMessage) (t : ℕ) → cross_accepted (with_file m file) (history_r r h) (sender_r r s) d t ≡ answer_r r (cross_accepted m h s d t)
cross_accepted_r m r file h s d t =
    let first : Answer = accepted m h (side_order m s.who d (first_side d)) t in
    let first_too : accepted (with_file m file) (history_r r h) (renamed_order r (side_order m s.who d (first_side d))) t ≡ answer_r r first = accepted_r m r file h (side_order m s.who d (first_side d)) t in
    let second : Fact = Held (record { order = side_order m s.who d (second_side d); cross = d.cross_id; due = t + delay_of m.instruments (instrument_of m.instruments d.symbol) }) in
    both_same _ _ _ _ (ap (λ (a : Answer). a.facts ++ (renamed_fact r second ∷ [])) first_too ∙ sym (map-append (renamed_fact r) first.facts (second ∷ []))) (ap (λ (a : Answer). a.replies) first_too)

pub cross_r : (m : Market) (r : Renaming) (file : ParticipantFile) → IsRenamed r m.participants file → (h : History) (s : Sender) (d : CrossMessage) (t : ℕ) → answer_cross (with_file m file) (history_r r h) (sender_r r s) d t ≡ answer_r r (answer_cross m h s d t)
cross_r m r file k h s d t =
    let o : OrderFact = side_order m s.who d (first_side d) in
    first_of_r r (cross_refusals (with_file m file) (history_r r h) (sender_r r s) d t) (cross_refusals m h s d t) (cross_accepted (with_file m file) (history_r r h) (sender_r r s) d t) (cross_accepted m h s d t) (
      refl,
      refl,
      (
        cross_used_r r m.participants file k h.facts s.who d.cross_id,
        cross_duplicate_r m r file k h s d cross.DuplicateCrossId,
        (
          ap₂ (λ a b. a || (b || bytes_eq d.first.order_id d.second.order_id)) (order_used_r r m.participants file k h.facts s.who d.first.order_id) (order_used_r r m.participants file k h.facts s.who d.second.order_id),
          cross_duplicate_r m r file k h s d cross.DuplicateClOrdId,
          (
            refl,
            refl,
            (refl, refl, (refl, refl, (refl, refl, (refl, refl, (too_soon_r m r file k h.facts o t, refl, (side_full_r r h.facts o, refl, (ap (nat_le held_capacity) (ap (λ (xs : List HeldSide). length xs) (held_r r m.participants file k h.facts) ∙ length_mapped (renamed_held r) (held h.facts)), refl, tt))))))),
          ),
        ),
      ),
    )
    (cross_accepted_r m r file h s d t)

pub due_side_r : (m : Market) (r : Renaming) (file : ParticipantFile) → IsRenamed r m.participants file → (h : History) (x : HeldSide) → answer_due (with_file m file) (history_r r h) (renamed_held r x) ≡ answer_r r (answer_due m h x)
due_side_r m r file k h x =
    let entered : first_of (due_refusals (with_file m file) (history_r r h) (renamed_held r x)) (accepted (with_file m file) (history_r r h) (renamed_order r x.order) x.due) ≡ answer_r r (first_of (due_refusals m h x) (accepted m h x.order x.due)) =
    first_of_r r (due_refusals (with_file m file) (history_r r h) (renamed_held r x)) (due_refusals m h x) (accepted (with_file m file) (history_r r h) (renamed_order r x.order) x.due) (accepted m h x.order x.due) (too_soon_r m r file k h.facts x.order x.due, refl, (side_full_r r h.facts x.order, refl, tt)) (accepted_r m r file h x.order x.due) in
    ap (λ (a : Answer). let b : Answer = record { facts = Unheld (record { who = r.place x.order.who; id = x.order.id; cancel = None }) ∷ a.facts; replies = a.replies } in b) entered

-- requests

abbrev pub parties_r : Renaming → List Party → List Party
parties_r r ps = map (λ (p : Party). record p { id = r.name p.id }) ps

abbrev pub request_to : Renaming → RequestMessage → RequestMessage
request_to r d = record d { parties = parties_r r d.parties }

named_recipients_r : (m : Market) (r : Renaming) (file : ParticipantFile) → IsRenamed r m.participants file → (d : RequestMessage) → named_recipients (with_file m file) (request_to r d) ≡ map (option_map r.place) (named_recipients m d)
named_recipients_r m r file k d =
    ap (map (λ (p : Party). find_participant file p.id)) (filter_mapped (λ (p : Party). p.source == 68 && p.role == 35) (λ (p : Party). record p { id = r.name p.id }) (λ (p : Party). p.source == 68 && p.role == 35) (λ p. refl) d.parties)
    ∙ each_mapped (λ (p : Party). find_participant file p.id) (λ (p : Party). find_participant m.participants p.id) (λ (p : Party). record p { id = r.name p.id }) (option_map r.place) (λ p. k.found p.id) (filter (λ (p : Party). p.source == 68 && p.role == 35) d.parties)

recipients_r : (m : Market) (r : Renaming) (file : ParticipantFile) → IsRenamed r m.participants file → (d : RequestMessage) → recipients (with_file m file) (request_to r d) ≡ map r.place (recipients m d)
recipients_r m r file k d = ap (filter_map (λ (o : Option ℕ). o)) (named_recipients_r m r file k d) ∙ picked_mapped (λ (o : Option ℕ). o) (option_map r.place) r.place (λ o. refl) (named_recipients m d)

unknown_r : (m : Market) (r : Renaming) (file : ParticipantFile) → IsRenamed r m.participants file → (d : RequestMessage) → list_any is_none (named_recipients (with_file m file) (request_to r d)) ≡ list_any is_none (named_recipients m d)
unknown_r m r file k d = ap (list_any is_none) (named_recipients_r m r file k d) ∙ any_mapped is_none (option_map r.place) is_none (none_mapped r.place) (named_recipients m d)

among_r : (r : Renaming) (old new_file : ParticipantFile) → IsRenamed r old new_file → (who : ℕ) (ws : List ℕ) → list_any (λ w. w == r.place who) (map r.place ws) ≡ list_any (λ w. w == who) ws
among_r r old new_file k who ws = any_mapped (λ w. w == r.place who) r.place (λ w. w == who) (λ w. same_who r old new_file k w who) ws

twice_r : (r : Renaming) (old new_file : ParticipantFile) → IsRenamed r old new_file → (ws : List ℕ) → has_twice (map r.place ws) ≡ has_twice ws
twice_r r old new_file k [] = refl
twice_r r old new_file k (w ∷ ws) = ap₂ (λ a b. elim a [ true ↦ true | false ↦ b ]) (among_r r old new_file k w ws) (twice_r r old new_file k ws)

apart_r : (r : Renaming) (old new_file : ParticipantFile) → IsRenamed r old new_file → (a b : ℕ) → apart new_file (r.place a) (r.place b) ≡ apart old a b
apart_r r old new_file k a b = ap₂ (λ x y. not x && not y) (same_who r old new_file k a b) (k.pairs a b)

three_apart_r : (r : Renaming) (old new_file : ParticipantFile) → IsRenamed r old new_file → (q a b c : ℕ) → are_unrelated new_file (r.place q) (r.place a) (r.place b) (r.place c) ≡ are_unrelated old q a b c
three_apart_r r old new_file k q a b c =
    ap₂ (λ x y. x && y) (
    ap₂ (λ x y. x && y) (
    ap₂ (λ x y. x && y) (
    ap₂ (λ x y. x && y) (ap₂ (λ x y. x && y) (apart_r r old new_file k q a) (apart_r r old new_file k q b)) (apart_r r old new_file k q c)) (apart_r r old new_file k a b)) (apart_r r old new_file k a c)) (apart_r r old new_file k b c)

three_r : (r : Renaming) (old new_file : ParticipantFile) → IsRenamed r old new_file → (q : ℕ) (ws : List ℕ) → three_unrelated new_file (r.place q) (map r.place ws) ≡ three_unrelated old q ws
three_r r old new_file k q ws =
    any_mapped (λ a. list_any (λ b. list_any (λ c. are_unrelated new_file (r.place q) a b c) (map r.place ws)) (map r.place ws)) r.place (λ a. list_any (λ b. list_any (λ c. are_unrelated old q a b c) ws) ws)
    (λ a. any_mapped (λ b. list_any (λ c. are_unrelated new_file (r.place q) (r.place a) b c) (map r.place ws)) r.place (λ b. list_any (λ c. are_unrelated old q a b c) ws)
    (λ b. any_mapped (λ c. are_unrelated new_file (r.place q) (r.place a) (r.place b) c) r.place (λ c. are_unrelated old q a b c) (three_apart_r r old new_file k q a b) ws) ws) ws

opened_r : (m : Market) (r : Renaming) (file : ParticipantFile) → IsRenamed r m.participants file → (h : History) (s : Sender) (d : RequestMessage) (t : ℕ) → opened (with_file m file) (history_r r h) (sender_r r s) (request_to r d) t ≡ renamed_room r (opened m h s d t)
opened_r m r file k h s d t =
    ap₂ (λ n ws. let x : Room = record { number = n; requester = r.place s.who; id = d.request_id; instrument = instrument_of m.instruments d.symbol; side = d.side; quantity = d.quantity; recipients = ws; end = min (t + request_life_of m.instruments (instrument_of m.instruments d.symbol)) greatest } in x) (next_room_r r h.facts) (recipients_r m r file k d)

sent_r : (m : Market) (r : Renaming) (file : ParticipantFile) (x : Room) (ws : List ℕ) → map (request_sent (with_file m file) (renamed_room r x)) (map r.place ws) ≡ map (renamed_reply r) (map (request_sent m x) ws)
sent_r m r file x ws = each_mapped (request_sent (with_file m file) (renamed_room r x)) (request_sent m x) r.place (renamed_reply r) (λ w. refl) ws

pub request_r : (m : Market) (r : Renaming) (file : ParticipantFile) → IsRenamed r m.participants file → (h : History) (s : Sender) (d : RequestMessage) (t : ℕ) → answer_request (with_file m file) (history_r r h) (sender_r r s) (request_to r d) t ≡ answer_r r (answer_request m h s d t)
request_r m r file k h s d t =
    let ws : recipients (with_file m file) (request_to r d) ≡ map r.place (recipients m d) = recipients_r m r file k d in
    let count : length (recipients (with_file m file) (request_to r d)) ≡ length (recipients m d) = ap (λ (xs : List ℕ). length xs) ws ∙ length_mapped r.place (recipients m d) in
    first_of_r r (request_refusals (with_file m file) (history_r r h) (sender_r r s) (request_to r d) t) (request_refusals m h s d t) (request_accepted (with_file m file) (opened (with_file m file) (history_r r h) (sender_r r s) (request_to r d) t)) (request_accepted m (opened m h s d t)) (
      request_used_r r m.participants file k h.facts s.who d.request_id,
      refl,
      (
        refl,
        refl,
        (
          refl,
          refl,
          (
            unknown_r m r file k d,
            refl,
            (
              ap (list_any (λ w. w == r.place s.who)) ws ∙ among_r r m.participants file k s.who (recipients m d),
              refl,
              (
                ap has_twice ws ∙ twice_r r m.participants file k (recipients m d),
                refl,
                (
                  ap (nat_lt recipient_room) count,
                  refl,
                  (
                    ap (λ n. nat_lt n 3) count,
                    refl,
                    (
                      ap not (ap (three_unrelated file (r.place s.who)) ws ∙ three_r r m.participants file k s.who (recipients m d)),
                      refl,
                      (ap (nat_le open_room) (open_rooms_r r h.facts t), refl, tt),
                    ),
                  ),
                ),
              ),
            ),
          ),
        ),
      ),
    )
    (ap (request_accepted (with_file m file)) (opened_r m r file k h s d t) ∙ both_same _ _ _ _ refl (sent_r m r file (opened m h s d t) (opened m h s d t).recipients))

-- quotes

quoted_r : (r : Renaming) (h : History) (s : Sender) (x : Room) (d : QuoteMessage) → quoted (history_r r h) (sender_r r s) (renamed_room r x) d ≡ renamed_quote r (quoted h s x d)
quoted_r r h s x d = ap (λ n. let q : RoomQuote = record { number = n; room = x.number; maker = r.place s.who; id = d.quote_id; bid = d.bid_price; offer = d.offer_price; end = quote_end x d } in q) (next_quote_r r h.facts)

shown_with_r : (m : Market) (r : Renaming) (file : ParticipantFile) (h : History) (x : Room) (o : Option RoomQuote) → shown_with (with_file m file) (history_r r h) (renamed_room r x) (option_map (renamed_quote r) o) ≡ map (renamed_reply r) (shown_with m h x o)
shown_with_r m r file h x (Some q) = refl
shown_with_r m r file h x None = ap (λ es. reply (r.place x.requester) (BookSnapshot (record { request_id = x.id; symbol = symbol_of m.instruments x.instrument; entries = es })) ∷ []) (picture_r r h.facts x.instrument)

quote_sent_r : (m : Market) (r : Renaming) (file : ParticipantFile) → IsRenamed r m.participants file → (x : Room) (q : RoomQuote) → quote_sent (with_file m file) (renamed_room r x) (renamed_quote r q) ≡ renamed_reply r (quote_sent m x q)
quote_sent_r m r file k x q = ap (λ name. reply (r.place x.requester) (QuoteSent (record { quote = q.number; request_id = x.id; maker = name; symbol = symbol_of m.instruments x.instrument; bid = q.bid; offer = q.offer; quantity = x.quantity; end = q.end }))) (k.named q.maker)

quote_accepted_r : (m : Market) (r : Renaming) (file : ParticipantFile) → IsRenamed r m.participants file → (h : History) (s : Sender) (x : Room) (d : QuoteMessage) → quote_accepted (with_file m file) (history_r r h) (sender_r r s) (renamed_room r x) d ≡ answer_r r (quote_accepted m h s x d)
quote_accepted_r m r file k h s x d =
    let q : RoomQuote = quoted h s x d in
    let status : Reply = quote_status s d (Some (symbol_of m.instruments x.instrument)) state.Accepted in
    let shows : List Reply = shown_with m h x (first_quote h.facts x.number) in
    both_same _ _ _ _ (ap (λ (y : RoomQuote). Quoted y ∷ []) (quoted_r r h s x d))
    (ap₂ (λ ss z. renamed_reply r status ∷ (ss ++ (z ∷ []))) (ap (shown_with (with_file m file) (history_r r h) (renamed_room r x)) (first_quote_r r h.facts x.number) ∙ shown_with_r m r file h x (first_quote h.facts x.number)) (ap (quote_sent (with_file m file) (renamed_room r x)) (quoted_r r h s x d) ∙ quote_sent_r m r file k x q)
    ∙ ap (λ ss. renamed_reply r status ∷ ss) (sym (map-append (renamed_reply r) shows (quote_sent m x q ∷ []))))

quote_of_r : (m : Market) (r : Renaming) (file : ParticipantFile) → IsRenamed r m.participants file → (h : History) (s : Sender) (d : QuoteMessage) (t : ℕ) (o : Option Room) → answer_quote_of (with_file m file) (history_r r h) (sender_r r s) d t (option_map (renamed_room r) o) ≡ answer_r r (answer_quote_of m h s d t o)
quote_of_r m r file k h s d t None = refl
quote_of_r m r file k h s d t (Some x) =
    first_of_r r (quote_refusals (with_file m file) (history_r r h) (sender_r r s) (renamed_room r x) d t) (quote_refusals m h s x d t) (quote_accepted (with_file m file) (history_r r h) (sender_r r s) (renamed_room r x) d) (quote_accepted m h s x d)
    (ap not (among_r r m.participants file k s.who x.recipients), refl, (ap not (open_r r h.facts t x), refl, (refl, refl, (quote_used_r r m.participants file k h.facts s.who d.quote_id, refl, (refl, refl, (refl, refl, (refl, refl, (refl, refl, tt))))))))
    (quote_accepted_r m r file k h s x d)

pub quote_r : (m : Market) (r : Renaming) (file : ParticipantFile) → IsRenamed r m.participants file → (h : History) (s : Sender) (d : QuoteMessage) (t : ℕ) → answer_quote_of (with_file m file) (history_r r h) (sender_r r s) d t (find_room (facts_r r h.facts) d.request_id) ≡ answer_r r (answer_quote_of m h s d t (find_room h.facts d.request_id))
quote_r m r file k h s d t = ap (answer_quote_of (with_file m file) (history_r r h) (sender_r r s) d t) (find_room_r r h.facts d.request_id) ∙ quote_of_r m r file k h s d t (find_room h.facts d.request_id)

-- withdrawals

emitted_of : (m : Market) (r : Renaming) (file : ParticipantFile) (q : RoomQuote) (o : Option Room)
    → (elim (option_map (renamed_room r) o) [ None ↦ [] | Some x ↦ to_maker (with_file m file) x (renamed_quote r q) state.Withdrawn ∷ to_requester (with_file m file) x (renamed_quote r q) state.Withdrawn ∷ [] ]) ≡ map (renamed_reply r) (elim o [ None ↦ [] | Some x ↦ to_maker m x q state.Withdrawn ∷ to_requester m x q state.Withdrawn ∷ [] ])
emitted_of m r file q None = refl
emitted_of m r file q (Some x) = refl

both_emitted_r : (m : Market) (r : Renaming) (file : ParticipantFile) (h : History) (q : RoomQuote) → both_emitted (with_file m file) (history_r r h) (renamed_quote r q) ≡ map (renamed_reply r) (both_emitted m h q)
both_emitted_r m r file h q =
    ap (λ (o : Option Room). elim o [ None ↦ [] | Some x ↦ to_maker (with_file m file) x (renamed_quote r q) state.Withdrawn ∷ to_requester (with_file m file) x (renamed_quote r q) state.Withdrawn ∷ [] ]) (room_by_number_r r h.facts q.room)
    ∙ emitted_of m r file q (room_by_number h.facts q.room)

emitted_r : (m : Market) (r : Renaming) (file : ParticipantFile) (h : History) (qs : List RoomQuote) → flat_map (both_emitted (with_file m file) (history_r r h)) (map (renamed_quote r) qs) ≡ map (renamed_reply r) (flat_map (both_emitted m h) qs)
emitted_r m r file h [] = refl
emitted_r m r file h (q ∷ qs) = ap₂ (λ xs ys. xs ++ ys) (both_emitted_r m r file h q) (emitted_r m r file h qs) ∙ sym (map-append (renamed_reply r) (both_emitted m h q) (flat_map (both_emitted m h) qs))

withdrawn_all_r : (m : Market) (r : Renaming) (file : ParticipantFile) (h : History) (qs : List RoomQuote) → withdrawn_all (with_file m file) (history_r r h) (map (renamed_quote r) qs) ≡ answer_r r (withdrawn_all m h qs)
withdrawn_all_r m r file h qs = both_same _ _ _ _ (each_mapped (λ (q : RoomQuote). Withdrawn (record { quote = q.number })) (λ (q : RoomQuote). Withdrawn (record { quote = q.number })) (renamed_quote r) (renamed_fact r) (λ q. refl) qs) (emitted_r m r file h qs)

withdrawn_or_r : (m : Market) (r : Renaming) (file : ParticipantFile) (h : History) (x y : Answer) (qs : List RoomQuote) → x ≡ answer_r r y → withdrawn_or (with_file m file) (history_r r h) x (map (renamed_quote r) qs) ≡ answer_r r (withdrawn_or m h y qs)
withdrawn_or_r m r file h x y [] e = e
withdrawn_or_r m r file h x y (q ∷ qs) e = withdrawn_all_r m r file h (q ∷ qs)

withdraw_one_r : (m : Market) (r : Renaming) (file : ParticipantFile) → IsRenamed r m.participants file → (h : History) (s : Sender) (t : ℕ) (id : Option (List ℕ)) → withdraw_one (with_file m file) (history_r r h) (sender_r r s) t id ≡ answer_r r (withdraw_one m h s t id)
withdraw_one_r m r file k h s t None = refl
withdraw_one_r m r file k h s t (Some id) =
    ap (λ qs. withdrawn_or (with_file m file) (history_r r h) (not_found (sender_r r s) (Some id)) (filter (λ (q : RoomQuote). bytes_eq q.id id) qs)) (live_quotes_r r m.participants file k h.facts s.who t)
    ∙ (ap (withdrawn_or (with_file m file) (history_r r h) (not_found (sender_r r s) (Some id))) (filter_mapped (λ (q : RoomQuote). bytes_eq q.id id) (renamed_quote r) (λ (q : RoomQuote). bytes_eq q.id id) (λ q. refl) (live_quotes h.facts s.who t))
    ∙ withdrawn_or_r m r file h (not_found (sender_r r s) (Some id)) (not_found s (Some id)) (filter (λ (q : RoomQuote). bytes_eq q.id id) (live_quotes h.facts s.who t)) refl)

pub withdrawal_of_r : (m : Market) (r : Renaming) (file : ParticipantFile) → IsRenamed r m.participants file → (h : History) (s : Sender) (d : WithdrawalMessage) (t : ℕ) (one all : Bool) → answer_withdrawal_of (with_file m file) (history_r r h) (sender_r r s) d t one all ≡ answer_r r (answer_withdrawal_of m h s d t one all)
withdrawal_of_r m r file k h s d t true all = withdraw_one_r m r file k h s t d.quote_id
withdrawal_of_r m r file k h s d t false true =
    ap (withdrawn_or (with_file m file) (history_r r h) (not_found (sender_r r s) None)) (live_quotes_r r m.participants file k h.facts s.who t)
    ∙ withdrawn_or_r m r file h (not_found (sender_r r s) None) (not_found s None) (live_quotes h.facts s.who t) refl
withdrawal_of_r m r file k h s d t false false = refl

-- quote responses

price_r : (r : Renaming) (side : Side) (q : RoomQuote) → price_for side (renamed_quote r q) ≡ price_for side q
price_r r Buy q = refl
price_r r Sell q = refl

hit_trade_r : (r : Renaming) (s : Sender) (x : Room) (q : RoomQuote) (side : Side) (p : ℤ) (t : ℕ) → hit_trade (sender_r r s) (renamed_room r x) (renamed_quote r q) side p t ≡ renamed_trade r (hit_trade s x q side p t)
hit_trade_r r s x q side p t = ap₂ (λ a b. let y : Trade = record (hit_trade s x q side p t) { buyer = a; seller = b } in y) (buyer_r r side s.who q.maker) (buyer_r r side q.maker s.who)

room_traded_r : (m : Market) (r : Renaming) (file : ParticipantFile) (h : History) (s : Sender) (x : Room) (q : RoomQuote) (d : ResponseMessage) (side : Side) (p : ℤ) (t : ℕ) → room_traded (with_file m file) (history_r r h) (sender_r r s) (renamed_room r x) (renamed_quote r q) d side p t ≡ answer_r r (room_traded m h s x q d side p t)
room_traded_r m r file h s x q d side p t =
    both_same _ _ _ _ (ap (λ (y : Trade). Traded y ∷ Closed (record { room = x.number }) ∷ []) (hit_trade_r r s x q side p t))
    (ap (λ n. numbered h.reports (room_report (with_file m file) (renamed_room r x) n (r.place s.who) side p (Some d.response_id) ∷ room_report (with_file m file) (renamed_room r x) n (r.place q.maker) (opposite side) p None ∷ [])) (next_trade_r r h.facts))

hit_at_r : (m : Market) (r : Renaming) (file : ParticipantFile) (h : History) (s : Sender) (x : Room) (q : RoomQuote) (d : ResponseMessage) (t : ℕ) (side : Side) (p : Option ℤ) → answer_hit_at (with_file m file) (history_r r h) (sender_r r s) (renamed_room r x) (renamed_quote r q) d t side p ≡ answer_r r (answer_hit_at m h s x q d t side p)
hit_at_r m r file h s x q d t side None = refl
hit_at_r m r file h s x q d t side (Some p) = room_traded_r m r file h s x q d side p t

hit_r : (m : Market) (r : Renaming) (file : ParticipantFile) (h : History) (s : Sender) (x : Room) (q : RoomQuote) (d : ResponseMessage) (t : ℕ) (side : Option Side) → answer_hit (with_file m file) (history_r r h) (sender_r r s) (renamed_room r x) (renamed_quote r q) d t side ≡ answer_r r (answer_hit m h s x q d t side)
hit_r m r file h s x q d t None = refl
hit_r m r file h s x q d t (Some side) = ap (answer_hit_at (with_file m file) (history_r r h) (sender_r r s) (renamed_room r x) (renamed_quote r q) d t side) (price_r r side q) ∙ hit_at_r m r file h s x q d t side (price_for side q)

response_in_r : (m : Market) (r : Renaming) (file : ParticipantFile) → IsRenamed r m.participants file → (h : History) (s : Sender) (q : RoomQuote) (d : ResponseMessage) (t : ℕ) (o : Option Room) → answer_response_in (with_file m file) (history_r r h) (sender_r r s) (renamed_quote r q) d t (option_map (renamed_room r) o) ≡ answer_r r (answer_response_in m h s q d t o)
response_in_r m r file k h s q d t None = refl
response_in_r m r file k h s q d t (Some x) =
    first_of_r r (response_refusals (with_file m file) (history_r r h) (sender_r r s) (renamed_room r x) (renamed_quote r q) d t) (response_refusals m h s x q d t) (answer_hit (with_file m file) (history_r r h) (sender_r r s) (renamed_room r x) (renamed_quote r q) d t (taken_side x.side d.side)) (answer_hit m h s x q d t (taken_side x.side d.side)) (
      ap not (same_who r m.participants file k x.requester s.who),
      refl,
      (ap₂ (λ a b. a || b) (closed_r r h.facts x.number) (replaced_quote_r r m.participants file k h.facts q), refl, (withdrawn_r r h.facts q.number, refl, (refl, refl, (refl, refl, (refl, refl, tt))))),
    )
    (hit_r m r file h s x q d t (taken_side x.side d.side))

response_to_r : (m : Market) (r : Renaming) (file : ParticipantFile) → IsRenamed r m.participants file → (h : History) (s : Sender) (d : ResponseMessage) (t : ℕ) (o : Option RoomQuote) → answer_response_to (with_file m file) (history_r r h) (sender_r r s) d t (option_map (renamed_quote r) o) ≡ answer_r r (answer_response_to m h s d t o)
response_to_r m r file k h s d t None = refl
response_to_r m r file k h s d t (Some q) = ap (answer_response_in (with_file m file) (history_r r h) (sender_r r s) (renamed_quote r q) d t) (room_by_number_r r h.facts q.room) ∙ response_in_r m r file k h s q d t (room_by_number h.facts q.room)

pub response_r : (m : Market) (r : Renaming) (file : ParticipantFile) → IsRenamed r m.participants file → (h : History) (s : Sender) (d : ResponseMessage) (t : ℕ) → answer_response (with_file m file) (history_r r h) (sender_r r s) d t ≡ answer_r r (answer_response m h s d t)
response_r m r file k h s d t =
    first_of_r r (kind_refusals (sender_r r s) d) (kind_refusals s d) (answer_response_to (with_file m file) (history_r r h) (sender_r r s) d t (find_quote (facts_r r h.facts) d.quote_id)) (answer_response_to m h s d t (find_quote h.facts d.quote_id)) (refl, refl, tt)
    (ap (answer_response_to (with_file m file) (history_r r h) (sender_r r s) d t) (find_quote_r r h.facts d.quote_id) ∙ response_to_r m r file k h s d t (find_quote h.facts d.quote_id))

-- snapshots

pub market_data_r : (m : Market) (r : Renaming) (file : ParticipantFile) (h : History) (s : Sender) (d : MarketDataMessage) → answer_market_data (with_file m file) (history_r r h) (sender_r r s) d ≡ answer_r r (answer_market_data m h s d)
market_data_r m r file h s d =
    first_of_r r (market_data_refusals (with_file m file) (sender_r r s) d) (market_data_refusals m s d) (market_data (with_file m file) (history_r r h) (sender_r r s) d) (market_data m h s d) (refl, refl, (refl, refl, (refl, refl, tt)))
    (both_same _ _ _ _ refl (ap (λ es. reply (r.place s.who) (BookSnapshot (record { request_id = d.request_id; symbol = d.symbol; entries = es })) ∷ []) (picture_r r h.facts (instrument_of m.instruments d.symbol))))
