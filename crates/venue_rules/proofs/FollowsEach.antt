use Rattle.std.proofs.Common.{◌≡◌, refl, sym, ap, ◌∙◌, subst, inl, inr, ℕ, ◌+◌, Bool, true, false, cond, not, ◌&&◌, ◌||◌, nat_lt, List, [], ◌∷◌, ◌++◌, map, length, Option, Some, None, arith, is_some, ◌==◌, eqb-true, eq-eqb, bytes_eq, unwrap_or}
use Rattle.std.specs.List.{list_any}
use Rattle.std.proofs.Math.Nat.{min-le_right}
use Rattle.std.proofs.lemmas.Bool.{true≢false, not-false}
use Rattle.std.proofs.lemmas.List.Folds.{Any-from_list_any}
use Rattle.fix_dictionary.specs.declared.messages.App.{App}
use Rattle.fix_dictionary.specs.declared.messages.App.TheVariants.{QuoteRequest, Quote, QuoteCancel, QuoteResponse, QuoteStatusReport, QuoteRequestReject, NewOrderSingle, OrderCancelRequest, OrderCancelReplaceRequest, NewOrderCross, ExecutionReport, OrderCancelReject, MarketDataRequest, MarketDataSnapshot, MarketDataRequestReject, BusinessMessageReject, Unsupported}
use Rattle.fix_dictionary.specs.declared.messages.NewOrderSingle.{NewOrderSingle as OrderMessage}
use Rattle.fix_dictionary.specs.declared.messages.OrderCancelRequest.{OrderCancelRequest as CancelMessage}
use Rattle.fix_dictionary.specs.declared.messages.OrderCancelReplaceRequest.{OrderCancelReplaceRequest as ReplaceMessage}
use Rattle.fix_dictionary.specs.declared.messages.NewOrderCross.{NewOrderCross as CrossMessage}
use Rattle.fix_dictionary.specs.declared.messages.QuoteRequest.{QuoteRequest as RequestMessage}
use Rattle.fix_dictionary.specs.declared.messages.Quote.{Quote as QuoteMessage}
use Rattle.fix_dictionary.specs.declared.messages.QuoteCancel.{QuoteCancel as WithdrawalMessage}
use Rattle.fix_dictionary.specs.declared.messages.QuoteResponse.{QuoteResponse as ResponseMessage}
use Rattle.fix_dictionary.specs.declared.messages.MarketDataRequest.{MarketDataRequest as MarketDataMessage}
use Rattle.venue_rules.specs.declared.facts.Fact.TheVariants.{Removed, Unheld, Withdrawn}
use Rattle.venue_rules.specs.declared.facts.Fact.{Fact}
use Rattle.venue_rules.specs.declared.facts.Entry.{Entry}
use Rattle.venue_rules.specs.declared.facts.OrderFact.{OrderFact}
use Rattle.venue_rules.specs.declared.facts.HeldSide.{HeldSide}
use Rattle.venue_rules.specs.declared.facts.Room.{Room}
use Rattle.venue_rules.specs.declared.facts.RoomQuote.{RoomQuote}
use Rattle.venue_rules.specs.Market.{Market}
use Rattle.venue_rules.specs.Facts.{History, entries, rooms, quotes, next_order}
use Rattle.venue_rules.specs.Book.{Resting, Fill, fills, filled, left, rests, opposite, is_side, too_soon, is_too_soon, find_order, with_left}
use Rattle.venue_rules.specs.Entering.{entering, entry_facts}
use Rattle.venue_rules.specs.Answer.{Answer, Sender}
use Rattle.fix_dictionary.specs.declared.values.Side.{Side}
use Rattle.fix_dictionary.specs.declared.values.Side.TheVariants.{Buy, Sell}
use Rattle.venue_rules.specs.declared.facts.Removal.{Removal}
use Rattle.venue_rules.specs.declared.replies.Reply.{Reply}
use Rattle.venue_rules.specs.declared.replies.QuoteState.TheVariants.{Accepted}
use Rattle.participants.specs.Relations.{three_unrelated}
use Rattle.instruments.specs.Listing.{symbol_of}
use Rattle.std.proofs.Common.{ℤ}
use Rattle.venue_rules.specs.Delay.{due, find_held}
use Rattle.venue_rules.specs.declared.facts.Release.{Release}
use Rattle.venue_rules.specs.Orders.{accepted, answer_order, order_asked, order_refusals}
use Rattle.venue_rules.specs.Changes.{Named, IsResting, IsHeld, IsUnknown, named, standing, answer_cancel_of, answer_replace_of, cancel_refusals, held_replace_refusals, replace_refusals, replace_refused, cancelled, held_cancelled, replaced, replacement}
use Rattle.venue_rules.specs.declared.refusals.ChangeRefusal.TheVariants.{HeldSide as IsHeldSide}
use Rattle.venue_rules.specs.Crosses.{answer_cross, cross_accepted, cross_refusals, side_order, first_side, due_refusals, answer_due}
use Rattle.venue_rules.specs.Requests.{answer_request, request_accepted, request_refusals, opened}
use Rattle.venue_rules.specs.Quotes.{answer_quote_of, quote_refusals, quote_accepted, quoted, quote_status, shown_with, quote_sent}
use Rattle.venue_rules.specs.Withdrawals.{answer_withdrawal_of, withdraw_one, withdrawn_or, withdrawn_all, not_found}
use Rattle.venue_rules.specs.Responses.{answer_response, answer_response_to, answer_response_in, answer_hit, answer_hit_at, response_refusals, kind_refusals, taken_side, price_for, hit_trade}
use Rattle.venue_rules.specs.MarketData.{answer_market_data, market_data_refusals, market_data}
use Rattle.venue_rules.specs.Rooms.{find_room, find_quote, room_by_number, printed, is_closed, is_replaced, is_withdrawn, is_live, first_quote}
use Rattle.venue_rules.specs.Answers.{answer_app}
use Rattle.venue_rules.specs.Run.{Input, Message, Tick, answer_input, answer_due_of, replies_to}
use Rattle.venue_rules.specs.Lawful.{IsHitOf, shown_then}
use Rattle.venue_rules.proofs.Members.{In, Places, Places-one, In-find, find-none, In-from_Contains}
use Rattle.venue_rules.proofs.Follows.{Follows, Each, Each-append, Keeps, first_of-Keeps}
use Rattle.venue_rules.proofs.Ranks.{with_left_from}
use Rattle.venue_rules.proofs.Lefts.{entries_removed, resting-removed, entries_unheld, resting-unheld, side_opposite}
use Rattle.venue_rules.proofs.Trading.{IsFresh, Numbered, fresh-quiet, not_past}
use Rattle.venue_rules.proofs.Fills.{entry-Each}
use Rattle.venue_rules.proofs.Hits.{found-is_live}

-- The facts of each answer follow.

-- orders

no_fill : (r : Option Fill) → is_some r ≡ false → r ≡ None
no_fill None h = refl
no_fill (Some f) h = absurd (true≢false h)

none_too_soon : (m : Market) (facts : List Fact) (o : OrderFact) (t : ℕ) → is_some (too_soon m facts o t) ≡ false → (f : Fill) → In f (fills facts o) → is_too_soon m o t f ≡ false
none_too_soon m facts o t h = find-none (is_too_soon m o t) (fills facts o) (no_fill (too_soon m facts o t) h)

next_fresh : (facts : List Fact) → Numbered facts → IsFresh facts (next_order facts)
next_fresh facts known = known.fresh (next_order facts) (omega arith)

accepted-Keeps : (m : Market) (h : History) (o : OrderFact) (t : ℕ) → Numbered h.facts → is_some (too_soon m h.facts o t) ≡ false → Keeps m h.facts (accepted m h o t)
accepted-Keeps m h o t places soon = record { each = entry-Each m (accepted m h o t).replies h.facts h.facts (entering h.facts o 0 t) places.places refl (next_fresh h.facts places) refl (none_too_soon m h.facts o t soon) }

order-Keeps : (m : Market) (h : History) (s : Sender) (d : OrderMessage) (t : ℕ) → Numbered h.facts → Keeps m h.facts (answer_order m h s d t)
order-Keeps m h s d t places = first_of-Keeps m h.facts (order_refusals m h s d t) (accepted m h (order_asked m s.who d) t) (tt, (tt, (tt, (tt, (tt, (tt, (tt, (tt, tt)))))))) (λ n. accepted-Keeps m h (order_asked m s.who d) t places n.1.1.1.1.1.1.0)

-- cancels and replacements

-- a named resting order is one of the entries
abbrev pub IsEntered : List Fact → Named → Type 0
IsEntered facts (IsResting r) = In r.entry (entries facts)
IsEntered facts (IsHeld k) = Unit {0}
IsEntered facts IsUnknown = Unit {0}

held_entered : (facts : List Fact) (k : Option HeldSide) → IsEntered facts (elim k [ Some k ↦ IsHeld k | None ↦ IsUnknown ])
held_entered facts None = tt
held_entered facts (Some k) = tt

order_entered : (facts : List Fact) (r : Option Resting) (k : Option HeldSide) → ((x : Resting) → r ≡ Some x → In x.entry (entries facts)) → IsEntered facts (elim r [ Some r ↦ IsResting r | None ↦ elim k [ Some k ↦ IsHeld k | None ↦ IsUnknown ] ])
order_entered facts (Some r) k h = h r refl
order_entered facts None k h = held_entered facts k

found_entered : (facts : List Fact) (who : ℕ) (id : List ℕ) (x : Resting) → find_order facts who id ≡ Some x → In x.entry (entries facts)
found_entered facts who id x e =
    (with_left_from (left facts) (entries facts) x (In-find (λ (r : Resting). rests r.entry.order.instrument r.entry.order.side r && (r.entry.order.who == who && bytes_eq r.entry.order.id id)) (map (with_left (left facts)) (entries facts)) x e).0).0

pub named-IsEntered : (h : History) (who : ℕ) (id : List ℕ) → IsEntered h.facts (named h who id)
named-IsEntered h who id = order_entered h.facts (find_order h.facts who id) (find_held h.facts who id) (found_entered h.facts who id)

cancel_of-Keeps : (m : Market) (h : History) (s : Sender) (d : CancelMessage) (n : Named) → IsEntered h.facts n → Keeps m h.facts (answer_cancel_of m h s d n)
cancel_of-Keeps m h s d IsUnknown i = record { each = tt }
cancel_of-Keeps m h s d (IsHeld k) i = first_of-Keeps m h.facts (cancel_refusals h s d None) (held_cancelled m h s d k) (tt, tt) (λ n. record { each = (tt, tt) })
cancel_of-Keeps m h s d (IsResting r) i = first_of-Keeps m h.facts (cancel_refusals h s d (Some (standing r))) (cancelled m h s d r) (tt, tt) (λ n. record { each = ((r.entry, i, refl), tt) })

replaced-Each : (m : Market) (rs : List Reply) (h : History) (r : Resting) (x : Removal) (o : OrderFact) (n t : ℕ) → Numbered h.facts → In r.entry (entries h.facts) → x.order ≡ r.entry.number → o.side ≡ r.entry.order.side → is_some (too_soon m h.facts o t) ≡ false
    → Each (Follows m rs) (h.facts ++ (Removed x ∷ [])) (entry_facts (entering h.facts o n t) (fills h.facts o))
replaced-Each m rs h r x o n t places mine e side soon =
    entry-Each m rs (h.facts ++ (Removed x ∷ [])) h.facts (entering h.facts o n t) (subst (Places (λ (y : Entry). y.number) 0) (sym (entries_removed h.facts x)) places.places) (ap (λ es. length es + 1) (sym (entries_removed h.facts x))) fresh (resting-removed h.facts x o.instrument (opposite o.side) other) (none_too_soon m h.facts o t soon)
  where
    fresh : IsFresh (h.facts ++ (Removed x ∷ [])) (next_order h.facts)
    fresh = fresh-quiet h.facts (Removed x) (next_order h.facts) (next_fresh h.facts places) (not_past h.facts r.entry x.order (next_order h.facts) places.places mine (sym e) (omega arith)) refl

    other : (y : Entry) → In y (entries h.facts) → y.number ≡ x.order → is_side y.order.side (opposite o.side) ≡ false
    other y i k =
        let same : y ≡ r.entry = Places-one (λ (z : Entry). z.number) 0 (entries h.facts) places.places y r.entry i mine (k ∙ e) in
        ap (λ z. is_side z (opposite o.side)) (ap (λ (z : Entry). z.order.side) same ∙ sym side) ∙ side_opposite o.side

replace_of-Keeps : (m : Market) (h : History) (s : Sender) (d : ReplaceMessage) (t : ℕ) (n : Named) → Numbered h.facts → IsEntered h.facts n → Keeps m h.facts (answer_replace_of m h s d t n)
replace_of-Keeps m h s d t IsUnknown places i = record { each = tt }
replace_of-Keeps m h s d t (IsHeld k) places i = first_of-Keeps m h.facts (held_replace_refusals h s d) (replace_refused s d None IsHeldSide) (tt, tt) (λ n. record { each = tt })
replace_of-Keeps m h s d t (IsResting r) places i =
    first_of-Keeps m h.facts (replace_refusals m h s d r t) (replaced m h s d r t) (tt, (tt, (tt, (tt, (tt, (tt, (tt, tt))))))) (λ n. record { each = ((r.entry, i, refl), replaced-Each m (replaced m h s d r t).replies h r (record { order = r.entry.number; who = s.who; id = d.order_id }) (replacement d r) (filled r) t places i refl refl n.1.1.1.1.1.1.0) })

-- crosses, and held sides as they enter

cross_accepted-Keeps : (m : Market) (h : History) (s : Sender) (d : CrossMessage) (t : ℕ) → Numbered h.facts → is_some (too_soon m h.facts (side_order m s.who d (first_side d)) t) ≡ false → Keeps m h.facts (cross_accepted m h s d t)
cross_accepted-Keeps m h s d t places soon =
    let first = accepted m h (side_order m s.who d (first_side d)) t in
    record { each = Each-append (Follows m first.replies) h.facts first.facts _ (accepted-Keeps m h (side_order m s.who d (first_side d)) t places soon).each (tt, tt) }

cross-Keeps : (m : Market) (h : History) (s : Sender) (d : CrossMessage) (t : ℕ) → Numbered h.facts → Keeps m h.facts (answer_cross m h s d t)
cross-Keeps m h s d t places = first_of-Keeps m h.facts (cross_refusals m h s d t) (cross_accepted m h s d t) (tt, (tt, (tt, (tt, (tt, (tt, (tt, (tt, (tt, (tt, (tt, tt))))))))))) (λ n. cross_accepted-Keeps m h s d t places n.1.1.1.1.1.1.1.1.0)

released-Keeps : (m : Market) (h : History) (k : HeldSide) (u : Release) → Numbered h.facts → is_some (too_soon m h.facts k.order k.due) ≡ false → Keeps m (h.facts ++ (Unheld u ∷ [])) (accepted m h k.order k.due)
released-Keeps m h k u places soon =
    record {
      each = entry-Each m (accepted m h k.order k.due).replies (h.facts ++ (Unheld u ∷ [])) h.facts (entering h.facts k.order 0 k.due) (subst (Places (λ (y : Entry). y.number) 0) (sym (entries_unheld h.facts u)) places.places) (ap (λ es. length es + 1) (sym (entries_unheld h.facts u))) (fresh-quiet h.facts (Unheld u) (next_order h.facts) (next_fresh h.facts places) refl refl) (resting-unheld h.facts u k.order.instrument (opposite k.order.side)) (none_too_soon m h.facts k.order k.due soon);
    }

due-Keeps : (m : Market) (h : History) (k : HeldSide) → Numbered h.facts → Keeps m h.facts (answer_due m h k)
due-Keeps m h k places =
    let u : Release = record { who = k.order.who; id = k.order.id; cancel = None } in
    record { each = (tt, (first_of-Keeps m (h.facts ++ (Unheld u ∷ [])) (due_refusals m h k) (accepted m h k.order k.due) (tt, (tt, tt)) (λ n. released-Keeps m h k u places n.0)).each) }

-- requests

request-Keeps : (m : Market) (h : History) (s : Sender) (d : RequestMessage) (t : ℕ) → Keeps m h.facts (answer_request m h s d t)
request-Keeps m h s d t = first_of-Keeps m h.facts (request_refusals m h s d t) (request_accepted m (opened m h s d t)) (tt, (tt, (tt, (tt, (tt, (tt, (tt, (tt, (tt, (tt, tt)))))))))) (λ n. record { each = ((refl, not-false (three_unrelated m.participants s.who (opened m h s d t).recipients) n.1.1.1.1.1.1.1.1.0, n.1.1.1.1.0), tt) })

-- quotes

among : (rs : List ℕ) (w : ℕ) → list_any (λ p. p == w) rs ≡ true → In w rs
among rs w h = let a = Any-from_list_any (λ p. p == w) rs h in subst (λ x. In x rs) (eqb-true a.1 w a.4) (In-from_Contains rs a.1 (a.0, a.2, a.3))

emitted_alone : (w : ℕ) (x : Reply) (b : Bool) (rs : List Reply) → (earlier : List Reply) × (cond b (x ∷ rs) rs ≡ earlier ++ rs)
emitted_alone w x true rs = (x ∷ [], refl)
emitted_alone w x false rs = ([], refl)

emitted_both : (w : ℕ) (a b : Reply) → a.to ≡ w → b.to ≡ w → replies_to w (a ∷ b ∷ []) ≡ a ∷ b ∷ []
emitted_both w a b ha hb = both (a.to == w) (b.to == w) (eq-eqb a.to w ha) (eq-eqb b.to w hb)
  where
    both : (x y : Bool) → x ≡ true → y ≡ true → cond x (a ∷ cond y (b ∷ []) []) (cond y (b ∷ []) []) ≡ a ∷ b ∷ []
    both true true h k = refl
    both true false h k = absurd (true≢false (sym k))
    both false y h k = absurd (true≢false (sym h))

emitted_then : (w : ℕ) (x a b : Reply) → a.to ≡ w → b.to ≡ w → (earlier later : List Reply) × (replies_to w (x ∷ a ∷ b ∷ []) ≡ earlier ++ (a ∷ b ∷ later))
emitted_then w x a b ha hb =
    let k = emitted_alone w x (x.to == w) (replies_to w (a ∷ b ∷ [])) in
    (k.0, [], k.1 ∙ ap (λ rs. k.0 ++ rs) (emitted_both w a b ha hb))

first-IsShownBefore : (m : Market) (h : History) (s : Sender) (r : Room) (d : QuoteMessage) (o : Option RoomQuote) → o ≡ None
    → (earlier later : List Reply) × (replies_to r.requester (quote_status s d (Some (symbol_of m.instruments r.instrument)) Accepted ∷ shown_with m h r o ++ quote_sent m r (quoted h s r d) ∷ []) ≡ earlier ++ (shown_then m h.facts r ∷ quote_sent m r (quoted h s r d) ∷ later))
first-IsShownBefore m h s r d None e = emitted_then r.requester (quote_status s d (Some (symbol_of m.instruments r.instrument)) Accepted) (shown_then m h.facts r) (quote_sent m r (quoted h s r d)) refl refl
first-IsShownBefore m h s r d (Some q) e = absurd (no_quote q e)
  where
    no_quote : (x : RoomQuote) → Some x ≡ None → ⊥
    no_quote x k = cc

quote_of-Keeps : (m : Market) (h : History) (s : Sender) (d : QuoteMessage) (t : ℕ) (r : Option Room) → ((x : Room) → r ≡ Some x → In x (rooms h.facts)) → Keeps m h.facts (answer_quote_of m h s d t r)
quote_of-Keeps m h s d t None i = record { each = tt }
quote_of-Keeps m h s d t (Some r) i =
    first_of-Keeps m h.facts (quote_refusals m h s r d t) (quote_accepted m h s r d) (tt, (tt, (tt, (tt, (tt, (tt, (tt, (tt, tt)))))))) (λ n. record {
      each = (
        (r, refl, i r refl, refl, among r.recipients s.who (not-false (list_any (λ p. p == s.who) r.recipients) n.0), first-IsShownBefore m h s r d (first_quote h.facts r.number), min-le_right (unwrap_or d.valid_until r.end) r.end),
        tt,
      );
    })

quote-Keeps : (m : Market) (h : History) (s : Sender) (d : QuoteMessage) (t : ℕ) → Keeps m h.facts (answer_quote_of m h s d t (find_room h.facts d.request_id))
quote-Keeps m h s d t = quote_of-Keeps m h s d t (find_room h.facts d.request_id) (λ x e. (In-find (λ (r : Room). bytes_eq (printed 82 r.number) d.request_id) (rooms h.facts) x e).0)

-- withdrawals

withdrawn-Each : (m : Market) (rs : List Reply) (before : List Fact) (qs : List RoomQuote) → Each (Follows m rs) before (map (λ (q : RoomQuote). Withdrawn (record { quote = q.number })) qs)
withdrawn-Each m rs before [] = tt
withdrawn-Each m rs before (q ∷ qs) = (tt, withdrawn-Each m rs (before ++ (Withdrawn (record { quote = q.number }) ∷ [])) qs)

withdrawn_or-Keeps : (m : Market) (h : History) (x : Answer) (qs : List RoomQuote) → Keeps m h.facts x → Keeps m h.facts (withdrawn_or m h x qs)
withdrawn_or-Keeps m h x [] k = k
withdrawn_or-Keeps m h x (q ∷ qs) k = record { each = withdrawn-Each m (withdrawn_all m h (q ∷ qs)).replies h.facts (q ∷ qs) }

withdraw_one-Keeps : (m : Market) (h : History) (s : Sender) (t : ℕ) (id : Option (List ℕ)) → Keeps m h.facts (withdraw_one m h s t id)
withdraw_one-Keeps m h s t None = record { each = tt }
withdraw_one-Keeps m h s t (Some id) = withdrawn_or-Keeps m h (not_found s (Some id)) _ (record { each = tt })

withdrawal_of-Keeps : (m : Market) (h : History) (s : Sender) (d : WithdrawalMessage) (t : ℕ) (one all : Bool) → Keeps m h.facts (answer_withdrawal_of m h s d t one all)
withdrawal_of-Keeps m h s d t true all = withdraw_one-Keeps m h s t d.quote_id
withdrawal_of-Keeps m h s d t false true = withdrawn_or-Keeps m h (not_found s None) _ (record { each = tt })
withdrawal_of-Keeps m h s d t false false = record { each = tt }

-- quote responses

-- the quote is in the room, both exist, the room is the sender's, and the quote may be hit
record Hit (facts : List Fact) (s : Sender) (r : Room) (q : RoomQuote) (t : ℕ) : Type 0 where
  room : In r (rooms facts)
  quote : In q (quotes facts)
  number : r.number ≡ q.room
  mine : r.requester ≡ s.who
  live : is_live facts t q ≡ true

-- buyer, seller and price
hit_of : (s : Sender) (r : Room) (q : RoomQuote) (side : Side) (p : ℤ) (t : ℕ) → r.requester ≡ s.who → price_for side q ≡ Some p → IsHitOf (hit_trade s r q side p t) r q
hit_of s r q Buy p t mine at = inl (sym mine, refl, at)
hit_of s r q Sell p t mine at = inr (refl, sym mine, at)

hit_at-Keeps : (m : Market) (h : History) (s : Sender) (r : Room) (q : RoomQuote) (d : ResponseMessage) (t : ℕ) (side : Side) (p : Option ℤ) → price_for side q ≡ p → Hit h.facts s r q t → Keeps m h.facts (answer_hit_at m h s r q d t side p)
hit_at-Keeps m h s r q d t side None at k = record { each = tt }
hit_at-Keeps m h s r q d t side (Some p) at k = record { each = ((r, q, k.room, k.quote, refl, refl, sym k.number, k.live, refl, refl, hit_of s r q side p t k.mine at), (tt, tt)) }

hit-Keeps : (m : Market) (h : History) (s : Sender) (r : Room) (q : RoomQuote) (d : ResponseMessage) (t : ℕ) (side : Option Side) → Hit h.facts s r q t → Keeps m h.facts (answer_hit m h s r q d t side)
hit-Keeps m h s r q d t None k = record { each = tt }
hit-Keeps m h s r q d t (Some side) k = hit_at-Keeps m h s r q d t side (price_for side q) refl k

found_hit : (facts : List Fact) (s : Sender) (r : Room) (q : RoomQuote) (t : ℕ) → In r (rooms facts) → In q (quotes facts) → r.number ≡ q.room → not (r.requester == s.who) ≡ false → (is_closed facts r.number || is_replaced facts q) ≡ false → is_withdrawn facts q.number ≡ false → nat_lt q.end t ≡ false → Hit facts s r q t
found_hit facts s r q t i j e mine there kept early =
    record { room = i; quote = j; number = e; mine = eqb-true r.requester s.who (not-false (r.requester == s.who) mine); live = found-is_live facts q t (ap (λ n. is_closed facts n || is_replaced facts q) (sym e) ∙ there) kept early }

response_in-Keeps : (m : Market) (h : History) (s : Sender) (q : RoomQuote) (d : ResponseMessage) (t : ℕ) (r : Option Room) → In q (quotes h.facts) → ((x : Room) → r ≡ Some x → In x (rooms h.facts) × (x.number ≡ q.room)) → Keeps m h.facts (answer_response_in m h s q d t r)
response_in-Keeps m h s q d t None j i = record { each = tt }
response_in-Keeps m h s q d t (Some r) j i =
    first_of-Keeps m h.facts (response_refusals m h s r q d t) (answer_hit m h s r q d t (taken_side r.side d.side)) (tt, (tt, (tt, (tt, ((tt, tt), (tt, tt)))))) (λ n. hit-Keeps m h s r q d t (taken_side r.side d.side) (found_hit h.facts s r q t (i r refl).0 j (i r refl).1 n.0 n.1.0 n.1.1.0 n.1.1.1.0))

room_found : (facts : List Fact) (number : ℕ) (x : Room) → room_by_number facts number ≡ Some x → In x (rooms facts) × (x.number ≡ number)
room_found facts number x e = let k = In-find (λ (r : Room). r.number == number) (rooms facts) x e in (k.0, eqb-true x.number number k.1)

response_to-Keeps : (m : Market) (h : History) (s : Sender) (d : ResponseMessage) (t : ℕ) (q : Option RoomQuote) → ((x : RoomQuote) → q ≡ Some x → In x (quotes h.facts)) → Keeps m h.facts (answer_response_to m h s d t q)
response_to-Keeps m h s d t None j = record { each = tt }
response_to-Keeps m h s d t (Some q) j = response_in-Keeps m h s q d t (room_by_number h.facts q.room) (j q refl) (room_found h.facts q.room)

response-Keeps : (m : Market) (h : History) (s : Sender) (d : ResponseMessage) (t : ℕ) → Keeps m h.facts (answer_response m h s d t)
response-Keeps m h s d t =
    first_of-Keeps m h.facts (kind_refusals s d) _ (tt, tt) (λ n. response_to-Keeps m h s d t (find_quote h.facts d.quote_id) (λ x e. (In-find (λ (q : RoomQuote). bytes_eq (printed 81 q.number) d.quote_id) (quotes h.facts) x e).0))

-- any message, and a tick

market_data-Keeps : (m : Market) (h : History) (s : Sender) (d : MarketDataMessage) → Keeps m h.facts (answer_market_data m h s d)
market_data-Keeps m h s d = first_of-Keeps m h.facts (market_data_refusals m s d) (market_data m h s d) (tt, (tt, (tt, tt))) (λ n. record { each = tt })

app-Keeps : (m : Market) (h : History) (s : Sender) (a : App) (t : ℕ) → Numbered h.facts → Keeps m h.facts (answer_app m h s a t)
app-Keeps m h s (QuoteRequest d) t p = request-Keeps m h s d t
app-Keeps m h s (Quote d) t p = quote-Keeps m h s d t
app-Keeps m h s (QuoteCancel d) t p = withdrawal_of-Keeps m h s d t (d.cancel_type == 5) (d.cancel_type == 4)
app-Keeps m h s (QuoteResponse d) t p = response-Keeps m h s d t
app-Keeps m h s (NewOrderSingle d) t p = order-Keeps m h s d t p
app-Keeps m h s (OrderCancelRequest d) t p = cancel_of-Keeps m h s d (named h s.who d.original_id) (named-IsEntered h s.who d.original_id)
app-Keeps m h s (OrderCancelReplaceRequest d) t p = replace_of-Keeps m h s d t (named h s.who d.original_id) p (named-IsEntered h s.who d.original_id)
app-Keeps m h s (NewOrderCross d) t p = cross-Keeps m h s d t p
app-Keeps m h s (MarketDataRequest d) t p = market_data-Keeps m h s d
app-Keeps m h s (BusinessMessageReject d) t p = record { each = tt }
app-Keeps m h s (QuoteStatusReport d) t p = record { each = tt }
app-Keeps m h s (QuoteRequestReject d) t p = record { each = tt }
app-Keeps m h s (ExecutionReport d) t p = record { each = tt }
app-Keeps m h s (OrderCancelReject d) t p = record { each = tt }
app-Keeps m h s (MarketDataSnapshot d) t p = record { each = tt }
app-Keeps m h s (MarketDataRequestReject d) t p = record { each = tt }
app-Keeps m h s (Unsupported kind) t p = record { each = tt }

due_of-Keeps : (m : Market) (h : History) (k : Option HeldSide) → Numbered h.facts → Keeps m h.facts (answer_due_of m h k)
due_of-Keeps m h None p = record { each = tt }
due_of-Keeps m h (Some k) p = due-Keeps m h k p

pub input-Keeps : (m : Market) (h : History) (i : Input) → Numbered h.facts → Keeps m h.facts (answer_input m h i)
input-Keeps m h (Message taken t) p = app-Keeps m h _ taken.item.app t p
input-Keeps m h (Tick t) p = due_of-Keeps m h (due h.facts t) p
