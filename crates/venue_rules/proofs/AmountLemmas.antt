use Rattle.std.proofs.Common.{◌≡◌, refl, sym, ap, ℤ, not, ◌==◌, ◌∙◌, subst, inl, inr, ℕ, zero, suc, ◌+◌, ◌-◌, ◌<◌, ◌≤◌, min, Bool, true, false, cond, if◌then◌else◌, ◌&&◌, nat_lt, nat_le, List, [], ◌∷◌, map, filter, take, length, Option, Some, None, Contains, decimal, arith, ltb-true}
use Rattle.std.specs.List.{sum_by, list_all, list_any}
use Rattle.std.specs.Str.Parse.{AllDigits}
use Rattle.std.proofs.lemmas.Bool.{true≢false, and_parts}
use Rattle.std.proofs.lemmas.Bool.Decides.{nat_tests}
use Rattle.std.proofs.lemmas.Fmt.{decimal_is_IsNumeral, length-decimal-le}
use Rattle.std.proofs.lemmas.Str.Parse.{digit_from_value}
use Rattle.std.proofs.lemmas.List.Folds.{list_all-append}
use Rattle.std.proofs.lemmas.List.Sums.{sum_by-cons}
use Rattle.fix_dictionary.specs.Values.{is_printable}
use Rattle.fix_dictionary.specs.declared.messages.App.{App}
use Rattle.fix_dictionary.specs.declared.messages.App.TheVariants.{QuoteRequest, Quote, QuoteCancel, QuoteResponse, QuoteStatusReport, QuoteRequestReject, NewOrderSingle, OrderCancelRequest, OrderCancelReplaceRequest, NewOrderCross, ExecutionReport, OrderCancelReject, MarketDataRequest, MarketDataSnapshot, MarketDataRequestReject, BusinessMessageReject, Unsupported}
use Rattle.fix_dictionary.specs.declared.messages.NewOrderSingle.{NewOrderSingle as OrderMessage}
use Rattle.fix_dictionary.specs.declared.messages.OrderCancelRequest.{OrderCancelRequest as CancelMessage}
use Rattle.fix_dictionary.specs.declared.messages.OrderCancelReplaceRequest.{OrderCancelReplaceRequest as ReplaceMessage}
use Rattle.fix_dictionary.specs.declared.messages.NewOrderCross.{NewOrderCross as CrossMessage}
use Rattle.fix_dictionary.specs.declared.messages.CrossSide.{CrossSide}
use Rattle.fix_dictionary.specs.declared.messages.QuoteRequest.{QuoteRequest as RequestMessage}
use Rattle.fix_dictionary.specs.declared.messages.Quote.{Quote as QuoteMessage}
use Rattle.fix_dictionary.specs.declared.messages.QuoteCancel.{QuoteCancel as WithdrawalMessage}
use Rattle.fix_dictionary.specs.declared.messages.QuoteResponse.{QuoteResponse as ResponseMessage}
use Rattle.fix_dictionary.specs.declared.messages.MarketDataRequest.{MarketDataRequest as MarketDataMessage}
use Rattle.fix_dictionary.specs.declared.values.Side.{Side}
use Rattle.venue_rules.specs.declared.facts.Fact.{Fact}
use Rattle.venue_rules.specs.declared.facts.Fact.TheVariants.{Entered, Traded, Removed, Held, Unheld, Asked, Quoted, Withdrawn, Closed}
use Rattle.venue_rules.specs.declared.facts.Entry.{Entry}
use Rattle.venue_rules.specs.declared.facts.OrderFact.{OrderFact}
use Rattle.venue_rules.specs.declared.facts.HeldSide.{HeldSide}
use Rattle.venue_rules.specs.declared.facts.Room.{Room}
use Rattle.venue_rules.specs.declared.facts.RoomQuote.{RoomQuote}
use Rattle.venue_rules.specs.declared.refusals.ChangeRefusal.TheVariants.{HeldSide as IsHeldSide}
use Rattle.venue_rules.specs.Market.{Market}
use Rattle.venue_rules.specs.Facts.{History, held_sides}
use Rattle.venue_rules.specs.Book.{Resting, Fill, fills, filled, filled_by, shares, paired, against, is_killed}
use Rattle.venue_rules.specs.Delay.{due, held, releases, earlier, earliest}
use Rattle.venue_rules.specs.Entering.{entering, entry_facts, trade_of}
use Rattle.venue_rules.specs.Answer.{Answer, Sender, first_of}
use Rattle.venue_rules.specs.Orders.{accepted, answer_order, order_asked, order_refusals}
use Rattle.venue_rules.specs.Changes.{Named, IsResting, IsHeld, IsUnknown, named, standing, answer_cancel_of, answer_replace_of, cancel_refusals, held_replace_refusals, replace_refusals, replace_refused, cancelled, held_cancelled, replaced, replacement}
use Rattle.venue_rules.specs.Crosses.{answer_cross, cross_accepted, cross_refusals, side_order, is_first, first_side, second_side, due_refusals, answer_due}
use Rattle.venue_rules.specs.Requests.{answer_request, request_accepted, request_refusals, opened}
use Rattle.venue_rules.specs.Quotes.{answer_quote_of, quote_refusals, quote_accepted}
use Rattle.venue_rules.specs.Withdrawals.{answer_withdrawal_of, withdraw_one, withdrawn_or, not_found}
use Rattle.venue_rules.specs.Responses.{answer_response, answer_response_to, answer_response_in, answer_hit, answer_hit_at, response_refusals, kind_refusals, taken_side, price_for}
use Rattle.venue_rules.specs.MarketData.{answer_market_data, market_data_refusals, market_data}
use Rattle.venue_rules.specs.Rooms.{find_room, find_quote, room_by_number, printed}
use Rattle.venue_rules.specs.Answers.{answer_app}
use Rattle.venue_rules.specs.Run.{Input, Message, Tick, answer_input, answer_due_of}
use Rattle.venue_rules.specs.Amounts.{greatest_amount, is_within, are_within, asks_within, is_input_within, AmountsStayWithin, FillsAreWithin, PrintedNumbersAreIdentifiers}
use Rattle.venue_rules.proofs.Members.{In, In-filter, In-from_Contains}
use Rattle.venue_rules.proofs.Follows.{NoneHolds}
use Rattle.venue_rules.proofs.Fills.{eats, shares_in_turn}

-- Amounts stay within the greatest amount of a message.

-- an answer with its facts within
record Fits (x : Answer) : Type 0 where
  facts : are_within x.facts ≡ true

abbrev EachFits : List (Bool × Answer) → Type 0
EachFits [] = Unit {0}
EachFits (r ∷ rs) = Fits r.1 × EachFits rs

first_case : (b : Bool) (x y : Answer) → Fits x → (b ≡ false → Fits y) → Fits (elim b [ true ↦ x | false ↦ y ])
first_case true x y k l = k
first_case false x y k l = l refl

first_of-Fits : (rs : List (Bool × Answer)) (x : Answer) → EachFits rs → (NoneHolds rs → Fits x) → Fits (first_of rs x)
first_of-Fits [] x n k = k tt
first_of-Fits (r ∷ rs) x n k = first_case r.0 r.1 (first_of rs x) n.0 (λ e. first_of-Fits rs x n.1 (λ es. k (e, es)))

both_true : (a b : Bool) → a ≡ true → b ≡ true → (a && b) ≡ true
both_true true b h k = k
both_true false b h k = absurd (true≢false (sym h))

trades-within : (e : Entry) (fs : List Fill) → are_within (map (λ f. Traded (trade_of e f)) fs) ≡ true
trades-within e [] = refl
trades-within e (f ∷ fs) = trades-within e fs

entry-within : (e : Entry) (fs : List Fill) → nat_le (e.filled_before + e.order.quantity) greatest_amount ≡ true → are_within (entry_facts e fs) ≡ true
entry-within e fs h = both_true (nat_le (e.filled_before + e.order.quantity) greatest_amount) (are_within (map (λ f. Traded (trade_of e f)) fs)) h (trades-within e fs)

accepted-Fits : (m : Market) (h : History) (o : OrderFact) (t : ℕ) → nat_le o.quantity greatest_amount ≡ true → Fits (accepted m h o t)
accepted-Fits m h o t q = record { facts = entry-within (entering h.facts o 0 t) (fills h.facts o) (from_zero o.quantity q) }
  where
    from_zero : (n : ℕ) → nat_le n greatest_amount ≡ true → nat_le (0 + n) greatest_amount ≡ true
    from_zero n k = ap (λ i. nat_le i greatest_amount) (zero_less n) ∙ k
      where
        zero_less : (i : ℕ) → 0 + i ≡ i
        zero_less i = omega arith

order-Fits : (m : Market) (h : History) (s : Sender) (d : OrderMessage) (t : ℕ) → nat_le d.quantity greatest_amount ≡ true → Fits (answer_order m h s d t)
order-Fits m h s d t q =
    first_of-Fits (order_refusals m h s d t) (accepted m h (order_asked m s.who d) t) (record { facts = refl }, (record { facts = refl }, (record { facts = refl }, (record { facts = refl }, (record { facts = refl }, (record { facts = refl }, (record { facts = refl }, (record { facts = refl }, tt)))))))) (λ n. accepted-Fits m h (order_asked m s.who d) t q)

cancel_of-Fits : (m : Market) (h : History) (s : Sender) (d : CancelMessage) (n : Named) → Fits (answer_cancel_of m h s d n)
cancel_of-Fits m h s d IsUnknown = record { facts = refl }
cancel_of-Fits m h s d (IsHeld k) = first_of-Fits (cancel_refusals h s d None) (held_cancelled m h s d k) (record { facts = refl }, tt) (λ n. record { facts = refl })
cancel_of-Fits m h s d (IsResting r) = first_of-Fits (cancel_refusals h s d (Some (standing r))) (cancelled m h s d r) (record { facts = refl }, tt) (λ n. record { facts = refl })

-- a filled quantity, plus the rest of a greater quantity, is that quantity
rest_within : (f q : ℕ) → nat_le q f ≡ false → nat_le q greatest_amount ≡ true → nat_le (f + (q - f)) greatest_amount ≡ true
rest_within f q more h = ap (λ i. nat_le i greatest_amount) whole ∙ h
  where
    over : f < q
    over = grind (arith, nat_tests)

    whole : f + (q - f) ≡ q
    whole = omega (arith, over)

replaced-Fits : (m : Market) (h : History) (s : Sender) (d : ReplaceMessage) (r : Resting) (t : ℕ) → nat_le d.quantity (filled r) ≡ false → nat_le d.quantity greatest_amount ≡ true → Fits (replaced m h s d r t)
replaced-Fits m h s d r t more q = record { facts = entry-within (entering h.facts (replacement d r) (filled r) t) (fills h.facts (replacement d r)) (rest_within (filled r) d.quantity more q) }

replace_of-Fits : (m : Market) (h : History) (s : Sender) (d : ReplaceMessage) (t : ℕ) (n : Named) → nat_le d.quantity greatest_amount ≡ true → Fits (answer_replace_of m h s d t n)
replace_of-Fits m h s d t IsUnknown q = record { facts = refl }
replace_of-Fits m h s d t (IsHeld k) q = first_of-Fits (held_replace_refusals h s d) (replace_refused s d None IsHeldSide) (record { facts = refl }, tt) (λ n. record { facts = refl })
replace_of-Fits m h s d t (IsResting r) q = first_of-Fits (replace_refusals m h s d r t) (replaced m h s d r t) (record { facts = refl }, (record { facts = refl }, (record { facts = refl }, (record { facts = refl }, (record { facts = refl }, (record { facts = refl }, (record { facts = refl }, tt))))))) (λ n. replaced-Fits m h s d r t n.1.1.1.1.1.0 q)

-- crosses, and held sides as they enter

either : (d : CrossMessage) (b : Bool) (x y : CrossSide) → nat_le x.quantity greatest_amount ≡ true → nat_le y.quantity greatest_amount ≡ true → nat_le (if b then x else y).quantity greatest_amount ≡ true
either d true x y h k = h
either d false x y h k = k

cross_accepted-Fits : (m : Market) (h : History) (s : Sender) (d : CrossMessage) (t : ℕ) → nat_le d.first.quantity greatest_amount ≡ true → nat_le d.second.quantity greatest_amount ≡ true → Fits (cross_accepted m h s d t)
cross_accepted-Fits m h s d t p q =
    let first = accepted-Fits m h (side_order m s.who d (first_side d)) t (either d (is_first d d.first) d.first d.second p q) in
    record { facts = list_all-append is_within (accepted m h (side_order m s.who d (first_side d)) t).facts _ ∙ both_true (are_within (accepted m h (side_order m s.who d (first_side d)) t).facts) _ first.facts (both_true (nat_le (second_side d).quantity greatest_amount) true (either d (is_first d d.first) d.second d.first q p) refl) }

cross-Fits : (m : Market) (h : History) (s : Sender) (d : CrossMessage) (t : ℕ) → nat_le d.first.quantity greatest_amount ≡ true → nat_le d.second.quantity greatest_amount ≡ true → Fits (answer_cross m h s d t)
cross-Fits m h s d t p q = first_of-Fits (cross_refusals m h s d t) (cross_accepted m h s d t) (record { facts = refl }, (record { facts = refl }, (record { facts = refl }, (record { facts = refl }, (record { facts = refl }, (record { facts = refl }, (record { facts = refl }, (record { facts = refl }, (record { facts = refl }, (record { facts = refl }, (record { facts = refl }, tt))))))))))) (λ n. cross_accepted-Fits m h s d t p q)

due-Fits : (m : Market) (h : History) (k : HeldSide) → nat_le k.order.quantity greatest_amount ≡ true → Fits (answer_due m h k)
due-Fits m h k q = record { facts = (first_of-Fits (due_refusals m h k) (accepted m h k.order k.due) (record { facts = refl }, (record { facts = refl }, tt)) (λ n. accepted-Fits m h k.order k.due q)).facts }

held-within : (facts : List Fact) (k : HeldSide) → are_within facts ≡ true → In k (held_sides facts) → nat_le k.order.quantity greatest_amount ≡ true
held-within [] k h i = absurd i
held-within (Held x ∷ fs) k h (inl e) = subst (λ (y : HeldSide). nat_le y.order.quantity greatest_amount ≡ true) e (and_parts (nat_le x.order.quantity greatest_amount) (are_within fs) h).0
held-within (Held x ∷ fs) k h (inr i) = held-within fs k (and_parts (nat_le x.order.quantity greatest_amount) (are_within fs) h).1 i
held-within (Entered e ∷ fs) k h i = held-within fs k (and_parts (nat_le (e.filled_before + e.order.quantity) greatest_amount) (are_within fs) h).1 i
held-within (Traded t ∷ fs) k h i = held-within fs k h i
held-within (Removed r ∷ fs) k h i = held-within fs k h i
held-within (Unheld u ∷ fs) k h i = held-within fs k h i
held-within (Asked r ∷ fs) k h i = held-within fs k h i
held-within (Quoted q ∷ fs) k h i = held-within fs k h i
held-within (Withdrawn w ∷ fs) k h i = held-within fs k h i
held-within (Closed c ∷ fs) k h i = held-within fs k h i

some_same : (a b : HeldSide) → Some a ≡ Some b → a ≡ b
some_same a b e = cc

none_some : (b : HeldSide) → None ≡ Some b → ⊥
none_some b e = cc

chosen : (x z : HeldSide) (xs : List HeldSide) (k : HeldSide) (b : Bool) → In z xs → (if b then Some z else Some x) ≡ Some k → In k (x ∷ xs)
chosen x z xs k true i h = inr (subst (λ y. In y xs) (some_same z k h) i)
chosen x z xs k false i h = inl (some_same x k h)

earlier_of : (x : HeldSide) (xs : List HeldSide) (k : HeldSide) (o : Option HeldSide) → ((z : HeldSide) → o ≡ Some z → In z xs) → earlier x o ≡ Some k → In k (x ∷ xs)
earlier_of x xs k None member h = inl (some_same x k h)
earlier_of x xs k (Some z) member h = chosen x z xs k (nat_lt z.due x.due) (member z refl) h

pub In-earliest : (hs : List HeldSide) (k : HeldSide) → earliest hs ≡ Some k → In k hs
In-earliest [] k e = absurd (none_some k e)
In-earliest (x ∷ xs) k e = earlier_of x xs k (earliest xs) (λ z g. In-earliest xs z g) e

due_of-Fits : (m : Market) (h : History) (t : ℕ) (k : Option HeldSide) → are_within h.facts ≡ true → due h.facts t ≡ k → Fits (answer_due_of m h k)
due_of-Fits m h t None w e = record { facts = refl }
due_of-Fits m h t (Some k) w e =
    let among : In k (filter (λ (x : HeldSide). nat_le x.due t) (held h.facts)) = In-earliest (filter (λ (x : HeldSide). nat_le x.due t) (held h.facts)) k e in
    let kept = In-filter (λ (x : HeldSide). nat_le x.due t) (held h.facts) k among in
    let side = In-filter (λ (x : HeldSide). not (list_any (releases x) h.facts)) (held_sides h.facts) k kept.0 in
    due-Fits m h k (held-within h.facts k w side.0)

-- requests, quotes and responses add no order

request-Fits : (m : Market) (h : History) (s : Sender) (d : RequestMessage) (t : ℕ) → Fits (answer_request m h s d t)
request-Fits m h s d t = first_of-Fits (request_refusals m h s d t) (request_accepted m (opened m h s d t)) (record { facts = refl }, (record { facts = refl }, (record { facts = refl }, (record { facts = refl }, (record { facts = refl }, (record { facts = refl }, (record { facts = refl }, (record { facts = refl }, (record { facts = refl }, (record { facts = refl }, tt)))))))))) (λ n. record { facts = refl })

quote_of-Fits : (m : Market) (h : History) (s : Sender) (d : QuoteMessage) (t : ℕ) (r : Option Room) → Fits (answer_quote_of m h s d t r)
quote_of-Fits m h s d t None = record { facts = refl }
quote_of-Fits m h s d t (Some r) = first_of-Fits (quote_refusals m h s r d t) (quote_accepted m h s r d) (record { facts = refl }, (record { facts = refl }, (record { facts = refl }, (record { facts = refl }, (record { facts = refl }, (record { facts = refl }, (record { facts = refl }, (record { facts = refl }, tt)))))))) (λ n. record { facts = refl })

withdrawn-within : (qs : List RoomQuote) → are_within (map (λ (q : RoomQuote). Withdrawn (record { quote = q.number })) qs) ≡ true
withdrawn-within [] = refl
withdrawn-within (q ∷ qs) = withdrawn-within qs

withdrawn_or-Fits : (m : Market) (h : History) (x : Answer) (qs : List RoomQuote) → Fits x → Fits (withdrawn_or m h x qs)
withdrawn_or-Fits m h x [] k = k
withdrawn_or-Fits m h x (q ∷ qs) k = record { facts = withdrawn-within (q ∷ qs) }

withdraw_one-Fits : (m : Market) (h : History) (s : Sender) (t : ℕ) (id : Option (List ℕ)) → Fits (withdraw_one m h s t id)
withdraw_one-Fits m h s t None = record { facts = refl }
withdraw_one-Fits m h s t (Some id) = withdrawn_or-Fits m h (not_found s (Some id)) _ (record { facts = refl })

withdrawal_of-Fits : (m : Market) (h : History) (s : Sender) (d : WithdrawalMessage) (t : ℕ) (one all : Bool) → Fits (answer_withdrawal_of m h s d t one all)
withdrawal_of-Fits m h s d t true all = withdraw_one-Fits m h s t d.quote_id
withdrawal_of-Fits m h s d t false true = withdrawn_or-Fits m h (not_found s None) _ (record { facts = refl })
withdrawal_of-Fits m h s d t false false = record { facts = refl }

hit_at-Fits : (m : Market) (h : History) (s : Sender) (r : Room) (q : RoomQuote) (d : ResponseMessage) (t : ℕ) (side : Side) (p : Option ℤ) → Fits (answer_hit_at m h s r q d t side p)
hit_at-Fits m h s r q d t side None = record { facts = refl }
hit_at-Fits m h s r q d t side (Some p) = record { facts = refl }

hit-Fits : (m : Market) (h : History) (s : Sender) (r : Room) (q : RoomQuote) (d : ResponseMessage) (t : ℕ) (side : Option Side) → Fits (answer_hit m h s r q d t side)
hit-Fits m h s r q d t None = record { facts = refl }
hit-Fits m h s r q d t (Some side) = hit_at-Fits m h s r q d t side (price_for side q)

response_in-Fits : (m : Market) (h : History) (s : Sender) (q : RoomQuote) (d : ResponseMessage) (t : ℕ) (r : Option Room) → Fits (answer_response_in m h s q d t r)
response_in-Fits m h s q d t None = record { facts = refl }
response_in-Fits m h s q d t (Some r) = first_of-Fits (response_refusals m h s r q d t) (answer_hit m h s r q d t (taken_side r.side d.side)) (record { facts = refl }, (record { facts = refl }, (record { facts = refl }, (record { facts = refl }, (record { facts = refl }, (record { facts = refl }, tt)))))) (λ n. hit-Fits m h s r q d t (taken_side r.side d.side))

response_to-Fits : (m : Market) (h : History) (s : Sender) (d : ResponseMessage) (t : ℕ) (q : Option RoomQuote) → Fits (answer_response_to m h s d t q)
response_to-Fits m h s d t None = record { facts = refl }
response_to-Fits m h s d t (Some q) = response_in-Fits m h s q d t (room_by_number h.facts q.room)

response-Fits : (m : Market) (h : History) (s : Sender) (d : ResponseMessage) (t : ℕ) → Fits (answer_response m h s d t)
response-Fits m h s d t = first_of-Fits (kind_refusals s d) _ (record { facts = refl }, tt) (λ n. response_to-Fits m h s d t (find_quote h.facts d.quote_id))

market_data-Fits : (m : Market) (h : History) (s : Sender) (d : MarketDataMessage) → Fits (answer_market_data m h s d)
market_data-Fits m h s d = first_of-Fits (market_data_refusals m s d) (market_data m h s d) (record { facts = refl }, (record { facts = refl }, (record { facts = refl }, tt))) (λ n. record { facts = refl })

-- any message, and a tick

app-Fits : (m : Market) (h : History) (s : Sender) (a : App) (t : ℕ) → asks_within a ≡ true → Fits (answer_app m h s a t)
app-Fits m h s (QuoteRequest d) t w = request-Fits m h s d t
app-Fits m h s (Quote d) t w = quote_of-Fits m h s d t (find_room h.facts d.request_id)
app-Fits m h s (QuoteCancel d) t w = withdrawal_of-Fits m h s d t (d.cancel_type == 5) (d.cancel_type == 4)
app-Fits m h s (QuoteResponse d) t w = response-Fits m h s d t
app-Fits m h s (NewOrderSingle d) t w = order-Fits m h s d t w
app-Fits m h s (OrderCancelRequest d) t w = cancel_of-Fits m h s d (named h s.who d.original_id)
app-Fits m h s (OrderCancelReplaceRequest d) t w = replace_of-Fits m h s d t (named h s.who d.original_id) w
app-Fits m h s (NewOrderCross d) t w = let sides = and_parts (nat_le d.first.quantity greatest_amount) (nat_le d.second.quantity greatest_amount) w in cross-Fits m h s d t sides.0 sides.1
app-Fits m h s (MarketDataRequest d) t w = market_data-Fits m h s d
app-Fits m h s (BusinessMessageReject d) t w = record { facts = refl }
app-Fits m h s (QuoteStatusReport d) t w = record { facts = refl }
app-Fits m h s (QuoteRequestReject d) t w = record { facts = refl }
app-Fits m h s (ExecutionReport d) t w = record { facts = refl }
app-Fits m h s (OrderCancelReject d) t w = record { facts = refl }
app-Fits m h s (MarketDataSnapshot d) t w = record { facts = refl }
app-Fits m h s (MarketDataRequestReject d) t w = record { facts = refl }
app-Fits m h s (Unsupported kind) t w = record { facts = refl }

input-Fits : (m : Market) (h : History) (i : Input) → are_within h.facts ≡ true → is_input_within i ≡ true → Fits (answer_input m h i)
input-Fits m h (Message taken t) w q = app-Fits m h _ taken.item.app t q
input-Fits m h (Tick t) w q = due_of-Fits m h t (due h.facts t) w refl

pub amounts_within : AmountsStayWithin
amounts_within m h i w q = list_all-append is_within h.facts (answer_input m h i).facts ∙ both_true (are_within h.facts) (are_within (answer_input m h i).facts) w (input-Fits m h i w q).facts

-- fills

-- a share and the shares after it are at most the quantity
share_and_rest : (l q s : ℕ) → s ≤ q - l → min l q + s ≤ q
share_and_rest l q s h = omega (arith, h)

eats-within : (q k : ℕ) (rs : List Resting) → filled_by (take k (eats q rs)) ≤ q
eats-within q zero rs = omega arith
eats-within q (suc k) [] = omega arith
eats-within q (suc k) (r ∷ rs) = by (nat_lt 0 (min r.left q)) refl (eats-within (q - r.left) k rs) (eats-within (q - r.left) (suc k) rs)
  where
    by : (b : Bool) → nat_lt 0 (min r.left q) ≡ b → filled_by (take k (eats (q - r.left) rs)) ≤ q - r.left → filled_by (take (suc k) (eats (q - r.left) rs)) ≤ q - r.left
        → filled_by (take (suc k) (cond b (record { resting = r; quantity = min r.left q } ∷ eats (q - r.left) rs) (eats (q - r.left) rs))) ≤ q
    by true e some more = subst (λ n. n ≤ q) (sym (sum_by-cons (λ (g : Fill). g.quantity) (record { resting = r; quantity = min r.left q }) (take k (eats (q - r.left) rs)))) (share_and_rest r.left q (filled_by (take k (eats (q - r.left) rs))) some)
    by false e some more = omega (arith, more)

eats_all-within : (q : ℕ) (rs : List Resting) → filled_by (eats q rs) ≤ q
eats_all-within q [] = omega arith
eats_all-within q (r ∷ rs) = by (nat_lt 0 (min r.left q)) (eats_all-within (q - r.left) rs)
  where
    by : (b : Bool) → filled_by (eats (q - r.left) rs) ≤ q - r.left → filled_by (cond b (record { resting = r; quantity = min r.left q } ∷ eats (q - r.left) rs) (eats (q - r.left) rs)) ≤ q
    by true more = subst (λ n. n ≤ q) (sym (sum_by-cons (λ (g : Fill). g.quantity) (record { resting = r; quantity = min r.left q }) (eats (q - r.left) rs))) (share_and_rest r.left q (filled_by (eats (q - r.left) rs)) more)
    by false more = omega (arith, more)

In-eats : (q : ℕ) (rs : List Resting) (f : Fill) → In f (eats q rs) → (0 < f.quantity) × (f.quantity ≤ f.resting.left)
In-eats q [] f i = absurd i
In-eats q (r ∷ rs) f i = by (nat_lt 0 (min r.left q)) refl (In-eats (q - r.left) rs f) i
  where
    by : (b : Bool) → nat_lt 0 (min r.left q) ≡ b → (In f (eats (q - r.left) rs) → (0 < f.quantity) × (f.quantity ≤ f.resting.left))
        → In f (cond b (record { resting = r; quantity = min r.left q } ∷ eats (q - r.left) rs) (eats (q - r.left) rs)) → (0 < f.quantity) × (f.quantity ≤ f.resting.left)
    by true e rest (inl h) = subst (λ (g : Fill). (0 < g.quantity) × (g.quantity ≤ g.resting.left)) h (ltb-true 0 (min r.left q) e, omega arith)
    by true e rest (inr h) = rest h
    by false e rest h = rest h

abbrev AreWithin : ℕ → List Fill → Type 0
AreWithin q fs = ((k : ℕ) → filled_by (take k fs) ≤ q) × (filled_by fs ≤ q) × ((f : Fill) → Contains fs f → (0 < f.quantity) × (f.quantity ≤ f.resting.left))

killed-within : (q : ℕ) (b : Bool) (fs : List Fill) → AreWithin q fs → AreWithin q (if b then [] else fs)
killed-within q true fs w = ((λ k. none k), omega arith, λ f c. absurd (In-from_Contains [] f c))
  where
    none : (k : ℕ) → filled_by (take k []) ≤ q
    none zero = omega arith
    none (suc k) = omega arith
killed-within q false fs w = w

pub fills_within : FillsAreWithin
fills_within facts o =
    killed-within o.quantity (is_killed o.life o.quantity (sum_by (λ (r : Resting). r.left) (against facts o))) _
    (subst (AreWithin o.quantity) (sym turn) ((λ k. eats-within o.quantity k (against facts o)), eats_all-within o.quantity (against facts o), λ f c. In-eats o.quantity (against facts o) f (In-from_Contains (eats o.quantity (against facts o)) f c)))
  where
    turn : filter (λ (f : Fill). nat_lt 0 f.quantity) (paired (against facts o) (shares o.quantity (map (λ (r : Resting). r.left) (against facts o)))) ≡ eats o.quantity (against facts o)
    turn = ap (λ ss. filter (λ (f : Fill). nat_lt 0 f.quantity) (paired (against facts o) ss)) (shares_in_turn o.quantity (map (λ (r : Resting). r.left) (against facts o)))

-- printed numbers

digits-printable : (ds : List ℕ) → AllDigits 10 ds → list_all is_printable ds ≡ true
digits-printable [] h = refl
digits-printable (c ∷ cs) h =
    let range = digit_from_value c h.0 in
    let shown : is_printable c ≡ true = grind (arith, nat_tests) in
    both_true (is_printable c) (list_all is_printable cs) shown (digits-printable cs h.1)

pub printed_identifiers : PrintedNumbersAreIdentifiers
printed_identifiers prefix n shown small =
    let numeral = decimal_is_IsNumeral n small in
    let short : length (decimal n) ≤ 20 = length-decimal-le 20 n (omega arith) (omega (arith, small)) small in
    let bytes : list_all is_printable (printed prefix n) ≡ true = both_true (is_printable prefix) (list_all is_printable (decimal n)) shown (digits-printable (decimal n) numeral.0.1) in
    let long : length (printed prefix n) ≤ 64 = omega (arith, short) in
    let some : 0 < length (printed prefix n) = omega arith in
    grind (arith, nat_tests)
