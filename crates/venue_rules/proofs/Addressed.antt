use Rattle.std.proofs.Common.{◌≡◌, refl, ◌∙◌, subst, inl, inr, ℕ, ℤ, ◌+◌, ◌<◌, Bool, true, false, not, ◌&&◌, ◌==◌, nat_lt, nat_le, List, [], ◌∷◌, ◌++◌, length, map, filter, flat_map, bytes_eq, Option, Some, None, if◌then◌else◌}
use Rattle.std.proofs.lemmas.List.Quantifiers.{position-Some}
use Rattle.std.specs.List.{enumerate_from, list_any}
use Rattle.fix_dictionary.specs.declared.messages.App.{App}
use Rattle.fix_dictionary.specs.declared.messages.App.TheVariants.{QuoteRequest, Quote, QuoteCancel, QuoteResponse, QuoteStatusReport, QuoteRequestReject, NewOrderSingle, OrderCancelRequest, OrderCancelReplaceRequest, NewOrderCross, ExecutionReport, OrderCancelReject, MarketDataRequest, MarketDataSnapshot, MarketDataRequestReject, BusinessMessageReject, Unsupported}
use Rattle.fix_dictionary.specs.declared.messages.NewOrderSingle.{NewOrderSingle as OrderMessage}
use Rattle.fix_dictionary.specs.declared.messages.OrderCancelRequest.{OrderCancelRequest as CancelMessage}
use Rattle.fix_dictionary.specs.declared.messages.OrderCancelReplaceRequest.{OrderCancelReplaceRequest as ReplaceMessage}
use Rattle.fix_dictionary.specs.declared.messages.NewOrderCross.{NewOrderCross as CrossMessage}
use Rattle.fix_dictionary.specs.declared.messages.QuoteRequest.{QuoteRequest as RequestMessage}
use Rattle.fix_dictionary.specs.declared.messages.Quote.{Quote as QuoteMessage}
use Rattle.fix_dictionary.specs.declared.messages.QuoteCancel.{QuoteCancel as WithdrawalMessage}
use Rattle.fix_dictionary.specs.declared.messages.QuoteResponse.{QuoteResponse as ResponseMessage}
use Rattle.fix_dictionary.specs.declared.messages.MarketDataRequest.{MarketDataRequest as MarketDataMessage}
use Rattle.fix_dictionary.specs.declared.messages.Party.{Party}
use Rattle.fix_dictionary.specs.declared.values.Side.{Side}
use Rattle.participants.specs.ParticipantFile.{ParticipantFile}
use Rattle.participants.specs.Relations.{find_participant}
use Rattle.venue_rules.specs.declared.facts.Fact.{Fact}
use Rattle.venue_rules.specs.declared.facts.Fact.TheVariants.{Entered, Traded, Removed, Held, Unheld, Asked, Quoted, Withdrawn, Closed}
use Rattle.venue_rules.specs.declared.facts.Entry.{Entry}
use Rattle.venue_rules.specs.declared.facts.OrderFact.{OrderFact}
use Rattle.venue_rules.specs.declared.facts.HeldSide.{HeldSide}
use Rattle.venue_rules.specs.declared.facts.Room.{Room}
use Rattle.venue_rules.specs.declared.facts.RoomQuote.{RoomQuote}
use Rattle.venue_rules.specs.declared.replies.Reply.{Reply}
use Rattle.venue_rules.specs.declared.replies.QuoteState.TheVariants as state
use Rattle.venue_rules.specs.declared.replies.ReplyBody.TheVariants.{OrderEntered, OrderReplaced}
use Rattle.venue_rules.specs.declared.refusals.ChangeRefusal.TheVariants.{HeldSide as IsHeldSide}
use Rattle.venue_rules.specs.Market.{Market}
use Rattle.venue_rules.specs.Facts.{History, no_history, entries, held_sides, rooms, quotes, next_trade}
use Rattle.venue_rules.specs.Book.{Fill, Resting, against, fills, filled, is_killed, opposite, paired, shares}
use Rattle.venue_rules.specs.Delay.{due, held, releases}
use Rattle.venue_rules.specs.Rooms.{find_room, find_quote, first_quote, is_live, live_quotes, printed, room_by_number}
use Rattle.venue_rules.specs.Entering.{entering, entry_facts, entry_reports, fill_reports, order_report, trade_of, unfilled_reports}
use Rattle.venue_rules.specs.Answer.{Answer, Sender, first_of, numbered, reply}
use Rattle.venue_rules.specs.Orders.{accepted, answer_order, order_asked, order_refusals}
use Rattle.venue_rules.specs.Changes.{Named, IsResting, IsHeld, IsUnknown, named, standing, answer_cancel_of, answer_replace_of, cancel_refusals, held_replace_refusals, replace_refusals, replace_refused, cancelled, held_cancelled, replaced, replacement}
use Rattle.venue_rules.specs.Crosses.{answer_cross, answer_due, cross_accepted, cross_refusals, due_refusals, first_side, side_order}
use Rattle.venue_rules.specs.Requests.{answer_request, named_recipients, opened, recipients, request_accepted, request_refusals, request_sent}
use Rattle.venue_rules.specs.Quotes.{answer_quote_of, quote_accepted, quote_refusals, shown_with}
use Rattle.venue_rules.specs.Withdrawals.{answer_withdrawal_of, both_emitted, not_found, to_maker, to_requester, withdraw_one, withdrawn_or}
use Rattle.venue_rules.specs.Responses.{answer_hit, answer_hit_at, answer_response, answer_response_in, answer_response_to, kind_refusals, price_for, response_refusals, taken_side}
use Rattle.venue_rules.specs.MarketData.{answer_market_data, market_data, market_data_refusals}
use Rattle.venue_rules.specs.Answers.{answer_app}
use Rattle.venue_rules.specs.Run.{Input, Message, Tick, after, answer_due_of, answer_input, run, run_from}
use Rattle.venue_rules.specs.Addressees.{AnswersGoToParticipants, ComeFromParticipants, ComesFromParticipant, RepliesGoToParticipants}
use Rattle.venue_rules.proofs.Members.{In, In-filter, In-find, In-from_Contains, picked_from}
use Rattle.venue_rules.proofs.Lefts.{In-resting}
use Rattle.venue_rules.proofs.Reports.{In-paired}
use Rattle.venue_rules.proofs.AmountLemmas.{In-earliest}
use Rattle.venue_rules.proofs.FollowsEach.{IsEntered, named-IsEntered}
use Rattle.venue_rules.proofs.OpenRooms.{first_of-each}

-- Every reply goes to a participant: the sender, a recipient found in the participant file, or an earlier sender that a
-- fact names.

-- the participants that a fact names, below a count
abbrev IsBelow : ℕ → Fact → Type 0
IsBelow n (Entered e) = e.order.who < n
IsBelow n (Traded t) = Unit {0}
IsBelow n (Removed r) = Unit {0}
IsBelow n (Held h) = h.order.who < n
IsBelow n (Unheld u) = Unit {0}
IsBelow n (Asked r) = (r.requester < n) × ((w : ℕ) → In w r.recipients → w < n)
IsBelow n (Quoted q) = q.maker < n
IsBelow n (Withdrawn w) = Unit {0}
IsBelow n (Closed c) = Unit {0}

abbrev AreBelow : ℕ → List Fact → Type 0
AreBelow n [] = Unit {0}
AreBelow n (f ∷ fs) = IsBelow n f × AreBelow n fs

abbrev AreTo : ℕ → List Reply → Type 0
AreTo n [] = Unit {0}
AreTo n (r ∷ rs) = (r.to < n) × AreTo n rs

-- an answer names and addresses these alone
abbrev Stays : ℕ → Answer → Type 0
Stays n x = AreBelow n x.facts × AreTo n x.replies

AreBelow-append : (n : ℕ) (fs gs : List Fact) → AreBelow n fs → AreBelow n gs → AreBelow n (fs ++ gs)
AreBelow-append n [] gs a b = b
AreBelow-append n (f ∷ fs) gs a b = (a.0, AreBelow-append n fs gs a.1 b)

AreTo-append : (n : ℕ) (rs more : List Reply) → AreTo n rs → AreTo n more → AreTo n (rs ++ more)
AreTo-append n [] more a b = b
AreTo-append n (r ∷ rs) more a b = (a.0, AreTo-append n rs more a.1 b)

AreTo-map : {X : Type 0} (n : ℕ) (f : X → Reply) (xs : List X) → ((x : X) → In x xs → (f x).to < n) → AreTo n (map f xs)
AreTo-map n f [] h = tt
AreTo-map n f (x ∷ xs) h = (h x (inl refl), AreTo-map n f xs (λ y i. h y (inr i)))

AreBelow-map : {X : Type 0} (n : ℕ) (f : X → Fact) (xs : List X) → ((x : X) → IsBelow n (f x)) → AreBelow n (map f xs)
AreBelow-map n f [] h = tt
AreBelow-map n f (x ∷ xs) h = (h x, AreBelow-map n f xs h)

below_in : (n : ℕ) (fs : List Fact) (f : Fact) → AreBelow n fs → In f fs → IsBelow n f
below_in n [] f a i = absurd i
below_in n (g ∷ gs) f a (inl same) = subst (IsBelow n) same a.0
below_in n (g ∷ gs) f a (inr i) = below_in n gs f a.1 i

to_in : (n : ℕ) (rs : List Reply) (r : Reply) → AreTo n rs → In r rs → r.to < n
to_in n [] r a i = absurd i
to_in n (s ∷ ss) r a (inl same) = subst (λ (x : Reply). x.to < n) same a.0
to_in n (s ∷ ss) r a (inr i) = to_in n ss r a.1 i

-- participants that the facts name

entry_below : (n : ℕ) (fs : List Fact) (e : Entry) → AreBelow n fs → In e (entries fs) → e.order.who < n
entry_below n [] e a i = absurd i
entry_below n (Entered x ∷ fs) e a (inl same) = subst (λ (y : Entry). y.order.who < n) same a.0
entry_below n (Entered x ∷ fs) e a (inr i) = entry_below n fs e a.1 i
entry_below n (Traded t ∷ fs) e a i = entry_below n fs e a.1 i
entry_below n (Removed r ∷ fs) e a i = entry_below n fs e a.1 i
entry_below n (Held h ∷ fs) e a i = entry_below n fs e a.1 i
entry_below n (Unheld u ∷ fs) e a i = entry_below n fs e a.1 i
entry_below n (Asked r ∷ fs) e a i = entry_below n fs e a.1 i
entry_below n (Quoted q ∷ fs) e a i = entry_below n fs e a.1 i
entry_below n (Withdrawn w ∷ fs) e a i = entry_below n fs e a.1 i
entry_below n (Closed c ∷ fs) e a i = entry_below n fs e a.1 i

held_below : (n : ℕ) (fs : List Fact) (k : HeldSide) → AreBelow n fs → In k (held_sides fs) → k.order.who < n
held_below n [] k a i = absurd i
held_below n (Held x ∷ fs) k a (inl same) = subst (λ (y : HeldSide). y.order.who < n) same a.0
held_below n (Held x ∷ fs) k a (inr i) = held_below n fs k a.1 i
held_below n (Entered x ∷ fs) k a i = held_below n fs k a.1 i
held_below n (Traded t ∷ fs) k a i = held_below n fs k a.1 i
held_below n (Removed r ∷ fs) k a i = held_below n fs k a.1 i
held_below n (Unheld u ∷ fs) k a i = held_below n fs k a.1 i
held_below n (Asked r ∷ fs) k a i = held_below n fs k a.1 i
held_below n (Quoted q ∷ fs) k a i = held_below n fs k a.1 i
held_below n (Withdrawn w ∷ fs) k a i = held_below n fs k a.1 i
held_below n (Closed c ∷ fs) k a i = held_below n fs k a.1 i

room_below : (n : ℕ) (fs : List Fact) (r : Room) → AreBelow n fs → In r (rooms fs) → r.requester < n
room_below n [] r a i = absurd i
room_below n (Asked x ∷ fs) r a (inl same) = subst (λ (y : Room). y.requester < n) same a.0.0
room_below n (Asked x ∷ fs) r a (inr i) = room_below n fs r a.1 i
room_below n (Entered x ∷ fs) r a i = room_below n fs r a.1 i
room_below n (Traded t ∷ fs) r a i = room_below n fs r a.1 i
room_below n (Removed x ∷ fs) r a i = room_below n fs r a.1 i
room_below n (Held h ∷ fs) r a i = room_below n fs r a.1 i
room_below n (Unheld u ∷ fs) r a i = room_below n fs r a.1 i
room_below n (Quoted q ∷ fs) r a i = room_below n fs r a.1 i
room_below n (Withdrawn w ∷ fs) r a i = room_below n fs r a.1 i
room_below n (Closed c ∷ fs) r a i = room_below n fs r a.1 i

quote_below : (n : ℕ) (fs : List Fact) (q : RoomQuote) → AreBelow n fs → In q (quotes fs) → q.maker < n
quote_below n [] q a i = absurd i
quote_below n (Quoted x ∷ fs) q a (inl same) = subst (λ (y : RoomQuote). y.maker < n) same a.0
quote_below n (Quoted x ∷ fs) q a (inr i) = quote_below n fs q a.1 i
quote_below n (Entered x ∷ fs) q a i = quote_below n fs q a.1 i
quote_below n (Traded t ∷ fs) q a i = quote_below n fs q a.1 i
quote_below n (Removed r ∷ fs) q a i = quote_below n fs q a.1 i
quote_below n (Held h ∷ fs) q a i = quote_below n fs q a.1 i
quote_below n (Unheld u ∷ fs) q a i = quote_below n fs q a.1 i
quote_below n (Asked r ∷ fs) q a i = quote_below n fs q a.1 i
quote_below n (Withdrawn w ∷ fs) q a i = quote_below n fs q a.1 i
quote_below n (Closed c ∷ fs) q a i = quote_below n fs q a.1 i

-- reports before numbering

abbrev AreFor : ℕ → List (ℕ → Reply) → Type 0
AreFor n [] = Unit {0}
AreFor n (f ∷ fs) = ((k : ℕ) → (f k).to < n) × AreFor n fs

AreFor-append : (n : ℕ) (fs gs : List (ℕ → Reply)) → AreFor n fs → AreFor n gs → AreFor n (fs ++ gs)
AreFor-append n [] gs a b = b
AreFor-append n (f ∷ fs) gs a b = (a.0, AreFor-append n fs gs a.1 b)

numbered-AreTo : (n k : ℕ) (fs : List (ℕ → Reply)) → AreFor n fs → AreTo n (numbered k fs)
numbered-AreTo n k [] a = tt
numbered-AreTo n k (f ∷ fs) a = (a.0 (k + 1), numbered-AreTo n (k + 1) fs a.1)

-- an entering order: its owner and those of the orders that it trades with

fill_below : (n : ℕ) (facts : List Fact) (o : OrderFact) → AreBelow n facts → (f : Fill) → In f (fills facts o) → f.resting.entry.order.who < n
fill_below n facts o a = killed (is_killed o.life o.quantity _) (filter (λ (g : Fill). nat_lt 0 g.quantity) pairs) of
  where
    pairs : List Fill
    pairs = paired (against facts o) (shares o.quantity (map (λ (r : Resting). r.left) (against facts o)))

    of : (f : Fill) → In f (filter (λ (g : Fill). nat_lt 0 g.quantity) pairs) → f.resting.entry.order.who < n
    of f i =
        let there = In-filter _ _ f.resting (In-paired (against facts o) _ f (In-filter (λ (g : Fill). nat_lt 0 g.quantity) pairs f i).0) in
        entry_below n facts f.resting.entry a (In-resting facts o.instrument (opposite o.side) f.resting there.0).0

    killed : (b : Bool) (fs : List Fill) → ((f : Fill) → In f fs → f.resting.entry.order.who < n) → (f : Fill) → In f (if b then [] else fs) → f.resting.entry.order.who < n
    killed true fs h f i = absurd i
    killed false fs h f i = h f i

fills-AreFor : (n : ℕ) (m : Market) (e : Entry) (all : List Fill) (trade j : ℕ) (fs : List Fill) → e.order.who < n → ((f : Fill) → In f fs → f.resting.entry.order.who < n) → AreFor n (flat_map (fill_reports m e all trade) (enumerate_from j fs))
fills-AreFor n m e all trade j [] low h = tt
fills-AreFor n m e all trade j (f ∷ fs) low h = ((λ k. low), ((λ k. h f (inl refl)), fills-AreFor n m e all trade (j + 1) fs low (λ g i. h g (inr i))))

unfilled-AreFor : (n : ℕ) (e : Entry) (x : ℕ → Reply) (b : Bool) → ((k : ℕ) → (x k).to < n) → AreFor n (if b then x ∷ [] else [])
unfilled-AreFor n e x true low = (low, tt)
unfilled-AreFor n e x false low = tt

entry-AreFor : (n : ℕ) (m : Market) (facts : List Fact) (e : Entry) (fs : List Fill) → e.order.who < n → ((f : Fill) → In f fs → f.resting.entry.order.who < n) → AreFor n (entry_reports m facts e fs)
entry-AreFor n m facts e fs low h =
    AreFor-append n (flat_map (fill_reports m e fs (next_trade facts)) (enumerate_from 0 fs)) (unfilled_reports m e fs) (fills-AreFor n m e fs (next_trade facts) 0 fs low h)
    (unfilled-AreFor n e _ _ (λ k. low))

entry-AreBelow : (n : ℕ) (e : Entry) (fs : List Fill) → e.order.who < n → AreBelow n (entry_facts e fs)
entry-AreBelow n e fs low = (low, AreBelow-map n (λ f. Traded (trade_of e f)) fs (λ f. tt))

accepted-Stays : (n : ℕ) (m : Market) (h : History) (o : OrderFact) (t : ℕ) → AreBelow n h.facts → o.who < n → Stays n (accepted m h o t)
accepted-Stays n m h o t a low =
    let e : Entry = entering h.facts o 0 t in
    let fs : List Fill = fills h.facts o in
    let new : ℕ → Reply = λ k. reply o.who (OrderEntered (order_report m e o.quantity 0 k)) in
    let made : AreFor n (new ∷ entry_reports m h.facts e fs) = ((λ k. low), entry-AreFor n m h.facts e fs low (fill_below n h.facts o a)) in
    (entry-AreBelow n e fs low, numbered-AreTo n h.reports (new ∷ entry_reports m h.facts e fs) made)

-- the answer to each message

-- replies to the sender alone
abbrev Alone : ℕ → ℕ → Type 0
Alone n who = Unit {0} × ((who < n) × Unit {0})

order-Stays : (n : ℕ) (m : Market) (h : History) (s : Sender) (d : OrderMessage) (t : ℕ) → AreBelow n h.facts → s.who < n → Stays n (answer_order m h s d t)
order-Stays n m h s d t a low =
    let one : Alone n s.who = (tt, (low, tt)) in
    first_of-each (Stays n) (order_refusals m h s d t) (accepted m h (order_asked m s.who d) t) (one, (one, (one, (one, (one, (one, (one, (one, tt)))))))) (λ k. accepted-Stays n m h (order_asked m s.who d) t a low)

cancel_of-Stays : (n : ℕ) (m : Market) (h : History) (s : Sender) (d : CancelMessage) (k : Named) → s.who < n → Stays n (answer_cancel_of m h s d k)
cancel_of-Stays n m h s d IsUnknown low = (tt, (low, tt))
cancel_of-Stays n m h s d (IsHeld k) low = first_of-each (Stays n) (cancel_refusals h s d None) (held_cancelled m h s d k) ((tt, (low, tt)), tt) (λ x. ((tt, tt), (low, tt)))
cancel_of-Stays n m h s d (IsResting r) low = first_of-each (Stays n) (cancel_refusals h s d (Some (standing r))) (cancelled m h s d r) ((tt, (low, tt)), tt) (λ x. ((tt, tt), (low, tt)))

replaced-Stays : (n : ℕ) (m : Market) (h : History) (s : Sender) (d : ReplaceMessage) (r : Resting) (t : ℕ) → AreBelow n h.facts → s.who < n → r.entry.order.who < n → Stays n (replaced m h s d r t)
replaced-Stays n m h s d r t a low its =
    let o : OrderFact = replacement d r in
    let e : Entry = entering h.facts o (filled r) t in
    let fs : List Fill = fills h.facts o in
    let emitted : ℕ → Reply = λ k. reply s.who (OrderReplaced (record { order = order_report m e o.quantity (filled r) k; original_id = d.original_id })) in
    let made : AreFor n (emitted ∷ entry_reports m h.facts e fs) = ((λ k. low), entry-AreFor n m h.facts e fs its (fill_below n h.facts o a)) in
    ((tt, entry-AreBelow n e fs its), numbered-AreTo n h.reports (emitted ∷ entry_reports m h.facts e fs) made)

replace_of-Stays : (n : ℕ) (m : Market) (h : History) (s : Sender) (d : ReplaceMessage) (t : ℕ) (k : Named) → AreBelow n h.facts → s.who < n → IsEntered h.facts k → Stays n (answer_replace_of m h s d t k)
replace_of-Stays n m h s d t IsUnknown a low i = (tt, (low, tt))
replace_of-Stays n m h s d t (IsHeld k) a low i = first_of-each (Stays n) (held_replace_refusals h s d) (replace_refused s d None IsHeldSide) ((tt, (low, tt)), tt) (λ x. (tt, (low, tt)))
replace_of-Stays n m h s d t (IsResting r) a low i =
    let one : Alone n s.who = (tt, (low, tt)) in
    first_of-each (Stays n) (replace_refusals m h s d r t) (replaced m h s d r t) (one, (one, (one, (one, (one, (one, (one, tt))))))) (λ x. replaced-Stays n m h s d r t a low (entry_below n h.facts r.entry a i))

cross-Stays : (n : ℕ) (m : Market) (h : History) (s : Sender) (d : CrossMessage) (t : ℕ) → AreBelow n h.facts → s.who < n → Stays n (answer_cross m h s d t)
cross-Stays n m h s d t a low =
    let two : Unit {0} × ((s.who < n) × ((s.who < n) × Unit {0})) = (tt, (low, (low, tt))) in
    let one : Alone n s.who = (tt, (low, tt)) in
    let first = accepted-Stays n m h (side_order m s.who d (first_side d)) t a low in
    first_of-each (Stays n) (cross_refusals m h s d t) (cross_accepted m h s d t) (two, (two, (two, (two, (one, (two, (two, (two, (two, (two, (two, tt))))))))))) (λ x. (AreBelow-append n (accepted m h (side_order m s.who d (first_side d)) t).facts _ first.0 (low, tt), first.1))

due-Stays : (n : ℕ) (m : Market) (h : History) (k : HeldSide) → AreBelow n h.facts → k.order.who < n → Stays n (answer_due m h k)
due-Stays n m h k a low =
    let one : Alone n k.order.who = (tt, (low, tt)) in
    let entered : Stays n (first_of (due_refusals m h k) (accepted m h k.order k.due)) = first_of-each (Stays n) (due_refusals m h k) (accepted m h k.order k.due) (one, (one, tt)) (λ x. accepted-Stays n m h k.order k.due a low) in
    ((tt, entered.0), entered.1)

-- a recipient was found in the participant file

named_below : (file : ParticipantFile) (ps : List Party) (x : Option ℕ) (w : ℕ) → In x (map (λ (p : Party). find_participant file p.id) ps) → x ≡ Some w → w < length file.names
named_below file [] x w i e = absurd i
named_below file (p ∷ ps) x w (inl same) e = (position-Some (bytes_eq p.id) file.names w [] (same ∙ e)).0
named_below file (p ∷ ps) x w (inr i) e = named_below file ps x w i e

recipient_below : (m : Market) (d : RequestMessage) (w : ℕ) → In w (recipients m d) → w < length m.participants.names
recipient_below m d w i =
    let k = picked_from (λ (r : Option ℕ). r) (named_recipients m d) w i in
    named_below m.participants _ k.0 w k.1 k.2

request-Stays : (m : Market) (h : History) (s : Sender) (d : RequestMessage) (t : ℕ) → s.who < length m.participants.names → Stays (length m.participants.names) (answer_request m h s d t)
request-Stays m h s d t low =
    let n : ℕ = length m.participants.names in
    let one : Alone n s.who = (tt, (low, tt)) in
    let there : (w : ℕ) → In w (recipients m d) → w < n = recipient_below m d in
    first_of-each (Stays n) (request_refusals m h s d t) (request_accepted m (opened m h s d t)) (one, (one, (one, (one, (one, (one, (one, (one, (one, (one, tt)))))))))) (λ x. (((low, there), tt), AreTo-map n (request_sent m (opened m h s d t)) (recipients m d) there))

shown-AreTo : (n : ℕ) (m : Market) (h : History) (r : Room) (o : Option RoomQuote) → r.requester < n → AreTo n (shown_with m h r o)
shown-AreTo n m h r None low = (low, tt)
shown-AreTo n m h r (Some q) low = tt

quote_of-Stays : (n : ℕ) (m : Market) (h : History) (s : Sender) (d : QuoteMessage) (t : ℕ) (r : Option Room) → s.who < n → ((x : Room) → r ≡ Some x → x.requester < n) → Stays n (answer_quote_of m h s d t r)
quote_of-Stays n m h s d t None low its = (tt, (low, tt))
quote_of-Stays n m h s d t (Some r) low its =
    let one : Alone n s.who = (tt, (low, tt)) in
    first_of-each (Stays n) (quote_refusals m h s r d t) (quote_accepted m h s r d) (one, (one, (one, (one, (one, (one, (one, (one, tt))))))))
    (λ x. ((low, tt), (low, AreTo-append n (shown_with m h r (first_quote h.facts r.number)) _ (shown-AreTo n m h r (first_quote h.facts r.number) (its r refl)) (its r refl, tt))))

both-AreTo : (n : ℕ) (m : Market) (q : RoomQuote) (o : Option Room) (rest : List Reply) → q.maker < n → ((x : Room) → o ≡ Some x → x.requester < n) → AreTo n rest
    → AreTo n ((elim o [ None ↦ [] | Some r ↦ to_maker m r q state.Withdrawn ∷ to_requester m r q state.Withdrawn ∷ [] ]) ++ rest)
both-AreTo n m q None rest low its a = a
both-AreTo n m q (Some r) rest low its a = (low, (its r refl, a))

number_below : (n : ℕ) (facts : List Fact) (number : ℕ) → AreBelow n facts → (x : Room) → room_by_number facts number ≡ Some x → x.requester < n
number_below n facts number a x e = room_below n facts x a (In-find (λ (r : Room). r.number == number) (rooms facts) x e).0

emitted-AreTo : (n : ℕ) (m : Market) (h : History) (qs : List RoomQuote) → AreBelow n h.facts → ((q : RoomQuote) → In q qs → In q (quotes h.facts)) → AreTo n (flat_map (both_emitted m h) qs)
emitted-AreTo n m h [] a there = tt
emitted-AreTo n m h (q ∷ qs) a there =
    both-AreTo n m q (room_by_number h.facts q.room) (flat_map (both_emitted m h) qs) (quote_below n h.facts q a (there q (inl refl))) (number_below n h.facts q.room a) (emitted-AreTo n m h qs a (λ x i. there x (inr i)))

withdrawn_or-Stays : (n : ℕ) (m : Market) (h : History) (x : Answer) (qs : List RoomQuote) → AreBelow n h.facts → ((q : RoomQuote) → In q qs → In q (quotes h.facts)) → Stays n x → Stays n (withdrawn_or m h x qs)
withdrawn_or-Stays n m h x [] a there k = k
withdrawn_or-Stays n m h x (q ∷ qs) a there k = (AreBelow-map n (λ (y : RoomQuote). Withdrawn (record { quote = y.number })) (q ∷ qs) (λ y. tt), emitted-AreTo n m h (q ∷ qs) a there)

of_live : (facts : List Fact) (who t : ℕ) (q : RoomQuote) → In q (live_quotes facts who t) → In q (quotes facts)
of_live facts who t q i = (In-filter (λ (x : RoomQuote). x.maker == who && is_live facts t x) (quotes facts) q i).0

withdraw_one-Stays : (n : ℕ) (m : Market) (h : History) (s : Sender) (t : ℕ) (id : Option (List ℕ)) → AreBelow n h.facts → s.who < n → Stays n (withdraw_one m h s t id)
withdraw_one-Stays n m h s t None a low = (tt, (low, tt))
withdraw_one-Stays n m h s t (Some id) a low =
    withdrawn_or-Stays n m h (not_found s (Some id)) (filter (λ (q : RoomQuote). bytes_eq q.id id) (live_quotes h.facts s.who t)) a (λ q i. of_live h.facts s.who t q (In-filter (λ (x : RoomQuote). bytes_eq x.id id) (live_quotes h.facts s.who t) q i).0) (tt, (low, tt))

withdrawal_of-Stays : (n : ℕ) (m : Market) (h : History) (s : Sender) (d : WithdrawalMessage) (t : ℕ) (one all : Bool) → AreBelow n h.facts → s.who < n → Stays n (answer_withdrawal_of m h s d t one all)
withdrawal_of-Stays n m h s d t true all a low = withdraw_one-Stays n m h s t d.quote_id a low
withdrawal_of-Stays n m h s d t false true a low = withdrawn_or-Stays n m h (not_found s None) (live_quotes h.facts s.who t) a (of_live h.facts s.who t) (tt, (low, tt))
withdrawal_of-Stays n m h s d t false false a low = (tt, (low, tt))

hit_at-Stays : (n : ℕ) (m : Market) (h : History) (s : Sender) (r : Room) (q : RoomQuote) (d : ResponseMessage) (t : ℕ) (side : Side) (p : Option ℤ) → s.who < n → q.maker < n → Stays n (answer_hit_at m h s r q d t side p)
hit_at-Stays n m h s r q d t side None low its = (tt, (low, tt))
hit_at-Stays n m h s r q d t side (Some p) low its = ((tt, (tt, tt)), (low, (its, tt)))

hit-Stays : (n : ℕ) (m : Market) (h : History) (s : Sender) (r : Room) (q : RoomQuote) (d : ResponseMessage) (t : ℕ) (side : Option Side) → s.who < n → q.maker < n → Stays n (answer_hit m h s r q d t side)
hit-Stays n m h s r q d t None low its = (tt, (low, tt))
hit-Stays n m h s r q d t (Some side) low its = hit_at-Stays n m h s r q d t side (price_for side q) low its

response_in-Stays : (n : ℕ) (m : Market) (h : History) (s : Sender) (q : RoomQuote) (d : ResponseMessage) (t : ℕ) (r : Option Room) → s.who < n → q.maker < n → Stays n (answer_response_in m h s q d t r)
response_in-Stays n m h s q d t None low its = (tt, (low, tt))
response_in-Stays n m h s q d t (Some r) low its =
    let one : Alone n s.who = (tt, (low, tt)) in
    first_of-each (Stays n) (response_refusals m h s r q d t) (answer_hit m h s r q d t (taken_side r.side d.side)) (one, (one, (one, (one, (((tt, tt), (low, (its, tt))), (one, tt)))))) (λ x. hit-Stays n m h s r q d t (taken_side r.side d.side) low its)

response_to-Stays : (n : ℕ) (m : Market) (h : History) (s : Sender) (d : ResponseMessage) (t : ℕ) (q : Option RoomQuote) → s.who < n → ((x : RoomQuote) → q ≡ Some x → x.maker < n) → Stays n (answer_response_to m h s d t q)
response_to-Stays n m h s d t None low its = (tt, (low, tt))
response_to-Stays n m h s d t (Some q) low its = response_in-Stays n m h s q d t (room_by_number h.facts q.room) low (its q refl)

response-Stays : (n : ℕ) (m : Market) (h : History) (s : Sender) (d : ResponseMessage) (t : ℕ) → AreBelow n h.facts → s.who < n → Stays n (answer_response m h s d t)
response-Stays n m h s d t a low =
    first_of-each (Stays n) (kind_refusals s d) (answer_response_to m h s d t (find_quote h.facts d.quote_id)) ((tt, (low, tt)), tt)
    (λ x. response_to-Stays n m h s d t (find_quote h.facts d.quote_id) low (λ q e. quote_below n h.facts q a (In-find (λ (y : RoomQuote). bytes_eq (printed 81 y.number) d.quote_id) (quotes h.facts) q e).0))

market_data-Stays : (n : ℕ) (m : Market) (h : History) (s : Sender) (d : MarketDataMessage) → s.who < n → Stays n (answer_market_data m h s d)
market_data-Stays n m h s d low =
    let one : Alone n s.who = (tt, (low, tt)) in
    first_of-each (Stays n) (market_data_refusals m s d) (market_data m h s d) (one, (one, (one, tt))) (λ x. one)

quote-Stays : (n : ℕ) (m : Market) (h : History) (s : Sender) (d : QuoteMessage) (t : ℕ) → AreBelow n h.facts → s.who < n → Stays n (answer_quote_of m h s d t (find_room h.facts d.request_id))
quote-Stays n m h s d t a low = quote_of-Stays n m h s d t (find_room h.facts d.request_id) low (λ x e. room_below n h.facts x a (In-find (λ (r : Room). bytes_eq (printed 82 r.number) d.request_id) (rooms h.facts) x e).0)

-- any message, and a tick

abbrev Count : Market → ℕ
Count m = length m.participants.names

app-Stays : (m : Market) (h : History) (s : Sender) (x : App) (t : ℕ) → AreBelow (Count m) h.facts → s.who < Count m → Stays (Count m) (answer_app m h s x t)
app-Stays m h s (QuoteRequest d) t a low = request-Stays m h s d t low
app-Stays m h s (Quote d) t a low = quote-Stays (Count m) m h s d t a low
app-Stays m h s (QuoteCancel d) t a low = withdrawal_of-Stays (Count m) m h s d t (d.cancel_type == 5) (d.cancel_type == 4) a low
app-Stays m h s (QuoteResponse d) t a low = response-Stays (Count m) m h s d t a low
app-Stays m h s (NewOrderSingle d) t a low = order-Stays (Count m) m h s d t a low
app-Stays m h s (OrderCancelRequest d) t a low = cancel_of-Stays (Count m) m h s d (named h s.who d.original_id) low
app-Stays m h s (OrderCancelReplaceRequest d) t a low = replace_of-Stays (Count m) m h s d t (named h s.who d.original_id) a low (named-IsEntered h s.who d.original_id)
app-Stays m h s (NewOrderCross d) t a low = cross-Stays (Count m) m h s d t a low
app-Stays m h s (MarketDataRequest d) t a low = market_data-Stays (Count m) m h s d low
app-Stays m h s (BusinessMessageReject d) t a low = (tt, tt)
app-Stays m h s (QuoteStatusReport d) t a low = (tt, (low, tt))
app-Stays m h s (QuoteRequestReject d) t a low = (tt, (low, tt))
app-Stays m h s (ExecutionReport d) t a low = (tt, (low, tt))
app-Stays m h s (OrderCancelReject d) t a low = (tt, (low, tt))
app-Stays m h s (MarketDataSnapshot d) t a low = (tt, (low, tt))
app-Stays m h s (MarketDataRequestReject d) t a low = (tt, (low, tt))
app-Stays m h s (Unsupported kind) t a low = (tt, (low, tt))

due_of-Stays : (n : ℕ) (m : Market) (h : History) (t : ℕ) (k : Option HeldSide) → AreBelow n h.facts → due h.facts t ≡ k → Stays n (answer_due_of m h k)
due_of-Stays n m h t None a e = (tt, tt)
due_of-Stays n m h t (Some k) a e =
    let among : In k (filter (λ (x : HeldSide). nat_le x.due t) (held h.facts)) = In-earliest (filter (λ (x : HeldSide). nat_le x.due t) (held h.facts)) k e in
    let kept = In-filter (λ (x : HeldSide). nat_le x.due t) (held h.facts) k among in
    let side = In-filter (λ (x : HeldSide). not (list_any (releases x) h.facts)) (held_sides h.facts) k kept.0 in
    due-Stays n m h k a (held_below n h.facts k a side.0)

input-Stays : (m : Market) (h : History) (i : Input) → AreBelow (Count m) h.facts → ComesFromParticipant m i → Stays (Count m) (answer_input m h i)
input-Stays m h (Message taken t) a low = app-Stays m h _ taken.item.app t a low
input-Stays m h (Tick t) a low = due_of-Stays (Count m) m h t (due h.facts t) a refl

-- over a list of inputs

run-AreBelow : (m : Market) (h : History) (is : List Input) → AreBelow (Count m) h.facts → ComeFromParticipants m is → AreBelow (Count m) (run_from m h is).history.facts
run-AreBelow m h [] a from = a
run-AreBelow m h (i ∷ is) a from = run-AreBelow m (after h (answer_input m h i)) is (AreBelow-append (Count m) h.facts (answer_input m h i).facts a (input-Stays m h i a from.0).0) from.1

run-AreTo : (m : Market) (h : History) (is : List Input) → AreBelow (Count m) h.facts → ComeFromParticipants m is → AreTo (Count m) (run_from m h is).replies
run-AreTo m h [] a from = tt
run-AreTo m h (i ∷ is) a from =
    let k = input-Stays m h i a from.0 in
    AreTo-append (Count m) (answer_input m h i).replies (run_from m (after h (answer_input m h i)) is).replies k.1 (run-AreTo m (after h (answer_input m h i)) is (AreBelow-append (Count m) h.facts (answer_input m h i).facts a k.0) from.1)

pub replies_go_to_participants : RepliesGoToParticipants
replies_go_to_participants m is from r c = to_in (Count m) (run m is).replies r (run-AreTo m no_history is tt from) (In-from_Contains (run m is).replies r c)

pub answers_go_to_participants : AnswersGoToParticipants
answers_go_to_participants m is i from sent r c =
    to_in (Count m) (answer_input m (run m is).history i).replies r (input-Stays m (run m is).history i (run-AreBelow m no_history is tt from) sent).1 (In-from_Contains (answer_input m (run m is).history i).replies r c)
