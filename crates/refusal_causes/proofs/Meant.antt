-- The sentence that is printed is that of the first test that holds.
use Rattle.std.proofs.Common.{◌≡◌, ℕ, ℤ, Bool, true, false, List, [], ◌∷◌, ◌++◌, map, filter, take, Option, Some, None, is_none, bytes_eq, if◌then◌else◌, refl, subst}
use Rattle.std.specs.Prelude.{codes}
use Rattle.std.specs.List.{flat_map}
use Rattle.fix_dictionary.specs.declared.values.Side.{Side}
use Rattle.fix_dictionary.specs.declared.messages.App.{App}
use Rattle.fix_dictionary.specs.declared.messages.App.TheVariants as app
use Rattle.fix_dictionary.specs.declared.messages.OrderCancelRequest.{OrderCancelRequest as Cancel}
use Rattle.fix_dictionary.specs.declared.messages.OrderCancelReplaceRequest.{OrderCancelReplaceRequest as Replacement}
use Rattle.fix_dictionary.specs.declared.messages.Quote.{Quote as QuoteMessage}
use Rattle.fix_dictionary.specs.declared.messages.QuoteCancel.{QuoteCancel as Withdrawal}
use Rattle.fix_dictionary.specs.declared.messages.QuoteResponse.{QuoteResponse as Response}
use Rattle.venue_rules.specs.declared.facts.HeldSide.{HeldSide}
use Rattle.venue_rules.specs.declared.facts.Room.{Room}
use Rattle.venue_rules.specs.declared.facts.RoomQuote.{RoomQuote}
use Rattle.venue_rules.specs.declared.replies.ReplyBody.{ReplyBody}
use Rattle.venue_rules.specs.declared.refusals.ChangeRefusal.TheVariants.{DuplicateClOrdId, HeldSide as IsHeldSide}
use Rattle.venue_rules.specs.declared.refusals.ResponseRefusal.TheVariants as response
use Rattle.venue_rules.specs.declared.replies.QuoteState.TheVariants as state
use Rattle.venue_rules.specs.Answer.{Answer, Sender, first_of}
use Rattle.venue_rules.specs.Answers.{answer_app}
use Rattle.venue_rules.specs.Changes.{Named, IsResting, IsHeld, IsUnknown, answer_cancel_of, answer_replace_of, cancel_refusals, cancelled, held_cancelled, named, replace_refusals, replace_refused, replaced, standing}
use Rattle.venue_rules.specs.Crosses.{cross_accepted, cross_refusals, due_refusals}
use Rattle.venue_rules.specs.Delay.{due}
use Rattle.venue_rules.specs.Facts.{History, is_order_id_used}
use Rattle.venue_rules.specs.Market.{Market}
use Rattle.venue_rules.specs.MarketData.{market_data, market_data_refusals}
use Rattle.venue_rules.specs.Orders.{accepted, order_asked, order_refusals}
use Rattle.venue_rules.specs.Quotes.{answer_quote_of, quote_accepted, quote_refusals}
use Rattle.venue_rules.specs.Requests.{opened, request_accepted, request_refusals, request_sent}
use Rattle.venue_rules.specs.Responses.{answer_hit, answer_hit_at, answer_response_in, answer_response_to, is_other_side, passed, price_for, response_refusals, taken_side}
use Rattle.venue_rules.specs.Rooms.{find_quote, find_room, live_quotes, room_by_number}
use Rattle.venue_rules.specs.Run.{Message, Tick, answer_due_of}
use Rattle.venue_rules.specs.Withdrawals.{answer_withdrawal_of, both_emitted, not_found, to_maker, to_requester, withdraw_one, withdrawn_or}
use Rattle.refusal_causes.specs.Causes.{Causes, hit_refused, is_empty, is_no_response, is_of_all, is_of_one, is_pass, named_quotes, no_response, price_taken}
use Rattle.refusal_causes.specs.Meanings.{Meanings, SaysWhatHolds, cancel_meanings, cross_meanings, due_meanings, first_meant, first_said, found_meanings, hit_meanings, market_meanings, meanings_of, order_meanings, quote_meanings, replace_meanings, request_meanings, room_meanings, withdrawal_meanings}
use Rattle.refusal_causes.specs.Places.{cancel_named, cross_named, due_named, market_named, named_by, order_named, quote_named, replace_named, request_named, response_named, withdrawal_named}
use Rattle.refusal_causes.specs.Why.{sender_of}

abbrev chosen : Bool → Answer → Answer → Answer
chosen b x rest = elim b [ true ↦ x | false ↦ rest ]

-- causes and sentences in step: the same tests, and each answer says its sentence
abbrev InStep : (ReplyBody → ℕ) → Causes → Meanings → Type 0
InStep f [] [] = Unit {0}
InStep f [] (s ∷ ss) = ⊥
InStep f (c ∷ cs) [] = ⊥
InStep f (c ∷ cs) (s ∷ ss) = (c.0 ≡ s.1) × ((first_said f c.1.replies ≡ Some s.0) × InStep f cs ss)

-- then what is said is the first that is meant, before what else is said and meant
in_step : (f : ReplyBody → ℕ) (cs : Causes) (ss rest : Meanings) (otherwise : Answer) → InStep f cs ss → first_said f otherwise.replies ≡ first_meant rest → first_said f (first_of cs otherwise).replies ≡ first_meant (ss ++ rest)
in_step f [] [] rest otherwise steps same = same
in_step f [] (s ∷ ss) rest otherwise steps same = absurd steps
in_step f (c ∷ cs) [] rest otherwise steps same = absurd steps
in_step f (c ∷ cs) (s ∷ ss) rest otherwise steps same =
    subst (λ (b : Bool). first_said f (first_of (c ∷ cs) otherwise).replies ≡ (if b then Some s.0 else first_meant (ss ++ rest))) steps.0
    (by c.0 (in_step f cs ss rest otherwise steps.1.1 same))
  where
    by : (b : Bool) → first_said f (first_of cs otherwise).replies ≡ first_meant (ss ++ rest) → first_said f (chosen b c.1 (first_of cs otherwise)).replies ≡ (if b then Some s.0 else first_meant (ss ++ rest))
    by true rec = steps.1.0
    by false rec = rec

-- Orders.

of_cancel : (m : Market) (h : History) (s : Sender) (d : Cancel) (n : Named) → first_said cancel_named (answer_cancel_of m h s d n).replies ≡ first_meant (cancel_meanings h s.who d n)
of_cancel m h s d IsUnknown = refl
of_cancel m h s d (IsHeld k) = in_step cancel_named (cancel_refusals h s d None) (cancel_meanings h s.who d (IsHeld k)) [] (held_cancelled m h s d k) (refl, (refl, tt)) refl
of_cancel m h s d (IsResting r) = in_step cancel_named (cancel_refusals h s d (Some (standing r))) (cancel_meanings h s.who d (IsResting r)) [] (cancelled m h s d r) (refl, (refl, tt)) refl

of_replace : (m : Market) (h : History) (s : Sender) (d : Replacement) (t : ℕ) (n : Named) → first_said replace_named (answer_replace_of m h s d t n).replies ≡ first_meant (replace_meanings m h s.who d t n)
of_replace m h s d t IsUnknown = refl
of_replace m h s d t (IsHeld k) = by (is_order_id_used h.facts s.who d.order_id)
  where
    by : (b : Bool) → first_said replace_named (chosen b (replace_refused s d None DuplicateClOrdId) (replace_refused s d None IsHeldSide)).replies ≡ first_meant ((codes "the sender used its identifier (11) before", b) ∷ (codes "it names a held side of a cross, which is not replaced", true) ∷ [])
    by true = refl
    by false = refl
of_replace m h s d t (IsResting r) = in_step replace_named (replace_refusals m h s d r t) (replace_meanings m h s.who d t (IsResting r)) [] (replaced m h s d r t)
    (refl, (refl, (refl, (refl, (refl, (refl, (refl, (refl, (refl, (refl, (refl, (refl, (refl, (refl, tt)))))))))))))) refl

-- Requests and quotes.

sent_none : (m : Market) (r : Room) (rs : List ℕ) → first_said request_named (map (request_sent m r) rs) ≡ None
sent_none m r [] = refl
sent_none m r (x ∷ xs) = refl

of_quote : (m : Market) (h : History) (s : Sender) (d : QuoteMessage) (t : ℕ) (r : Option Room) → first_said quote_named (answer_quote_of m h s d t r).replies ≡ first_meant (quote_meanings m h s.who d t r)
of_quote m h s d t None = refl
of_quote m h s d t (Some r) = in_step quote_named (quote_refusals m h s r d t) (quote_meanings m h s.who d t (Some r)) [] (quote_accepted m h s r d)
    (refl, (refl, (refl, (refl, (refl, (refl, (refl, (refl, (refl, (refl, (refl, (refl, (refl, (refl, (refl, (refl, tt)))))))))))))))) refl

-- Answers to quotes.

abbrev hit_chosen : Market → Sender → Room → Response → Bool → Answer → Answer
hit_chosen m s r d other rest = chosen other (hit_refused m s r d (state.ResponseRefused response.Side)) rest

-- of a hit, with its side and the price for it
abbrev hit_said : (other missing priceless : Bool) → Meanings
hit_said other missing priceless =
    (codes "its side (54) is not the one that was asked", other)
    ∷ (codes "both sides were asked for, and it names none (54)", missing)
    ∷ (codes "the quote has no price for the side", priceless)
    ∷ []

of_price : (m : Market) (h : History) (s : Sender) (r : Room) (q : RoomQuote) (d : Response) (t : ℕ) (other : Bool) (side : Side) (price : Option ℤ)
    → first_said response_named (hit_chosen m s r d other (answer_hit_at m h s r q d t side price)).replies ≡ first_meant (hit_said other false (is_none price))
of_price m h s r q d t true side price = refl
of_price m h s r q d t false side None = refl
of_price m h s r q d t false side (Some price) = refl

of_side : (m : Market) (h : History) (s : Sender) (r : Room) (q : RoomQuote) (d : Response) (t : ℕ) (other : Bool) (side : Option Side)
    → first_said response_named (hit_chosen m s r d other (answer_hit m h s r q d t side)).replies ≡ first_meant (hit_said other (is_none side) (is_none (price_taken side q)))
of_side m h s r q d t true None = refl
of_side m h s r q d t false None = refl
of_side m h s r q d t other (Some side) = of_price m h s r q d t other side (price_for side q)

of_kind : (m : Market) (h : History) (s : Sender) (r : Room) (q : RoomQuote) (d : Response) (t : ℕ) (passes : Bool)
    → first_said response_named (chosen passes (passed m s r q d) (hit_chosen m s r d (is_other_side r.side d.side) (answer_hit m h s r q d t (taken_side r.side d.side)))).replies ≡ first_meant (hit_meanings r q d passes)
of_kind m h s r q d t true = refl
of_kind m h s r q d t false = of_side m h s r q d t (is_other_side r.side d.side) (taken_side r.side d.side)

of_room : (m : Market) (h : History) (s : Sender) (q : RoomQuote) (d : Response) (t : ℕ) (r : Option Room) → first_said response_named (answer_response_in m h s q d t r).replies ≡ first_meant (room_meanings h s.who q d t (is_pass d) r)
of_room m h s q d t None = refl
of_room m h s q d t (Some r) =
    in_step response_named (take 4 (response_refusals m h s r q d t)) (take 4 (room_meanings h s.who q d t (is_pass d) (Some r))) (hit_meanings r q d (is_pass d))
    (chosen (is_pass d) (passed m s r q d) (hit_chosen m s r d (is_other_side r.side d.side) (answer_hit m h s r q d t (taken_side r.side d.side))))
    (refl, (refl, (refl, (refl, (refl, (refl, (refl, (refl, tt)))))))) (of_kind m h s r q d t (is_pass d))

of_found : (m : Market) (h : History) (s : Sender) (d : Response) (t : ℕ) (found : Option RoomQuote) → first_said response_named (answer_response_to m h s d t found).replies ≡ first_meant (found_meanings h s.who d t found)
of_found m h s d t None = refl
of_found m h s d t (Some q) = of_room m h s q d t (room_by_number h.facts q.room)

of_response : (m : Market) (h : History) (s : Sender) (d : Response) (t : ℕ) (neither : Bool) (found : Option RoomQuote)
    → first_said response_named (chosen neither (no_response s d) (answer_response_to m h s d t found)).replies ≡ first_meant ((codes "it is no hit (694=1) and no pass (694=6)", neither) ∷ found_meanings h s.who d t found)
of_response m h s d t true found = refl
of_response m h s d t false found = of_found m h s d t found

-- Withdrawals.

withdrawn_none : (m : Market) (h : History) (one : Bool) (qs : List RoomQuote) → first_said (withdrawal_named one) (flat_map (both_emitted m h) qs) ≡ None
withdrawn_none m h one [] = refl
withdrawn_none m h one (q ∷ qs) = by (withdrawn_none m h one qs) (room_by_number h.facts q.room)
  where
    by : first_said (withdrawal_named one) (flat_map (both_emitted m h) qs) ≡ None → (r : Option Room)
        → first_said (withdrawal_named one) ((elim r [ None ↦ [] | Some r ↦ to_maker m r q state.Withdrawn ∷ to_requester m r q state.Withdrawn ∷ [] ]) ++ flat_map (both_emitted m h) qs) ≡ None
    by rec None = rec
    by rec (Some r) = refl

abbrev no_quote_said : Bool → Meanings
no_quote_said none = (codes "the sender has no live quote, or none with the identifier that it names (117)", none) ∷ []

of_these : (m : Market) (h : History) (s : Sender) (id : Option (List ℕ)) (one : Bool) (qs : List RoomQuote)
    → first_said (withdrawal_named one) (withdrawn_or m h (not_found s id) qs).replies ≡ first_meant (no_quote_said (is_empty qs))
of_these m h s id true [] = refl
of_these m h s id false [] = refl
of_these m h s id one (q ∷ qs) = withdrawn_none m h one (q ∷ qs)

of_one : (m : Market) (h : History) (s : Sender) (d : Withdrawal) (t : ℕ) (id : Option (List ℕ))
    → first_said (withdrawal_named true) (withdraw_one m h s t id).replies ≡ first_meant ((codes "it names no quote (117)", is_none id) ∷ no_quote_said (is_empty (named_quotes h s.who t id)))
of_one m h s d t None = refl
of_one m h s d t (Some id) = of_these m h s (Some id) true (filter (λ q. bytes_eq q.id id) (live_quotes h.facts s.who t))

of_withdrawal : (m : Market) (h : History) (s : Sender) (d : Withdrawal) (t : ℕ) (one all : Bool) → first_said (withdrawal_named one) (answer_withdrawal_of m h s d t one all).replies ≡ first_meant (withdrawal_meanings h s.who d t one all)
of_withdrawal m h s d t true all = of_one m h s d t d.quote_id
of_withdrawal m h s d t false true = of_these m h s None false (live_quotes h.facts s.who t)
of_withdrawal m h s d t false false = refl

-- Any message.

said_in : (m : Market) (h : History) (s : Sender) (a : App) (t : ℕ) → first_said (named_by a) (answer_app m h s a t).replies ≡ first_meant (meanings_of m h s.who a t)
said_in m h s (app.NewOrderSingle d) t = in_step order_named (order_refusals m h s d t) (order_meanings m h s.who d t) [] (accepted m h (order_asked m s.who d) t)
    (refl, (refl, (refl, (refl, (refl, (refl, (refl, (refl, (refl, (refl, (refl, (refl, (refl, (refl, (refl, (refl, tt)))))))))))))))) refl
said_in m h s (app.OrderCancelRequest d) t = of_cancel m h s d (named h s.who d.original_id)
said_in m h s (app.OrderCancelReplaceRequest d) t = of_replace m h s d t (named h s.who d.original_id)
said_in m h s (app.NewOrderCross d) t = in_step cross_named (cross_refusals m h s d t) (cross_meanings m h s.who d t) [] (cross_accepted m h s d t)
    (refl, (refl, (refl, (refl, (refl, (refl, (refl, (refl, (refl, (refl, (refl, (refl, (refl, (refl, (refl, (refl, (refl, (refl, (refl, (refl, (refl, (refl, tt)))))))))))))))))))))) refl
said_in m h s (app.QuoteRequest d) t = in_step request_named (request_refusals m h s d t) (request_meanings m h s.who d t) [] (request_accepted m (opened m h s d t))
    (refl, (refl, (refl, (refl, (refl, (refl, (refl, (refl, (refl, (refl, (refl, (refl, (refl, (refl, (refl, (refl, (refl, (refl, (refl, (refl, tt)))))))))))))))))))) (sent_none m (opened m h s d t) (opened m h s d t).recipients)
said_in m h s (app.Quote d) t = of_quote m h s d t (find_room h.facts d.request_id)
said_in m h s (app.QuoteResponse d) t = of_response m h s d t (is_no_response d) (find_quote h.facts d.quote_id)
said_in m h s (app.QuoteCancel d) t = of_withdrawal m h s d t (is_of_one d) (is_of_all d)
said_in m h s (app.MarketDataRequest d) t = in_step market_named (market_data_refusals m s d) (market_meanings m d) [] (market_data m h s d) (refl, (refl, (refl, (refl, (refl, (refl, tt)))))) refl
said_in m h s (app.QuoteStatusReport d) t = refl
said_in m h s (app.QuoteRequestReject d) t = refl
said_in m h s (app.ExecutionReport d) t = refl
said_in m h s (app.OrderCancelReject d) t = refl
said_in m h s (app.MarketDataSnapshot d) t = refl
said_in m h s (app.MarketDataRequestReject d) t = refl
said_in m h s (app.BusinessMessageReject d) t = refl
said_in m h s (app.Unsupported kind) t = refl

-- A tick.

of_due : (m : Market) (h : History) (k : Option HeldSide) → first_said due_named (answer_due_of m h k).replies ≡ first_meant (due_meanings m h k)
of_due m h None = refl
of_due m h (Some k) = in_step due_named (due_refusals m h k) (due_meanings m h (Some k)) [] (accepted m h k.order k.due) (refl, (refl, (refl, (refl, tt)))) refl

pub says_what_holds : SaysWhatHolds
says_what_holds m h (Message taken t) = said_in m h (sender_of taken) taken.item.app t
says_what_holds m h (Tick t) = of_due m h (due h.facts t)
