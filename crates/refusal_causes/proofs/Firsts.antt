-- The cause that an answer names is the first that holds.
use Rattle.std.proofs.Common.{◌≡◌, ◌⊎◌, inl, inr, ℕ, ℤ, ◌+◌, ◌≤◌, Bool, true, false, List, [], ◌∷◌, ◌++◌, map, filter, length, take, Option, Some, None, is_none, bytes_eq, refl, sym, subst, arith}
use Rattle.std.specs.List.{flat_map}
use Rattle.fix_dictionary.specs.declared.values.Side.{Side}
use Rattle.fix_dictionary.specs.declared.messages.App.{App}
use Rattle.fix_dictionary.specs.declared.messages.App.TheVariants as app
use Rattle.fix_dictionary.specs.declared.messages.OrderCancelRequest.{OrderCancelRequest as Cancel}
use Rattle.fix_dictionary.specs.declared.messages.OrderCancelReplaceRequest.{OrderCancelReplaceRequest as Replacement}
use Rattle.fix_dictionary.specs.declared.messages.Quote.{Quote as QuoteMessage}
use Rattle.fix_dictionary.specs.declared.messages.QuoteCancel.{QuoteCancel as Withdrawal}
use Rattle.fix_dictionary.specs.declared.messages.QuoteResponse.{QuoteResponse as Response}
use Rattle.venue_rules.specs.declared.facts.HeldSide.{HeldSide}
use Rattle.venue_rules.specs.declared.facts.Room.{Room}
use Rattle.venue_rules.specs.declared.facts.RoomQuote.{RoomQuote}
use Rattle.venue_rules.specs.declared.replies.ReplyBody.{ReplyBody}
use Rattle.venue_rules.specs.declared.refusals.BusinessRefusal.TheVariants.{QuoteMissing, SideMissing}
use Rattle.venue_rules.specs.declared.refusals.ResponseRefusal.TheVariants as response
use Rattle.venue_rules.specs.declared.replies.QuoteState.TheVariants as state
use Rattle.venue_rules.specs.Answer.{Answer, Sender, business_reject, first_of, no_answer}
use Rattle.venue_rules.specs.Answers.{answer_app}
use Rattle.venue_rules.specs.Changes.{Named, IsResting, IsHeld, IsUnknown, answer_cancel_of, answer_replace_of, cancelled, held_cancelled, named, replaced}
use Rattle.venue_rules.specs.Crosses.{cross_accepted, cross_refusals}
use Rattle.venue_rules.specs.Delay.{due}
use Rattle.venue_rules.specs.Facts.{History}
use Rattle.venue_rules.specs.Market.{Market}
use Rattle.venue_rules.specs.MarketData.{market_data, market_data_refusals}
use Rattle.venue_rules.specs.Orders.{accepted, order_asked, order_refusals}
use Rattle.venue_rules.specs.Quotes.{answer_quote_of, quote_accepted}
use Rattle.venue_rules.specs.Requests.{opened, request_accepted, request_refusals, request_sent}
use Rattle.venue_rules.specs.Responses.{answer_hit, answer_hit_at, answer_response_in, answer_response_to, is_other_side, passed, price_for, response_refusals, room_traded, taken_side}
use Rattle.venue_rules.specs.Rooms.{find_quote, find_room, live_quotes, room_by_number}
use Rattle.venue_rules.specs.Run.{Message, Tick, answer_due_of}
use Rattle.venue_rules.specs.Withdrawals.{answer_withdrawal_of, both_emitted, cancel_status, not_found, to_maker, to_requester, withdraw_one, withdrawn_all, withdrawn_or}
use Rattle.refusal_causes.specs.Causes.{Causes, IsFirst, cancel_causes, causes_of, due_causes, found_causes, hit_refused, is_empty, is_no_response, is_of_all, is_of_one, is_pass, named_quotes, no_quote, no_response, price_taken, quote_causes, replace_causes, response_causes, room_causes, withdrawal_causes}
use Rattle.refusal_causes.specs.Places.{cancel_named, counted_by, cross_named, due_count, due_named, first_named, market_named, named_by, order_named, quote_count, quote_named, replace_count, replace_named, request_named, response_count, response_named, withdrawal_count, withdrawal_named}
use Rattle.refusal_causes.specs.Why.{CausesAreFirst, sender_of}

-- the answers of causes that are numbered from n on name their numbers
abbrev Numbered : (ReplyBody → ℕ) → ℕ → Causes → Type 0
Numbered f n [] = Unit {0}
Numbered f n (c ∷ cs) = (first_named f c.1.replies ≡ n) × Numbered f (n + 1) cs

-- and, where they hold, the length of the list
abbrev Counted : (ReplyBody → ℕ) → ℕ → Causes → Type 0
Counted g many [] = Unit {0}
Counted g many (c ∷ cs) = (c.0 ≡ true → first_named g c.1.replies ≡ many) × Counted g many cs

abbrev IsOne : Bool → Type 0
IsOne true = Unit {0}
IsOne false = ⊥

not_one : {P : Type 0} → false ≡ true → P
not_one e = absurd (subst IsOne (sym e) tt)

abbrev chosen : Bool → Answer → Answer → Answer
chosen b x rest = elim b [ true ↦ x | false ↦ rest ]

-- the answer is that of the first cause that holds, and names it
first_holds : (f : ReplyBody → ℕ) (n : ℕ) (cs : Causes) (accepted : Answer) → Numbered f n cs → first_named f accepted.replies ≡ 0 → 1 ≤ first_named f (first_of cs accepted).replies → IsFirst n cs (first_named f (first_of cs accepted).replies)
first_holds f n [] accepted numbered none some = absurd (zero_some none some)
  where
    zero_some : first_named f accepted.replies ≡ 0 → 1 ≤ first_named f accepted.replies → ⊥
    zero_some a b = omega (arith, a, b)
first_holds f n (c ∷ cs) accepted numbered none some = by (first_holds f (n + 1) cs accepted numbered.1 none) c.0 refl some
  where
    by : (1 ≤ first_named f (first_of cs accepted).replies → IsFirst (n + 1) cs (first_named f (first_of cs accepted).replies)) → (b : Bool) → c.0 ≡ b → 1 ≤ first_named f (chosen b c.1 (first_of cs accepted)).replies
        → ((c.0 ≡ true) × (first_named f (chosen b c.1 (first_of cs accepted)).replies ≡ n)) ⊎ ((c.0 ≡ false) × IsFirst (n + 1) cs (first_named f (chosen b c.1 (first_of cs accepted)).replies))
    by rec true is some = inl (is, numbered.0)
    by rec false is some = inr (is, rec some)

-- how many causes there are, where the answer names one
count_holds : (f g : ReplyBody → ℕ) (many : ℕ) (cs : Causes) (accepted : Answer) → Counted g many cs → first_named f accepted.replies ≡ 0 → 1 ≤ first_named f (first_of cs accepted).replies → many ≡ first_named g (first_of cs accepted).replies
count_holds f g many [] accepted counted none some = absurd (zero_some none some)
  where
    zero_some : first_named f accepted.replies ≡ 0 → 1 ≤ first_named f accepted.replies → ⊥
    zero_some a b = omega (arith, a, b)
count_holds f g many (c ∷ cs) accepted counted none some = by (count_holds f g many cs accepted counted.1 none) c.0 refl some
  where
    by : (1 ≤ first_named f (first_of cs accepted).replies → many ≡ first_named g (first_of cs accepted).replies) → (b : Bool) → c.0 ≡ b → 1 ≤ first_named f (chosen b c.1 (first_of cs accepted)).replies
        → many ≡ first_named g (chosen b c.1 (first_of cs accepted)).replies
    by rec true is some = sym (counted.0 is)
    by rec false is some = rec some

-- A list of causes, and the answer where none holds, which names none: each answer names its place in the list, and the
-- list's length.
record IsList (f g : ReplyBody → ℕ) (cs : Causes) (accepted : Answer) : Type 0 where
  numbered : Numbered f 1 cs
  counted : Counted g (length cs) cs
  none : first_named f accepted.replies ≡ 0

-- an answer that names a cause names the first that holds, in a list of that length
abbrev Names : (ReplyBody → ℕ) → (ReplyBody → ℕ) → Causes → Answer → Type 0
Names f g cs answered = 1 ≤ first_named f answered.replies → IsFirst 1 cs (first_named f answered.replies) × (length cs ≡ first_named g answered.replies)

by_list : (f g : ReplyBody → ℕ) (cs : Causes) (accepted : Answer) → IsList f g cs accepted → Names f g cs (first_of cs accepted)
by_list f g cs accepted l some = (first_holds f 1 cs accepted l.numbered l.none some, count_holds f g (length cs) cs accepted l.counted l.none some)

-- nothing is named
unnamed : (f g : ReplyBody → ℕ) (cs : Causes) (answered : Answer) → first_named f answered.replies ≡ 0 → Names f g cs answered
unnamed f g cs answered none some = absurd (zero_some none some)
  where
    zero_some : first_named f answered.replies ≡ 0 → 1 ≤ first_named f answered.replies → ⊥
    zero_some a b = omega (arith, a, b)

-- Orders.

of_cancel : (m : Market) (h : History) (s : Sender) (d : Cancel) (n : Named) → Names cancel_named (λ w. 1) (cancel_causes h s d n) (answer_cancel_of m h s d n)
of_cancel m h s d IsUnknown some = (inl (refl, refl), refl)
of_cancel m h s d (IsHeld k) some = by_list cancel_named (λ w. 1) (cancel_causes h s d (IsHeld k)) (held_cancelled m h s d k) (record { numbered = (refl, tt); counted = ((λ _. refl), tt); none = refl }) some
of_cancel m h s d (IsResting r) some = by_list cancel_named (λ w. 1) (cancel_causes h s d (IsResting r)) (cancelled m h s d r) (record { numbered = (refl, tt); counted = ((λ _. refl), tt); none = refl }) some

of_replace : (m : Market) (h : History) (s : Sender) (d : Replacement) (t : ℕ) (n : Named) → Names replace_named replace_count (replace_causes m h s d t n) (answer_replace_of m h s d t n)
of_replace m h s d t IsUnknown some = (inl (refl, refl), refl)
of_replace m h s d t (IsHeld k) some = by_list replace_named replace_count (replace_causes m h s d t (IsHeld k)) no_answer (record { numbered = (refl, (refl, tt)); counted = ((λ _. refl), ((λ _. refl), tt)); none = refl }) some
of_replace m h s d t (IsResting r) some = by_list replace_named replace_count (replace_causes m h s d t (IsResting r)) (replaced m h s d r t)
    (record { numbered = (refl, (refl, (refl, (refl, (refl, (refl, (refl, tt))))))); counted = ((λ _. refl), ((λ _. refl), ((λ _. refl), ((λ _. refl), ((λ _. refl), ((λ _. refl), ((λ _. refl), tt))))))); none = refl }) some

-- Requests and quotes.

-- the requests that are sent are no refusals
sent_none : (m : Market) (r : Room) (rs : List ℕ) → first_named request_named (map (request_sent m r) rs) ≡ 0
sent_none m r [] = refl
sent_none m r (x ∷ xs) = refl

of_quote : (m : Market) (h : History) (s : Sender) (d : QuoteMessage) (t : ℕ) (r : Option Room) → Names quote_named quote_count (quote_causes m h s d t r) (answer_quote_of m h s d t r)
of_quote m h s d t None some = (inl (refl, refl), refl)
of_quote m h s d t (Some r) some = by_list quote_named quote_count (quote_causes m h s d t (Some r)) (quote_accepted m h s r d)
    (record { numbered = (refl, (refl, (refl, (refl, (refl, (refl, (refl, (refl, tt)))))))); counted = ((λ _. refl), ((λ _. refl), ((λ _. refl), ((λ _. refl), ((λ _. refl), ((λ _. refl), ((λ _. refl), ((λ _. refl), tt)))))))); none = refl }) some

-- Answers to quotes.

abbrev ResponseNames : Sender → Response → Bool → Causes → Answer → Type 0
ResponseNames s d passes cs answered = Names response_named (response_count passes) ((false, no_response s d) ∷ cs) answered

-- after the checks of the quote, by their answers
abbrev after_checks : Market → History → Sender → Room → RoomQuote → Response → ℕ → Answer → Answer
after_checks m h s r q d t rest = first_of (take 4 (response_refusals m h s r q d t)) rest

abbrev then_hit : Market → Sender → Room → Response → Bool → Answer → Answer
then_hit m s r d other rest = chosen other (hit_refused m s r d (state.ResponseRefused response.Side)) rest

-- the causes with this side, and this price for it
abbrev sided : Market → History → Sender → Room → RoomQuote → Response → ℕ → (missing priceless : Bool) → Causes
sided m h s r q d t missing priceless =
    (false, no_quote s d)
    ∷ take 4 (response_refusals m h s r q d t)
    ++ (is_other_side r.side d.side, hit_refused m s r d (state.ResponseRefused response.Side))
    ∷ (missing, business_reject s SideMissing)
    ∷ (priceless, hit_refused m s r d (state.ResponseRefused response.InvalidPrice))
    ∷ []

nine : (m : Market) (h : History) (s : Sender) (r : Room) (q : RoomQuote) (d : Response) (t : ℕ) (missing priceless : Bool) (answer : Answer) → first_named response_named answer.replies ≡ 0
    → IsList response_named (response_count false) ((false, no_response s d) ∷ sided m h s r q d t missing priceless) answer
nine m h s r q d t missing priceless answer none = record {
  numbered = (refl, (refl, (refl, (refl, (refl, (refl, (refl, (refl, (refl, tt)))))))));
  counted = (not_one, (not_one, ((λ _. refl), ((λ _. refl), ((λ _. refl), ((λ _. refl), ((λ _. refl), ((λ _. refl), ((λ _. refl), tt)))))))));
  none = none;
}

of_price : (m : Market) (h : History) (s : Sender) (r : Room) (q : RoomQuote) (d : Response) (t : ℕ) (side : Side) (price : Option ℤ)
    → ResponseNames s d false (sided m h s r q d t false (is_none price)) (after_checks m h s r q d t (then_hit m s r d (is_other_side r.side d.side) (answer_hit_at m h s r q d t side price)))
of_price m h s r q d t side None some =
    by_list response_named (response_count false) ((false, no_response s d) ∷ sided m h s r q d t false true) no_answer (nine m h s r q d t false true no_answer refl) some
of_price m h s r q d t side (Some price) some =
    let accepted = room_traded m h s r q d side price t in
    by_list response_named (response_count false) ((false, no_response s d) ∷ sided m h s r q d t false false) accepted (nine m h s r q d t false false accepted refl) some

of_side : (m : Market) (h : History) (s : Sender) (r : Room) (q : RoomQuote) (d : Response) (t : ℕ) (side : Option Side)
    → ResponseNames s d false (sided m h s r q d t (is_none side) (is_none (price_taken side q))) (after_checks m h s r q d t (then_hit m s r d (is_other_side r.side d.side) (answer_hit m h s r q d t side)))
of_side m h s r q d t None some =
    by_list response_named (response_count false) ((false, no_response s d) ∷ sided m h s r q d t true true) no_answer (nine m h s r q d t true true no_answer refl) some
of_side m h s r q d t (Some side) some = of_price m h s r q d t side (price_for side q) some

of_kind : (m : Market) (h : History) (s : Sender) (r : Room) (q : RoomQuote) (d : Response) (t : ℕ) (passes : Bool)
    → ResponseNames s d passes (room_causes m h s q d t passes (Some r))
    (after_checks m h s r q d t (chosen passes (passed m s r q d) (then_hit m s r d (is_other_side r.side d.side) (answer_hit m h s r q d t (taken_side r.side d.side)))))
of_kind m h s r q d t true some =
    by_list response_named (response_count true) ((false, no_response s d) ∷ room_causes m h s q d t true (Some r)) (passed m s r q d)
    (record { numbered = (refl, (refl, (refl, (refl, (refl, (refl, tt)))))); counted = (not_one, (not_one, ((λ _. refl), ((λ _. refl), ((λ _. refl), ((λ _. refl), tt)))))); none = refl }) some
of_kind m h s r q d t false some = of_side m h s r q d t (taken_side r.side d.side) some

of_room : (m : Market) (h : History) (s : Sender) (q : RoomQuote) (d : Response) (t : ℕ) (r : Option Room) → ResponseNames s d (is_pass d) (room_causes m h s q d t (is_pass d) r) (answer_response_in m h s q d t r)
of_room m h s q d t None some = (inr (refl, inl (refl, refl)), refl)
of_room m h s q d t (Some r) some = of_kind m h s r q d t (is_pass d) some

of_found : (m : Market) (h : History) (s : Sender) (d : Response) (t : ℕ) (found : Option RoomQuote) → ResponseNames s d (is_pass d) (found_causes m h s d t (is_pass d) found) (answer_response_to m h s d t found)
of_found m h s d t None some = (inr (refl, inl (refl, refl)), refl)
of_found m h s d t (Some q) some = of_room m h s q d t (room_by_number h.facts q.room) some

of_response : (m : Market) (h : History) (s : Sender) (d : Response) (t : ℕ) (neither : Bool) (found : Option RoomQuote)
    → Names response_named (response_count (is_pass d)) (response_causes m h s d t neither (is_pass d) found) (chosen neither (no_response s d) (answer_response_to m h s d t found))
of_response m h s d t true found some = (inl (refl, refl), refl)
of_response m h s d t false found some = of_found m h s d t found some

-- Withdrawals.

-- that a quote was withdrawn is no refusal
withdrawn_none : (m : Market) (h : History) (one : Bool) (qs : List RoomQuote) → first_named (withdrawal_named one) (flat_map (both_emitted m h) qs) ≡ 0
withdrawn_none m h one [] = refl
withdrawn_none m h one (q ∷ qs) = by (withdrawn_none m h one qs) (room_by_number h.facts q.room)
  where
    by : first_named (withdrawal_named one) (flat_map (both_emitted m h) qs) ≡ 0 → (r : Option Room)
        → first_named (withdrawal_named one) ((elim r [ None ↦ [] | Some r ↦ to_maker m r q state.Withdrawn ∷ to_requester m r q state.Withdrawn ∷ [] ]) ++ flat_map (both_emitted m h) qs) ≡ 0
    by rec None = rec
    by rec (Some r) = refl

of_all : (m : Market) (h : History) (s : Sender) (d : Withdrawal) (t : ℕ) (qs : List RoomQuote)
    → Names (withdrawal_named false) (λ w. 2) ((false, cancel_status s d state.CancelUnsupported) ∷ (is_empty qs, not_found s None) ∷ []) (withdrawn_or m h (not_found s None) qs)
of_all m h s d t [] some = (inr (refl, inl (refl, refl)), refl)
of_all m h s d t (q ∷ qs) some = unnamed (withdrawal_named false) (λ w. 2) ((false, cancel_status s d state.CancelUnsupported) ∷ (is_empty (q ∷ qs), not_found s None) ∷ []) (withdrawn_all m h (q ∷ qs)) (withdrawn_none m h false (q ∷ qs)) some

abbrev one_causes : Sender → Withdrawal → Option (List ℕ) → Bool → Causes
one_causes s d id none = (false, cancel_status s d state.CancelUnsupported) ∷ (is_none id, business_reject s QuoteMissing) ∷ (none, not_found s id) ∷ []

of_named : (m : Market) (h : History) (s : Sender) (d : Withdrawal) (t : ℕ) (id : List ℕ) (qs : List RoomQuote) → Names (withdrawal_named true) (λ w. 3) (one_causes s d (Some id) (is_empty qs)) (withdrawn_or m h (not_found s (Some id)) qs)
of_named m h s d t id [] some = (inr (refl, inr (refl, inl (refl, refl))), refl)
of_named m h s d t id (q ∷ qs) some = unnamed (withdrawal_named true) (λ w. 3) (one_causes s d (Some id) (is_empty (q ∷ qs))) (withdrawn_all m h (q ∷ qs)) (withdrawn_none m h true (q ∷ qs)) some

of_one : (m : Market) (h : History) (s : Sender) (d : Withdrawal) (t : ℕ) (id : Option (List ℕ)) → Names (withdrawal_named true) (λ w. 3) (one_causes s d id (is_empty (named_quotes h s.who t id))) (withdraw_one m h s t id)
of_one m h s d t None some = (inr (refl, inl (refl, refl)), refl)
of_one m h s d t (Some id) some = of_named m h s d t id (filter (λ q. bytes_eq q.id id) (live_quotes h.facts s.who t)) some

of_withdrawal : (m : Market) (h : History) (s : Sender) (d : Withdrawal) (t : ℕ) (one all : Bool) → Names (withdrawal_named one) (λ w. withdrawal_count one all) (withdrawal_causes h s d t one all) (answer_withdrawal_of m h s d t one all)
of_withdrawal m h s d t true all some = of_one m h s d t d.quote_id some
of_withdrawal m h s d t false true some = of_all m h s d t (live_quotes h.facts s.who t) some
of_withdrawal m h s d t false false some = (inl (refl, refl), refl)

-- Any message.

named_in : (m : Market) (h : History) (s : Sender) (a : App) (t : ℕ) → Names (named_by a) (counted_by a) (causes_of m h s a t) (answer_app m h s a t)
named_in m h s (app.NewOrderSingle d) t some = by_list order_named (λ w. 8) (order_refusals m h s d t) (accepted m h (order_asked m s.who d) t)
    (record { numbered = (refl, (refl, (refl, (refl, (refl, (refl, (refl, (refl, tt)))))))); counted = ((λ _. refl), ((λ _. refl), ((λ _. refl), ((λ _. refl), ((λ _. refl), ((λ _. refl), ((λ _. refl), ((λ _. refl), tt)))))))); none = refl }) some
named_in m h s (app.OrderCancelRequest d) t some = of_cancel m h s d (named h s.who d.original_id) some
named_in m h s (app.OrderCancelReplaceRequest d) t some = of_replace m h s d t (named h s.who d.original_id) some
named_in m h s (app.NewOrderCross d) t some = by_list cross_named (λ w. 11) (cross_refusals m h s d t) (cross_accepted m h s d t)
    (record {
      numbered = (refl, (refl, (refl, (refl, (refl, (refl, (refl, (refl, (refl, (refl, (refl, tt)))))))))));
      counted = ((λ _. refl), ((λ _. refl), ((λ _. refl), ((λ _. refl), ((λ _. refl), ((λ _. refl), ((λ _. refl), ((λ _. refl), ((λ _. refl), ((λ _. refl), ((λ _. refl), tt)))))))))));
      none = refl;
    }) some
named_in m h s (app.QuoteRequest d) t some = by_list request_named (λ w. 10) (request_refusals m h s d t) (request_accepted m (opened m h s d t))
    (record {
      numbered = (refl, (refl, (refl, (refl, (refl, (refl, (refl, (refl, (refl, (refl, tt))))))))));
      counted = ((λ _. refl), ((λ _. refl), ((λ _. refl), ((λ _. refl), ((λ _. refl), ((λ _. refl), ((λ _. refl), ((λ _. refl), ((λ _. refl), ((λ _. refl), tt))))))))));
      none = sent_none m (opened m h s d t) (opened m h s d t).recipients;
    }) some
named_in m h s (app.Quote d) t some = of_quote m h s d t (find_room h.facts d.request_id) some
named_in m h s (app.QuoteResponse d) t some = of_response m h s d t (is_no_response d) (find_quote h.facts d.quote_id) some
named_in m h s (app.QuoteCancel d) t some = of_withdrawal m h s d t (is_of_one d) (is_of_all d) some
named_in m h s (app.MarketDataRequest d) t some = by_list market_named (λ w. 3) (market_data_refusals m s d) (market_data m h s d)
    (record { numbered = (refl, (refl, (refl, tt))); counted = ((λ _. refl), ((λ _. refl), ((λ _. refl), tt))); none = refl }) some
named_in m h s (app.QuoteStatusReport d) t some = unnamed (named_by (app.QuoteStatusReport d)) (λ w. 0) [] (answer_app m h s (app.QuoteStatusReport d) t) refl some
named_in m h s (app.QuoteRequestReject d) t some = unnamed (named_by (app.QuoteRequestReject d)) (λ w. 0) [] (answer_app m h s (app.QuoteRequestReject d) t) refl some
named_in m h s (app.ExecutionReport d) t some = unnamed (named_by (app.ExecutionReport d)) (λ w. 0) [] (answer_app m h s (app.ExecutionReport d) t) refl some
named_in m h s (app.OrderCancelReject d) t some = unnamed (named_by (app.OrderCancelReject d)) (λ w. 0) [] (answer_app m h s (app.OrderCancelReject d) t) refl some
named_in m h s (app.MarketDataSnapshot d) t some = unnamed (named_by (app.MarketDataSnapshot d)) (λ w. 0) [] (answer_app m h s (app.MarketDataSnapshot d) t) refl some
named_in m h s (app.MarketDataRequestReject d) t some = unnamed (named_by (app.MarketDataRequestReject d)) (λ w. 0) [] (answer_app m h s (app.MarketDataRequestReject d) t) refl some
named_in m h s (app.BusinessMessageReject d) t some = unnamed (named_by (app.BusinessMessageReject d)) (λ w. 0) [] (answer_app m h s (app.BusinessMessageReject d) t) refl some
named_in m h s (app.Unsupported kind) t some = unnamed (named_by (app.Unsupported kind)) (λ w. 0) [] (answer_app m h s (app.Unsupported kind) t) refl some

-- A tick.

of_due : (m : Market) (h : History) (k : Option HeldSide) → Names due_named due_count (due_causes m h k) (answer_due_of m h k)
of_due m h None some = unnamed due_named due_count [] (answer_due_of m h None) refl some
of_due m h (Some k) some = by_list due_named due_count (due_causes m h (Some k)) (accepted m h k.order k.due) (record { numbered = (refl, (refl, tt)); counted = ((λ _. refl), ((λ _. refl), tt)); none = refl }) some

pub causes_first : CausesAreFirst
causes_first m h (Message taken t) some = let n = named_in m h (sender_of taken) taken.item.app t some in record { first = n.0; many = n.1 }
causes_first m h (Tick t) some = let n = of_due m h (due h.facts t) some in record { first = n.0; many = n.1 }
