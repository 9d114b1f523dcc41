use Rattle.std.proofs.Common.{◌≡◌, refl, sym, ap, ◌∙◌, ℕ, ℤ, Bool, true, false, not, ◌==◌, List, [], ◌∷◌, map, Option, Some, None, is_none}
use Rattle.fix_dictionary.specs.declared.messages.QuoteRequest.{QuoteRequest}
use Rattle.fix_dictionary.specs.declared.messages.Quote.{Quote}
use Rattle.fix_dictionary.specs.declared.messages.QuoteCancel.{QuoteCancel}
use Rattle.fix_dictionary.specs.declared.messages.QuoteResponse.{QuoteResponse}
use Rattle.fix_dictionary.specs.declared.values.Side.{Side}
use Rattle.venue_rules.specs.declared.facts.Room.{Room}
use Rattle.venue_rules.specs.declared.facts.RoomQuote.{RoomQuote}
use Rattle.venue_rules.specs.Market.{Market}
use Rattle.venue_rules.specs.Facts.{History}
use Rattle.venue_rules.specs.Answer.{Answer, Sender, answers, first_of}
use Rattle.venue_rules.specs.declared.replies.QuoteState.TheVariants as state
use Rattle.venue_rules.specs.declared.refusals.ResponseRefusal.TheVariants as refusal
use Rattle.venue_rules.specs.Rooms.{find_quote, find_room, room_by_number}
use Rattle.venue_rules.specs.Requests.{answer_request, opened, request_accepted, request_refused}
use Rattle.venue_rules.specs.Quotes.{answer_quote, answer_quote_of, quote_accepted}
use Rattle.venue_rules.specs.Withdrawals.{answer_withdrawal, answer_withdrawal_of, not_found, withdraw_one, withdrawn_or}
use Rattle.venue_rules.specs.Responses.{answer_hit, answer_hit_at, answer_response, answer_response_in, answer_response_to, price_for, response_status, taken_side}
use Rattle.rfq_room.specs.declared.decision.Decision.{Decision}
use Rattle.rfq_room.specs.declared.decision.Decision.TheVariants.{Refuse}
use Rattle.rfq_room.specs.declared.refusal.ResponseCause.TheVariants as response
use Rattle.rfq_room.specs.declared.refusal.WithdrawalRefusal.TheVariants as withdrawal
use Rattle.rfq_room.specs.Causes.{before_hit, cause_or, decide, decide_in, decision_or, form_cause_of, hit_at, hit_on, is_supported, none_found, quote_cause, quote_cause_in, quote_causes, request_cause, request_causes, withdrawal_cause, withdrawal_id}
use Rattle.rfq_room.specs.Named.{named_quotes, quote_room, room_with}
use Rattle.rfq_room.specs.RoomFacts.{room_facts}
use Rattle.rfq_room.specs.Emitted.{quote_refused, quote_emitted, request_emitted, response_emitted, withdrawal_emitted}
use Rattle.rfq_room.specs.Views.{first_cause}
use Rattle.rfq_room.proofs.RoomFacts.{decide-room, find_quote-room, find_room-room, named_quotes-room, quote_cause-room, quote_room-room, request_cause-room, withdrawal_cause-room}

-- The rules' answers are those by the first cause.

by-cause : {C : Type 0} (say : C → Answer) (emitted : Option C → Answer) (a : Answer) (cs : List (Bool × C)) → a ≡ emitted None → ((c : C) → say c ≡ emitted (Some c)) → first_of (map (λ c. (c.0, say c.1)) cs) a ≡ emitted (first_cause cs)
by-cause say emitted a [] none some = none
by-cause say emitted a ((b, c) ∷ cs) none some = one b say emitted a c cs some (by-cause say emitted a cs none some)
  where
    one : {C : Type 0} (b : Bool) (say : C → Answer) (emitted : Option C → Answer) (a : Answer) (c : C) (cs : List (Bool × C)) → ((c : C) → say c ≡ emitted (Some c)) → first_of (map (λ c. (c.0, say c.1)) cs) a ≡ emitted (first_cause cs) → first_of (map (λ c. (c.0, say c.1)) ((b, c) ∷ cs)) a ≡ emitted (first_cause ((b, c) ∷ cs))
    one true say emitted a c cs some h = some c
    one false say emitted a c cs some h = h

-- a request

request-here : (m : Market) (h : History) (s : Sender) (d : QuoteRequest) (t : ℕ) → answer_request m h s d t ≡ request_emitted m h s d t (request_cause m h.facts s.who d t)
request-here m h s d t = by-cause (request_refused s d) (request_emitted m h s d t) (request_accepted m (opened m h s d t)) (request_causes m h.facts s.who d t) refl (λ c. refl)

pub request-emitted : (m : Market) (h : History) (s : Sender) (d : QuoteRequest) (t : ℕ) → answer_request m h s d t ≡ request_emitted m h s d t (request_cause m (room_facts h.facts) s.who d t)
request-emitted m h s d t = request-here m h s d t ∙ ap (request_emitted m h s d t) (sym (request_cause-room m h.facts s.who d t))

-- a quote

quote-here : (m : Market) (h : History) (s : Sender) (d : Quote) (t : ℕ) (x : Option Room) → answer_quote_of m h s d t x ≡ quote_emitted m h s d x (quote_cause_in m h.facts s.who d t x)
quote-here m h s d t None = refl
quote-here m h s d t (Some r) = by-cause (quote_refused m s d (Some r)) (quote_emitted m h s d (Some r)) (quote_accepted m h s r d) (quote_causes m h.facts s.who r d t) refl (λ c. refl)

pub quote-emitted : (m : Market) (h : History) (s : Sender) (d : Quote) (t : ℕ) → answer_quote m h s d t ≡ quote_emitted m h s d (find_room (room_facts h.facts) d.request_id) (quote_cause m (room_facts h.facts) s.who d t)
quote-emitted m h s d t =
    quote-here m h s d t (find_room h.facts d.request_id)
    ∙ ap (quote_emitted m h s d (find_room h.facts d.request_id)) (sym (quote_cause-room m h.facts s.who d t))
    ∙ ap (λ x. quote_emitted m h s d x (quote_cause m (room_facts h.facts) s.who d t)) (sym (find_room-room h.facts d.request_id))

-- a withdrawal

found-or : (m : Market) (h : History) (s : Sender) (d : QuoteCancel) (none : Answer) (qs : List RoomQuote) → none ≡ not_found s (withdrawal_id d) → withdrawn_or m h none qs ≡ withdrawal_emitted m h s d qs (none_found qs)
found-or m h s d none [] e = e
found-or m h s d none (q ∷ qs) e = refl

one-emitted : (m : Market) (h : History) (s : Sender) (d : QuoteCancel) (t : ℕ) (x : Option (List ℕ)) → x ≡ withdrawal_id d → withdraw_one m h s t x ≡ withdrawal_emitted m h s d (named_quotes h.facts s.who t x) (cause_or (none_found (named_quotes h.facts s.who t x)) (elim (is_none x) [ true ↦ Some withdrawal.QuoteMissing | false ↦ None ]))
one-emitted m h s d t None e = refl
one-emitted m h s d t (Some id) e = found-or m h s d (not_found s (Some id)) (named_quotes h.facts s.who t (Some id)) (ap (not_found s) e)

withdrawal-of : (m : Market) (h : History) (s : Sender) (d : QuoteCancel) (t : ℕ) (one all : Bool) → (d.cancel_type == 5) ≡ one → answer_withdrawal_of m h s d t one all ≡ withdrawal_emitted m h s d (named_quotes h.facts s.who t (withdrawal_id d)) (cause_or (none_found (named_quotes h.facts s.who t (withdrawal_id d))) (form_cause_of d one all))
withdrawal-of m h s d t true all e = let id : d.quote_id ≡ withdrawal_id d = rw (e, withdrawal_id) refl in rw (← id) (one-emitted m h s d t d.quote_id id)
withdrawal-of m h s d t false true e = let id : None ≡ withdrawal_id d = rw (e, withdrawal_id) refl in rw (← id) (found-or m h s d (not_found s None) (named_quotes h.facts s.who t None) (ap (not_found s) id))
withdrawal-of m h s d t false false e = refl

pub withdrawal-emitted : (m : Market) (h : History) (s : Sender) (d : QuoteCancel) (t : ℕ) → answer_withdrawal m h s d t ≡ withdrawal_emitted m h s d (named_quotes (room_facts h.facts) s.who t (withdrawal_id d)) (withdrawal_cause (room_facts h.facts) s.who d t)
withdrawal-emitted m h s d t =
    withdrawal-of m h s d t (d.cancel_type == 5) (d.cancel_type == 4) refl
    ∙ ap (withdrawal_emitted m h s d (named_quotes h.facts s.who t (withdrawal_id d))) (sym (withdrawal_cause-room h.facts s.who d t))
    ∙ ap (λ qs. withdrawal_emitted m h s d qs (withdrawal_cause (room_facts h.facts) s.who d t)) (sym (named_quotes-room h.facts s.who t (withdrawal_id d)))

-- a quote response

hit-at : (m : Market) (h : History) (s : Sender) (r : Room) (q : RoomQuote) (d : QuoteResponse) (t : ℕ) (side : Side) (x : Option ℤ) → answer_hit_at m h s r q d t side x ≡ response_emitted m h s d t (Some q) (Some r) (hit_at side x)
hit-at m h s r q d t side None = refl
hit-at m h s r q d t side (Some price) = refl

hit-emitted : (m : Market) (h : History) (s : Sender) (r : Room) (q : RoomQuote) (d : QuoteResponse) (t : ℕ) (x : Option Side) → answer_hit m h s r q d t x ≡ response_emitted m h s d t (Some q) (Some r) (hit_on q x)
hit-emitted m h s r q d t None = refl
hit-emitted m h s r q d t (Some side) = hit-at m h s r q d t side (price_for side q)

in-emitted : (m : Market) (h : History) (s : Sender) (q : RoomQuote) (d : QuoteResponse) (t : ℕ) (y : Option Room) → answer_response_in m h s q d t y ≡ response_emitted m h s d t (Some q) y (decide_in h.facts s.who d t (Some q) y)
in-emitted m h s q d t None = refl
in-emitted m h s q d t (Some r) =
    let say : Decision → Answer = response_emitted m h s d t (Some q) (Some r) in
    by-cause say (λ x. say (decision_or (hit_on q (taken_side r.side d.side)) x)) (answer_hit m h s r q d t (taken_side r.side d.side)) (before_hit h.facts s.who r q d t) (hit-emitted m h s r q d t (taken_side r.side d.side)) (λ c. refl)

to-emitted : (m : Market) (h : History) (s : Sender) (d : QuoteResponse) (t : ℕ) (x : Option RoomQuote) → answer_response_to m h s d t x ≡ response_emitted m h s d t x (room_with h.facts x) (decide_in h.facts s.who d t x (room_with h.facts x))
to-emitted m h s d t None = refl
to-emitted m h s d t (Some q) = in-emitted m h s q d t (room_by_number h.facts q.room)

response-by : (m : Market) (h : History) (s : Sender) (d : QuoteResponse) (t : ℕ) (b : Bool) → first_of ((not b, answers (response_status s d None None (state.ResponseRefused refusal.UnsupportedResponse) ∷ [])) ∷ []) (answer_response_to m h s d t (find_quote h.facts d.quote_id)) ≡ response_emitted m h s d t (find_quote h.facts d.quote_id) (quote_room h.facts d.quote_id) (elim b [ true ↦ decide_in h.facts s.who d t (find_quote h.facts d.quote_id) (quote_room h.facts d.quote_id) | false ↦ Refuse response.Unsupported ])
response-by m h s d t true = to-emitted m h s d t (find_quote h.facts d.quote_id)
response-by m h s d t false = refl

pub response-emitted : (m : Market) (h : History) (s : Sender) (d : QuoteResponse) (t : ℕ) → answer_response m h s d t ≡ response_emitted m h s d t (find_quote (room_facts h.facts) d.quote_id) (quote_room (room_facts h.facts) d.quote_id) (decide (room_facts h.facts) s.who d t)
response-emitted m h s d t =
    response-by m h s d t (is_supported d)
    ∙ ap (response_emitted m h s d t (find_quote h.facts d.quote_id) (quote_room h.facts d.quote_id)) (sym (decide-room h.facts s.who d t))
    ∙ ap (λ y. response_emitted m h s d t (find_quote h.facts d.quote_id) y (decide (room_facts h.facts) s.who d t)) (sym (quote_room-room h.facts d.quote_id))
    ∙ ap (λ x. response_emitted m h s d t x (quote_room (room_facts h.facts) d.quote_id) (decide (room_facts h.facts) s.who d t)) (sym (find_quote-room h.facts d.quote_id))
