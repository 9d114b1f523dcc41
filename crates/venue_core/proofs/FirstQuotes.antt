use Rattle.std.proofs.Common.{◌≡◌, refl, sym, ap, ◌∙◌, subst, ℕ, ◌==◌, Bool, true, false, ◌&&◌, cond, List, [], ◌∷◌, ◌++◌, map, find, Option, Some, None, is_some, bytes_eq, arith}
use Rattle.std.proofs.lemmas.Bool.Decides.{nat_tests}
use Rattle.fix_dictionary.specs.declared.messages.Quote.{Quote}
use Rattle.fix_dictionary.specs.declared.messages.QuoteCancel.{QuoteCancel}
use Rattle.fix_dictionary.specs.declared.messages.QuoteRequest.{QuoteRequest}
use Rattle.fix_dictionary.specs.declared.messages.QuoteResponse.{QuoteResponse}
use Rattle.venue_rules.specs.declared.facts.Fact.{Fact}
use Rattle.venue_rules.specs.declared.facts.Fact.TheVariants.{Quoted, Withdrawn}
use Rattle.venue_rules.specs.declared.facts.Room.{Room}
use Rattle.venue_rules.specs.declared.facts.RoomQuote.{RoomQuote}
use Rattle.venue_rules.specs.declared.refusals.QuoteRefusal.{QuoteRefusal}
use Rattle.venue_rules.specs.declared.refusals.RequestRefusal.{RequestRefusal}
use Rattle.venue_rules.specs.declared.replies.QuoteState.TheVariants as state
use Rattle.instruments.specs.Listing.{symbol_of}
use Rattle.venue_rules.specs.Answer.{Answer, Sender}
use Rattle.venue_rules.specs.Book.{picture}
use Rattle.venue_rules.specs.Facts.{History, rooms}
use Rattle.venue_rules.specs.Market.{Market}
use Rattle.venue_rules.specs.Quotes.{answer_quote, quote_sent, quote_status, quoted, shown_with}
use Rattle.venue_rules.specs.Requests.{answer_request}
use Rattle.venue_rules.specs.Responses.{answer_response}
use Rattle.venue_rules.specs.Rooms.{find_quote, find_room, first_quote, printed, room_by_number}
use Rattle.venue_rules.specs.Withdrawals.{answer_withdrawal}
use Rattle.rfq_room.specs.declared.decision.Decision.{Decision}
use Rattle.rfq_room.specs.declared.decision.Decision.TheVariants.{Refuse, Pass, Trade}
use Rattle.rfq_room.specs.declared.refusal.ResponseCause.{ResponseCause}
use Rattle.rfq_room.specs.declared.refusal.ResponseCause.TheVariants as response
use Rattle.rfq_room.specs.declared.refusal.WithdrawalRefusal.{WithdrawalRefusal}
use Rattle.rfq_room.specs.declared.refusal.WithdrawalRefusal.TheVariants as withdrawal
use Rattle.rfq_room.specs.Causes.{decide, quote_cause, request_cause, withdrawal_cause, withdrawal_id}
use Rattle.rfq_room.specs.Named.{named_quotes, quote_room}
use Rattle.rfq_room.specs.RoomFacts.{room_facts}
use Rattle.rfq_room.specs.Emitted.{quote_emitted, request_emitted, response_refused, response_emitted, withdrawal_emitted}
use Rattle.trade_history.specs.ReadOf.{are_later}
use Rattle.venue_core.specs.Read.{IsReadWith, quote_read, read_in}

-- An element found by one test is found by a stricter one that it passes.

found-passes : {X : Type 0} (p : X → Bool) (xs : List X) (x : X) → find p xs ≡ Some x → p x ≡ true
found-passes p [] x found = cc
found-passes p (y ∷ ys) x found = step (p y) p x y (find p ys) refl found (λ f. found-passes p ys x f)
  where
    step : {X : Type 0} (b : Bool) (p : X → Bool) (x y : X) (rest : Option X) → p y ≡ b → cond b (Some y) rest ≡ Some x → (rest ≡ Some x → p x ≡ true) → p x ≡ true
    step true p x y rest e found later = let same : y ≡ x = cc in ap p (sym same) ∙ e
    step false p x y rest e found later = later found

found-narrower : {X : Type 0} (p q : X → Bool) (xs : List X) (x : X) → find p xs ≡ Some x → q x ≡ true → ((y : X) → q y ≡ true → p y ≡ true) → find q xs ≡ Some x
found-narrower p q [] x found here sub = cc
found-narrower p q (y ∷ ys) x found here sub = step (p y) (q y) p q x y (find p ys) (find q ys) refl refl here (sub y) found (λ f. found-narrower p q ys x f here sub)
  where
    step : {X : Type 0} (a b : Bool) (p q : X → Bool) (x y : X) (left rest : Option X) → p y ≡ a → q y ≡ b → q x ≡ true → (q y ≡ true → p y ≡ true) → cond a (Some y) left ≡ Some x → (left ≡ Some x → rest ≡ Some x) → cond b (Some y) rest ≡ Some x
    step true true p q x y left rest e f here sub found later = found
    step true false p q x y left rest e f here sub found later = let same : y ≡ x = cc in let gone : q x ≡ false = ap q (sym same) ∙ f in cc
    step false true p q x y left rest e f here sub found later = let passed : p y ≡ true = sub f in cc
    step false false p q x y left rest e f here sub found later = later found

same-number : (a b : ℕ) → (a == b) ≡ true → a ≡ b
same-number a b h = grind (arith, nat_tests)

own-number : (a : ℕ) → (a == a) ≡ true
own-number a = grind (arith, nat_tests)

-- a room found by its identifier is found by its number
room-named : (facts : List Fact) (id : List ℕ) (r : Room) → find_room facts id ≡ Some r → room_by_number facts r.number ≡ Some r
room-named facts id r found =
    found-narrower (λ (y : Room). bytes_eq (printed 82 y.number) id) (λ (y : Room). y.number == r.number) (rooms facts) r found (own-number r.number)
    (λ y same. ap (λ n. bytes_eq (printed 82 n) id) (same-number y.number r.number same) ∙ found-passes (λ (y : Room). bytes_eq (printed 82 y.number) id) (rooms facts) r found)

-- The reading of the replies to a quote is right.

abbrev pub QuoteLaw : Type 0
QuoteLaw = (m : Market) (h : History) (s : Sender) (d : Quote) (t : ℕ) → answer_quote m h s d t ≡ quote_emitted m h s d (find_room (room_facts h.facts) d.request_id) (quote_cause m (room_facts h.facts) s.who d t)

abbrev pub FirstLaw : Type 0
FirstLaw = (fs : List Fact) (room : ℕ) → first_quote fs room ≡ first_quote (room_facts fs) room

-- the answer to an accepted quote, by the first quote of the room
abbrev accepted_after : Market → History → Sender → Room → Quote → Option RoomQuote → Answer
accepted_after m h s r d first =
    let q = quoted h s r d in
    record { facts = Quoted q ∷ []; replies = quote_status s d (Some (symbol_of m.instruments r.instrument)) state.Accepted ∷ shown_with m h r first ++ quote_sent m r q ∷ [] }

accepted-read : FirstLaw → (m : Market) (h : History) (s : Sender) (r : Room) (d : Quote) (first : Option RoomQuote) → first_quote h.facts r.number ≡ first → room_by_number (room_facts h.facts) r.number ≡ Some r
    → IsReadWith h.facts (accepted_after m h s r d first).facts (quote_read (room_facts h.facts) (accepted_after m h s r d first))
accepted-read law m h s r d (Some q) e here = ap (λ (o : Option RoomQuote). is_some o && true) (sym (law h.facts r.number) ∙ e)
accepted-read law m h s r d None e here =
    subst (λ (o : Option Room). IsReadWith h.facts (Quoted (quoted h s r d) ∷ []) (read_in (Some (picture h.facts r.instrument)) (Some (quoted h s r d)) o)) (sym here)
    (record { asked = r; quote = quoted h s r d; made = refl; room = here; first = sym (law h.facts r.number) ∙ e; shown = refl })

emitted-read : FirstLaw → (m : Market) (h : History) (s : Sender) (d : Quote) (room : Option Room) (cause : Option QuoteRefusal) → find_room (room_facts h.facts) d.request_id ≡ room
    → IsReadWith h.facts (quote_emitted m h s d room cause).facts (quote_read (room_facts h.facts) (quote_emitted m h s d room cause))
emitted-read law m h s d None (Some cause) e = refl
emitted-read law m h s d (Some r) (Some cause) e = refl
emitted-read law m h s d None None e = refl
emitted-read law m h s d (Some r) None e = accepted-read law m h s r d (first_quote h.facts r.number) refl (room-named (room_facts h.facts) d.request_id r e)

pub quote-is-read : QuoteLaw → FirstLaw → (m : Market) (h : History) (s : Sender) (d : Quote) (t : ℕ) (kept : List Fact) (a : Answer) → room_facts h.facts ≡ kept → a ≡ answer_quote m h s d t → IsReadWith h.facts a.facts (quote_read kept a)
quote-is-read law first m h s d t kept a same is =
    subst (λ (fs : List Fact). IsReadWith h.facts a.facts (quote_read fs a)) same
    (subst (λ (b : Answer). IsReadWith h.facts b.facts (quote_read (room_facts h.facts) b)) (sym (is ∙ law m h s d t))
    (emitted-read first m h s d (find_room (room_facts h.facts) d.request_id) (quote_cause m (room_facts h.facts) s.who d t) refl))

-- The other room messages add no quote.

abbrev pub RequestLaw : Type 0
RequestLaw = (m : Market) (h : History) (s : Sender) (d : QuoteRequest) (t : ℕ) → answer_request m h s d t ≡ request_emitted m h s d t (request_cause m (room_facts h.facts) s.who d t)

abbrev pub WithdrawalLaw : Type 0
WithdrawalLaw = (m : Market) (h : History) (s : Sender) (d : QuoteCancel) (t : ℕ) → answer_withdrawal m h s d t ≡ withdrawal_emitted m h s d (named_quotes (room_facts h.facts) s.who t (withdrawal_id d)) (withdrawal_cause (room_facts h.facts) s.who d t)

abbrev pub ResponseLaw : Type 0
ResponseLaw = (m : Market) (h : History) (s : Sender) (d : QuoteResponse) (t : ℕ) → answer_response m h s d t ≡ response_emitted m h s d t (find_quote (room_facts h.facts) d.quote_id) (quote_room (room_facts h.facts) d.quote_id) (decide (room_facts h.facts) s.who d t)

-- no quote among the facts of an answer is the first of its room
abbrev HasNoFirst : List Fact → Answer → Type 0
HasNoFirst facts a = are_later (room_facts facts) (room_facts a.facts) ≡ true

request-emitted : (facts : List Fact) (m : Market) (h : History) (s : Sender) (d : QuoteRequest) (t : ℕ) (cause : Option RequestRefusal) → HasNoFirst facts (request_emitted m h s d t cause)
request-emitted facts m h s d t None = refl
request-emitted facts m h s d t (Some cause) = refl

pub request-adds-none : RequestLaw → (m : Market) (h : History) (s : Sender) (d : QuoteRequest) (t : ℕ) (a : Answer) → a ≡ answer_request m h s d t → HasNoFirst h.facts a
request-adds-none law m h s d t a is = subst (λ (b : Answer). HasNoFirst h.facts b) (sym (is ∙ law m h s d t)) (request-emitted h.facts m h s d t (request_cause m (room_facts h.facts) s.who d t))

withdrawn-none : (facts : List Fact) (qs : List RoomQuote) → are_later (room_facts facts) (room_facts (map (λ (q : RoomQuote). Withdrawn (record { quote = q.number })) qs)) ≡ true
withdrawn-none facts [] = refl
withdrawn-none facts (q ∷ qs) = withdrawn-none facts qs

withdrawal-emitted : (facts : List Fact) (m : Market) (h : History) (s : Sender) (d : QuoteCancel) (qs : List RoomQuote) (cause : Option WithdrawalRefusal) → HasNoFirst facts (withdrawal_emitted m h s d qs cause)
withdrawal-emitted facts m h s d qs None = withdrawn-none facts qs
withdrawal-emitted facts m h s d qs (Some withdrawal.QuoteMissing) = refl
withdrawal-emitted facts m h s d qs (Some withdrawal.NotFound) = refl
withdrawal-emitted facts m h s d qs (Some withdrawal.Unsupported) = refl

pub withdrawal-adds-none : WithdrawalLaw → (m : Market) (h : History) (s : Sender) (d : QuoteCancel) (t : ℕ) (a : Answer) → a ≡ answer_withdrawal m h s d t → HasNoFirst h.facts a
withdrawal-adds-none law m h s d t a is = subst (λ (b : Answer). HasNoFirst h.facts b) (sym (is ∙ law m h s d t)) (withdrawal-emitted h.facts m h s d (named_quotes (room_facts h.facts) s.who t (withdrawal_id d)) (withdrawal_cause (room_facts h.facts) s.who d t))

refused-none : (facts : List Fact) (m : Market) (s : Sender) (d : QuoteResponse) (room : Option Room) (cause : ResponseCause) → HasNoFirst facts (response_refused m s d room cause)
refused-none facts m s d room response.Unsupported = refl
refused-none facts m s d room response.UnknownQuote = refl
refused-none facts m s d room response.NotYours = refl
refused-none facts m s d room response.Over = refl
refused-none facts m s d room response.Withdrawn = refl
refused-none facts m s d room response.Expired = refl
refused-none facts m s d room response.OtherSide = refl
refused-none facts m s d room response.SideMissing = refl
refused-none facts m s d room response.NoPrice = refl

response-emitted : (facts : List Fact) (m : Market) (h : History) (s : Sender) (d : QuoteResponse) (t : ℕ) (q : Option RoomQuote) (room : Option Room) (what : Decision) → HasNoFirst facts (response_emitted m h s d t q room what)
response-emitted facts m h s d t q room (Refuse cause) = refused-none facts m s d room cause
response-emitted facts m h s d t (Some q) (Some r) Pass = refl
response-emitted facts m h s d t (Some q) (Some r) (Trade hit) = refl
response-emitted facts m h s d t (Some q) None Pass = refl
response-emitted facts m h s d t (Some q) None (Trade hit) = refl
response-emitted facts m h s d t None room Pass = refl
response-emitted facts m h s d t None room (Trade hit) = refl

pub response-adds-none : ResponseLaw → (m : Market) (h : History) (s : Sender) (d : QuoteResponse) (t : ℕ) (a : Answer) → a ≡ answer_response m h s d t → HasNoFirst h.facts a
response-adds-none law m h s d t a is = subst (λ (b : Answer). HasNoFirst h.facts b) (sym (is ∙ law m h s d t)) (response-emitted h.facts m h s d t (find_quote (room_facts h.facts) d.quote_id) (quote_room (room_facts h.facts) d.quote_id) (decide (room_facts h.facts) s.who d t))
