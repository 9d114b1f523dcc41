use Rattle.std.proofs.Common.{◌≡◌, refl, sym, ap, ◌∙◌, subst, ℕ, ◌+◌, ◌*◌, ◌<◌, ◌==◌, true, List, length, Option, Some, None, IsSome, MatchOption, is_some, option_map, bytes_eq, Result, Ok, Err, IfOk}
use Rattle.fix_dictionary.specs.declared.messages.QuoteResponse.{QuoteResponse}
use Rattle.instruments.specs.declared.instruments.Instrument.{Instrument}
use Rattle.venue_rules.specs.declared.facts.Fact.{Fact}
use Rattle.venue_rules.specs.declared.facts.Room.{Room}
use Rattle.venue_rules.specs.declared.facts.RoomQuote.{RoomQuote}
use Rattle.venue_rules.specs.declared.replies.Reply.{Reply}
use Rattle.venue_rules.specs.Market.{Market}
use Rattle.venue_rules.specs.Facts.{History, next_trade, quotes, trades}
use Rattle.venue_rules.specs.Rooms.{find_quote, printed, room_by_number}
use Rattle.venue_rules.specs.Answer.{Answer, Sender}
use Rattle.venue_rules.specs.Responses.{answer_response, passed, room_traded}
use Rattle.rfq_room.specs.declared.decision.Decision.{Decision}
use Rattle.rfq_room.specs.declared.decision.Decision.TheVariants.{Refuse, Pass, Trade}
use Rattle.rfq_room.specs.declared.decision.Hit.{Hit}
use Rattle.rfq_room.specs.declared.refusal.Cause.{Cause}
use Rattle.rfq_room.specs.declared.refusal.Cause.TheVariants as cause
use Rattle.rfq_room.specs.declared.refusal.Refusal.{Refusal}
use Rattle.rfq_room.specs.declared.refusal.ResponseCause.{ResponseCause}
use Rattle.rfq_room.specs.Causes.{decide, refused_by}
use Rattle.rfq_room.specs.RoomStore.{are_listed}
use Rattle.rfq_room.specs.Named.{quote_by_number, quote_room, room_with}
use Rattle.rfq_room.specs.Plan.{Plan}
use Rattle.rfq_room.specs.Plans.{IsResponsePlan, IsResponsePlanned}
use Rattle.rfq_room.specs.Refusals.{IsRefusalOf, IsResponseRefused, cause_of}
use Rattle.rfq_room.specs.RoomFacts.{room_facts}
use Rattle.rfq_room.specs.Emitted.{response_emitted}
use Rattle.rfq_handler.specs.Counting.{reports_in, trades_in}
use Rattle.rfq_handler.specs.Known.{are_known}
use Rattle.rfq_handler.specs.Read.{first_answered}
use Rattle.rfq_handler.specs.Responded.{IsAnswerTo, IsResponseEmitted, notify_hit, hits, pass_emitted, response_replies}
use Rattle.rfq_handler.proofs.Lists.{by-number, same_some}
use Rattle.rfq_handler.proofs.Rooms.{find-listed}

-- the rooms' decision gives the rules' answer
abbrev pub ResponseLaw : Type 0
ResponseLaw = (m : Market) (h : History) (s : Sender) (d : QuoteResponse) (t : ℕ) → answer_response m h s d t ≡ response_emitted m h s d t (find_quote (room_facts h.facts) d.quote_id) (quote_room (room_facts h.facts) d.quote_id) (decide (room_facts h.facts) s.who d t)

pub response-answer : ResponseLaw → (m : Market) (h : History) (s : Sender) (d : QuoteResponse) (t : ℕ) (facts : List Fact) (x : Option RoomQuote) (y : Option Room) (z : Decision) → room_facts h.facts ≡ facts → find_quote facts d.quote_id ≡ x → quote_room facts d.quote_id ≡ y → decide facts s.who d t ≡ z → response_emitted m h s d t x y z ≡ answer_response m h s d t
response-answer law m h s d t facts x y z e f g k =
    sym (law m h s d t
    ∙ ap (λ fs. response_emitted m h s d t (find_quote fs d.quote_id) (quote_room fs d.quote_id) (decide fs s.who d t)) e
    ∙ ap (λ x. response_emitted m h s d t x (quote_room facts d.quote_id) (decide facts s.who d t)) f
    ∙ ap (λ y. response_emitted m h s d t x y (decide facts s.who d t)) g
    ∙ ap (response_emitted m h s d t x y) k)

-- the cause of a refusal is the one that holds
pub response-holds : (decision : Decision) (refusal : Refusal) (c : ResponseCause) → IsResponseRefused (refused_by decision) refusal → cause_of refusal ≡ Some (cause.Response c) → decision ≡ Refuse c
response-holds decision refusal c h k =
    let P : Option Cause → Type 0 = λ x. IsRefusalOf (option_map (λ c. cause.Response c) (refused_by decision)) refusal x in
    found decision c (subst P k h).0
  where
    found : (decision : Decision) (c : ResponseCause) → option_map (λ c. cause.Response c) (refused_by decision) ≡ Some (cause.Response c) → decision ≡ Refuse c
    found (Refuse x) c e = cc
    found Pass c e = cc
    found (Trade hit) c e = cc

-- the room with the quote's room number is the room of the quote
pub room-of : (facts : List Fact) (id : List ℕ) (q : RoomQuote) → find_quote facts id ≡ Some q → room_by_number facts q.room ≡ quote_room facts id
room-of facts id q e = sym (ap (room_with facts) e)

-- a quote's room is in a listed instrument
pub room-listed : (count : ℕ) (facts : List Fact) (id : List ℕ) (r : Room) → are_listed count facts ≡ true → quote_room facts id ≡ Some r → r.instrument < count
room-listed count facts id r h e = found count facts (find_quote facts id) r h e
  where
    found : (count : ℕ) (facts : List Fact) (x : Option RoomQuote) (r : Room) → are_listed count facts ≡ true → room_with facts x ≡ Some r → r.instrument < count
    found count facts None r h e = cc
    found count facts (Some q) r h e = find-listed count (λ r. r.number == q.room) facts r h e

-- a plan is of the quote named, in an existing room

pub planned-quote-there : (facts : List Fact) (who : ℕ) (d : QuoteResponse) (t : ℕ) (decision : Decision) (p : Plan) → IsResponsePlanned facts who d t decision p → IsAnswerTo facts d.quote_id p.facts
planned-quote-there facts who d t decision p h = found who t decision p (find_quote facts d.quote_id) (quote_room facts d.quote_id) h
  where
    found : (who t : ℕ) (decision : Decision) (p : Plan) (x : Option RoomQuote) (y : Option Room) → MatchOption x ⊥ (λ q. MatchOption y ⊥ (λ r. IsResponsePlan who t q r decision p)) → MatchOption x ⊥ (λ q. first_answered p.facts ≡ Some q.number)
    found who t decision p None y h = absurd h
    found who t decision p (Some q) None h = absurd h
    found who t (Refuse c) p (Some q) (Some r) h = absurd h
    found who t Pass p (Some q) (Some r) h = ap (λ (p : Plan). first_answered p.facts) h
    found who t (Trade hit) p (Some q) (Some r) h = ap (λ (p : Plan). first_answered p.facts) h

pub planned-room-there : (facts : List Fact) (who : ℕ) (d : QuoteResponse) (t : ℕ) (decision : Decision) (p : Plan) → IsResponsePlanned facts who d t decision p → IsSome (quote_room facts d.quote_id)
planned-room-there facts who d t decision p h = found who t decision p (find_quote facts d.quote_id) (quote_room facts d.quote_id) h
  where
    found : (who t : ℕ) (decision : Decision) (p : Plan) (x : Option RoomQuote) (y : Option Room) → MatchOption x ⊥ (λ q. MatchOption y ⊥ (λ r. IsResponsePlan who t q r decision p)) → IsSome y
    found who t decision p None y h = absurd h
    found who t decision p (Some q) None h = absurd h
    found who t decision p (Some q) (Some r) h = refl

-- that quote exists, under the plan's number

pub quote-there : (facts : List Fact) (id : List ℕ) (added : List Fact) → IsAnswerTo facts id added → IsSome (find_quote facts id)
quote-there facts id added h = found (find_quote facts id) h
  where
    found : (x : Option RoomQuote) → MatchOption x ⊥ (λ q. first_answered added ≡ Some q.number) → IsSome x
    found None k = absurd k
    found (Some q) k = refl

pub number-there : (facts : List Fact) (id : List ℕ) (added : List Fact) → IsAnswerTo facts id added → IsSome (first_answered added)
number-there facts id added h = found (find_quote facts id) h
  where
    found : (x : Option RoomQuote) → MatchOption x ⊥ (λ q. first_answered added ≡ Some q.number) → IsSome (first_answered added)
    found None k = absurd k
    found (Some q) k = ap is_some k

pub answered-quote : (facts : List Fact) (id : List ℕ) (added : List Fact) (number : ℕ) → IsAnswerTo facts id added → Some number ≡ first_answered added → quote_by_number facts number ≡ find_quote facts id
answered-quote facts id added number h e = found (find_quote facts id) refl h
  where
    found : (x : Option RoomQuote) → find_quote facts id ≡ x → MatchOption x ⊥ (λ q. first_answered added ≡ Some q.number) → quote_by_number facts number ≡ x
    found None is k = absurd k
    found (Some q) is k =
        ap (quote_by_number facts) (same_some number q.number (e ∙ k))
        ∙ by-number (λ (q : RoomQuote). q.number) (λ n. bytes_eq (printed 81 n) id) (quotes facts) q is

-- the plan of a hit is a trade, any other none
one-trade : (who t : ℕ) (p : Plan) (x : Option RoomQuote) (y : Option Room) (z : Decision) → MatchOption x ⊥ (λ q. MatchOption y ⊥ (λ r. IsResponsePlan who t q r z p)) → trades_in p.facts ≡ hits p.hit
one-trade who t p None y z h = absurd h
one-trade who t p (Some q) None z h = absurd h
one-trade who t p (Some q) (Some r) (Refuse c) h = absurd h
one-trade who t p (Some q) (Some r) Pass h = ap (λ (p : Plan). trades_in p.facts) h ∙ sym (ap (λ (p : Plan). hits p.hit) h)
one-trade who t p (Some q) (Some r) (Trade hit) h = ap (λ (p : Plan). trades_in p.facts) h ∙ sym (ap (λ (p : Plan). hits p.hit) h)

pub planned-trades : (facts : List Fact) (who : ℕ) (d : QuoteResponse) (t : ℕ) (decision : Decision) (p : Plan) → IsResponsePlanned facts who d t decision p → trades_in p.facts ≡ hits p.hit
planned-trades facts who d t decision p h = one-trade who t p (find_quote facts d.quote_id) (quote_room facts d.quote_id) decision h

-- a response adds no participant
none-known : (who t : ℕ) (p : Plan) (count : ℕ) (x : Option RoomQuote) (y : Option Room) (z : Decision) → MatchOption x ⊥ (λ q. MatchOption y ⊥ (λ r. IsResponsePlan who t q r z p)) → are_known count p.facts ≡ true
none-known who t p count None y z h = absurd h
none-known who t p count (Some q) None z h = absurd h
none-known who t p count (Some q) (Some r) (Refuse c) h = absurd h
none-known who t p count (Some q) (Some r) Pass h = ap (λ (p : Plan). are_known count p.facts) h
none-known who t p count (Some q) (Some r) (Trade hit) h = ap (λ (p : Plan). are_known count p.facts) h

pub response-known : (facts : List Fact) (who : ℕ) (d : QuoteResponse) (t : ℕ) (decision : Decision) (p : Plan) (count : ℕ) → IsResponsePlanned facts who d t decision p → are_known count p.facts ≡ true
response-known facts who d t decision p count h = none-known who t p count (find_quote facts d.quote_id) (quote_room facts d.quote_id) decision h

-- two reports of a trade, none of a pass
pub replies-counted : (is : List Instrument) (reports traded : ℕ) (s : Sender) (d : QuoteResponse) (r : Room) (q : RoomQuote) (hit : Option Hit) → 2 * hits hit ≡ reports_in (response_replies is reports traded s d r q hit)
unfolding response_replies pass_emitted notify_hit
replies-counted is reports traded s d r q None = refl
replies-counted is reports traded s d r q (Some hit) = refl

-- replies of the quote and room found
pub emitted-of : (is : List Instrument) (facts : List Fact) (reports traded : ℕ) (s : Sender) (d : QuoteResponse) (hit : Option Hit) (replies : List Reply) (q : RoomQuote) (r : Room)
    → find_quote facts d.quote_id ≡ Some q → quote_room facts d.quote_id ≡ Some r → replies ≡ response_replies is reports traded s d r q hit → IsResponseEmitted is facts reports traded s d hit replies
emitted-of is facts reports traded s d hit replies q r e f h =
    let P : Option RoomQuote → Type 0 = λ x. MatchOption x ⊥ (λ q. MatchOption (quote_room facts d.quote_id) ⊥ (λ r. replies ≡ response_replies is reports traded s d r q hit)) in
    let Q : Option Room → Type 0 = λ y. MatchOption y ⊥ (λ r. replies ≡ response_replies is reports traded s d r q hit) in
    subst P (sym e) (subst Q (sym f) h)

-- an answer by its parts
parts : (a : Answer) (fs : List Fact) (rs : List Reply) → a.facts ≡ fs → a.replies ≡ rs → a ≡ record { facts = fs; replies = rs }
parts a fs rs e f =
    ap (λ (x : List Fact). let y : Answer = record { facts = x; replies = a.replies } in y) e
    ∙ ap (λ (x : List Reply). let y : Answer = record { facts = fs; replies = x } in y) f

-- the replies to a pass, and to a hit, are the rules'
pass-rules : (m : Market) (s : Sender) (d : QuoteResponse) (r : Room) (q : RoomQuote) → pass_emitted m.instruments s d r q ≡ (passed m s r q d).replies
unfolding pass_emitted
pass-rules m s d r q = refl

hit-rules : (m : Market) (h : History) (s : Sender) (d : QuoteResponse) (t : ℕ) (r : Room) (q : RoomQuote) (hit : Hit) (reports traded : ℕ) → h.reports ≡ reports → length (trades h.facts) ≡ traded
    → notify_hit m.instruments r (traded + 1) s.who q.maker hit d reports ≡ (room_traded m h s r q d hit.side hit.price t).replies
unfolding notify_hit
hit-rules m h s d t r q hit reports traded reported before =
    ap (λ n. notify_hit m.instruments r (n + 1) s.who q.maker hit d reports) (sym before)
    ∙ ap (λ n. notify_hit m.instruments r (next_trade h.facts) s.who q.maker hit d n) (sym reported)

-- the answer by the decision
decided : (m : Market) (h : History) (s : Sender) (d : QuoteResponse) (t reports traded : ℕ) (p : Plan) (a : Answer) (q : RoomQuote) (r : Room) (z : Decision)
    → h.reports ≡ reports → length (trades h.facts) ≡ traded → a.facts ≡ p.facts → IsResponsePlan s.who t q r z p → a.replies ≡ response_replies m.instruments reports traded s d r q p.hit
    → a ≡ response_emitted m h s d t (Some q) (Some r) z
unfolding response_replies
decided m h s d t reports traded p a q r (Refuse c) reported before e planned emitted = absurd planned
decided m h s d t reports traded p a q r Pass reported before e planned emitted =
    parts a _ _ (e ∙ ap (λ (p : Plan). p.facts) planned) (emitted ∙ ap (λ (p : Plan). response_replies m.instruments reports traded s d r q p.hit) planned ∙ pass-rules m s d r q)
decided m h s d t reports traded p a q r (Trade hit) reported before e planned emitted =
    parts a _ _ (e ∙ ap (λ (p : Plan). p.facts) planned) (emitted ∙ ap (λ (p : Plan). response_replies m.instruments reports traded s d r q p.hit) planned ∙ hit-rules m h s d t r q hit reports traded reported before)

by-option : (m : Market) (h : History) (s : Sender) (d : QuoteResponse) (t reports traded : ℕ) (p : Plan) (a : Answer) (x : Option RoomQuote) (y : Option Room) (z : Decision)
    → h.reports ≡ reports → length (trades h.facts) ≡ traded → a.facts ≡ p.facts
    → MatchOption x ⊥ (λ q. MatchOption y ⊥ (λ r. IsResponsePlan s.who t q r z p))
    → MatchOption x ⊥ (λ q. MatchOption y ⊥ (λ r. a.replies ≡ response_replies m.instruments reports traded s d r q p.hit))
    → a ≡ response_emitted m h s d t x y z
by-option m h s d t reports traded p a None y z reported before e planned emitted = absurd planned
by-option m h s d t reports traded p a (Some q) None z reported before e planned emitted = absurd planned
by-option m h s d t reports traded p a (Some q) (Some r) z reported before e planned emitted = decided m h s d t reports traded p a q r z reported before e planned emitted

pub accepted-answer : ResponseLaw → (m : Market) (h : History) (s : Sender) (d : QuoteResponse) (t : ℕ) (facts : List Fact) (reports traded : ℕ) (p : Plan) (a : Answer)
    → room_facts h.facts ≡ facts → h.reports ≡ reports → length (trades h.facts) ≡ traded
    → IsResponsePlanned facts s.who d t (decide facts s.who d t) p → a.facts ≡ p.facts → IsResponseEmitted m.instruments facts reports traded s d p.hit a.replies
    → a ≡ answer_response m h s d t
accepted-answer law m h s d t facts reports traded p a is reported before planned e emitted =
    by-option m h s d t reports traded p a (find_quote facts d.quote_id) (quote_room facts d.quote_id) (decide facts s.who d t) reported before e planned emitted
    ∙ response-answer law m h s d t facts (find_quote facts d.quote_id) (quote_room facts d.quote_id) (decide facts s.who d t) is refl refl refl

-- two properties of a result
pub if-both : {X E : Type 0} (x : Result X E) (P Q : X → Type 0) → IfOk x P → IfOk x Q → IfOk x (λ y. P y × Q y)
if-both (Ok y) P Q h k = (h, k)
if-both (Err e) P Q h k = tt
