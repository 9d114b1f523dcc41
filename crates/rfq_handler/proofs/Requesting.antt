use Rattle.std.proofs.Common.{◌≡◌, refl, sym, ap, ◌∙◌, subst, ℕ, true, List, [], ◌∷◌, map, filter, length, Option, Some, None, ◌&&◌, ◌==◌, option_map}
use Rattle.fix_dictionary.specs.declared.messages.QuoteRequest.{QuoteRequest}
use Rattle.instruments.specs.Listing.{symbol_of}
use Rattle.venue_rules.specs.declared.facts.Fact.{Fact}
use Rattle.venue_rules.specs.declared.facts.Fact.TheVariants.{Asked}
use Rattle.venue_rules.specs.declared.facts.Room.{Room}
use Rattle.venue_rules.specs.declared.refusals.RequestRefusal.{RequestRefusal}
use Rattle.venue_rules.specs.declared.replies.Reply.{Reply}
use Rattle.venue_rules.specs.Market.{Market}
use Rattle.venue_rules.specs.Facts.{History}
use Rattle.venue_rules.specs.Answer.{Answer, Sender}
use Rattle.venue_rules.specs.Requests.{answer_request, opened, request_accepted}
use Rattle.rfq_room.specs.declared.refusal.Cause.{Cause}
use Rattle.rfq_room.specs.declared.refusal.Cause.TheVariants as cause
use Rattle.rfq_room.specs.declared.refusal.Refusal.{Refusal}
use Rattle.rfq_room.specs.Causes.{request_cause}
use Rattle.rfq_room.specs.Plan.{Plan}
use Rattle.rfq_room.specs.Plans.{request_plan, room_asked}
use Rattle.rfq_room.specs.Refusals.{IsRefusalOf, IsRequestRefused, cause_of}
use Rattle.rfq_room.specs.RoomFacts.{room_facts}
use Rattle.rfq_room.specs.Emitted.{request_emitted}
use Rattle.rfq_handler.specs.Counting.{reports_in}
use Rattle.rfq_handler.specs.Known.{are_known}
use Rattle.rfq_handler.specs.Read.{first_room}
use Rattle.rfq_handler.specs.Sent.{request_sent}
use Rattle.rfq_handler.proofs.Lists.{both_true, quiet-cons, same_some}
use Rattle.rfq_handler.proofs.Rooms.{places-known}

-- the rooms' decision gives the rules' answer
abbrev pub RequestLaw : Type 0
RequestLaw = (m : Market) (h : History) (s : Sender) (d : QuoteRequest) (t : ℕ) → answer_request m h s d t ≡ request_emitted m h s d t (request_cause m (room_facts h.facts) s.who d t)

abbrev pub OpenedLaw : Type 0
OpenedLaw = (m : Market) (h : History) (s : Sender) (d : QuoteRequest) (t : ℕ) → opened m h s d t ≡ room_asked m (room_facts h.facts) s.who d t

pub request-answer : RequestLaw → (m : Market) (h : History) (s : Sender) (d : QuoteRequest) (t : ℕ) (facts : List Fact) (x : Option RequestRefusal) → room_facts h.facts ≡ facts → request_cause m facts s.who d t ≡ x → request_emitted m h s d t x ≡ answer_request m h s d t
request-answer law m h s d t facts x e k = sym (law m h s d t ∙ ap (λ fs. request_emitted m h s d t (request_cause m fs s.who d t)) e ∙ ap (request_emitted m h s d t) k)

-- the cause of a refusal is the one that holds
pub request-holds : (holds : Option RequestRefusal) (refusal : Refusal) (c : RequestRefusal) → IsRequestRefused holds refusal → cause_of refusal ≡ Some (cause.Request c) → holds ≡ Some c
request-holds holds refusal c h k =
    let P : Option Cause → Type 0 = λ x. IsRefusalOf (option_map (λ c. cause.Request c) holds) refusal x in
    found holds c (subst P k h).0
  where
    found : (holds : Option RequestRefusal) (c : RequestRefusal) → option_map (λ c. cause.Request c) holds ≡ Some (cause.Request c) → holds ≡ Some c
    found None c e = cc
    found (Some x) c e = cc

-- the answer to a request that opens this room
pub request-opens : (m : Market) (r made : Room) (p : Plan) (symbol : List ℕ) (replies : List Reply) (a : Answer)
    → p ≡ request_plan made → Some r ≡ first_room p.facts → symbol ≡ symbol_of m.instruments r.instrument → replies ≡ map (request_sent r symbol) r.recipients → a ≡ record { facts = p.facts; replies = replies }
    → a ≡ request_accepted m made
request-opens m r made p symbol replies a planned found named emitted is =
    let same : r ≡ made = same_some r made (found ∙ ap (λ (p : Plan). first_room p.facts) planned) in
    let all : replies ≡ (request_accepted m made).replies = emitted ∙ ap (λ s. map (request_sent r s) r.recipients) named ∙ ap (λ (r : Room). (request_accepted m r).replies) same in
    is
    ∙ ap (λ (p : Plan). let x : Answer = record { facts = p.facts; replies = replies } in x) planned
    ∙ ap (λ (rs : List Reply). let x : Answer = record { facts = Asked made ∷ []; replies = rs } in x) all

pub accepted-answer : RequestLaw → OpenedLaw → (m : Market) (h : History) (s : Sender) (d : QuoteRequest) (t : ℕ) (facts : List Fact) → room_facts h.facts ≡ facts → request_cause m facts s.who d t ≡ None → request_accepted m (room_asked m facts s.who d t) ≡ answer_request m h s d t
accepted-answer law opens m h s d t facts e k =
    ap (request_accepted m) (sym (opens m h s d t ∙ ap (λ fs. room_asked m fs s.who d t) e)) ∙ request-answer law m h s d t facts None e k

-- no reply is a report
pub sent-quiet : (r : Room) (symbol : List ℕ) (ws : List ℕ) → reports_in (map (request_sent r symbol) ws) ≡ 0
sent-quiet r symbol [] = refl
sent-quiet r symbol (w ∷ ws) = quiet-cons (request_sent r symbol w) (map (request_sent r symbol) ws) refl (sent-quiet r symbol ws)

-- the recipients of the room are in the file
pub asked-known : (m : Market) (facts : List Fact) (who : ℕ) (d : QuoteRequest) (t : ℕ) (p : Plan) → p ≡ request_plan (room_asked m facts who d t) → are_known (length m.participants.names) p.facts ≡ true
asked-known m facts who d t p e =
    ap (λ (p : Plan). are_known (length m.participants.names) p.facts) e
    ∙ both_true _ true (places-known m.participants (filter (λ p. p.source == 68 && p.role == 35) d.parties)) refl
