use Rattle.std.proofs.Common.{◌≡◌, refl, ap, ◌∙◌, subst, ℕ, ◌≤◌, Bool, true, false, ◌&&◌, nat_lt, nat_le, List, [], ◌∷◌, ◌++◌, map, length, Option, Some, None, MatchOption, arith}
use Rattle.std.proofs.lemmas.Bool.Decides.{nat_tests}
use Rattle.std.proofs.lemmas.List.Folds.{list_all-append}
use Rattle.fix_dictionary.specs.declared.messages.QuoteRequest.{QuoteRequest}
use Rattle.venue_rules.specs.declared.facts.Fact.{Fact}
use Rattle.venue_rules.specs.declared.facts.Room.{Room}
use Rattle.venue_rules.specs.declared.facts.RoomQuote.{RoomQuote}
use Rattle.venue_rules.specs.Market.{Market}
use Rattle.venue_rules.specs.Requests.{recipient_room, recipients}
use Rattle.rfq_room.specs.Causes.{request_cause, request_causes}
use Rattle.rfq_room.specs.Contents.{Contents}
use Rattle.rfq_room.specs.RoomStore.{IsRooms, are_listed, are_own, are_small, is_small}
use Rattle.rfq_room.specs.Named.{named_quotes, quote_room}
use Rattle.rfq_room.specs.Plan.{Plan}
use Rattle.rfq_room.specs.declared.decision.Decision.{Decision}
use Rattle.rfq_room.specs.declared.decision.Decision.TheVariants.{Refuse, Pass, Trade as Hits}
use Rattle.rfq_room.specs.Plans.{IsQuotePlanned, IsResponsePlan, IsResponsePlanned, quote_made, quote_plan, request_plan, room_asked, sender, withdrawal_plan, withdrawn}
use Rattle.venue_rules.specs.Responses.{hit_trade}
use Rattle.venue_rules.specs.Rooms.{find_quote, find_room}
use Rattle.fix_dictionary.specs.declared.messages.Quote.{Quote}
use Rattle.fix_dictionary.specs.declared.messages.QuoteResponse.{QuoteResponse}
use Rattle.rfq_room.specs.RoomFacts.{is_room_fact, is_in_room}
use Rattle.rfq_room.specs.Steps.{Step, Nothing, Opens, Quotes, Leaves, Passes, Trades, IsAllowed, IsPlanOf, facts_of}
use Rattle.rfq_room.specs.Views.{first_cause}

both : (b c : Bool) → b ≡ true → c ≡ true → (b && c) ≡ true
both true true h k = refl
both true false h k = k
both false c h k = h

within : (n : ℕ) → n ≤ recipient_room → nat_le n recipient_room ≡ true
within n h = grind (arith, nat_tests)

withdrawn-own : (qs : List RoomQuote) → are_own (map withdrawn qs) ≡ true
withdrawn-own [] = refl
withdrawn-own (q ∷ qs) = withdrawn-own qs

withdrawn-small : (qs : List RoomQuote) → are_small (map withdrawn qs) ≡ true
withdrawn-small [] = refl
withdrawn-small (q ∷ qs) = withdrawn-small qs

step-own : (facts : List Fact) (step : Step) → IsAllowed facts step → are_own (facts_of facts step) ≡ true
step-own facts Nothing h = refl
step-own facts (Opens r) h = refl
step-own facts (Quotes id r q) h = refl
step-own facts (Leaves maker t id) h = withdrawn-own (named_quotes facts maker t id)
step-own facts (Passes id q) h = refl
step-own facts (Trades id q r trade) h = both (is_in_room trade.place) true (ap is_in_room h.2) refl

step-small : (facts : List Fact) (step : Step) → IsAllowed facts step → are_small (facts_of facts step) ≡ true
step-small facts Nothing h = refl
step-small facts (Opens r) h = both (nat_le (length r.recipients) recipient_room) true (within (length r.recipients) h.1) refl
step-small facts (Quotes id r q) h = refl
step-small facts (Leaves maker t id) h = withdrawn-small (named_quotes facts maker t id)
step-small facts (Passes id q) h = refl
step-small facts (Trades id q r trade) h = refl

-- a planned step keeps the invariant
pub plan-kept : (rooms : Contents) (added : List Fact) → IsRooms rooms.facts → IsPlanOf rooms added → IsRooms (rooms.facts ++ added)
plan-kept rooms added kept plan = record {
  own = list_all-append is_room_fact rooms.facts added ∙ both _ _ kept.own (ap are_own plan.made ∙ step-own rooms.facts plan.step plan.allowed);
  small = list_all-append is_small rooms.facts added ∙ both _ _ kept.small (ap are_small plan.made ∙ step-small rooms.facts plan.step plan.allowed);
}

-- none of these tests holds
abbrev Fails : {C : Type 0} → List (Bool × C) → Type 0
Fails [] = Unit {0}
Fails (c ∷ cs) = (c.0 ≡ false) × Fails cs

fails : {C : Type 0} (cs : List (Bool × C)) → first_cause cs ≡ None → Fails cs
fails [] h = tt
fails ((b, c) ∷ cs) h = one b c cs (fails cs) h
  where
    one : {C : Type 0} (b : Bool) (c : C) (cs : List (Bool × C)) → (first_cause cs ≡ None → Fails cs) → first_cause ((b, c) ∷ cs) ≡ None → (b ≡ false) × Fails cs
    one true c cs rest h = cc
    one false c cs rest h = (refl, rest h)

at_most : (n : ℕ) → nat_lt recipient_room n ≡ false → n ≤ recipient_room
at_most n h = grind (arith, nat_tests)

-- an accepted request has at most 12 recipients, and is for a listed instrument
pub free-small : (m : Market) (facts : List Fact) (who : ℕ) (d : QuoteRequest) (t : ℕ) → request_cause m facts who d t ≡ None → length (recipients m d) ≤ recipient_room
free-small m facts who d t h = at_most (length (recipients m d)) (fails (request_causes m facts who d t) h).1.1.1.1.1.1.0

-- a planned step is allowed

pub record Stepped (facts : List Fact) (added : List Fact) : Type 0 where
  pub step : Step
  pub allowed : IsAllowed facts step
  pub made : added ≡ facts_of facts step

pub request-stepped : (m : Market) (facts : List Fact) (who : ℕ) (d : QuoteRequest) (t : ℕ) (p : Plan) → request_cause m facts who d t ≡ None → p ≡ request_plan (room_asked m facts who d t) → Stepped facts p.facts
request-stepped m facts who d t p h e = record { step = Opens (room_asked m facts who d t); allowed = (refl, free-small m facts who d t h); made = ap (λ p. p.facts) e }

pub quote-stepped : (facts : List Fact) (who : ℕ) (d : Quote) (p : Plan) → IsQuotePlanned facts who d p → Stepped facts p.facts
quote-stepped facts who d p h = found facts who d p (find_room facts d.request_id) refl h
  where
    found : (facts : List Fact) (who : ℕ) (d : Quote) (p : Plan) (x : Option Room) → find_room facts d.request_id ≡ x → MatchOption x ⊥ (λ r. p ≡ quote_plan (quote_made facts who r d)) → Stepped facts p.facts
    found facts who d p None e h = absurd h
    found facts who d p (Some r) e h = record { step = Quotes d.request_id r (quote_made facts who r d); allowed = (e, refl, refl); made = ap (λ p. p.facts) h }

pub withdrawal-stepped : (facts : List Fact) (who t : ℕ) (id : Option (List ℕ)) (p : Plan) → p ≡ withdrawal_plan (named_quotes facts who t id) → Stepped facts p.facts
withdrawal-stepped facts who t id p e = record { step = Leaves who t id; allowed = tt; made = ap (λ p. p.facts) e }

decided-stepped : (facts : List Fact) (who : ℕ) (d : QuoteResponse) (t : ℕ) (decision : Decision) (p : Plan) (q : RoomQuote) (r : Room) → find_quote facts d.quote_id ≡ Some q → quote_room facts d.quote_id ≡ Some r → IsResponsePlan who t q r decision p → Stepped facts p.facts
decided-stepped facts who d t (Refuse cause) p q r e f h = absurd h
decided-stepped facts who d t Pass p q r e f h = record { step = Passes d.quote_id q; allowed = e; made = ap (λ p. p.facts) h }
decided-stepped facts who d t (Hits hit) p q r e f h = record { step = Trades d.quote_id q r (hit_trade (sender who) r q hit.side hit.price t); allowed = (e, f, refl); made = ap (λ p. p.facts) h }

pub response-stepped : (facts : List Fact) (who : ℕ) (d : QuoteResponse) (t : ℕ) (decision : Decision) (p : Plan) → IsResponsePlanned facts who d t decision p → Stepped facts p.facts
response-stepped facts who d t decision p h = found facts who d t decision p (find_quote facts d.quote_id) (quote_room facts d.quote_id) refl refl h
  where
    found : (facts : List Fact) (who : ℕ) (d : QuoteResponse) (t : ℕ) (decision : Decision) (p : Plan) (x : Option RoomQuote) (y : Option Room) → find_quote facts d.quote_id ≡ x → quote_room facts d.quote_id ≡ y → MatchOption x ⊥ (λ q. MatchOption y ⊥ (λ r. IsResponsePlan who t q r decision p)) → Stepped facts p.facts
    found facts who d t decision p None y e f h = absurd h
    found facts who d t decision p (Some q) None e f h = absurd h
    found facts who d t decision p (Some q) (Some r) e f h = decided-stepped facts who d t decision p q r e f h

pub stepped-plan : (facts : List Fact) (rooms : Contents) (added : List Fact) → facts ≡ rooms.facts → Stepped facts added → length added ≤ rooms.spare.headroom → IsPlanOf rooms added
stepped-plan facts rooms added same s headroom = record {
  step = s.step;
  allowed = let P : List Fact → Type 0 = λ fs. IsAllowed fs s.step in subst P same s.allowed;
  made = s.made ∙ ap (λ fs. facts_of fs s.step) same;
  headroom = headroom;
}

-- a fact that is no request is for no instrument

withdrawn-listed : (count : ℕ) (qs : List RoomQuote) → are_listed count (map withdrawn qs) ≡ true
withdrawn-listed count [] = refl
withdrawn-listed count (q ∷ qs) = withdrawn-listed count qs

pub withdrawal-listed : (facts : List Fact) (who t : ℕ) (id : Option (List ℕ)) (p : Plan) (count : ℕ) → p ≡ withdrawal_plan (named_quotes facts who t id) → are_listed count p.facts ≡ true
withdrawal-listed facts who t id p count e = ap (λ (p : Plan). are_listed count p.facts) e ∙ withdrawn-listed count (named_quotes facts who t id)

decided-listed : (who t : ℕ) (decision : Decision) (p : Plan) (q : RoomQuote) (r : Room) (count : ℕ) → IsResponsePlan who t q r decision p → are_listed count p.facts ≡ true
decided-listed who t (Refuse cause) p q r count h = absurd h
decided-listed who t Pass p q r count h = ap (λ (p : Plan). are_listed count p.facts) h
decided-listed who t (Hits hit) p q r count h = ap (λ (p : Plan). are_listed count p.facts) h

pub response-listed : (facts : List Fact) (who : ℕ) (d : QuoteResponse) (t : ℕ) (decision : Decision) (p : Plan) (count : ℕ) → IsResponsePlanned facts who d t decision p → are_listed count p.facts ≡ true
response-listed facts who d t decision p count h = found who t decision p count (find_quote facts d.quote_id) (quote_room facts d.quote_id) h
  where
    found : (who t : ℕ) (decision : Decision) (p : Plan) (count : ℕ) (x : Option RoomQuote) (y : Option Room) → MatchOption x ⊥ (λ q. MatchOption y ⊥ (λ r. IsResponsePlan who t q r decision p)) → are_listed count p.facts ≡ true
    found who t decision p count None y h = absurd h
    found who t decision p count (Some q) None h = absurd h
    found who t decision p count (Some q) (Some r) h = decided-listed who t decision p q r count h
