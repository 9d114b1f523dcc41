use Rattle.std.proofs.Common.{◌≡◌, refl, sym, ap, ◌∙◌, subst, ℕ, List, [], ◌∷◌, ◌++◌, map, flat_map, append-nil, Option, Some, None, true, option_map}
use Rattle.fix_dictionary.specs.declared.messages.QuoteCancel.{QuoteCancel}
use Rattle.instruments.specs.declared.instruments.Instrument.{Instrument}
use Rattle.instruments.specs.Listing.{symbol_of}
use Rattle.venue_rules.specs.declared.facts.Fact.{Fact}
use Rattle.venue_rules.specs.declared.facts.Room.{Room}
use Rattle.venue_rules.specs.declared.facts.RoomQuote.{RoomQuote}
use Rattle.venue_rules.specs.declared.replies.QuoteState.TheVariants as state
use Rattle.venue_rules.specs.declared.replies.Reply.{Reply}
use Rattle.venue_rules.specs.Market.{Market}
use Rattle.venue_rules.specs.Facts.{History}
use Rattle.venue_rules.specs.Rooms.{room_by_number}
use Rattle.venue_rules.specs.Answer.{Answer, Sender}
use Rattle.venue_rules.specs.Withdrawals.{answer_withdrawal, withdrawn_all, both_emitted as rules_emitted}
use Rattle.rfq_room.specs.declared.refusal.Cause.{Cause}
use Rattle.rfq_room.specs.declared.refusal.Cause.TheVariants as cause
use Rattle.rfq_room.specs.declared.refusal.Refusal.{Refusal}
use Rattle.rfq_room.specs.declared.refusal.WithdrawalRefusal.{WithdrawalRefusal}
use Rattle.rfq_room.specs.Causes.{withdrawal_cause, withdrawal_id}
use Rattle.rfq_room.specs.Named.{named_quotes}
use Rattle.rfq_room.specs.Plan.{Plan}
use Rattle.rfq_room.specs.Plans.{withdrawal_plan, withdrawn}
use Rattle.rfq_room.specs.Refusals.{IsRefusalOf, IsWithdrawalRefused, cause_of}
use Rattle.rfq_room.specs.RoomFacts.{room_facts}
use Rattle.rfq_room.specs.Emitted.{withdrawal_emitted}
use Rattle.rfq_handler.specs.Counting.{reports_in, trades_in}
use Rattle.rfq_handler.specs.Known.{are_known}
use Rattle.rfq_handler.specs.Sent.{both_sent, both_emitted, to_maker, to_requester}
use Rattle.rfq_handler.proofs.Lists.{quiet-append, two-more}

-- the rooms' decision gives the rules' answer
abbrev pub WithdrawalLaw : Type 0
WithdrawalLaw = (m : Market) (h : History) (s : Sender) (d : QuoteCancel) (t : ℕ) → answer_withdrawal m h s d t ≡ withdrawal_emitted m h s d (named_quotes (room_facts h.facts) s.who t (withdrawal_id d)) (withdrawal_cause (room_facts h.facts) s.who d t)

abbrev pub RoomLaw : Type 0
RoomLaw = (fs : List Fact) (number : ℕ) → room_by_number fs number ≡ room_by_number (room_facts fs) number

pub withdrawal-answer : WithdrawalLaw → (m : Market) (h : History) (s : Sender) (d : QuoteCancel) (t : ℕ) (facts : List Fact) (x : Option WithdrawalRefusal) → room_facts h.facts ≡ facts → withdrawal_cause facts s.who d t ≡ x → withdrawal_emitted m h s d (named_quotes facts s.who t (withdrawal_id d)) x ≡ answer_withdrawal m h s d t
withdrawal-answer law m h s d t facts x e k = sym (law m h s d t ∙ ap (λ fs. withdrawal_emitted m h s d (named_quotes fs s.who t (withdrawal_id d)) (withdrawal_cause fs s.who d t)) e ∙ ap (withdrawal_emitted m h s d (named_quotes facts s.who t (withdrawal_id d))) k)

-- the cause of a refusal is the one that holds
pub withdrawal-holds : (holds : Option WithdrawalRefusal) (refusal : Refusal) (c : WithdrawalRefusal) → IsWithdrawalRefused holds refusal → cause_of refusal ≡ Some (cause.Withdrawal c) → holds ≡ Some c
withdrawal-holds holds refusal c h k =
    let P : Option Cause → Type 0 = λ x. IsRefusalOf (option_map (λ c. cause.Withdrawal c) holds) refusal x in
    found holds c (subst P k h).0
  where
    found : (holds : Option WithdrawalRefusal) (c : WithdrawalRefusal) → option_map (λ c. cause.Withdrawal c) holds ≡ Some (cause.Withdrawal c) → holds ≡ Some c
    found None c e = cc
    found (Some x) c e = cc

-- the replies about a further quote

pub emit-none : (is : List Instrument) (facts : List Fact) (q : RoomQuote) (rs : List Reply) → room_by_number facts q.room ≡ None → rs ≡ rs ++ both_emitted is facts q
emit-none is facts q rs e = sym (ap (λ x. rs ++ both_sent is q x) e ∙ append-nil rs)

pub emit-some : (is : List Instrument) (facts : List Fact) (q : RoomQuote) (rs : List Reply) (r : Room) (symbol : List ℕ) → room_by_number facts q.room ≡ Some r → symbol ≡ symbol_of is r.instrument → (rs ++ to_maker r symbol q state.Withdrawn ∷ []) ++ to_requester r symbol q state.Withdrawn ∷ [] ≡ rs ++ both_emitted is facts q
emit-some is facts q rs r symbol e named =
    two-more rs (to_maker r symbol q state.Withdrawn) (to_requester r symbol q state.Withdrawn)
    ∙ ap (λ s. rs ++ to_maker r s q state.Withdrawn ∷ to_requester r s q state.Withdrawn ∷ []) named
    ∙ sym (ap (λ x. rs ++ both_sent is q x) e)

pub ruleset tellings = (emit-none, emit-some)

-- they are those of the rules
rules-sent : (m : Market) (h : History) (q : RoomQuote) (x : Option Room) → room_by_number h.facts q.room ≡ x → both_sent m.instruments q x ≡ rules_emitted m h q
rules-sent m h q None e = sym (rw (e, rules_emitted) refl)
rules-sent m h q (Some r) e = sym (rw (e, rules_emitted) refl)

pub all-same : RoomLaw → (m : Market) (h : History) (facts : List Fact) (qs : List RoomQuote) → room_facts h.facts ≡ facts → flat_map (both_emitted m.instruments facts) qs ≡ flat_map (rules_emitted m h) qs
all-same law m h facts [] e = refl
all-same law m h facts (q ∷ qs) e =
    ap (λ x. x ++ flat_map (both_emitted m.instruments facts) qs) (rules-sent m h q (room_by_number facts q.room) (law h.facts q.room ∙ ap (λ fs. room_by_number fs q.room) e))
    ∙ ap (λ x. rules_emitted m h q ++ x) (all-same law m h facts qs e)

-- no reply is a report
sent-quiet : (is : List Instrument) (q : RoomQuote) (x : Option Room) → reports_in (both_sent is q x) ≡ 0
sent-quiet is q None = refl
sent-quiet is q (Some r) = refl

pub all-quiet : (is : List Instrument) (facts : List Fact) (qs : List RoomQuote) → reports_in (flat_map (both_emitted is facts) qs) ≡ 0
all-quiet is facts [] = refl
all-quiet is facts (q ∷ qs) = quiet-append (both_emitted is facts q) (flat_map (both_emitted is facts) qs) (sent-quiet is q (room_by_number facts q.room)) (all-quiet is facts qs)

-- the answer to a withdrawal of these quotes
pub withdraws-all : RoomLaw → (m : Market) (h : History) (facts : List Fact) (qs : List RoomQuote) (p : Plan) (replies : List Reply) (a : Answer)
    → room_facts h.facts ≡ facts → p ≡ withdrawal_plan qs → replies ≡ flat_map (both_emitted m.instruments facts) p.quotes → a ≡ record { facts = p.facts; replies = replies }
    → a ≡ withdrawn_all m h qs
withdraws-all law m h facts qs p replies a e planned emitted is =
    is
    ∙ ap (λ (p : Plan). let x : Answer = record { facts = p.facts; replies = replies } in x) planned
    ∙ ap (λ (rs : List Reply). let x : Answer = record { facts = map withdrawn qs; replies = rs } in x) (emitted ∙ ap (λ (p : Plan). flat_map (both_emitted m.instruments facts) p.quotes) planned ∙ all-same law m h facts qs e)

-- a withdrawal adds no participant
pub withdrawn-known : (count : ℕ) (qs : List RoomQuote) → are_known count (map withdrawn qs) ≡ true
withdrawn-known count [] = refl
withdrawn-known count (q ∷ qs) = withdrawn-known count qs

-- and is no trade
pub withdrawn-untraded : (qs : List RoomQuote) → 0 ≡ trades_in (map withdrawn qs)
withdrawn-untraded [] = refl
withdrawn-untraded (q ∷ qs) = withdrawn-untraded qs
