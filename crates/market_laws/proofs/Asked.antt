use Rattle.std.proofs.Common.{◌≡◌, sym, ap, ◌∙◌, subst, inl, inr, ℕ, Bool, true, false, ◌||◌, ◌==◌, ◌<◌, List, [], ◌∷◌, map, length, Contains, Option, Some, bytes_eq, eq-eqb}
use Rattle.std.specs.List.{list_any}
use Rattle.std.proofs.lemmas.Bool.{true≢false}
use Rattle.std.proofs.lemmas.List.Quantifiers.{position-Some}
use Rattle.fix_dictionary.specs.declared.messages.QuoteRequest.{QuoteRequest as RequestMessage}
use Rattle.fix_dictionary.specs.declared.messages.Party.{Party}
use Rattle.participants.specs.ParticipantFile.{ParticipantFile}
use Rattle.participants.specs.Relations.{find_participant}
use Rattle.participants.proofs.Unrelated.{ThreeUnrelated-from_test}
use Rattle.venue_rules.specs.declared.facts.Fact.TheVariants.{Asked}
use Rattle.venue_rules.specs.declared.facts.Room.{Room}
use Rattle.venue_rules.specs.Market.{Market}
use Rattle.venue_rules.specs.Facts.{no_history}
use Rattle.venue_rules.specs.Requests.{named_recipients, recipients}
use Rattle.venue_rules.specs.RoomTrades.{AskedTogether}
use Rattle.venue_rules.specs.Run.{Input, answer_input, run}
use Rattle.venue_rules.proofs.Members.{In, In-from_Contains, Contains-from_In, picked_from}
use Rattle.venue_rules.proofs.Follows.{Follows}
use Rattle.venue_rules.proofs.EveryRun.{lawful, member_follows, run-Follows}
use Rattle.market_laws.specs.Asking.{RequestsGoToThree}
use Rattle.market_laws.proofs.Sources.{RoomFrom}
use Rattle.market_laws.proofs.Added.{AddedBy, added_from, added_in}

-- Each request goes to three participants.

-- a recipient was found in the participant file

named_below : (file : ParticipantFile) (ps : List Party) (x : Option ℕ) (w : ℕ) → In x (map (λ (p : Party). find_participant file p.id) ps) → x ≡ Some w → w < length file.names
named_below file [] x w i e = absurd i
named_below file (p ∷ ps) x w (inl same) e = (position-Some (bytes_eq p.id) file.names w [] (same ∙ e)).0
named_below file (p ∷ ps) x w (inr i) e = named_below file ps x w i e

recipient_below : (m : Market) (d : RequestMessage) (w : ℕ) → In w (recipients m d) → w < length m.participants.names
recipient_below m d w i =
    let k = picked_from (λ (r : Option ℕ). r) (named_recipients m d) w i in
    named_below m.participants _ k.0 w k.1 k.2

-- a member is found

found : (rs : List ℕ) (w : ℕ) → In w rs → list_any (λ x. x == w) rs ≡ false → ⊥
found [] w i e = i
found (r ∷ rs) w (inl same) e = true≢false (sym (ap (λ b. b || list_any (λ x. x == w) rs) (eq-eqb r w same)) ∙ e)
found (r ∷ rs) w (inr i) e = found rs w i (later (r == w) e)
  where
    later : (b : Bool) → (b || list_any (λ x. x == w) rs) ≡ false → list_any (λ x. x == w) rs ≡ false
    later true k = absurd (true≢false k)
    later false k = k

-- the answer that recorded the request

asked_together : (m : Market) (is : List Input) (asked : Room) (k : AddedBy m no_history is (Asked asked)) → AskedTogether m is asked
asked_together m is asked k =
    let c : Contains (answer_input m (run m k.earlier).history k.input).facts (Asked asked) = Contains-from_In (answer_input m (run m k.earlier).history k.input).facts (Asked asked) k.here in
    record { earlier = k.earlier; input = k.input; later = k.later; taken = k.split; opened = c; emitted = (lawful m is).recipients_asked_together k.earlier k.later k.input asked k.split c }

pub requests_go_to_three : (m : Market) (is : List Input) → RequestsGoToThree m is
requests_go_to_three m is asked c =
    let i : In (Asked asked) (run m is).history.facts = In-from_Contains (run m is).history.facts (Asked asked) c in
    let k : AddedBy m no_history is (Asked asked) = added_in m is (Asked asked) i in
    let from : RoomFrom m (run m k.earlier).history k.input asked = added_from m is (Asked asked) k in
    let follows = member_follows (Follows m (run m is).replies) (run m is).history.facts (Asked asked) (run-Follows m is) i in
    record {
      three_unrelated = ThreeUnrelated-from_test m.participants asked.requester asked.recipients follows.3.1;
      participants = λ who j. recipient_below m from.asks who (subst (λ (r : Room). In who r.recipients) from.same (In-from_Contains asked.recipients who j));
      others = λ j. found asked.recipients asked.requester (In-from_Contains asked.recipients asked.requester j) follows.3.2;
      asked_together = asked_together m is asked k;
    }
