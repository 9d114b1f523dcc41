use Rattle.std.proofs.Common.{◌≡◌, refl, sym, ap, ◌∙◌, subst, ℕ, ◌<◌, Bool, true, false, not, ◌==◌, ◌||◌, nat_lt, List, [], ◌∷◌, find, length, bytes_eq, Option, Some, None, IsSome, is_some, MatchOption, arith}
use Rattle.std.specs.List.{list_all, list_any}
use Rattle.std.proofs.lemmas.Bool.Decides.{nat_tests}
use Rattle.fix_dictionary.specs.declared.messages.Quote.{Quote}
use Rattle.instruments.specs.Listing.{symbol_of}
use Rattle.venue_rules.specs.declared.facts.Fact.{Fact}
use Rattle.venue_rules.specs.declared.facts.Fact.TheVariants.{Entered, Traded, Removed, Held, Unheld, Asked, Quoted, Withdrawn, Closed}
use Rattle.venue_rules.specs.declared.facts.Room.{Room}
use Rattle.venue_rules.specs.declared.facts.RoomQuote.{RoomQuote}
use Rattle.venue_rules.specs.declared.refusals.QuoteRefusal.TheVariants as quote
use Rattle.venue_rules.specs.Market.{Market}
use Rattle.venue_rules.specs.Facts.{is_quote_id_used, rooms}
use Rattle.venue_rules.specs.Rooms.{find_room, is_open, printed, room_by_number}
use Rattle.rfq_room.specs.Causes.{quote_cause, quote_cause_in, quote_causes, terms_causes}
use Rattle.rfq_room.specs.RoomStore.{are_listed}
use Rattle.rfq_room.specs.Plan.{Plan}
use Rattle.rfq_room.specs.Plans.{IsQuotePlanned, quote_made, quote_plan}
use Rattle.rfq_room.specs.Views.{first_cause}
use Rattle.rfq_handler.specs.Counting.{trades_in}
use Rattle.rfq_handler.specs.Known.{are_known}
use Rattle.rfq_handler.specs.Read.{first_made}
use Rattle.rfq_handler.proofs.Lists.{both, by-number, same_some}
use Rattle.rfq_handler.proofs.Rooms.{below}

-- a quote is planned in an existing room
pub planned-room : (facts : List Fact) (who : ℕ) (d : Quote) (p : Plan) → IsQuotePlanned facts who d p → IsSome (find_room facts d.request_id)
planned-room facts who d p h = found facts who d p (find_room facts d.request_id) h
  where
    found : (facts : List Fact) (who : ℕ) (d : Quote) (p : Plan) (x : Option Room) → MatchOption x ⊥ (λ r. p ≡ quote_plan (quote_made facts who r d)) → IsSome x
    found facts who d p None h = absurd h
    found facts who d p (Some r) h = refl

pub planned-quote : (facts : List Fact) (who : ℕ) (d : Quote) (p : Plan) (r : Room) → IsQuotePlanned facts who d p → find_room facts d.request_id ≡ Some r → p ≡ quote_plan (quote_made facts who r d)
planned-quote facts who d p r h e = let P : Option Room → Type 0 = λ x. MatchOption x ⊥ (λ r. p ≡ quote_plan (quote_made facts who r d)) in subst P e h

-- its plan makes a quote of the sender
pub planned-made : (facts : List Fact) (who : ℕ) (d : Quote) (p : Plan) → IsQuotePlanned facts who d p → IsSome (first_made p.facts)
planned-made facts who d p h = found (find_room facts d.request_id) h
  where
    found : (x : Option Room) → MatchOption x ⊥ (λ r. p ≡ quote_plan (quote_made facts who r d)) → IsSome (first_made p.facts)
    found None k = absurd k
    found (Some r) k = ap (λ (p : Plan). is_some (first_made p.facts)) k

pub planned-maker : (facts : List Fact) (who : ℕ) (d : Quote) (p : Plan) (q : RoomQuote) (count : ℕ) → IsQuotePlanned facts who d p → Some q ≡ first_made p.facts → who < count → q.maker < count
planned-maker facts who d p q count h e below = found (find_room facts d.request_id) h
  where
    found : (x : Option Room) → MatchOption x ⊥ (λ r. p ≡ quote_plan (quote_made facts who r d)) → q.maker < count
    found None k = absurd k
    found (Some r) k = subst (λ (q : RoomQuote). q.maker < count) (sym (same_some q (quote_made facts who r d) (e ∙ ap (λ (p : Plan). first_made p.facts) k))) below

-- and the room with its number is the one named
pub planned-number : (facts : List Fact) (who : ℕ) (d : Quote) (p : Plan) (q : RoomQuote) → IsQuotePlanned facts who d p → Some q ≡ first_made p.facts → room_by_number facts q.room ≡ find_room facts d.request_id
planned-number facts who d p q h e = found (find_room facts d.request_id) refl h
  where
    found : (x : Option Room) → find_room facts d.request_id ≡ x → MatchOption x ⊥ (λ r. p ≡ quote_plan (quote_made facts who r d)) → room_by_number facts q.room ≡ x
    found None is k = absurd k
    found (Some r) is k =
        ap (λ (q : RoomQuote). room_by_number facts q.room) (same_some q (quote_made facts who r d) (e ∙ ap (λ (p : Plan). first_made p.facts) k))
        ∙ by-number (λ (r : Room). r.number) (λ n. bytes_eq (printed 82 n) d.request_id) (rooms facts) r is

-- a found room has recipients in the file
pub find-known : (count : ℕ) (p : Room → Bool) (fs : List Fact) (r : Room) → are_known count fs ≡ true → find p (rooms fs) ≡ Some r → list_all (λ who. nat_lt who count) r.recipients ≡ true
find-known count p [] r h k = cc
find-known count p (Asked a ∷ fs) r h k = asked count p a fs r (p a) refl (both (list_all (λ who. nat_lt who count) a.recipients) (are_known count fs) h) k (find-known count p fs r)
  where
    asked : (count : ℕ) (p : Room → Bool) (a : Room) (fs : List Fact) (r : Room) (b : Bool) → p a ≡ b → (list_all (λ who. nat_lt who count) a.recipients ≡ true) × (are_known count fs ≡ true) → find p (rooms (Asked a ∷ fs)) ≡ Some r → (are_known count fs ≡ true → find p (rooms fs) ≡ Some r → list_all (λ who. nat_lt who count) r.recipients ≡ true) → list_all (λ who. nat_lt who count) r.recipients ≡ true
    asked count p a fs r true e h k rest = let same : a ≡ r = same_some a r (rw e at k) in ap (λ (x : Room). list_all (λ who. nat_lt who count) x.recipients) (sym same) ∙ h.0
    asked count p a fs r false e h k rest = rest h.1 (rw e at k)
find-known count p (Entered e ∷ fs) r h k = find-known count p fs r h k
find-known count p (Traded t ∷ fs) r h k = find-known count p fs r h k
find-known count p (Removed e ∷ fs) r h k = find-known count p fs r h k
find-known count p (Held s ∷ fs) r h k = find-known count p fs r h k
find-known count p (Unheld u ∷ fs) r h k = find-known count p fs r h k
find-known count p (Quoted q ∷ fs) r h k = find-known count p fs r h k
find-known count p (Withdrawn w ∷ fs) r h k = find-known count p fs r h k
find-known count p (Closed c ∷ fs) r h k = find-known count p fs r h k

same_number : (a b : ℕ) → (a == b) ≡ true → a ≡ b
same_number a b h = grind (arith, nat_tests)

any-below : (count who : ℕ) (ws : List ℕ) → list_any (λ p. p == who) ws ≡ true → list_all (λ w. nat_lt w count) ws ≡ true → who < count
any-below count who [] h k = cc
any-below count who (w ∷ ws) h k = one count who w ws (w == who) refl h (both (nat_lt w count) (list_all (λ w. nat_lt w count) ws) k) (any-below count who ws)
  where
    one : (count who w : ℕ) (ws : List ℕ) (b : Bool) → (w == who) ≡ b → (b || list_any (λ p. p == who) ws) ≡ true → (nat_lt w count ≡ true) × (list_all (λ w. nat_lt w count) ws ≡ true) → (list_any (λ p. p == who) ws ≡ true → list_all (λ w. nat_lt w count) ws ≡ true → who < count) → who < count
    one count who w ws true e h k rest = below who count (ap (λ x. nat_lt x count) (sym (same_number w who e)) ∙ k.0)
    one count who w ws false e h k rest = rest h k.1

not-false : (b : Bool) → not b ≡ false → b ≡ true
not-false true h = refl
not-false false h = cc

first-fails : {C : Type 0} (b : Bool) (c : C) (cs : List (Bool × C)) → first_cause ((b, c) ∷ cs) ≡ None → b ≡ false
first-fails true c cs h = cc
first-fails false c cs h = refl

-- the maker of a quote is in the file, as a recipient
pub maker-known : (m : Market) (facts : List Fact) (who : ℕ) (d : Quote) (t : ℕ) (r : Room) (count : ℕ) → quote_cause m facts who d t ≡ None → find_room facts d.request_id ≡ Some r → list_all (λ w. nat_lt w count) r.recipients ≡ true → who < count
maker-known m facts who d t r count h e k =
    let free : first_cause (quote_causes m facts who r d t) ≡ None = sym (ap (quote_cause_in m facts who d t) e) ∙ h in
    any-below count who r.recipients (not-false (list_any (λ p. p == who) r.recipients) (first-fails (not (list_any (λ p. p == who) r.recipients)) quote.NotAsked ((not (is_open facts t r), quote.RoomOver) ∷ (not (bytes_eq d.symbol (symbol_of m.instruments r.instrument)), quote.UnknownInstrument) ∷ (is_quote_id_used facts who d.quote_id, quote.DuplicateQuote) ∷ terms_causes m r d t) free)) k

-- the sender of a planned quote is in the file
pub sender-known : (m : Market) (facts : List Fact) (who : ℕ) (d : Quote) (t : ℕ) (p : Plan) → are_known (length m.participants.names) facts ≡ true → quote_cause m facts who d t ≡ None → IsQuotePlanned facts who d p → who < length m.participants.names
sender-known m facts who d t p known free planned = found (find_room facts d.request_id) refl planned
  where
    found : (x : Option Room) → find_room facts d.request_id ≡ x → MatchOption x ⊥ (λ r. p ≡ quote_plan (quote_made facts who r d)) → who < length m.participants.names
    found None e k = absurd k
    found (Some r) e k = maker-known m facts who d t r (length m.participants.names) free e (find-known (length m.participants.names) (λ r. bytes_eq (printed 82 r.number) d.request_id) facts r known e)

-- a quote opens no room
pub quote-listed : (facts : List Fact) (who : ℕ) (d : Quote) (p : Plan) (count : ℕ) → IsQuotePlanned facts who d p → are_listed count p.facts ≡ true
quote-listed facts who d p count planned = found (find_room facts d.request_id) planned
  where
    found : (x : Option Room) → MatchOption x ⊥ (λ r. p ≡ quote_plan (quote_made facts who r d)) → are_listed count p.facts ≡ true
    found None k = absurd k
    found (Some r) k = ap (λ (p : Plan). are_listed count p.facts) k

pub quote-known : (facts : List Fact) (who : ℕ) (d : Quote) (p : Plan) (count : ℕ) → IsQuotePlanned facts who d p → are_known count p.facts ≡ true
quote-known facts who d p count planned = found (find_room facts d.request_id) planned
  where
    found : (x : Option Room) → MatchOption x ⊥ (λ r. p ≡ quote_plan (quote_made facts who r d)) → are_known count p.facts ≡ true
    found None k = absurd k
    found (Some r) k = ap (λ (p : Plan). are_known count p.facts) k

-- and is no trade
pub quote-untraded : (facts : List Fact) (who : ℕ) (d : Quote) (p : Plan) → IsQuotePlanned facts who d p → 0 ≡ trades_in p.facts
quote-untraded facts who d p planned = found (find_room facts d.request_id) planned
  where
    found : (x : Option Room) → MatchOption x ⊥ (λ r. p ≡ quote_plan (quote_made facts who r d)) → 0 ≡ trades_in p.facts
    found None k = absurd k
    found (Some r) k = sym (ap (λ (p : Plan). trades_in p.facts) k)
