use Rattle.std.proofs.Common.{◌≡◌, refl, sym, ap, ◌∙◌, inl, inr, ℕ, ◌+◌, ◌≤◌, Bool, true, false, cond, ◌&&◌, ◌==◌, List, [], ◌∷◌, ◌++◌, length, filter, flat_map, bytes_eq, Option, Some, None, arith, eqb-true, eq-eqb, length-append}
use Rattle.std.specs.List.{list_any}
use Rattle.std.proofs.lemmas.Bool.{true≢false, or_parts}
use Rattle.std.proofs.lemmas.List.Elements.{filter-append}
use Rattle.fix_dictionary.specs.declared.messages.QuoteCancel.{QuoteCancel}
use Rattle.venue_rules.specs.declared.facts.Fact.{Fact}
use Rattle.venue_rules.specs.declared.facts.Fact.TheVariants.{Asked}
use Rattle.venue_rules.specs.declared.facts.Room.{Room}
use Rattle.venue_rules.specs.declared.facts.RoomQuote.{RoomQuote}
use Rattle.venue_rules.specs.declared.replies.Reply.{Reply}
use Rattle.venue_rules.specs.declared.replies.QuoteState.TheVariants.{Withdrawn}
use Rattle.venue_rules.specs.Market.{Market}
use Rattle.venue_rules.specs.Facts.{History, quotes, rooms}
use Rattle.venue_rules.specs.Rooms.{is_live, live_quotes, room_by_number}
use Rattle.venue_rules.specs.Requests.{open_room}
use Rattle.venue_rules.specs.Answer.{Answer, Sender}
use Rattle.venue_rules.specs.Withdrawals.{answer_withdrawal_of, both_emitted, not_found, to_maker, to_requester, withdraw_one, withdrawn_or}
use Rattle.venue_rules.specs.Run.{Input, replies_to, run}
use Rattle.venue_rules.specs.Limits.{WithdrawalsAreFew}
use Rattle.venue_rules.proofs.Members.{In, In-filter, In-find}
use Rattle.venue_rules.proofs.Follows.{Follows, Each}
use Rattle.venue_rules.proofs.EveryRun.{asked_in, maker_among, member_follows, run-Follows}
use Rattle.venue_rules.proofs.OpenRooms.{filter_short}
use Rattle.venue_rules.proofs.LiveQuotes.{live_quotes_few}

-- A withdrawal sends each participant at most one reply a quote: a maker is not the requester.

not_among : (w : ℕ) (rs : List ℕ) (x : ℕ) → list_any (λ y. y == w) rs ≡ false → In x rs → x ≡ w → ⊥
not_among w [] x h i e = i
not_among w (y ∷ ys) x h (inl same) e = true≢false (sym (eq-eqb y w (same ∙ e)) ∙ (or_parts (y == w) (list_any (λ z. z == w) ys) h).0)
not_among w (y ∷ ys) x h (inr i) e = not_among w ys x (or_parts (y == w) (list_any (λ z. z == w) ys) h).1 i e

emitted_once : (a b j : ℕ) (x y : Reply) (c d : Bool) → (a ≡ b → ⊥) → (a == j) ≡ c → (b == j) ≡ d → length (cond c (x ∷ cond d (y ∷ []) []) (cond d (y ∷ []) [])) ≤ 1
emitted_once a b j x y true true differ h k = absurd (differ (eqb-true a j h ∙ sym (eqb-true b j k)))
emitted_once a b j x y true false differ h k = omega arith
emitted_once a b j x y false true differ h k = omega arith
emitted_once a b j x y false false differ h k = omega arith

both_once : (m : Market) (q : RoomQuote) (j : ℕ) (o : Option Room) → ((r : Room) → o ≡ Some r → q.maker ≡ r.requester → ⊥) → length (replies_to j (elim o [ None ↦ [] | Some r ↦ to_maker m r q Withdrawn ∷ to_requester m r q Withdrawn ∷ [] ])) ≤ 1
both_once m q j None differ = omega arith
both_once m q j (Some r) differ = emitted_once q.maker r.requester j (to_maker m r q Withdrawn) (to_requester m r q Withdrawn) (q.maker == j) (r.requester == j) (differ r refl) refl refl

maker_asks_not : (m : Market) (rs : List Reply) (fs : List Fact) → Each (Follows m rs) [] fs → (q : RoomQuote) → In q (quotes fs) → (r : Room) → room_by_number fs q.room ≡ Some r → q.maker ≡ r.requester → ⊥
maker_asks_not m rs fs p q i r found same =
    let k = In-find (λ (a : Room). a.number == q.room) (rooms fs) r found in
    let among : In q.maker r.recipients = maker_among m rs fs p r q k.0 i (eqb-true r.number q.room k.1) in
    let asked = member_follows (Follows m rs) fs (Asked r) p (asked_in fs r k.0) in
    not_among r.requester r.recipients q.maker asked.3.2 among same

all_once : (m : Market) (rs : List Reply) (h : History) (j : ℕ) → Each (Follows m rs) [] h.facts → (qs : List RoomQuote) → ((q : RoomQuote) → In q qs → In q (quotes h.facts)) → length (replies_to j (flat_map (both_emitted m h) qs)) ≤ length qs
all_once m rs h j p [] there = omega arith
all_once m rs h j p (q ∷ qs) there =
    let here : length (replies_to j (both_emitted m h q)) ≤ 1 = both_once m q j (room_by_number h.facts q.room) (maker_asks_not m rs h.facts p q (there q (inl refl))) in
    let more : length (replies_to j (flat_map (both_emitted m h) qs)) ≤ length qs = all_once m rs h j p qs (λ x i. there x (inr i)) in
    let split : length (replies_to j (both_emitted m h q ++ flat_map (both_emitted m h) qs)) ≡ length (replies_to j (both_emitted m h q)) + length (replies_to j (flat_map (both_emitted m h) qs)) =
    ap length (filter-append (λ (x : Reply). x.to == j) (both_emitted m h q) (flat_map (both_emitted m h) qs)) ∙ length-append (replies_to j (both_emitted m h q)) (replies_to j (flat_map (both_emitted m h) qs)) in
    omega (arith, here, more, split)

-- one reply is within the bound
one_few : (j : ℕ) (x : Reply) → length (replies_to j (x ∷ [])) ≤ open_room
one_few j x = let short : length (replies_to j (x ∷ [])) ≤ 1 = filter_short (λ (y : Reply). y.to == j) (x ∷ []) in omega (arith, short)

or_few : (m : Market) (rs : List Reply) (h : History) (j : ℕ) (x : Answer) (qs : List RoomQuote) → Each (Follows m rs) [] h.facts → ((q : RoomQuote) → In q qs → In q (quotes h.facts)) → length qs ≤ open_room → length (replies_to j x.replies) ≤ open_room → length (replies_to j (withdrawn_or m h x qs).replies) ≤ open_room
or_few m rs h j x [] p there few other = other
or_few m rs h j x (q ∷ qs) p there few other = let once : length (replies_to j (flat_map (both_emitted m h) (q ∷ qs))) ≤ length (q ∷ qs) = all_once m rs h j p (q ∷ qs) there in omega (arith, once, few)

of_live : (fs : List Fact) (who t : ℕ) (q : RoomQuote) → In q (live_quotes fs who t) → In q (quotes fs)
of_live fs who t q i = (In-filter (λ (x : RoomQuote). x.maker == who && is_live fs t x) (quotes fs) q i).0

one_withdrawn : (m : Market) (rs : List Reply) (h : History) (s : Sender) (t j : ℕ) (id : Option (List ℕ)) → Each (Follows m rs) [] h.facts → length (live_quotes h.facts s.who t) ≤ open_room → length (replies_to j (withdraw_one m h s t id).replies) ≤ open_room
one_withdrawn m rs h s t j None p few = one_few j _
one_withdrawn m rs h s t j (Some id) p few =
    let short : length (filter (λ (q : RoomQuote). bytes_eq q.id id) (live_quotes h.facts s.who t)) ≤ length (live_quotes h.facts s.who t) = filter_short (λ (q : RoomQuote). bytes_eq q.id id) (live_quotes h.facts s.who t) in
    or_few m rs h j (not_found s (Some id)) (filter (λ (q : RoomQuote). bytes_eq q.id id) (live_quotes h.facts s.who t)) p (λ q i. of_live h.facts s.who t q (In-filter (λ (x : RoomQuote). bytes_eq x.id id) (live_quotes h.facts s.who t) q i).0) (omega (arith, short, few)) (one_few j _)

withdrawn_few : (m : Market) (rs : List Reply) (h : History) (s : Sender) (d : QuoteCancel) (t j : ℕ) (one all : Bool) → Each (Follows m rs) [] h.facts → length (live_quotes h.facts s.who t) ≤ open_room → length (replies_to j (answer_withdrawal_of m h s d t one all).replies) ≤ open_room
withdrawn_few m rs h s d t j true all p few = one_withdrawn m rs h s t j d.quote_id p few
withdrawn_few m rs h s d t j false true p few = or_few m rs h j (not_found s None) (live_quotes h.facts s.who t) p (of_live h.facts s.who t) few (one_few j _)
withdrawn_few m rs h s d t j false false p few = one_few j _

pub withdrawals_few : (m : Market) (is : List Input) → WithdrawalsAreFew m is
withdrawals_few m is t j s d rising = withdrawn_few m (run m is).replies (run m is).history s d t j (d.cancel_type == 5) (d.cancel_type == 4) (run-Follows m is) (live_quotes_few m is t s.who rising)
