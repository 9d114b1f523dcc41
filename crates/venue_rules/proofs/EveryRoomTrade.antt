use Rattle.std.proofs.Common.{◌≡◌, refl, sym, ap, ◌∙◌, subst, inl, inr, ◌⊎◌, ℕ, ◌==◌, Bool, true, false, cond, List, [], ◌∷◌, ◌++◌, Contains, find, Some, None, append_assoc, eqb-true, eq-eqb}
use Rattle.std.proofs.lemmas.Bool.{true≢false}
use Rattle.venue_rules.specs.declared.facts.Fact.{Fact}
use Rattle.venue_rules.specs.declared.facts.Fact.TheVariants.{Entered, Traded, Removed, Held, Unheld, Asked, Quoted, Withdrawn, Closed}
use Rattle.venue_rules.specs.declared.facts.Room.{Room}
use Rattle.venue_rules.specs.declared.facts.RoomQuote.{RoomQuote}
use Rattle.venue_rules.specs.Market.{Market}
use Rattle.venue_rules.specs.Facts.{History, no_history, quotes, rooms, room_in}
use Rattle.venue_rules.specs.Rooms.{first_quote}
use Rattle.venue_rules.specs.Quotes.{quote_sent}
use Rattle.venue_rules.specs.Run.{Input, answer_input, after, run_from, run, replies_to}
use Rattle.venue_rules.specs.Lawful.{shown_then}
use Rattle.venue_rules.specs.RoomTrades.{AskedTogether, ShownWithFirst, RoomTradesAreLawful}
use Rattle.venue_rules.proofs.Members.{In, In-from_Contains, Contains-from_In, In-append_left, In-append_cases, In-filter_map}
use Rattle.venue_rules.proofs.EveryReport.{added, run_facts}
use Rattle.venue_rules.proofs.EveryRun.{lawful, one_room, run-Follows}

-- The evidence for each trade in a room.

-- the input that added a fact

abbrev AddedBy : Market → History → List Input → Fact → Type 0
AddedBy m h is f = (earlier : List Input) × (i : Input) × (later : List Input) × (is ≡ earlier ++ (i ∷ later)) × In f (answer_input m (run_from m h earlier).history i).facts

added_by : (m : Market) (h : History) (is : List Input) (f : Fact) → In f (added m h is) → AddedBy m h is f
added_by m h [] f k = absurd k
added_by m h (i ∷ is) f k = either (In-append_cases (answer_input m h i).facts (added m (after h (answer_input m h i)) is) f k) (added_by m (after h (answer_input m h i)) is f)
  where
    either : In f (answer_input m h i).facts ⊎ In f (added m (after h (answer_input m h i)) is) → (In f (added m (after h (answer_input m h i)) is) → AddedBy m (after h (answer_input m h i)) is f) → AddedBy m h (i ∷ is) f
    either (inl here) rest = ([], i, is, refl, here)
    either (inr there) rest = let r = rest there in (i ∷ r.0, r.1, r.2, ap (λ xs. i ∷ xs) r.3, r.4)

asked_together : (m : Market) (is : List Input) (asked : Room) → In (Asked asked) (run m is).history.facts → AskedTogether m is asked
asked_together m is asked k =
    let by = added_by m no_history is (Asked asked) (subst (λ fs. In (Asked asked) fs) (run_facts m no_history is) k) in
    let c : Contains (answer_input m (run m by.0).history by.1).facts (Asked asked) = Contains-from_In (answer_input m (run m by.0).history by.1).facts (Asked asked) by.4 in
    record { earlier = by.0; input = by.1; later = by.2; taken = by.3; opened = c; emitted = (lawful m is).recipients_asked_together by.0 by.2 by.1 asked by.3 c }

-- a room's first quote, where it has one

abbrev FirstIn : List Fact → ℕ → Type 0
FirstIn fs room = (before : List Fact) × (q : RoomQuote) × (later : List Fact) × (fs ≡ before ++ (Quoted q ∷ later)) × (q.room ≡ room) × (first_quote before room ≡ None)

quoted_same : (p q : RoomQuote) → Quoted p ≡ Quoted q → p ≡ q
quoted_same p q e = cc

behind_quote : (p : RoomQuote) (fs : List Fact) (room : ℕ) → (p.room == room) ≡ false → FirstIn fs room → FirstIn (Quoted p ∷ fs) room
behind_quote p fs room other k = (Quoted p ∷ k.0, k.1, k.2, ap (λ xs. Quoted p ∷ xs) k.3, k.4, ap (λ b. cond b (Some p) (find (λ (q : RoomQuote). q.room == room) (quotes k.0))) other ∙ k.5)

at_quote : (p q : RoomQuote) (fs : List Fact) (room : ℕ) (b : Bool) → (p.room == room) ≡ b → q.room ≡ room → (Quoted p ≡ Quoted q) ⊎ In (Quoted q) fs → (In (Quoted q) fs → FirstIn fs room) → FirstIn (Quoted p ∷ fs) room
at_quote p q fs room true h e k rest = ([], p, fs, refl, eqb-true p.room room h, refl)
at_quote p q fs room false h e (inl same) rest = absurd (true≢false (sym (eq-eqb p.room room (ap (λ (x : RoomQuote). x.room) (quoted_same p q same) ∙ e)) ∙ h))
at_quote p q fs room false h e (inr k) rest = behind_quote p fs room h (rest k)

first_in : (fs : List Fact) (q : RoomQuote) (room : ℕ) → In (Quoted q) fs → q.room ≡ room → FirstIn fs room
first_in [] q room k e = absurd k
first_in (Quoted p ∷ fs) q room k e = at_quote p q fs room (p.room == room) refl e k (λ i. first_in fs q room i e)
first_in (Entered x ∷ fs) q room (inr k) e = let r = first_in fs q room k e in (Entered x ∷ r.0, r.1, r.2, ap (λ xs. Entered x ∷ xs) r.3, r.4, r.5)
first_in (Traded x ∷ fs) q room (inr k) e = let r = first_in fs q room k e in (Traded x ∷ r.0, r.1, r.2, ap (λ xs. Traded x ∷ xs) r.3, r.4, r.5)
first_in (Removed x ∷ fs) q room (inr k) e = let r = first_in fs q room k e in (Removed x ∷ r.0, r.1, r.2, ap (λ xs. Removed x ∷ xs) r.3, r.4, r.5)
first_in (Held x ∷ fs) q room (inr k) e = let r = first_in fs q room k e in (Held x ∷ r.0, r.1, r.2, ap (λ xs. Held x ∷ xs) r.3, r.4, r.5)
first_in (Unheld x ∷ fs) q room (inr k) e = let r = first_in fs q room k e in (Unheld x ∷ r.0, r.1, r.2, ap (λ xs. Unheld x ∷ xs) r.3, r.4, r.5)
first_in (Asked x ∷ fs) q room (inr k) e = let r = first_in fs q room k e in (Asked x ∷ r.0, r.1, r.2, ap (λ xs. Asked x ∷ xs) r.3, r.4, r.5)
first_in (Withdrawn x ∷ fs) q room (inr k) e = let r = first_in fs q room k e in (Withdrawn x ∷ r.0, r.1, r.2, ap (λ xs. Withdrawn x ∷ xs) r.3, r.4, r.5)
first_in (Closed x ∷ fs) q room (inr k) e = let r = first_in fs q room k e in (Closed x ∷ r.0, r.1, r.2, ap (λ xs. Closed x ∷ xs) r.3, r.4, r.5)
first_in (Entered x ∷ fs) q room (inl h) e = cc
first_in (Traded x ∷ fs) q room (inl h) e = cc
first_in (Removed x ∷ fs) q room (inl h) e = cc
first_in (Held x ∷ fs) q room (inl h) e = cc
first_in (Unheld x ∷ fs) q room (inl h) e = cc
first_in (Asked x ∷ fs) q room (inl h) e = cc
first_in (Withdrawn x ∷ fs) q room (inl h) e = cc
first_in (Closed x ∷ fs) q room (inl h) e = cc

shown_with_first : (m : Market) (is : List Input) (facts rest : List Fact) (f : Fact) (asked : Room) (hit : RoomQuote) → (run m is).history.facts ≡ facts ++ (f ∷ rest) → In (Asked asked) facts → In (Quoted hit) facts → hit.room ≡ asked.number → ShownWithFirst m (run m is) facts asked
shown_with_first m is facts rest f asked hit split a q here =
    let first = first_in facts hit asked.number q here in
    let whole : (run m is).history.facts ≡ first.0 ++ (Quoted first.1 ∷ (first.2 ++ (f ∷ rest))) = split ∙ (ap (λ xs. xs ++ (f ∷ rest)) first.3 ∙ append_assoc first.0 (Quoted first.1 ∷ first.2) (f ∷ rest)) in
    let none : first_quote first.0 first.1.room ≡ None = ap (first_quote first.0) first.4 ∙ first.5 in
    let shown = (lawful m is).prices_come_with_first_quote first.0 first.1 (first.2 ++ (f ∷ rest), whole) none in
    let known : In shown.0 (rooms (run m is).history.facts) = room_there m is first.0 (Quoted first.1 ∷ (first.2 ++ (f ∷ rest))) shown.0 whole (In-from_Contains first.0 (Asked shown.0) shown.1) in
    let same : shown.0 ≡ asked = one_room m (run m is).replies (run m is).history.facts (run-Follows m is) shown.0 asked known (room_there m is facts (f ∷ rest) asked split a) (shown.2 ∙ first.4) in
    record {
      first = first.1;
      before = first.0;
      came = (first.2, first.3);
      here = first.4;
      none_before = first.5;
      replies_before = shown.3;
      replies_after = shown.4;
      shown = subst (λ (r : Room). replies_to r.requester (run m is).replies ≡ shown.3 ++ (shown_then m first.0 r ∷ quote_sent m r first.1 ∷ shown.4)) same shown.5;
    }
  where
    room_there : (m : Market) (is : List Input) (front back : List Fact) (r : Room) → (run m is).history.facts ≡ front ++ back → In (Asked r) front → In r (rooms (run m is).history.facts)
    room_there m is front back r e i = In-filter_map room_in (run m is).history.facts (Asked r) r (subst (λ fs. In (Asked r) fs) (sym e) (In-append_left front back (Asked r) i)) refl

pub room_trades_lawful : (m : Market) (is : List Input) → RoomTradesAreLawful m is
room_trades_lawful m is before trade room quote happened place =
    let k = (lawful m is).requests_come_first before trade room quote happened place in
    let asked_before : In (Asked k.0) before = In-from_Contains before (Asked k.0) k.2 in
    record {
      asked = k.0;
      hit = k.1;
      was_asked = k.2;
      was_quoted = k.3;
      number = k.4;
      quote_number = k.5;
      quoted_here = k.6;
      three_unrelated = k.7;
      maker_was_asked = k.8;
      live = k.9;
      instrument = k.10;
      quantity = k.11;
      at_the_quote = k.12;
      asked_together = asked_together m is k.0 (subst (λ fs. In (Asked k.0) fs) (sym happened.1) (In-append_left before (Traded trade ∷ happened.0) (Asked k.0) asked_before));
      shown_with_first = shown_with_first m is before happened.0 (Traded trade) k.0 k.1 happened.1 asked_before (In-from_Contains before (Quoted k.1) k.3) (k.6 ∙ sym k.4);
    }
