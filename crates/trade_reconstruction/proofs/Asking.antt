-- The events of a day have the request of each room trade, as the room was opened, and state its recipients.
use Rattle.std.proofs.Common.{◌≡◌, refl, sym, ap, subst, ◌∙◌, ◌⊎◌, inl, inr, ℕ, ◌+◌, ◌-◌, ◌<◌, ◌==◌, Bool, true, false, cond, List, [], ◌∷◌, ◌++◌, map, filter, filter_map, find, length, Option, Some, append-nil, eq-eqb, ne_eqb, arith}
use Rattle.std.specs.List.{cons_option, flat_map}
use Rattle.std.proofs.lemmas.List.Elements.{filter-append}
use Rattle.participants.specs.Relations.{three_unrelated}
use Rattle.participants.proofs.Unrelated.{test-from_ThreeUnrelated}
use Rattle.venue_rules.specs.declared.facts.Fact.{Fact}
use Rattle.venue_rules.specs.declared.facts.Fact.TheVariants as fact
use Rattle.venue_rules.specs.declared.facts.TradeSource.{TradeSource}
use Rattle.venue_rules.specs.declared.facts.TradeSource.TheVariants.{Book as InBook, Room as InRoom}
use Rattle.venue_rules.specs.declared.facts.Room.{Room}
use Rattle.venue_rules.specs.declared.trail.TradeFact.{TradeFact}
use Rattle.venue_rules.specs.declared.trail.TrailRow.{TrailRow}
use Rattle.venue_rules.specs.Facts.{no_history, room_in as room_in_fact, rooms, trades}
use Rattle.venue_rules.specs.Market.{Market}
use Rattle.venue_rules.specs.Readings.{room_of, trade_facts}
use Rattle.venue_rules.specs.RoomTrades.{RoomTradesAreLawful}
use Rattle.venue_rules.specs.Run.{Input, answer_input, run}
use Rattle.trade_reconstruction.specs.declared.finding.Query.TheVariants.{Request}
use Rattle.trade_reconstruction.specs.declared.evidence_event.Asked.{Asked}
use Rattle.trade_reconstruction.specs.declared.evidence_event.EventKind.{EventKind}
use Rattle.trade_reconstruction.specs.declared.evidence_event.EventKind.TheVariants as said
use Rattle.trade_reconstruction.specs.declared.evidence_event.EvidenceEvent.{EvidenceEvent}
use Rattle.trade_reconstruction.specs.declared.unrelated.Three.{Three}
use Rattle.trade_reconstruction.specs.Found.{HasRequest}
use Rattle.trade_reconstruction.specs.Unrelated.{three_of}
use Rattle.trade_reconstruction.proofs.Threes.{recipients_are, three_found}
use Rattle.trade_reconstruction.specs.Lines.{evidence, is_asked, is_asked_said, is_sought, last_lines, lines_in, request_line, room_found_said, room_of as lines_of_room, three_if, three_line, three_text, trade_row, recipients_of, words_lines}
use Rattle.venue_core.specs.Replay.{AreEmitted}
use Rattle.trade_reconstruction.specs.Emitted.{trade_numbered, words_emitted}
use Rattle.venue_rules.proofs.Members.{Contains-from_In, In, In-append_cases, In-append_left, In-filter_map, In-from_Contains, Places, Places-above, filter-all, filter-none, picked_from}
use Rattle.trade_blotter.proofs.Lists.{In-map, none_is_some, same_some}
use Rattle.trade_reconstruction.proofs.Members.{Places-from, Places-unmap, found_first, found_past, found_picked, picked_passes}
use Rattle.trade_reconstruction.proofs.Says.{HeardAsked, asking_in, asking_of_said}
use Rattle.trade_reconstruction.proofs.Replies.{emitted_asked}
use Rattle.trade_reconstruction.proofs.Days.{added, added_are, asked_at, day_asked, is_added, it, map_itself, map_map}
use Rattle.trade_reconstruction.proofs.Orders.{PlacesLaw, happened, numbered_at, numbered_trade}

-- Content of an event that is found.

abbrev heard : EvidenceEvent → Asked → HeardAsked
heard w a = record { row = w.row; moment = w.moment; to = w.to; requester = a.requester; request = a.request; room = a.room; symbol = a.symbol; side = a.side; quantity = a.quantity }

asked_in : (w : EvidenceEvent) (s : EventKind) (y : HeardAsked) → asking_of_said w s ≡ Some y → (a : Asked) × (s ≡ said.Asked a) × (heard w a ≡ y)
asked_in w (said.Asked a) y h = (a, refl, same_some (heard w a) y h)
asked_in w (said.SnapshotSent x) y h = absurd (none_is_some y h)
asked_in w (said.Shown x) y h = absurd (none_is_some y h)
asked_in w (said.Quoted x) y h = absurd (none_is_some y h)
asked_in w (said.Hit x) y h = absurd (none_is_some y h)
asked_in w (said.Entered x) y h = absurd (none_is_some y h)
asked_in w (said.Held x) y h = absurd (none_is_some y h)
asked_in w (said.Filled x) y h = absurd (none_is_some y h)
asked_in w (said.RestedBefore x) y h = absurd (none_is_some y h)
asked_in w (said.RestedCount x) y h = absurd (none_is_some y h)

asked_test : (n : ℕ) (w : EvidenceEvent) (s : EventKind) → is_asked_said n s ≡ picked_passes (λ y. y.room == n) (asking_of_said w s)
asked_test n w (said.Asked x) = refl
asked_test n w (said.SnapshotSent x) = refl
asked_test n w (said.Shown x) = refl
asked_test n w (said.Quoted x) = refl
asked_test n w (said.Hit x) = refl
asked_test n w (said.Entered x) = refl
asked_test n w (said.Held x) = refl
asked_test n w (said.Filled x) = refl
asked_test n w (said.RestedBefore x) = refl
asked_test n w (said.RestedCount x) = refl

-- the recipients in the events of a room

abbrev heard_by : List HeardAsked → List ℕ
heard_by ys = map (λ (y : HeardAsked). y.to) ys

abbrev said_by : List EvidenceEvent → List ℕ
said_by ws = map (λ (w : EvidenceEvent). w.to) ws

to_one : (n : ℕ) (w : EvidenceEvent) (s : EventKind) (ws : List EvidenceEvent) (ys : List HeardAsked) → said_by ws ≡ heard_by (filter (λ y. y.room == n) ys)
    → said_by (cond (is_asked_said n s) (w ∷ ws) ws) ≡ heard_by (filter (λ y. y.room == n) (cons_option (asking_of_said w s) ys))
to_one n w (said.Asked a) ws ys rest =
    let test : HeardAsked → Bool = λ y. y.room == n in
    elim (a.room == n) as (λ b. said_by (cond b (w ∷ ws) ws) ≡ heard_by (cond b (heard w a ∷ filter test ys) (filter test ys))) [ true ↦ ap (λ l. w.to ∷ l) rest | false ↦ rest ]
to_one n w (said.SnapshotSent x) ws ys rest = rest
to_one n w (said.Shown x) ws ys rest = rest
to_one n w (said.Quoted x) ws ys rest = rest
to_one n w (said.Hit x) ws ys rest = rest
to_one n w (said.Entered x) ws ys rest = rest
to_one n w (said.Held x) ws ys rest = rest
to_one n w (said.Filled x) ws ys rest = rest
to_one n w (said.RestedBefore x) ws ys rest = rest
to_one n w (said.RestedCount x) ws ys rest = rest

to_all : (n : ℕ) (ws : List EvidenceEvent) → said_by (filter (is_asked n) ws) ≡ heard_by (filter (λ y. y.room == n) (filter_map asking_in ws))
to_all n [] = refl
to_all n (w ∷ ws) = to_one n w w.said (filter (is_asked n) ws) (filter_map asking_in ws) (to_all n ws)

-- A room is found among the rooms of a day by its number.

abbrev Opened : Type 0
Opened = TrailRow × Input × Room

abbrev number_of : Opened → ℕ
number_of p = p.2.number

of_room : (m : Market) (q : Opened) (y : HeardAsked) → In y (asked_at m q) → y.room ≡ number_of q
of_room m q y i = let k = In-map (emitted_asked m q.0.n q.0.moment q.2) q.2.recipients y i in ap (λ (x : HeardAsked). x.room) (sym k.2)

in_one : (m : Market) (qs : List Opened) (y : HeardAsked) → In y (flat_map (asked_at m) qs) → (q : Opened) × In q qs × In y (asked_at m q)
in_one m [] y i = absurd i
in_one m (q ∷ qs) y i = by (in_one m qs y) (In-append_cases (asked_at m q) (flat_map (asked_at m) qs) y i)
  where
    by : (In y (flat_map (asked_at m) qs) → (p : Opened) × In p qs × In y (asked_at m p)) → In y (asked_at m q) ⊎ In y (flat_map (asked_at m) qs) → (p : Opened) × In p (q ∷ qs) × In y (asked_at m p)
    by rec (inl here) = (q, inl refl, here)
    by rec (inr behind) = let k = rec behind in (k.0, inr k.1, k.2)

not_of : (m : Market) (n : ℕ) (q : Opened) → (number_of q ≡ n → ⊥) → (y : HeardAsked) → In y (asked_at m q) → (y.room == n) ≡ false
not_of m n q apart y i = ne_eqb y.room n (λ e. apart (sym (of_room m q y i) ∙ e))

first_asked : (m : Market) (k : ℕ) (qs : List Opened) → Places number_of k qs → (p : Opened) → In p qs → (to : ℕ) (others : List ℕ) → p.2.recipients ≡ to ∷ others
    → find (λ (y : HeardAsked). y.room == number_of p) (flat_map (asked_at m) qs) ≡ Some (emitted_asked m p.0.n p.0.moment p.2 to)
first_asked m k [] places p i to others e = absurd i
first_asked m k (q ∷ qs) places p (inl same) to others e =
    let test : HeardAsked → Bool = λ y. y.room == number_of p in
    let emitted = emitted_asked m p.0.n p.0.moment p.2 in
    let rest = flat_map (asked_at m) qs in
    ap (λ (x : Opened). find test (asked_at m x ++ rest)) same ∙ (ap (λ l. find test (map emitted l ++ rest)) e ∙ found_first test (emitted to) (map emitted others ++ rest) (eq-eqb (number_of p) (number_of p) refl))
first_asked m k (q ∷ qs) places p (inr i) to others e =
    found_past (λ (y : HeardAsked). y.room == number_of p) (asked_at m q) (flat_map (asked_at m) qs) (not_of m (number_of p) q (λ same. apart (number_of q) (number_of p) places.0 (Places-above number_of (k + 1) qs places.1 p i) same))
    ∙ first_asked m (k + 1) qs places.1 p i to others e
  where
    apart : (a b : ℕ) → a ≡ k + 1 → k + 1 < b → a ≡ b → ⊥
    apart a b f l g = omega (arith, f, l, g)

all_asked : (m : Market) (k : ℕ) (qs : List Opened) → Places number_of k qs → (p : Opened) → In p qs → heard_by (filter (λ (y : HeardAsked). y.room == number_of p) (flat_map (asked_at m) qs)) ≡ p.2.recipients
all_asked m k [] places p i = absurd i
all_asked m k (q ∷ qs) places p (inl same) =
    let test : HeardAsked → Bool = λ y. y.room == number_of p in
    let emitted = emitted_asked m p.0.n p.0.moment p.2 in
    let rest = flat_map (asked_at m) qs in
    ap (λ (x : Opened). heard_by (filter test (asked_at m x ++ rest))) same
    ∙ (ap heard_by (filter-append test (asked_at m p) rest)
    ∙ (ap (λ l. heard_by (l ++ filter test rest)) (filter-all test (asked_at m p) (λ y j. eq-eqb y.room (number_of p) (of_room m p y j)))
    ∙ (ap (λ l. heard_by (asked_at m p ++ l)) (filter-none test rest (λ y j. let one = in_one m qs y j in not_of m (number_of p) one.0 (λ e. apart (number_of one.0) (number_of p) (ap number_of (sym same) ∙ places.0) (Places-above number_of (k + 1) qs places.1 one.0 one.1) e) y one.2))
    ∙ (ap heard_by (append-nil (asked_at m p)) ∙ (map_map emitted (λ (y : HeardAsked). y.to) p.2.recipients ∙ map_itself p.2.recipients)))))
  where
    apart : (a b : ℕ) → b ≡ k + 1 → k + 1 < a → a ≡ b → ⊥
    apart a b f l g = omega (arith, f, l, g)
all_asked m k (q ∷ qs) places p (inr i) =
    let test : HeardAsked → Bool = λ y. y.room == number_of p in
    ap heard_by (filter-append test (asked_at m q) (flat_map (asked_at m) qs))
    ∙ (ap (λ l. heard_by (l ++ filter test (flat_map (asked_at m) qs))) (filter-none test (asked_at m q) (not_of m (number_of p) q (λ same. apart (number_of q) (number_of p) places.0 (Places-above number_of (k + 1) qs places.1 p i) same)))
    ∙ all_asked m (k + 1) qs places.1 p i)
  where
    apart : (a b : ℕ) → a ≡ k + 1 → k + 1 < b → a ≡ b → ⊥
    apart a b f l g = omega (arith, f, l, g)

-- The whole.

in_room : (place : TradeSource) (room : ℕ) → room_of place ≡ Some room → (quote : ℕ) × (place ≡ InRoom room quote)
in_room (InBook old new) room e = absurd (none_is_some room e)
in_room (InRoom r quote) room e = (quote, ap (λ (x : ℕ). InRoom x quote) (same_some r room e))

asked_fact : (f : Fact) (x : Room) → room_in_fact f ≡ Some x → f ≡ fact.Asked x
asked_fact (fact.Asked y) x h = ap (λ (z : Room). fact.Asked z) (same_some y x h)
asked_fact (fact.Traded y) x h = absurd (none_is_some x h)
asked_fact (fact.Held y) x h = absurd (none_is_some x h)
asked_fact (fact.Entered y) x h = absurd (none_is_some x h)
asked_fact (fact.Removed y) x h = absurd (none_is_some x h)
asked_fact (fact.Unheld y) x h = absurd (none_is_some x h)
asked_fact (fact.Quoted y) x h = absurd (none_is_some x h)
asked_fact (fact.Withdrawn y) x h = absurd (none_is_some x h)
asked_fact (fact.Closed y) x h = absurd (none_is_some x h)

one_of : (rs : List ℕ) → 0 < length rs → (to : ℕ) × (others : List ℕ) × (rs ≡ to ∷ others)
one_of [] many = absurd (omega (arith, many))
one_of (to ∷ others) many = (to, others, refl)

-- the evidence for a room trade is that of the room of this request
room_evidence : (m : Market) (rs : List TrailRow) (words stood : List EvidenceEvent) (noted : List ℕ) (t : TradeFact) (room : ℕ) (w : EvidenceEvent) (a : Asked) → t.room ≡ Some room → find (is_sought (Request room)) words ≡ Some w → w.said ≡ said.Asked a
    → evidence m rs words stood noted t ≡ (request_line rs m.participants w a ++ (three_line m.participants words w a ++ words_lines rs m.participants words a)) ++ (noted ++ last_lines m rs t (trade_row words t))
unfolding evidence
room_evidence m rs words stood noted t room w a placed found says =
    let file = m.participants in
    let row = trade_row words t in
    ap (λ (o : Option ℕ). lines_in rs file words stood t.number o row ++ (noted ++ last_lines m rs t row)) placed
    ∙ ap (λ (l : List ℕ). l ++ (noted ++ last_lines m rs t row)) (ap (lines_of_room rs file words) found ∙ ap (room_found_said rs file words w) says)

-- the line of three recipients names these three
named_three : (m : Market) (words : List EvidenceEvent) (w : EvidenceEvent) (a : Asked) (requester room : ℕ) (rs : List ℕ) (x : Three) → a.requester ≡ requester → a.room ≡ room → recipients_of room words ≡ rs → three_of m.participants requester rs ≡ Some x
    → three_line m.participants words w a ≡ three_text m.participants requester x w.row
named_three m words w a requester room rs x asked_by in_room recipients is =
    (λ k. three_if m.participants (asked_by k) (three_of m.participants (asked_by k) (recipients_of (in_room k) words)) w.row)
    ∙ ap (λ (l : List ℕ). three_if m.participants requester (three_of m.participants requester l) w.row) recipients
    ∙ ap (λ (o : Option Three). three_if m.participants requester o w.row) is

has_request : (m : Market) (rs : List TrailRow) (is : List Input) (t : TradeFact) → AreEmitted rs is → (p : Opened) → In p (added room_in_fact m no_history rs is) → Places number_of 0 (added room_in_fact m no_history rs is)
    → 0 < length p.2.recipients → three_unrelated m.participants p.2.requester p.2.recipients ≡ true → t.room ≡ Some (number_of p) → HasRequest m rs is (words_emitted m rs is) t (number_of p)
has_request m rs is t emitted p i places many there_are placed =
    let words = words_emitted m rs is in
    let all = added room_in_fact m no_history rs is in
    let room = number_of p in
    let test : HeardAsked → Bool = λ y. y.room == room in
    let listed = day_asked m no_history rs is emitted in
    let one = one_of p.2.recipients many in
    let w = found_picked asking_in test (is_sought (Request room)) (λ x. asked_test room x x.said) words (emitted_asked m p.0.n p.0.moment p.2 one.0) (ap (find test) listed ∙ first_asked m 0 all places p i one.0 one.1 one.2) in
    let a = asked_in w.0 w.0.said (emitted_asked m p.0.n p.0.moment p.2 one.0) w.2 in
    let at = is_added room_in_fact m no_history rs is emitted p i in
    let answered = (answer_input m (run m at.earlier).history p.1).facts in
    let trigger = picked_from room_in_fact answered p.2 at.made in
    let asked_by : a.0.requester ≡ p.2.requester = ap (λ (y : HeardAsked). y.requester) a.2 in
    let in_room : a.0.room ≡ room = ap (λ (y : HeardAsked). y.room) a.2 in
    let all_are = to_all room words ∙ (ap (λ l. heard_by (filter test l)) listed ∙ all_asked m 0 all places p i) in
    let three = three_found m.participants p.2.requester p.2.recipients there_are in
    record {
      word = w.0;
      asked = a.0;
      found = w.1;
      says = a.1;
      here = ap (λ (y : HeardAsked). y.room) a.2;
      lines = λ stood noted. room_evidence m rs words stood noted t room w.0 a.0 placed w.1 a.1;
      opened = p.2;
      row = p.0;
      input = p.1;
      trigger = record {
        earlier = at.earlier;
        later = at.later;
        taken = at.taken;
        emitted = at.emitted;
        made = Contains-from_In answered (fact.Asked p.2) (subst (λ (f : Fact). In f answered) (asked_fact trigger.0 p.2 trigger.2) trigger.1);
      };
      number = refl;
      at_row = ap (λ (y : HeardAsked). y.row) a.2;
      moment = ap (λ (y : HeardAsked). y.moment) a.2;
      requester = asked_by;
      request = ap (λ (y : HeardAsked). y.request) a.2;
      symbol = ap (λ (y : HeardAsked). y.symbol) a.2;
      side = ap (λ (y : HeardAsked). y.side) a.2;
      quantity = ap (λ (y : HeardAsked). y.quantity) a.2;
      recipients = all_are;
      three = three.three;
      named = named_three m words w.0 a.0 p.2.requester room p.2.recipients three.three asked_by in_room (recipients_are room words ∙ all_are) three.is;
      are_asked = (three.first, three.second, three.third);
      unrelated = three.apart;
    }

abbrev pub RoomTradesLaw : Type 0
RoomTradesLaw = (m : Market) (is : List Input) → RoomTradesAreLawful m is

pub room_trades_have_requests : RoomTradesLaw → PlacesLaw → (m : Market) (rs : List TrailRow) (is : List Input) (number room : ℕ) (t : TradeFact) → AreEmitted rs is
    → trade_numbered (run m is).history number ≡ Some t → t.room ≡ Some room → HasRequest m rs is (words_emitted m rs is) t room
room_trades_have_requests law numbers m rs is number room t emitted numbered placed =
    let facts = (run m is).history.facts in
    let x = numbered_trade (trades facts) 1 (number - 1) t (numbered_at (trade_facts facts) number t numbered) in
    let place = in_room x.trade.place room (ap (λ (y : TradeFact). y.room) x.read_back ∙ placed) in
    let there = happened facts (number - 1) x.trade x.at in
    let lawful = law m is there.before x.trade room place.0 there.follows place.1 in
    let asked_in_it : In lawful.asked (rooms facts) = In-filter_map room_in_fact facts (fact.Asked lawful.asked) lawful.asked
    (subst (λ (fs : List Fact). In (fact.Asked lawful.asked) fs) (sym there.follows.1) (In-append_left there.before (fact.Traded x.trade ∷ there.follows.0) (fact.Asked lawful.asked) (In-from_Contains there.before (fact.Asked lawful.asked) lawful.was_asked))) refl in
    let all = added room_in_fact m no_history rs is in
    let same : rooms facts ≡ map it all = added_are room_in_fact m no_history rs is emitted in
    let in_places : Places (λ (r : Room). r.number) 0 (rooms facts) = Places-from (λ (r : Room). r.number) 0 (rooms facts) (λ k r h. (numbers m is).1 k r h ∙ from_zero k) in
    let places : Places number_of 0 all = Places-unmap it (λ (r : Room). r.number) 0 all (subst (Places (λ (r : Room). r.number) 0) same in_places) in
    let p = In-map it all lawful.asked (subst (In lawful.asked) same asked_in_it) in
    let many : 0 < length lawful.asked.recipients = let c = lawful.three_unrelated.3 in omega (arith, c.1) in
    let some : 0 < length p.0.2.recipients = subst (λ (r : Room). 0 < length r.recipients) (sym p.2) many in
    let there_are : three_unrelated m.participants p.0.2.requester p.0.2.recipients ≡ true =
    subst (λ (r : Room). three_unrelated m.participants r.requester r.recipients ≡ true) (sym p.2) (test-from_ThreeUnrelated m.participants lawful.asked.requester lawful.asked.recipients lawful.three_unrelated) in
    let same_room : number_of p.0 ≡ room = ap (λ (r : Room). r.number) p.2 ∙ lawful.number in
    subst (HasRequest m rs is (words_emitted m rs is) t) same_room (has_request m rs is t emitted p.0 p.1 places some there_are (placed ∙ ap (λ (n : ℕ). Some n) (sym same_room)))
  where
    from_zero : (k : ℕ) → k + 1 ≡ 0 + k + 1
    from_zero k = omega arith
