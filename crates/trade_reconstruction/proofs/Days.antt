-- The events of a day state which orders entered on it, which trades were made and which sides were held, each at its
-- row.
use Rattle.std.proofs.Common.{◌≡◌, refl, sym, ap, subst, ◌∙◌, ◌⊎◌, inl, inr, ℕ, ℤ, suc, ◌+◌, List, [], ◌∷◌, ◌++◌, map, filter_map, length, slice_get, Option, Some, append-nil, append_assoc, length-append, arith}
use Rattle.std.specs.List.{flat_map}
use Rattle.std.proofs.lemmas.List.{map-append, length-map}
use Rattle.std.proofs.lemmas.List.Elements.{filter_map-append}
use Rattle.venue_rules.specs.declared.facts.Entry.{Entry}
use Rattle.venue_rules.specs.declared.facts.Fact.{Fact}
use Rattle.venue_rules.specs.declared.facts.HeldSide.{HeldSide}
use Rattle.venue_rules.specs.declared.facts.TradeSource.{TradeSource}
use Rattle.venue_rules.specs.declared.facts.TradeSource.TheVariants.{Book as InBook, Room as InRoom}
use Rattle.venue_rules.specs.declared.facts.Room.{Room}
use Rattle.venue_rules.specs.declared.facts.Trade.{Trade}
use Rattle.venue_rules.specs.declared.trail.TrailRow.{TrailRow}
use Rattle.venue_rules.specs.Facts.{History, entries, entry_in as entry_in_fact, held_in as held_in_fact, held_sides, next_trade, room_in as room_in_fact, rooms, trade_in as trade_in_fact, trades}
use Rattle.venue_rules.specs.Market.{Market}
use Rattle.venue_rules.specs.Run.{Input, after, answer_input, run_from}
use Rattle.trade_reconstruction.specs.declared.evidence_event.EvidenceEvent.{EvidenceEvent}
use Rattle.venue_core.specs.Replay.{AreEmitted, Emits}
use Rattle.trade_reconstruction.specs.Found.{original_emitted}
use Rattle.trade_reconstruction.specs.Emitted.{came_of, words_at, words_from}
use Rattle.venue_rules.proofs.Members.{In, In-append_cases}
use Rattle.trade_blotter.proofs.Lists.{In-map}
use Rattle.trade_reconstruction.proofs.Says.{HeardAsked, HeardEntry, HeardFill, HeardHit, HeardHold, asking_in, askings_say, entries_say, entry_in, fill_in, fills_say, hits_say, hold_in, holds_say, traded_in}
use Rattle.trade_reconstruction.proofs.Replies.{asked_emitted, at_row, fills_emitted, here, hits_of, hits_emitted, input-Says, is_tick_input, pair_emitted, emitted_entry, emitted_hold}

-- the facts of a kind that the answers of a day added, each with its row and input
abbrev pub added : {X : Type 0} → (Fact → Option X) → Market → History → List TrailRow → List Input → List (TrailRow × Input × X)
added pick m h [] is = []
added pick m h (r ∷ rs) [] = []
added pick m h (r ∷ rs) (i ∷ is) = map (λ x. (r, i, x)) (filter_map pick (answer_input m h i).facts) ++ added pick m (after h (answer_input m h i)) rs is

pub map_map : {X Y Z : Type 0} (f : X → Y) (g : Y → Z) (xs : List X) → map g (map f xs) ≡ map (λ x. g (f x)) xs
map_map f g [] = refl
map_map f g (x ∷ xs) = ap (λ l. g (f x) ∷ l) (map_map f g xs)

pub map_itself : {X : Type 0} (xs : List X) → map (λ (x : X). x) xs ≡ xs
map_itself [] = refl
map_itself (x ∷ xs) = ap (λ l. x ∷ l) (map_itself xs)

abbrev pub it : {X : Type 0} → TrailRow × Input × X → X
it p = p.2

-- they are the facts of the day
pub added_are : {X : Type 0} (pick : Fact → Option X) (m : Market) (h : History) (rs : List TrailRow) (is : List Input) → AreEmitted rs is → filter_map pick (run_from m h is).history.facts ≡ filter_map pick h.facts ++ map it (added pick m h rs is)
added_are pick m h [] [] emitted = sym (append-nil (filter_map pick h.facts))
added_are pick m h [] (i ∷ is) emitted = absurd emitted
added_are pick m h (r ∷ rs) [] emitted = absurd emitted
added_are pick m h (r ∷ rs) (i ∷ is) emitted =
    let a = answer_input m h i in
    let here = filter_map pick a.facts in
    let rest = added pick m (after h a) rs is in
    added_are pick m (after h a) rs is emitted.1
    ∙ (ap (λ l. l ++ map it rest) (filter_map-append pick h.facts a.facts)
    ∙ (append_assoc (filter_map pick h.facts) here (map it rest)
    ∙ ap (λ l. filter_map pick h.facts ++ l) (ap (λ l. l ++ map it rest) (sym (map_map (λ x. (r, i, x)) it here ∙ map_itself here)) ∙ sym (map-append it (map (λ x. (r, i, x)) here) rest))))

-- where one of them came
pub record IsAdded {X : Type 0} (pick : Fact → Option X) (m : Market) (h : History) (rs : List TrailRow) (is : List Input) (p : TrailRow × Input × X) : Type 0 where
  pub earlier : List Input
  pub later : List Input
  pub taken : is ≡ earlier ++ p.1 ∷ later
  pub emitted : slice_get rs (length earlier) ≡ Some p.0
  pub emits : Emits p.0 p.1
  pub made : In p.2 (filter_map pick (answer_input m (run_from m h earlier).history p.1).facts)

pub is_added : {X : Type 0} (pick : Fact → Option X) (m : Market) (h : History) (rs : List TrailRow) (is : List Input) → AreEmitted rs is → (p : TrailRow × Input × X) → In p (added pick m h rs is) → IsAdded pick m h rs is p
is_added pick m h [] is emitted p i = absurd i
is_added pick m h (r ∷ rs) [] emitted p i = absurd i
is_added {X} pick m h (r ∷ rs) (j ∷ js) emitted p i =
    by r j rs js emitted (is_added pick m (after h (answer_input m h j)) rs js emitted.1 p) (In-append_cases (map (λ x. (r, j, x)) (filter_map pick (answer_input m h j).facts)) (added pick m (after h (answer_input m h j)) rs js) p i)
  where
    by : (r : TrailRow) (j : Input) (rs : List TrailRow) (js : List Input) → AreEmitted (r ∷ rs) (j ∷ js) → (In p (added pick m (after h (answer_input m h j)) rs js) → IsAdded pick m (after h (answer_input m h j)) rs js p)
        → In p (map (λ x. (r, j, x)) (filter_map pick (answer_input m h j).facts)) ⊎ In p (added pick m (after h (answer_input m h j)) rs js) → IsAdded pick m h (r ∷ rs) (j ∷ js) p
    by r j rs js emitted rest (inl here) =
        let k = In-map (λ (x : X). (r, j, x)) (filter_map pick (answer_input m h j).facts) p here in
        subst (IsAdded pick m h (r ∷ rs) (j ∷ js)) k.2 (record { earlier = []; later = js; taken = refl; emitted = refl; emits = emitted.0; made = k.1 })
    by r j rs js emitted rest (inr behind) = let k = rest behind in record { earlier = j ∷ k.earlier; later = k.later; taken = ap (λ (l : List Input). j ∷ l) k.taken; emitted = k.emitted; emits = k.emits; made = k.made }

-- The events of a day, by those of each row.

pub day_says : {Y : Type 0} (pick : EvidenceEvent → Option Y) (out : History → List TrailRow → List Input → List Y) (m : Market) → ((h : History) → out h [] [] ≡ [])
    → ((h : History) (words : List EvidenceEvent) (r : TrailRow) (i : Input) (rs : List TrailRow) (is : List Input) → Emits r i → filter_map pick (words_at m h words r i) ++ out (after h (answer_input m h i)) rs is ≡ out h (r ∷ rs) (i ∷ is))
    → (h : History) (words : List EvidenceEvent) (rs : List TrailRow) (is : List Input) → AreEmitted rs is → filter_map pick (words_from m h words rs is) ≡ filter_map pick words ++ out h rs is
day_says pick out m end step h words [] [] emitted = sym (append-nil (filter_map pick words)) ∙ ap (λ l. filter_map pick words ++ l) (sym (end h))
day_says pick out m end step h words [] (i ∷ is) emitted = absurd emitted
day_says pick out m end step h words (r ∷ rs) [] emitted = absurd emitted
day_says pick out m end step h words (r ∷ rs) (i ∷ is) emitted =
    let next = after h (answer_input m h i) in
    let new = words_at m h words r i in
    day_says pick out m end step next (words ++ new) rs is emitted.1
    ∙ (ap (λ l. l ++ out next rs is) (filter_map-append pick words new)
    ∙ (append_assoc (filter_map pick words) (filter_map pick new) (out next rs is)
    ∙ ap (λ l. filter_map pick words ++ l) (step h words r i rs is emitted.0)))

-- entries

abbrev pub entry_at : Market → TrailRow × Input × Entry → HeardEntry
entry_at m p = emitted_entry m p.0.n p.0.moment (is_tick_input p.1) (original_emitted p.1) p.2

entries_step : (m : Market) (h : History) (words : List EvidenceEvent) (r : TrailRow) (i : Input) (rs : List TrailRow) (is : List Input) → Emits r i
    → filter_map entry_in (words_at m h words r i) ++ map (entry_at m) (added entry_in_fact m (after h (answer_input m h i)) rs is) ≡ map (entry_at m) (added entry_in_fact m h (r ∷ rs) (i ∷ is))
entries_step m h words r i rs is emits =
    let a = answer_input m h i in
    let rest = added entry_in_fact m (after h a) rs is in
    let new = entries a.facts in
    ap (λ l. l ++ map (entry_at m) rest)
    ((entries_say r.n r.moment (came_of m words r.n i) a.replies ∙ ((input-Says m h words r i emits).0 ∙ sym (map_map (λ (x : Entry). (r, i, x)) (entry_at m) new))))
    ∙ sym (map-append (entry_at m) (map (λ (x : Entry). (r, i, x)) new) rest)

pub day_entries : (m : Market) (h : History) (rs : List TrailRow) (is : List Input) → AreEmitted rs is → filter_map entry_in (words_from m h [] rs is) ≡ map (entry_at m) (added entry_in_fact m h rs is)
day_entries m h rs is emitted = day_says entry_in (λ k xs ys. map (entry_at m) (added entry_in_fact m k xs ys)) m (λ k. refl) (entries_step m) h [] rs is emitted

-- trades

abbrev pub trade_at : TrailRow × Input × Trade → ℕ × Trade
trade_at p = (p.0.n, p.2)

pair_more : (n trade : ℕ) (x : TradeSource) (xs ys : List HeardFill) → pair_emitted n trade x (xs ++ ys) ≡ pair_emitted n trade x xs ++ ys
pair_more n trade (InBook old new) xs ys = refl
pair_more n trade (InRoom room quote) xs ys = refl

fills_more : (trade : ℕ) (xs ys : List (ℕ × Trade)) → fills_emitted trade xs ++ fills_emitted (trade + length xs) ys ≡ fills_emitted trade (xs ++ ys)
fills_more trade [] ys = ap (λ k. fills_emitted k ys) (from_zero trade)
  where
    from_zero : (k : ℕ) → k + 0 ≡ k
    from_zero k = omega arith
fills_more trade (x ∷ xs) ys =
    sym (pair_more x.0 trade x.1.place (fills_emitted (trade + 1) xs) (fills_emitted (trade + suc (length xs)) ys))
    ∙ ap (pair_emitted x.0 trade x.1.place) (ap (λ k. fills_emitted (trade + 1) xs ++ fills_emitted k ys) (next trade (length xs)) ∙ fills_more (trade + 1) xs ys)
  where
    next : (k l : ℕ) → k + suc l ≡ k + 1 + l
    next k l = omega arith

pub next_trades : (h : History) (fs : List Fact) → length (trades (h.facts ++ fs)) + 1 ≡ next_trade h.facts + length (trades fs)
next_trades h fs = ap (λ (ts : List Trade). length ts + 1) (filter_map-append trade_in_fact h.facts fs) ∙ (ap (λ n. n + 1) (length-append (trades h.facts) (trades fs)) ∙ past (length (trades h.facts)) (length (trades fs)))
  where
    past : (a b : ℕ) → a + b + 1 ≡ a + 1 + b
    past a b = omega arith

fills_step : (m : Market) (h : History) (words : List EvidenceEvent) (r : TrailRow) (i : Input) (rs : List TrailRow) (is : List Input) → Emits r i
    → filter_map fill_in (words_at m h words r i) ++ fills_emitted (next_trade (after h (answer_input m h i)).facts) (map trade_at (added trade_in_fact m (after h (answer_input m h i)) rs is))
    ≡ fills_emitted (next_trade h.facts) (map trade_at (added trade_in_fact m h (r ∷ rs) (i ∷ is)))
fills_step m h words r i rs is emits =
    let a = answer_input m h i in
    let rest = map trade_at (added trade_in_fact m (after h a) rs is) in
    let new = trades a.facts in
    let at = at_row r.n new in
    ap (λ l. l ++ fills_emitted (next_trade (after h a).facts) rest) ((fills_say r.n r.moment (came_of m words r.n i) a.replies ∙ (input-Says m h words r i emits).1.0))
    ∙ (ap (λ k. fills_emitted (next_trade h.facts) at ++ fills_emitted k rest) (next_trades h a.facts ∙ ap (λ k. next_trade h.facts + k) (sym (length-map new (λ (x : Trade). (r.n, x)))))
    ∙ (fills_more (next_trade h.facts) at rest
    ∙ ap (fills_emitted (next_trade h.facts)) (ap (λ l. l ++ rest) (sym (map_map (λ (x : Trade). (r, i, x)) trade_at new)) ∙ sym (map-append trade_at (map (λ (x : Trade). (r, i, x)) new) (added trade_in_fact m (after h a) rs is)))))

pub day_fills : (m : Market) (h : History) (rs : List TrailRow) (is : List Input) → AreEmitted rs is → filter_map fill_in (words_from m h [] rs is) ≡ fills_emitted (next_trade h.facts) (map trade_at (added trade_in_fact m h rs is))
day_fills m h rs is emitted = day_says fill_in (λ k xs ys. fills_emitted (next_trade k.facts) (map trade_at (added trade_in_fact m k xs ys))) m (λ k. refl) (fills_step m) h [] rs is emitted

-- and hits

hits_of_more : (n trade : ℕ) (price : ℤ) (x : TradeSource) (xs ys : List HeardHit) → hits_of n trade price x (xs ++ ys) ≡ hits_of n trade price x xs ++ ys
hits_of_more n trade price (InBook old new) xs ys = refl
hits_of_more n trade price (InRoom room quote) xs ys = refl

hits_more : (trade : ℕ) (xs ys : List (ℕ × Trade)) → hits_emitted trade xs ++ hits_emitted (trade + length xs) ys ≡ hits_emitted trade (xs ++ ys)
hits_more trade [] ys = ap (λ k. hits_emitted k ys) (from_zero trade)
  where
    from_zero : (k : ℕ) → k + 0 ≡ k
    from_zero k = omega arith
hits_more trade (x ∷ xs) ys =
    sym (hits_of_more x.0 trade x.1.price x.1.place (hits_emitted (trade + 1) xs) (hits_emitted (trade + suc (length xs)) ys))
    ∙ ap (hits_of x.0 trade x.1.price x.1.place) (ap (λ k. hits_emitted (trade + 1) xs ++ hits_emitted k ys) (next trade (length xs)) ∙ hits_more (trade + 1) xs ys)
  where
    next : (k l : ℕ) → k + suc l ≡ k + 1 + l
    next k l = omega arith

hits_step : (m : Market) (h : History) (words : List EvidenceEvent) (r : TrailRow) (i : Input) (rs : List TrailRow) (is : List Input) → Emits r i
    → filter_map traded_in (words_at m h words r i) ++ hits_emitted (next_trade (after h (answer_input m h i)).facts) (map trade_at (added trade_in_fact m (after h (answer_input m h i)) rs is))
    ≡ hits_emitted (next_trade h.facts) (map trade_at (added trade_in_fact m h (r ∷ rs) (i ∷ is)))
hits_step m h words r i rs is emits =
    let a = answer_input m h i in
    let rest = map trade_at (added trade_in_fact m (after h a) rs is) in
    let new = trades a.facts in
    let at = at_row r.n new in
    ap (λ l. l ++ hits_emitted (next_trade (after h a).facts) rest) ((hits_say r.n r.moment (came_of m words r.n i) a.replies ∙ (input-Says m h words r i emits).1.1.1.1.1.0))
    ∙ (ap (λ k. hits_emitted (next_trade h.facts) at ++ hits_emitted k rest) (next_trades h a.facts ∙ ap (λ k. next_trade h.facts + k) (sym (length-map new (λ (x : Trade). (r.n, x)))))
    ∙ (hits_more (next_trade h.facts) at rest
    ∙ ap (hits_emitted (next_trade h.facts)) (ap (λ l. l ++ rest) (sym (map_map (λ (x : Trade). (r, i, x)) trade_at new)) ∙ sym (map-append trade_at (map (λ (x : Trade). (r, i, x)) new) (added trade_in_fact m (after h a) rs is)))))

pub day_hits : (m : Market) (h : History) (rs : List TrailRow) (is : List Input) → AreEmitted rs is → filter_map traded_in (words_from m h [] rs is) ≡ hits_emitted (next_trade h.facts) (map trade_at (added trade_in_fact m h rs is))
day_hits m h rs is emitted = day_says traded_in (λ k xs ys. hits_emitted (next_trade k.facts) (map trade_at (added trade_in_fact m k xs ys))) m (λ k. refl) (hits_step m) h [] rs is emitted

-- held sides

abbrev pub hold_at : TrailRow × Input × HeldSide → HeardHold
hold_at p = emitted_hold p.2

holds_step : (m : Market) (h : History) (words : List EvidenceEvent) (r : TrailRow) (i : Input) (rs : List TrailRow) (is : List Input) → Emits r i
    → filter_map hold_in (words_at m h words r i) ++ map hold_at (added held_in_fact m (after h (answer_input m h i)) rs is) ≡ map hold_at (added held_in_fact m h (r ∷ rs) (i ∷ is))
holds_step m h words r i rs is emits =
    let a = answer_input m h i in
    let rest = added held_in_fact m (after h a) rs is in
    let new = held_sides a.facts in
    ap (λ l. l ++ map hold_at rest)
    ((holds_say r.n r.moment (came_of m words r.n i) a.replies ∙ ((input-Says m h words r i emits).1.1.0 ∙ sym (map_map (λ (x : HeldSide). (r, i, x)) hold_at new))))
    ∙ sym (map-append hold_at (map (λ (x : HeldSide). (r, i, x)) new) rest)

pub day_holds : (m : Market) (h : History) (rs : List TrailRow) (is : List Input) → AreEmitted rs is → filter_map hold_in (words_from m h [] rs is) ≡ map hold_at (added held_in_fact m h rs is)
day_holds m h rs is emitted = day_says hold_in (λ k xs ys. map hold_at (added held_in_fact m k xs ys)) m (λ k. refl) (holds_step m) h [] rs is emitted

-- recipients

abbrev pub asked_at : Market → TrailRow × Input × Room → List HeardAsked
asked_at m p = asked_emitted m p.0.n p.0.moment p.2

flat_map_more : {X Y : Type 0} (g : X → List Y) (xs ys : List X) → flat_map g (xs ++ ys) ≡ flat_map g xs ++ flat_map g ys
flat_map_more g [] ys = refl
flat_map_more g (x ∷ xs) ys = ap (λ l. g x ++ l) (flat_map_more g xs ys) ∙ sym (append_assoc (g x) (flat_map g xs) (flat_map g ys))

flat_map_map : {X Y Z : Type 0} (f : X → Y) (g : Y → List Z) (xs : List X) → flat_map g (map f xs) ≡ flat_map (λ x. g (f x)) xs
flat_map_map f g [] = refl
flat_map_map f g (x ∷ xs) = ap (λ l. g (f x) ++ l) (flat_map_map f g xs)

asked_step : (m : Market) (h : History) (words : List EvidenceEvent) (r : TrailRow) (i : Input) (rs : List TrailRow) (is : List Input) → Emits r i
    → filter_map asking_in (words_at m h words r i) ++ flat_map (asked_at m) (added room_in_fact m (after h (answer_input m h i)) rs is) ≡ flat_map (asked_at m) (added room_in_fact m h (r ∷ rs) (i ∷ is))
asked_step m h words r i rs is emits =
    let a = answer_input m h i in
    let rest = added room_in_fact m (after h a) rs is in
    let new = rooms a.facts in
    ap (λ l. l ++ flat_map (asked_at m) rest)
    ((askings_say r.n r.moment (came_of m words r.n i) a.replies ∙ ((input-Says m h words r i emits).1.1.1.1.1.1.1 ∙ sym (flat_map_map (λ (x : Room). (r, i, x)) (asked_at m) new))))
    ∙ sym (flat_map_more (asked_at m) (map (λ (x : Room). (r, i, x)) new) rest)

pub day_asked : (m : Market) (h : History) (rs : List TrailRow) (is : List Input) → AreEmitted rs is → filter_map asking_in (words_from m h [] rs is) ≡ flat_map (asked_at m) (added room_in_fact m h rs is)
day_asked m h rs is emitted = day_says asking_in (λ k xs ys. flat_map (asked_at m) (added room_in_fact m k xs ys)) m (λ k. refl) (asked_step m) h [] rs is emitted
