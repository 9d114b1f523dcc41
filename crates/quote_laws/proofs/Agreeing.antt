-- What became of a quote agrees with the rules.
use Rattle.std.proofs.Common.{◌≡◌, refl, sym, ap, ◌∙◌, subst, inl, inr, ◌⊎◌, ℕ, suc, ◌+◌, ◌<◌, ◌^◌, Bool, true, false, not, ◌&&◌, ◌||◌, ◌==◌, nat_lt, nat_le, if◌then◌else◌, List, [], ◌∷◌, ◌++◌, length, Contains, Option, Some, arith, eqb-true}
use Rattle.std.specs.List.{enumerate_from, list_any}
use Rattle.std.proofs.lemmas.Bool.{true≢false, and_parts, or_from}
use Rattle.std.proofs.lemmas.Bool.Decides.{nat_tests}
use Rattle.std.proofs.lemmas.List.Elements.{filter_map-append}
use Rattle.std.proofs.lemmas.List.Folds.{list_any-append}
use Rattle.venue_rules.specs.declared.facts.Fact.{Fact}
use Rattle.venue_rules.specs.declared.facts.Fact.TheVariants.{Entered, Traded, Removed, Held, Unheld, Asked, Quoted, Withdrawn, Closed}
use Rattle.venue_rules.specs.declared.facts.RoomQuote.{RoomQuote}
use Rattle.venue_rules.specs.declared.facts.Trade.{Trade}
use Rattle.venue_rules.specs.declared.facts.TradeSource.{TradeSource}
use Rattle.venue_rules.specs.declared.facts.TradeSource.TheVariants.{Book as InBook, Room as InRoom}
use Rattle.venue_rules.specs.declared.trail.TrailRow.{TrailRow}
use Rattle.venue_rules.specs.Facts.{quote_in, quotes, trades}
use Rattle.venue_rules.specs.Lawful.{HappenedAfter}
use Rattle.venue_rules.specs.Market.{Market}
use Rattle.venue_rules.specs.Rooms.{is_closed, is_live, is_replaced, is_withdrawn, printed, withdraws}
use Rattle.venue_rules.specs.RoomTrades.{RoomsTradeOnce}
use Rattle.venue_rules.specs.Run.{Input, run}
use Rattle.venue_rules.proofs.EveryRun.{lawful, quoted_in, quotes_placed, run-Follows}
use Rattle.venue_rules.proofs.Follows.{Each, Follows}
use Rattle.venue_rules.proofs.Members.{In, In-append_cases, In-append_left, In-append_right, In-filter_map, In-from_Contains, Contains-from_In, Places-one}
use Rattle.venue_rules.proofs.OneTrade.{rooms_trade_once}
use Rattle.venue_core.specs.Replay.{AreEmitted}
use Rattle.day_events.specs.declared.event.Event.{Event}
use Rattle.day_events.specs.declared.event.NewQuote.{NewQuote}
use Rattle.day_events.specs.Days.{events}
use Rattle.request_sections.specs.declared.fate.Fate.{Fate}
use Rattle.request_sections.specs.declared.fate.Fate.TheVariants as fate
use Rattle.request_sections.specs.Fate.{outcome_of}
use Rattle.request_sections.specs.Picks.{names_room}
use Rattle.request_sections.specs.Requests.{quoted_of}
use Rattle.quote_laws.specs.Outcomes.{AreSmall, FollowsRules, IsQuoteOf, IsTradeOf, OutcomesAgree, is_gone, outcome}
use Rattle.quote_laws.proofs.Becoming.{Became, Still, HitIn, Over, became, becomes, by_steps, ends, gone_by_steps}
use Rattle.quote_laws.proofs.ByFacts.{AllSmall, Small, as_quoted, becomes_past, by_decided, by_still, by_withdrawn, hit_now, hit_traded, is_decided, is_still, never_withdrawn, printed_one, small_from}
use Rattle.quote_laws.proofs.EachDay.{SaysAll, behind, day_agrees, front}
use Rattle.quote_laws.proofs.Lasts.{is_later, none_passes, replaced_later}
use Rattle.quote_laws.proofs.Steps.{Fits, Step, Quotes, Ends, event_steps, fact_steps, has_traded, is_place_in, source_of, step_of, steps, trade_steps, trades_in, trades_more}

-- Fates, by what became of the quote.

is_hit : (f : Fate) (n : ℕ) → became f ≡ HitIn n → f ≡ fate.Hit n
is_hit (fate.Hit k) n e = ap fate.Hit (same e)
  where
    same : HitIn k ≡ HitIn n → k ≡ n
    same x = cc
is_hit fate.Live n e = absurd (other e)
  where
    other : Still ≡ HitIn n → ⊥
    other x = cc
is_hit (fate.Withdrawn k) n e = absurd (other e)
  where
    other : Over ≡ HitIn n → ⊥
    other x = cc
is_hit (fate.Passed k) n e = absurd (other e)
  where
    other : Over ≡ HitIn n → ⊥
    other x = cc
is_hit (fate.Replaced k) n e = absurd (other e)
  where
    other : Over ≡ HitIn n → ⊥
    other x = cc
is_hit fate.NotTaken n e = absurd (other e)
  where
    other : Over ≡ HitIn n → ⊥
    other x = cc
is_hit fate.RanOut n e = absurd (other e)
  where
    other : Over ≡ HitIn n → ⊥
    other x = cc

is_live_fate : (f : Fate) → is_still (became f) ≡ true → f ≡ fate.Live
is_live_fate fate.Live e = refl
is_live_fate (fate.Hit k) e = absurd (true≢false (sym e))
is_live_fate (fate.Withdrawn k) e = absurd (true≢false (sym e))
is_live_fate (fate.Passed k) e = absurd (true≢false (sym e))
is_live_fate (fate.Replaced k) e = absurd (true≢false (sym e))
is_live_fate fate.NotTaken e = absurd (true≢false (sym e))
is_live_fate fate.RanOut e = absurd (true≢false (sym e))

-- The recorded quote of an event.

member_steps : (s : Step) (es : List Event) (e : Event) → In e es → In s (event_steps e) → In s (steps es)
member_steps s [] e i k = absurd i
member_steps s (x ∷ xs) e (inl same) k = In-append_left (event_steps x) (steps xs) s (subst (λ y. In s (event_steps y)) (sym same) k)
member_steps s (x ∷ xs) e (inr i) k = In-append_right (event_steps x) (steps xs) s (member_steps s xs e i k)

abbrev pub recorded_step : RoomQuote → Step
recorded_step q = Quotes q.number (Some (printed 82 q.room)) (q.maker + 1) q.end

abbrev IsRecorded : Step → List Fact → Type 0
IsRecorded s fs = (q : RoomQuote) × In q (quotes fs) × (recorded_step q ≡ s)

no_trade_step : (n : ℕ) (named : Option (List ℕ)) (from end : ℕ) (k t : ℕ) (p : TradeSource) → In (Quotes n named from end) (trade_steps k t p) → ⊥
no_trade_step n named from end k t (InBook old new) i = i
no_trade_step n named from end k t (InRoom room quote) (inl e) = cc
no_trade_step n named from end k t (InRoom room quote) (inr (inl e)) = cc
no_trade_step n named from end k t (InRoom room quote) (inr (inr i)) = i

recorded : (n : ℕ) (named : Option (List ℕ)) (from end k : ℕ) (fs : List Fact) → In (Quotes n named from end) (fact_steps k fs) → IsRecorded (Quotes n named from end) fs
recorded n named from end k [] i = absurd i
recorded n named from end k (Traded t ∷ fs) i = by (λ j. recorded n named from end (k + 1) fs j) (In-append_cases (trade_steps k t.moment t.place) (fact_steps (k + 1) fs) (Quotes n named from end) i)
  where
    by : (In (Quotes n named from end) (fact_steps (k + 1) fs) → IsRecorded (Quotes n named from end) fs) → In (Quotes n named from end) (trade_steps k t.moment t.place) ⊎ In (Quotes n named from end) (fact_steps (k + 1) fs) → IsRecorded (Quotes n named from end) (Traded t ∷ fs)
    by later (inl j) = absurd (no_trade_step n named from end k t.moment t.place j)
    by later (inr j) = later j
recorded n named from end k (Quoted q ∷ fs) (inl e) = (q, inl refl, e)
recorded n named from end k (Quoted q ∷ fs) (inr i) = let r = recorded n named from end k fs i in (r.0, inr r.1, r.2)
recorded n named from end k (Withdrawn w ∷ fs) (inl e) = absurd (other e)
  where
    other : Ends (Some (printed 81 w.quote)) ≡ Quotes n named from end → ⊥
    other x = cc
recorded n named from end k (Withdrawn w ∷ fs) (inr i) = recorded n named from end k fs i
recorded n named from end k (Entered x ∷ fs) i = recorded n named from end k fs i
recorded n named from end k (Removed x ∷ fs) i = recorded n named from end k fs i
recorded n named from end k (Held x ∷ fs) i = recorded n named from end k fs i
recorded n named from end k (Unheld x ∷ fs) i = recorded n named from end k fs i
recorded n named from end k (Asked x ∷ fs) i = recorded n named from end k fs i
recorded n named from end k (Closed x ∷ fs) i = recorded n named from end k fs i

-- the parts of a step
pub record SameQuote (q : RoomQuote) (n : ℕ) (named : Option (List ℕ)) (from end : ℕ) : Type 0 where
  pub by_number : q.number ≡ n
  pub by_room : Some (printed 82 q.room) ≡ named
  pub by_maker : q.maker + 1 ≡ from
  pub by_end : q.end ≡ end

same_quote : (q : RoomQuote) (n : ℕ) (named : Option (List ℕ)) (from end : ℕ) → recorded_step q ≡ Quotes n named from end → SameQuote q n named from end
same_quote q n named from end e = record {
  by_number = first q.number n (Some (printed 82 q.room)) named (q.maker + 1) from q.end end e;
  by_room = second q.number n (Some (printed 82 q.room)) named (q.maker + 1) from q.end end e;
  by_maker = third q.number n (Some (printed 82 q.room)) named (q.maker + 1) from q.end end e;
  by_end = fourth q.number n (Some (printed 82 q.room)) named (q.maker + 1) from q.end end e;
}
  where
    first : (a b : ℕ) (c d : Option (List ℕ)) (f g h i : ℕ) → Quotes a c f h ≡ Quotes b d g i → a ≡ b
    first a b c d f g h i x = cc

    second : (a b : ℕ) (c d : Option (List ℕ)) (f g h i : ℕ) → Quotes a c f h ≡ Quotes b d g i → c ≡ d
    second a b c d f g h i x = cc

    third : (a b : ℕ) (c d : Option (List ℕ)) (f g h i : ℕ) → Quotes a c f h ≡ Quotes b d g i → f ≡ g
    third a b c d f g h i x = cc

    fourth : (a b : ℕ) (c d : Option (List ℕ)) (f g h i : ℕ) → Quotes a c f h ≡ Quotes b d g i → h ≡ i
    fourth a b c d f g h i x = cc

-- Trades by their numbers.

pub record IsSplit (fs : List Fact) (k n : ℕ) (t : Trade) : Type 0 where
  pub before : List Fact
  pub later : List Fact
  pub whole : fs ≡ before ++ (Traded t ∷ later)
  pub number : n ≡ k + length (trades before)

same_pair : (k n : ℕ) (x t : Trade) → ◌≡◌ {A = ℕ × Trade} (k, x) (n, t) → (k ≡ n) × (x ≡ t)
same_pair k n x t e = (λ j. (e j).0, λ j. (e j).1)

split_trade : (k : ℕ) (fs : List Fact) (n : ℕ) (t : Trade) → In (n, t) (enumerate_from k (trades fs)) → IsSplit fs k n t
split_trade k [] n t i = absurd i
split_trade k (Traded x ∷ fs) n t (inl e) = let s = same_pair k n x t e in record { before = []; later = fs; whole = ap (λ y. Traded y ∷ fs) s.1; number = sym s.0 ∙ none k }
  where
    none : (j : ℕ) → j ≡ j + 0
    none j = omega arith
split_trade k (Traded x ∷ fs) n t (inr i) =
    let s = split_trade (k + 1) fs n t i in
    record { before = Traded x ∷ s.before; later = s.later; whole = ap (λ l. Traded x ∷ l) s.whole; number = s.number ∙ moved k (length (trades s.before)) }
  where
    moved : (j l : ℕ) → j + 1 + l ≡ j + suc l
    moved j l = omega arith
split_trade k (Entered x ∷ fs) n t i = let s = split_trade k fs n t i in record { before = Entered x ∷ s.before; later = s.later; whole = ap (λ l. Entered x ∷ l) s.whole; number = s.number }
split_trade k (Removed x ∷ fs) n t i = let s = split_trade k fs n t i in record { before = Removed x ∷ s.before; later = s.later; whole = ap (λ l. Removed x ∷ l) s.whole; number = s.number }
split_trade k (Held x ∷ fs) n t i = let s = split_trade k fs n t i in record { before = Held x ∷ s.before; later = s.later; whole = ap (λ l. Held x ∷ l) s.whole; number = s.number }
split_trade k (Unheld x ∷ fs) n t i = let s = split_trade k fs n t i in record { before = Unheld x ∷ s.before; later = s.later; whole = ap (λ l. Unheld x ∷ l) s.whole; number = s.number }
split_trade k (Asked x ∷ fs) n t i = let s = split_trade k fs n t i in record { before = Asked x ∷ s.before; later = s.later; whole = ap (λ l. Asked x ∷ l) s.whole; number = s.number }
split_trade k (Quoted x ∷ fs) n t i = let s = split_trade k fs n t i in record { before = Quoted x ∷ s.before; later = s.later; whole = ap (λ l. Quoted x ∷ l) s.whole; number = s.number }
split_trade k (Withdrawn x ∷ fs) n t i = let s = split_trade k fs n t i in record { before = Withdrawn x ∷ s.before; later = s.later; whole = ap (λ l. Withdrawn x ∷ l) s.whole; number = s.number }
split_trade k (Closed x ∷ fs) n t i = let s = split_trade k fs n t i in record { before = Closed x ∷ s.before; later = s.later; whole = ap (λ l. Closed x ∷ l) s.whole; number = s.number }

-- no earlier trade in its room
untraded : (facts before : List Fact) (t : Trade) (room quote : ℕ) → RoomsTradeOnce facts → HappenedAfter facts before (Traded t) → t.place ≡ InRoom room quote → has_traded before room ≡ false
untraded facts before t room quote once happened place = none_passes (trades_in room) before (λ f i h. by f i h)
  where
    in_place : (x : Trade) (p : TradeSource) → x.place ≡ p → In (Traded x) before → is_place_in room p ≡ true → ⊥
    in_place x (InBook old new) e i h = true≢false (sym h)
    in_place x (InRoom r other) e i h = once before x t room other quote happened (Contains-from_In before (Traded x) i) (e ∙ ap (λ y. InRoom y other) (eqb-true r room h)) place

    by : (f : Fact) → In f before → trades_in room f ≡ true → ⊥
    by (Traded x) i h = in_place x x.place refl i h
    by (Entered x) i h = true≢false (sym h)
    by (Removed x) i h = true≢false (sym h)
    by (Held x) i h = true≢false (sym h)
    by (Unheld x) i h = true≢false (sym h)
    by (Asked x) i h = true≢false (sym h)
    by (Quoted x) i h = true≢false (sym h)
    by (Withdrawn x) i h = true≢false (sym h)
    by (Closed x) i h = true≢false (sym h)

-- What is known of a day, and of a quote in it.

pub record OfDay (m : Market) (is : List Input) (facts : List Fact) (es : List Event) : Type 0 where
  pub same : facts ≡ (run m is).history.facts
  pub says : SaysAll es facts
  pub follows : Each (Follows m (run m is).replies) [] facts
  pub all_small : AllSmall facts

pub small_day : (m : Market) (is : List Input) (facts : List Fact) (es : List Event) → OfDay m is facts es → Small facts
small_day m is facts es day = small_from m (run m is).replies [] facts day.follows day.says.fits day.all_small

-- by facts alone
abbrev fate_by : RoomQuote → Option ℕ → List Fact → Became
fate_by q last facts = if list_any (ends (as_quoted q)) (fact_steps 1 facts) then Over else becomes (as_quoted q) last (fact_steps 1 facts)

by_facts : (es : List Event) (facts : List Fact) (q : RoomQuote) (last : Option ℕ) → SaysAll es facts → became (outcome_of (as_quoted q) last es es) ≡ fate_by q last facts
by_facts es facts q last says = by_steps (as_quoted q) last es ∙ ap (λ ss. if list_any (ends (as_quoted q)) ss then Over else becomes (as_quoted q) last ss) says.said

-- live

pick : (w : Bool) (b : Became) → is_still (if w then Over else b) ≡ (not w && is_still b)
pick true b = refl
pick false b = refl

shuffle : (w a l le : Bool) → (not w && (not (a || l) && le)) ≡ (not l && (not w && (not a && le)))
shuffle true a true le = refl
shuffle true a false le = refl
shuffle false true true le = refl
shuffle false true false le = refl
shuffle false false true le = refl
shuffle false false false le = refl

pub live_parts : (m : Market) (is : List Input) (facts : List Fact) (es : List Event) (q : RoomQuote) (t : ℕ) → OfDay m is facts es → In q (quotes facts)
    → (not (list_any (ends (as_quoted q)) (fact_steps 1 facts)) && (not (list_any (is_decided (as_quoted q)) (fact_steps 1 facts)) && nat_le t q.end)) ≡ is_live facts t q
live_parts m is facts es q t day i =
    let small : Small facts = small_day m is facts es day in
    let ss : List Step = fact_steps 1 facts in
    let w : list_any (ends (as_quoted q)) ss ≡ is_withdrawn facts q.number = by_withdrawn q 1 facts (day.all_small q i).0 small in
    let d : list_any (is_decided (as_quoted q)) ss ≡ (has_traded facts q.room || list_any (is_later q) (quotes facts)) = by_decided q 1 facts (day.all_small q i).1 small in
    let l : list_any (is_later q) (quotes facts) ≡ is_replaced facts q = sym (replaced_later facts q (quotes_placed m (run m is).replies facts day.follows) i) in
    let c : has_traded facts q.room ≡ is_closed facts q.room = sym (day.says.closed q.room) in
    (λ j. not (w j) && (not (d j) && nat_le t q.end))
    ∙ ((λ j. not (is_withdrawn facts q.number) && (not (c j || l j) && nat_le t q.end))
    ∙ shuffle (is_withdrawn facts q.number) (is_closed facts q.room) (is_replaced facts q) (nat_le t q.end))

live_by : (m : Market) (is : List Input) (facts : List Fact) (es : List Event) (q : RoomQuote) (t : ℕ) → OfDay m is facts es → In q (quotes facts) → is_still (fate_by q (Some t) facts) ≡ is_live facts t q
live_by m is facts es q t day i =
    let ss : List Step = fact_steps 1 facts in
    pick (list_any (ends (as_quoted q)) ss) (becomes (as_quoted q) (Some t) ss)
    ∙ (ap (λ b. not (list_any (ends (as_quoted q)) ss) && b) (by_still (as_quoted q) t ss) ∙ live_parts m is facts es q t day i)

-- hits

over_or : (n : ℕ) (w : Bool) (b : Became) → (if w then Over else b) ≡ HitIn n → b ≡ HitIn n
over_or n true b e = absurd (other e)
  where
    other : Over ≡ HitIn n → ⊥
    other x = cc
over_or n false b e = e

hit_by : (m : Market) (is : List Input) (facts : List Fact) (es : List Event) (q : RoomQuote) (last : Option ℕ) (n : ℕ) → OfDay m is facts es → In q (quotes facts) → fate_by q last facts ≡ HitIn n → IsTradeOf facts n q.room q.number
hit_by m is facts es q last n day i e =
    let k = hit_traded q last 1 n facts (day.all_small q i).0 (small_day m is facts es day) (over_or n (list_any (ends (as_quoted q)) (fact_steps 1 facts)) (becomes (as_quoted q) last (fact_steps 1 facts)) e) in
    (k.0, Contains-from_In (enumerate_from 1 (trades facts)) (n, k.0) k.1, k.2)

not_true : (b : Bool) → not b ≡ true → b ≡ false
not_true true h = absurd (true≢false (sym h))
not_true false h = refl

-- what a live quote is
pub record IsLiveThen (before : List Fact) (t : ℕ) (q : RoomQuote) : Type 0 where
  pub last : is_replaced before q ≡ false
  pub stands : is_withdrawn before q.number ≡ false
  pub timely : nat_le t q.end ≡ true

live_then : (before : List Fact) (t : ℕ) (q : RoomQuote) → is_live before t q ≡ true → IsLiveThen before t q
live_then before t q h =
    let l = and_parts (not (is_replaced before q)) (not (is_withdrawn before q.number) && (not (is_closed before q.room) && nat_le t q.end)) h in
    let w = and_parts (not (is_withdrawn before q.number)) (not (is_closed before q.room) && nat_le t q.end) l.1 in
    let c = and_parts (not (is_closed before q.room)) (nat_le t q.end) w.1 in
    record { last = not_true (is_replaced before q) l.0; stands = not_true (is_withdrawn before q.number) w.0; timely = c.1 }

in_time : (t e : ℕ) → nat_le t e ≡ true → nat_lt e t ≡ false
in_time t e h = grind (arith, nat_tests)

traded_by : (m : Market) (is : List Input) (facts : List Fact) (es : List Event) (q : RoomQuote) (last : Option ℕ) (n : ℕ) → OfDay m is facts es → In q (quotes facts) → IsTradeOf facts n q.room q.number → fate_by q last facts ≡ HitIn n
traded_by m is facts es q last n day i trade =
    let t : Trade = trade.0 in
    let place : t.place ≡ InRoom q.room q.number = trade.2 in
    let said = (run m is).replies in
    let s : IsSplit facts 1 n t = split_trade 1 facts n t (In-from_Contains (enumerate_from 1 (trades facts)) (n, t) trade.1) in
    let b : List Fact = s.before in
    let happened : HappenedAfter facts b (Traded t) = (s.later, s.whole) in
    let law = subst (λ fs. (x : List Fact) (y : Trade) (room quote : ℕ) → HappenedAfter fs x (Traded y) → y.place ≡ InRoom room quote → (z : RoomQuote) × Contains x (Quoted z) × (z.number ≡ quote) × (is_live x y.moment z ≡ true)) (sym day.same) (
    λ x y room quote h p. let k = (lawful m is).requests_come_first x y room quote h p in (k.1, k.3, k.5, k.9)
    ) in
    let hit = law b t q.room q.number happened place in
    let there : In hit.0 (quotes b) = In-filter_map quote_in b (Quoted hit.0) hit.0 (In-from_Contains b (Quoted hit.0) hit.1) refl in
    let later : (y : RoomQuote) → In y (quotes b) → In y (quotes facts) = λ y j. subst (λ fs. In y (quotes fs)) (sym s.whole) (subst (In y) (sym (filter_map-append quote_in b (Traded t ∷ s.later))) (In-append_left (quotes b) (quotes (Traded t ∷ s.later)) y j)) in
    let placed = quotes_placed m said facts day.follows in
    let one : (y : RoomQuote) → In y (quotes facts) → y.number ≡ q.number → y ≡ q = λ y j e. Places-one (λ (z : RoomQuote). z.number) 0 (quotes facts) placed y q j i e in
    let mine : hit.0 ≡ q = one hit.0 (later hit.0 there) hit.2 in
    let here : In q (quotes b) = subst (λ y. In y (quotes b)) mine there in
    let live : IsLiveThen b t.moment q = live_then b t.moment q (subst (λ y. is_live b t.moment y ≡ true) mine hit.3) in
    let follows_b : Each (Follows m said) [] b = front (Follows m said) [] b (Traded t ∷ s.later) (subst (Each (Follows m said) []) s.whole day.follows) in
    let fits : Each Fits [] (b ++ (Traded t ∷ s.later)) = subst (Each Fits []) s.whole day.says.fits in
    let small_b : Small b = small_from m said [] b follows_b (front Fits [] b (Traded t ∷ s.later) fits) (λ y j. day.all_small y (later y j)) in
    let no_later : list_any (is_later q) (quotes b) ≡ false = sym (replaced_later b q (quotes_placed m said b follows_b) here) ∙ live.last in
    let no_trade : has_traded b q.room ≡ false = untraded facts b t q.room q.number (subst RoomsTradeOnce (sym day.same) (rooms_trade_once m is)) happened place in
    let undecided : list_any (is_decided (as_quoted q)) (fact_steps 1 b) ≡ false = by_decided q 1 b (day.all_small q i).1 small_b ∙ or_from (has_traded b q.room) (list_any (is_later q) (quotes b)) no_trade no_later in
    let rest : List Step = fact_steps (1 + length (trades b) + 1) s.later in
    let all : fact_steps 1 facts ≡ fact_steps 1 b ++ (trade_steps (1 + length (trades b)) t.moment t.place ++ rest) = ap (fact_steps 1) s.whole ∙ trades_more b (Traded t ∷ s.later) 1 in
    let traded_now : has_traded (b ++ (Traded t ∷ [])) q.room ≡ true = list_any-append (trades_in q.room) b (Traded t ∷ []) ∙ (λ j. no_trade j || (is_place_in q.room (place j) || false)) ∙ self q.room in
    let never : is_withdrawn s.later q.number ≡ false = never_withdrawn q (b ++ (Traded t ∷ [])) s.later (λ y j e. ap (λ (z : RoomQuote). z.room) (one y (subst (λ fs. In y (quotes fs)) (append_one b (Traded t) s.later ∙ sym s.whole) j) e)) traded_now (behind Fits [] b (Traded t ∷ s.later) fits).1 in
    let stands : is_withdrawn facts q.number ≡ false = ap (λ fs. is_withdrawn fs q.number) s.whole ∙ (list_any-append (withdraws q.number) b (Traded t ∷ s.later) ∙ or_from (is_withdrawn b q.number) (is_withdrawn s.later q.number) live.stands never) in
    let w : list_any (ends (as_quoted q)) (fact_steps 1 facts) ≡ false = by_withdrawn q 1 facts (day.all_small q i).0 (small_day m is facts es day) ∙ stands in
    (λ j. if w j then Over else becomes (as_quoted q) last (all j))
    ∙ (becomes_past (as_quoted q) last (fact_steps 1 b) (trade_steps (1 + length (trades b)) t.moment t.place ++ rest) undecided
    ∙ ((λ j. becomes (as_quoted q) last (trade_steps (sym s.number j) t.moment (place j) ++ rest)) ∙ hit_now q last n t.moment rest (in_time t.moment q.end live.timely)))
  where
    self : (r : ℕ) → (false || ((r == r) || false)) ≡ true
    self r = by (r == r) (eqb_self r)
      where
        by : (c : Bool) → c ≡ true → (false || (c || false)) ≡ true
        by true e = refl
        by false e = e

        eqb_self : (k : ℕ) → (k == k) ≡ true
        eqb_self k = grind (arith, nat_tests)

    append_one : (fs : List Fact) (f : Fact) (gs : List Fact) → (fs ++ (f ∷ [])) ++ gs ≡ fs ++ (f ∷ gs)
    append_one [] f gs = refl
    append_one (x ∷ xs) f gs = ap (λ l. x ∷ l) (append_one xs f gs)

-- The theorem.

in_room_named : (room : ℕ) (q : RoomQuote) (named : Option (List ℕ)) → room < 2 ^ 64 → q.room < 2 ^ 64 → Some (printed 82 q.room) ≡ named → names_room room named ≡ true → q.room ≡ room
in_room_named room q named h k same e = sym (printed_one 82 room q.room h k (ap (names_room room) same ∙ e))

follows_by : (m : Market) (is : List Input) (facts : List Fact) (es : List Event) (room : ℕ) (e : Event) (x : NewQuote) (q : RoomQuote) → OfDay m is facts es → In q (quotes facts) → (number : q.number ≡ x.quote) (here : q.room ≡ room) (maker : q.maker + 1 ≡ e.at.from) (end : q.end ≡ x.end) → FollowsRules facts es room e x
follows_by m is facts es room e x q day i number here maker end =
    let same : as_quoted q ≡ quoted_of room e x = λ j. record { quote = number j; room = here j; from = maker j; end = end j } in
    let by : (last : Option ℕ) → became (outcome es room e x last) ≡ fate_by q last facts = λ last. sym (ap (λ y. became (outcome_of y last es es)) same) ∙ by_facts es facts q last day.says in
    let still : (t : ℕ) → is_still (became (outcome es room e x (Some t))) ≡ is_live facts t q = λ t. ap is_still (by (Some t)) ∙ live_by m is facts es q t day i in
    record {
      recorded = q;
      quoted = Contains-from_In facts (Quoted q) (quoted_in facts q i);
      number = number;
      in_room = here;
      maker = maker;
      end = end;
      hit_traded = λ last n h. subst (λ r. IsTradeOf facts n r x.quote) here (subst (λ k. IsTradeOf facts n q.room k) number (hit_by m is facts es q last n day i (sym (by last) ∙ ap became h)));
      traded_hit = λ last n h. is_hit (outcome es room e x last) n (by last ∙ traded_by m is facts es q last n day i (subst (λ r. IsTradeOf facts n r q.number) (sym here) (subst (λ k. IsTradeOf facts n room k) (sym number) h)));
      shown_live = λ t h. sym (still t) ∙ ap (λ f. is_still (became f)) h;
      gone = λ last. sym (ap (λ y. is_gone (outcome_of y last es es)) same) ∙ (gone_by_steps (as_quoted q) last es ∙ (ap (list_any (ends (as_quoted q))) day.says.said ∙ by_withdrawn q 1 facts (day.all_small q i).0 (small_day m is facts es day)));
      live_shown = λ t h. is_live_fate (outcome es room e x (Some t)) (still t ∙ h);
    }

pub all_small_of : (facts : List Fact) → AreSmall facts → AllSmall facts
all_small_of facts small q i = small q (Contains-from_In facts (Quoted q) (quoted_in facts q i))

-- the recorded quote of an event
pub record IsFound (facts : List Fact) (room : ℕ) (e : Event) (x : NewQuote) : Type 0 where
  pub quote : RoomQuote
  pub there : In quote (quotes facts)
  pub number : quote.number ≡ x.quote
  pub in_room : quote.room ≡ room
  pub maker : quote.maker + 1 ≡ e.at.from
  pub end : quote.end ≡ x.end

pub quote_found : (m : Market) (is : List Input) (facts : List Fact) (es : List Event) (room : ℕ) (e : Event) (x : NewQuote) → OfDay m is facts es → IsQuoteOf es room e x → IsFound facts room e x
quote_found m is facts es room e x day is_quote =
    let s : Step = Quotes x.quote e.at.named e.at.from x.end in
    let one : In s (event_steps e) = subst (λ w. In s (step_of (source_of e.at) w)) (sym is_quote.quote) (inl refl) in
    let there : In s (fact_steps 1 facts) = subst (In s) day.says.said (member_steps s es e (In-from_Contains es e is_quote.listed) one) in
    let r : IsRecorded s facts = recorded x.quote e.at.named e.at.from x.end 1 facts there in
    let k : SameQuote r.0 x.quote e.at.named e.at.from x.end = same_quote r.0 x.quote e.at.named e.at.from x.end r.2 in
    record {
      quote = r.0;
      there = r.1;
      number = k.by_number;
      in_room = in_room_named room r.0 e.at.named is_quote.small (day.all_small r.0 r.1).1 k.by_room is_quote.here;
      maker = k.by_maker;
      end = k.by_end;
    }

pub day_known : (m : Market) (rs : List TrailRow) (is : List Input) → AreEmitted rs is → AreSmall (run m is).history.facts → OfDay m is (run m is).history.facts (events m rs is)
day_known m rs is emitted small = record { same = refl; says = day_agrees m rs is emitted; follows = run-Follows m is; all_small = all_small_of (run m is).history.facts small }

pub outcomes_agree : OutcomesAgree
outcomes_agree m rs is emitted small room e x is_quote =
    let facts : List Fact = (run m is).history.facts in
    let es : List Event = events m rs is in
    let day : OfDay m is facts es = day_known m rs is emitted small in
    let k : IsFound facts room e x = quote_found m is facts es room e x day is_quote in
    follows_by m is facts es room e x k.quote day k.there k.number k.in_room k.maker k.end
