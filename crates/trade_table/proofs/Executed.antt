-- Each trade of a day has its execution.
use Rattle.std.proofs.Common.{◌≡◌, refl, sym, ap, subst, ◌∙◌, inl, inr, ℕ, zero, suc, ◌+◌, ◌-◌, Bool, if◌then◌else◌, List, [], ◌∷◌, ◌++◌, map, length, slice_get, Some, None, append-nil, append_assoc, arith, eq-eqb, ne_eqb, Contains}
use Rattle.std.specs.List.{enumerate_from}
use Rattle.std.proofs.lemmas.List.{length-append}
use Rattle.std.proofs.lemmas.List.Elements.{filter_map-append}
use Rattle.venue_rules.specs.declared.facts.Fact.{Fact}
use Rattle.venue_rules.specs.declared.facts.Fact.TheVariants as fact
use Rattle.venue_rules.specs.declared.facts.Trade.{Trade}
use Rattle.venue_rules.specs.declared.facts.TradeSource.{TradeSource}
use Rattle.venue_rules.specs.declared.facts.TradeSource.TheVariants.{Book as InBook, Room as InRoom}
use Rattle.venue_rules.specs.declared.trail.TradeFact.{TradeFact}
use Rattle.venue_rules.specs.declared.trail.TrailRow.{TrailRow}
use Rattle.venue_rules.specs.Facts.{History, next_trade, no_history, quotes, trade_in as trade_in_fact, trades}
use Rattle.venue_rules.specs.Market.{Market}
use Rattle.venue_rules.specs.Readings.{trade_fact, trade_facts}
use Rattle.venue_rules.specs.Run.{Input, after, answer_input, run, run_from}
use Rattle.venue_core.specs.Replay.{AreEmitted}
use Rattle.trade_table.specs.declared.execution.Execution.{Execution}
use Rattle.trade_table.specs.declared.execution.Known.{Known}
use Rattle.trade_table.specs.declared.execution.Source.{Source}
use Rattle.trade_table.specs.declared.execution.Source.TheVariants as source
use Rattle.trade_table.specs.Executions.{execution_of, executions, executions_from, of_trade, taken_in}
use Rattle.trade_table.specs.Laws.{AreCrossed, HasExecution, IsMade, IsSource}
use Rattle.trade_table.specs.Sources.{known_at, made_at}
use Rattle.trade_table.proofs.Crossing.{AreKept, cross_named, input_kept, nothing_kept}
use Rattle.trade_table.proofs.Learning.{AreKnown, input_known}
use Rattle.venue_rules.proofs.Members.{Contains-from_In, In, In-append_left, picked_from}
use Rattle.trade_blotter.proofs.Lists.{none_is_some, same_some}
use Rattle.trade_table.proofs.Reported.{Aligned, IsJoined, IsReported, input_reported, source_within}

-- the facts of inputs, from a history on
abbrev added : Market → History → List Input → List Fact
added m h [] = []
added m h (i ∷ is) = (answer_input m h i).facts ++ added m (after h (answer_input m h i)) is

grows : (m : Market) (h : History) (is : List Input) → (run_from m h is).history.facts ≡ h.facts ++ added m h is
grows m h [] = sym (append-nil h.facts)
grows m h (i ∷ is) = let a = answer_input m h i in grows m (after h a) is ∙ append_assoc h.facts a.facts (added m (after h a) is)

-- one input further
stepped : (m : Market) (h : History) (is : List Input) (i : Input) → (run_from m h (is ++ i ∷ [])).history ≡ after (run_from m h is).history (answer_input m (run_from m h is).history i)
stepped m h [] i = refl
stepped m h (j ∷ js) i = stepped m (after h (answer_input m h j)) js i

-- trades one behind the other
aligned_append : (P : ℕ → Trade → Execution → Type 0) (n : ℕ) (ts us : List Trade) (xs ys : List Execution) → Aligned P n ts xs → Aligned P (n + length ts) us ys → Aligned P n (ts ++ us) (xs ++ ys)
aligned_append P n [] us [] ys a b = subst (λ k. Aligned P k us ys) (from_zero n) b
  where
    from_zero : (k : ℕ) → k + 0 ≡ k
    from_zero k = omega arith
aligned_append P n [] us (x ∷ xs) ys a b = absurd a
aligned_append P n (t ∷ ts) us [] ys a b = absurd a
aligned_append P n (t ∷ ts) us (x ∷ xs) ys a b = (a.0, aligned_append P (n + 1) ts us xs ys a.1 (subst (λ k. Aligned P k us ys) (later n (length ts)) b))
  where
    later : (k l : ℕ) → k + suc l ≡ k + 1 + l
    later k l = omega arith

-- the one at a place
aligned_at : (P : ℕ → Trade → Execution → Type 0) (n : ℕ) (ts : List Trade) (xs : List Execution) (k : ℕ) (t : Trade) → Aligned P n ts xs → slice_get ts k ≡ Some t → (x : Execution) × (slice_get xs k ≡ Some x) × P (n + k) t x
aligned_at P n [] xs k t a e = absurd (none_is_some t e)
aligned_at P n (u ∷ us) [] k t a e = absurd a
aligned_at P n (u ∷ us) (x ∷ xs) zero t a e = (x, refl, subst (λ (k : ℕ). P k t x) (from_zero n) (subst (λ (y : Trade). P n y x) (same_some u t e) a.0))
  where
    from_zero : (k : ℕ) → k ≡ k + 0
    from_zero k = omega arith
aligned_at P n (u ∷ us) (x ∷ xs) (suc k) t a e = let y = aligned_at P (n + 1) us xs k t a.1 e in (y.0, y.1, subst (λ (j : ℕ). P j t y.0) (later n k) y.2)
  where
    later : (j l : ℕ) → j + 1 + l ≡ j + suc l
    later j l = omega arith

traded_fact : (f : Fact) (t : Trade) → trade_in_fact f ≡ Some t → f ≡ fact.Traded t
traded_fact (fact.Traded x) t h = ap (λ (y : Trade). fact.Traded y) (same_some x t h)
traded_fact (fact.Entered x) t h = absurd (none_is_some t h)
traded_fact (fact.Removed x) t h = absurd (none_is_some t h)
traded_fact (fact.Held x) t h = absurd (none_is_some t h)
traded_fact (fact.Unheld x) t h = absurd (none_is_some t h)
traded_fact (fact.Asked x) t h = absurd (none_is_some t h)
traded_fact (fact.Quoted x) t h = absurd (none_is_some t h)
traded_fact (fact.Withdrawn x) t h = absurd (none_is_some t h)
traded_fact (fact.Closed x) t h = absurd (none_is_some t h)

is_there : (fs : List Fact) (t : Trade) → In t (trades fs) → Contains fs (fact.Traded t)
is_there fs t i = let k = picked_from trade_in_fact fs t i in Contains-from_In fs (fact.Traded t) (subst (λ (f : Fact). In f fs) (traded_fact k.0 t k.2) k.1)

-- what is aligned is of the trades
aligned_in : (P Q : ℕ → Trade → Execution → Type 0) (n : ℕ) (ts : List Trade) (xs : List Execution) → ((k : ℕ) (t : Trade) (x : Execution) → In t ts → P k t x → Q k t x) → Aligned P n ts xs → Aligned Q n ts xs
aligned_in P Q n [] [] f a = tt
aligned_in P Q n [] (x ∷ xs) f a = absurd a
aligned_in P Q n (t ∷ ts) [] f a = absurd a
aligned_in P Q n (t ∷ ts) (x ∷ xs) f a = (f n t x (inl refl) a.0, aligned_in P Q (n + 1) ts xs (λ k u y i. f k u y (inr i)) a.1)

-- rows and inputs behind those that are done
pub record IsRest (all : List TrailRow) (every done : List Input) (rs : List TrailRow) (is : List Input) : Type 0 where
  pub inputs : every ≡ done ++ is
  pub rows : (k : ℕ) → slice_get rs k ≡ slice_get all (length done + k)

rest_more : (all : List TrailRow) (every done : List Input) (r : TrailRow) (rs : List TrailRow) (i : Input) (is : List Input) → IsRest all every done (r ∷ rs) (i ∷ is) → IsRest all every (done ++ i ∷ []) rs is
rest_more all every done r rs i is rest = record {
  inputs = rest.inputs ∙ sym (append_assoc done (i ∷ []) is);
  rows = λ k. rest.rows (suc k) ∙ ap (slice_get all) (one_more (length done) k (length (done ++ i ∷ [])) (length-append done (i ∷ [])));
}
  where
    one_more : (a k b : ℕ) → b ≡ a + 1 → a + suc k ≡ b + k
    one_more a k b e = omega (arith, e)

walked : (m : Market) (all : List TrailRow) (every done : List Input) (ks : List Known) (rs : List TrailRow) (is : List Input) → IsRest all every done rs is → AreEmitted rs is → AreKnown ks (quotes (run m done).history.facts) → AreKept m done ks
    → Aligned (IsMade m all every) (next_trade (run m done).history.facts) (trades (added m (run m done).history is)) (executions_from m (run m done).history ks rs is)
walked m all every done ks [] [] rest emitted known kept = tt
walked m all every done ks [] (i ∷ is) rest emitted known kept = absurd emitted
walked m all every done ks (r ∷ rs) [] rest emitted known kept = absurd emitted
walked m all every done ks (r ∷ rs) (i ∷ is) rest emitted known kept =
    let h = (run m done).history in
    let a = answer_input m h i in
    let more = ks ++ known_at (taken_in i) a.replies in
    let here = made_at r (taken_in i) ks a.replies in
    let behind = added m (after h a) is in
    let final : (run m every).history.facts ≡ (h.facts ++ a.facts) ++ behind = ap (λ (l : List Input). (run m l).history.facts) rest.inputs ∙ all_facts done in
    let reported = aligned_in (IsReported r i ks h (h.facts ++ a.facts)) (IsMade m all every) (next_trade h.facts) (trades a.facts) here
    (λ k t x at p. record {
      earlier = done;
      input = i;
      later = is;
      row = r;
      taken = rest.inputs;
      emitted = sym (rest.rows 0 ∙ ap (slice_get all) (from_zero (length done)));
      made = is_there a.facts t at;
      number_is = p.number_is;
      at_row = p.at_row;
      moment = p.moment;
      source = subst (λ (fs : List Fact). IsSource fs i t t.place x.source) (sym final) (source_within (h.facts ++ a.facts) ((h.facts ++ a.facts) ++ behind) (λ f j. In-append_left (h.facts ++ a.facts) behind f j) i t t.place x.source p.source);
      crossed = crossed_by (h.facts ++ a.facts) t t.place x.source p.source p.joined;
    })
    (input_reported r i ks m h known) in
    let next = stepped m no_history done i in
    let rest_of = walked m all every (done ++ i ∷ []) more rs is (rest_more all every done r rs i is rest) emitted.1 (subst (λ (g : History). AreKnown more (quotes g.facts)) (sym next) (input_known m h ks i known)) (input_kept m done ks i kept) in
    let on : Aligned (IsMade m all every) (next_trade (after h a).facts) (trades behind) (executions_from m (after h a) more rs is) =
    subst (λ (g : History). Aligned (IsMade m all every) (next_trade g.facts) (trades (added m g is)) (executions_from m g more rs is)) next rest_of in
    let count : next_trade (after h a).facts ≡ next_trade h.facts + length (trades a.facts) = counted h.facts a.facts in
    subst (λ (ts : List Trade). Aligned (IsMade m all every) (next_trade h.facts) ts (here ++ executions_from m (after h a) more rs is)) (sym (filter_map-append trade_in_fact a.facts behind))
    (aligned_append (IsMade m all every) (next_trade h.facts) (trades a.facts) (trades behind) here (executions_from m (after h a) more rs is) reported (subst (λ (k : ℕ). Aligned (IsMade m all every) k (trades behind) (executions_from m (after h a) more rs is)) count on))
  where
    crossed_by : (facts : List Fact) (t : Trade) (place : TradeSource) (x : Source) → IsSource facts i t place x → IsJoined (run m done).history i ks x → AreCrossed m done i place x
    crossed_by facts t (InBook old new) (source.Book x) s joined = cross_named m done ks i kept old x.entering x.resting x.cross s.resting.order joined.1 joined.0
    crossed_by facts t (InRoom room quote) (source.Room x) s joined = tt
    crossed_by facts t (InBook old new) (source.Room x) s joined = s
    crossed_by facts t (InRoom room quote) (source.Book x) s joined = s

    from_zero : (k : ℕ) → k + 0 ≡ k
    from_zero k = omega arith

    sum : (a b c : ℕ) → c ≡ a + b → c + 1 ≡ a + 1 + b
    sum a b c e = omega (arith, e)

    counted : (fs gs : List Fact) → next_trade (fs ++ gs) ≡ next_trade fs + length (trades gs)
    counted fs gs = sum (length (trades fs)) (length (trades gs)) (length (trades (fs ++ gs))) (ap length (filter_map-append trade_in_fact fs gs) ∙ length-append (trades fs) (trades gs))

    all_facts : (done : List Input) → (run m (done ++ i ∷ is)).history.facts ≡ ((run m done).history.facts ++ (answer_input m (run m done).history i).facts) ++ added m (after (run m done).history (answer_input m (run m done).history i)) is
    all_facts done = facts_of no_history done
      where
        facts_of : (h : History) (done : List Input) → (run_from m h (done ++ i ∷ is)).history.facts ≡ ((run_from m h done).history.facts ++ (answer_input m (run_from m h done).history i).facts) ++ added m (after (run_from m h done).history (answer_input m (run_from m h done).history i)) is
        facts_of h [] = grows m (after h (answer_input m h i)) is
        facts_of h (j ∷ js) = facts_of (after h (answer_input m h j)) js

-- a trade that is read back, by its number
numbered_at : (n : ℕ) (ts : List Trade) (k : ℕ) (t : TradeFact) → slice_get (map (λ p. trade_fact p.0 p.1) (enumerate_from n ts)) k ≡ Some t → (x : Trade) × (slice_get ts k ≡ Some x) × (trade_fact (n + k) x ≡ t)
numbered_at n [] k t e = absurd (none_is_some t e)
numbered_at n (x ∷ xs) zero t e = (x, refl, ap (λ (a : ℕ). trade_fact a x) (from_zero n) ∙ same_some (trade_fact n x) t e)
  where
    from_zero : (a : ℕ) → a + 0 ≡ a
    from_zero a = omega arith
numbered_at n (x ∷ xs) (suc k) t e = let y = numbered_at (n + 1) xs k t e in (y.0, y.1, ap (λ (a : ℕ). trade_fact a y.0) (later n k) ∙ y.2)
  where
    later : (a b : ℕ) → a + suc b ≡ a + 1 + b
    later a b = omega arith

found_in : (xs : List Execution) (k number : ℕ) (x : Execution) → number ≡ 1 + k → slice_get xs k ≡ Some x → x.trade ≡ number → execution_of xs number ≡ Some x
found_in xs k number x is at own =
    ap (λ (b : Bool). if b then None else of_trade number (slice_get xs (number - 1))) (ne_eqb number 0 (λ e. some e))
    ∙ (ap (λ (j : ℕ). of_trade number (slice_get xs j)) (place is)
    ∙ (ap (of_trade number) at ∙ ap (λ (b : Bool). if b then Some x else None) (eq-eqb x.trade number own)))
  where
    some : number ≡ 0 → ⊥
    some e = omega (arith, is, e)

    place : number ≡ 1 + k → number - 1 ≡ k
    place e = omega (arith, e)

pub trades_have_executions : (m : Market) (rs : List TrailRow) (is : List Input) (k : ℕ) (t : TradeFact) → AreEmitted rs is → slice_get (trade_facts (run m is).history.facts) k ≡ Some t → HasExecution m rs is t
trades_have_executions m rs is k t emitted at =
    let read = numbered_at 1 (trades (run m is).history.facts) k t at in
    let all = walked m rs is [] [] rs is (record { inputs = refl; rows = λ j. ap (slice_get rs) (from_zero j) }) emitted (λ q i. absurd i) (nothing_kept m) in
    let found = aligned_at (IsMade m rs is) 1 (trades (added m no_history is)) (executions m rs is) k read.0 all (ap (λ (fs : List Fact). slice_get (trades fs) k) (sym (grows m no_history is)) ∙ read.1) in
    let number : t.number ≡ 1 + k = ap (λ (y : TradeFact). y.number) (sym read.2) in
    record {
      trade = read.0;
      read_back = sym read.2 ∙ ap (λ (n : ℕ). trade_fact n read.0) (sym number);
      execution = found.0;
      found = found_in (executions m rs is) k t.number found.0 number found.1 (found.2.number_is ∙ sym number);
      made = subst (λ (n : ℕ). IsMade m rs is n read.0 found.0) (sym number) found.2;
    }
  where
    from_zero : (j : ℕ) → j ≡ 0 + j
    from_zero j = omega arith
