-- How the trades were made at rows, one row after another.
use Rattle.std.proofs.Common.{◌≡◌, ℕ, ◌+◌, ◌-◌, ◌<◌, ◌≤◌, List, [], ◌∷◌, ◌++◌, length, take, get_or, Option, Some, None, refl, sym, ap, ◌∙◌, subst, append-nil, append_assoc, arith}
use Rattle.std.proofs.lemmas.List.{take_more}
use Rattle.venue_rules.specs.declared.replies.Reply.{Reply}
use Rattle.venue_rules.specs.declared.trail.Taken.{Taken}
use Rattle.venue_rules.specs.declared.trail.TrailRow.{TrailRow}
use Rattle.venue_rules.specs.Answer.{Answer}
use Rattle.venue_rules.specs.Facts.{History, no_history}
use Rattle.venue_rules.specs.Market.{Market}
use Rattle.venue_rules.specs.Run.{Input, after, answer_input, run, run_from}
use Rattle.venue_core.specs.Replay.{AreEmitted, Emits}
use Rattle.venue_core.specs.State.{State}
use Rattle.venue_core.specs.Taking.{IsSame, Stands, Takes}
use Rattle.venue_core.specs.VenueFacts.{IsAfter, IsAnswer, IsHistory}
use Rattle.trade_table.specs.declared.execution.Execution.{Execution}
use Rattle.trade_table.specs.declared.execution.Known.{Known}
use Rattle.trade_table.specs.Sources.{known_at, made_at, newest, or}
use Rattle.row_replay.specs.Inputs.{input_of}
use Rattle.trade_table.specs.Executions.{AreExecutions, TakesExecutions, executions, executions_from, known_from, taken_in}

-- two lists, one behind the other
pub both : {A : Type 0} (old one all a b : List A) → one ≡ old ++ a → all ≡ one ++ b → all ≡ old ++ (a ++ b)
both old one all a b h last = last ∙ (ap (λ l. l ++ b) h ∙ append_assoc old a b)

-- the newest of one more

or_assoc : {A : Type 0} (x y z : Option A) → or (or x y) z ≡ or x (or y z)
or_assoc None y z = refl
or_assoc (Some x) y z = refl

pub newest_more : {A B : Type 0} (pick : A → Option B) (xs : List A) (x : A) → newest pick (xs ++ x ∷ []) ≡ or (pick x) (newest pick xs)
newest_more pick [] x = or_nothing (pick x)
  where
    or_nothing : {B : Type 0} (o : Option B) → o ≡ or o None
    or_nothing None = refl
    or_nothing (Some y) = refl
newest_more pick (y ∷ ys) x = ap (λ o. or o (pick y)) (newest_more pick ys x) ∙ or_assoc (pick x) (newest pick ys) (pick y)

-- and of those up to a place, by the last of them
pub newest_last : {A B : Type 0} (pick : A → Option B) (xs : List A) (at : ℕ) (x : A) → 0 < at → at ≤ length xs → x ≡ get_or xs (at - 1) x → newest pick (take at xs) ≡ or (pick x) (newest pick (take (at - 1) xs))
newest_last pick xs at x some low is =
    let one : at ≡ at - 1 + 1 = omega (arith, some) in
    ap (λ (n : ℕ). newest pick (take n xs)) one
    ∙ ap (newest pick) (take_more xs (at - 1) x (omega (arith, some, low)) ∙ ap (λ y. take (at - 1) xs ++ y ∷ []) (sym is))
    ∙ newest_more pick (take (at - 1) xs) x

-- one row further

emitted_more : (rs : List TrailRow) (is : List Input) (r : TrailRow) (i : Input) → AreEmitted rs is → Emits r i → AreEmitted (rs ++ r ∷ []) (is ++ i ∷ [])
emitted_more [] [] r i emitted emits = (emits, tt)
emitted_more [] (j ∷ is) r i emitted emits = absurd emitted
emitted_more (x ∷ rs) [] r i emitted emits = absurd emitted
emitted_more (x ∷ rs) (j ∷ is) r i emitted emits = (emitted.0, emitted_more rs is r i emitted.1 emits)

known_more : (m : Market) (h : History) (ks : List Known) (rs : List TrailRow) (is : List Input) (r : TrailRow) (i : Input) → AreEmitted rs is
    → known_from m h ks (rs ++ r ∷ []) (is ++ i ∷ []) ≡ known_from m h ks rs is ++ known_at (taken_in i) (answer_input m (run_from m h is).history i).replies
known_more m h ks [] [] r i emitted = refl
known_more m h ks [] (j ∷ is) r i emitted = absurd emitted
known_more m h ks (x ∷ rs) [] r i emitted = absurd emitted
known_more m h ks (x ∷ rs) (j ∷ is) r i emitted = known_more m (after h (answer_input m h j)) (ks ++ known_at (taken_in j) (answer_input m h j).replies) rs is r i emitted.1

executions_more : (m : Market) (h : History) (ks : List Known) (rs : List TrailRow) (is : List Input) (r : TrailRow) (i : Input) → AreEmitted rs is
    → executions_from m h ks (rs ++ r ∷ []) (is ++ i ∷ []) ≡ executions_from m h ks rs is ++ made_at r (taken_in i) (known_from m h ks rs is) (answer_input m (run_from m h is).history i).replies
executions_more m h ks [] [] r i emitted = append-nil (made_at r (taken_in i) ks (answer_input m h i).replies)
executions_more m h ks [] (j ∷ is) r i emitted = absurd emitted
executions_more m h ks (x ∷ rs) [] r i emitted = absurd emitted
executions_more m h ks (x ∷ rs) (j ∷ is) r i emitted =
    let a = answer_input m h j in
    let here = made_at x (taken_in j) ks a.replies in
    let next = ks ++ known_at (taken_in j) a.replies in
    ap (λ l. here ++ l) (executions_more m (after h a) next rs is r i emitted.1)
    ∙ sym (append_assoc here (executions_from m (after h a) next rs is) (made_at r (taken_in i) (known_from m (after h a) next rs is) (answer_input m (run_from m (after h a) is).history i).replies))

abbrev pub StandsOn : Type 0
StandsOn = (m : Market) (is : List Input) (i : Input) (s s' : State) (a : Answer) → Stands m is s → Takes s i a s' → Stands m (is ++ i ∷ []) s'

pub executed_more : StandsOn → (m : Market) (rs : List TrailRow) (k : ℕ) (r : TrailRow) (s s' : State) (ks ks' : List Known) (xs xs' : List Execution) → k < length rs → r ≡ get_or rs k r
    → AreExecutions m (take k rs) s ks xs → TakesExecutions r s s' ks ks' xs xs' → AreExecutions m (take (k + 1) rs) s' ks' xs'
executed_more law m rs k r s s' ks ks' xs xs' low at_k before taken =
    let longer : take (k + 1) rs ≡ take k rs ++ r ∷ [] = take_more rs k r low ∙ ap (λ (x : TrailRow). take k rs ++ x ∷ []) (sym at_k) in
    let is = before.items ++ taken.input ∷ [] in
    let h = (run m before.items).history in
    let learned : ks' ≡ known_from m no_history [] (take k rs ++ r ∷ []) is =
    taken.learned h before.stands.history
    ∙ (λ j. before.learned j ++ known_at (taken_in taken.input) (answer_input (before.stands.market j) h taken.input).replies)
    ∙ sym (known_more m no_history [] (take k rs) before.items r taken.input before.emitted) in
    let made : xs' ≡ executions m (take k rs ++ r ∷ []) is =
    taken.made h before.stands.history
    ∙ (λ j. before.made j ++ made_at r (taken_in taken.input) (before.learned j) (answer_input (before.stands.market j) h taken.input).replies)
    ∙ sym (executions_more m no_history [] (take k rs) before.items r taken.input before.emitted) in
    record {
      items = is;
      emitted = subst (λ (l : List TrailRow). AreEmitted l is) (sym longer) (emitted_more (take k rs) before.items r taken.input before.emitted taken.emits);
      stands = law m before.items taken.input s s' taken.answer before.stands taken.takes;
      learned = learned ∙ ap (λ (l : List TrailRow). known_from m no_history [] l is) (sym longer);
      made = made ∙ ap (λ (l : List TrailRow). executions m l is) (sym longer);
    }

-- before the first
pub executed_nothing : (s : State) (ks : List Known) (xs : List Execution) → ks ≡ [] → xs ≡ [] → IsHistory s no_history → AreExecutions s.market [] s ks xs
executed_nothing s ks xs blank none fresh = record { items = []; emitted = tt; stands = record { market = refl; history = fresh }; learned = blank; made = none }

abbrev pub TakesOne : Type 0
TakesOne = (i : Input) (s between s' : State) (a : Answer) → IsSame s between → IsAnswer s i a → s'.market ≡ between.market → IsAfter between a s' → Takes s i a s'

-- the message of an input is that of its row
pub taken_of : (taken : Option Taken) (t : ℕ) → taken_in (input_of taken t) ≡ taken
taken_of (Some taken) t = refl
taken_of None t = refl

-- a venue plans the input of a row, how its trades are made is added, and what is learned, and it applies the plan
pub takes_row : TakesOne → (r : TrailRow) (taken : Option Taken) (t : ℕ) (s mid s' : State) (a : Answer) (replies : List Reply) (ks ks' : List Known) (xs xs' : List Execution) → Emits r (input_of taken t) → IsSame s mid → IsAnswer s (input_of taken t) a
    → s'.market ≡ mid.market → IsAfter mid a s' → replies ≡ a.replies → xs' ≡ xs ++ made_at r taken ks replies → ks' ≡ ks ++ known_at taken replies → TakesExecutions r s s' ks ks' xs xs'
takes_row law r taken t s mid s' a replies ks ks' xs xs' emits same answers market goes said xs_are ks_are =
    let i = input_of taken t in
    let own : Option Taken → List Reply → List Execution = λ o l. xs ++ made_at r o ks l in
    let added : Option Taken → List Reply → List Known = λ o l. ks ++ known_at o l in
    record {
      input = i;
      answer = a;
      emits = emits;
      takes = law i s mid s' a same answers market goes;
      made = λ h stands. xs_are ∙ (λ k. own (sym (taken_of taken t) k) ((said ∙ ap (λ (x : Answer). x.replies) (answers h stands)) k));
      learned = λ h stands. ks_are ∙ (λ k. added (sym (taken_of taken t) k) ((said ∙ ap (λ (x : Answer). x.replies) (answers h stands)) k));
    }
