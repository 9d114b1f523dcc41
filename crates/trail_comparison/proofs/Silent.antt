-- No row is left out.
use Rattle.std.proofs.Common.{◌≡◌, ◌≤◌, ℕ, ◌+◌, ◌==◌, ◌&&◌, All, Bool, true, false, cond, List, [], ◌∷◌, ◌++◌, count_by, length, take, Option, if◌then◌else◌, refl, ap, ◌∙◌, arith}
use Rattle.std.proofs.lemmas.Bool.Decides.{nat_tests}
use Rattle.std.proofs.lemmas.List.Sums.{sum_by-take-le}
use Rattle.std.proofs.lemmas.List.Elements.{All-head, All-tail}
use Rattle.participants.specs.ParticipantFile.{ParticipantFile}
use Rattle.venue_rules.specs.declared.replies.Reply.{Reply}
use Rattle.venue_rules.specs.declared.trail.TrailRow.{TrailRow}
use Rattle.venue_rules.specs.Facts.{History, no_history}
use Rattle.venue_rules.specs.Market.{Market}
use Rattle.venue_rules.specs.declared.trail.TradeFact.{TradeFact}
use Rattle.venue_rules.specs.Readings.{trade_facts}
use Rattle.venue_rules.specs.Run.{Input, after, answer_input, run}
use Rattle.venue_core.specs.Replay.{AreEmitted}
use Rattle.trail_comparison.specs.Differences.{Difference, difference_at, differences, differences_from}
use Rattle.trail_comparison.specs.Laws.{NothingLeftOut}
use Rattle.trail_comparison.specs.Trades.{alone_at, alone_from, are_same_trades, is_alone, is_like}
use Rattle.trail_comparison.specs.Without.{is_shared, shared_inputs}
use Rattle.trail_comparison.proofs.Differing.{none_differs}
use Rattle.trail_comparison.proofs.Replies.{sent_alike}
use Rattle.trail_comparison.proofs.Shared.{first_shared, none_shared}

first_of : (left : Option ℕ) (r : TrailRow) (rs : List TrailRow) → All (λ x. is_shared left x ≡ true) (r ∷ rs) → is_shared left r ≡ true
first_of left r rs all = All-head (λ (x : TrailRow). is_shared left x ≡ true) r rs all

rest_of : (left : Option ℕ) (r : TrailRow) (rs : List TrailRow) → All (λ x. is_shared left x ≡ true) (r ∷ rs) → All (λ x. is_shared left x ≡ true) rs
rest_of left r rs all = All-tail (λ (x : TrailRow). is_shared left x ≡ true) r rs all

-- the same replies, with the same participants, are sent alike
none_at : (file : ParticipantFile) (r : TrailRow) (i : Input) (rs : List Reply) → difference_at file file r i rs rs ≡ []
none_at file r i rs = none_differs file file r i rs rs ((sent_alike file file rs rs).1 refl)

one_row : (left : Option ℕ) (m : Market) (h : History) (r : TrailRow) (rs : List TrailRow) (i : Input) (is : List Input) → is_shared left r ≡ true
    → differences_from left m m h h (r ∷ rs) (i ∷ is) ≡ differences_from left m m (after h (answer_input m h i)) (after h (answer_input m h i)) rs is
one_row left m h r rs i is taken =
    let a = answer_input m h i in
    let rest = differences_from left m m (after h a) (after h a) rs is in
    rw taken (ap (λ (l : List Difference). l ++ rest) (none_at m.participants r i a.replies))

no_differences : (left : Option ℕ) (m : Market) (h : History) (rs : List TrailRow) (is : List Input) → All (λ r. is_shared left r ≡ true) rs → differences_from left m m h h rs is ≡ []
no_differences left m h [] is all = refl
no_differences left m h (r ∷ rs) [] all = refl
no_differences left m h (r ∷ rs) (i ∷ is) all =
    let next = after h (answer_input m h i) in
    one_row left m h r rs i is (first_of left r rs all) ∙ no_differences left m next rs is (rest_of left r rs all)

all_inputs : (left : Option ℕ) (rs : List TrailRow) (is : List Input) → AreEmitted rs is → All (λ r. is_shared left r ≡ true) rs → shared_inputs left is ≡ is
all_inputs left [] [] emitted all = none_shared left
all_inputs left [] (i ∷ is) emitted all = absurd emitted
all_inputs left (r ∷ rs) [] emitted all = absurd emitted
all_inputs left (r ∷ rs) (i ∷ is) emitted all =
    first_shared left r i is emitted.0
    ∙ ap (λ (b : Bool). if b then i ∷ shared_inputs left is else shared_inputs left is) (first_of left r rs all)
    ∙ ap (λ (js : List Input). i ∷ js) (all_inputs left rs is emitted.1 (rest_of left r rs all))

-- a list of trades has each as often as it has
none_here : (all : List TradeFact) (k : ℕ) (t : TradeFact) → alone_at all all k t ≡ []
none_here all k t = by (is_alone all all k t) refl
  where
    few : count_by (is_like t) (take (k + 1) all) ≤ count_by (is_like t) all
    few = sum_by-take-le (λ (u : TradeFact). cond (is_like t u) 1 0) all (k + 1)

    by : (b : Bool) → is_alone all all k t ≡ b → alone_at all all k t ≡ []
    by true e = absurd (grind (arith, nat_tests, few))
    by false e = rw e refl

none_from : (all : List TradeFact) (k : ℕ) (ts : List TradeFact) → alone_from all all k ts ≡ []
none_from all k [] = refl
none_from all k (t ∷ ts) = (λ x. none_here all k t x ++ none_from all (k + 1) ts x)

same_trades : (one other : List TradeFact) → other ≡ one → are_same_trades one other ≡ true
same_trades one other same =
    ap (λ (l : List TradeFact). are_same_trades one l) same
    ∙ (λ x. length (none_from one 0 one x) == 0 && length (none_from one 0 one x) == 0)

pub nothing_left_out : NothingLeftOut
nothing_left_out left m rs is emitted all =
    let inputs = all_inputs left rs is emitted all in (
      inputs,
      no_differences left m no_history rs is all,
      same_trades (trade_facts (run m is).history.facts) (trade_facts (run m (shared_inputs left is)).history.facts) (ap (λ (js : List Input). trade_facts (run m js).history.facts) inputs),
    )
