-- Two venues that take the inputs of the same rows.
use Rattle.std.proofs.Common.{◌≡◌, ℕ, ◌+◌, ◌<◌, ◌≤◌, Bool, true, false, List, [], ◌∷◌, ◌++◌, length, take, get_or, Option, None, Some, if◌then◌else◌, refl, sym, ap, ◌∙◌, subst, append_assoc, append-nil, length-append, arith}
use Rattle.std.proofs.KnownBytes.{Appends-kept, Appends-trans}
use Rattle.std.proofs.lemmas.Grind.{flat_map-append}
use Rattle.std.proofs.lemmas.List.{take_all, take_more}
use Rattle.std.specs.Io.KnownBytes.{Appends, Keeps}
use Rattle.std.specs.List.{flat_map}
use Rattle.participants.specs.ParticipantFile.{ParticipantFile}
use Rattle.venue_rules.specs.declared.replies.Reply.{Reply}
use Rattle.venue_rules.specs.declared.trail.TrailRow.{TrailRow}
use Rattle.venue_rules.specs.Answer.{Answer}
use Rattle.venue_rules.specs.Facts.{History, no_history}
use Rattle.venue_rules.specs.Market.{Market}
use Rattle.venue_rules.specs.Run.{Input, after, answer_input, run, run_from}
use Rattle.venue_core.specs.Replay.{AreEmitted, Emits, TakesRow}
use Rattle.venue_core.specs.State.{State}
use Rattle.venue_core.specs.Taking.{IsSame, Stands, Takes}
use Rattle.venue_core.specs.VenueFacts.{IsAfter, IsAnswer, IsHistory}
use Rattle.row_replay.specs.Laws.{AreTheirs}
use Rattle.trail_digest.specs.Comparison.{AreShared, Side, comparison_text, same_rules}
use Rattle.trail_comparison.specs.Comparison.{BeginsComparison, EmitsComparison, IsSaid, market_of}
use Rattle.trail_comparison.specs.Differences.{AreReplayed, BeginsRows, Difference, EmitsAnswers, EmitsRow, count_line, difference_at, difference_text, differences, differences_from, differences_text}
use Rattle.trail_comparison.specs.Without.{is_shared, shared_inputs}
use Rattle.trail_comparison.proofs.Shared.{first_shared, none_shared, none_shared_more, one_shared}

abbrev pub TakesOne : Type 0
TakesOne = (i : Input) (s between s' : State) (a : Answer) → IsSame s between → IsAnswer s i a → s'.market ≡ between.market → IsAfter between a s' → Takes s i a s'

abbrev pub StandsOn : Type 0
StandsOn = (m : Market) (is : List Input) (i : Input) (s s' : State) (a : Answer) → Stands m is s → Takes s i a s' → Stands m (is ++ i ∷ []) s'

-- one venue plans an input and applies the plan; its participants and its replies
pub record Steps (i : Input) (s s' : State) (a : Answer) (file : ParticipantFile) (replies : List Reply) : Type 0 where
  pub takes : Takes s i a s'
  pub named : file ≡ s.market.participants
  pub said : replies ≡ a.replies

pub steps : TakesOne → (i : Input) (s mid s' : State) (a : Answer) (file : ParticipantFile) (replies : List Reply) → IsSame s mid → IsAnswer s i a → s'.market ≡ mid.market → IsAfter mid a s'
    → file ≡ mid.market.participants → replies ≡ a.replies → Steps i s s' a file replies
steps law i s mid s' a file replies same own market goes named said = record {
  takes = law i s mid s' a same own market goes;
  named = named ∙ ap (λ (m : Market). m.participants) same.market;
  said = said;
}

answered : (i : Input) (s s' : State) (a : Answer) (file : ParticipantFile) (replies : List Reply) (h : History) → Steps i s s' a file replies → IsHistory s h → replies ≡ (answer_input s.market h i).replies
answered i s s' a file replies h step stands = step.said ∙ ap (λ (x : Answer). x.replies) (step.takes.answers h stands)

-- both do, and what differs is written
pub emits : (r : TrailRow) (i : Input) (s s' t t' : State) (a b : Answer) (file other : ParticipantFile) (replies others : List Reply) (count : ℕ) (text : List ℕ) (before after : Option (List ℕ))
    → Emits r i → Steps i s s' a file replies → Steps i t t' b other others
    → text ≡ flat_map (difference_text file other) (difference_at file other r i replies others) → count ≡ length (difference_at file other r i replies others)
    → Appends before after text → EmitsRow r count s s' t t' before after
emits r i s s' t t' a b file other replies others count text held after item one too is counts written = record {
  input = i;
  answer = a;
  other = b;
  emits = item;
  takes = one.takes;
  takes_too = too.takes;
  counted = λ h k stands also.
      let own = answered i s s' a file replies h one stands in
      let own_too = answered i t t' b other others k too also in
      counts ∙ (λ x. length (difference_at (one.named x) (too.named x) r i (own x) (own_too x)));
  written = λ h k stands also.
      let own = answered i s s' a file replies h one stands in
      let own_too = answered i t t' b other others k too also in
      subst (Appends held after) (is ∙ (λ x. flat_map (difference_text (one.named x) (too.named x)) (difference_at (one.named x) (too.named x) r i (own x) (own_too x)))) written;
}

-- one row more

more_rows : (rs : List TrailRow) (is : List Input) (r : TrailRow) (i : Input) → AreEmitted rs is → Emits r i → AreEmitted (rs ++ r ∷ []) (is ++ i ∷ [])
more_rows [] [] r i emitted emits = (emits, tt)
more_rows [] (j ∷ is) r i emitted emits = absurd emitted
more_rows (x ∷ rs) [] r i emitted emits = absurd emitted
more_rows (x ∷ rs) (j ∷ is) r i emitted emits = (emitted.0, more_rows rs is r i emitted.1 emits)

-- what is listed from a row on, where the second venue takes it or not
listed : (left : Option ℕ) (m n : Market) (h k : History) (r : TrailRow) (i : Input) → is_shared left r ≡ true
    → differences_from left m n h k (r ∷ []) (i ∷ []) ≡ difference_at m.participants n.participants r i (answer_input m h i).replies (answer_input n k i).replies
listed left m n h k r i taken = rw taken (append-nil (difference_at m.participants n.participants r i (answer_input m h i).replies (answer_input n k i).replies))

unlisted : (left : Option ℕ) (m n : Market) (h k : History) (r : TrailRow) (i : Input) → is_shared left r ≡ false → differences_from left m n h k (r ∷ []) (i ∷ []) ≡ []
unlisted left m n h k r i passed = rw passed refl

-- and of which rows before, and then this one
goes_on : (left : Option ℕ) (m n : Market) (h k : History) (x : TrailRow) (rs : List TrailRow) (j : Input) (is : List Input) (r : TrailRow) (i : Input) (taken : Bool) → is_shared left x ≡ taken
    → shared_inputs left (j ∷ is) ≡ (if taken then j ∷ shared_inputs left is else shared_inputs left is)
    → ((k' : History) → differences_from left m n (after h (answer_input m h j)) k' (rs ++ r ∷ []) (is ++ i ∷ [])
    ≡ differences_from left m n (after h (answer_input m h j)) k' rs is
    ++ differences_from left m n (run_from m (after h (answer_input m h j)) is).history (run_from n k' (shared_inputs left is)).history (r ∷ []) (i ∷ []))
    → differences_from left m n h k ((x ∷ rs) ++ r ∷ []) ((j ∷ is) ++ i ∷ [])
    ≡ differences_from left m n h k (x ∷ rs) (j ∷ is)
    ++ differences_from left m n (run_from m h (j ∷ is)).history (run_from n k (shared_inputs left (j ∷ is))).history (r ∷ []) (i ∷ [])
goes_on left m n h k x rs j is r i true taken inputs later =
    let a = answer_input m h j in
    let b = answer_input n k j in
    let here = difference_at m.participants n.participants x j a.replies b.replies in
    let rest = differences_from left m n (after h a) (after k b) rs is in
    let last = λ (ins : List Input). differences_from left m n (run_from m (after h a) is).history (run_from n k ins).history (r ∷ []) (i ∷ []) in
    rw taken (ap (λ (l : List Difference). here ++ l) (later (after k b)) ∙ sym (append_assoc here rest (last (j ∷ shared_inputs left is)))
    ∙ ap (λ (ins : List Input). (here ++ rest) ++ last ins) (sym inputs))
goes_on left m n h k x rs j is r i false taken inputs later =
    let a = answer_input m h j in
    let rest = differences_from left m n (after h a) k rs is in
    let last = λ (ins : List Input). differences_from left m n (run_from m (after h a) is).history (run_from n k ins).history (r ∷ []) (i ∷ []) in
    rw taken (later k ∙ ap (λ (ins : List Input). rest ++ last ins) (sym inputs))

differences_more : (left : Option ℕ) (m n : Market) (h k : History) (rs : List TrailRow) (is : List Input) (r : TrailRow) (i : Input) → AreEmitted rs is
    → differences_from left m n h k (rs ++ r ∷ []) (is ++ i ∷ [])
    ≡ differences_from left m n h k rs is ++ differences_from left m n (run_from m h is).history (run_from n k (shared_inputs left is)).history (r ∷ []) (i ∷ [])
differences_more left m n h k [] [] r i emitted =
    ap (λ (ins : List Input). differences_from left m n h (run_from n k ins).history (r ∷ []) (i ∷ [])) (sym (none_shared left))
differences_more left m n h k [] (j ∷ is) r i emitted = absurd emitted
differences_more left m n h k (x ∷ rs) [] r i emitted = absurd emitted
differences_more left m n h k (x ∷ rs) (j ∷ is) r i emitted =
    goes_on left m n h k x rs j is r i (is_shared left x) refl (first_shared left x j is emitted.0)
    (λ k'. differences_more left m n (after h (answer_input m h j)) k' rs is r i emitted.1)

-- both venues take it
one_more : StandsOn → (left : Option ℕ) (m n : Market) (rs : List TrailRow) (r : TrailRow) (count more : ℕ) (s s' t t' : State) (before mid after : Option (List ℕ)) → is_shared left r ≡ true
    → AreReplayed left m n rs count s t before mid → EmitsRow r more s s' t t' mid after → AreReplayed left m n (rs ++ r ∷ []) (count + more) s' t' before after
one_more law left m n rs r count more s s' t t' before mid after taken so_far here =
    let is = so_far.items in
    let i = here.input in
    let h = (run m is).history in
    let k = (run n (shared_inputs left is)).history in
    let row = difference_at m.participants n.participants r i (answer_input m h i).replies (answer_input n k i).replies in
    let one = so_far.stands.market in
    let other = so_far.stands_too.market in
    let longer : differences left m n (rs ++ r ∷ []) (is ++ i ∷ []) ≡ differences left m n rs is ++ row =
    differences_more left m n no_history no_history rs is r i so_far.emitted ∙ ap (λ (l : List Difference). differences left m n rs is ++ l) (listed left m n h k r i taken) in
    let counted : more ≡ length row = here.counted h k so_far.stands.history so_far.stands_too.history
    ∙ (λ x. length (difference_at (one x).participants (other x).participants r i (answer_input (one x) h i).replies (answer_input (other x) k i).replies)) in
    let written : Appends mid after (differences_text m n row) =
    subst (Appends mid after) (λ x. differences_text (one x) (other x) (difference_at (one x).participants (other x).participants r i (answer_input (one x) h i).replies (answer_input (other x) k i).replies))
    (here.written h k so_far.stands.history so_far.stands_too.history) in
    record {
      items = is ++ i ∷ [];
      emitted = more_rows rs is r i so_far.emitted here.emits;
      stands = law m is i s s' here.answer so_far.stands here.takes;
      stands_too = subst (λ (js : List Input). Stands n js t') (sym (one_shared left r is i taken here.emits)) (law n (shared_inputs left is) i t t' here.other so_far.stands_too here.takes_too);
      counted = (λ x. so_far.counted x + counted x) ∙ sym (length-append (differences left m n rs is) row) ∙ ap length (sym longer);
      written = subst (Appends before after) (sym (flat_map-append (difference_text m.participants n.participants) (differences left m n rs is) row) ∙ ap (differences_text m n) (sym longer))
          (Appends-trans before mid after _ _ so_far.written written);
    }

-- or the first alone
one_alone : StandsOn → (left : Option ℕ) (m n : Market) (rs : List TrailRow) (r : TrailRow) (count : ℕ) (s s' t : State) (before after : Option (List ℕ)) → is_shared left r ≡ false
    → AreReplayed left m n rs count s t before after → TakesRow r s s' → AreReplayed left m n (rs ++ r ∷ []) count s' t before after
one_alone law left m n rs r count s s' t before after passed so_far here =
    let is = so_far.items in
    let i = here.0 in
    let h = (run m is).history in
    let k = (run n (shared_inputs left is)).history in
    let same : differences left m n (rs ++ r ∷ []) (is ++ i ∷ []) ≡ differences left m n rs is =
    differences_more left m n no_history no_history rs is r i so_far.emitted ∙ ap (λ (l : List Difference). differences left m n rs is ++ l) (unlisted left m n h k r i passed)
    ∙ append-nil (differences left m n rs is) in
    record {
      items = is ++ i ∷ [];
      emitted = more_rows rs is r i so_far.emitted here.2;
      stands = law m is i s s' here.1 so_far.stands here.3;
      stands_too = subst (λ (js : List Input). Stands n js t) (sym (none_shared_more left r is i passed here.2)) so_far.stands_too;
      counted = so_far.counted ∙ ap length (sym same);
      written = subst (λ (ds : List Difference). Appends before after (differences_text m n ds)) (sym same) so_far.written;
    }

longer_by_one : (rs : List TrailRow) (k : ℕ) (r : TrailRow) → k < length rs → r ≡ get_or rs k r → take (k + 1) rs ≡ take k rs ++ r ∷ []
longer_by_one rs k r low at_k = take_more rs k r low ∙ ap (λ (x : TrailRow). take k rs ++ x ∷ []) (sym at_k)

pub one_row_more : StandsOn → (left : Option ℕ) (m n : Market) (rs : List TrailRow) (k : ℕ) (r : TrailRow) (count more : ℕ) (s s' t t' : State) (before mid after : Option (List ℕ)) → k < length rs
    → r ≡ get_or rs k r → is_shared left r ≡ true → AreReplayed left m n (take k rs) count s t before mid → EmitsRow r more s s' t t' mid after
    → AreReplayed left m n (take (k + 1) rs) (count + more) s' t' before after
one_row_more law left m n rs k r count more s s' t t' before mid after low at_k taken so_far here =
    subst (λ (l : List TrailRow). AreReplayed left m n l (count + more) s' t' before after) (sym (longer_by_one rs k r low at_k))
    (one_more law left m n (take k rs) r count more s s' t t' before mid after taken so_far here)

pub one_row_alone : StandsOn → (left : Option ℕ) (m n : Market) (rs : List TrailRow) (k : ℕ) (r : TrailRow) (count : ℕ) (s s' t : State) (before after : Option (List ℕ)) → k < length rs
    → r ≡ get_or rs k r → is_shared left r ≡ false → AreReplayed left m n (take k rs) count s t before after → TakesRow r s s' → AreReplayed left m n (take (k + 1) rs) count s' t before after
one_row_alone law left m n rs k r count s s' t before after low at_k passed so_far here =
    subst (λ (l : List TrailRow). AreReplayed left m n l count s' t before after) (sym (longer_by_one rs k r low at_k)) (one_alone law left m n (take k rs) r count s s' t before after passed so_far here)

nothing : (known : Option (List ℕ)) → Appends known known []
nothing None = tt
nothing (Some xs) = sym (append-nil xs)

-- before the first
pub no_row : (left : Option ℕ) (s t : State) (known : Option (List ℕ)) → IsHistory s no_history → IsHistory t no_history → AreReplayed left s.market t.market [] 0 s t known known
no_row left s t known fresh fresh_too = record {
  items = [];
  emitted = tt;
  stands = record { market = refl; history = fresh };
  stands_too = subst (λ (js : List Input). Stands t.market js t) (sym (none_shared left)) (record { market = refl; history = fresh_too });
  counted = refl;
  written = nothing known;
}

-- an allocation fails at a row
pub begins : (left : Option ℕ) (m n : Market) (rs : List TrailRow) (k count : ℕ) (s t : State) (before mid after : Option (List ℕ)) → k ≤ length rs → AreReplayed left m n (take k rs) count s t before mid
    → Keeps mid after → BeginsRows left m n rs before after
begins left m n rs k count s t before mid after low so_far kept = record {
  count = k;
  few = low;
  items = so_far.items;
  emitted = so_far.emitted;
  written = Appends-kept before mid after _ so_far.written kept;
}

-- or behind the last
pub begins_all : (left : Option ℕ) (m n : Market) (rs : List TrailRow) (count : ℕ) (s t : State) (before mid after : Option (List ℕ)) → AreReplayed left m n rs count s t before mid → Keeps mid after
    → BeginsRows left m n rs before after
begins_all left m n rs count s t before mid after so_far kept =
    begins left m n rs (length rs) count s t before mid after (omega arith) (subst (λ (l : List TrailRow). AreReplayed left m n l count s t before mid) (sym (take_all (length rs) rs (omega arith))) so_far) kept

-- or before the first
pub begins_none : (left : Option ℕ) (m n : Market) (rs : List TrailRow) (known : Option (List ℕ)) → BeginsRows left m n rs known known
begins_none left m n rs known = record {
  count = 0;
  few = omega arith;
  items = [];
  emitted = tt;
  written = nothing known;
}

-- all are replayed, and the count is written
pub are_answers : AreTheirs → (m n : Market) (rs : List TrailRow) (count : ℕ) (s t : State) (line : List ℕ) (before mid after : Option (List ℕ)) → AreReplayed None m n rs count s t before mid
    → line ≡ count_line count (length rs) → Appends mid after line → EmitsAnswers m n rs before after
are_answers law m n rs count s t line before mid after done is written =
    let items = done.items in
    record {
      text = differences_text m n (differences None m n rs items) ++ count_line (length (differences None m n rs items)) (length rs);
      are = record { items = items; emitted = law rs items done.emitted; is = refl };
      written = Appends-trans before mid after _ _ done.written (subst (Appends mid after) (is ∙ ap (λ (c : ℕ). count_line c (length rs)) done.counted) written);
    }

-- the whole comparison

pub all_same : (a b : Side) (k : ℕ) (before after : Option (List ℕ)) → AreShared a.trail.rows b.trail.rows k → same_rules a.trail b.trail ≡ true → Appends before after (comparison_text a b k) → EmitsComparison a b before after
all_same a b k before after shared same written = record {
  shared = k;
  longest = shared;
  answers = [];
  said = subst (λ (s : Bool). IsSaid s (market_of a) (market_of b) (take k a.trail.rows) []) (sym same) refl;
  written = subst (Appends before after) (sym (append-nil (comparison_text a b k))) written;
}

pub others_follow : (a b : Side) (k : ℕ) (before mid after : Option (List ℕ)) → AreShared a.trail.rows b.trail.rows k → same_rules a.trail b.trail ≡ false → Appends before mid (comparison_text a b k)
    → EmitsAnswers (market_of a) (market_of b) (take k a.trail.rows) mid after → EmitsComparison a b before after
others_follow a b k before mid after shared other written answers = record {
  shared = k;
  longest = shared;
  answers = answers.text;
  said = subst (λ (s : Bool). IsSaid s (market_of a) (market_of b) (take k a.trail.rows) answers.text) (sym other) answers.are;
  written = Appends-trans before mid after _ _ written answers.written;
}

pub others_begin : (a b : Side) (k : ℕ) (before mid after : Option (List ℕ)) → AreShared a.trail.rows b.trail.rows k → Appends before mid (comparison_text a b k)
    → BeginsRows None (market_of a) (market_of b) (take k a.trail.rows) mid after → BeginsComparison a b before after
others_begin a b k before mid after shared written begun = record {
  shared = k;
  longest = shared;
  mid = mid;
  written = written;
  begins = begun;
}
