-- What is owed, row by row.
use Rattle.std.proofs.Common.{◌≡◌, ℕ, ◌+◌, ◌<◌, ◌==◌, Bool, true, false, List, [], ◌∷◌, ◌++◌, length, take, get_or, map, if◌then◌else◌, refl, sym, ap, ◌∙◌, subst, append_assoc, append-nil}
use Rattle.std.proofs.lemmas.List.{take_more}
use Rattle.fix_dictionary.specs.Text.{app_text}
use Rattle.venue_rules.specs.declared.replies.Reply.{Reply}
use Rattle.venue_rules.specs.declared.trail.TrailRow.{TrailRow}
use Rattle.venue_rules.specs.Answer.{Answer}
use Rattle.venue_rules.specs.Facts.{History, no_history}
use Rattle.venue_rules.specs.Market.{Market}
use Rattle.venue_rules.specs.Messages.{message}
use Rattle.venue_rules.specs.Run.{Input, after, answer_input, replies_to, run, run_from}
use Rattle.venue_core.specs.Replay.{AreEmitted, Emits}
use Rattle.venue_core.specs.VenueFacts.{IsAfter, IsAnswer, IsHistory}
use Rattle.venue_core.specs.State.{State}
use Rattle.venue_core.specs.Taking.{IsSame, Stands, Takes}
use Rattle.desk_log.specs.Owed.{IsOwed, OwedText, OwesRow, TextsAreOwed, owed_at, owed_by, owed_from, texts_of}

-- one row more
more_rows : (rs : List TrailRow) (is : List Input) (r : TrailRow) (i : Input) → AreEmitted rs is → Emits r i → AreEmitted (rs ++ r ∷ []) (is ++ i ∷ [])
more_rows [] [] r i emitted emits = (emits, tt)
more_rows [] (j ∷ is) r i emitted emits = absurd emitted
more_rows (x ∷ rs) [] r i emitted emits = absurd emitted
more_rows (x ∷ rs) (j ∷ is) r i emitted emits = (emitted.0, more_rows rs is r i emitted.1 emits)

from_more : (m : Market) (who : ℕ) (h : History) (rs : List TrailRow) (is : List Input) (r : TrailRow) (i : Input) → AreEmitted rs is
    → owed_from m who h (rs ++ r ∷ []) (is ++ i ∷ []) ≡ owed_from m who h rs is ++ owed_by r who (answer_input m (run_from m h is).history i).replies
from_more m who h [] [] r i emitted = append-nil (owed_by r who (answer_input m h i).replies)
from_more m who h [] (j ∷ is) r i emitted = absurd emitted
from_more m who h (x ∷ rs) [] r i emitted = absurd emitted
from_more m who h (x ∷ rs) (j ∷ is) r i emitted =
    let a = answer_input m h j in
    let here = owed_by x who a.replies in
    ap (λ (l : List OwedText). here ++ l) (from_more m who (after h a) rs is r i emitted.1)
    ∙ sym (append_assoc here (owed_from m who (after h a) rs is) (owed_by r who (answer_input m (run_from m (after h a) is).history i).replies))

abbrev pub TakesOne : Type 0
TakesOne = (i : Input) (s between s' : State) (a : Answer) → IsSame s between → IsAnswer s i a → s'.market ≡ between.market → IsAfter between a s' → Takes s i a s'

abbrev pub StandsOn : Type 0
StandsOn = (m : Market) (is : List Input) (i : Input) (s s' : State) (a : Answer) → Stands m is s → Takes s i a s' → Stands m (is ++ i ∷ []) s'

-- a venue plans the input of a row, what the answer owes is appended, and it applies the plan
pub owes : TakesOne → (who : ℕ) (r : TrailRow) (i : Input) (s mid s' : State) (a : Answer) (replies : List Reply) (before behind : List OwedText)
    → Emits r i → IsSame s mid → IsAnswer s i a → s'.market ≡ mid.market → IsAfter mid a s' → replies ≡ a.replies → behind ≡ before ++ owed_by r who replies → OwesRow who r s s' before behind
owes law who r i s mid s' a replies before behind item same own market goes said appended = record {
  input = i;
  answer = a;
  emits = item;
  takes = law i s mid s' a same own market goes;
  owes = λ h stands. appended ∙ ap (λ (l : List Reply). before ++ owed_by r who l) (said ∙ ap (λ (x : Answer). x.replies) (own h stands));
}

one_more : StandsOn → (m : Market) (who : ℕ) (rs : List TrailRow) (r : TrailRow) (s s' : State) (before behind : List OwedText) → IsOwed m who rs s before → OwesRow who r s s' before behind → IsOwed m who (rs ++ r ∷ []) s' behind
one_more law m who rs r s s' before behind so_far here =
    let h = (run m so_far.items).history in
    let i = here.input in
    let own : behind ≡ before ++ owed_by r who (answer_input m h i).replies = subst (λ (n : Market). behind ≡ before ++ owed_by r who (answer_input n h i).replies) so_far.stands.market (here.owes h so_far.stands.history) in
    record {
      items = so_far.items ++ i ∷ [];
      emitted = more_rows rs so_far.items r i so_far.emitted here.emits;
      stands = law m so_far.items i s s' here.answer so_far.stands here.takes;
      owed = own ∙ ap (λ (l : List OwedText). l ++ owed_by r who (answer_input m h i).replies) so_far.owed ∙ sym (from_more m who no_history rs so_far.items r i so_far.emitted);
    }

pub owed_more : StandsOn → (m : Market) (who : ℕ) (rs : List TrailRow) (k : ℕ) (r : TrailRow) (s s' : State) (before behind : List OwedText) → k < length rs → r ≡ get_or rs k r
    → IsOwed m who (take k rs) s before → OwesRow who r s s' before behind → IsOwed m who (take (k + 1) rs) s' behind
owed_more law m who rs k r s s' before behind low at_k so_far here =
    let longer : take (k + 1) rs ≡ take k rs ++ r ∷ [] = take_more rs k r low ∙ ap (λ (x : TrailRow). take k rs ++ x ∷ []) (sym at_k) in
    subst (λ (l : List TrailRow). IsOwed m who l s' behind) (sym longer) (one_more law m who (take k rs) r s s' before behind so_far here)

-- before the first
pub owed_nothing : (who : ℕ) (s : State) → IsHistory s no_history → IsOwed s.market who [] s []
owed_nothing who s fresh = record { items = []; emitted = tt; stands = record { market = refl; history = fresh }; owed = refl }

-- The texts are those of the messages.

abbrev to_texts : List Reply → List (List ℕ)
to_texts rs = map (λ (r : Reply). app_text (message r.what)) rs

texts_join : (xs ys : List OwedText) → texts_of (xs ++ ys) ≡ texts_of xs ++ texts_of ys
texts_join [] ys = refl
texts_join (x ∷ xs) ys = ap (λ (l : List (List ℕ)). x.1 ∷ l) (texts_join xs ys)

to_texts_join : (xs ys : List Reply) → to_texts (xs ++ ys) ≡ to_texts xs ++ to_texts ys
to_texts_join [] ys = refl
to_texts_join (x ∷ xs) ys = ap (λ (l : List (List ℕ)). app_text (message x.what) ∷ l) (to_texts_join xs ys)

kept_join : (who : ℕ) (xs ys : List Reply) → replies_to who (xs ++ ys) ≡ replies_to who xs ++ replies_to who ys
kept_join who [] ys = refl
kept_join who (x ∷ xs) ys = by (kept_join who xs ys) (x.to == who)
  where
    by : replies_to who (xs ++ ys) ≡ replies_to who xs ++ replies_to who ys → (b : Bool) → (if b then x ∷ replies_to who (xs ++ ys) else replies_to who (xs ++ ys)) ≡ (if b then x ∷ replies_to who xs else replies_to who xs) ++ replies_to who ys
    by rec true = ap (λ (l : List Reply). x ∷ l) rec
    by rec false = rec

-- at one row
row_texts : (r : TrailRow) (who : ℕ) (xs : List Reply) → texts_of (owed_by r who xs) ≡ to_texts (replies_to who xs)
row_texts r who [] = refl
row_texts r who (x ∷ xs) = by (row_texts r who xs) (x.to == who)
  where
    by : texts_of (owed_by r who xs) ≡ to_texts (replies_to who xs) → (b : Bool) → texts_of ((if b then owed_at r x ∷ [] else []) ++ owed_by r who xs) ≡ to_texts (if b then x ∷ replies_to who xs else replies_to who xs)
    by rec true = ap (λ (l : List (List ℕ)). app_text (message x.what) ∷ l) rec
    by rec false = rec

all_texts : (m : Market) (who : ℕ) (h : History) (rs : List TrailRow) (is : List Input) → AreEmitted rs is → texts_of (owed_from m who h rs is) ≡ to_texts (replies_to who (run_from m h is).replies)
all_texts m who h [] [] emitted = refl
all_texts m who h [] (i ∷ is) emitted = absurd emitted
all_texts m who h (r ∷ rs) [] emitted = absurd emitted
all_texts m who h (r ∷ rs) (i ∷ is) emitted =
    let a = answer_input m h i in
    let rest = (run_from m (after h a) is).replies in
    texts_join (owed_by r who a.replies) (owed_from m who (after h a) rs is)
    ∙ (λ k. row_texts r who a.replies k ++ all_texts m who (after h a) rs is emitted.1 k)
    ∙ sym (ap to_texts (kept_join who a.replies rest) ∙ to_texts_join (replies_to who a.replies) (replies_to who rest))

through : (xs : List Reply) → to_texts xs ≡ map app_text (map (λ (r : Reply). message r.what) xs)
through [] = refl
through (x ∷ xs) = ap (λ (l : List (List ℕ)). app_text (message x.what) ∷ l) (through xs)

pub texts_are_owed : TextsAreOwed
texts_are_owed m who rs is emitted = all_texts m who no_history rs is emitted ∙ through (replies_to who (run m is).replies)
