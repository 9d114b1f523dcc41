-- Rows that are replayed one after another, with what is kept.
use Rattle.std.proofs.Common.{◌≡◌, ℕ, ◌+◌, ◌<◌, List, [], ◌∷◌, ◌++◌, length, take, get_or, Option, Some, None, refl, sym, ap, subst, ◌∙◌}
use Rattle.std.proofs.lemmas.List.{take_more}
use Rattle.venue_rules.specs.declared.replies.Reply.{Reply}
use Rattle.venue_rules.specs.declared.trail.Taken.{Taken}
use Rattle.venue_rules.specs.declared.trail.TrailRow.{TrailRow}
use Rattle.venue_rules.specs.Answer.{Answer}
use Rattle.venue_rules.specs.Facts.{History, no_history}
use Rattle.venue_rules.specs.Market.{Market}
use Rattle.venue_rules.specs.Run.{Input, after, answer_input, run, run_from}
use Rattle.venue_core.specs.Replay.{AreEmitted, Emits}
use Rattle.venue_core.specs.State.{State}
use Rattle.venue_core.specs.Taking.{IsSame, Stands, Takes}
use Rattle.venue_core.specs.VenueFacts.{IsAfter, IsAnswer, IsHistory}
use Rattle.row_replay.specs.Inputs.{input_of}
use Rattle.participant_activity.specs.Kept.{Activity, no_activity}
use Rattle.participant_activity.specs.Replayed.{IsNoted, NotesRow, after_input, after_inputs, after_row}
use Rattle.participant_activity.specs.Turns.{moment_of, sent_by}

abbrev pub TakesOne : Type 0
TakesOne = (i : Input) (s between s' : State) (a : Answer) → IsSame s between → IsAnswer s i a → s'.market ≡ between.market → IsAfter between a s' → Takes s i a s'

-- the moment of a row's input is that of the row
moment_is : (taken : Option Taken) (t : ℕ) → moment_of (input_of taken t) ≡ t
moment_is None t = refl
moment_is (Some taken) t = refl

-- a venue plans the input of a row, what it changes is kept, and it applies the plan
pub notes_row : TakesOne → (who : ℕ) (r : TrailRow) (taken : Option Taken) (t : ℕ) (s mid s' : State) (a : Answer) (replies : List Reply) (before noted : Activity) → Emits r (input_of taken t) → IsSame s mid → IsAnswer s (input_of taken t) a → s'.market ≡ mid.market → IsAfter mid a s' → replies ≡ a.replies
    → noted ≡ after_row before who t (sent_by who (input_of taken t)) replies → NotesRow who r s s' before noted
notes_row law who r taken t s mid s' a replies before noted emits same own market goes said keeps = record {
  input = input_of taken t;
  answer = a;
  emits = emits;
  takes = law (input_of taken t) s mid s' a same own market goes;
  noted = λ h stands. keeps
      ∙ (λ k. after_row before who (sym (moment_is taken t) k) (sent_by who (input_of taken t)) ((said ∙ ap (λ (x : Answer). x.replies) (own h stands)) k));
}

-- one row further
emitted_more : (rs : List TrailRow) (is : List Input) (r : TrailRow) (i : Input) → AreEmitted rs is → Emits r i → AreEmitted (rs ++ r ∷ []) (is ++ i ∷ [])
emitted_more [] [] r i emitted emits = (emits, tt)
emitted_more [] (j ∷ is) r i emitted emits = absurd emitted
emitted_more (x ∷ rs) [] r i emitted emits = absurd emitted
emitted_more (x ∷ rs) (j ∷ is) r i emitted emits = (emitted.0, emitted_more rs is r i emitted.1 emits)

inputs_more : (m : Market) (who : ℕ) (h : History) (a : Activity) (is : List Input) (i : Input)
    → after_inputs m who h a (is ++ i ∷ []) ≡ after_input (after_inputs m who h a is) who i (answer_input m (run_from m h is).history i).replies
inputs_more m who h a [] i = refl
inputs_more m who h a (j ∷ is) i = inputs_more m who (after h (answer_input m h j)) (after_input a who j (answer_input m h j).replies) is i

abbrev pub StandsOn : Type 0
StandsOn = (m : Market) (is : List Input) (i : Input) (s s' : State) (a : Answer) → Stands m is s → Takes s i a s' → Stands m (is ++ i ∷ []) s'

pub noted_more : StandsOn → (m : Market) (who : ℕ) (rs : List TrailRow) (k : ℕ) (r : TrailRow) (s s' : State) (a a' : Activity) → k < length rs → r ≡ get_or rs k r → IsNoted m who (take k rs) s a → NotesRow who r s s' a a' → IsNoted m who (take (k + 1) rs) s' a'
noted_more law m who rs k r s s' a a' low at_k before here =
    let longer : take (k + 1) rs ≡ take k rs ++ r ∷ [] = take_more rs k r low ∙ ap (λ (x : TrailRow). take k rs ++ x ∷ []) (sym at_k) in
    let i = here.input in
    let is = before.items ++ i ∷ [] in
    let h = (run m before.items).history in
    record {
      items = is;
      emitted = subst (λ (l : List TrailRow). AreEmitted l is) (sym longer) (emitted_more (take k rs) before.items r i before.emitted here.emits);
      stands = law m before.items i s s' here.answer before.stands here.takes;
      noted = here.noted h before.stands.history
          ∙ ((λ j. after_input (before.noted j) who i (answer_input (before.stands.market j) h i).replies)
          ∙ sym (inputs_more m who no_history no_activity before.items i));
    }

-- before the first
pub noted_nothing : (m : Market) (who : ℕ) (s : State) (a : Activity) → s.market ≡ m → a ≡ no_activity → IsHistory s no_history → IsNoted m who [] s a
noted_nothing m who s a same none fresh = record { items = []; emitted = tt; stands = record { market = same; history = fresh }; noted = none }
