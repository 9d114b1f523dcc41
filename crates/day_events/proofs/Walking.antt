-- What the answers to rows say, one row after another.
use Rattle.std.proofs.Common.{◌≡◌, ℕ, ◌+◌, ◌<◌, List, [], ◌∷◌, ◌++◌, length, take, get_or, Option, Some, None, refl, sym, ap, ◌∙◌, subst, append-nil, append_assoc}
use Rattle.std.proofs.lemmas.List.{take_more}
use Rattle.venue_rules.specs.declared.replies.Reply.{Reply}
use Rattle.venue_rules.specs.declared.trail.Taken.{Taken}
use Rattle.venue_rules.specs.declared.trail.TrailRow.{TrailRow}
use Rattle.venue_rules.specs.Answer.{Answer}
use Rattle.venue_rules.specs.Facts.{History, no_history}
use Rattle.venue_rules.specs.Market.{Market}
use Rattle.venue_rules.specs.Run.{Input, after, answer_input, run, run_from}
use Rattle.venue_core.specs.Replay.{AreEmitted, Emits}
use Rattle.venue_core.specs.State.{State}
use Rattle.venue_core.specs.Taking.{IsSame, Stands, Takes}
use Rattle.venue_core.specs.VenueFacts.{IsAfter, IsAnswer, IsHistory}
use Rattle.day_events.specs.declared.event.Event.{Event}
use Rattle.day_events.specs.declared.shown.ShownPrice.{ShownPrice}
use Rattle.day_events.specs.Bests.{reported_in}
use Rattle.day_events.specs.Events.{events_at}
use Rattle.day_events.specs.ShownPrices.{shown_at}
use Rattle.row_replay.specs.Inputs.{input_of}
use Rattle.day_events.specs.Days.{AreEvents, TakesEvents, events, said_from, shown, taken_in}

-- one row further

pub emitted_more : (rs : List TrailRow) (is : List Input) (r : TrailRow) (i : Input) → AreEmitted rs is → Emits r i → AreEmitted (rs ++ r ∷ []) (is ++ i ∷ [])
emitted_more [] [] r i emitted emits = (emits, tt)
emitted_more [] (j ∷ is) r i emitted emits = absurd emitted
emitted_more (x ∷ rs) [] r i emitted emits = absurd emitted
emitted_more (x ∷ rs) (j ∷ is) r i emitted emits = (emitted.0, emitted_more rs is r i emitted.1 emits)

pub said_more : {A : Type 0} (says : TrailRow → Option Taken → List Reply → List A) (m : Market) (h : History) (rs : List TrailRow) (is : List Input) (r : TrailRow) (i : Input) → AreEmitted rs is
    → said_from says m h (rs ++ r ∷ []) (is ++ i ∷ []) ≡ said_from says m h rs is ++ says r (taken_in i) (answer_input m (run_from m h is).history i).replies
said_more says m h [] [] r i emitted = append-nil (says r (taken_in i) (answer_input m h i).replies)
said_more says m h [] (j ∷ is) r i emitted = absurd emitted
said_more says m h (x ∷ rs) [] r i emitted = absurd emitted
said_more says m h (x ∷ rs) (j ∷ is) r i emitted =
    let a = answer_input m h j in
    let here = says x (taken_in j) a.replies in
    ap (λ l. here ++ l) (said_more says m (after h a) rs is r i emitted.1)
    ∙ sym (append_assoc here (said_from says m (after h a) rs is) (says r (taken_in i) (answer_input m (run_from m (after h a) is).history i).replies))

-- and of one row after the first k
pub said_next : {A : Type 0} (says : TrailRow → Option Taken → List Reply → List A) (m : Market) (before : List TrailRow) (is : List Input) (r : TrailRow) (i : Input) (s : State) (xs xs' : List A) → AreEmitted before is → s.market ≡ m
    → xs ≡ said_from says m no_history before is → xs' ≡ xs ++ says r (taken_in i) (answer_input s.market (run m is).history i).replies → xs' ≡ said_from says m no_history (before ++ r ∷ []) (is ++ i ∷ [])
said_next says m before is r i s xs xs' emitted same are more =
    more
    ∙ (λ j. are j ++ says r (taken_in i) (answer_input (same j) (run m is).history i).replies)
    ∙ sym (said_more says m no_history before is r i emitted)

abbrev pub StandsOn : Type 0
StandsOn = (m : Market) (is : List Input) (i : Input) (s s' : State) (a : Answer) → Stands m is s → Takes s i a s' → Stands m (is ++ i ∷ []) s'

abbrev pub answered_more : StandsOn → (m : Market) (rs : List TrailRow) (k : ℕ) (r : TrailRow) (s s' : State) (es es' : List Event) (ps ps' : List ShownPrice) (x : Option ℕ) → k < length rs → r ≡ get_or rs k r
    → AreEvents m (take k rs) s es ps → TakesEvents r s s' es es' ps ps' x → AreEvents m (take (k + 1) rs) s' es' ps'
answered_more law m rs k r s s' es es' ps ps' x low at_k before taken =
    let longer : take (k + 1) rs ≡ take k rs ++ r ∷ [] = take_more rs k r low ∙ ap (λ (x : TrailRow). take k rs ++ x ∷ []) (sym at_k) in
    let is = before.items ++ taken.input ∷ [] in
    let h = (run m before.items).history in
    let answered : es' ≡ events m (take k rs ++ r ∷ []) is =
    said_next events_at m (take k rs) before.items r taken.input s es es' before.emitted before.stands.market before.answered (taken.answered h before.stands.history) in
    let shows : ps' ≡ shown m (take k rs ++ r ∷ []) is =
    said_next shown_at m (take k rs) before.items r taken.input s ps ps' before.emitted before.stands.market before.shown (taken.shown h before.stands.history) in
    record {
      items = is;
      emitted = subst (λ (l : List TrailRow). AreEmitted l is) (sym longer) (emitted_more (take k rs) before.items r taken.input before.emitted taken.emits);
      stands = law m before.items taken.input s s' taken.answer before.stands taken.takes;
      answered = answered ∙ ap (λ (l : List TrailRow). events m l is) (sym longer);
      shown = shows ∙ ap (λ (l : List TrailRow). shown m l is) (sym longer);
    }

-- before the first
abbrev pub answered_nothing : (m : Market) (s : State) (es : List Event) (ps : List ShownPrice) → s.market ≡ m → es ≡ [] → ps ≡ [] → IsHistory s no_history → AreEvents m [] s es ps
answered_nothing m s es ps same none no_price fresh = record { items = []; emitted = tt; stands = record { market = same; history = fresh }; answered = none; shown = no_price }

abbrev pub TakesOne : Type 0
TakesOne = (i : Input) (s between s' : State) (a : Answer) → IsSame s between → IsAnswer s i a → s'.market ≡ between.market → IsAfter between a s' → Takes s i a s'

-- the message of an input is that of its row
taken_of : (taken : Option Taken) (t : ℕ) → taken_in (input_of taken t) ≡ taken
taken_of (Some taken) t = refl
taken_of None t = refl

-- a venue plans the input of a row, what its answer says is added, and it applies the plan
pub takes_row : TakesOne → (r : TrailRow) (taken : Option Taken) (t : ℕ) (s mid s' : State) (a : Answer) (replies : List Reply) (es es' : List Event) (ps ps' : List ShownPrice) (x : Option ℕ) → Emits r (input_of taken t) → IsSame s mid → IsAnswer s (input_of taken t) a
    → s'.market ≡ mid.market → IsAfter mid a s' → replies ≡ a.replies → es' ≡ es ++ events_at r taken replies → ps' ≡ ps ++ shown_at r taken replies → x ≡ reported_in mid.market.instruments replies → TakesEvents r s s' es es' ps ps' x
takes_row law r taken t s mid s' a replies es es' ps ps' x emits same answers market goes said es_are ps_are x_is =
    let i = input_of taken t in
    let own : Option Taken → List Reply → List Event = λ o l. es ++ events_at r o l in
    let showing : Option Taken → List Reply → List ShownPrice = λ o l. ps ++ shown_at r o l in
    record {
      input = i;
      answer = a;
      emits = emits;
      takes = law i s mid s' a same answers market goes;
      answered = λ h stands. es_are ∙ (λ k. own (sym (taken_of taken t) k) ((said ∙ ap (λ (x : Answer). x.replies) (answers h stands)) k));
      shown = λ h stands. ps_are ∙ (λ k. showing (sym (taken_of taken t) k) ((said ∙ ap (λ (x : Answer). x.replies) (answers h stands)) k));
      reported = λ h stands. x_is ∙ (λ k. reported_in (same.market k).instruments ((said ∙ ap (λ (x : Answer). x.replies) (answers h stands)) k));
    }
