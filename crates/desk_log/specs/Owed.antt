-- What a participant is owed on a day: the text of each message, with the row at whose answer it comes to be owed.
use Rattle.std.specs.Prelude.{◌≡◌, ℕ, ◌==◌, List, [], ◌∷◌, ◌++◌, map, if◌then◌else◌}
use Rattle.std.specs.List.{flat_map}
use Rattle.fix_dictionary.specs.Text.{app_text}
use Rattle.venue_rules.specs.declared.replies.Reply.{Reply}
use Rattle.venue_rules.specs.declared.trail.TrailRow.{TrailRow}
use Rattle.venue_rules.specs.Answer.{Answer}
use Rattle.venue_rules.specs.Facts.{History, no_history}
use Rattle.venue_rules.specs.Market.{Market}
use Rattle.venue_rules.specs.Messages.{message}
use Rattle.venue_rules.specs.Run.{Input, after, answer_input, owed}
use Rattle.venue_core.specs.Replay.{AreEmitted, Emits}
use Rattle.venue_core.specs.VenueFacts.{IsHistory}
use Rattle.venue_core.specs.State.{State}
use Rattle.venue_core.specs.Taking.{Stands, Takes}
use Rattle.desk_log.specs.declared.owed.Owed.{Owed}

abbrev pub OwedText : Type 0
OwedText = ℕ × List ℕ

abbrev pub owed_at : TrailRow → Reply → OwedText
owed_at r x = (r.n, app_text (message x.what))

abbrev pub owed_if : TrailRow → ℕ → Reply → List OwedText
owed_if r who x = if x.to == who then owed_at r x ∷ [] else []

-- by the replies at a row
abbrev pub owed_by : TrailRow → ℕ → List Reply → List OwedText
owed_by r who xs = flat_map (owed_if r who) xs

-- at rows, one after another, from a history on
abbrev pub owed_from : Market → ℕ → History → List TrailRow → List Input → List OwedText
owed_from m who h [] is = []
owed_from m who h (r ∷ rs) [] = []
owed_from m who h (r ∷ rs) (i ∷ is) = owed_by r who (answer_input m h i).replies ++ owed_from m who (after h (answer_input m h i)) rs is

-- on a day
abbrev pub owed_of : Market → ℕ → List TrailRow → List Input → List OwedText
owed_of m who rs is = owed_from m who no_history rs is

abbrev pub texts_of : List OwedText → List (List ℕ)
texts_of os = map (λ o. o.1) os

-- the texts of the messages that a participant is owed (`owed`, the word of the headline)
abbrev pub owed_texts : Market → ℕ → List Input → List (List ℕ)
owed_texts m who is = map app_text (owed m who is)

-- the texts are those of the messages that are owed, each once, in order
abbrev pub TextsAreOwed : Type 0
TextsAreOwed = (m : Market) (who : ℕ) (rs : List TrailRow) (is : List Input) → AreEmitted rs is → texts_of (owed_of m who rs is) ≡ owed_texts m who is

-- the same of the lists that the program keeps
abbrev pub owed_view : Owed → OwedText
owed_view o = (o.row, o.text.items)

abbrev pub owed_views : List Owed → List OwedText
owed_views os = map owed_view os

-- a venue takes the input of a row, and what is owed by its answer is behind what was owed before
pub record OwesRow (who : ℕ) (r : TrailRow) (s s' : State) (before behind : List OwedText) : Type 0 where
  pub input : Input
  pub answer : Answer
  pub emits : Emits r input
  pub takes : Takes s input answer s'
  pub owes : (h : History) → IsHistory s h → behind ≡ before ++ owed_by r who (answer_input s.market h input).replies

-- a venue is where the inputs of these rows lead, and this is owed by then
pub record IsOwed (m : Market) (who : ℕ) (rs : List TrailRow) (s : State) (os : List OwedText) : Type 0 where
  pub items : List Input
  pub emitted : AreEmitted rs items
  pub stands : Stands m items s
  pub owed : os ≡ owed_of m who rs items
