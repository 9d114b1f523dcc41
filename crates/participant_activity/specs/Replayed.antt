-- Rows that are replayed one after another, with what is kept of a participant's day.
use Rattle.std.specs.Prelude.{◌≡◌, ℕ, ◌==◌, List, [], ◌∷◌, Option, if◌then◌else◌}
use Rattle.fix_dictionary.specs.declared.messages.App.{App}
use Rattle.venue_rules.specs.declared.replies.Reply.{Reply}
use Rattle.venue_rules.specs.declared.trail.TrailRow.{TrailRow}
use Rattle.venue_rules.specs.Answer.{Answer}
use Rattle.venue_rules.specs.Facts.{History, no_history}
use Rattle.venue_rules.specs.Market.{Market}
use Rattle.venue_rules.specs.Messages.{message}
use Rattle.venue_rules.specs.Run.{Input, after, answer_input}
use Rattle.venue_core.specs.Replay.{AreEmitted, Emits}
use Rattle.venue_core.specs.State.{State}
use Rattle.venue_core.specs.Taking.{Stands, Takes}
use Rattle.venue_core.specs.VenueFacts.{IsHistory}
use Rattle.participant_activity.specs.declared.occasion.Occasion.{Occasion}
use Rattle.participant_activity.specs.Kept.{Activity, no_activity}
use Rattle.participant_activity.specs.Noting.{after_owed, after_sent, occasion_of}
use Rattle.participant_activity.specs.Turns.{moment_of, sent_by}

-- after a reply, which counts where it is to this participant
abbrev pub after_reply : Activity → ℕ → ℕ → Occasion → Reply → Activity
after_reply a who t o r = if r.to == who then after_owed a t o (message r.what) else a

abbrev pub after_replies : Activity → ℕ → ℕ → Occasion → List Reply → Activity
after_replies a who t o [] = a
after_replies a who t o (r ∷ rs) = after_replies (after_reply a who t o r) who t o rs

-- after a row, by what this participant sends at it
abbrev pub after_row : Activity → ℕ → ℕ → Option App → List Reply → Activity
after_row a who t sent replies = after_replies (after_sent a t sent) who t (occasion_of sent) replies

-- after the input of a row
abbrev pub after_input : Activity → ℕ → Input → List Reply → Activity
after_input a who i replies = after_row a who (moment_of i) (sent_by who i) replies

-- after inputs, one after another, from a history on
abbrev pub after_inputs : Market → ℕ → History → Activity → List Input → Activity
after_inputs m who h a [] = a
after_inputs m who h a (i ∷ is) = after_inputs m who (after h (answer_input m h i)) (after_input a who i (answer_input m h i).replies) is

-- a venue takes the input of a row, and what it changes is kept
pub record NotesRow (who : ℕ) (r : TrailRow) (s s' : State) (before after : Activity) : Type 0 where
  pub input : Input
  pub answer : Answer
  pub emits : Emits r input
  pub takes : Takes s input answer s'
  pub noted : (h : History) → IsHistory s h → after ≡ after_input before who input (answer_input s.market h input).replies

-- a venue is where the inputs of these rows lead, and so is what is kept
pub record IsNoted (m : Market) (who : ℕ) (rs : List TrailRow) (s : State) (a : Activity) : Type 0 where
  pub items : List Input
  pub emitted : AreEmitted rs items
  pub stands : Stands m items s
  pub noted : a ≡ after_inputs m who no_history no_activity items
