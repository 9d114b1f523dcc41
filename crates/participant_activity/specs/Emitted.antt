-- What is printed of a participant's day.
use Rattle.std.specs.Prelude.{◌≡◌, ℕ, List, Option}
use Rattle.std.specs.Io.KnownBytes.{Appends}
use Rattle.fix_dictionary.specs.declared.messages.App.{App}
use Rattle.participants.specs.Relations.{name_of}
use Rattle.venue_rules.specs.declared.trail.TrailRow.{TrailRow}
use Rattle.venue_rules.specs.Market.{Market}
use Rattle.venue_rules.specs.Run.{Input, owed}
use Rattle.row_replay.specs.Inputs.{AreOf}
use Rattle.participant_activity.specs.declared.form.Form.{Form}
use Rattle.participant_activity.specs.Figures.{activity_text}
use Rattle.participant_activity.specs.Noting.{activity}
use Rattle.participant_activity.specs.Turns.{Turn, messages_owed, messages_sent, sent, turns_of}

-- the text of what a participant sent and was owed, turn by turn, and of nothing else
abbrev pub text_of_turns : Form → List ℕ → List Turn → List ℕ
text_of_turns form name turns = activity_text form name (activity turns)

-- a text is that of a participant's turns in the run of the inputs of these rows
pub record IsActivity (form : Form) (m : Market) (rs : List TrailRow) (who : ℕ) (text : List ℕ) : Type 0 where
  pub items : List Input
  pub emitted : AreOf rs items
  pub turns : List Turn
  pub are : turns ≡ turns_of m who items
  -- its own messages, each with its moment
  pub sends : messages_sent turns ≡ sent who items
  -- the messages that it is owed, the word of the headline
  pub owes : messages_owed turns ≡ owed m who items
  pub is : text ≡ text_of_turns form (name_of m.participants who) turns

-- What was written is the text of a participant's turns in the run of the inputs of these rows, and no other byte. The
-- turns have what it sent and what it was owed (`owed`, the word of the headline), and the text has nothing else.
pub record EmitsActivity (form : Form) (m : Market) (rs : List TrailRow) (who : ℕ) (before after : Option (List ℕ)) : Type 0 where
  pub items : List Input
  pub emitted : AreOf rs items
  pub turns : List Turn
  pub are : turns ≡ turns_of m who items
  pub sends : messages_sent turns ≡ sent who items
  pub owes : messages_owed turns ≡ owed m who items
  pub written : Appends before after (text_of_turns form (name_of m.participants who) turns)
