-- What one participant is owed, each message with the row at which it came to be owed.
use Rattle.std.specs.Prelude.{◌≡◌, ℕ, List, [], ◌∷◌, ◌++◌, map, Option, None, Some}
use Rattle.std.specs.List.{flat_map}
use Rattle.std.specs.Io.KnownBytes.{Appends}
use Rattle.fix_dictionary.specs.declared.messages.App.{App}
use Rattle.participants.specs.ParticipantFile.{ParticipantFile}
use Rattle.venue_rules.specs.declared.replies.Reply.{Reply}
use Rattle.venue_rules.specs.declared.trail.TrailRow.{TrailRow}
use Rattle.venue_rules.specs.Facts.{History, no_history}
use Rattle.venue_rules.specs.Market.{Market}
use Rattle.venue_rules.specs.Messages.{message}
use Rattle.venue_rules.specs.Run.{Input, after, answer_input, owed, replies_to}
use Rattle.message_words.specs.declared.form.Form.{Form}
use Rattle.trail_answers.specs.declared.scope.Scope.{Scope}
use Rattle.trail_answers.specs.Emitted.{or_none}
use Rattle.trail_answers.specs.Entries.{heading, message_text}
use Rattle.row_replay.specs.Inputs.{AreOf}

-- a message that is owed to a participant, and the row at whose answer it is
pub record OwedMessage : Type 0 where
  pub row : TrailRow
  pub to : ℕ
  pub message : App

abbrev pub owed_message : TrailRow → Reply → OwedMessage
owed_message r reply = record { row = r; to = reply.to; message = message reply.what }

-- what a participant is owed at rows, one after another, from a history on
abbrev pub owed_messages_from : Market → ℕ → History → List TrailRow → List Input → List OwedMessage
owed_messages_from m who h [] is = []
owed_messages_from m who h (r ∷ rs) [] = []
owed_messages_from m who h (r ∷ rs) (i ∷ is) = map (owed_message r) (replies_to who (answer_input m h i).replies) ++ owed_messages_from m who (after h (answer_input m h i)) rs is

-- on a day
abbrev pub owed_messages_of : Market → ℕ → List TrailRow → List Input → List OwedMessage
owed_messages_of m who rs is = owed_messages_from m who no_history rs is

abbrev pub messages : List OwedMessage → List App
messages ls = map (λ l. l.message) ls

abbrev pub owed_message_text : Form → ParticipantFile → OwedMessage → List ℕ
owed_message_text form file l = message_text form file l.row l.to l.message

-- their text
abbrev pub owed_messages_text : Form → ParticipantFile → List OwedMessage → List ℕ
owed_messages_text form file ls = heading form ++ flat_map (owed_message_text form file) ls

-- it is asked what this participant is owed
abbrev pub owed_to : ℕ → Scope
owed_to who = record { to = Some who; from = None; rows = None; order = None; room = None }

-- What was written are the messages that a participant is owed (`owed`, the word of the headline) for the inputs of
-- these rows, in order, each once, each with its row, and no other byte; of none a line, if they are lines.
pub record EmitsOwed (form : Form) (m : Market) (rs : List TrailRow) (who : ℕ) (before after : Option (List ℕ)) : Type 0 where
  pub items : List Input
  pub emitted : AreOf rs items
  pub owed_messages : List OwedMessage
  pub owes : messages owed_messages ≡ owed m who items
  pub rows : owed_messages ≡ owed_messages_of m who rs items
  pub written : Appends before after (or_none form (owed_messages_text form m.participants owed_messages))
