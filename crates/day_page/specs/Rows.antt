-- The section of the rows: each with the message that it spells, in words and as FIX has it.
use Rattle.std.specs.Prelude.{◌≡◌, ℕ, ◌+◌, List, [], ◌∷◌, ◌++◌, length, decimal, if◌then◌else◌}
use Rattle.fix_dictionary.specs.declared.messages.App.{App}
use Rattle.message_words.specs.RowLines.{sender_name}
use Rattle.message_words.specs.Visible.{readable}
use Rattle.message_words.specs.Words.{came_words}
use Rattle.page_text.specs.Parts.{Part, with_part, with_parts}
use Rattle.participants.specs.ParticipantFile.{ParticipantFile}
use Rattle.sef_moment.specs.Utc.{utc_text}
use Rattle.venue_core.specs.Replay.{AreEmitted, Emits}
use Rattle.venue_rules.specs.declared.trail.TrailRow.{TrailRow}
use Rattle.venue_rules.specs.Run.{Input, Message, Tick}
use Rattle.day_sections.specs.Values.{are_shown}
use Rattle.day_tables.specs.Parts.{framed, plain_part}
use Rattle.day_tables.specs.Values.{grouped}
use Rattle.day_page.specs.declared.template.TheConstants.{MESSAGE, ROWS, TICK}
use Rattle.day_page.specs.Folds.{closing, opening}

-- the rows that the page has: all, or none of more than 5,000
abbrev pub listed : List TrailRow → List TrailRow
listed rs = if are_shown rs then rs else []

abbrev pub message_part : ParticipantFile → TrailRow → App → Part
message_part file r a = record {
  template = MESSAGE.now;
  values = decimal r.n ∷ decimal r.n ∷ utc_text r.moment ∷ sender_name file r.who ∷ decimal r.number ∷ decimal r.era ∷ came_words a ∷ readable r.text ∷ [];
}

abbrev pub tick_part : TrailRow → Part
tick_part r = record { template = TICK.now; values = decimal r.n ∷ decimal r.n ∷ utc_text r.moment ∷ [] }

-- a row, by the input that it stands for
abbrev pub row_part : ParticipantFile → TrailRow → Input → Part
row_part file r (Message taken t) = message_part file r taken.item.app
row_part file r (Tick t) = tick_part r

-- the rows from a place on, of all on the page, and what begins before them
abbrev pub each_row : ParticipantFile → List TrailRow → ℕ → List TrailRow → List Input → List Part
each_row file all place [] is = []
each_row file all place (r ∷ rs) [] = []
each_row file all place (r ∷ rs) (i ∷ is) = opening all place r ++ (row_part file r i ∷ each_row file all (place + 1) rs is)

abbrev pub count_part : List TrailRow → Part
count_part rs = record { template = ROWS.now; values = grouped (length rs) ∷ [] }

abbrev pub rows_parts : ParticipantFile → List TrailRow → List Input → List Part
rows_parts file rs is = framed (count_part rs) (each_row file (listed rs) 0 (listed rs) is) (plain_part (closing rs))

-- A row was added with the message that it spells.
pub record AddsRow (file : ParticipantFile) (r : TrailRow) (before after : List ℕ) : Type 0 where
  pub input : Input
  pub emits : Emits r input
  pub added : after ≡ with_part before (row_part file r input)

-- and before it what begins there
pub record AddsNext (file : ParticipantFile) (all : List TrailRow) (place : ℕ) (r : TrailRow) (before after : List ℕ) : Type 0 where
  pub input : Input
  pub emits : Emits r input
  pub added : after ≡ with_parts before (opening all place r ++ row_part file r input ∷ [])

pub record AddsRows (file : ParticipantFile) (all rs : List TrailRow) (before after : List ℕ) : Type 0 where
  pub read : List Input
  pub emitted : AreEmitted rs read
  pub added : after ≡ with_parts before (each_row file all 0 rs read)

-- the section was added: with the messages that the rows on the page spell
pub record AddsSection (file : ParticipantFile) (rs : List TrailRow) (before after : List ℕ) : Type 0 where
  pub read : List Input
  pub emitted : AreEmitted (listed rs) read
  pub added : after ≡ with_parts before (rows_parts file rs read)
