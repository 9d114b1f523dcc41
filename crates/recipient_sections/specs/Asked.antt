-- Whom a request asked.
use Rattle.std.specs.Prelude.{ℕ, Bool, List, [], ◌∷◌, ◌++◌, decimal}
use Rattle.std.specs.List.{flat_map}
use Rattle.page_text.specs.Parts.{Part}
use Rattle.participants.specs.ParticipantFile.{ParticipantFile}
use Rattle.participants.specs.Relations.{name_of}
use Rattle.day_events.specs.declared.event.Event.{Event}
use Rattle.day_tables.specs.Parts.{framed, plain_part}
use Rattle.day_sections.specs.Values.{row_part}
use Rattle.recipient_sections.specs.declared.template.TheConstants.{ASKED_ROW, NAME, ROOM_ASKED}
use Rattle.recipient_sections.specs.Threes.{three_section}

abbrev pub name_parts : ParticipantFile → Event → List Part
name_parts file e = record { template = NAME.now; values = name_of file e.to ∷ [] } ∷ []

abbrev pub asked_part : ℕ → Part
asked_part room = record { template = ROOM_ASKED.now; values = decimal room ∷ [] }

-- all of them, and the row of the request
abbrev pub asked_section : ParticipantFile → Bool → ℕ → ℕ → List Event → List Part
asked_section file linked row room asked = framed (asked_part room) (flat_map (name_parts file) asked) (plain_part ASKED_ROW.now) ++ row_part linked row ∷ []

-- with three of them who are unrelated, and who are related
abbrev pub recipients_parts : ParticipantFile → Bool → Event → ℕ → List Event → List Part
recipients_parts file linked e room asked = asked_section file linked e.at.row room asked ++ three_section file e asked
