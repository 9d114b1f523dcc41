-- The section of the refusals, by cause. A refusal is a row whose answer has a reply that refuses; its cause is the
-- text (58) of the first one.
use Rattle.std.specs.Prelude.{ℕ, ◌==◌, Bool, List, [], ◌∷◌, ◌++◌, nat_lt, filter, length, take, codes, Option, Some, None, if◌then◌else◌}
use Rattle.std.specs.List.{flat_map, list_any}
use Rattle.page_text.specs.Parts.{Part}
use Rattle.participants.specs.ParticipantFile.{ParticipantFile}
use Rattle.participants.specs.Relations.{name_of}
use Rattle.day_events.specs.declared.event.Event.{Event}
use Rattle.day_events.specs.declared.event.What.{What}
use Rattle.day_events.specs.declared.event.What.TheVariants as what
use Rattle.day_sections.specs.declared.template.TheConstants.{CAUSE, MORE_ROWS, NO_MORE_ROWS, NO_REFUSAL, REFUSALS, REFUSED, TABLE_END}
use Rattle.day_tables.specs.Parts.{framed, plain_part}
use Rattle.day_sections.specs.declared.picks.Pick.TheVariants as pick
use Rattle.day_sections.specs.Picks.{is_picked, is_same}
use Rattle.day_sections.specs.Values.{row_part}
use Rattle.day_tables.specs.Values.{grouped}

-- the most rows of a cause that are named
abbrev pub most_rows : ℕ
most_rows = 24

-- The causes, each once, in the order of their first rows.

abbrev pub with_cause : List (Option (List ℕ)) → Option (List ℕ) → List (Option (List ℕ))
with_cause seen text = if list_any (is_same text) seen then seen else seen ++ text ∷ []

abbrev pub seen_with : List (Option (List ℕ)) → What → List (Option (List ℕ))
seen_with seen (what.Refused text) = with_cause seen text
seen_with seen _ = seen

abbrev pub causes_from : List (Option (List ℕ)) → List Event → List (Option (List ℕ))
causes_from seen [] = seen
causes_from seen (e ∷ es) = causes_from (seen_with seen e.what) es

abbrev pub causes : List Event → List (Option (List ℕ))
causes es = causes_from [] es

abbrev pub cause_text : Option (List ℕ) → List ℕ
cause_text None = codes "no such quote is live (297)"
cause_text (Some text) = text

-- The parts.

abbrev pub refused_parts : ParticipantFile → Bool → Event → List Part
refused_parts file linked e = record { template = REFUSED.now; values = name_of file e.to ∷ [] } ∷ row_part linked e.at.row ∷ []

abbrev pub more_part : ℕ → Part
more_part count = if nat_lt most_rows count then plain_part MORE_ROWS.now else plain_part NO_MORE_ROWS.now

abbrev pub cause_part : Option (List ℕ) → ℕ → Part
cause_part cause count = record { template = CAUSE.now; values = cause_text cause ∷ grouped count ∷ [] }

abbrev pub cause_parts_of : ParticipantFile → Bool → Option (List ℕ) → List Event → List Part
cause_parts_of file linked cause es =
    framed (cause_part cause (length es)) (flat_map (refused_parts file linked) (take most_rows es)) (more_part (length es))

abbrev pub cause_parts : ParticipantFile → Bool → List Event → Option (List ℕ) → List Part
cause_parts file linked es cause = cause_parts_of file linked cause (filter (is_picked (pick.Refused cause)) es)

abbrev pub count_part : List (Option (List ℕ)) → Part
count_part cs = record { template = REFUSALS.now; values = grouped (length cs) ∷ [] }

abbrev pub some_refusals : ParticipantFile → Bool → List Event → List (Option (List ℕ)) → List Part
some_refusals file linked es cs = framed (count_part cs) (flat_map (cause_parts file linked es) cs) (plain_part TABLE_END.now)

abbrev pub refusals_parts : ParticipantFile → Bool → List Event → List (Option (List ℕ)) → List Part
refusals_parts file linked es cs = if length cs == 0 then plain_part NO_REFUSAL.now ∷ [] else some_refusals file linked es cs
