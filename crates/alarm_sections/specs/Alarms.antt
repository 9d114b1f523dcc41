-- The section of the alarms (`surveillance`): up to 200 in one table; above, in folds of 200, up to 10,000.
use Rattle.std.specs.Prelude.{ℕ, ◌-◌, ◌==◌, Bool, List, [], ◌∷◌, length, nat_le, take, Option, Some, None, if◌then◌else◌}
use Rattle.std.specs.List.{flat_map}
use Rattle.page_text.specs.Parts.{Part}
use Rattle.participants.specs.ParticipantFile.{ParticipantFile}
use Rattle.surveillance.specs.declared.alarm.Alarm.{Alarm}
use Rattle.surveillance.specs.declared.alarm.Place.{Place}
use Rattle.surveillance.specs.Texts.{alarm_words}
use Rattle.alarm_sections.specs.declared.template.TheConstants.{ALARM, ALARMS, CELL_END, LIST_END, MORE_ALARMS, NO_ALARM, NO_ROW, SECTION_END, TABLE_OF_ALARMS}
use Rattle.day_sections.specs.Folds.{most_folded, whole_or_folded}
use Rattle.day_sections.specs.Values.{row_part}
use Rattle.day_tables.specs.Parts.{framed, plain_part}
use Rattle.day_tables.specs.Values.{grouped}

-- the row of an alarm; of what is counted over the day there is none
abbrev pub place_part : Bool → Option Place → Part
place_part linked None = plain_part NO_ROW.now
place_part linked (Some at) = row_part linked at.row

-- an alarm, in words
abbrev pub alarm_parts : ParticipantFile → Bool → Alarm → List Part
alarm_parts file linked a = record { template = ALARM.now; values = alarm_words file a ∷ [] } ∷ place_part linked a.at ∷ plain_part CELL_END.now ∷ []

abbrev pub count_part : List Alarm → Part
count_part all = record { template = ALARMS.now; values = grouped (length all) ∷ [] }

-- a table of some
abbrev pub table_parts : ParticipantFile → Bool → List Alarm → List Part
table_parts file linked all = framed (plain_part TABLE_OF_ALARMS.now) (flat_map (alarm_parts file linked) all) (plain_part LIST_END.now)

-- the end of the section: whether all are there, or how many more there are
abbrev pub more_part : ℕ → Part
more_part more = record { template = MORE_ALARMS.now; values = grouped more ∷ [] }

abbrev pub end_part : ℕ → Part
end_part n = if nat_le n most_folded then plain_part SECTION_END.now else more_part (n - most_folded)

abbrev pub some_alarms : ParticipantFile → Bool → List Alarm → List Part
some_alarms file linked all = framed (count_part all) (whole_or_folded (table_parts file linked) (take most_folded all)) (end_part (length all))

abbrev pub alarms_parts : ParticipantFile → Bool → List Alarm → List Part
alarms_parts file linked all = if length all == 0 then plain_part NO_ALARM.now ∷ [] else some_alarms file linked all
