-- The cause for which a participant file is refused: the first one, in the order in which its reader searches.
use Rattle.std.specs.Prelude.{[], ◌∷◌, Option, is_none, codes}
use Rattle.toml.specs.Data.{Data, get}
use Rattle.config_format.specs.Document.{is_no_list, is_no_name, is_without_entry}
use Rattle.participants.specs.Reading.{has_too_many}
use Rattle.file_diagnosis.specs.declared.cause.Cause.{Cause}
use Rattle.file_diagnosis.specs.declared.cause.Key.TheVariants as key
use Rattle.file_diagnosis.specs.declared.cause.Look.TheVariants as look
use Rattle.file_diagnosis.specs.declared.cause.Part.TheVariants as part
use Rattle.file_diagnosis.specs.declared.cause.Wrong.TheVariants as wrong
use Rattle.file_diagnosis.specs.Causes.{first_cause, first_in, when, whole}

-- a required key or the entries of a list are absent
abbrev pub missing_cause : Data → Option Cause
missing_cause file =
    first_cause
    (when (is_none (get (codes "venue") file)) (whole part.Venue wrong.Absent)
    ∷ when (is_none (get (codes "participant") file)) (whole part.Participants wrong.Absent)
    ∷ when (is_without_entry (get (codes "participant") file)) (whole part.Participants wrong.NoEntry)
    ∷ first_in file part.Participants (look.Lack key.Name)
    ∷ when (is_without_entry (get (codes "related") file)) (whole part.Related wrong.NoEntry)
    ∷ first_in file part.Related (look.Lack key.A)
    ∷ first_in file part.Related (look.Lack key.B)
    ∷ [])

-- a stated value is invalid
abbrev pub value_cause : Data → Option Cause
value_cause file =
    first_cause
    (when (is_no_name (get (codes "venue") file)) (whole part.Venue wrong.NoVenue)
    ∷ when (is_no_list (get (codes "participant") file)) (whole part.Participants wrong.NoList)
    ∷ first_in file part.Participants look.BadParticipant
    ∷ when (is_no_list (get (codes "related") file)) (whole part.Related wrong.NoList)
    ∷ first_in file part.Related look.BadPair
    ∷ [])

abbrev pub count_cause : Data → Option Cause
count_cause file = when (has_too_many file) (whole part.Participants wrong.TooMany)

-- a name or a pair occurs twice
abbrev pub repeat_cause : Data → Option Cause
repeat_cause file = first_cause (first_in file part.Participants look.VenueName ∷ first_in file part.Participants (look.Repeat key.Name) ∷ first_in file part.Related look.RepeatedPair ∷ [])

abbrev pub unknown_cause : Data → Option Cause
unknown_cause file = first_in file part.Related look.UnknownName

abbrev pub participants_cause : Data → Option Cause
participants_cause file = first_cause (missing_cause file ∷ value_cause file ∷ count_cause file ∷ repeat_cause file ∷ unknown_cause file ∷ [])
