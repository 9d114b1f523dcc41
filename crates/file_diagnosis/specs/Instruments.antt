-- The cause for which an instrument file is refused: the first one, in the order in which its reader searches.
use Rattle.std.specs.Prelude.{[], ◌∷◌, Option, is_none, codes}
use Rattle.toml.specs.Data.{Data, get}
use Rattle.config_format.specs.Document.{is_no_list, is_without_entry}
use Rattle.instruments.specs.Reading.{has_too_many}
use Rattle.file_diagnosis.specs.declared.cause.Cause.{Cause}
use Rattle.file_diagnosis.specs.declared.cause.Key.TheVariants as key
use Rattle.file_diagnosis.specs.declared.cause.Look.TheVariants as look
use Rattle.file_diagnosis.specs.declared.cause.Part.TheVariants.{Instruments}
use Rattle.file_diagnosis.specs.declared.cause.Wrong.TheVariants.{Absent, NoEntry, NoList, TooMany}
use Rattle.file_diagnosis.specs.Causes.{first_cause, first_in, when, whole}

-- a required key or the entries of the list are absent
abbrev pub missing_cause : Data → Option Cause
missing_cause file =
    first_cause
    (when (is_none (get (codes "instrument") file)) (whole Instruments Absent)
    ∷ when (is_without_entry (get (codes "instrument") file)) (whole Instruments NoEntry)
    ∷ first_in file Instruments (look.Lack key.Symbol)
    ∷ first_in file Instruments (look.Lack key.Tick)
    ∷ first_in file Instruments (look.Lack key.Least)
    ∷ first_in file Instruments (look.Lack key.RequestLife)
    ∷ [])

-- a stated value is invalid
abbrev pub value_cause : Data → Option Cause
value_cause file = first_cause (when (is_no_list (get (codes "instrument") file)) (whole Instruments NoList) ∷ first_in file Instruments look.BadInstrument ∷ [])

abbrev pub count_cause : Data → Option Cause
count_cause file = when (has_too_many file) (whole Instruments TooMany)

-- a symbol occurs twice
abbrev pub repeat_cause : Data → Option Cause
repeat_cause file = first_in file Instruments (look.Repeat key.Symbol)

abbrev pub instruments_cause : Data → Option Cause
instruments_cause file = first_cause (missing_cause file ∷ value_cause file ∷ count_cause file ∷ repeat_cause file ∷ [])
