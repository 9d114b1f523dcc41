-- The faults of parts and entries, and the first entry with one.
use Rattle.std.specs.Prelude.{ℕ, ◌+◌, ◌^◌, Bool, true, false, not, List, [], ◌∷◌, ◌++◌, length, Option, Some, None, is_none, codes, bytes_eq}
use Rattle.std.specs.List.{list_any}
use Rattle.toml.specs.Data.{Data, as_table, get}
use Rattle.config_format.specs.Document.{entries_in, is_no_name, lacks, text_at}
use Rattle.participants.specs.Reading.{is_known, is_same_named, named, names, venue_name}
use Rattle.instruments.specs.Numbers.{is_no_number}
use Rattle.file_diagnosis.specs.declared.cause.Cause.{Cause}
use Rattle.file_diagnosis.specs.declared.cause.Key.{Key}
use Rattle.file_diagnosis.specs.declared.cause.Key.TheVariants as key
use Rattle.file_diagnosis.specs.declared.cause.Look.{Look}
use Rattle.file_diagnosis.specs.declared.cause.Look.TheVariants as look
use Rattle.file_diagnosis.specs.declared.cause.Part.{Part}
use Rattle.file_diagnosis.specs.declared.cause.Part.TheVariants as part
use Rattle.file_diagnosis.specs.declared.cause.Wrong.{Wrong}
use Rattle.file_diagnosis.specs.declared.cause.Wrong.TheVariants as wrong

-- the key of a part at the top of a file
abbrev pub part_word : Part → List ℕ
part_word part.Venue = codes "venue"
part_word part.Participants = codes "participant"
part_word part.Related = codes "related"
part_word part.Instruments = codes "instrument"

-- the key of a value in an entry
abbrev pub key_word : Key → List ℕ
key_word key.Name = codes "name"
key_word key.A = codes "a"
key_word key.B = codes "b"
key_word key.Symbol = codes "symbol"
key_word key.Tick = codes "tick"
key_word key.Least = codes "least"
key_word key.RequestLife = codes "rfq_life"
key_word key.Delay = codes "delay_ms"

-- the fault of a part as a whole, and that of its entry of this number
abbrev pub whole : Part → Wrong → Cause
whole p w = record { part = p; entry = None; wrong = w }

abbrev pub at : Part → ℕ → Wrong → Cause
at p k w = record { part = p; entry = Some k; wrong = w }

-- the first of these faults that holds
abbrev pub first_wrong : List (Bool × Wrong) → Option Wrong
first_wrong [] = None
first_wrong (t ∷ ts) = elim t.0 [ true ↦ Some t.1 | false ↦ first_wrong ts ]

abbrev pub lack_in : Key → Data → Option Wrong
lack_in k e = first_wrong ((lacks (key_word k) e, wrong.Lacks k) ∷ [])

abbrev pub wrong_participant : Data → Option Wrong
wrong_participant e = first_wrong ((is_none (as_table e), wrong.NoTable) ∷ (is_no_name (get (codes "name") e), wrong.NoName key.Name) ∷ [])

abbrev pub wrong_pair : Data → Option Wrong
wrong_pair e =
    first_wrong
    ((is_none (as_table e), wrong.NoTable)
    ∷ (is_no_name (get (codes "a") e), wrong.NoName key.A)
    ∷ (is_no_name (get (codes "b") e), wrong.NoName key.B)
    ∷ (bytes_eq (named e).0 (named e).1, wrong.Same)
    ∷ [])

abbrev pub wrong_instrument : Data → Option Wrong
wrong_instrument e =
    first_wrong
    ((is_none (as_table e), wrong.NoTable)
    ∷ (is_no_name (get (codes "symbol") e), wrong.NoName key.Symbol)
    ∷ (is_no_number 1 (10 ^ 12) (get (codes "tick") e), wrong.NoNumber key.Tick)
    ∷ (is_no_number 1 (10 ^ 15) (get (codes "least") e), wrong.NoNumber key.Least)
    ∷ (is_no_number 1 86400 (get (codes "rfq_life") e), wrong.NoNumber key.RequestLife)
    ∷ (is_no_number 1000 3600000 (get (codes "delay_ms") e), wrong.NoNumber key.Delay)
    ∷ [])

abbrev pub venue_name_in : Data → Data → Option Wrong
venue_name_in file e = first_wrong ((bytes_eq (venue_name file) (text_at (codes "name") e), wrong.OfVenue) ∷ [])

-- a text that an entry before has, and a pair of the same names, in either order
abbrev pub repeat_in : Key → List Data → Data → Option Wrong
repeat_in k before e = first_wrong ((list_any (λ d. bytes_eq (text_at (key_word k) d) (text_at (key_word k) e)) before, wrong.Twice) ∷ [])

abbrev pub repeated_pair : List Data → Data → Option Wrong
repeated_pair before e = first_wrong ((list_any (λ d. is_same_named (named d) (named e)) before, wrong.Twice) ∷ [])

-- a name of a pair that no participant has
abbrev pub unknown_in : Data → Data → Option Wrong
unknown_in file e = first_wrong ((not (is_known (names file) (named e).0), wrong.Unknown key.A) ∷ (not (is_known (names file) (named e).1), wrong.Unknown key.B) ∷ [])

-- the fault of an entry that is searched for, where `before` has the entries before it
abbrev pub wrong_in : Data → Look → List Data → Data → Option Wrong
wrong_in file (look.Lack k) before e = lack_in k e
wrong_in file look.BadParticipant before e = wrong_participant e
wrong_in file look.BadPair before e = wrong_pair e
wrong_in file look.BadInstrument before e = wrong_instrument e
wrong_in file look.VenueName before e = venue_name_in file e
wrong_in file (look.Repeat k) before e = repeat_in k before e
wrong_in file look.RepeatedPair before e = repeated_pair before e
wrong_in file look.UnknownName before e = unknown_in file e

-- the fault of this entry, else a later one
abbrev pub or_later : Part → ℕ → Option Wrong → Option Cause → Option Cause
or_later p k None later = later
or_later p k (Some w) later = Some (at p k w)

-- the first entry with a fault
abbrev pub first_from : Data → Part → Look → List Data → List Data → Option Cause
first_from file p l before [] = None
first_from file p l before (e ∷ es) = or_later p (length before + 1) (wrong_in file l before e) (first_from file p l (before ++ (e ∷ [])) es)

abbrev pub first_in : Data → Part → Look → Option Cause
first_in file p l = first_from file p l [] (entries_in (get (part_word p) file))

-- a fault of a part as a whole, if it has it
abbrev pub when : Bool → Cause → Option Cause
when true c = Some c
when false c = None

-- the first of these causes
abbrev pub first_cause : List (Option Cause) → Option Cause
first_cause [] = None
first_cause (None ∷ cs) = first_cause cs
first_cause (Some c ∷ cs) = Some c
