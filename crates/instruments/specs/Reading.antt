use Rattle.std.specs.Prelude.{◌≡◌, ℕ, ◌^◌, Bool, true, false, not, ◌||◌, nat_lt, List, [], ◌∷◌, length, map, codes, Some, None, is_none, Result, Ok, Err, IsUtf8}
use Rattle.std.specs.List.{list_any}
use Rattle.toml.specs.Data.{Data, Members, table, as_table, get}
use Rattle.toml.specs.Parse.{parse_document}
use Rattle.instruments.specs.declared.fault.FileFault.{FileFault}
use Rattle.instruments.specs.declared.fault.FileFault.TheVariants.{NotToml, Missing, Twice, TooMany, BadValue, NoMemory}
use Rattle.instruments.specs.declared.instruments.Instrument.{Instrument}
use Rattle.instruments.specs.Rows.{are_distinct, most_instruments}
use Rattle.config_format.specs.Document.{entries_in, is_no_list, is_no_name, is_without_entry, lacks, text_at}
use Rattle.instruments.specs.Numbers.{is_no_number, number_at, number_or}

-- The content of an instrument file, as a TOML document.

abbrev pub instruments : Data → List Data
instruments file = entries_in (get (codes "instrument") file)

-- the delay between linked orders, in milliseconds, where the file states none (17 CFR 37.9(b)(1))
abbrev pub usual_delay : ℕ
usual_delay = 15000

-- the row of an entry; the delay may be absent (17 CFR 37.9(b)(2))
abbrev pub row_of : Data → Instrument
row_of entry = record { symbol = text_at (codes "symbol") entry; tick = number_at (codes "tick") entry; least = number_at (codes "least") entry; request_life = number_at (codes "rfq_life") entry; delay = number_or usual_delay (codes "delay_ms") entry }

abbrev pub rows : Data → List Instrument
rows file = map row_of (instruments file)

-- the faults, in the order of the search over the whole file

-- a required key or the entries of the list are absent
abbrev pub is_missing : Data → Bool
is_missing file =
    is_none (get (codes "instrument") file)
    || (is_without_entry (get (codes "instrument") file)
    || (list_any (lacks (codes "symbol")) (instruments file)
    || (list_any (lacks (codes "tick")) (instruments file)
    || (list_any (lacks (codes "least")) (instruments file)
    || list_any (lacks (codes "rfq_life")) (instruments file)))))

-- an entry that is not a table, or has an invalid value
abbrev pub is_bad_instrument : Data → Bool
is_bad_instrument entry =
    is_none (as_table entry)
    || (is_no_name (get (codes "symbol") entry)
    || (is_no_number 1 (10 ^ 12) (get (codes "tick") entry)
    || (is_no_number 1 (10 ^ 15) (get (codes "least") entry)
    || (is_no_number 1 86400 (get (codes "rfq_life") entry)
    || is_no_number 1000 3600000 (get (codes "delay_ms") entry)))))

-- a stated value is invalid
abbrev pub has_bad_value : Data → Bool
has_bad_value file = is_no_list (get (codes "instrument") file) || list_any is_bad_instrument (instruments file)

abbrev pub has_too_many : Data → Bool
has_too_many file = nat_lt most_instruments (length (instruments file))

-- the first fault that holds, else the content
abbrev pub first_fault : List (Bool × FileFault) → Result (List Instrument) FileFault → Result (List Instrument) FileFault
first_fault [] read = read
first_fault (f ∷ fs) read = elim f.0 [ true ↦ Err f.1 | false ↦ first_fault fs read ]

-- these rows, if no symbol occurs twice
abbrev pub rows_of : List Instrument → Result (List Instrument) FileFault
rows_of xs = first_fault ((not (are_distinct xs), Twice) ∷ []) (Ok xs)

-- the reading of a document: its faults are searched in this order
abbrev pub read_of : Data → Result (List Instrument) FileFault
read_of file = first_fault ((is_missing file, Missing) ∷ (has_bad_value file, BadValue) ∷ (has_too_many file, TooMany) ∷ []) (rows_of (rows file))

-- the text is UTF-8 and a TOML document with this reading
abbrev pub Reads : List ℕ → Result (List Instrument) FileFault → Type 0
Reads text r = (document : Members) × IsUtf8 text × (parse_document text ≡ Some document) × (read_of (table document) ≡ r)

-- the reading is this fault; `NotToml` is no fault of a document, and `NoMemory` says nothing of it
abbrev pub Refuses : Result (List Instrument) FileFault → FileFault → Type 0
Refuses read NotToml = ⊥
Refuses read NoMemory = Unit {0}
Refuses read Missing = read ≡ Err Missing
Refuses read Twice = read ≡ Err Twice
Refuses read TooMany = read ≡ Err TooMany
Refuses read BadValue = read ≡ Err BadValue

-- the same of a text
abbrev pub IsFaultOf : List ℕ → FileFault → Type 0
IsFaultOf text NotToml = IsUtf8 text → parse_document text ≡ None
IsFaultOf text NoMemory = Unit {0}
IsFaultOf text Missing = Reads text (Err Missing)
IsFaultOf text Twice = Reads text (Err Twice)
IsFaultOf text TooMany = Reads text (Err TooMany)
IsFaultOf text BadValue = Reads text (Err BadValue)
