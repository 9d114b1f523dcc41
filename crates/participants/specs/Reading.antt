use Rattle.std.specs.Prelude.{◌≡◌, ℕ, Bool, true, false, not, ◌&&◌, ◌||◌, nat_lt, List, [], ◌∷◌, length, map, codes, Some, None, is_none, Result, Ok, Err, IsUtf8, bytes_eq}
use Rattle.std.specs.List.{list_any, position_or_len}
use Rattle.toml.specs.Data.{Data, Members, table, as_table, get}
use Rattle.toml.specs.Parse.{parse_document}
use Rattle.participants.specs.declared.fault.FileFault.{FileFault}
use Rattle.participants.specs.declared.fault.FileFault.TheVariants.{NotToml, Missing, Twice, UnknownName, TooMany, BadValue, NoMemory}
use Rattle.participants.specs.ParticipantFile.{ParticipantFile}
use Rattle.participants.specs.Rows.{are_distinct, most_participants}
use Rattle.config_format.specs.Rows.{are_distinct_by}
use Rattle.config_format.specs.Document.{entries_in, is_no_list, is_no_name, is_without_entry, lacks, text_at}

-- The content of a participant file, as a TOML document.

abbrev pub participants : Data → List Data
participants file = entries_in (get (codes "participant") file)

abbrev pub related_pairs : Data → List Data
related_pairs file = entries_in (get (codes "related") file)

abbrev pub venue_name : Data → List ℕ
venue_name file = text_at (codes "venue") file

abbrev pub names : Data → List (List ℕ)
names file = map (text_at (codes "name")) (participants file)

-- the two names of a pair
abbrev pub named : Data → List ℕ × List ℕ
named pair = (text_at (codes "a") pair, text_at (codes "b") pair)

abbrev pub named_pairs : Data → List (List ℕ × List ℕ)
named_pairs file = map named (related_pairs file)

-- the faults, in the order of the search over the whole file

-- a required key or the entries of a list are absent
abbrev pub is_missing : Data → Bool
is_missing file =
    is_none (get (codes "venue") file)
    || (is_none (get (codes "participant") file)
    || (is_without_entry (get (codes "participant") file)
    || (list_any (lacks (codes "name")) (participants file)
    || (is_without_entry (get (codes "related") file)
    || (list_any (lacks (codes "a")) (related_pairs file)
    || list_any (lacks (codes "b")) (related_pairs file))))))

-- an entry of `participant` that is not a table, or has an invalid name
abbrev pub is_bad_participant : Data → Bool
is_bad_participant entry = is_none (as_table entry) || is_no_name (get (codes "name") entry)

-- an entry of `related` that is not a table, has an invalid name, or names one participant twice
abbrev pub is_bad_pair : Data → Bool
is_bad_pair entry = is_none (as_table entry) || (is_no_name (get (codes "a") entry) || (is_no_name (get (codes "b") entry) || bytes_eq (named entry).0 (named entry).1))

-- a stated value is invalid
abbrev pub has_bad_value : Data → Bool
has_bad_value file =
    is_no_name (get (codes "venue") file)
    || (is_no_list (get (codes "participant") file)
    || (list_any is_bad_participant (participants file)
    || (is_no_list (get (codes "related") file)
    || list_any is_bad_pair (related_pairs file))))

abbrev pub has_too_many : Data → Bool
has_too_many file = nat_lt most_participants (length (participants file))

-- a pair of two different names
abbrev pub is_apart : List ℕ × List ℕ → Bool
is_apart p = not (bytes_eq p.0 p.1)

-- the same two names, in either order
abbrev pub is_same_named : List ℕ × List ℕ → List ℕ × List ℕ → Bool
is_same_named p q = (bytes_eq p.0 q.0 && bytes_eq p.1 q.1) || (bytes_eq p.0 q.1 && bytes_eq p.1 q.0)

abbrev pub are_distinct_named : List (List ℕ × List ℕ) → Bool
are_distinct_named ps = are_distinct_by is_same_named ps

-- a name occurs twice, the venue's included, or a pair does, in either order
abbrev pub has_twice : List ℕ → List (List ℕ) → List (List ℕ × List ℕ) → Bool
has_twice venue ns pairs = not (are_distinct (venue ∷ ns)) || not (are_distinct_named pairs)

abbrev pub is_known : List (List ℕ) → List ℕ → Bool
is_known ns name = list_any (bytes_eq name) ns

-- a pair names an unknown participant
abbrev pub has_unknown : List (List ℕ) → List ℕ × List ℕ → Bool
has_unknown ns p = not (is_known ns p.0 && is_known ns p.1)

-- the first fault that holds, else the content
abbrev pub first_fault : List (Bool × FileFault) → Result ParticipantFile FileFault → Result ParticipantFile FileFault
first_fault [] read = read
first_fault (f ∷ fs) read = elim f.0 [ true ↦ Err f.1 | false ↦ first_fault fs read ]

-- the places of a pair's names
abbrev pub places : List (List ℕ) → List ℕ × List ℕ → ℕ × ℕ
places ns p = (position_or_len (bytes_eq p.0) ns, position_or_len (bytes_eq p.1) ns)

-- the rows of these names and pairs, if none of the last faults holds
abbrev pub rows_of : List ℕ → List (List ℕ) → List (List ℕ × List ℕ) → Result ParticipantFile FileFault
rows_of venue ns pairs =
    first_fault ((has_twice venue ns pairs, Twice) ∷ (list_any (has_unknown ns) pairs, UnknownName) ∷ []) (Ok (record { venue = venue; names = ns; pairs = map (places ns) pairs }))

-- the reading of a document: its faults are searched in this order
abbrev pub read_of : Data → Result ParticipantFile FileFault
read_of file =
    first_fault ((is_missing file, Missing) ∷ (has_bad_value file, BadValue) ∷ (has_too_many file, TooMany) ∷ []) (rows_of (venue_name file) (names file) (named_pairs file))

-- the text is UTF-8 and a TOML document with this reading
abbrev pub Reads : List ℕ → Result ParticipantFile FileFault → Type 0
Reads text r = (document : Members) × IsUtf8 text × (parse_document text ≡ Some document) × (read_of (table document) ≡ r)

-- the reading is this fault; `NotToml` is no fault of a document, and `NoMemory` says nothing of it
abbrev pub Refuses : Result ParticipantFile FileFault → FileFault → Type 0
Refuses read NotToml = ⊥
Refuses read NoMemory = Unit {0}
Refuses read Missing = read ≡ Err Missing
Refuses read Twice = read ≡ Err Twice
Refuses read UnknownName = read ≡ Err UnknownName
Refuses read TooMany = read ≡ Err TooMany
Refuses read BadValue = read ≡ Err BadValue

-- the same of a text
abbrev pub IsFaultOf : List ℕ → FileFault → Type 0
IsFaultOf text NotToml = IsUtf8 text → parse_document text ≡ None
IsFaultOf text NoMemory = Unit {0}
IsFaultOf text Missing = Reads text (Err Missing)
IsFaultOf text Twice = Reads text (Err Twice)
IsFaultOf text UnknownName = Reads text (Err UnknownName)
IsFaultOf text TooMany = Reads text (Err TooMany)
IsFaultOf text BadValue = Reads text (Err BadValue)
