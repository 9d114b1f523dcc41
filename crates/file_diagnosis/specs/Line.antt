-- The line on a cause, in words.
use Rattle.std.specs.Prelude.{◌≡◌, ◌⊎◌, ℕ, ◌-◌, Bool, not, ◌&&◌, ◌||◌, ◌==◌, nat_le, nat_lt, if◌then◌else◌, List, [], ◌++◌, length, get_or, Option, Some, None, codes, IsUtf8}
use Rattle.std.specs.List.{list_any}
use Rattle.std.specs.Fmt.{decimal, signed_decimal}
use Rattle.toml.specs.Data.{Data, Members, table, integer, get}
use Rattle.toml.specs.Parse.{parse_document}
use Rattle.config_format.specs.Document.{entries_in, text_at}
use Rattle.file_diagnosis.specs.declared.cause.Cause.{Cause}
use Rattle.file_diagnosis.specs.declared.cause.Key.{Key}
use Rattle.file_diagnosis.specs.declared.cause.Key.TheVariants as key
use Rattle.file_diagnosis.specs.declared.cause.Part.{Part}
use Rattle.file_diagnosis.specs.declared.cause.Part.TheVariants as part
use Rattle.file_diagnosis.specs.declared.cause.Wrong.{Wrong}
use Rattle.file_diagnosis.specs.declared.cause.Wrong.TheVariants as wrong
use Rattle.file_diagnosis.specs.Causes.{key_word, part_word}

-- a text of the file that is shown: 1 to 64 bytes, no ASCII control characters
abbrev pub is_control : ℕ → Bool
is_control b = nat_lt b 32 || b == 127

abbrev pub is_shown : List ℕ → Bool
is_shown t = nat_le 1 (length t) && (nat_le (length t) 64 && not (list_any is_control t))

abbrev pub shown : List ℕ → Option (List ℕ)
shown t = if is_shown t then Some t else None

abbrev pub or_nothing : Option (List ℕ) → List ℕ
or_nothing None = []
or_nothing (Some t) = t

-- the text at a key, as far as it is shown
abbrev pub shown_at : List ℕ → Data → List ℕ
shown_at k e = or_nothing (shown (text_at k e))

-- a value without the form of a name, behind its key
abbrev pub no_name : Option (List ℕ) → List ℕ
no_name None = codes " is not 1 to 64 printable ASCII characters without space or comma"
no_name (Some t) = codes " = \"" ++ (t ++ codes "\" is not 1 to 64 printable ASCII characters without space or comma")

abbrev pub range_of : Key → List ℕ
range_of key.Tick = codes "1 to 1,000,000,000,000"
range_of key.Least = codes "1 to 1,000,000,000,000,000"
range_of key.RequestLife = codes "1 to 86,400"
range_of key.Delay = codes "1,000 to 3,600,000"
range_of _ = []

abbrev pub out_of_range : Key → List ℕ → List ℕ
out_of_range k number = key_word k ++ (codes " = " ++ (number ++ (codes " is not a whole number from " ++ range_of k)))

abbrev pub not_whole : Key → List ℕ
not_whole k = key_word k ++ (codes " is not a whole number from " ++ range_of k)

abbrev pub no_number : Key → Option Data → List ℕ
no_number k (Some (integer z)) = out_of_range k (signed_decimal z)
no_number k _ = not_whole k

-- a name, a symbol or a pair of an entry before
abbrev pub same_pair : Data → List ℕ
same_pair e = shown_at (codes "a") e ++ (codes " and " ++ (shown_at (codes "b") e ++ codes ": an earlier entry has this pair"))

abbrev pub same_name : List ℕ → Data → List ℕ
same_name k e = k ++ (codes " = " ++ (shown_at k e ++ codes ": an earlier entry has it"))

abbrev pub repeat : Part → Data → List ℕ
repeat part.Related e = same_pair e
repeat part.Instruments e = same_name (codes "symbol") e
repeat _ e = same_name (codes "name") e

abbrev pub most_of : Part → ℕ
most_of part.Instruments = 256
most_of _ = 32

abbrev pub no_list : Part → List ℕ
no_list p = codes " is no list; each entry begins with [[" ++ (part_word p ++ codes "]]")

abbrev pub lacking : Key → List ℕ
lacking k = key_word k ++ codes " is missing"

abbrev pub same_names : Data → List ℕ
same_names e = codes "a and b are both " ++ shown_at (codes "a") e

abbrev pub of_venue : Data → List ℕ
of_venue e = codes "name = " ++ (shown_at (codes "name") e ++ codes " is the venue's")

abbrev pub unknown : Key → Data → List ℕ
unknown k e = key_word k ++ (codes " = " ++ (shown_at (key_word k) e ++ codes " is no participant"))

abbrev pub too_many : ℕ → ℕ → List ℕ
too_many count most = codes " has " ++ (decimal count ++ (codes " entries, at most " ++ (decimal most ++ codes " are allowed")))

-- the fault, in words, behind its part or its entry
abbrev pub fault_text : Data → Data → Part → Wrong → List ℕ
fault_text file e p wrong.Absent = codes " is missing"
fault_text file e p wrong.NoEntry = codes " has no entry"
fault_text file e p wrong.NoList = no_list p
fault_text file e p wrong.NoTable = codes "not a table"
fault_text file e p wrong.NoVenue = no_name (shown (text_at (codes "venue") file))
fault_text file e p (wrong.Lacks k) = lacking k
fault_text file e p (wrong.NoName k) = key_word k ++ no_name (shown (text_at (key_word k) e))
fault_text file e p (wrong.NoNumber k) = no_number k (get (key_word k) e)
fault_text file e p wrong.Same = same_names e
fault_text file e p wrong.OfVenue = of_venue e
fault_text file e p wrong.Twice = repeat p e
fault_text file e p (wrong.Unknown k) = unknown k e
fault_text file e p wrong.TooMany = too_many (length (entries_in (get (part_word p) file))) (most_of p)

-- the entry of a number, or the file where there is none
abbrev pub entry_at : Data → Part → Option ℕ → Data
entry_at file p None = file
entry_at file p (Some n) = get_or (entries_in (get (part_word p) file)) (n - 1) file

abbrev pub with_place : List ℕ → Option ℕ → List ℕ → List ℕ
with_place p None w = p ++ w
with_place p (Some n) w = p ++ (codes " " ++ (decimal n ++ (codes ": " ++ w)))

abbrev pub line_of : Data → Cause → List ℕ
line_of file c = with_place (part_word c.part) c.entry (fault_text file (entry_at file c.part c.entry) c.part c.wrong)

-- the line on a text: that on its cause, where it is a document
abbrev pub IsLineOn : (Data → Option Cause) → List ℕ → List ℕ → Type 0
IsLineOn causes text line = (IsUtf8 text → parse_document text ≡ None) ⊎ ((document : Members) × (c : Cause) × IsUtf8 text × (parse_document text ≡ Some document) × (causes (table document) ≡ Some c) × (line ≡ line_of (table document) c))
