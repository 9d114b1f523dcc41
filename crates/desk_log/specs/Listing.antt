-- What is printed of the messages that are owed and are not in a log, in order: each with its place among those that
-- are owed, the row at whose answer it came to be owed, ExecID (17) of a report, what it is, and its text.
--
--       owed and not in the log in order: 3 of 412
--           14 of 412, row 37, E90, an execution report on O3: 35=8|37=O3|17=E90|..
--           15 of 412, row 39, a quote request, R7: 35=R|131=R7|..
--           20 of 412, row 44, E95, an execution report on O5, in the log out of order, as number 9 of era 1, line ..
--
--   or, where the log differs otherwise,
--       each of the 412 messages owed is in the log, in order
use Rattle.std.specs.Prelude.{ℕ, ◌+◌, ◌==◌, List, [], ◌∷◌, ◌++◌, length, slice_get, Option, Some, None, if◌then◌else◌, decimal, codes}
use Rattle.std.specs.List.{flat_map}
use Rattle.desk_log.specs.declared.comparing.Comparison.{Comparison}
use Rattle.desk_log.specs.declared.comparing.Comparison.TheVariants.{All, FirstPart, Differs}
use Rattle.desk_log.specs.declared.owed.Owed.{Owed}
use Rattle.desk_log.specs.Absent.{absent_in, first_left, left_in}
use Rattle.desk_log.specs.Frames.{line_of}
use Rattle.desk_log.specs.Naming.{field, kind_words, named_of}
use Rattle.desk_log.specs.Numbered.{Logged}
use Rattle.desk_log.specs.Parts.{joined}
use Rattle.message_words.specs.Visible.{readable}

-- what a message is
abbrev pub what_said : List ℕ → List ℕ
what_said text = kind_words (field (codes "35=") text) ++ readable (named_of (field (codes "35=") text) text)

-- ExecID (17), where it has one
abbrev pub report_of : List ℕ → List ℕ
report_of [] = []
report_of (b ∷ bs) = codes ", " ++ readable (b ∷ bs)

abbrev pub report_said : List ℕ → List ℕ
report_said text = report_of (field (codes "17=") text)

-- where the log has its text, if it has it elsewhere
abbrev pub elsewhere_said : List ℕ → Option Logged → List ℕ
elsewhere_said log None = []
elsewhere_said log (Some l) =
    joined (codes ", in the log out of order, as number " ∷ decimal l.0.number ∷ codes " of era " ∷ decimal l.0.era ∷ codes ", line " ∷ decimal (line_of l.1.start log) ∷ [])

abbrev pub owed_with : (number many row : ℕ) → (report what elsewhere text : List ℕ) → List ℕ
owed_with number many row report what elsewhere text =
    joined (codes "    " ∷ decimal number ∷ codes " of " ∷ decimal many ∷ codes ", row " ∷ decimal row ∷ report ∷ codes ", " ∷ what ∷ elsewhere ∷ codes ": " ∷ text ∷ codes "\n" ∷ [])

abbrev pub owed_said : List ℕ → (at many : ℕ) → Owed → Option Logged → List ℕ
owed_said log at many o l = owed_with (at + 1) many o.row (report_said o.text.items) (what_said o.text.items) (elsewhere_said log l) (readable o.text.items)

abbrev pub absent_by : List ℕ → (many at : ℕ) → List Logged → Option Owed → List ℕ
absent_by log many at ls None = []
absent_by log many at ls (Some o) = owed_said log at many o (first_left log ls o)

abbrev pub absent_line : List ℕ → List Owed → List Logged → ℕ → List ℕ
absent_line log os ls at = absent_by log (length os) at ls (slice_get os at)

abbrev pub absent_head : (absent many : ℕ) → List ℕ
absent_head absent many = joined (codes "owed and not in the log in order: " ∷ decimal absent ∷ codes " of " ∷ decimal many ∷ codes "\n" ∷ [])

abbrev pub none_absent : ℕ → List ℕ
none_absent many =
    if many == 0 then [] else
    (if many == 1 then codes "the one message owed is in the log\n" else joined (codes "each of the " ∷ decimal many ∷ codes " messages owed is in the log, in order\n" ∷ []))

abbrev pub listed : List ℕ → List Owed → List Logged → List ℕ → List ℕ
listed log os ls places = if length places == 0 then none_absent (length os) else absent_head (length places) (length os) ++ flat_map (absent_line log os ls) places

-- where the log does not agree
abbrev pub listing : Comparison → List ℕ → List Logged → List Owed → List ℕ
listing All log once os = []
listing FirstPart log once os = listed log os (left_in log once os) (absent_in log once os)
listing Differs log once os = listed log os (left_in log once os) (absent_in log once os)
