-- What is printed of a comparison:
--
--       the log has all 412 messages that BETA was owed, in order
--
--   or
--       the log has the first 400 of the 412 messages that BETA was owed, in order;
--         the last 12 are not in the log (rows 870 to 880)
--           messages 403 to 414 are missing; the log goes on with message 415
--
--   or
--       the log has the first 13 of the 412 messages that BETA was owed, in order; then the log differs
--           message 15 (an execution report on O3) is missing; the log goes on with message 16
--           owed at row 37: 35=8|37=O3|..
--           in the log, number 16 of era 1, line 30: 35=8|37=O4|..
--
--   or, where two messages of one number have different texts,
--       the log has two texts of number 14 of era 1
--           line 30: 35=8|37=O4|..
--           line 52: 35=8|37=O5|..
--
--   and below it what was read:
--       in the log: 811 frames, 431 of them from SEF to BETA; 412 application messages,
--         409 without the repeats; 12034 bytes in no frame
--       line 17 of the log begins as a frame and is none: CheckSum (10) is wrong
use Rattle.std.specs.Prelude.{ℕ, ◌-◌, ◌==◌, ◌&&◌, Bool, true, false, List, [], ◌∷◌, ◌++◌, length, drop, slice_get, Option, Some, None, if◌then◌else◌, decimal, codes}
use Rattle.desk_log.specs.declared.comparing.Compared.{Compared}
use Rattle.desk_log.specs.declared.comparing.Comparison.{Comparison}
use Rattle.desk_log.specs.declared.comparing.Comparison.TheVariants.{All, FirstPart, Differs}
use Rattle.desk_log.specs.declared.frames.BrokenFrame.{BrokenFrame}
use Rattle.desk_log.specs.declared.frames.FrameFault.{FrameFault}
use Rattle.desk_log.specs.declared.frames.FrameFault.TheVariants.{Length, Checksum}
use Rattle.desk_log.specs.declared.frames.Span.{Span}
use Rattle.desk_log.specs.declared.missing.Missing.{Missing}
use Rattle.desk_log.specs.declared.numbered.Numbered.{Numbered}
use Rattle.desk_log.specs.declared.numbered.Place.{Place}
use Rattle.desk_log.specs.declared.once.Conflict.{Conflict}
use Rattle.desk_log.specs.declared.owed.Owed.{Owed}
use Rattle.desk_log.specs.declared.reading.Reading.{Reading}
use Rattle.desk_log.specs.Frames.{line_of}
use Rattle.desk_log.specs.Comparing.{is_owed}
use Rattle.desk_log.specs.Listing.{listing}
use Rattle.desk_log.specs.Missing.{gaps_between, is_era, place_from}
use Rattle.desk_log.specs.Naming.{field, kind_words, named_of}
use Rattle.desk_log.specs.Numbered.{Logged, text_at}
use Rattle.desk_log.specs.Parts.{joined}
use Rattle.message_words.specs.Visible.{readable}

-- what was owed and received, or only the first part of it

abbrev pub all_received : ℕ → List ℕ → List ℕ
all_received n desk =
    if n == 0 then joined (desk ∷ codes " was owed no message, and the log has none\n" ∷ []) else
    (if n == 1 then joined (codes "the log has the one message that " ∷ desk ∷ codes " was owed\n" ∷ []) else
    joined (codes "the log has all " ∷ decimal n ∷ codes " messages that " ∷ desk ∷ codes " was owed, in order\n" ∷ []))

abbrev pub first_received : (count n : ℕ) → List ℕ → List ℕ
first_received count n desk =
    if count == 1 then joined (codes "the log has the first of the " ∷ decimal n ∷ codes " messages that " ∷ desk ∷ codes " was owed; " ∷ []) else
    joined (codes "the log has the first " ∷ decimal count ∷ codes " of the " ∷ decimal n ∷ codes " messages that " ∷ desk ∷ codes " was owed, in order; " ∷ [])

abbrev pub row_of : Option Owed → ℕ
row_of None = 0
row_of (Some o) = o.row

abbrev pub rows_said : (first last : ℕ) → List ℕ
rows_said first last =
    if first == last then joined (codes " (row " ∷ decimal first ∷ codes ")\n" ∷ []) else
    joined (codes " (rows " ∷ decimal first ∷ codes " to " ∷ decimal last ∷ codes ")\n" ∷ [])

abbrev pub none_received : ℕ → List ℕ → List ℕ
none_received n desk =
    if n == 1 then joined (codes "the one message that " ∷ desk ∷ codes " was owed is not in the log" ∷ []) else
    joined (codes "none of the " ∷ decimal n ∷ codes " messages that " ∷ desk ∷ codes " was owed is in the log" ∷ [])

abbrev pub last_missing : ℕ → List ℕ
last_missing missing =
    if missing == 1 then codes "the last is not in the log" else
    joined (codes "the last " ∷ decimal missing ∷ codes " are not in the log" ∷ [])

abbrev pub part_head : (count n : ℕ) → List ℕ → List ℕ
part_head count n desk = if count == 0 then none_received n desk else first_received count n desk ++ last_missing (n - count)

abbrev pub differs_head : (count n : ℕ) → List ℕ → List ℕ
differs_head count n desk =
    if n == 0 then joined (desk ∷ codes " was owed no message, and the log has some\n" ∷ []) else
    (if count == 0 then joined (codes "the log differs at the first of the " ∷ decimal n ∷ codes " messages that " ∷ desk ∷ codes " was owed\n" ∷ []) else
    first_received count n desk ++ codes "then the log differs\n")

-- Numbers that no frame of the log has, between the messages that agree and what comes then, gap by gap. Where the log
-- goes on in the same era with the message that is owed just as many further as all of them are, these numbers are
-- those of the messages that are owed in between, in their order.

abbrev pub before_at : List Logged → ℕ → Option Logged
before_at once count = if count == 0 then None else slice_get once (count - 1)

abbrev pub gaps_at : List Numbered → List Logged → ℕ → List Missing
gaps_at frames once count = gaps_between frames (before_at once count) (slice_get once count)

abbrev pub many_in : Missing → ℕ
many_in m = m.next - m.first

-- what is owed behind as many messages as are missing
abbrev pub owed_behind : List Missing → List Owed → List Owed
owed_behind [] rest = rest
owed_behind (m ∷ ms) rest = owed_behind ms (drop (many_in m) rest)

abbrev pub goes_on : List ℕ → Option Logged → Option Owed → Bool
goes_on log None o = false
goes_on log (Some l) None = false
goes_on log (Some l) (Some o) = is_owed log l.1 o

abbrev pub are_owed : List ℕ → (earlier later : Option Logged) → List Missing → List Owed → Bool
are_owed log earlier later gaps rest = is_era (place_from earlier).era later && goes_on log later (slice_get (owed_behind gaps rest) 0)

abbrev pub words_with : (words named : List ℕ) → List ℕ
words_with words named = joined (words ∷ named ∷ codes ")" ∷ [])

abbrev pub in_words : List ℕ → List ℕ
in_words text = words_with (kind_words (field (codes "35=") text)) (readable (named_of (field (codes "35=") text) text))

abbrev pub described : (owed several : Bool) → Option Owed → List ℕ
described false several o = []
described true several None = []
described true several (Some o) = (if several then codes " (the first: " else codes " (") ++ in_words o.text.items

abbrev pub missing_one : Missing → List ℕ → List ℕ
missing_one m what = joined (codes "    message " ∷ decimal m.first ∷ what ∷ codes " is missing; the log goes on with message " ∷ decimal m.next ∷ codes "\n" ∷ [])

abbrev pub missing_many : Missing → (last : ℕ) → List ℕ → List ℕ
missing_many m last what =
    joined (codes "    messages " ∷ decimal m.first ∷ codes " to " ∷ decimal last ∷ what ∷ codes " are missing; the log goes on with message " ∷ decimal m.next ∷ codes "\n" ∷ [])

-- by how many there are, with the first message that is owed in their place
abbrev pub missing_line : (owed : Bool) → Missing → Option Owed → List ℕ
missing_line owed m o =
    if many_in m == 1 then missing_one m (described owed false o) else missing_many m (m.next - 1) (described owed true o)

abbrev pub missing_lines : (owed : Bool) → List Missing → List Owed → List ℕ
missing_lines owed [] rest = []
missing_lines owed (m ∷ ms) rest = missing_line owed m (slice_get rest 0) ++ missing_lines owed ms (drop (many_in m) rest)

abbrev pub owed_row : Owed → List ℕ
owed_row o = joined (codes "    owed at row " ∷ decimal o.row ∷ codes ": " ∷ readable o.text.items ∷ codes "\n" ∷ [])

abbrev pub owed_line : Option Owed → List ℕ
owed_line None = codes "    owed: nothing more\n"
owed_line (Some o) = owed_row o

abbrev pub logged_line : List ℕ → Logged → List ℕ
logged_line log l = joined (codes "    in the log, number " ∷ decimal l.0.number ∷ codes " of era " ∷ decimal l.0.era ∷ codes ", line " ∷ decimal (line_of l.1.start log) ∷ codes ": " ∷ readable (text_at log l.1) ∷ codes "\n" ∷ [])

abbrev pub logged_if_line : List ℕ → Option Logged → List ℕ
logged_if_line log None = []
logged_if_line log (Some l) = logged_line log l

abbrev pub text_line : List ℕ → Span → List ℕ
text_line log s = joined (codes "    line " ∷ decimal (line_of s.start log) ∷ codes ": " ∷ readable (text_at log s) ∷ codes "\n" ∷ [])

abbrev pub conflict_head : Place → List ℕ
conflict_head p = joined (codes "the log has two texts of number " ∷ decimal p.number ∷ codes " of era " ∷ decimal p.era ∷ codes "\n" ∷ [])

abbrev pub conflict_lines : List ℕ → Conflict → List ℕ
conflict_lines log c = conflict_head c.place ++ (text_line log c.first ++ text_line log c.second)

abbrev pub gaps_said : (earlier later : Option Logged) → List ℕ → List Missing → List Owed → List ℕ
gaps_said earlier later log gaps rest = missing_lines (are_owed log earlier later gaps rest) gaps rest

abbrev pub gap_lines : (count : ℕ) → (log : List ℕ) → List Owed → List Numbered → List Logged → List ℕ
gap_lines count log owed frames once = gaps_said (before_at once count) (slice_get once count) log (gaps_at frames once count) (drop count owed)

abbrev pub differs_lines : (count : ℕ) → (log desk : List ℕ) → List Owed → List Numbered → List Logged → List ℕ
differs_lines count log desk owed frames once =
    differs_head count (length owed) desk ++ (gap_lines count log owed frames once ++ (owed_line (slice_get owed count) ++ logged_if_line log (slice_get once count)))

abbrev pub part_rows : (count : ℕ) → List Owed → List ℕ
part_rows count owed = rows_said (row_of (slice_get owed count)) (row_of (slice_get owed (length owed - 1)))

abbrev pub part_lines : (count : ℕ) → (log desk : List ℕ) → List Owed → List Numbered → List Logged → List ℕ
part_lines count log desk owed frames once = part_head count (length owed) desk ++ (part_rows count owed ++ gap_lines count log owed frames once)

-- what the comparison says
abbrev pub said : Comparison → Option Conflict → (count : ℕ) → (log desk : List ℕ) → List Owed → List Numbered → List Logged → List ℕ
said All conflict count log desk owed frames once = all_received (length owed) desk
said FirstPart conflict count log desk owed frames once = part_lines count log desk owed frames once
said Differs None count log desk owed frames once = differs_lines count log desk owed frames once
said Differs (Some c) count log desk owed frames once = conflict_lines log c

-- what was read

abbrev pub fault_words : FrameFault → List ℕ
fault_words Length = codes " of the log begins as a frame and is none: BodyLength (9) is wrong\n"
fault_words Checksum = codes " of the log begins as a frame and is none: CheckSum (10) is wrong\n"

abbrev pub broken_line : List ℕ → Option BrokenFrame → List ℕ
broken_line log None = []
broken_line log (Some b) = joined (codes "line " ∷ decimal (line_of b.at log) ∷ fault_words b.fault ∷ [])

-- where a frame begins that is none: its line, and why
abbrev pub broken_of : List ℕ → Option BrokenFrame → Option (ℕ × FrameFault)
broken_of log None = None
broken_of log (Some b) = Some (line_of b.at log, b.fault)

abbrev pub frames_said : (from to : List ℕ) → (bodies frames : ℕ) → List ℕ
frames_said from to bodies frames =
    joined (codes "in the log: " ∷ decimal bodies ∷ codes " frames, " ∷ decimal frames ∷ codes " of them from " ∷ from ∷ codes " to " ∷ to ∷ [])

abbrev pub messages_said : (logged once passed : ℕ) → List ℕ
messages_said logged once passed =
    joined (codes "; " ∷ decimal logged ∷ codes " application messages, " ∷ decimal once ∷ codes " without the repeats; " ∷ decimal passed ∷ codes " bytes in no frame\n" ∷ [])

abbrev pub counts_line : (from to : List ℕ) → Reading → List ℕ
counts_line from to r = frames_said from to r.bodies (length r.frames.items) ++ messages_said (length r.logged.items) (length r.once.items) r.outside

-- the comparison, what is owed and not in the log, and below it what was read
abbrev pub report : (from to log : List ℕ) → Compared → List Owed → Reading → List ℕ
report from to log c owed r =
    said c.comparison r.conflict c.count log to owed r.frames.items r.once.items
    ++ (listing c.comparison log r.once.items owed ++ (counts_line from to r ++ broken_line log r.broken))
