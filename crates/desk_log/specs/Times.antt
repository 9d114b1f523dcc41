-- When the frames of a log were sent, as they say, and when the rows of the trail were taken: it shows a log of another
-- day, or of a part of one.
--
--       the frames from SEF to BETA were sent from 20250303-14:29:50.000 to 20250303-14:30:41.000;
--         the trail's rows are of 20250303-14:30:00.000 to 20250303-14:30:41.000
--       12 of these application messages were sent before the first row: the log may begin before the trail
--       the log begins after the first row: what was owed before may stand in an earlier log
--       the log ends before the last row: what was owed after may stand in a later log
use Rattle.std.specs.Prelude.{ℕ, ◌-◌, ◌==◌, Bool, false, nat_lt, List, [], ◌∷◌, ◌++◌, length, slice_get, Option, Some, None, Result, Ok, Err, if◌then◌else◌, decimal, codes}
use Rattle.std.specs.List.{count_by}
use Rattle.sef_moment.specs.Utc.{utc_text}
use Rattle.fix_fields.specs.Forms.{moment_in}
use Rattle.fix_fields.specs.declared.value.ValueFault.{ValueFault}
use Rattle.venue_rules.specs.declared.trail.TrailRow.{TrailRow}
use Rattle.desk_log.specs.declared.comparing.Comparison.{Comparison}
use Rattle.desk_log.specs.declared.comparing.Comparison.TheVariants as comparison
use Rattle.desk_log.specs.declared.frames.Span.{Span}
use Rattle.desk_log.specs.declared.numbered.Numbered.{Numbered}
use Rattle.desk_log.specs.declared.reading.Reading.{Reading}
use Rattle.desk_log.specs.declared.times.Times.{Times}
use Rattle.desk_log.specs.Numbered.{Logged, body_at}
use Rattle.desk_log.specs.Parts.{joined}
use Rattle.fix_pieces.specs.Pieces.{first_value}

-- SendingTime (52), where it can be read
abbrev pub moment_of : Result ℕ ValueFault → Option ℕ
moment_of (Ok t) = Some t
moment_of (Err fault) = None

abbrev pub moment_if : Option (List ℕ) → Option ℕ
moment_if None = None
moment_if (Some text) = moment_of (moment_in text)

abbrev pub sent_at : List ℕ → Span → Option ℕ
sent_at log s = moment_if (first_value (codes "52=") (body_at log s))

abbrev pub sent_by : List ℕ → Option Numbered → Option ℕ
sent_by log None = None
sent_by log (Some f) = sent_at log f.body

abbrev pub both : Option ℕ → Option ℕ → Option Times
both (Some first) (Some last) = Some (record { first = first; last = last })
both (Some first) None = None
both None last = None

-- of the first frame and of the last
abbrev pub log_times : List ℕ → List Numbered → Option Times
log_times log fs = both (sent_by log (slice_get fs 0)) (sent_by log (slice_get fs (length fs - 1)))

abbrev pub taken_at : Option TrailRow → Option ℕ
taken_at None = None
taken_at (Some r) = Some r.moment

-- of the first row and of the last
abbrev pub row_times : List TrailRow → Option Times
row_times rs = both (taken_at (slice_get rs 0)) (taken_at (slice_get rs (length rs - 1)))

abbrev pub is_below : ℕ → Option ℕ → Bool
is_below first None = false
is_below first (Some t) = nat_lt t first

abbrev pub is_early : List ℕ → ℕ → Logged → Bool
is_early log first l = is_below first (sent_at log l.1)

abbrev pub ends_said : (from to : List ℕ) → List ℕ
ends_said from to = joined (codes "the frames from " ∷ from ∷ codes " to " ∷ to ∷ codes " were sent from " ∷ [])

abbrev pub moments_said : Times → List ℕ
moments_said t = utc_text t.first ++ (codes " to " ++ utc_text t.last)

abbrev pub sent_said : (from to : List ℕ) → Times → List ℕ
sent_said from to log = ends_said from to ++ moments_said log

abbrev pub taken_said : Times → List ℕ
taken_said rows = codes "; the trail's rows are of " ++ (moments_said rows ++ codes "\n")

abbrev pub span_said : (from to : List ℕ) → (log rows : Times) → List ℕ
span_said from to log rows = sent_said from to log ++ taken_said rows

abbrev pub early_said : ℕ → List ℕ
early_said n =
    if n == 0 then [] else
    (if n == 1 then codes "one of these application messages was sent before the first row: the log may begin before the trail\n" else
    joined (decimal n ∷ codes " of these application messages were sent before the first row: the log may begin before the trail\n" ∷ []))

abbrev pub late_said : Bool → List ℕ
late_said late = if late then codes "the log begins after the first row: what was owed before may stand in an earlier log\n" else []

abbrev pub ended_said : Bool → List ℕ
ended_said ended = if ended then codes "the log ends before the last row: what was owed after may stand in a later log\n" else []

-- where something differs
abbrev pub reasons_said : (early : ℕ) → (log rows : Times) → List ℕ
reasons_said early log rows = early_said early ++ (late_said (nat_lt rows.first log.first) ++ ended_said (nat_lt log.last rows.last))

abbrev pub reasons : Comparison → (early : ℕ) → (log rows : Times) → List ℕ
reasons comparison.All early log rows = []
reasons comparison.FirstPart early log rows = reasons_said early log rows
reasons comparison.Differs early log rows = reasons_said early log rows

abbrev pub known_said : (from to log : List ℕ) → Comparison → List Logged → (sent rows : Times) → List ℕ
known_said from to log c once sent rows = span_said from to sent rows ++ reasons c (count_by (is_early log rows.first) once) sent rows

abbrev pub times_said : (from to log : List ℕ) → Comparison → List Logged → Option Times → Option Times → List ℕ
times_said from to log c once None rows = []
times_said from to log c once (Some sent) None = []
times_said from to log c once (Some sent) (Some rows) = known_said from to log c once sent rows

abbrev pub times_text : (from to log : List ℕ) → Comparison → List TrailRow → Reading → List ℕ
times_text from to log c rs r = times_said from to log c r.once.items (log_times log r.frames.items) (row_times rs)
