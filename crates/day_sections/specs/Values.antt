-- The values of the places of a section, and the numbers of rows.
use Rattle.std.specs.Prelude.{ℕ, ◌-◌, ◌==◌, Bool, List, [], ◌∷◌, decimal, length, nat_le, option_map, slice_get, Option, Some, None, if◌then◌else◌}
use Rattle.page_text.specs.Parts.{Part}
use Rattle.participants.specs.ParticipantFile.{ParticipantFile}
use Rattle.participants.specs.Relations.{name_of}
use Rattle.venue_rules.specs.declared.trail.TrailRow.{TrailRow}
use Rattle.day_tables.specs.Values.{are_dated}
use Rattle.day_sections.specs.declared.template.TheConstants.{ROW_ALONE, ROW_LINK}

abbrev pub or_empty : Option (List ℕ) → List ℕ
or_empty None = []
or_empty (Some text) = text

-- the sender of a row, by its place plus 1; empty for the clock
abbrev pub sender_of : ParticipantFile → ℕ → List ℕ
sender_of file from = if from == 0 then [] else name_of file (from - 1)

-- the number of a row: a link, if the rows are on the page
abbrev pub row_link : ℕ → Part
row_link n = record { template = ROW_LINK.now; values = decimal n ∷ decimal n ∷ [] }

abbrev pub row_alone : ℕ → Part
row_alone n = record { template = ROW_ALONE.now; values = decimal n ∷ [] }

abbrev pub row_part : Bool → ℕ → Part
row_part linked n = if linked then row_link n else row_alone n

-- the rows are on the page: all, or none of more than 5,000
abbrev pub are_shown : List TrailRow → Bool
are_shown rs = nat_le (length rs) 5000

-- the trades on the page: the first, in the order of their numbers

abbrev pub most_trades : ℕ
most_trades = 10000

abbrev pub is_listed : ℕ → Bool
is_listed trade = nat_le trade most_trades

abbrev pub moment_of : Option TrailRow → Option ℕ
moment_of row = option_map (λ (r : TrailRow). r.moment) row

abbrev pub last_moment : List TrailRow → Option ℕ
last_moment rs = moment_of (slice_get rs (length rs - 1))

-- its first and its last row are of two dates
abbrev pub is_dated : List TrailRow → Bool
is_dated rs = are_dated (moment_of (slice_get rs 0)) (last_moment rs)
