-- How the best prices that requests were shown are looked up: by the row of the first quote in a room.
use Rattle.std.specs.Prelude.{ℕ, ◌==◌, is_none, List, Option, Some, None, unwrap_or, if◌then◌else◌}
use Rattle.std.specs.BTreeMap.{insert_entry, is_at}
use Rattle.std.specs.Map.{lookup}
use Rattle.std.specs.Ordering.{nat_cmp}
use Rattle.venue_rules.specs.Rooms.{printed}
use Rattle.participant_activity.specs.declared.key.Name.{Name}
use Rattle.participant_activity.specs.Kept.{name_cmp}
use Rattle.participant_activity.specs.Noting.{named}
use Rattle.day_events.specs.declared.event.Event.{Event}
use Rattle.day_events.specs.declared.event.What.{What}
use Rattle.day_events.specs.declared.event.What.TheVariants as what
use Rattle.surveillance.specs.declared.shown.Best.{Best}
use Rattle.surveillance.specs.declared.shown.RowBest.{RowBest}
use Rattle.surveillance.specs.ShownBest.{nothing_shown}

-- the rows of first quotes, by the identifier (131) of the room

abbrev pub Rows : Type 0
Rows = List (Name × ℕ)

abbrev pub row_at : Rows → List ℕ → Option ℕ
row_at rs id = lookup (is_at (name_cmp (named id))) rs

abbrev pub put_first : Rows → Option (List ℕ) → ℕ → Rows
put_first rs None row = rs
put_first rs (Some id) row = if is_none (row_at rs id) then insert_entry name_cmp rs (named id) row else rs

abbrev pub put_quoted : Rows → Event → What → Rows
put_quoted rs e (what.Quoted x) = put_first rs e.at.named e.at.row
put_quoted rs e _ = rs

-- the best prices, by row

abbrev pub Bests : Type 0
Bests = List (ℕ × Best)

abbrev pub kept_at : Bests → ℕ → Best
kept_at bs row = unwrap_or (lookup (is_at (nat_cmp row)) bs) nothing_shown

-- and those of the last row, which are not kept yet
abbrev pub with_last : Bests → RowBest → ℕ → Best
with_last bs last row = if row == last.row then last.best else kept_at bs row

-- both, of a room

abbrev pub kept_at_quote : Bests → Option ℕ → Best
kept_at_quote bs None = nothing_shown
kept_at_quote bs (Some row) = kept_at bs row

abbrev pub kept_in : Rows → Bests → ℕ → Best
kept_in rs bs room = kept_at_quote bs (row_at rs (printed 82 room))
