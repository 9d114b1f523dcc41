-- Whose rows the second of two runs leaves out, if anybody's: those of a participant, by its place.
use Rattle.std.specs.Prelude.{ℕ, ◌-◌, ◌==◌, ◌&&◌, Bool, true, false, not, List, Option, None, Some, filter, length}
use Rattle.std.specs.List.{count_by}
use Rattle.venue_rules.specs.declared.trail.TrailRow.{TrailRow}
use Rattle.venue_rules.specs.Run.{Input, Message, Tick}

-- the participant sent the row; a row of the clock has `who` 0
abbrev pub is_row_of : ℕ → TrailRow → Bool
is_row_of who r = not (r.who == 0) && (who == (r.who - 1))

-- a row that both runs take
abbrev pub is_shared : Option ℕ → TrailRow → Bool
is_shared None r = true
is_shared (Some who) r = not (is_row_of who r)

-- how many these are
abbrev pub count_shared : Option ℕ → List TrailRow → ℕ
count_shared None rs = length rs
count_shared (Some who) rs = count_by (is_shared (Some who)) rs

-- the participant sent the message; nobody sends the clock
abbrev pub is_input_of : ℕ → Input → Bool
is_input_of who (Message taken t) = taken.from == who
is_input_of who (Tick t) = false

-- the inputs that the second run takes
abbrev pub shared_inputs : Option ℕ → List Input → List Input
shared_inputs None is = is
shared_inputs (Some who) is = filter (λ i. not (is_input_of who i)) is
