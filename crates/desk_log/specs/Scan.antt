-- What is found in a log from a place on, behind what was found before it.
use Rattle.std.specs.Prelude.{ℕ, ◌+◌, ◌≤◌, ◌<◌, List, ◌++◌, drop, Option, None}
use Rattle.desk_log.specs.declared.frames.BrokenFrame.{BrokenFrame}
use Rattle.desk_log.specs.declared.frames.Look.{Look}
use Rattle.desk_log.specs.declared.frames.Look.TheVariants.{Frame, Broken, Nothing}
use Rattle.desk_log.specs.declared.frames.Span.{Span}
use Rattle.desk_log.specs.Frames.{bodies_from, broken_from, broken_or, either, outside_from}

abbrev pub bodies_with : List Span → ℕ → List ℕ → List Span
bodies_with found at log = found ++ bodies_from at 0 (drop at log)

abbrev pub outside_with : ℕ → ℕ → List ℕ → ℕ
outside_with count at log = count + outside_from 0 (drop at log)

abbrev pub broken_with : Option BrokenFrame → ℕ → List ℕ → Option BrokenFrame
broken_with first at log = either first (broken_from at 0 (drop at log))

-- at this place
abbrev pub broken_at : ℕ → Look → Option BrokenFrame
broken_at at l = broken_or at l None

-- what begins at a place ends there or before a number
abbrev pub IsBelow : (most at : ℕ) → Look → Type 0
IsBelow most at (Frame start end) = (start ≤ end) × (at + end + 7 ≤ most)
IsBelow most at (Broken fault) = at < most
IsBelow most at Nothing = at < most
