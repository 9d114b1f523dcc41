-- Events that belong together, picked from those of a day.
use Rattle.std.specs.Prelude.{ℕ, Bool, false, List, bytes_eq, is_none, Option, Some, None}
use Rattle.day_events.specs.declared.event.Event.{Event}
use Rattle.day_events.specs.declared.event.What.{What}
use Rattle.day_events.specs.declared.event.What.TheVariants as what
use Rattle.day_sections.specs.Counts.{is_refused}
use Rattle.day_sections.specs.declared.picks.Pick.{Pick}
use Rattle.day_sections.specs.declared.picks.Pick.TheVariants as pick

-- the same text, or none and none
abbrev pub is_same : Option (List ℕ) → Option (List ℕ) → Bool
is_same None other = is_none other
is_same (Some a) None = false
is_same (Some a) (Some b) = bytes_eq a b

abbrev pub is_of_cause : Option (List ℕ) → What → Bool
is_of_cause cause (what.Refused text) = is_same cause text
is_of_cause cause _ = false

abbrev pub is_picked : Pick → Event → Bool
is_picked pick.Refusals e = is_refused e.what
is_picked (pick.Refused cause) e = is_of_cause cause e.what
