-- The application messages of a log, each once by era and number.
use Rattle.std.specs.Prelude.{◌≡◌, ℕ, List, [], ◌∷◌, cond, Option, Some, None, bytes_eq, if◌then◌else◌}
use Rattle.std.specs.Ordering.{nat_cmp, ordering_then}
use Rattle.std.specs.declared.cmp.Ordering.{Ordering}
use Rattle.std.specs.Map.{keys_of, lookup}
use Rattle.std.specs.BTreeMap.{is_at}
use Rattle.std.specs.List.Sorted.{IsStrictlySortedBy}
use Rattle.desk_log.specs.declared.frames.Span.{Span}
use Rattle.desk_log.specs.declared.numbered.Place.{Place}
use Rattle.desk_log.specs.declared.once.Conflict.{Conflict}
use Rattle.desk_log.specs.Numbered.{Logged, text_at}

-- by era, and then by number
abbrev pub place_cmp : Place → Place → Ordering
place_cmp a b = ordering_then (nat_cmp a.era b.era) (nat_cmp a.number b.number)

-- the first message of a place
abbrev pub found_at : Place → List Logged → Option Span
found_at p all = lookup (is_at (place_cmp p)) all

-- each message once: the places rise, and at each place stands the first message that the log has there
pub record IsOnce (all once : List Logged) : Type 0 where
  pub rising : IsStrictlySortedBy place_cmp (keys_of once)
  pub same : (p : Place) → found_at p once ≡ found_at p all

-- a message and the first of its place, if their texts differ: a repeat that is none
abbrev pub conflict_at : List ℕ → Logged → Option Span → Option Conflict
conflict_at log l None = None
conflict_at log l (Some first) = if bytes_eq (text_at log first) (text_at log l.1) then None else Some (record { place = l.0; first = first; second = l.1 })

abbrev pub conflict_or : Option Conflict → Option Conflict → Option Conflict
conflict_or None later = later
conflict_or (Some c) later = Some c

-- the first such message
abbrev pub conflict_from : List ℕ → (all rest : List Logged) → Option Conflict
conflict_from log all [] = None
conflict_from log all (l ∷ ls) = conflict_or (conflict_at log l (found_at l.0 all)) (conflict_from log all ls)

-- what is found at a place when one more message has come, of this place
abbrev pub then_at : Place → Option Span → Place → Span → Option Span
then_at p (Some first) place span = Some first
then_at p None place span = cond (is_at (place_cmp p) place) (Some span) None
