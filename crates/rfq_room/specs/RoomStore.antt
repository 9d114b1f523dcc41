use Rattle.std.specs.Prelude.{◌≡◌, ℕ, Bool, true, nat_le, nat_lt, List, length}
use Rattle.std.specs.List.{list_all}
use Rattle.venue_rules.specs.declared.facts.Fact.{Fact}
use Rattle.venue_rules.specs.declared.facts.Fact.TheVariants.{Asked}
use Rattle.venue_rules.specs.Requests.{recipient_room}
use Rattle.rfq_room.specs.RoomFacts.{is_room_fact}

-- facts of rooms alone
abbrev pub are_own : List Fact → Bool
are_own facts = list_all is_room_fact facts

-- a request has at most 12 recipients
abbrev pub is_small : Fact → Bool
is_small (Asked r) = nat_le (length r.recipients) recipient_room
is_small _ = true

abbrev pub are_small : List Fact → Bool
are_small facts = list_all is_small facts

-- a request is for an instrument below a count
abbrev pub is_listed : ℕ → Fact → Bool
is_listed count (Asked r) = nat_lt r.instrument count
is_listed count _ = true

abbrev pub are_listed : ℕ → List Fact → Bool
are_listed count facts = list_all (is_listed count) facts

-- the invariant of the rooms' facts
pub record IsRooms (facts : List Fact) : Type 0 where
  pub own : are_own facts ≡ true
  pub small : are_small facts ≡ true
