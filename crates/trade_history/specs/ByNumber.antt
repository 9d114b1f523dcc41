use Rattle.std.specs.Prelude.{⊤, ◌≡◌, ℕ, ◌-◌, ◌≤◌, ◌==◌, nat_le, List, [], ◌∷◌, Option, Some, None, if◌then◌else◌}
use Rattle.std.specs.Vec.{vec_capacity, vec_len}
use Rattle.venue_rules.specs.declared.trail.RoomFact.{RoomFact}
use Rattle.trade_history.specs.declared.quoted.QuotedRooms.TheInside.{Inside}
use Rattle.trade_history.specs.Quoted.{Quoted, found}

-- Readings of rooms, by number.

-- inserted behind those with no greater number
abbrev pub put : RoomFact → List RoomFact → List RoomFact
put f [] = f ∷ []
put f (r ∷ rs) = if nat_le r.number f.number then r ∷ put f rs else f ∷ r ∷ rs

-- numbers do not fall
abbrev pub AreRising : ℕ → List RoomFact → Type 0
AreRising low [] = ⊤
AreRising low (r ∷ rs) = (low ≤ r.number) × AreRising r.number rs

-- the room, if it has this number
abbrev pub with_number : ℕ → Option RoomFact → Option RoomFact
with_number n None = None
with_number n (Some f) = if f.number == n then Some f else None

abbrev pub quoted : Inside → Quoted
quoted q = record { rooms = q.past; room = vec_capacity q.read - vec_len q.read }

-- a search by number finds what a search of the rooms by their first quotes finds
pub record IsByNumber (q : Inside) : Type 0 where
  pub rising : AreRising 0 q.read.items
  pub same : (n : ℕ) → found n q.read.items ≡ found n q.past
