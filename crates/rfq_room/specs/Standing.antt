use Rattle.std.specs.Prelude.{◌≡◌, ℕ, ◌+◌, ◌≤◌, true, nat_lt, map, filter}
use Rattle.std.specs.List.{list_all}
use Rattle.std.specs.Vec.{vec_capacity, vec_len}
use Rattle.venue_rules.specs.Facts.{next_quote, quotes, rooms}
use Rattle.venue_rules.specs.Rooms.{is_live}
use Rattle.rfq_room.specs.declared.room_store.RoomStore.TheInside.{Inside}
use Rattle.rfq_room.specs.Contents.{Contents}
use Rattle.rfq_room.specs.Numbered.{AreFrom}
use Rattle.rfq_room.specs.Openness.{is_still_open, open_room}

abbrev pub contents : Inside → Contents
contents k = record { facts = k.known_flags.facts; spare = record { headroom = k.headroom } }

-- what is kept of the facts: rooms and quotes by number; and, of those that may not be over yet, at each moment from
-- the last one seen on, exactly those that are not, in order
pub record IsKept (k : Inside) : Type 0 where
  pub all_rooms : k.rooms.items ≡ rooms k.known_flags.facts
  pub all_quotes : k.quotes.items ≡ quotes k.known_flags.facts
  pub room_numbers : AreFrom 1 (map (λ r. r.number) (rooms k.known_flags.facts))
  pub quote_numbers : AreFrom 1 (map (λ q. q.number) (quotes k.known_flags.facts))
  pub still : (t : ℕ) → k.seen ≤ t → filter (is_still_open k.known_flags.facts t) k.opened.items ≡ filter (is_still_open k.known_flags.facts t) (map open_room (rooms k.known_flags.facts))
  pub living : (t : ℕ) → k.seen ≤ t → filter (is_live k.known_flags.facts t) k.live.items ≡ filter (is_live k.known_flags.facts t) (quotes k.known_flags.facts)
  pub below : list_all (λ q. nat_lt q.number (next_quote k.known_flags.facts)) k.live.items ≡ true
  pub rooms_headroom : vec_len k.rooms + k.headroom ≤ vec_capacity k.rooms
  pub quotes_headroom : vec_len k.quotes + k.headroom ≤ vec_capacity k.quotes
  pub opened_headroom : vec_len k.opened + k.headroom ≤ vec_capacity k.opened
  pub live_headroom : vec_len k.live + k.headroom ≤ vec_capacity k.live
  pub known_flags_headroom : k.headroom ≤ k.known_flags.spare.headroom
