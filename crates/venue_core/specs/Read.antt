use Rattle.std.specs.Prelude.{◌≡◌, ℕ, List, [], ◌∷◌, Option, Some, None, slice_get, true}
use Rattle.venue_rules.specs.declared.facts.Fact.{Fact}
use Rattle.venue_rules.specs.declared.facts.Fact.TheVariants.{Quoted}
use Rattle.venue_rules.specs.declared.facts.Room.{Room}
use Rattle.venue_rules.specs.declared.facts.RoomQuote.{RoomQuote}
use Rattle.venue_rules.specs.declared.replies.SnapshotEntry.{SnapshotEntry}
use Rattle.venue_rules.specs.declared.replies.Reply.{Reply}
use Rattle.venue_rules.specs.declared.replies.ReplyBody.{ReplyBody}
use Rattle.venue_rules.specs.declared.replies.ReplyBody.TheVariants.{BookSnapshot}
use Rattle.venue_rules.specs.declared.trail.RoomFact.{RoomFact}
use Rattle.venue_rules.specs.Answer.{Answer}
use Rattle.venue_rules.specs.Book.{picture}
use Rattle.venue_rules.specs.Rooms.{first_quote, room_by_number}
use Rattle.rfq_room.specs.Named.{room_with}
use Rattle.rfq_room.specs.RoomFacts.{room_facts}
use Rattle.rfq_handler.specs.Read.{first_made}
use Rattle.trade_history.specs.Quoted.{room_shown}
use Rattle.trade_history.specs.ReadOf.{are_later}

-- The reading of a room's first quote.

-- the added facts have the first quote of a room; its reading is the room, with what rests in the book
pub record IsFirstQuote (facts added : List Fact) (read : RoomFact) : Type 0 where
  pub asked : Room
  pub quote : RoomQuote
  pub made : added ≡ Quoted quote ∷ []
  pub room : room_by_number (room_facts facts) quote.room ≡ Some asked
  pub first : first_quote (room_facts facts) quote.room ≡ None
  pub shown : read ≡ room_shown asked quote.number (picture facts asked.instrument)

-- the reading of the added facts: none without the first quote of a room
abbrev pub IsReadWith : List Fact → List Fact → Option RoomFact → Type 0
IsReadWith facts added None = are_later (room_facts facts) (room_facts added) ≡ true
IsReadWith facts added (Some read) = IsFirstQuote facts added read

-- the count and list of such readings
abbrev pub read_count : Option RoomFact → ℕ
read_count None = 0
read_count (Some read) = 1

abbrev pub rooms_of : Option RoomFact → List RoomFact
rooms_of None = []
rooms_of (Some read) = read ∷ []

-- From the answer to a quote: for a room's first quote, the status to its maker, the book snapshot, and the quote
-- itself.

abbrev pub picture_of : ReplyBody → Option (List SnapshotEntry)
picture_of (BookSnapshot p) = Some p.entries
picture_of _ = None

abbrev pub picture_in : Option Reply → Option (List SnapshotEntry)
picture_in None = None
picture_in (Some r) = picture_of r.what

abbrev pub read_in : Option (List SnapshotEntry) → Option RoomQuote → Option Room → Option RoomFact
read_in None quote room = None
read_in (Some entries) None room = None
read_in (Some entries) (Some q) None = None
read_in (Some entries) (Some q) (Some r) = Some (room_shown r q.number entries)

-- the reading of a quote, by the answer to it
abbrev pub quote_read : List Fact → Answer → Option RoomFact
quote_read rooms a = read_in (picture_in (slice_get a.replies 1)) (first_made a.facts) (room_with rooms (first_made a.facts))
