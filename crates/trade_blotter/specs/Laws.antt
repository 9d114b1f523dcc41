-- Laws of every day, whatever its inputs: the room of a room trade is found, and so printed.
use Rattle.std.specs.Prelude.{◌≡◌, ℕ, List, ◌++◌, Contains, map, None, Some}
use Rattle.csv.specs.Writing.{row_text}
use Rattle.venue_rules.specs.declared.facts.Fact.{Fact}
use Rattle.venue_rules.specs.declared.facts.Fact.TheVariants.{Asked, Quoted}
use Rattle.venue_rules.specs.declared.facts.Room.{Room}
use Rattle.venue_rules.specs.declared.facts.RoomQuote.{RoomQuote}
use Rattle.venue_rules.specs.declared.trail.RoomFact.{RoomFact}
use Rattle.venue_rules.specs.declared.trail.TradeFact.{TradeFact}
use Rattle.venue_rules.specs.Book.{picture}
use Rattle.venue_rules.specs.Facts.{History}
use Rattle.venue_rules.specs.Lawful.{HappenedAfter}
use Rattle.venue_rules.specs.Market.{Market}
use Rattle.venue_rules.specs.Readings.{shown_order, trade_facts}
use Rattle.venue_rules.specs.Rooms.{first_quote}
use Rattle.venue_rules.specs.Run.{Input, run}
use Rattle.trade_blotter.specs.Line.{room_line, trade_line}
use Rattle.trade_blotter.specs.Table.{deal_fields, place_fields, setup, trade_row}

-- a room and a quote in it, with the orders resting in its instrument after these facts
abbrev pub with_first : Room → RoomQuote → List Fact → RoomFact
with_first r q before = record { number = r.number; requester = r.requester; asked = r.recipients; first = q.number; shown = map shown_order (picture before r.instrument) }

-- A room trade is printed with the recipients of the request, the first quote in the room, and the orders resting just
-- before that quote (17 CFR 37.9(a)(3)).
pub record EmitsRoom (m : Market) (h : History) (t : TradeFact) (room : ℕ) : Type 0 where
  pub opened : Room
  pub first : RoomQuote
  pub before : List Fact
  pub asked : Contains h.facts (Asked opened)
  pub number : opened.number ≡ room
  pub quoted : HappenedAfter h.facts before (Quoted first)
  pub here : first.room ≡ room
  pub none_before : first_quote before room ≡ None
  pub line : trade_line m h t ≡ room_line m t room (Some (with_first opened first before))
  pub row : trade_row m h t ≡ row_text setup (deal_fields m t ++ place_fields m.participants (Some room) (Some (with_first opened first before)))

-- each room trade of a day is printed so
abbrev pub RoomTradesEmitRooms : Type 0
RoomTradesEmitRooms = (m : Market) (is : List Input) (t : TradeFact) (room : ℕ) → Contains (trade_facts (run m is).history.facts) t → t.room ≡ Some room → EmitsRoom m (run m is).history t room
