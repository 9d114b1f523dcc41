-- Requests for quotes, as they are kept while rows are replayed: the request that an input opens, and the one that it
-- closes, by the replies to it (17 CFR 37.9(a)(3)).
use Rattle.std.specs.Prelude.{ℕ, ◌+◌, min, Bool, not, ◌&&◌, ◌==◌, nat_le, List, [], ◌∷◌, map, filter, filter_map, Option, Some, None, if◌then◌else◌}
use Rattle.std.specs.List.{list_any}
use Rattle.fix_dictionary.specs.declared.messages.App.{App}
use Rattle.fix_dictionary.specs.declared.messages.App.TheVariants.{QuoteRequest, QuoteResponse}
use Rattle.fix_dictionary.specs.declared.messages.QuoteRequest.{QuoteRequest as RequestMessage}
use Rattle.sef_moment.specs.Utc.{greatest}
use Rattle.instruments.specs.declared.instruments.Instrument.{Instrument}
use Rattle.instruments.specs.Listing.{instrument_of, is_unknown_instrument, request_life_of}
use Rattle.venue_rules.specs.declared.facts.Fact.{Fact}
use Rattle.venue_rules.specs.declared.facts.Fact.TheVariants.{Closed}
use Rattle.venue_rules.specs.declared.facts.Room.{Room}
use Rattle.venue_rules.specs.declared.replies.Reply.{Reply}
use Rattle.venue_rules.specs.declared.replies.ReplyBody.{ReplyBody}
use Rattle.venue_rules.specs.declared.replies.ReplyBody.TheVariants as what
use Rattle.venue_rules.specs.Facts.{rooms}
use Rattle.venue_rules.specs.Rooms.{open_rooms}
use Rattle.venue_rules.specs.Run.{Input, Message, Tick}
use Rattle.resting_orders.specs.declared.asking.Request.{Request}

-- a request of the rules, but for its recipients
abbrev pub request_of : Room → Request
request_of r = record { number = r.number; requester = r.requester; id = r.id; instrument = r.instrument; side = r.side; quantity = r.quantity; end = r.end }

abbrev pub requests : List Fact → List Request
requests facts = map request_of (rooms facts)

-- those that are open at t by the rules; none where there is no moment
abbrev pub open_requests : List Fact → Option ℕ → List Request
open_requests facts None = []
open_requests facts (Some t) = map request_of (open_rooms facts t)

-- the rooms that traded
abbrev pub closed_in : Fact → Option ℕ
closed_in (Closed c) = Some c.room
closed_in _ = None

abbrev pub closings : List Fact → List ℕ
closings facts = filter_map closed_in facts

-- what the first reply says

abbrev pub sent_in : ReplyBody → Option ℕ
sent_in (what.RequestSent r) = Some r.room
sent_in _ = None

abbrev pub first_sent : List Reply → Option ℕ
first_sent [] = None
first_sent (r ∷ rs) = sent_in r.what

abbrev pub traded_in : ReplyBody → Option ℕ
traded_in (what.RoomTraded r) = Some r.room
traded_in _ = None

abbrev pub first_traded : List Reply → Option ℕ
first_traded [] = None
first_traded (r ∷ rs) = traded_in r.what

-- the request that a message opens, in the room with this number
abbrev pub asked_as : List Instrument → ℕ → RequestMessage → ℕ → ℕ → Request
asked_as xs who d t number =
    let x = instrument_of xs d.symbol in
    record { number = number; requester = who; id = d.request_id; instrument = x; side = d.side; quantity = d.quantity; end = min (t + request_life_of xs x) greatest }

abbrev pub asked_in : List Instrument → ℕ → RequestMessage → ℕ → ℕ → Option Request
asked_in xs who d t number = if not (is_unknown_instrument xs d.symbol) then Some (asked_as xs who d t number) else None

abbrev pub asked_by : List Instrument → ℕ → RequestMessage → ℕ → Option ℕ → Option Request
asked_by xs who d t None = None
asked_by xs who d t (Some number) = asked_in xs who d t number

abbrev pub asked_by_app : List Instrument → ℕ → App → ℕ → List Reply → Option Request
asked_by_app xs who (QuoteRequest d) t replies = asked_by xs who d t (first_sent replies)
asked_by_app xs who _ t replies = None

abbrev pub asked_at : List Instrument → Input → List Reply → Option Request
asked_at xs (Message taken t) replies = asked_by_app xs taken.from taken.item.app t replies
asked_at xs (Tick t) replies = None

abbrev pub closed_by_app : App → List Reply → Option ℕ
closed_by_app (QuoteResponse d) replies = first_traded replies
closed_by_app _ replies = None

abbrev pub closed_at : Input → List Reply → Option ℕ
closed_at (Message taken t) replies = closed_by_app taken.item.app replies
closed_at (Tick t) replies = None

-- those kept that are open at t

abbrev pub is_still_open : List ℕ → ℕ → Request → Bool
is_still_open closed t q = nat_le t q.end && not (list_any (λ c. c == q.number) closed)

abbrev pub still_open : List ℕ → List Request → Option ℕ → List Request
still_open closed qs None = []
still_open closed qs (Some t) = filter (is_still_open closed t) qs
