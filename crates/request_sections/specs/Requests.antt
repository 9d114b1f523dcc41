-- The section of the requests for quotes.
use Rattle.std.specs.Prelude.{◌≡◌, ℕ, ℤ, ◌<◌, ◌-◌, ◌==◌, Bool, true, false, List, [], ◌∷◌, ◌++◌, filter, length, map, nat_le, take, codes, count_by, decimal, is_some, slice_get, Option, Some, None, if◌then◌else◌}
use Rattle.std.specs.List.{flat_map}
use Rattle.fix_dictionary.specs.declared.values.Side.{Side}
use Rattle.fix_dictionary.specs.declared.values.Side.TheVariants.{Buy, Sell}
use Rattle.instruments.specs.declared.instruments.Instrument.{Instrument}
use Rattle.instruments.specs.Listing.{instrument_of, tick_of}
use Rattle.page_text.specs.Parts.{Part}
use Rattle.participants.specs.ParticipantFile.{ParticipantFile}
use Rattle.sef_moment.specs.Utc.{utc_text}
use Rattle.venue_rules.specs.declared.trail.TrailRow.{TrailRow}
use Rattle.day_events.specs.declared.event.Event.{Event}
use Rattle.day_events.specs.declared.event.NewQuote.{NewQuote}
use Rattle.day_events.specs.declared.event.NewRequest.{NewRequest}
use Rattle.day_events.specs.declared.event.RoomTrade.{RoomTrade}
use Rattle.day_events.specs.declared.event.What.{What}
use Rattle.day_events.specs.declared.event.What.TheVariants as what
use Rattle.day_events.specs.declared.shown.ShownPrice.{ShownPrice}
use Rattle.request_sections.specs.declared.template.TheConstants.{CELL_END, HIT, HIT_ALONE, HOUR_OF_REQUESTS, HOUR_OF_REQUESTS_END, LIVE, NOT_TAKEN, NO_QUOTE, NO_REQUEST, PASSED, QUOTE, QUOTES, RAN_OUT, REPLACED, REQUESTS, ROOM, ROOM_END, ROOM_FOLDED, ROOM_IDLE, ROOM_LINE, ROOM_LINE_END, ROOM_OPEN, ROOM_TRADED, ROOM_TRADED_ALONE, SECTION_END, WITHDRAWN}
use Rattle.request_sections.specs.declared.day.Day.{Day}
use Rattle.request_sections.specs.declared.day.Form.{Form}
use Rattle.request_sections.specs.declared.day.Form.TheVariants as form
use Rattle.request_sections.specs.declared.fate.Fate.{Fate}
use Rattle.request_sections.specs.declared.fate.Fate.TheVariants as fate
use Rattle.request_sections.specs.declared.fate.Quoted.{Quoted}
use Rattle.request_sections.specs.declared.keys.By.TheVariants as by
use Rattle.request_sections.specs.declared.lives.Axis.{Axis}
use Rattle.request_sections.specs.declared.picks.Pick.TheVariants as pick
use Rattle.request_sections.specs.Fate.{outcome_of}
use Rattle.request_sections.specs.Keys.{AreFiled}
use Rattle.request_sections.specs.Lives.{axis_of, end_part, life_part, live_until}
use Rattle.request_sections.specs.Picks.{is_picked, is_silent}
use Rattle.request_sections.specs.Refused.{refused_in, refused_section}
use Rattle.request_sections.specs.Shown.{rises, shown_section}
use Rattle.day_sections.specs.Folds.{folds, hour_of, within}
use Rattle.day_sections.specs.declared.folds.Fold.{Fold}
use Rattle.day_sections.specs.Rooms.{rooms}
use Rattle.day_sections.specs.Values.{are_shown, is_dated, is_listed, last_moment, or_empty, row_part, sender_of}
use Rattle.recipient_sections.specs.Asked.{name_parts, recipients_parts}
use Rattle.day_tables.specs.Parts.{framed, plain_part}
use Rattle.day_tables.specs.Values.{clock_text, grouped, price_in}

-- What the section shows of a day: whether its rows are on the page, whether times stand with their dates, the moment
-- of the last row, how many requests there are, the events, the prices shown, and the instruments.
pub record Sheet : Type 0 where
  pub linked : Bool
  pub dated : Bool
  pub last : Option ℕ
  pub count : ℕ
  pub events : List Event
  pub shown : List ShownPrice
  pub instruments : List Instrument

abbrev pub sheet_of : Day → Sheet
sheet_of d = record { linked = d.linked; dated = d.dated; last = d.last; count = d.count; events = d.events.now; shown = d.shown.now; instruments = d.instruments.now }

-- the tick of the instrument of a request
abbrev pub tick_in : List Instrument → NewRequest → ℕ
tick_in xs r = tick_of xs (instrument_of xs r.symbol)

-- the events are filed by room and by quote, and it is known whether the prices shown come in order
pub record IsKept (d : Day) : Type 0 where
  pub rooms : AreFiled by.Room d.events.now d.rooms.now
  pub some_rooms : 0 < length d.rooms.now
  pub ends : AreFiled by.Quote d.events.now d.ends.now
  pub some_ends : 0 < length d.ends.now
  pub ordered : d.ordered ≡ rises 0 d.shown.now

-- The trade of a room.

abbrev pub if_traded : ℕ → What → Option RoomTrade
if_traded room (what.Traded t) = if t.room == room then Some t else None
if_traded room _ = None

abbrev pub or_later : Option RoomTrade → Option RoomTrade → Option RoomTrade
or_later (Some t) later = Some t
or_later None later = later

abbrev pub trade_in : ℕ → List Event → Option RoomTrade
trade_in room [] = None
trade_in room (e ∷ es) = or_later (if_traded room e.what) (trade_in room es)

-- The parts.

abbrev pub side_words : Option Side → List ℕ
side_words None = codes "to buy or sell"
side_words (Some Buy) = codes "to buy"
side_words (Some Sell) = codes "to sell"

abbrev pub room_part : ParticipantFile → Bool → Event → NewRequest → ℕ → Part
room_part file dated e r asked = record {
  template = ROOM.now;
  values = decimal r.room ∷ clock_text dated (utc_text e.at.moment) ∷ sender_of file e.at.from ∷ grouped asked ∷ side_words r.side ∷ grouped r.quantity ∷ r.symbol ∷ or_empty e.at.own ∷ [];
}

abbrev pub idle_part : ℕ → Part
idle_part quotes = record { template = ROOM_IDLE.now; values = grouped quotes ∷ [] }

-- its trade: a link, if that is on the page

abbrev pub trade_link : ℕ → RoomTrade → Part
trade_link tick t = record { template = ROOM_TRADED.now; values = decimal t.trade ∷ decimal t.trade ∷ price_in tick t.price ∷ [] }

abbrev pub trade_alone : ℕ → RoomTrade → Part
trade_alone tick t = record { template = ROOM_TRADED_ALONE.now; values = decimal t.trade ∷ price_in tick t.price ∷ [] }

abbrev pub traded_part : ℕ → RoomTrade → Part
traded_part tick t = if is_listed t.trade then trade_link tick t else trade_alone tick t

abbrev pub outcome_part : ℕ → Option RoomTrade → ℕ → Part
outcome_part tick None quotes = idle_part quotes
outcome_part tick (Some t) quotes = traded_part tick t

-- its quotes

abbrev pub optional_price : ℕ → Option ℤ → List ℕ
optional_price tick None = []
optional_price tick (Some p) = price_in tick p

abbrev pub quote_part : ParticipantFile → Bool → ℕ → Event → NewQuote → Part
quote_part file dated tick e q = record {
  template = QUOTE.now;
  values = decimal q.quote ∷ decimal q.quote ∷ sender_of file e.at.from ∷ or_empty e.at.own ∷ optional_price tick q.bid ∷ optional_price tick q.offer
      ∷ clock_text dated (utc_text e.at.moment) ∷ clock_text dated (utc_text q.end) ∷ [];
}

abbrev pub once_part : List ℕ → ℕ → Part
once_part template n = record { template = template; values = decimal n ∷ [] }

abbrev pub twice_part : List ℕ → ℕ → Part
twice_part template n = record { template = template; values = decimal n ∷ decimal n ∷ [] }

abbrev pub hit_part : ℕ → Part
hit_part n = if is_listed n then twice_part HIT.now n else once_part HIT_ALONE.now n

abbrev pub fate_part : Fate → Part
fate_part fate.Live = plain_part LIVE.now
fate_part fate.NotTaken = plain_part NOT_TAKEN.now
fate_part fate.RanOut = plain_part RAN_OUT.now
fate_part (fate.Hit n) = hit_part n
fate_part (fate.Replaced n) = twice_part REPLACED.now n
fate_part (fate.Withdrawn n) = once_part WITHDRAWN.now n
fate_part (fate.Passed n) = once_part PASSED.now n

-- when the room traded
abbrev pub traded_at : Option RoomTrade → ℕ → Option ℕ → Option ℕ
traded_at (Some x) t later = Some t
traded_at None t later = later

abbrev pub trade_moment : ℕ → List Event → Option ℕ
trade_moment room [] = None
trade_moment room (e ∷ es) = traded_at (if_traded room e.what) e.at.moment (trade_moment room es)

abbrev pub quoted_of : ℕ → Event → NewQuote → Quoted
quoted_of room e q = record { quote = q.quote; room = room; from = e.at.from; end = q.end }

-- how long it was live, what became of it, its row
abbrev pub quote_by : ParticipantFile → Sheet → ℕ → Axis → Event → NewQuote → ℕ → Fate → List Part
quote_by file s tick a e q until f =
    quote_part file s.dated tick e q ∷ life_part a e.at.moment until q.end ∷ end_part a.traded ∷ fate_part f ∷ row_part s.linked e.at.row ∷ plain_part CELL_END.now ∷ []

abbrev pub quote_parts : ParticipantFile → Sheet → ℕ → Axis → List Event → ℕ → Event → NewQuote → List Part
quote_parts file s tick a said room e q =
    quote_by file s tick a e q (live_until (quoted_of room e q) s.last said s.events) (outcome_of (quoted_of room e q) s.last said s.events)

abbrev pub if_quote_parts : ParticipantFile → Sheet → ℕ → Axis → List Event → ℕ → Event → What → List Part
if_quote_parts file s tick a said room e (what.Quoted q) = quote_parts file s tick a said room e q
if_quote_parts file s tick a said room e _ = []

abbrev pub quotes_part : ℕ → Part
quotes_part room = record { template = QUOTES.now; values = decimal room ∷ [] }

-- who was asked and sent none

abbrev pub some_silent : ParticipantFile → List Event → List Part
some_silent file silent = framed (plain_part NO_QUOTE.now) (flat_map (name_parts file) silent) (plain_part CELL_END.now)

abbrev pub silent_parts : ParticipantFile → List Event → List Part
silent_parts file silent = if length silent == 0 then [] else some_silent file silent

abbrev pub all_quotes : ParticipantFile → Sheet → ℕ → Axis → List Event → ℕ → List Event → List Event → List Part
all_quotes file s tick a said room asked quotes =
    framed (quotes_part room) (flat_map (λ e. if_quote_parts file s tick a said room e e.what) quotes ++ silent_parts file (filter (is_silent quotes) asked)) (plain_part ROOM_END.now)

-- A request: up to 12 are open, up to 300 closed, and of more those without a trade have their line alone.

abbrev pub most_open : ℕ
most_open = 12

abbrev pub most_whole : ℕ
most_whole = 300

abbrev pub traded_form : Bool → Form
traded_form true = form.Folded
traded_form false = form.Line

abbrev pub form_of : ℕ → Bool → Form
form_of count traded = if nat_le count most_open then form.Open else (if nat_le count most_whole then form.Folded else traded_form traded)

abbrev pub opening_part : Form → ℕ → Part
opening_part form.Open room = plain_part ROOM_OPEN.now
opening_part form.Folded room = plain_part ROOM_FOLDED.now
opening_part form.Line room = record { template = ROOM_LINE.now; values = decimal room ∷ [] }

-- whom it asked, its quotes and what was refused

abbrev pub asked_in : ℕ → List Event → List Event
asked_in room said = filter (is_picked (pick.Asked room)) said

abbrev pub quotes_in : ℕ → List Event → List Event
quotes_in room said = filter (is_picked (pick.Quotes room)) said

-- what stands behind the head
abbrev pub body_parts : ParticipantFile → Sheet → ℕ → List Event → Event → ℕ → List Event → List Event → List Part
body_parts file s tick said e room asked quotes =
    recipients_parts file s.linked e room asked
    ++ (shown_section tick s.shown quotes
    ++ (refused_section file s.dated s.linked (refused_in e.at.row room quotes s.events) ++ all_quotes file s tick (axis_of e.at.moment (trade_moment room said) quotes) said room asked quotes))

abbrev pub rest_parts : Form → ParticipantFile → Sheet → ℕ → List Event → Event → ℕ → List Event → List Event → List Part
rest_parts form.Open file s tick said e room asked quotes = body_parts file s tick said e room asked quotes
rest_parts form.Folded file s tick said e room asked quotes = body_parts file s tick said e room asked quotes
rest_parts form.Line file s tick said e room asked quotes = plain_part ROOM_LINE_END.now ∷ []

abbrev pub head_parts : Form → ParticipantFile → Bool → ℕ → Event → NewRequest → List Event → List Event → Option RoomTrade → List Part
head_parts f file dated tick e r asked quotes trade =
    opening_part f r.room ∷ room_part file dated e r (length asked) ∷ outcome_part tick trade (length quotes) ∷ []

abbrev pub request_by : ParticipantFile → Sheet → ℕ → List Event → Event → NewRequest → List Event → List Event → Option RoomTrade → List Part
request_by file s tick said e r asked quotes trade =
    head_parts (form_of s.count (is_some trade)) file s.dated tick e r asked quotes trade ++ rest_parts (form_of s.count (is_some trade)) file s tick said e r.room asked quotes

-- by what is said of its room
abbrev pub request_parts : ParticipantFile → Sheet → List Event → Event → NewRequest → List Part
request_parts file s said e r = request_by file s (tick_in s.instruments r) said e r (asked_in r.room said) (quotes_in r.room said) (trade_in r.room said)

abbrev pub if_request_parts : ParticipantFile → Sheet → Event → What → List Part
if_request_parts file s e (what.Asked r) = request_parts file s s.events e r
if_request_parts file s e _ = []

abbrev pub each_request : ParticipantFile → Sheet → List Event → List Part
each_request file s rs = flat_map (λ x. if_request_parts file s x x.what) rs

-- By the hour, above 60.

abbrev pub most_listed : ℕ
most_listed = 60

abbrev pub hours : List Event → List ℕ
hours rs = map (λ e. hour_of e.at.moment) rs

-- its date and hour, as 20250303-14
abbrev pub hour_text : Option Event → List ℕ
hour_text None = []
hour_text (Some e) = take 11 (utc_text e.at.moment)

abbrev pub room_of : What → List ℕ
room_of (what.Asked r) = decimal r.room
room_of _ = []

abbrev pub room_text : Option Event → List ℕ
room_text None = []
room_text (Some e) = room_of e.what

abbrev pub has_trade : List Event → What → Bool
has_trade es (what.Asked r) = is_some (trade_in r.room es)
has_trade es _ = false

-- the hour of some requests; how many they are and how many of them traded, the first and the last
abbrev pub hour_part : List Event → List Event → Part
hour_part es rs = record {
  template = HOUR_OF_REQUESTS.now;
  values = hour_text (slice_get rs 0) ∷ grouped (length rs) ∷ grouped (count_by (λ e. has_trade es e.what) rs) ∷ room_text (slice_get rs 0) ∷ room_text (slice_get rs (length rs - 1)) ∷ [];
}

abbrev pub hour_parts : ParticipantFile → Sheet → List Event → List Part
hour_parts file s rs = framed (hour_part s.events rs) (each_request file s rs) (plain_part HOUR_OF_REQUESTS_END.now)

abbrev pub by_hour : ParticipantFile → Sheet → List Event → List Part
by_hour file s rs = flat_map (λ f. hour_parts file s (within f rs)) (folds (hours rs))

abbrev pub listed_parts : ParticipantFile → Sheet → List Event → List Part
listed_parts file s rs = if nat_le (length rs) most_listed then each_request file s rs else by_hour file s rs

-- the section

abbrev pub count_part : List Event → Part
count_part rs = record { template = REQUESTS.now; values = grouped (length rs) ∷ [] }

abbrev pub some_requests : ParticipantFile → Sheet → List Event → List Part
some_requests file s rs = framed (count_part rs) (listed_parts file s rs) (plain_part SECTION_END.now)

abbrev pub sections_of : ParticipantFile → Sheet → List Event → List Part
sections_of file s rs = if length rs == 0 then plain_part NO_REQUEST.now ∷ [] else some_requests file s rs

-- of a day
abbrev pub day_sheet : List Instrument → List TrailRow → List Event → List ShownPrice → Sheet
day_sheet xs rows es ps = record {
  linked = are_shown rows;
  dated = is_dated rows;
  last = last_moment rows;
  count = length (rooms es);
  events = es;
  shown = ps;
  instruments = xs;
}

abbrev pub requests_parts : ParticipantFile → List Instrument → List TrailRow → List Event → List ShownPrice → List Part
requests_parts file xs rows es ps = sections_of file (day_sheet xs rows es ps) (rooms es)
