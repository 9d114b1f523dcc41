-- The alarms of a day. Each is raised if and only if its predicate holds, of the facts' trades or of the events that
-- the answers say.
use Rattle.std.specs.Prelude.{ℕ, ℤ, ◌+◌, ◌-◌, ◌*◌, ◌==◌, ◌&&◌, ◌||◌, not, bytes_eq, filter, Bool, true, false, nat_le, nat_lt, int_lt, List, [], ◌∷◌, ◌++◌, length, Option, Some, None, if◌then◌else◌}
use Rattle.std.specs.List.{flat_map}
use Rattle.fix_dictionary.specs.declared.values.Side.{Side}
use Rattle.fix_dictionary.specs.declared.values.Side.TheVariants.{Buy, Sell}
use Rattle.participants.specs.ParticipantFile.{ParticipantFile}
use Rattle.instruments.specs.declared.instruments.Instrument.{Instrument}
use Rattle.instruments.specs.Listing.{delay_of}
use Rattle.participants.specs.Relations.{apart, related}
use Rattle.venue_rules.specs.declared.trail.TradeFact.{TradeFact}
use Rattle.venue_rules.specs.Facts.{History}
use Rattle.venue_rules.specs.Market.{Market}
use Rattle.venue_rules.specs.Readings.{trade_facts}
use Rattle.day_events.specs.declared.event.Event.{Event}
use Rattle.day_events.specs.declared.event.RoomTrade.{RoomTrade}
use Rattle.day_events.specs.declared.event.What.{What}
use Rattle.day_events.specs.declared.event.What.TheVariants as what
use Rattle.day_events.specs.declared.shown.ShownPrice.{ShownPrice}
use Rattle.surveillance.specs.declared.alarm.Alarm.{Alarm}
use Rattle.surveillance.specs.declared.alarm.Figure.TheVariants as figure
use Rattle.surveillance.specs.declared.alarm.Kind.{Kind}
use Rattle.surveillance.specs.declared.alarm.Kind.TheVariants as kind
use Rattle.surveillance.specs.declared.deeds.Act.TheVariants as act
use Rattle.surveillance.specs.declared.deeds.Deed.{Deed}
use Rattle.surveillance.specs.declared.alarm.Others.TheVariants.{None as Nobody, One, Three}
use Rattle.surveillance.specs.declared.shown.Best.{Best}
use Rattle.surveillance.specs.declared.index.Entry.{Entry}
use Rattle.surveillance.specs.declared.thresholds.Thresholds.{Thresholds}
use Rattle.surveillance.specs.Again.{again_alarms}
use Rattle.surveillance.specs.Deeds.{asked_by, asked_times, book_trades, deeds, orders_times, places_from, recipients, times}
use Rattle.surveillance.specs.Index.{Entries, Orders, Places, entries, entry_at, orders, orders_at, place, place_at, reports}
use Rattle.surveillance.specs.ShownBest.{best_in}

-- what trades are looked up in
pub record Looked : Type 0 where
  pub reports : Places
  pub entries : Entries
  pub orders : Orders

-- A trade of a participant with itself, or with a related one. A held side of a cross enters at a row of the clock.

-- both orders of a trade
abbrev pub both : Option Entry → Option Entry → Option (Entry × Entry)
both None sell = None
both (Some buy) None = None
both (Some buy) (Some sell) = Some (buy, sell)

abbrev pub entry_of : Entries → Option ℕ → Option Entry
entry_of ns None = None
entry_of ns (Some order) = entry_at ns order

abbrev pub orders_of : Looked → ℕ → Option (Entry × Entry)
orders_of l trade = both (entry_of l.entries (orders_at l.orders trade).buy) (entry_of l.entries (orders_at l.orders trade).sell)

-- one of them is a held side
abbrev pub has_held : Option (Entry × Entry) → Bool
has_held None = false
has_held (Some p) = p.0.by_clock || p.1.by_clock

abbrev pub parties_alarm : Kind → Places → TradeFact → Alarm
parties_alarm k reports t = record { kind = k; at = place_at reports t.number; who = t.buyer; others = One t.seller; trade = Some t.number; order = None; found = None; base = None; bound = None }

abbrev pub own_kind : Bool → Kind
own_kind true = kind.OwnWithHeld
own_kind false = kind.OwnTrade

abbrev pub party_alarms : ParticipantFile → Looked → TradeFact → List Alarm
party_alarms file l t =
    if t.buyer == t.seller then parties_alarm (own_kind (has_held (orders_of l t.number))) l.reports t ∷ []
    else (if related file t.buyer t.seller then parties_alarm kind.RelatedTrade l.reports t ∷ [] else [])

-- A trade in the book of two linked orders (docs/PROTOCOL.md, "Linked orders"), of which the second entered with a
-- message and at most so long after the delay (17 CFR 37.9(b)(1)).

abbrev pub is_same_link : Option (List ℕ) → Option (List ℕ) → Bool
is_same_link None other = false
is_same_link (Some link) None = false
is_same_link (Some link) (Some other) = bytes_eq link other

abbrev pub are_linked : ParticipantFile → TradeFact → Entry → Entry → Bool
are_linked file t buy sell = t.buyer == t.seller || (related file t.buyer t.seller || is_same_link buy.link sell.link)

abbrev pub delay_at : List Instrument → ℕ → ℕ
delay_at xs x = if nat_lt x (length xs) then delay_of xs x else 0

-- the time between two entries
abbrev pub between : Entry → Entry → ℕ
between a b = (a.at.moment - b.at.moment) + (b.at.moment - a.at.moment)

abbrev pub linked_alarm : ℕ → Places → TradeFact → ℕ → ℕ → Alarm
linked_alarm bound reports t delay ms = record { kind = kind.LinkedSoon; at = place_at reports t.number; who = t.buyer; others = One t.seller; trade = Some t.number; order = None; found = Some (figure.Number (ms - delay)); base = Some delay; bound = Some (figure.Number bound) }

abbrev pub linked_after : ℕ → Places → TradeFact → ℕ → ℕ → List Alarm
linked_after bound reports t delay ms = if nat_le delay ms && nat_le (ms - delay) bound then linked_alarm bound reports t delay ms ∷ [] else []

-- the later of two orders entered at a row of the clock
abbrev pub is_second_held : Entry → Entry → Bool
is_second_held a b = if nat_le a.at.row b.at.row then b.by_clock else a.by_clock

abbrev pub linked_by : ℕ → Market → Places → TradeFact → Option (Entry × Entry) → List Alarm
linked_by bound m reports t None = []
linked_by bound m reports t (Some p) =
    if are_linked m.participants t p.0 p.1 && not (is_second_held p.0 p.1)
    then linked_after bound reports t (delay_at m.instruments t.instrument) (between p.0 p.1) else []

abbrev pub trade_alarms : ℕ → Market → Looked → TradeFact → List Alarm
trade_alarms bound m l t = party_alarms m.participants l t ++ linked_by bound m l.reports t (orders_of l t.number)

abbrev pub trades_alarms : ℕ → Market → Looked → List TradeFact → List Alarm
trades_alarms bound m l ts = flat_map (trade_alarms bound m l) ts

-- An order that is cancelled at most so long after it entered.

abbrev pub soon_alarm : ℕ → Event → ℕ → ℕ → Alarm
soon_alarm bound e order ms = record { kind = kind.CancelledSoon; at = Some (place e); who = e.to; others = Nobody; trade = None; order = Some order; found = Some (figure.Number ms); base = None; bound = Some (figure.Number bound) }

abbrev pub soon_after : ℕ → Event → ℕ → ℕ → List Alarm
soon_after bound e order ms = if nat_le ms bound then soon_alarm bound e order ms ∷ [] else []

abbrev pub soon_by : ℕ → Event → ℕ → Option Entry → List Alarm
soon_by bound e order None = []
soon_by bound e order (Some entry) = soon_after bound e order (e.at.moment - entry.at.moment)

abbrev pub cancel_alarms : ℕ → Entries → Event → Option ℕ → List Alarm
cancel_alarms bound entries e None = []
cancel_alarms bound entries e (Some order) = soon_by bound e order (entry_at entries order)

-- A trade in a request at a worse price for the requester than the book that it was shown with the first quote: a
-- dearer buy than the lowest offer, or a cheaper sale than the highest bid.

abbrev pub below : Option ℤ → ℤ → Option ℤ
below None price = None
below (Some offer) price = if int_lt offer price then Some offer else None

abbrev pub above : Option ℤ → ℤ → Option ℤ
above None price = None
above (Some bid) price = if int_lt price bid then Some bid else None

-- the better price that was shown
abbrev pub better : Side → ℤ → Best → Option ℤ
better Buy price b = below b.offer price
better Sell price b = above b.bid price

abbrev pub worse_by : Event → RoomTrade → Option ℤ → List Alarm
worse_by e t None = []
worse_by e t (Some price) = record { kind = kind.WorseThanShown; at = Some (place e); who = e.to; others = Nobody; trade = Some t.trade; order = None; found = Some (figure.Price t.price); base = None; bound = Some (figure.Price price) } ∷ []

-- the requester is answered with the identifier of its response (693)
abbrev pub worse_alarms : (ℕ → Best) → Event → RoomTrade → Option (List ℕ) → List Alarm
worse_alarms best_of e t None = []
worse_alarms best_of e t (Some response) = worse_by e t (better t.side t.price (best_of t.room))

-- what an event raises, by what each room was shown
abbrev pub event_alarms_by : Thresholds → Entries → (ℕ → Best) → Event → What → List Alarm
event_alarms_by bounds entries best_of e (what.Cancelled order) = cancel_alarms bounds.cancelled_within_ms entries e order
event_alarms_by bounds entries best_of e (what.Traded t) = worse_alarms best_of e t t.response
event_alarms_by bounds entries best_of e _ = []

abbrev pub event_alarms : Thresholds → Entries → (ℕ → Best) → Event → List Alarm
event_alarms bounds entries best_of e = event_alarms_by bounds entries best_of e e.what

abbrev pub events_alarms : Thresholds → Entries → (ℕ → Best) → List Event → List Alarm
events_alarms bounds entries best_of es = flat_map (event_alarms bounds entries best_of) es

-- A ratio of a participant past its bound.

abbrev pub ratio_alarm : Kind → ℕ → ℕ → ℕ → ℕ → Alarm
ratio_alarm k who found base bound = record { kind = k; at = None; who = who; others = Nobody; trade = None; order = None; found = Some (figure.Number found); base = Some base; bound = Some (figure.Number bound) }

-- more orders and replacements than the bound for each trade, where there are enough
abbrev pub orders_alarms : Thresholds → ℕ → ℕ → ℕ → List Alarm
orders_alarms b who orders trades =
    if nat_le b.fewest_for_ratio orders && nat_lt (b.orders_per_trade * trades) orders then ratio_alarm kind.ManyOrders who orders trades b.orders_per_trade ∷ [] else []

-- more of these than the bound in a hundred of those, where there are enough of those
abbrev pub percent_alarms : Kind → ℕ → ℕ → ℕ → ℕ → ℕ → List Alarm
percent_alarms k fewest percent who found base =
    if nat_le fewest base && nat_lt (percent * base) (100 * found) then ratio_alarm k who found base percent ∷ [] else []

abbrev pub cancels_alarms : Thresholds → List Deed → ℕ → List Alarm
cancels_alarms b ds who = percent_alarms kind.ManyCancels b.fewest_for_ratio b.cancelled_percent who (times act.Cancelled who ds) (times act.Entered who ds)

abbrev pub hits_alarms : Thresholds → List Deed → ℕ → List Alarm
hits_alarms b ds who = percent_alarms kind.ManyHits b.fewest_for_ratio b.hit_percent who (times act.Hit who ds) (times act.Quoted who ds)

abbrev pub ratio_alarms : Thresholds → List TradeFact → List Deed → ℕ → List Alarm
ratio_alarms b ts ds who =
    orders_alarms b who (orders_times who ds) (book_trades who ts)
    ++ (cancels_alarms b ds who ++ hits_alarms b ds who)

-- Requests that all go to the same three, though others could be asked, too: three in all were asked (the rules ask
-- each request for three), so the first was asked in each.

abbrev pub could_be_asked : ParticipantFile → ℕ → List ℕ → List ℕ
could_be_asked file who everybody = filter (apart file who) everybody

abbrev pub three_alarm : ℕ → ℕ → List Deed → ℕ → ℕ → ℕ → Alarm
three_alarm fewest who asked a b c = record { kind = kind.SameThree; at = None; who = who; others = Three a b c; trade = None; order = None; found = Some (figure.Number (asked_times asked a)); base = None; bound = Some (figure.Number fewest) }

abbrev pub if_often : ℕ → ℕ → List Deed → ℕ → ℕ → ℕ → List Alarm
if_often fewest who asked a b c = if nat_le fewest (asked_times asked a) then three_alarm fewest who asked a b c ∷ [] else []

abbrev pub three_alarms : ℕ → ℕ → List Deed → List ℕ → List Alarm
three_alarms fewest who asked (a ∷ b ∷ c ∷ []) = if_often fewest who asked a b c
three_alarms fewest who asked others = []

abbrev pub same_alarms : ℕ → ℕ → List Deed → List ℕ → ℕ → List Alarm
same_alarms fewest who asked others could = if nat_lt 3 could then three_alarms fewest who asked others else []

-- of one participant
abbrev pub person_alarms : Thresholds → ParticipantFile → List TradeFact → List Deed → List ℕ → ℕ → List Alarm
person_alarms b file ts ds everybody who =
    ratio_alarms b ts ds who
    ++ same_alarms b.same_three_requests who (asked_by who ds) (recipients everybody (asked_by who ds)) (length (could_be_asked file who everybody))

abbrev pub people_alarms : Thresholds → ParticipantFile → List TradeFact → List Deed → List ℕ → List Alarm
people_alarms b file ts ds everybody = flat_map (person_alarms b file ts ds everybody) everybody

abbrev pub looked : List Event → Looked
looked es = record { reports = reports es; entries = entries es; orders = orders es }

-- all of a day
abbrev pub alarms_of : Thresholds → Market → List TradeFact → List Event → List ShownPrice → List Alarm
alarms_of b m ts es ps =
    trades_alarms b.linked_within_ms m (looked es) ts
    ++ (events_alarms b (entries es) (best_in es ps) es
    ++ (again_alarms es
    ++ people_alarms b m.participants ts (deeds es) (places_from 0 (length m.participants.names))))

abbrev pub alarms : Thresholds → Market → History → List Event → List ShownPrice → List Alarm
alarms b m h es ps = alarms_of b m (trade_facts h.facts) es ps
