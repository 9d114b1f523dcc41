-- The next order of the same participant, instrument and side after one that was refused, since a linked one was too
-- recent (17 CFR 37.9(b)(1)): it enters or is refused again, whatever its price, size and time.
use Rattle.std.specs.Prelude.{ℕ, ◌==◌, ◌&&◌, ◌-◌, Bool, List, [], ◌∷◌, ◌++◌, bytes_eq, Option, Some, None, if◌then◌else◌}
use Rattle.fix_dictionary.specs.declared.values.Side.{Side}
use Rattle.venue_rules.specs.Book.{is_side}
use Rattle.day_events.specs.declared.event.Event.{Event}
use Rattle.day_events.specs.declared.event.What.{What}
use Rattle.day_events.specs.declared.event.What.TheVariants as what
use Rattle.surveillance.specs.declared.again.Sent.{Sent}
use Rattle.surveillance.specs.declared.alarm.Alarm.{Alarm}
use Rattle.surveillance.specs.declared.alarm.Figure.TheVariants as figure
use Rattle.surveillance.specs.declared.alarm.Kind.TheVariants as kind
use Rattle.surveillance.specs.declared.alarm.Others.TheVariants.{None as Nobody}
use Rattle.surveillance.specs.Index.{place}

-- an order that a message sends: it enters, or is refused as too recent

abbrev pub order_sent : Event → List ℕ → Side → Option ℕ → Sent
order_sent e symbol side order = record { at = place e; who = e.to; symbol = symbol; side = side; order = order }

abbrev pub sent_what : Event → What → Option Sent
sent_what e (what.Entered x) = Some (order_sent e x.symbol x.side x.order)
sent_what e (what.TooRecent x) = Some (order_sent e x.symbol x.side None)
sent_what e _ = None

-- a held side, which enters or is refused at a row of the clock, was sent before
abbrev pub sent_by : Event → Option Sent
sent_by e = if e.at.from == 0 then None else sent_what e e.what

abbrev pub is_alike : Sent → Sent → Bool
is_alike a b = a.who == b.who && (bytes_eq a.symbol b.symbol && is_side a.side b.side)

-- those refused that wait for the next one

abbrev pub without : Sent → List Sent → List Sent
without x [] = []
without x (r ∷ rs) = if is_alike r x then without x rs else r ∷ without x rs

abbrev pub find_alike : Sent → List Sent → Option Sent
find_alike x [] = None
find_alike x (r ∷ rs) = if is_alike r x then Some r else find_alike x rs

abbrev pub sent_again : Sent → Sent → Alarm
sent_again x r = record { kind = kind.SentAgain; at = Some x.at; who = x.who; others = Nobody; trade = None; order = x.order; found = Some (figure.Number (x.at.moment - r.at.moment)); base = Some r.at.row; bound = None }

abbrev pub again_alarm : Sent → Option Sent → List Alarm
again_alarm x None = []
again_alarm x (Some r) = sent_again x r ∷ []

abbrev pub raised : List Sent → Option Sent → List Alarm
raised rs None = []
raised rs (Some x) = again_alarm x (find_alike x rs)

-- a refused one waits, and an earlier one alike no longer

abbrev pub if_refused : What → Sent → List Sent
if_refused (what.TooRecent r) x = x ∷ []
if_refused _ x = []

abbrev pub waiting : List Sent → What → Option Sent → List Sent
waiting rs w None = rs
waiting rs w (Some x) = without x rs ++ if_refused w x

abbrev pub again_from : List Sent → List Event → List Alarm
again_from rs [] = []
again_from rs (e ∷ es) = raised rs (sent_by e) ++ again_from (waiting rs e.what (sent_by e)) es

-- of a day
abbrev pub again_alarms : List Event → List Alarm
again_alarms es = again_from [] es
