-- The accepted crosses of a day, and what became of the side that each holds for the delay (17 CFR 37.9(b)(1)), by what
-- the answers say (`day_events`) and by the messages of the rows.
use Rattle.std.specs.Prelude.{ℕ, ◌+◌, ◌-◌, ◌==◌, ◌&&◌, Bool, true, false, not, nat_lt, min, List, [], ◌∷◌, ◌++◌, length, position, slice_get, slice_set, unwrap_or, bytes_eq, Option, Some, None, if◌then◌else◌}
use Rattle.std.specs.List.{insert, remove}
use Rattle.fix_dictionary.specs.declared.messages.App.{App}
use Rattle.fix_dictionary.specs.declared.messages.App.TheVariants.{NewOrderCross as Cross, OrderCancelRequest as Cancel}
use Rattle.fix_dictionary.specs.declared.messages.NewOrderCross.{NewOrderCross}
use Rattle.instruments.specs.declared.instruments.Instrument.{Instrument}
use Rattle.instruments.specs.Listing.{delay_of, instrument_of}
use Rattle.sef_moment.specs.Utc.{greatest}
use Rattle.venue_rules.specs.declared.trail.Taken.{Taken}
use Rattle.venue_rules.specs.Facts.{is_name}
use Rattle.venue_rules.specs.Run.{Input}
use Rattle.day_events.specs.declared.event.Event.{Event}
use Rattle.day_events.specs.declared.event.FilledOrder.{FilledOrder}
use Rattle.day_events.specs.declared.event.NewOrder.{NewOrder}
use Rattle.day_events.specs.declared.event.What.{What}
use Rattle.day_events.specs.declared.event.What.TheVariants as what
use Rattle.day_events.specs.Days.{taken_in}
use Rattle.cross_sections.specs.declared.crossed.Arrival.{Arrival}
use Rattle.cross_sections.specs.declared.crossed.Crossed.{Crossed}
use Rattle.cross_sections.specs.declared.crossed.End.{End}
use Rattle.cross_sections.specs.declared.crossed.End.TheVariants as ends
use Rattle.cross_sections.specs.declared.crossed.Refusal.{Refusal}
use Rattle.cross_sections.specs.declared.crossed.Terms.{Terms}
use Rattle.cross_sections.specs.declared.crossed.Waiting.{Waiting}
use Rattle.cross_sections.specs.declared.walk.Walk.{Walk}

-- The messages.

abbrev pub taken_by : Option Input → Option Taken
taken_by None = None
taken_by (Some i) = taken_in i

-- that of the row with this number, of the inputs of all rows
abbrev pub taken_at : List Input → ℕ → Option Taken
taken_at read number = taken_by (slice_get read (number - 1))

-- 11 of the side that is not the first
abbrev pub other_side : NewOrderCross → List ℕ → List ℕ
other_side d first = if bytes_eq d.first.order_id first then d.second.order_id else d.first.order_id

-- the terms of a cross whose first side has this identifier
abbrev pub terms_in : List ℕ → App → Option Terms
terms_in first (Cross d) = Some (record { cross = d.cross_id; price = d.price; second = other_side d first })
terms_in first _ = None

abbrev pub terms_of : List ℕ → Option Taken → Option Terms
terms_of first None = None
terms_of first (Some taken) = terms_in first taken.item.app

-- a text of five bytes or more that begins with the type (35) of another message
abbrev pub begins_otherwise : List ℕ → Bool
begins_otherwise (x ∷ y ∷ z ∷ kind ∷ end ∷ rest) = x == 51 && (y == 53 && (z == 61 && not (kind == 115 && end == 1)))
begins_otherwise _ = false

-- what a cancel names (41)
abbrev pub original_in : App → Option (List ℕ)
original_in (Cancel d) = Some d.original_id
original_in _ = None

abbrev pub original_of : Option Taken → Option (List ℕ)
original_of None = None
original_of (Some taken) = original_in taken.item.app

-- The held sides, by due moment, then by arrival: of these the first is the next to enter or to be refused.

abbrev pub first_later : ℕ → List Waiting → Option ℕ
first_later due held = position (λ (k : Waiting). nat_lt due k.due) held

abbrev pub put : Waiting → List Waiting → List Waiting
put side held = insert held (unwrap_or (first_later side.due held) (length held)) side

-- a participant's held side by its identifier
abbrev pub place_of : ℕ → List ℕ → List Waiting → Option ℕ
place_of who id held = position (λ (k : Waiting). is_name who id k.who k.id) held

-- What became of the side that a cross holds.

abbrev pub with_end : End → Crossed → Crossed
with_end end c = record c { end = end }

abbrev pub with_end_by : Option Crossed → ℕ → End → List Crossed → List Crossed
with_end_by None place end cs = cs
with_end_by (Some c) place end cs = slice_set cs place (with_end end c)

-- of the cross at this place
abbrev pub with_end_at : ℕ → End → List Crossed → List Crossed
with_end_at place end cs = with_end_by (slice_get cs place) place end cs

abbrev pub is_order : Option ℕ → Option ℕ → Bool
is_order None other = false
is_order (Some n) None = false
is_order (Some n) (Some m) = n == m

-- a trade of the side as it entered is reported of both orders: it met its first side, or other orders, also one that
-- replaced the first side
abbrev pub arrived_with : Option ℕ → FilledOrder → Arrival → Arrival
arrived_with first x a =
    if is_order x.order first then record a { trade = Some x.trade } else (if is_order x.order a.order then a else record a { others = true })

abbrev pub after_trade : Option ℕ → FilledOrder → End → End
after_trade first x (ends.Entered a) = ends.Entered (arrived_with first x a)
after_trade first x ends.Held = ends.Held
after_trade first x (ends.Cancelled row) = ends.Cancelled row
after_trade first x (ends.Refused r) = ends.Refused r

abbrev pub end_after : FilledOrder → Crossed → End
end_after x c = after_trade c.first.order x c.end

abbrev pub met_by : Option Crossed → ℕ → FilledOrder → List Crossed → List Crossed
met_by None place x cs = cs
met_by (Some c) place x cs = with_end_at place (end_after x c) cs

abbrev pub met : ℕ → FilledOrder → List Crossed → List Crossed
met place x cs = met_by (slice_get cs place) place x cs

-- The day, event by event: the crosses so far, the sides that are held, and the place of the cross whose side was held
-- last.

pub record Crossing : Type 0 where
  pub crosses : List Crossed
  pub held : List Waiting
  pub last : ℕ

abbrev pub walk_of : Walk → Crossing
walk_of w = record { crosses = w.crosses.items; held = w.held.items; last = w.last }

abbrev pub start : Crossing
start = record { crosses = []; held = []; last = 0 }

-- the cross whose first side entered with this event; its other side is due after the delay of the instrument (by the
-- rules also past the last moment)
abbrev pub cross_of : List Instrument → Event → NewOrder → Terms → Crossed
cross_of xs e first terms = record {
  row = e.at.row;
  moment = e.at.moment;
  who = e.to;
  first = first;
  terms = terms;
  due = min (e.at.moment + delay_of xs (instrument_of xs first.symbol)) greatest;
  end = ends.Held;
}

abbrev pub waiting : ℕ → Crossed → Waiting
waiting place c = record { place = place; due = c.due; who = c.who; id = c.terms.second }

abbrev pub held_with : Crossed → Crossing → Crossing
held_with c w = record { crosses = w.crosses ++ c ∷ []; held = put (waiting (length w.crosses) c) w.held; last = w.last }

abbrev pub crossed : List Instrument → Event → NewOrder → Option Terms → Crossing → Crossing
crossed xs e first None w = w
crossed xs e first (Some terms) w = held_with (cross_of xs e first terms) w

-- the side at this place of those that are held is held no more
abbrev pub ended_by : Option Waiting → ℕ → End → Crossing → Crossing
ended_by None place end w = w
ended_by (Some side) place end w = record { crosses = with_end_at side.place end w.crosses; held = remove w.held place; last = side.place }

abbrev pub ended : ℕ → End → Crossing → Crossing
ended place end w = ended_by (slice_get w.held place) place end w

abbrev pub cancelled_at : Option ℕ → ℕ → Crossing → Crossing
cancelled_at None row w = w
cancelled_at (Some place) row w = ended place (ends.Cancelled row) w

-- a held side is cancelled, which has no number, as an order has; the message names it
abbrev pub cancelled : Event → Option ℕ → Option (List ℕ) → Crossing → Crossing
cancelled e (Some order) original w = w
cancelled e None None w = w
cancelled e None (Some id) w = cancelled_at (place_of e.to id w.held) e.at.row w

-- at a row of a message: an order entered, maybe the first side of a cross
abbrev pub at_message : List Instrument → Option Taken → Event → What → Crossing → Crossing
at_message xs taken e (what.Entered x) w = crossed xs e x (terms_of x.id taken) w
at_message xs taken e (what.Cancelled order) w = cancelled e order (original_of taken) w
at_message xs taken e _ w = w

-- at a row of the clock: the first of the held sides enters, and maybe trades, or is refused
abbrev pub at_clock : ℕ → What → Crossing → Crossing
at_clock row (what.Entered x) w = ended 0 (ends.Entered (record { row = row; order = x.order; trade = None; others = false })) w
at_clock row (what.Refused cause) w = ended 0 (ends.Refused (record { row = row; cause = cause })) w
at_clock row (what.Filled x) w = record { crosses = met w.last x w.crosses; held = w.held; last = w.last }
at_clock row _ w = w

abbrev pub step : List Instrument → List Input → Event → Crossing → Crossing
step xs read e w = if e.at.from == 0 then at_clock e.at.row e.what w else at_message xs (taken_at read e.at.row) e e.what w

abbrev pub walked : List Instrument → List Input → List Event → Crossing → Crossing
walked xs read [] w = w
walked xs read (e ∷ es) w = walked xs read es (step xs read e w)

-- the accepted crosses of a day, by the inputs of all its rows and by its events
abbrev pub crosses : List Instrument → List Input → List Event → List Crossed
crosses xs read es = (walked xs read es start).crosses
