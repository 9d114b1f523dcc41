-- What is counted of a day's events.
use Rattle.std.specs.Prelude.{ℕ, ◌+◌, ◌==◌, Bool, true, false, ◌&&◌, not, is_none, Option, Some, None, if◌then◌else◌}
use Rattle.venue_rules.specs.declared.trail.TrailRow.{TrailRow}
use Rattle.day_events.specs.declared.event.Event.{Event}
use Rattle.day_events.specs.declared.event.What.{What}
use Rattle.day_events.specs.declared.event.What.TheVariants as what
use Rattle.day_sections.specs.declared.counts.Kind.{Kind}
use Rattle.day_sections.specs.declared.counts.Kind.TheVariants as kind

-- an order that entered
abbrev pub is_entered : What → Bool
is_entered (what.Entered x) = true
is_entered _ = false

-- an order that was replaced
abbrev pub is_replaced : What → Bool
is_replaced (what.Replaced x) = true
is_replaced _ = false

-- an order that was cancelled
abbrev pub is_cancelled : What → Bool
is_cancelled (what.Cancelled x) = true
is_cancelled _ = false

-- the refusal of a row
abbrev pub is_refused : What → Bool
is_refused (what.Refused x) = true
is_refused _ = false

-- a quote
abbrev pub is_quoted : What → Bool
is_quoted (what.Quoted x) = true
is_quoted _ = false

-- a hit, as the maker is answered
abbrev pub is_hit : What → Bool
is_hit (what.Traded x) = is_none x.response
is_hit _ = false

-- a request, as a recipient is asked
abbrev pub is_asked : What → Bool
is_asked (what.Asked x) = true
is_asked _ = false

-- an event of this kind
abbrev pub is_counted : Kind → What → Bool
is_counted kind.Entered w = is_entered w
is_counted kind.Replaced w = is_replaced w
is_counted kind.Cancelled w = is_cancelled w
is_counted kind.Refused w = is_refused w
is_counted kind.Quotes w = is_quoted w
is_counted kind.Hits w = is_hit w
is_counted kind.Asked w = is_asked w

-- a quote is of its maker, who sent it; all else is of whom it was sent to
abbrev pub is_of_sender : Kind → Bool
is_of_sender kind.Entered = false
is_of_sender kind.Replaced = false
is_of_sender kind.Cancelled = false
is_of_sender kind.Refused = false
is_of_sender kind.Quotes = true
is_of_sender kind.Hits = false
is_of_sender kind.Asked = false

-- of the participant at this place
abbrev pub is_his : Kind → ℕ → Event → Bool
is_his k place e = if is_of_sender k then e.at.from == place + 1 else e.to == place

abbrev pub counts : Kind → Option ℕ → Event → Bool
counts k None e = is_counted k e.what
counts k (Some place) e = is_counted k e.what && is_his k place e

-- a message, of the participant at this place, or of any
abbrev pub is_sent : Option ℕ → TrailRow → Bool
is_sent None r = not (r.who == 0)
is_sent (Some place) r = r.who == place + 1
