-- What became of a quote, by the events of the day: it was withdrawn or passed, or else what its room says first.
use Rattle.std.specs.Prelude.{ℕ, ◌==◌, Bool, true, false, ◌&&◌, not, nat_lt, List, [], ◌∷◌, bytes_eq, Option, Some, None, if◌then◌else◌}
use Rattle.venue_rules.specs.Rooms.{printed}
use Rattle.day_events.specs.declared.event.Event.{Event}
use Rattle.day_events.specs.declared.event.NewQuote.{NewQuote}
use Rattle.day_events.specs.declared.event.Origin.{Origin}
use Rattle.day_events.specs.declared.event.RoomTrade.{RoomTrade}
use Rattle.day_events.specs.declared.event.What.{What}
use Rattle.day_events.specs.declared.event.What.TheVariants as what
use Rattle.request_sections.specs.declared.fate.Fate.{Fate}
use Rattle.request_sections.specs.declared.fate.Fate.TheVariants.{Live, Hit, Withdrawn, Passed, Replaced, NotTaken, RanOut}
use Rattle.request_sections.specs.declared.fate.Quoted.{Quoted}
use Rattle.request_sections.specs.Picks.{names_room}

-- the venue's identifier of a quote, as Q3
abbrev pub names_quote : ℕ → Option (List ℕ) → Bool
names_quote n None = false
names_quote n (Some id) = bytes_eq (printed 81 n) id

-- a trade in its room, by a hit of this quote or of another
abbrev pub traded : Quoted → Option (List ℕ) → RoomTrade → Option Fate
traded q named t = if not (t.room == q.room) then None else (if names_quote q.quote named then Some (Hit t.trade) else Some NotTaken)

-- a later quote of its maker in its room
abbrev pub replaced : Quoted → ℕ → Option (List ℕ) → NewQuote → Option Fate
replaced q from named n = if nat_lt q.quote n.quote && (from == q.from && names_room q.room named) then Some (Replaced n.quote) else None

-- what ends a quote of its room
abbrev pub decided : Quoted → Origin → What → Option Fate
decided q o (what.Traded t) = traded q o.named t
decided q o (what.Quoted n) = replaced q o.from o.named n
decided q o _ = None

-- by then it may have run out
abbrev pub in_time : Quoted → ℕ → Option Fate → Option Fate
in_time q t None = None
in_time q t (Some f) = if nat_lt q.end t then Some RanOut else Some f

abbrev pub fate_at : Quoted → Event → Option Fate
fate_at q e = in_time q e.at.moment (decided q e.at e.what)

abbrev pub at_end : Quoted → Option ℕ → Fate
at_end q None = Live
at_end q (Some last) = if nat_lt q.end last then RanOut else Live

abbrev pub first_or : Option Fate → Fate → Fate
first_or (Some f) later = f
first_or None later = later

-- by what its room says, by the moment of the last row
abbrev pub in_room : Quoted → Option ℕ → List Event → Fate
in_room q last [] = at_end q last
in_room q last (e ∷ es) = first_or (fate_at q e) (in_room q last es)

-- Its maker withdrew it, or the requester passed it: only a live quote is, so that nothing else ended it.

abbrev pub withdrawn : Quoted → ℕ → Option (List ℕ) → Option Fate
withdrawn q row id = if names_quote q.quote id then Some (Withdrawn row) else None

abbrev pub passed : Quoted → ℕ → Option (List ℕ) → Option Fate
passed q row named = if names_quote q.quote named then Some (Passed row) else None

abbrev pub ended : Quoted → Origin → What → Option Fate
ended q o (what.Withdrawn id) = withdrawn q o.row id
ended q o what.Passed = passed q o.row o.named
ended q o _ = None

abbrev pub or_later : Option Fate → Option Fate → Option Fate
or_later (Some f) later = Some f
or_later None later = later

abbrev pub end_in : Quoted → List Event → Option Fate
end_in q [] = None
end_in q (e ∷ es) = or_later (ended q e.at e.what) (end_in q es)

-- by what is said of its room, and by all that the day says
abbrev pub outcome_of : Quoted → Option ℕ → List Event → List Event → Fate
outcome_of q last said all = first_or (end_in q all) (in_room q last said)
