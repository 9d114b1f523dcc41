-- The timeline of a request: how long each quote was live, in parts of 10,000 of the time that is drawn.
use Rattle.std.specs.Prelude.{ℕ, ◌-◌, ◌*◌, ◌/◌, ◌==◌, Bool, true, false, List, [], ◌∷◌, decimal, min, nat_lt, Option, Some, None, if◌then◌else◌}
use Rattle.page_text.specs.Parts.{Part}
use Rattle.day_events.specs.declared.event.Event.{Event}
use Rattle.day_events.specs.declared.event.What.{What}
use Rattle.day_events.specs.declared.event.What.TheVariants as what
use Rattle.day_tables.specs.Parts.{plain_part}
use Rattle.request_sections.specs.declared.fate.Fate.{Fate}
use Rattle.request_sections.specs.declared.fate.Quoted.{Quoted}
use Rattle.request_sections.specs.declared.lives.Axis.{Axis}
use Rattle.request_sections.specs.declared.template.TheConstants.{HIT_AT, LIFE, LIFE_END}
use Rattle.request_sections.specs.Fate.{decided, ended}

-- Until when a quote was live.

abbrev pub moment_if : Option Fate → ℕ → Option ℕ → Option ℕ
moment_if (Some f) t later = Some t
moment_if None t later = later

-- when it was withdrawn or passed
abbrev pub end_moment : Quoted → List Event → Option ℕ
end_moment q [] = None
end_moment q (e ∷ es) = moment_if (ended q e.at e.what) e.at.moment (end_moment q es)

-- when its room decided it
abbrev pub room_moment : Quoted → List Event → Option ℕ
room_moment q [] = None
room_moment q (e ∷ es) = moment_if (decided q e.at e.what) e.at.moment (room_moment q es)

abbrev pub or_last : Option ℕ → Option ℕ → Option ℕ
or_last (Some t) last = Some t
or_last None last = last

abbrev pub capped : ℕ → Option ℕ → ℕ
capped end None = end
capped end (Some t) = min end t

abbrev pub moment_or : Option ℕ → ℕ → ℕ
moment_or (Some t) later = t
moment_or None later = later

abbrev pub live_until : Quoted → Option ℕ → List Event → List Event → ℕ
live_until q last said all = moment_or (end_moment q all) (capped q.end (or_last (room_moment q said) last))

-- The time that is drawn: from the request until the hit, which is at 9,000; or else until the last of its
-- quotes, and of their stated ends.

abbrev pub greater : ℕ → ℕ → ℕ
greater a b = if nat_lt a b then b else a

abbrev pub stated_end : What → ℕ
stated_end (what.Quoted q) = q.end
stated_end _ = 0

abbrev pub latest : ℕ → List Event → ℕ
latest t [] = t
latest t (e ∷ es) = latest (greater t (greater e.at.moment (stated_end e.what))) es

abbrev pub axis_of : ℕ → Option ℕ → List Event → Axis
axis_of start (Some hit) quotes = record { start = start; span = hit - start; parts = 9000; traded = true }
axis_of start None quotes = record { start = start; span = latest start quotes - start; parts = 10000; traded = false }

abbrev pub at_least_one : ℕ → ℕ
at_least_one n = if n == 0 then 1 else n

abbrev pub place : Axis → ℕ → ℕ
place a t = min ((t - a.start) * a.parts / at_least_one a.span) 10000

-- a bar from the quote to the end of its life, and a line on to its stated end
abbrev pub life_part : Axis → ℕ → ℕ → ℕ → Part
life_part a from until end = record {
  template = LIFE.now;
  values = decimal (place a from) ∷ decimal (place a end) ∷ decimal (place a from) ∷ decimal (place a until - place a from) ∷ [];
}

abbrev pub end_part : Bool → Part
end_part true = plain_part HIT_AT.now
end_part false = plain_part LIFE_END.now
