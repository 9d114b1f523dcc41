-- What was refused in a request: messages that name it or a quote of it. A quote names its request (131), a response
-- its quote (117); each has an identifier of its own. An order that names a link (583) has none here.
use Rattle.std.specs.Prelude.{ℕ, ◌==◌, ◌&&◌, Bool, true, false, List, [], ◌∷◌, ◌++◌, bytes_eq, filter, is_some, length, nat_lt, Option, Some, None, if◌then◌else◌}
use Rattle.std.specs.List.{flat_map}
use Rattle.page_text.specs.Parts.{Part}
use Rattle.participants.specs.ParticipantFile.{ParticipantFile}
use Rattle.sef_moment.specs.Utc.{utc_text}
use Rattle.venue_rules.specs.Rooms.{printed}
use Rattle.day_events.specs.declared.event.Event.{Event}
use Rattle.day_events.specs.declared.event.What.{What}
use Rattle.day_events.specs.declared.event.What.TheVariants as what
use Rattle.day_tables.specs.Parts.{plain_part}
use Rattle.day_tables.specs.Values.{clock_text}
use Rattle.day_sections.specs.Refusals.{cause_text}
use Rattle.day_sections.specs.Values.{or_empty, row_part, sender_of}
use Rattle.request_sections.specs.declared.template.TheConstants.{ASKED_END, REFUSED, REFUSED_END, REFUSED_HERE}

abbrev pub is_refused : What → Bool
is_refused (what.Refused x) = true
is_refused _ = false

abbrev pub is_name : List ℕ → Option (List ℕ) → Bool
is_name id None = false
is_name id (Some named) = bytes_eq id named

-- a refused message behind this row that names this
abbrev pub refuses : ℕ → List ℕ → Event → Bool
refuses row id e = is_refused e.what && (nat_lt row e.at.row && (is_some e.at.own && is_name id e.at.named))

abbrev pub refused_of : ℕ → List ℕ → List Event → List Event
refused_of row id es = filter (refuses row id) es

abbrev pub quote_refused : ℕ → What → List Event → List Event
quote_refused row (what.Quoted q) es = refused_of row (printed 81 q.quote) es
quote_refused row _ es = []

-- those that name the request, behind its row, and then, quote by quote, those that name a quote of it, behind its row
abbrev pub refused_in : ℕ → ℕ → List Event → List Event → List Event
refused_in row room quotes es = refused_of row (printed 82 room) es ++ flat_map (λ (q : Event). quote_refused q.at.row q.what es) quotes

-- The parts.

abbrev pub cause_of : What → List ℕ
cause_of (what.Refused cause) = cause_text cause
cause_of _ = []

-- whose message, what it named, when, why, and its row
abbrev pub refused_part : ParticipantFile → Bool → Event → Part
refused_part file dated e = record {
  template = REFUSED.now;
  values = sender_of file e.at.from ∷ or_empty e.at.named ∷ clock_text dated (utc_text e.at.moment) ∷ cause_of e.what ∷ [];
}

abbrev pub refused_parts : ParticipantFile → Bool → Bool → Event → List Part
refused_parts file dated linked e = refused_part file dated e ∷ row_part linked e.at.row ∷ plain_part REFUSED_END.now ∷ []

abbrev pub some_refused : ParticipantFile → Bool → Bool → List Event → List Part
some_refused file dated linked es = plain_part REFUSED_HERE.now ∷ flat_map (refused_parts file dated linked) es

abbrev pub if_refused : ParticipantFile → Bool → Bool → List Event → List Part
if_refused file dated linked es = if length es == 0 then [] else some_refused file dated linked es

abbrev pub refused_section : ParticipantFile → Bool → Bool → List Event → List Part
refused_section file dated linked es = if_refused file dated linked es ++ plain_part ASKED_END.now ∷ []
