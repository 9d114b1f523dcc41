use Rattle.std.specs.Prelude.{ℕ, Bool, true, false, ◌&&◌, ◌==◌, List, [], ◌∷◌, map, filter, filter_map, Option, Some, None, bytes_eq}
use Rattle.fix_dictionary.specs.declared.messages.Party.{Party}
use Rattle.participants.specs.ParticipantFile.{ParticipantFile}
use Rattle.participants.specs.Relations.{find_participant}
use Rattle.venue_rules.specs.declared.facts.Fact.{Fact}
use Rattle.venue_rules.specs.declared.facts.Room.{Room}
use Rattle.venue_rules.specs.declared.facts.RoomQuote.{RoomQuote}
use Rattle.venue_rules.specs.Facts.{is_name, quote_in, quotes, room_in, rooms}
use Rattle.venue_rules.specs.Rooms.{is_live, is_open}

-- the cause of the first test that holds
abbrev pub first_cause : {C : Type 0} → List (Bool × C) → Option C
first_cause [] = None
first_cause (c ∷ cs) = elim c.0 [ true ↦ Some c.1 | false ↦ first_cause cs ]

-- a fact of the kind, with this property
abbrev pub holds_of : {X : Type 0} → (X → Bool) → Option X → Bool
holds_of p None = false
holds_of p (Some x) = p x

-- a request, or a quote, of this participant with this identifier
abbrev pub is_request_of : ℕ → List ℕ → Fact → Bool
is_request_of who id f = holds_of (λ r. is_name who id r.requester r.id) (room_in f)

abbrev pub is_quote_of : ℕ → List ℕ → Fact → Bool
is_quote_of who id f = holds_of (λ q. is_name who id q.maker q.id) (quote_in f)

-- a quote in this room
abbrev pub is_quote_in : ℕ → Fact → Bool
is_quote_in room f = holds_of (λ q. q.room == room) (quote_in f)

-- the rooms that the second facts open, filtered to those open after the first
abbrev pub open_of : List Fact → ℕ → List Fact → List Room
open_of all t facts = filter (is_open all t) (rooms facts)

-- an identifier is the named one, if any
abbrev pub is_named : List ℕ → Option (List ℕ) → Bool
is_named id None = true
is_named id (Some named) = bytes_eq id named

-- a quote of the second facts that is the maker's, live after the first, and named
abbrev pub is_taken : List Fact → ℕ → ℕ → Option (List ℕ) → RoomQuote → Bool
is_taken all maker t named q = (q.maker == maker && is_live all t q) && is_named q.id named

abbrev pub taken_of : List Fact → ℕ → ℕ → Option (List ℕ) → List Fact → List RoomQuote
taken_of all maker t named facts = filter (is_taken all maker t named) (quotes facts)

-- a party with source D and role 35
abbrev pub is_recipient : Party → Bool
is_recipient p = p.source == 68 && p.role == 35

-- the places of these parties' recipients: each, or none outside of the file; and those in the file
abbrev pub places_of : ParticipantFile → List Party → List (Option ℕ)
places_of file parties = map (λ p. find_participant file p.id) (filter is_recipient parties)

abbrev pub recipients_of : ParticipantFile → List Party → List ℕ
recipients_of file parties = filter_map (λ r. r) (places_of file parties)
