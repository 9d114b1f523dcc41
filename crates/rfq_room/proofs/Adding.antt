use Rattle.std.proofs.Common.{◌≡◌, ap, ◌∙◌, ℕ, ◌+◌, ◌<◌, List, [], ◌∷◌, ◌++◌, length, get_or, take, map, Option, Some, None, append_assoc}
use Rattle.std.specs.List.{cons_option}
use Rattle.std.proofs.lemmas.List.{append-nil, map-append}
use Rattle.std.proofs.lemmas.List.Elements.{filter_map-append}
use Rattle.venue_rules.specs.declared.facts.Fact.{Fact}
use Rattle.venue_rules.specs.declared.facts.Room.{Room}
use Rattle.venue_rules.specs.declared.facts.RoomQuote.{RoomQuote}
use Rattle.venue_rules.specs.Facts.{quote_in, quotes, room_in, rooms}
use Rattle.rfq_room.specs.Openness.{open_room}
use Rattle.rfq_room.proofs.Readings.{take-read}

-- The rooms and quotes of a further fact.

quotes-more : (fs : List Fact) (i : ℕ) (f : Fact) → i < length fs → f ≡ get_or fs i f → quotes (take (i + 1) fs) ≡ quotes (take i fs) ++ cons_option (quote_in f) []
quotes-more fs i f h e = ap quotes (take-read fs i f h e) ∙ filter_map-append quote_in (take i fs) (f ∷ [])

pub quotes-some : (fs : List Fact) (i : ℕ) (f : Fact) (q : RoomQuote) → i < length fs → f ≡ get_or fs i f → quote_in f ≡ Some q → quotes (take (i + 1) fs) ≡ quotes (take i fs) ++ q ∷ []
quotes-some fs i f q h e some = quotes-more fs i f h e ∙ ap (λ o. quotes (take i fs) ++ cons_option o []) some

pub quotes-none : (fs : List Fact) (i : ℕ) (f : Fact) → i < length fs → f ≡ get_or fs i f → quote_in f ≡ None → quotes (take (i + 1) fs) ≡ quotes (take i fs)
quotes-none fs i f h e none = quotes-more fs i f h e ∙ ap (λ o. quotes (take i fs) ++ cons_option o []) none ∙ append-nil (quotes (take i fs))

pub ruleset quotes_on = (quotes-some, quotes-none, append_assoc)

rooms-more : (fs : List Fact) (i : ℕ) (f : Fact) → i < length fs → f ≡ get_or fs i f → rooms (take (i + 1) fs) ≡ rooms (take i fs) ++ cons_option (room_in f) []
rooms-more fs i f h e = ap rooms (take-read fs i f h e) ∙ filter_map-append room_in (take i fs) (f ∷ [])

pub open-some : (fs : List Fact) (i : ℕ) (f : Fact) (r : Room) → i < length fs → f ≡ get_or fs i f → room_in f ≡ Some r → map open_room (rooms (take (i + 1) fs)) ≡ map open_room (rooms (take i fs)) ++ open_room r ∷ []
open-some fs i f r h e some = ap (map open_room) (rooms-more fs i f h e ∙ ap (λ o. rooms (take i fs) ++ cons_option o []) some) ∙ map-append open_room (rooms (take i fs)) (r ∷ [])

pub open-none : (fs : List Fact) (i : ℕ) (f : Fact) → i < length fs → f ≡ get_or fs i f → room_in f ≡ None → map open_room (rooms (take (i + 1) fs)) ≡ map open_room (rooms (take i fs))
open-none fs i f h e none = ap (map open_room) (rooms-more fs i f h e ∙ ap (λ o. rooms (take i fs) ++ cons_option o []) none ∙ append-nil (rooms (take i fs)))

pub ruleset open_on = (open-some, open-none, append_assoc)
