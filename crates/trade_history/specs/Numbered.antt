use Rattle.std.specs.Prelude.{◌≡◌, List, [], ◌∷◌, ◌++◌, is_some, true}
use Rattle.venue_rules.specs.declared.facts.Fact.{Fact}
use Rattle.venue_rules.specs.declared.facts.Fact.TheVariants.{Asked, Quoted}
use Rattle.venue_rules.specs.Facts.{next_quote, next_room}
use Rattle.venue_rules.specs.Rooms.{room_by_number}

-- after these facts a request has the next room's number; a quote has the next quote's, and the number of an earlier
-- request
abbrev pub IsNext : List Fact → Fact → Type 0
IsNext before (Asked r) = r.number ≡ next_room before
IsNext before (Quoted q) = (q.number ≡ next_quote before) × (is_some (room_by_number before q.room) ≡ true)
IsNext before _ = Unit {0}

-- so does each following fact
abbrev pub AreNext : List Fact → List Fact → Type 0
AreNext before [] = Unit {0}
AreNext before (f ∷ fs) = IsNext before f × AreNext (before ++ f ∷ []) fs

-- the requests and quotes of a day are numbered in order, and each quote is in a room asked for before it
abbrev pub AreNumbered : List Fact → Type 0
AreNumbered facts = AreNext [] facts
