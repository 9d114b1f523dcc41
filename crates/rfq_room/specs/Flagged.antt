use Rattle.std.specs.Prelude.{◌≡◌, ℕ, ◌≤◌, Bool, not, ◌&&◌, nat_eq, nat_le, List, length, All, IfSome, is_some, filter_map, option_map, Option, Some, None}
use Rattle.std.specs.List.{count_by, list_any}
use Rattle.client_ids.specs.declared.client_id.ClientId.{ClientId}
use Rattle.client_ids.specs.ClientIds.{is_of}
use Rattle.venue_rules.specs.declared.facts.Fact.{Fact}
use Rattle.venue_rules.specs.declared.facts.Fact.TheVariants.{Asked, Quoted, Withdrawn, Closed}
use Rattle.venue_rules.specs.Facts.{quote_in, room_in}
use Rattle.venue_rules.specs.Rooms.{is_closed, last_quote}
use Rattle.rfq_room.specs.declared.room_index.FlagKind.{FlagKind}
use Rattle.rfq_room.specs.declared.room_index.FlagKind.TheVariants as flag
use Rattle.rfq_room.specs.declared.room_index.IdKind.{IdKind}
use Rattle.rfq_room.specs.declared.room_index.IdKind.TheVariants as named
use Rattle.rfq_room.specs.declared.room_index.RoomIndex.TheInside.{Inside}
use Rattle.rfq_room.specs.Contents.{Contents}
use Rattle.rfq_room.specs.Flags.{IsWithin, is_set}
use Rattle.rfq_room.specs.LastQuotes.{last_in}

-- the number that a fact flags: of a room that has traded, of a withdrawn quote, of a room with a quote
abbrev pub number_in : FlagKind → Fact → Option ℕ
number_in flag.Traded (Closed c) = Some c.room
number_in flag.Traded _ = None
number_in flag.Withdrawn (Withdrawn w) = Some w.quote
number_in flag.Withdrawn _ = None
number_in flag.Quoted (Quoted q) = Some q.room
number_in flag.Quoted _ = None

abbrev pub numbers_in : FlagKind → List Fact → List ℕ
numbers_in m facts = filter_map (number_in m) facts

-- the facts flag a number
abbrev pub is_flagged : FlagKind → List Fact → ℕ → Bool
is_flagged m facts n = list_any (nat_eq n) (numbers_in m facts)

-- a fact gives a number of the flag's kind: a room's, or a quote's
abbrev pub is_numbered : FlagKind → Fact → Bool
is_numbered flag.Traded fact = is_some (room_in fact)
is_numbered flag.Withdrawn fact = is_some (quote_in fact)
is_numbered flag.Quoted fact = is_some (room_in fact)

-- the count of such numbers that facts give
abbrev pub count_of : FlagKind → List Fact → ℕ
count_of m facts = count_by (is_numbered m) facts

-- a fact flags a number up to a count, and added facts flag numbers given before
abbrev pub IsThere : ℕ → FlagKind → Fact → Type 0
IsThere count m fact = IfSome (number_in m fact) (IsWithin count)

abbrev pub AreThere : List Fact → List Fact → Type 0
AreThere facts added = (m : FlagKind) → All (IsThere (count_of m facts) m) added

-- the identifier that a fact uses: of a request, of a quote
abbrev pub name_in : IdKind → Fact → Option ClientId
name_in named.Requests (Asked r) = Some (record { who = r.requester; id = r.id })
name_in named.Requests _ = None
name_in named.Quotes (Quoted q) = Some (record { who = q.maker; id = q.id })
name_in named.Quotes _ = None

abbrev pub names_in : IdKind → List Fact → List ClientId
names_in n facts = filter_map (name_in n) facts

-- the number of the last quote of a maker in a room
abbrev pub last_number : List Fact → ℕ → ℕ → Option ℕ
last_number facts room maker = option_map (λ q. q.number) (last_quote facts room maker)

-- a room with this number and end is open at t
abbrev pub still_open : List Fact → ℕ → ℕ → ℕ → Bool
still_open facts t room end = not (is_closed facts room) && nat_le t end

abbrev pub contents : Inside → Contents
contents m = record { facts = m.past; spare = record { headroom = m.headroom } }

-- the flags are those of the facts, one for each number that they give
pub record AreFlagged (m : Inside) : Type 0 where
  pub traded : (n : ℕ) → is_set m.traded.flags n ≡ is_flagged flag.Traded m.past n
  pub withdrawn : (n : ℕ) → is_set m.withdrawn.flags n ≡ is_flagged flag.Withdrawn m.past n
  pub quoted : (n : ℕ) → is_set m.quoted.flags n ≡ is_flagged flag.Quoted m.past n
  pub traded_count : length m.traded.flags ≡ count_of flag.Traded m.past
  pub withdrawn_count : length m.withdrawn.flags ≡ count_of flag.Withdrawn m.past
  pub quoted_count : length m.quoted.flags ≡ count_of flag.Quoted m.past
  pub lasts : (room maker : ℕ) → last_in m.lasts.entries room maker ≡ last_number m.past room maker
  pub requests : (who : ℕ) (id : List ℕ) → list_any (is_of who id) m.requests.names ≡ list_any (is_of who id) (names_in named.Requests m.past)
  pub quotes : (who : ℕ) (id : List ℕ) → list_any (is_of who id) m.quotes.names ≡ list_any (is_of who id) (names_in named.Quotes m.past)
  pub traded_headroom : m.headroom ≤ m.traded.headroom
  pub withdrawn_headroom : m.headroom ≤ m.withdrawn.headroom
  pub quoted_headroom : m.headroom ≤ m.quoted.headroom
  pub lasts_headroom : m.headroom ≤ m.lasts.headroom
  pub requests_headroom : m.headroom ≤ m.requests.headroom
  pub quotes_headroom : m.headroom ≤ m.quotes.headroom
