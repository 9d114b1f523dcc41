-- The keys by which events are filed, so that those of a room, and the end of a quote, are found without a walk over
-- all.
use Rattle.std.specs.Prelude.{◌≡◌, ℕ, ◌+◌, ◌*◌, ◌%◌, ◌^◌, ◌==◌, Bool, false, List, [], ◌∷◌, filter, length, slice_get, Option, Some, None}
use Rattle.venue_rules.specs.Rooms.{printed}
use Rattle.day_events.specs.declared.event.Event.{Event}
use Rattle.day_events.specs.declared.event.What.{What}
use Rattle.day_events.specs.declared.event.What.TheVariants as what
use Rattle.request_sections.specs.declared.keys.By.{By}
use Rattle.request_sections.specs.declared.keys.By.TheVariants as by

-- of an identifier; no promise depends on its value
abbrev pub name_on : ℕ → List ℕ → ℕ
name_on m [] = m
name_on m (b ∷ bs) = name_on (((m * 10) % 2 ^ 64 + b) % 2 ^ 64) bs

abbrev pub name_key : List ℕ → ℕ
name_key name = name_on 0 name

abbrev pub named_key : Option (List ℕ) → Option ℕ
named_key None = None
named_key (Some id) = Some (name_key id)

abbrev pub room_key : ℕ → ℕ
room_key n = name_key (printed 82 n)

abbrev pub quote_key : ℕ → ℕ
quote_key n = name_key (printed 81 n)

-- a request, a quote and a trade by their room, and a refused message by what it names
abbrev pub by_room : Option (List ℕ) → What → Option ℕ
by_room named (what.Asked x) = Some (room_key x.room)
by_room named (what.Quoted x) = named_key named
by_room named (what.Traded x) = Some (room_key x.room)
by_room named (what.Refused x) = named_key named
by_room named _ = None

-- a withdrawn or passed quote by its identifier
abbrev pub by_quote : Option (List ℕ) → What → Option ℕ
by_quote named (what.Withdrawn id) = named_key id
by_quote named what.Passed = named_key named
by_quote named _ = None

abbrev pub key_of : By → Event → Option ℕ
key_of by.Room e = by_room e.at.named e.what
key_of by.Quote e = by_quote e.at.named e.what

-- a key is of this bucket, of that many
abbrev pub in_bucket : ℕ → ℕ → Option ℕ → Bool
in_bucket n b None = false
in_bucket n b (Some k) = k % n == b

-- each bucket has the events whose key is of it, in order
abbrev pub AreFiled : By → List Event → List (List Event) → Type 0
AreFiled x es buckets = (b : ℕ) (kept : List Event) → slice_get buckets b ≡ Some kept → kept ≡ filter (λ e. in_bucket (length buckets) b (key_of x e)) es
