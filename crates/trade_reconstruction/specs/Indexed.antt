-- Events by key, so that what belongs to a trade is looked up without a walk over all events of the day.
use Rattle.std.specs.Prelude.{◌≡◌, ℕ, ◌+◌, ◌*◌, ◌%◌, ◌^◌, ◌<◌, ◌==◌, Bool, false, List, [], ◌∷◌, All, filter, length, slice_get, Option, Some, None}
use Rattle.std.specs.List.{flat_map}
use Rattle.trade_reconstruction.specs.declared.evidence_event.EventKind.{EventKind}
use Rattle.trade_reconstruction.specs.declared.evidence_event.EventKind.TheVariants as said
use Rattle.trade_reconstruction.specs.declared.evidence_event.EvidenceEvent.{EvidenceEvent}
use Rattle.trade_reconstruction.specs.declared.key.Key.{Key}
use Rattle.trade_reconstruction.specs.declared.key.Key.TheVariants.{First, Second}

-- the key of somebody's identifier; no promise depends on its value
abbrev pub name_key : ℕ → List ℕ → ℕ
name_key m [] = m
name_key m (b ∷ bs) = name_key (((m * 127) % 2 ^ 64 + b) % 2 ^ 64) bs

-- by the room of a request or a hit, somebody's request, an order that entered, somebody's held side, or the trade of a
-- fill
abbrev pub first_said : ℕ → EventKind → Option ℕ
first_said to (said.Asked a) = Some a.room
first_said to (said.SnapshotSent p) = Some (name_key to p.request)
first_said to (said.Shown s) = Some (name_key to s.request)
first_said to (said.Quoted q) = Some (name_key to q.request)
first_said to (said.Hit x) = Some x.room
first_said to (said.Entered e) = Some e.order
first_said to (said.Held x) = Some (name_key to x.id)
first_said to (said.Filled f) = Some f.trade
first_said to (said.RestedBefore x) = None
first_said to (said.RestedCount x) = None

abbrev pub first_key : EvidenceEvent → Option ℕ
first_key w = first_said w.to w.said

-- by the trade of a hit, the identifier of an order that entered, or the order that was filled
abbrev pub second_said : ℕ → EventKind → Option ℕ
second_said to (said.Asked a) = None
second_said to (said.SnapshotSent p) = None
second_said to (said.Shown s) = None
second_said to (said.Quoted q) = None
second_said to (said.Hit x) = Some x.trade
second_said to (said.Entered e) = Some (name_key to e.id)
second_said to (said.Held x) = None
second_said to (said.Filled f) = Some f.order
second_said to (said.RestedBefore x) = None
second_said to (said.RestedCount x) = None

abbrev pub second_key : EvidenceEvent → Option ℕ
second_key w = second_said w.to w.said

abbrev pub is_keyed : ℕ → Option ℕ → Bool
is_keyed k None = false
is_keyed k (Some x) = x == k

-- an event has this key
abbrev pub has_key : Key → EvidenceEvent → Bool
has_key (First k) w = is_keyed k (first_key w)
has_key (Second k) w = is_keyed k (second_key w)

-- a key is of this bucket of that many
abbrev pub in_bucket : ℕ → ℕ → Option ℕ → Bool
in_bucket n b None = false
in_bucket n b (Some x) = x % n == b

abbrev pub one_or_none : Option EvidenceEvent → List EvidenceEvent
one_or_none None = []
one_or_none (Some w) = w ∷ []

-- the event at a place
abbrev pub at : List EvidenceEvent → ℕ → List EvidenceEvent
at words p = one_or_none (slice_get words p)

-- the places of all events whose key is of a bucket, in order
pub record IsBucket (key : EvidenceEvent → Option ℕ) (words : List EvidenceEvent) (n b : ℕ) (places : List ℕ) : Type 0 where
  pub within : All (λ p. p < length words) places
  pub holds : flat_map (at words) places ≡ filter (λ w. in_bucket n b (key w)) words

-- each bucket holds the places of its events
abbrev pub ArePlaced : (EvidenceEvent → Option ℕ) → List EvidenceEvent → List (List ℕ) → Type 0
ArePlaced key words buckets = (b : ℕ) (places : List ℕ) → slice_get buckets b ≡ Some places → IsBucket key words (length buckets) b places
