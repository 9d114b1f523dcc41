use Rattle.std.specs.Prelude.{◌≡◌, ℕ, ◌≤◌, ◌<◌, ◌==◌, nat_eq, List, map, length, get_or, slice_index_or, find, All, Option, Some, None, option_map, MatchOption}
use Rattle.std.specs.Map.{lookup}
use Rattle.std.specs.declared.cmp.Ordering.{Ordering}
use Rattle.std.specs.declared.cmp.Ordering.TheVariants.{Less}
use Rattle.std.specs.Ordering.{nat_cmp, ordering_then}
use Rattle.client_ids.specs.ClientIds.{hash_key_of, spelled_order, lowered, IsIndex}
use Rattle.venue_rules.specs.declared.facts.Entry.{Entry}
use Rattle.venue_rules.specs.Book.{Resting}
use Rattle.price_book.specs.declared.id_key.IdKey.{IdKey}
use Rattle.price_book.specs.declared.stored_order.StoredOrder.{StoredOrder}
use Rattle.price_book.specs.Live.{seen_slot, entry_name, names_of, Ledger}

-- the order with this number
abbrev pub numbered : ℕ → List Resting → Option Resting
numbered n rs = find (λ r. n == r.entry.number) rs

-- the stored order with this number
abbrev pub slot_at : List (ℕ × StoredOrder) → ℕ → Option StoredOrder
slot_at es n = lookup (nat_eq n) es

-- these orders, each stored by its number
abbrev pub IsNumbered : List Resting → List (ℕ × StoredOrder) → Type 0
IsNumbered rs es = (n : ℕ) → option_map seen_slot (slot_at es n) ≡ numbered n rs

-- each of these orders is stored by its number
abbrev pub AreKept : List Resting → List (ℕ × StoredOrder) → Type 0
AreKept rs es = All (λ (r : Resting). option_map seen_slot (slot_at es r.entry.number) ≡ Some r) rs

-- the numbers of orders, by entry
abbrev pub numbers_of : List Resting → List ℕ
numbers_of rs = map (λ (r : Resting). r.entry.number) rs

abbrev pub number_at : List Resting → ℕ → ℕ
number_at rs k = get_or (numbers_of rs) k 0

-- an order's key: the hash key of its name, and its number
abbrev pub key_of : Entry → IdKey
key_of e = record { hash_key = hash_key_of e.order.who e.order.id; number = e.number }

abbrev pub no_key : IdKey
no_key = record { hash_key = 0; number = 0 }

-- the keys of orders, by entry
abbrev pub keys_of : List Resting → List IdKey
keys_of rs = map (λ (r : Resting). key_of r.entry) rs

abbrev pub key_at : List Resting → ℕ → IdKey
key_at rs k = get_or (keys_of rs) k no_key

-- the keys of orders, sorted by name and then by entry
pub record IsNamed (rs : List Resting) (ks : List IdKey) : Type 0 where
  pub index : List ℕ
  pub is : IsIndex (names_of rs) index
  pub keys : ks ≡ map (key_at rs) index

-- the order of an order's name and a participant's identifier with the same hash key

abbrev pub slot_order : Option StoredOrder → ℕ → List ℕ → Ordering
slot_order None who id = Less
slot_order (Some s) who id = spelled_order (entry_name s.entry) who id

-- the order of a key's name and a participant's identifier with hash key m: the stored order is read only where the
-- hash keys are equal
abbrev pub key_order : List (ℕ × StoredOrder) → IdKey → ℕ → ℕ → List ℕ → Ordering
key_order es key m who id = ordering_then (nat_cmp key.hash_key m) (slot_order (slot_at es key.number) who id)

-- the same for the k-th key
abbrev pub answer_at : List (ℕ × StoredOrder) → List IdKey → ℕ → ℕ → List ℕ → ℕ → Ordering
answer_at es keys m who id k = key_order es (slice_index_or keys k no_key) m who id

-- the same, with the name itself less
abbrev pub answer_behind : List (ℕ × StoredOrder) → List IdKey → ℕ → ℕ → List ℕ → ℕ → Ordering
answer_behind es keys m who id k = lowered (answer_at es keys m who id k)

-- the resting orders, by number and by name
pub record IsListed (rs : List Resting) (es : List (ℕ × StoredOrder)) (ks : List IdKey) : Type 0 where
  pub ledger : Ledger 0 rs
  pub stored_orders : IsNumbered rs es
  pub named : IsNamed rs ks

-- the order with this key is at this place
abbrev pub IsKeyAt : List Resting → ℕ → ℕ → ℕ → Type 0
IsKeyAt rs hash_key number k = (k < length rs) × (key_at rs k ≡ record { hash_key = hash_key; number = number })

-- the hash keys rise
abbrev pub AreRisingHashKeys : List IdKey → Type 0
AreRisingHashKeys ks = (i j : ℕ) (d : IdKey) → i < j → j < length ks → (get_or ks i d).hash_key ≤ (get_or ks j d).hash_key

-- the order with this number, if any, has a greater leaves quantity
abbrev pub IsLeft : ℕ → List (ℕ × StoredOrder) → ℕ → Type 0
IsLeft quantity es number = MatchOption (slot_at es number) (Unit {0}) (λ s. quantity < s.left)
