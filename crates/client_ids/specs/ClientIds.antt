use Rattle.std.specs.Prelude.{◌≡◌, ℕ, ◌+◌, ◌*◌, ◌%◌, ◌≤◌, ◌<◌, ◌^◌, Bool, true, false, ◌&&◌, ◌==◌, List, [], ◌∷◌, length, slice_index, slice_index_or, bytes_eq, nat_lt, ◌-◌, if◌then◌else◌, Option, Some, None}
use Rattle.std.specs.declared.cmp.Ordering.{Ordering}
use Rattle.std.specs.declared.cmp.Ordering.TheVariants.{Less, Equal, Greater}
use Rattle.std.specs.Ordering.{nat_cmp, ordering_then}
use Rattle.std.specs.Cmp.Lexicographic.{slice_cmp}
use Rattle.std.specs.List.{list_any}
use Rattle.client_ids.specs.declared.client_id.ClientId.{ClientId}

-- the bytes as digits that continue a number, modulo 2^64
abbrev pub digits_behind : ℕ → List ℕ → ℕ
digits_behind m [] = m
digits_behind m (b ∷ bs) = digits_behind (((m * 127) % 2 ^ 64 + b) % 2 ^ 64) bs

-- the hash key of a participant's identifier: almost any two differ. No promise depends on its value.
abbrev pub hash_key_of : ℕ → List ℕ → ℕ
hash_key_of who id = digits_behind who id

-- two names with one hash key: by participant, then by bytes
abbrev pub spelled_order : ClientId → ℕ → List ℕ → Ordering
spelled_order n who id = ordering_then (nat_cmp n.who who) (slice_cmp nat_cmp n.id id)

-- by hash key, then by participant and bytes; m is the hash key of the participant's identifier
abbrev pub hash_key_order : ClientId → ℕ → ℕ → List ℕ → Ordering
hash_key_order n m who id = ordering_then (nat_cmp (hash_key_of n.who n.id) m) (spelled_order n who id)

abbrev pub name_order : ClientId → ℕ → List ℕ → Ordering
name_order n who id = hash_key_order n (hash_key_of who id) who id

abbrev pub name_cmp : ClientId → ClientId → Ordering
name_cmp m n = name_order m n.who n.id

-- this owner and these bytes
abbrev pub is_of : ℕ → List ℕ → ClientId → Bool
is_of who id n = who == n.who && bytes_eq id n.id

abbrev pub no_name : ClientId
no_name = record { who = 0; id = [] }

abbrev pub name_at : List ClientId → ℕ → ClientId
name_at names k = slice_index_or names k no_name

-- by name, then by place
abbrev pub place_cmp : List ClientId → ℕ → ℕ → Ordering
place_cmp names a b = ordering_then (name_cmp (name_at names a) (name_at names b)) (nat_cmp a b)

-- each place in the index is one of a name
abbrev pub IsWithin : List ClientId → List ℕ → Type 0
IsWithin names index = (i : ℕ) → i < length index → slice_index index i < length names

-- the places of all names, in order
pub record IsIndex (names : List ClientId) (index : List ℕ) : Type 0 where
  pub count : length index ≡ length names
  pub few : length names ≤ 2 ^ 32
  pub within : IsWithin names index
  pub covers : (k : ℕ) → k < length names → (i : ℕ) × (i < length index) × (slice_index index i ≡ k)
  pub rising : (i j : ℕ) → i < j → j < length index → place_cmp names (slice_index index i) (slice_index index j) ≡ Less

-- the order of the name at the index's k-th place and a participant's identifier with hash key m
abbrev pub keyed_at : List ClientId → List ℕ → ℕ → ℕ → List ℕ → ℕ → Ordering
keyed_at names index m who id k = hash_key_order (name_at names (slice_index index k)) m who id

abbrev pub answer_at : List ClientId → List ℕ → ℕ → List ℕ → ℕ → Ordering
answer_at names index who id k = keyed_at names index (hash_key_of who id) who id k

abbrev pub lowered : Ordering → Ordering
lowered Less = Less
lowered Equal = Less
lowered Greater = Greater

-- the same, with the name itself less

abbrev pub keyed_behind : List ClientId → List ℕ → ℕ → ℕ → List ℕ → ℕ → Ordering
keyed_behind names index m who id k = lowered (keyed_at names index m who id k)

abbrev pub answer_behind : List ClientId → List ℕ → ℕ → List ℕ → ℕ → Ordering
answer_behind names index who id k = keyed_behind names index (hash_key_of who id) who id k

-- the place of the first name that is a participant's identifier, if any
abbrev pub IsFirst : List ClientId → ℕ → List ℕ → Option ℕ → Type 0
IsFirst names who id None = list_any (is_of who id) names ≡ false
IsFirst names who id (Some k) = (k < length names) × (is_of who id (name_at names k) ≡ true) × ((j : ℕ) → j < k → is_of who id (name_at names j) ≡ false)

-- a place, after the removal of another
abbrev pub closed : ℕ → ℕ → ℕ
closed gone k = if nat_lt gone k then k - 1 else k
