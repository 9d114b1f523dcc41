-- The bounds of the alarms, and the TOML file that states them; each that it does not state is the usual one.
use Rattle.std.specs.Prelude.{◌≡◌, ℕ, ◌^◌, pos, nat_abs, nat_le, int_lt, ◌||◌, not, Bool, true, false, bytes_eq, List, [], ◌∷◌, codes, Option, Some, None, Result, Ok, Err, IsUtf8, string_bytes, if◌then◌else◌}
use Rattle.toml.specs.Data.{Data, Members, table, integer, get, no_members, member}
use Rattle.toml.specs.Parse.{parse_document}
use Rattle.surveillance.specs.declared.thresholds.Bound.{Bound}
use Rattle.surveillance.specs.declared.thresholds.Bound.TheVariants as bound
use Rattle.surveillance.specs.declared.thresholds.Thresholds.{Thresholds}
use Rattle.surveillance.specs.declared.thresholds.ThresholdsFault.{ThresholdsFault}
use Rattle.surveillance.specs.declared.thresholds.ThresholdsFault.TheVariants.{NotToml, UnknownKey, BadValue, NoMemory}

-- the greatest that a bound may be
abbrev pub greatest : ℕ
greatest = 10 ^ 9

-- a value is stated that is not a whole number up to the greatest
abbrev pub is_bad : ℕ → Option Data → Bool
is_bad most None = false
is_bad most (Some (integer z)) = int_lt z (pos 0) || not (nat_le (nat_abs z) most)
is_bad most (Some d) = true

abbrev pub stated_or : ℕ → Option Data → ℕ
stated_or usual (Some (integer z)) = nat_abs z
stated_or usual _ = usual

-- the first bound of these whose value is stated and not allowed
abbrev pub first_bad : List (Bool × Bound) → Option Bound
first_bad [] = None
first_bad (b ∷ bs) = if b.0 then Some b.1 else first_bad bs

abbrev pub bad_bound : Data → Option Bound
bad_bound file = first_bad (
    (is_bad greatest (get (codes "cancelled_within_ms") file), bound.CancelledWithin)
    ∷ (is_bad greatest (get (codes "orders_per_trade") file), bound.OrdersPerTrade)
    ∷ (is_bad 100 (get (codes "cancelled_percent") file), bound.CancelledPercent)
    ∷ (is_bad 100 (get (codes "hit_percent") file), bound.HitPercent)
    ∷ (is_bad greatest (get (codes "fewest_for_ratio") file), bound.FewestForRatio)
    ∷ (is_bad greatest (get (codes "same_three_requests") file), bound.SameThreeRequests)
    ∷ (is_bad greatest (get (codes "linked_within_ms") file), bound.LinkedWithin)
    ∷ [])

abbrev pub stated : Data → Thresholds
stated file = record {
  cancelled_within_ms = stated_or 1000 (get (codes "cancelled_within_ms") file);
  orders_per_trade = stated_or 20 (get (codes "orders_per_trade") file);
  cancelled_percent = stated_or 90 (get (codes "cancelled_percent") file);
  hit_percent = stated_or 90 (get (codes "hit_percent") file);
  fewest_for_ratio = stated_or 10 (get (codes "fewest_for_ratio") file);
  same_three_requests = stated_or 10 (get (codes "same_three_requests") file);
  linked_within_ms = stated_or 1000 (get (codes "linked_within_ms") file);
}

-- the usual bounds: those of a document that states none
abbrev pub usual : Thresholds
usual = stated (table no_members)

-- the names of the bounds
abbrev pub is_bound : List ℕ → Bool
is_bound key =
    bytes_eq key (codes "cancelled_within_ms")
    || (bytes_eq key (codes "orders_per_trade")
    || (bytes_eq key (codes "cancelled_percent")
    || (bytes_eq key (codes "hit_percent")
    || (bytes_eq key (codes "fewest_for_ratio")
    || (bytes_eq key (codes "same_three_requests")
    || bytes_eq key (codes "linked_within_ms"))))))

-- the first key, in the order of their bytes, that names no bound
abbrev pub unknown_key : Members → Option (List ℕ)
unknown_key no_members = None
unknown_key (member key value rest) = if is_bound key then unknown_key rest else Some key

-- each key names a bound, each value is allowed, and these are stated
pub record AreStated (document : Members) (t : Thresholds) : Type 0 where
  pub known : unknown_key document ≡ None
  pub allowed : bad_bound (table document) ≡ None
  pub are : t ≡ stated (table document)

-- the text is UTF-8 and a TOML document that states these
pub record States (text : List ℕ) (t : Thresholds) : Type 0 where
  pub document : Members
  pub encoded : IsUtf8 text
  pub parsed : parse_document text ≡ Some document
  pub states : AreStated document t

-- what a fault says of a document

-- a value of this bound is stated that is not allowed, and none of a bound before it
abbrev pub IsBadIn : Data → ThresholdsFault → Type 0
IsBadIn file (BadValue b) = bad_bound file ≡ Some b
IsBadIn file _ = ⊥

-- this key is the first that names no bound
abbrev pub IsUnknownIn : Members → ThresholdsFault → Type 0
IsUnknownIn document (UnknownKey key) = unknown_key document ≡ Some (string_bytes key)
IsUnknownIn document NoMemory = Unit {0}
IsUnknownIn document _ = ⊥

-- a key is looked at before each value
abbrev pub IsRefusedIn : Members → ThresholdsFault → Type 0
IsRefusedIn document (BadValue b) = (unknown_key document ≡ None) × (bad_bound (table document) ≡ Some b)
IsRefusedIn document (UnknownKey key) = unknown_key document ≡ Some (string_bytes key)
IsRefusedIn document NotToml = ⊥
IsRefusedIn document NoMemory = Unit {0}

-- what it says of a text

pub record IsRefused (text : List ℕ) (fault : ThresholdsFault) : Type 0 where
  pub document : Members
  pub encoded : IsUtf8 text
  pub parsed : parse_document text ≡ Some document
  pub refused : IsRefusedIn document fault

abbrev pub IsFaultOf : List ℕ → ThresholdsFault → Type 0
IsFaultOf text NotToml = IsUtf8 text → parse_document text ≡ None
IsFaultOf text (UnknownKey key) = IsRefused text (UnknownKey key)
IsFaultOf text (BadValue b) = IsRefused text (BadValue b)
IsFaultOf text NoMemory = Unit {0}
