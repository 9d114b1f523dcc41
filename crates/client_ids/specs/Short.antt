use Rattle.std.specs.Prelude.{◌≡◌, ℕ, Bool, ◌&&◌, false, List, length, nat_lt, nat_le}
use Rattle.std.specs.List.{list_any}
use Rattle.client_ids.specs.declared.client_id.ClientId.{ClientId}
use Rattle.client_ids.specs.ClientIds.{is_of}

-- an identifier of at most 36 bytes, the length of a UUID's text, of a participant whose place is below 2^16
abbrev pub is_short : ℕ → List ℕ → Bool
is_short who id = nat_lt who 65_536 && nat_le (length id) 36

-- no name among these is short; or every name is
abbrev pub HasNone : Bool → List ClientId → Type 0
HasNone short names = (who : ℕ) (id : List ℕ) → is_short who id ≡ short → list_any (is_of who id) names ≡ false
