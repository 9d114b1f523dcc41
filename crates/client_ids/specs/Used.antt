use Rattle.std.specs.Prelude.{ℕ, ◌-◌, ◌≤◌, ◌^◌, ◌++◌, true, false, min, List}
use Rattle.std.specs.HashSet.{keys, spare}
use Rattle.client_ids.specs.declared.client_id.ClientId.{ClientId}
use Rattle.client_ids.specs.declared.used.UsedIds.TheInside.{Inside}
use Rattle.client_ids.specs.Short.{HasNone}

-- the most names that may be added
abbrev pub most : ℕ
most = 2 ^ 63 - 1

-- used names, each once and unordered; the number added; and spare capacity
pub record Known : Type 0 where
  pub names : List ClientId
  pub count : ℕ
  pub headroom : ℕ

abbrev pub known : Inside → Known
known a = record { names = keys a.short ++ keys a.others; count = a.count; headroom = min (min (spare a.short) (spare a.others)) (most - a.count) }

-- short names are in the short set alone, other names in the other set
pub record AreUsed (a : Inside) : Type 0 where
  pub few : a.count ≤ most
  pub short : HasNone false (keys a.short)
  pub others : HasNone true (keys a.others)
