-- The flags of trades: which are of linked orders, as `surveillance` lists them.
use Rattle.std.specs.Prelude.{ℕ, ◌+◌, ◌==◌, List, [], ◌∷◌, map, slice_get, unwrap_or, if◌then◌else◌}
use Rattle.std.specs.List.{range_with_len}
use Rattle.surveillance.specs.declared.pairs.LinkedTrade.{LinkedTrade}
use Rattle.day_sections.specs.declared.flags.Flag.{Flag}
use Rattle.day_sections.specs.declared.flags.Flag.TheVariants.{Held, Linked, Unlinked}

-- of a line of the list
abbrev pub flag_in : LinkedTrade → Flag
flag_in l = if l.is_held then Held else Linked

-- of the trade with this number: that of its line, if it has one

abbrev pub flag_by : Flag → List LinkedTrade → ℕ → Flag
flag_by m [] n = m
flag_by m (l ∷ ls) n = flag_by (if l.trade == n then flag_in l else m) ls n

abbrev pub flag_of : List LinkedTrade → ℕ → Flag
flag_of ls n = flag_by Unlinked ls n

-- those of the trades up to this number, each at its number
abbrev pub flags : List LinkedTrade → ℕ → List Flag
flags ls most = map (flag_of ls) (range_with_len 0 (most + 1))

abbrev pub flag_at : List Flag → ℕ → Flag
flag_at ms n = unwrap_or (slice_get ms n) Unlinked
