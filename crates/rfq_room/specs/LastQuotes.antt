use Rattle.std.specs.Prelude.{ℕ, List, Option, nat_eq, ◌&&◌}
use Rattle.std.specs.Map.{lookup}
use Rattle.std.specs.HashMap.{spare}
use Rattle.rfq_room.specs.declared.last_quotes.LastQuotes.TheInside.{Inside}

-- the number of the last quote by room and maker, and spare capacity
pub record Latest : Type 0 where
  pub entries : List ((ℕ × ℕ) × ℕ)
  pub headroom : ℕ

abbrev pub latest : Inside → Latest
latest a = record { entries = a.numbers.entries; headroom = spare a.numbers }

-- the number of the last quote of a maker in a room, if any
abbrev pub last_in : List ((ℕ × ℕ) × ℕ) → ℕ → ℕ → Option ℕ
last_in entries room maker = lookup (λ k. nat_eq room k.0 && nat_eq maker k.1) entries
