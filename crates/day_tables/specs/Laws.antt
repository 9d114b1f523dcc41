-- Laws of the bulletin.
use Rattle.std.specs.Prelude.{◌≡◌, ℕ, ◌+◌, List, Option}
use Rattle.venue_rules.specs.declared.trail.TradeFact.{TradeFact}
use Rattle.day_tables.specs.declared.bulletin.Place.TheVariants.{Anywhere, Book, Request}
use Rattle.day_tables.specs.Bulletin.{number, quantity}

-- Of an instrument, or of all, what was traded in the book and in requests adds up to all that was traded.
pub record VolumesAddUp (x : Option ℕ) (ts : List TradeFact) : Type 0 where
  pub quantities : quantity x Book ts + quantity x Request ts ≡ quantity x Anywhere ts
  pub numbers : number x Book ts + number x Request ts ≡ number x Anywhere ts

abbrev pub AllVolumesAddUp : Type 0
AllVolumesAddUp = (x : Option ℕ) (ts : List TradeFact) → VolumesAddUp x ts
