-- Prices that are kept.
use Rattle.std.specs.Prelude.{Bool, true, false, List, [], ◌∷◌}
use Rattle.day_events.specs.declared.shown.ShownPrice.{ShownPrice}

abbrev pub kept_if : Bool → ShownPrice → List ShownPrice
kept_if true x = x ∷ []
kept_if false x = []
