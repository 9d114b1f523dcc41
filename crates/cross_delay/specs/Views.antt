use Rattle.std.specs.Prelude.{Bool, not, List}
use Rattle.std.specs.List.{list_any}
use Rattle.venue_rules.specs.declared.facts.Fact.{Fact}
use Rattle.venue_rules.specs.declared.facts.HeldSide.{HeldSide}
use Rattle.venue_rules.specs.Delay.{releases}

-- a side is still held after these facts
abbrev pub stands : List Fact → HeldSide → Bool
stands all h = not (list_any (releases h) all)
