use Rattle.std.specs.Prelude.{Bool, true, false, List, filter}
use Rattle.venue_rules.specs.declared.facts.Fact.{Fact}
use Rattle.venue_rules.specs.declared.facts.Fact.TheVariants.{Entered, Traded, Removed, Held, Unheld, Asked, Quoted, Withdrawn, Closed}

-- a fact of the delay: a side is held, or its hold ends
abbrev pub is_delay_fact : Fact → Bool
is_delay_fact (Held h) = true
is_delay_fact (Unheld u) = true
is_delay_fact (Entered e) = false
is_delay_fact (Traded t) = false
is_delay_fact (Removed r) = false
is_delay_fact (Asked r) = false
is_delay_fact (Quoted q) = false
is_delay_fact (Withdrawn w) = false
is_delay_fact (Closed c) = false

-- the facts of the delay among a venue's facts
abbrev pub delay_facts : List Fact → List Fact
delay_facts facts = filter is_delay_fact facts
