use Rattle.std.specs.Prelude.{ℕ, Bool, true, nat_lt, List}
use Rattle.std.specs.List.{list_all}
use Rattle.venue_rules.specs.declared.facts.Fact.{Fact}
use Rattle.venue_rules.specs.declared.facts.Fact.TheVariants.{Asked}

-- the recipients of a request are below a count of participants
abbrev pub is_known : ℕ → Fact → Bool
is_known count (Asked r) = list_all (λ who. nat_lt who count) r.recipients
is_known count _ = true

abbrev pub are_known : ℕ → List Fact → Bool
are_known count facts = list_all (is_known count) facts
