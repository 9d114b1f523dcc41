use Rattle.std.specs.Prelude.{List, filter_map, option_map, Option, Some, None}
use Rattle.venue_rules.specs.declared.facts.Fact.{Fact}
use Rattle.venue_rules.specs.declared.facts.Fact.TheVariants.{Held, Unheld}
use Rattle.client_ids.specs.declared.client_id.ClientId.{ClientId}

-- the order identifier that a fact of the delay uses: of a held side, or of the cancel of one
abbrev pub order_name : Fact → Option ClientId
order_name (Held h) = Some (record { who = h.order.who; id = h.order.id })
order_name (Unheld u) = option_map (λ id. record { who = u.who; id = id }) u.cancel
order_name _ = None

abbrev pub order_names : List Fact → List ClientId
order_names facts = filter_map order_name facts

-- the identifier of a cross that a fact of the delay uses
abbrev pub cross_name : Fact → Option ClientId
cross_name (Held h) = Some (record { who = h.order.who; id = h.cross })
cross_name _ = None

abbrev pub cross_names : List Fact → List ClientId
cross_names facts = filter_map cross_name facts
