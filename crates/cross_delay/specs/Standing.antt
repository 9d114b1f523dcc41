use Rattle.std.specs.Prelude.{◌≡◌, ℕ, ◌+◌, ◌≤◌, true, List, length, filter}
use Rattle.std.specs.List.{list_any}
use Rattle.std.specs.Vec.{vec_capacity, vec_len}
use Rattle.venue_rules.specs.declared.facts.Fact.{Fact}
use Rattle.venue_rules.specs.declared.facts.HeldSide.{HeldSide}
use Rattle.venue_rules.specs.Facts.{held_sides, is_name, is_order_id_used}
use Rattle.venue_rules.specs.Delay.{held, releases}
use Rattle.cross_delay.specs.declared.held.Held.TheInside.{Inside}
use Rattle.cross_delay.specs.ByDue.{by_due}
use Rattle.cross_delay.specs.Contents.{Contents}
use Rattle.cross_delay.specs.Kept.{IsDelay}
use Rattle.cross_delay.specs.Used.{cross_names, order_names}

-- a side no longer held had a used identifier, and no two sides have one identifier
pub record IsKnown (facts : List Fact) : Type 0 where
  pub released : (h : HeldSide) → list_any (releases h) facts ≡ true → is_order_id_used facts h.order.who h.order.id ≡ true
  pub apart : (who : ℕ) (id : List ℕ) → length (filter (λ h. is_name who id h.order.who h.order.id) (held_sides facts)) ≤ 1

abbrev pub contents : Inside → Contents
contents h = record { facts = h.past; spare = record { headroom = h.headroom } }

-- what is kept of the facts: the held sides, the first to fall due first, and the used identifiers
pub record IsStanding (h : Inside) : Type 0 where
  pub delay : IsDelay h.past
  pub known : IsKnown h.past
  pub sides : h.sides.items ≡ by_due (held h.past)
  pub orders : h.orders.names ≡ order_names h.past
  pub crosses : h.crosses.names ≡ cross_names h.past
  pub sides_capacity : vec_len h.sides + h.headroom ≤ vec_capacity h.sides
  pub orders_capacity : h.headroom ≤ h.orders.headroom
  pub crosses_capacity : h.headroom ≤ h.crosses.headroom
