use Rattle.std.specs.Prelude.{◌≡◌, ℕ, Bool, true, nat_lt, List}
use Rattle.std.specs.List.{list_all}
use Rattle.venue_rules.specs.declared.facts.Fact.{Fact}
use Rattle.venue_rules.specs.declared.facts.Fact.TheVariants.{Entered, Held}
use Rattle.price_book.specs.Contents.{Contents as Book}
use Rattle.price_book.specs.Steps.{IsPlanOf as IsBookPlan}
use Rattle.cross_delay.specs.Contents.{Contents as Delay}
use Rattle.cross_delay.specs.Steps.{IsPlanOf as IsDelayPlan}
use Rattle.order_handler.specs.Parts.{Parts}

-- an order or held side is in an instrument below a count
abbrev pub is_listed : ℕ → Fact → Bool
is_listed count (Entered e) = nat_lt e.order.instrument count
is_listed count (Held k) = nat_lt k.order.instrument count
is_listed count _ = true

abbrev pub are_listed : ℕ → List Fact → Bool
are_listed count facts = list_all (is_listed count) facts

-- the parts are plans of the book and the held sides as they are, in instruments below a count
pub record IsMade (count : ℕ) (book : Book) (delay : Delay) (p : Parts) : Type 0 where
  pub book_plan : IsBookPlan book p.book
  pub delay_plan : IsDelayPlan delay p.delay
  pub book_listed : are_listed count p.book ≡ true
  pub delay_listed : are_listed count p.delay ≡ true
