use Rattle.std.specs.Prelude.{◌≡◌, ℕ, ◌+◌, Bool, ◌||◌, List, length}
use Rattle.venue_rules.specs.declared.facts.Fact.{Fact}
use Rattle.venue_rules.specs.declared.facts.OrderFact.{OrderFact}
use Rattle.venue_rules.specs.Market.{Market}
use Rattle.venue_rules.specs.Facts.{History, is_cross_id_used, is_order_id_used, next_order, next_trade, trades}
use Rattle.venue_rules.specs.Book.{fills, find_order, is_side_full, picture, too_soon}
use Rattle.venue_rules.specs.Delay.{due, find_held, held}
use Rattle.price_book.specs.BookFacts.{book_facts}
use Rattle.cross_delay.specs.DelayFacts.{delay_facts}
use Rattle.venue_request.specs.declared.counts.Counts.{Counts}

-- these are the facts of the book and of the held sides of a history, and its counts of reports and trades
pub record IsRead (h : History) (book delay : List Fact) (c : Counts) : Type 0 where
  pub of_book : book_facts h.facts ≡ book
  pub of_delay : delay_facts h.facts ≡ delay
  pub of_reports : h.reports ≡ c.reports
  pub of_trades : length (trades h.facts) ≡ c.trades

-- a participant used an order identifier in the book or for a held side
abbrev pub is_used : List Fact → List Fact → ℕ → List ℕ → Bool
is_used book delay who id = is_order_id_used book who id || is_order_id_used delay who id

-- the rules of orders and crosses read the same off a history as off its book, its held sides and its counts
pub record IsReadAlone (h : History) (book delay : List Fact) (c : Counts) : Type 0 where
  pub used : (who : ℕ) (id : List ℕ) → is_order_id_used h.facts who id ≡ is_used book delay who id
  pub crossed : (who : ℕ) (id : List ℕ) → is_cross_id_used h.facts who id ≡ is_cross_id_used delay who id
  pub filled : (o : OrderFact) → fills h.facts o ≡ fills book o
  pub soon : (m : Market) (o : OrderFact) (t : ℕ) → too_soon m h.facts o t ≡ too_soon m book o t
  pub full : (o : OrderFact) → is_side_full h.facts o ≡ is_side_full book o
  pub shown : (x : ℕ) → picture h.facts x ≡ picture book x
  pub order : (who : ℕ) (id : List ℕ) → find_order h.facts who id ≡ find_order book who id
  pub side : (who : ℕ) (id : List ℕ) → find_held h.facts who id ≡ find_held delay who id
  pub sides : held h.facts ≡ held delay
  pub first_due : (t : ℕ) → due h.facts t ≡ due delay t
  pub order_number : next_order h.facts ≡ next_order book
  pub trade_number : next_trade h.facts ≡ c.trades + 1
  pub reports : h.reports ≡ c.reports
