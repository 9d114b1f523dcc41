use Rattle.std.proofs.Common.{◌≡◌, ℕ, ◌+◌, ◌*◌, List, ◌++◌, length, take, drop}
use Rattle.venue_rules.specs.declared.facts.Entry.{Entry}
use Rattle.venue_rules.specs.declared.replies.Reply.{Reply}
use Rattle.venue_rules.specs.Answer.{numbered}
use Rattle.price_book.specs.declared.plan.FilledOrder.{FilledOrder}
use Rattle.order_handler.specs.Reports.{rest_reports, total, walked}

-- after i fills: the replies so far, plus those still to come, are all to be added
pub record Added (symbol : List ℕ) (e : Entry) (gs : List FilledOrder) (before : List Reply) (first_report first_trade i : ℕ) (replies : List Reply) (report trade so_far : ℕ) : Type 0 where
  pub all : replies ++ numbered report (walked symbol e so_far trade (drop i gs) ++ rest_reports symbol e (total gs)) ≡ before ++ numbered first_report (walked symbol e 0 first_trade gs ++ rest_reports symbol e (total gs))
  pub filled : so_far ≡ total (take i gs)
  pub reports : report ≡ first_report + 2 * i
  pub trades : trade ≡ first_trade + i
  pub many : length replies ≡ length before + 2 * i
