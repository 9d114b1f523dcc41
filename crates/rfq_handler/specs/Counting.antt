use Rattle.std.specs.Prelude.{ℕ, List, length}
use Rattle.std.specs.List.{count_by}
use Rattle.venue_rules.specs.declared.facts.Fact.{Fact}
use Rattle.venue_rules.specs.declared.replies.Reply.{Reply}
use Rattle.venue_rules.specs.Facts.{trades}
use Rattle.venue_rules.specs.Run.{is_report}

-- the number of execution reports (message 8)
abbrev pub reports_in : List Reply → ℕ
reports_in rs = count_by (λ (r : Reply). is_report r.what) rs

-- the number of trades
abbrev pub trades_in : List Fact → ℕ
trades_in facts = length (trades facts)
