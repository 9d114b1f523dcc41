use Rattle.std.specs.Prelude.{ℕ, List, ◌∷◌, ◌++◌, flat_map}
use Rattle.std.specs.List.{enumerate_from}
use Rattle.venue_rules.specs.declared.facts.Entry.{Entry}
use Rattle.venue_rules.specs.declared.facts.Fact.TheVariants.{Removed}
use Rattle.venue_rules.specs.declared.replies.Reply.{Reply}
use Rattle.venue_rules.specs.declared.replies.ReplyBody.TheVariants.{OrderEntered, OrderReplaced}
use Rattle.venue_rules.specs.Market.{Market}
use Rattle.venue_rules.specs.Answer.{Answer, numbered, reply}
use Rattle.venue_rules.specs.Book.{Fill}
use Rattle.venue_rules.specs.Entering.{entry_facts, fill_reports, order_report, unfilled_reports}

-- the reports of all fills, from this trade on, then that of a cancelled rest
abbrev pub reports_from : Market → Entry → List Fill → ℕ → List (ℕ → Reply)
reports_from m e fs trade = flat_map (fill_reports m e fs trade) (enumerate_from 0 fs) ++ unfilled_reports m e fs

-- the answer to an entering order with these fills, from this trade on, after this many reports
unfoldable pub accepted_with : Market → Entry → List Fill → ℕ → ℕ → Answer
accepted_with m e fs trade reports = record { facts = entry_facts e fs; replies = numbered reports ((λ n. reply e.order.who (OrderEntered (order_report m e e.order.quantity 0 n))) ∷ reports_from m e fs trade) }

-- the answer to an order that replaces the one with this number, for a participant's request that names it by this
-- identifier
unfoldable pub replaced_with : Market → ℕ → List ℕ → ℕ → Entry → List Fill → ℕ → ℕ → Answer
replaced_with m who original removed e fs trade reports = record { facts = Removed (record { order = removed; who = who; id = e.order.id }) ∷ entry_facts e fs; replies = numbered reports ((λ n. reply who (OrderReplaced (record { order = order_report m e e.order.quantity e.filled_before n; original_id = original }))) ∷ reports_from m e fs trade) }
