use Rattle.std.specs.Prelude.{◌≡◌, ℕ, ℤ, List, map, filter_map, Option, Some, None, if◌then◌else◌}
use Rattle.std.specs.List.{enumerate_from, range_with_len}
use Rattle.fix_dictionary.specs.declared.values.Side.{Side}
use Rattle.fix_dictionary.specs.declared.values.Side.TheVariants.{Buy, Sell}
use Rattle.fix_dictionary.specs.declared.messages.App.{App}
use Rattle.fix_dictionary.specs.declared.messages.App.TheVariants.{ExecutionReport}
use Rattle.fix_dictionary.specs.declared.messages.ExecutionReport.{ExecutionReport as ReportMessage}
use Rattle.venue_rules.specs.declared.facts.Trade.{Trade}
use Rattle.venue_rules.specs.declared.replies.Reply.{Reply}
use Rattle.instruments.specs.Listing.{symbol_of}
use Rattle.venue_rules.specs.Market.{Market}
use Rattle.venue_rules.specs.Facts.{trades}
use Rattle.venue_rules.specs.Book.{is_side}
use Rattle.venue_rules.specs.Rooms.{printed}
use Rattle.venue_rules.specs.Messages.{message}
use Rattle.venue_rules.specs.Run.{Outcome}

-- Reports over a list of inputs, read off the messages sent: the numbers of the reports, and the trades.

-- ExecID (17) of an execution report (message 8)
abbrev pub execution_id : App → Option (List ℕ)
execution_id (ExecutionReport r) = Some r.execution_id
execution_id _ = None

abbrev pub execution_ids : List Reply → List (List ℕ)
execution_ids rs = filter_map (λ (r : Reply). execution_id (message r.what)) rs

-- the execution reports have the ExecIDs E1, E2, E3 and so on in the order sent, and the history has their count
abbrev pub ReportsAreNumbered : Outcome → Type 0
ReportsAreNumbered o = execution_ids o.replies ≡ map (printed 69) (range_with_len 1 o.history.reports)

-- a trade as reported to a participant: symbol (55), number (880), price (31) and quantity (32)
pub record Emitted : Type 0 where
  pub who : ℕ
  pub symbol : List ℕ
  pub trade : List ℕ
  pub price : Option ℤ
  pub quantity : Option ℕ

-- the trade (880) that an execution report to a participant on this side (54) reports
abbrev pub emitted_in_report : Side → ℕ → ReportMessage → Option (List ℕ) → Option Emitted
emitted_in_report side who r None = None
emitted_in_report side who r (Some trade) = if is_side r.side side then Some (record { who = who; symbol = r.symbol; trade = trade; price = r.last_price; quantity = r.last_quantity }) else None

abbrev pub emitted_in : Side → ℕ → App → Option Emitted
emitted_in side who (ExecutionReport r) = emitted_in_report side who r r.trade_id
emitted_in side who _ = None

-- the trades reported to buyers, or to sellers
abbrev pub trades_emitted : Side → List Reply → List Emitted
trades_emitted side rs = filter_map (λ (r : Reply). emitted_in side r.to (message r.what)) rs

-- the buyer, or the seller
abbrev pub party : Side → Trade → ℕ
party Buy t = t.buyer
party Sell t = t.seller

-- a numbered trade, as due to its buyer or to its seller
abbrev pub to_be_emitted : Market → Side → ℕ × Trade → Emitted
to_be_emitted m side p = record { who = party side p.1; symbol = symbol_of m.instruments p.1.instrument; trade = printed 84 p.0; price = Some p.1.price; quantity = Some p.1.quantity }

-- each trade is reported once to its buyer and once to its seller, in the order of the trades, under the numbers T1,
-- T2, T3 and so on, with its symbol, price and quantity
abbrev pub TradesAreReported : Market → Outcome → Type 0
TradesAreReported m o = (side : Side) → trades_emitted side o.replies ≡ map (to_be_emitted m side) (enumerate_from 1 (trades o.history.facts))
