-- Part 37 in a day: what each rule asks, and what is counted of the day.
use Rattle.std.specs.Prelude.{ℕ, List, [], ◌∷◌, ◌++◌, length, codes, Option, None, Some, if◌then◌else◌}
use Rattle.page_text.specs.Parts.{Part}
use Rattle.day_events.specs.declared.event.Event.{Event}
use Rattle.day_events.specs.declared.shown.ShownPrice.{ShownPrice}
use Rattle.instruments.specs.declared.instruments.Instrument.{Instrument}
use Rattle.instruments.specs.Listing.{delay_of, symbol_of}
use Rattle.surveillance.specs.declared.pairs.LinkedTrade.{LinkedTrade}
use Rattle.venue_rules.specs.declared.refusals.OrderRefusal.TheVariants as order
use Rattle.venue_rules.specs.declared.refusals.RequestRefusal.TheVariants as request
use Rattle.venue_rules.specs.declared.trail.TradeFact.{TradeFact}
use Rattle.venue_rules.specs.Messages.{order_reason, request_reason}
use Rattle.day_tables.specs.declared.bulletin.Place.TheVariants.{Book, Request}
use Rattle.day_tables.specs.Bulletin.{number}
use Rattle.day_tables.specs.Parts.{each_from, framed}
use Rattle.day_tables.specs.Values.{grouped}
use Rattle.rule_counts.specs.declared.rules.Ruled.{Ruled}
use Rattle.rule_counts.specs.declared.template.TheConstants.{ADJUSTED, RULES, RULES_END}
use Rattle.rule_counts.specs.Counts.{adjusted, is_adjusted, least_over, near, refused_for}

-- the number of requests, the trades, what the answers say, the prices shown, and the trades of linked orders
pub record RuledDay : Type 0 where
  pub requests : ℕ
  pub trades : List TradeFact
  pub events : List Event
  pub shown : List ShownPrice
  pub linked : List LinkedTrade

abbrev pub ruled_day : Ruled → RuledDay
ruled_day d = record { requests = d.requests; trades = d.trades.now; events = d.events.now; shown = d.shown.now; linked = d.linked.now }

abbrev pub time_text : Option ℕ → List ℕ
time_text None = codes "no such trade"
time_text (Some ms) = grouped ms ++ codes " ms"

-- 17 CFR 37.9(a)(2), (a)(3); (a)(3)(i); (a)(3)(iii); (b)(1); (b)(2). Orders, changes and crosses are refused as too
-- recent with one text.
abbrev pub rules_part : List Instrument → RuledDay → Part
rules_part xs d = record {
  template = RULES.now;
  values = grouped d.requests ∷ grouped (number None Request d.trades) ∷ grouped (refused_for (request_reason request.TooFewRecipients).text d.events) ∷ grouped (refused_for (request_reason request.RecipientsNotUnrelated).text d.events)
      ∷ grouped (length d.shown)
      ∷ grouped d.requests
      ∷ grouped (length d.linked) ∷ grouped (near d.linked) ∷ time_text (least_over d.linked) ∷ grouped (refused_for (order_reason order.LinkedOrderTooRecent).text d.events)
      ∷ grouped (adjusted xs) ∷ [];
}

-- an instrument with another delay, in milliseconds

abbrev pub adjusted_part : List Instrument → ℕ → Part
adjusted_part xs x = record { template = ADJUSTED.now; values = symbol_of xs x ∷ grouped (delay_of xs x) ∷ [] }

abbrev pub adjusted_parts : List Instrument → ℕ → List Part
adjusted_parts xs x = if is_adjusted (delay_of xs x) then adjusted_part xs x ∷ [] else []

-- 37.3(a)(3)
abbrev pub book_part : RuledDay → Part
book_part d = record { template = RULES_END.now; values = grouped (number None Book d.trades) ∷ [] }

abbrev pub rules_parts : List Instrument → RuledDay → List Part
rules_parts xs d = framed (rules_part xs d) (each_from (adjusted_parts xs) 0 (length xs)) (book_part d)
