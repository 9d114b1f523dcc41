-- The trades in the book of two linked orders, those of the two sides of a cross among them, each with the time between
-- its orders and the delay of its instrument (17 CFR 37.9(b)(1)).
use Rattle.std.specs.Prelude.{ℕ, ◌-◌, nat_le, List, [], ◌∷◌, Option, Some, None, if◌then◌else◌}
use Rattle.std.specs.List.{flat_map}
use Rattle.instruments.specs.declared.instruments.Instrument.{Instrument}
use Rattle.venue_rules.specs.declared.trail.TradeFact.{TradeFact}
use Rattle.venue_rules.specs.Market.{Market}
use Rattle.surveillance.specs.declared.index.Entry.{Entry}
use Rattle.surveillance.specs.declared.pairs.LinkedTrade.{LinkedTrade}
use Rattle.surveillance.specs.Alarms.{Looked, are_linked, delay_at, orders_of}

abbrev pub linked_trade : List Instrument → TradeFact → Entry → Entry → LinkedTrade
linked_trade xs t first second = record {
  trade = t.number;
  buyer = t.buyer;
  seller = t.seller;
  first = first.at;
  second = second.at;
  is_held = second.by_clock;
  between = second.at.moment - first.at.moment;
  delay = delay_at xs t.instrument;
}

-- of the order that entered first, and of the other
abbrev pub in_order : List Instrument → TradeFact → Entry → Entry → LinkedTrade
in_order xs t buy sell = if nat_le buy.at.row sell.at.row then linked_trade xs t buy sell else linked_trade xs t sell buy

abbrev pub linked_of : Market → TradeFact → Option (Entry × Entry) → List LinkedTrade
linked_of m t None = []
linked_of m t (Some p) = if are_linked m.participants t p.0 p.1 then in_order m.instruments t p.0 p.1 ∷ [] else []

abbrev pub linked_at : Market → Looked → TradeFact → List LinkedTrade
linked_at m l t = linked_of m t (orders_of l t.number)

abbrev pub linked_in : Market → Looked → List TradeFact → List LinkedTrade
linked_in m l ts = flat_map (linked_at m l) ts
