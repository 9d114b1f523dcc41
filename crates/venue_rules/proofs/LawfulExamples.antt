use Rattle.std.proofs.Common.{refl, ℕ, ◌+◌, [], ◌∷◌, None, codes, arith, ◌<◌, ◌≤◌}
use Rattle.fix_dictionary.specs.declared.values.Side.TheVariants.{Buy}
use Rattle.venue_rules.specs.declared.facts.Fact.TheVariants.{Entered, Traded}
use Rattle.venue_rules.specs.declared.facts.TimeInForce.TheVariants.{Day}
use Rattle.venue_rules.specs.declared.facts.TradeSource.TheVariants.{Book as InBook, Room as InRoom}
use Rattle.venue_rules.specs.declared.facts.Trade.{Trade}
use Rattle.venue_rules.specs.declared.facts.Entry.{Entry}
use Rattle.venue_rules.specs.Lawful.{RequestsComeFirst, LinkedOrdersWait}
use Rattle.venue_rules.proofs.ExampleInputs.{venue, alpha, beta, start, two_and_a_half}

-- Lists of facts that the venue never produces, refuted by the laws.

abbrev pub room_trade : Trade
room_trade = record { instrument = 0; quantity = 10; price = two_and_a_half; buyer = alpha; seller = beta; place = InRoom 1 1; moment = start }

-- a trade in a room without a request
pub trade_without_request : RequestsComeFirst venue (Traded room_trade ∷ []) → ⊥
trade_without_request law = let found = law [] room_trade 1 1 ([], refl) refl in nothing_before found.2.0 found.2.1
  where
    nothing_before : (k : ℕ) → k < 0 → ⊥
    nothing_before k lt = omega arith

abbrev pub own_entry : ℕ → ℕ → Entry
own_entry number t = record { number = number; order = record { who = alpha; id = codes "a"; link = None; instrument = 0; side = Buy; quantity = 10; price = two_and_a_half; life = Day }; filled_before = 0; moment = t }

abbrev pub own_trade : Trade
own_trade = record { instrument = 0; quantity = 10; price = two_and_a_half; buyer = alpha; seller = alpha; place = InBook 1 2; moment = start + 14999 }

-- a participant's own orders that trade a millisecond early
pub linked_orders_too_early : LinkedOrdersWait venue (Entered (own_entry 1 start) ∷ Entered (own_entry 2 (start + 14999)) ∷ Traded own_trade ∷ []) → ⊥
linked_orders_too_early law = too_early (law own_trade (own_entry 1 start) (own_entry 2 (start + 14999)) (2, omega arith, refl) (0, omega arith, refl) (1, omega arith, refl) refl refl)
  where
    too_early : start + 15000 ≤ start + 14999 → ⊥
    too_early h = omega arith
