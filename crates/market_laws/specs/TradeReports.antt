use Rattle.std.specs.Prelude.{◌≡◌, ◌⊎◌, ℕ, ◌+◌, List, [], ◌∷◌, filter_map, Option, Some, None}
use Rattle.venue_rules.specs.declared.facts.Trade.{Trade}
use Rattle.venue_rules.specs.declared.replies.Reply.{Reply}
use Rattle.venue_rules.specs.declared.replies.ReplyBody.{ReplyBody}
use Rattle.venue_rules.specs.declared.replies.ReplyBody.TheVariants.{OrderFilled, RoomTraded}
use Rattle.venue_rules.specs.Market.{Market}
use Rattle.venue_rules.specs.Facts.{trades}
use Rattle.venue_rules.specs.Run.{Input, run}

-- The reports of trades, in their order.

-- the number (880) of a trade, and to whom it is reported
pub record TradeReport : Type 0 where
  pub to : ℕ
  pub trade : ℕ

abbrev pub report_in : ℕ → ReplyBody → Option TradeReport
report_in to (OrderFilled r) = Some (record { to = to; trade = r.trade })
report_in to (RoomTraded r) = Some (record { to = to; trade = r.trade })
report_in to _ = None

abbrev pub trade_reports : List Reply → List TradeReport
trade_reports rs = filter_map (λ (r : Reply). report_in r.to r.what) rs

-- one goes to the buyer, the other to the seller
abbrev pub AreParties : Trade → ℕ → ℕ → Type 0
AreParties t a b = ((a ≡ t.buyer) × (b ≡ t.seller)) ⊎ ((a ≡ t.seller) × (b ≡ t.buyer))

-- two reports of the trade with this number, one to each party
pub record IsPairOf (n : ℕ) (t : Trade) (a b : TradeReport) : Type 0 where
  pub first : a.trade ≡ n
  pub second : b.trade ≡ n
  pub parties : AreParties t a.to b.to

-- the reports are of these trades, numbered from n on: of each two that follow each other, in the order of the trades
abbrev pub AreInPairs : ℕ → List Trade → List TradeReport → Type 0
AreInPairs n [] [] = Unit {0}
AreInPairs n [] (a ∷ rs) = ⊥
AreInPairs n (t ∷ ts) [] = ⊥
AreInPairs n (t ∷ ts) (a ∷ []) = ⊥
AreInPairs n (t ∷ ts) (a ∷ b ∷ rs) = IsPairOf n t a b × AreInPairs (n + 1) ts rs

-- so are those of a list of inputs, of its trades from number 1 on
abbrev pub TradesAreReportedInPairs : Market → List Input → Type 0
TradesAreReportedInPairs m is = AreInPairs 1 (trades (run m is).history.facts) (trade_reports (run m is).replies)
