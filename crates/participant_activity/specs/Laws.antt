-- What every day keeps, whatever its inputs are.
use Rattle.std.specs.Prelude.{◌≡◌, ℕ, ◌+◌, ◌-◌, ◌^◌, ◌<◌, List, [], map, None, option_map}
use Rattle.fix_dictionary.specs.declared.messages.App.{App}
use Rattle.fix_dictionary.specs.declared.messages.App.TheVariants.{QuoteRequest, Quote, NewOrderSingle, OrderCancelReplaceRequest, NewOrderCross, ExecutionReport, MarketDataSnapshot}
use Rattle.participants.specs.Relations.{name_of}
use Rattle.venue_rules.specs.Facts.{no_history}
use Rattle.venue_rules.specs.Market.{Market}
use Rattle.venue_rules.specs.Run.{Input, owed}
use Rattle.participant_activity.specs.declared.activity.QuoteCounts.{QuoteCounts}
use Rattle.participant_activity.specs.declared.closing.QuoteEnds.{QuoteEnds}
use Rattle.participant_activity.specs.declared.form.Form.{Form}
use Rattle.participant_activity.specs.Emitted.{text_of_turns}
use Rattle.participant_activity.specs.Figures.{ends_at}
use Rattle.participant_activity.specs.Kept.{no_activity}
use Rattle.participant_activity.specs.Noting.{activity, plus}
use Rattle.participant_activity.specs.Replayed.{after_inputs}
use Rattle.participant_activity.specs.Turns.{Turn, messages_owed, messages_sent, sent, turns_of}

-- the text of a day
abbrev pub printed_on : Form → Market → ℕ → List Input → List ℕ
printed_on form m who is = text_of_turns form (name_of m.participants who) (turns_of m who is)

-- Two days, in whatever markets, in which participants of one name sent the same at the same moments and were owed the
-- same at the answers have the same text, whatever others sent and were owed.
abbrev pub ActivityIsItsOwn : Type 0
ActivityIsItsOwn = (form : Form) (m n : Market) (who other : ℕ) (is js : List Input) → name_of m.participants who ≡ name_of n.participants other → turns_of m who is ≡ turns_of n other js → printed_on form m who is ≡ printed_on form n other js

-- a message without prices, without the names of participants, and without the orders of a snapshot
abbrev pub unpriced : App → App
unpriced (QuoteRequest d) = QuoteRequest (record d { parties = [] })
unpriced (Quote d) = Quote (record d { parties = []; bid_price = None; offer_price = None })
unpriced (NewOrderSingle d) = NewOrderSingle (record d { price = None })
unpriced (OrderCancelReplaceRequest d) = OrderCancelReplaceRequest (record d { price = None })
unpriced (NewOrderCross d) = NewOrderCross (record d { price = None })
unpriced (ExecutionReport d) = ExecutionReport (record d { last_price = None; trade_id = None })
unpriced (MarketDataSnapshot d) = MarketDataSnapshot (record d { entries = [] })
unpriced a = a

abbrev pub unpriced_turn : Turn → Turn
unpriced_turn t = record { moment = t.moment; sent = option_map unpriced t.sent; owed = map unpriced t.owed }

-- the figures are the same without them: no price and no other participant's name is in the text
abbrev pub ActivityHasNoPrices : Type 0
ActivityHasNoPrices = (form : Form) (name : List ℕ) (ts : List Turn) → text_of_turns form name (map unpriced_turn ts) ≡ text_of_turns form name ts

-- the turns have what the participant sent, in order, each once, with its moment
abbrev pub TurnsAreSent : Type 0
TurnsAreSent = (m : Market) (who : ℕ) (is : List Input) → messages_sent (turns_of m who is) ≡ sent who is

-- and what it is owed
abbrev pub TurnsAreOwed : Type 0
TurnsAreOwed = (m : Market) (who : ℕ) (is : List Input) → messages_owed (turns_of m who is) ≡ owed m who is

-- what is kept row by row is what the turns say
abbrev pub KeptIsOfTurns : Type 0
KeptIsOfTurns = (m : Market) (who : ℕ) (is : List Input) → after_inputs m who no_history no_activity is ≡ activity (turns_of m who is)

-- the figures of what became of accepted quotes, together
abbrev pub all_ends : QuoteCounts → QuoteEnds → ℕ
all_ends q n = q.hit + q.passed + q.withdrawn + q.replaced + plus q.lapsed n.lapsed + n.unreported

-- each accepted quote is in one of them, on every day, unless their count stopped at the greatest number
abbrev pub EndsAreWhole : Type 0
EndsAreWhole = (ts : List Turn) → let a = activity ts in a.quotes.accepted < 2 ^ 64 - 1 → a.quotes.accepted ≡ all_ends a.quotes (ends_at a.last a.asked)
