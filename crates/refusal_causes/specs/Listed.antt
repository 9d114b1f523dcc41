-- The number of a cause in docs/PROTOCOL.md: it has one list of cancels and replacements (F, G), begins that of quotes
-- (S) with the request, and has two causes of the rules as one in the lists of crosses (s: 9) and of responses (AJ:
-- 7).
use Rattle.std.specs.Prelude.{ℕ, ◌-◌, nat_lt, List, [], ◌∷◌, if◌then◌else◌}
use Rattle.fix_dictionary.specs.declared.messages.App.{App}
use Rattle.fix_dictionary.specs.declared.messages.App.TheVariants.{Quote, QuoteCancel, QuoteResponse, OrderCancelRequest, OrderCancelReplaceRequest, NewOrderCross}
use Rattle.venue_rules.specs.declared.refusals.ChangeRefusal.{ChangeRefusal}
use Rattle.venue_rules.specs.declared.refusals.ChangeRefusal.TheVariants as change
use Rattle.venue_rules.specs.declared.refusals.QuoteRefusal.{QuoteRefusal}
use Rattle.venue_rules.specs.declared.refusals.QuoteRefusal.TheVariants as quote
use Rattle.venue_rules.specs.declared.replies.QuoteState.{QuoteState}
use Rattle.venue_rules.specs.declared.replies.QuoteState.TheVariants as state
use Rattle.venue_rules.specs.declared.replies.Reply.{Reply}
use Rattle.venue_rules.specs.declared.replies.ReplyBody.{ReplyBody}
use Rattle.venue_rules.specs.declared.replies.ReplyBody.TheVariants as what
use Rattle.venue_rules.specs.Run.{Input, Message, Tick}
use Rattle.refusal_causes.specs.Places.{named_by}

abbrev pub change_number : ChangeRefusal → ℕ
change_number change.UnknownOrder = 1
change_number change.DuplicateClOrdId = 2
change_number change.HeldSide = 3
change_number change.UnsupportedOrder = 4
change_number change.PriceOffTick = 6
change_number change.QuantityBelowLeast = 7
change_number change.QuantityAlreadyFilled = 8
change_number change.LinkedOrderTooRecent = 9

-- or it has no price
abbrev pub change_listed : ReplyBody → ℕ
change_listed (what.ChangeRefused r) = change_number r.cause
change_listed _ = 5

abbrev pub quote_number : QuoteRefusal → ℕ
quote_number quote.UnknownRequest = 1
quote_number quote.NotAsked = 2
quote_number quote.RoomOver = 3
quote_number quote.UnknownInstrument = 4
quote_number quote.DuplicateQuote = 5
quote_number quote.NotTradeable = 6
quote_number quote.InvalidPrice = 7
quote_number quote.Size = 8
quote_number quote.EndPassed = 9

abbrev pub quote_state_number : QuoteState → ℕ
quote_state_number (state.Refused cause) = quote_number cause
quote_state_number _ = 0

abbrev pub quote_listed : ReplyBody → ℕ
quote_listed (what.QuoteStatus r) = quote_state_number r.state
quote_listed _ = 0

-- of a place where the one and the next are the same number
abbrev pub one_fewer : (last place : ℕ) → ℕ
one_fewer last place = if nat_lt last place then place - 1 else place

-- of the place in the list of the type, and of the answer; 0 where docs/PROTOCOL.md has no list
abbrev pub number_in : App → (place : ℕ) → ReplyBody → ℕ
number_in (OrderCancelRequest d) place w = change_listed w
number_in (OrderCancelReplaceRequest d) place w = change_listed w
number_in (NewOrderCross d) place w = one_fewer 9 place
number_in (Quote d) place w = quote_listed w
number_in (QuoteResponse d) place w = one_fewer 7 place
number_in (QuoteCancel d) place w = 0
number_in _ place w = place

-- how many causes the list there has, of a list of this length
abbrev pub many_in : App → (count : ℕ) → ℕ
many_in (OrderCancelRequest d) count = 9
many_in (OrderCancelReplaceRequest d) count = 9
many_in (NewOrderCross d) count = 10
many_in (Quote d) count = 9
many_in (QuoteResponse d) count = 8
many_in _ count = count

-- by the first reply; a held side that is due has no list
abbrev pub number_at : Input → List Reply → ℕ
number_at (Message taken t) [] = 0
number_at (Message taken t) (r ∷ rs) = number_in taken.item.app (named_by taken.item.app r.what) r.what
number_at (Tick t) rs = 0

abbrev pub many_at : Input → (count : ℕ) → ℕ
many_at (Message taken t) count = many_in taken.item.app count
many_at (Tick t) count = count
