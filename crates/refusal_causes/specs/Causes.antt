-- The causes for which the rules may refuse, each list in the order in which they are looked for. A list ends where
-- what a message names is not there: nothing more can be asked of it then.
use Rattle.std.specs.Prelude.{◌≡◌, ◌⊎◌, ℕ, ℤ, ◌+◌, Bool, true, false, not, ◌==◌, ◌||◌, List, [], ◌∷◌, ◌++◌, take, filter, Option, Some, None, is_none, bytes_eq}
use Rattle.fix_dictionary.specs.declared.values.Side.{Side}
use Rattle.fix_dictionary.specs.declared.messages.App.{App}
use Rattle.fix_dictionary.specs.declared.messages.App.TheVariants.{QuoteRequest, Quote, QuoteCancel, QuoteResponse, NewOrderSingle, OrderCancelRequest, OrderCancelReplaceRequest, NewOrderCross, MarketDataRequest}
use Rattle.fix_dictionary.specs.declared.messages.OrderCancelRequest.{OrderCancelRequest as Cancel}
use Rattle.fix_dictionary.specs.declared.messages.OrderCancelReplaceRequest.{OrderCancelReplaceRequest as Replacement}
use Rattle.fix_dictionary.specs.declared.messages.Quote.{Quote as QuoteMessage}
use Rattle.fix_dictionary.specs.declared.messages.QuoteCancel.{QuoteCancel as Withdrawal}
use Rattle.fix_dictionary.specs.declared.messages.QuoteResponse.{QuoteResponse as Response}
use Rattle.venue_rules.specs.declared.facts.HeldSide.{HeldSide}
use Rattle.venue_rules.specs.declared.facts.Room.{Room}
use Rattle.venue_rules.specs.declared.facts.RoomQuote.{RoomQuote}
use Rattle.venue_rules.specs.declared.refusals.BusinessRefusal.TheVariants.{QuoteMissing, SideMissing}
use Rattle.venue_rules.specs.declared.refusals.ChangeRefusal.TheVariants as change
use Rattle.venue_rules.specs.declared.refusals.QuoteRefusal.TheVariants as quote
use Rattle.venue_rules.specs.declared.refusals.ResponseRefusal.TheVariants as response
use Rattle.venue_rules.specs.declared.replies.QuoteState.{QuoteState}
use Rattle.venue_rules.specs.declared.replies.QuoteState.TheVariants as state
use Rattle.venue_rules.specs.Answer.{Answer, Sender, answers, business_reject}
use Rattle.venue_rules.specs.Changes.{Named, IsResting, IsHeld, IsUnknown, cancel_refused, cancel_refusals, held_replace_refusals, named, replace_refused, replace_refusals, standing}
use Rattle.venue_rules.specs.Crosses.{cross_refusals, due_refusals}
use Rattle.venue_rules.specs.Facts.{History}
use Rattle.venue_rules.specs.Market.{Market}
use Rattle.venue_rules.specs.MarketData.{market_data_refusals}
use Rattle.venue_rules.specs.Orders.{order_refusals}
use Rattle.venue_rules.specs.Quotes.{quote_refusals, quote_status}
use Rattle.venue_rules.specs.Requests.{request_refusals}
use Rattle.venue_rules.specs.Responses.{is_other_side, price_for, response_refusals, response_status, taken_side}
use Rattle.venue_rules.specs.Rooms.{find_quote, find_room, live_quotes, room_by_number}
use Rattle.venue_rules.specs.Withdrawals.{cancel_status, not_found}
use Rattle.instruments.specs.Listing.{symbol_of}

abbrev pub Causes : Type 0
Causes = List (Bool × Answer)

-- of causes numbered from n on, the number of the first that holds: it holds, and those before it do not
abbrev pub IsFirst : ℕ → Causes → ℕ → Type 0
IsFirst n [] k = ⊥
IsFirst n (c ∷ cs) k = ((c.0 ≡ true) × (k ≡ n)) ⊎ ((c.0 ≡ false) × IsFirst (n + 1) cs k)

-- Cancels (F) and replacements (G), by what they name.

abbrev pub cancel_causes : History → Sender → Cancel → Named → Causes
cancel_causes h s d IsUnknown = (true, cancel_refused s d None change.UnknownOrder) ∷ []
cancel_causes h s d (IsHeld k) = cancel_refusals h s d None
cancel_causes h s d (IsResting r) = cancel_refusals h s d (Some (standing r))

abbrev pub replace_causes : Market → History → Sender → Replacement → ℕ → Named → Causes
replace_causes m h s d t IsUnknown = (true, replace_refused s d None change.UnknownOrder) ∷ []
replace_causes m h s d t (IsHeld k) = held_replace_refusals h s d ++ (true, replace_refused s d None change.HeldSide) ∷ []
replace_causes m h s d t (IsResting r) = replace_refusals m h s d r t

-- Quotes (S), by the room that they name.

abbrev pub quote_causes : Market → History → Sender → QuoteMessage → ℕ → Option Room → Causes
quote_causes m h s d t None = (true, answers (quote_status s d None (state.Refused quote.UnknownRequest) ∷ [])) ∷ []
quote_causes m h s d t (Some r) = quote_refusals m h s r d t

-- Answers to quotes (AJ): 694 is 1 (a hit) or 6 (a pass); there is such a quote; the request was the sender's, and the
-- quote is not gone (replaced or its request over, withdrawn, expired); of a hit, its side and the price for it.

abbrev pub no_response : Sender → Response → Answer
no_response s d = answers (response_status s d None None (state.ResponseRefused response.UnsupportedResponse) ∷ [])

abbrev pub no_quote : Sender → Response → Answer
no_quote s d = answers (response_status s d None None state.NotFound ∷ [])

abbrev pub hit_refused : Market → Sender → Room → Response → QuoteState → Answer
hit_refused m s r d said = answers (response_status s d (Some r.id) (Some (symbol_of m.instruments r.instrument)) said ∷ [])

-- the quote's price for the requester, whose side is perhaps not known
abbrev pub price_taken : Option Side → RoomQuote → Option ℤ
price_taken None q = None
price_taken (Some side) q = price_for side q

abbrev pub hit_causes : Market → Sender → Room → RoomQuote → Response → Causes
hit_causes m s r q d =
    (is_other_side r.side d.side, hit_refused m s r d (state.ResponseRefused response.Side))
    ∷ (is_none (taken_side r.side d.side), business_reject s SideMissing)
    ∷ (is_none (price_taken (taken_side r.side d.side) q), hit_refused m s r d (state.ResponseRefused response.InvalidPrice))
    ∷ []

-- of a hit more than of a pass
abbrev pub kind_causes : Market → Sender → Room → RoomQuote → Response → Bool → Causes
kind_causes m s r q d true = []
kind_causes m s r q d false = hit_causes m s r q d

abbrev pub room_causes : Market → History → Sender → RoomQuote → Response → ℕ → Bool → Option Room → Causes
room_causes m h s q d t passes None = (true, no_quote s d) ∷ []
room_causes m h s q d t passes (Some r) = (false, no_quote s d) ∷ take 4 (response_refusals m h s r q d t) ++ kind_causes m s r q d passes

abbrev pub found_causes : Market → History → Sender → Response → ℕ → Bool → Option RoomQuote → Causes
found_causes m h s d t passes None = (true, no_quote s d) ∷ []
found_causes m h s d t passes (Some q) = room_causes m h s q d t passes (room_by_number h.facts q.room)

abbrev pub response_causes : Market → History → Sender → Response → ℕ → Bool → Bool → Option RoomQuote → Causes
response_causes m h s d t true passes found = (true, no_response s d) ∷ []
response_causes m h s d t false passes found = (false, no_response s d) ∷ found_causes m h s d t passes found

-- 694 is neither
abbrev pub is_no_response : Response → Bool
is_no_response d = not (d.response_type == 1 || d.response_type == 6)

abbrev pub is_pass : Response → Bool
is_pass d = d.response_type == 6

-- Withdrawals (Z): 298 is 5 (one quote) or 4 (all); a quote is named, if it is to be one; and such a quote is live.

abbrev pub is_empty : List RoomQuote → Bool
is_empty [] = true
is_empty (q ∷ qs) = false

-- the live quotes that are named
abbrev pub named_quotes : History → ℕ → ℕ → Option (List ℕ) → List RoomQuote
named_quotes h who t None = []
named_quotes h who t (Some id) = filter (λ q. bytes_eq q.id id) (live_quotes h.facts who t)

abbrev pub withdrawal_causes : History → Sender → Withdrawal → ℕ → Bool → Bool → Causes
withdrawal_causes h s d t true all =
    (false, cancel_status s d state.CancelUnsupported)
    ∷ (is_none d.quote_id, business_reject s QuoteMissing)
    ∷ (is_empty (named_quotes h s.who t d.quote_id), not_found s d.quote_id)
    ∷ []
withdrawal_causes h s d t false true = (false, cancel_status s d state.CancelUnsupported) ∷ (is_empty (live_quotes h.facts s.who t), not_found s None) ∷ []
withdrawal_causes h s d t false false = (true, cancel_status s d state.CancelUnsupported) ∷ []

abbrev pub is_of_one : Withdrawal → Bool
is_of_one d = d.cancel_type == 5

abbrev pub is_of_all : Withdrawal → Bool
is_of_all d = d.cancel_type == 4

-- Of any message. What the venue does not process, and what it sends alone, has no list.

abbrev pub causes_of : Market → History → Sender → App → ℕ → Causes
causes_of m h s (NewOrderSingle d) t = order_refusals m h s d t
causes_of m h s (OrderCancelRequest d) t = cancel_causes h s d (named h s.who d.original_id)
causes_of m h s (OrderCancelReplaceRequest d) t = replace_causes m h s d t (named h s.who d.original_id)
causes_of m h s (NewOrderCross d) t = cross_refusals m h s d t
causes_of m h s (QuoteRequest d) t = request_refusals m h s d t
causes_of m h s (Quote d) t = quote_causes m h s d t (find_room h.facts d.request_id)
causes_of m h s (QuoteResponse d) t = response_causes m h s d t (is_no_response d) (is_pass d) (find_quote h.facts d.quote_id)
causes_of m h s (QuoteCancel d) t = withdrawal_causes h s d t (is_of_one d) (is_of_all d)
causes_of m h s (MarketDataRequest d) t = market_data_refusals m s d
causes_of m h s _ t = []

-- Of a held side that enters at a tick.

abbrev pub due_causes : Market → History → Option HeldSide → Causes
due_causes m h None = []
due_causes m h (Some k) = due_refusals m h k
