use Rattle.std.specs.Prelude.{ℕ, List, [], ◌∷◌, Option, Some, None, option_map}
use Rattle.fix_dictionary.specs.declared.messages.QuoteRequest.{QuoteRequest}
use Rattle.fix_dictionary.specs.declared.messages.Quote.{Quote}
use Rattle.fix_dictionary.specs.declared.messages.QuoteCancel.{QuoteCancel}
use Rattle.fix_dictionary.specs.declared.messages.QuoteResponse.{QuoteResponse}
use Rattle.venue_rules.specs.declared.facts.Room.{Room}
use Rattle.venue_rules.specs.declared.facts.RoomQuote.{RoomQuote}
use Rattle.venue_rules.specs.declared.refusals.RequestRefusal.{RequestRefusal}
use Rattle.venue_rules.specs.declared.refusals.QuoteRefusal.{QuoteRefusal}
use Rattle.venue_rules.specs.declared.refusals.ResponseRefusal.TheVariants as refusal
use Rattle.venue_rules.specs.declared.refusals.BusinessRefusal.TheVariants as business
use Rattle.venue_rules.specs.declared.replies.QuoteState.{QuoteState}
use Rattle.venue_rules.specs.declared.replies.QuoteState.TheVariants as state
use Rattle.instruments.specs.Listing.{symbol_of}
use Rattle.venue_rules.specs.Market.{Market}
use Rattle.venue_rules.specs.Facts.{History}
use Rattle.venue_rules.specs.Answer.{Answer, Sender, answers, no_answer, business_reject}
use Rattle.venue_rules.specs.Requests.{opened, request_accepted, request_refused}
use Rattle.venue_rules.specs.Quotes.{quote_accepted, quote_status}
use Rattle.venue_rules.specs.Withdrawals.{cancel_status, not_found, withdrawn_all}
use Rattle.venue_rules.specs.Responses.{passed, response_status, room_traded}
use Rattle.rfq_room.specs.declared.decision.Decision.{Decision}
use Rattle.rfq_room.specs.declared.decision.Decision.TheVariants.{Refuse, Pass, Trade}
use Rattle.rfq_room.specs.declared.refusal.WithdrawalRefusal.{WithdrawalRefusal}
use Rattle.rfq_room.specs.declared.refusal.WithdrawalRefusal.TheVariants as withdrawal
use Rattle.rfq_room.specs.declared.refusal.ResponseCause.{ResponseCause}
use Rattle.rfq_room.specs.declared.refusal.ResponseCause.TheVariants as response
use Rattle.rfq_room.specs.Causes.{withdrawal_id}

-- the answer to a request, by the cause that refuses it
abbrev pub request_emitted : Market → History → Sender → QuoteRequest → ℕ → Option RequestRefusal → Answer
request_emitted m h s d t None = request_accepted m (opened m h s d t)
request_emitted m h s d t (Some cause) = request_refused s d cause

-- the symbol of a room, if any
abbrev pub room_symbol : Market → Option Room → Option (List ℕ)
room_symbol m room = option_map (λ r. symbol_of m.instruments r.instrument) room

-- the refusal of a quote, in a room if any
abbrev pub quote_refused : Market → Sender → Quote → Option Room → QuoteRefusal → Answer
quote_refused m s d room cause = answers (quote_status s d (room_symbol m room) (state.Refused cause) ∷ [])

-- the answer to a quote, by the room that it names and the cause that refuses it
abbrev pub quote_emitted : Market → History → Sender → Quote → Option Room → Option QuoteRefusal → Answer
quote_emitted m h s d room (Some cause) = quote_refused m s d room cause
quote_emitted m h s d (Some r) None = quote_accepted m h s r d
quote_emitted m h s d None None = no_answer

-- the answer to a withdrawal of these quotes, by the cause that refuses it
abbrev pub withdrawal_emitted : Market → History → Sender → QuoteCancel → List RoomQuote → Option WithdrawalRefusal → Answer
withdrawal_emitted m h s d qs None = withdrawn_all m h qs
withdrawal_emitted m h s d qs (Some withdrawal.QuoteMissing) = business_reject s business.QuoteMissing
withdrawal_emitted m h s d qs (Some withdrawal.NotFound) = not_found s (withdrawal_id d)
withdrawal_emitted m h s d qs (Some withdrawal.Unsupported) = cancel_status s d state.CancelUnsupported

-- a status that names the room and its instrument
abbrev pub status_in : Market → Sender → QuoteResponse → Option Room → QuoteState → Answer
status_in m s d room what = answers (response_status s d (option_map (λ r. r.id) room) (room_symbol m room) what ∷ [])

-- the refusal of a quote response: the room is named once it is known to be the sender's own
abbrev pub response_refused : Market → Sender → QuoteResponse → Option Room → ResponseCause → Answer
response_refused m s d room response.Unsupported = status_in m s d None (state.ResponseRefused refusal.UnsupportedResponse)
response_refused m s d room response.UnknownQuote = status_in m s d None state.NotFound
response_refused m s d room response.NotYours = status_in m s d None (state.ResponseRefused refusal.NotYours)
response_refused m s d room response.Over = status_in m s d room state.NotFound
response_refused m s d room response.Withdrawn = status_in m s d room state.Withdrawn
response_refused m s d room response.Expired = status_in m s d room state.Expired
response_refused m s d room response.OtherSide = status_in m s d room (state.ResponseRefused refusal.Side)
response_refused m s d room response.SideMissing = business_reject s business.SideMissing
response_refused m s d room response.NoPrice = status_in m s d room (state.ResponseRefused refusal.InvalidPrice)

-- the answer to a quote response, by the quote that it names, its room, and the decision
abbrev pub response_emitted : Market → History → Sender → QuoteResponse → ℕ → Option RoomQuote → Option Room → Decision → Answer
response_emitted m h s d t q room (Refuse cause) = response_refused m s d room cause
response_emitted m h s d t (Some q) (Some r) Pass = passed m s r q d
response_emitted m h s d t (Some q) (Some r) (Trade hit) = room_traded m h s r q d hit.side hit.price t
response_emitted m h s d t None room Pass = no_answer
response_emitted m h s d t None room (Trade hit) = no_answer
response_emitted m h s d t (Some q) None Pass = no_answer
response_emitted m h s d t (Some q) None (Trade hit) = no_answer
