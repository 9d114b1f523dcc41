use Rattle.std.specs.Prelude.{◌≡◌, ℕ, ◌+◌, Bool, true, false, List, [], ◌∷◌, Option, Some, None, MatchOption}
use Rattle.fix_dictionary.specs.declared.messages.QuoteResponse.{QuoteResponse}
use Rattle.instruments.specs.declared.instruments.Instrument.{Instrument}
use Rattle.instruments.specs.Listing.{symbol_of}
use Rattle.venue_rules.specs.declared.facts.Fact.{Fact}
use Rattle.venue_rules.specs.declared.facts.Room.{Room}
use Rattle.venue_rules.specs.declared.facts.RoomQuote.{RoomQuote}
use Rattle.venue_rules.specs.declared.refusals.ResponseRefusal.TheVariants as refusal
use Rattle.venue_rules.specs.declared.replies.QuoteState.{QuoteState}
use Rattle.venue_rules.specs.declared.replies.QuoteState.TheVariants as state
use Rattle.venue_rules.specs.declared.replies.Reply.{Reply}
use Rattle.venue_rules.specs.Answer.{Sender}
use Rattle.venue_rules.specs.Responses.{response_status}
use Rattle.venue_rules.specs.Rooms.{find_quote}
use Rattle.rfq_room.specs.Named.{quote_room}
use Rattle.rfq_room.specs.declared.decision.Hit.{Hit}
use Rattle.rfq_room.specs.declared.refusal.ResponseCause.{ResponseCause}
use Rattle.rfq_room.specs.declared.refusal.ResponseCause.TheVariants as response
use Rattle.rfq_handler.specs.Read.{first_answered}
use Rattle.rfq_handler.specs.Sent.{other_side, to_maker, traded_report}

-- the statuses of a pass, to the sender and to the maker
unfoldable pub pass_emitted : List Instrument → Sender → QuoteResponse → Room → RoomQuote → List Reply
pass_emitted instruments s d r q =
    response_status s d (Some r.id) (Some (symbol_of instruments r.instrument)) state.Passed ∷ to_maker r (symbol_of instruments r.instrument) q state.Passed ∷ []

-- the reports of a hit, to the sender and then to the maker, with the next numbers
unfoldable pub notify_hit : List Instrument → Room → ℕ → ℕ → ℕ → Hit → QuoteResponse → ℕ → List Reply
notify_hit instruments r trade who maker hit d reports =
    traded_report r (symbol_of instruments r.instrument) trade who hit (Some d.response_id) (reports + 1)
    ∷ traded_report r (symbol_of instruments r.instrument) trade maker (other_side hit) None (reports + 1 + 1)
    ∷ []

-- the replies to a pass or a hit; the next trade has the next number
unfoldable pub response_replies : List Instrument → ℕ → ℕ → Sender → QuoteResponse → Room → RoomQuote → Option Hit → List Reply
response_replies instruments reports traded s d r q None = pass_emitted instruments s d r q
response_replies instruments reports traded s d r q (Some hit) = notify_hit instruments r (traded + 1) s.who q.maker hit d reports

-- those replies, by the quote named and its room
abbrev pub IsResponseEmitted : List Instrument → List Fact → ℕ → ℕ → Sender → QuoteResponse → Option Hit → List Reply → Type 0
IsResponseEmitted instruments facts reports traded s d hit replies =
    MatchOption (find_quote facts d.quote_id) ⊥ (λ q. MatchOption (quote_room facts d.quote_id) ⊥ (λ r. replies ≡ response_replies instruments reports traded s d r q hit))

-- the plan passes or hits the quote named
abbrev pub IsAnswerTo : List Fact → List ℕ → List Fact → Type 0
IsAnswerTo facts id added = MatchOption (find_quote facts id) ⊥ (λ q. first_answered added ≡ Some q.number)

-- the number of trades: 1 for a hit
abbrev pub hits : Option Hit → ℕ
hits None = 0
hits (Some hit) = 1

-- the state in the status of a refused response; none where the message is not processed
abbrev pub refused_state : ResponseCause → Option QuoteState
refused_state response.Unsupported = Some (state.ResponseRefused refusal.UnsupportedResponse)
refused_state response.UnknownQuote = Some state.NotFound
refused_state response.NotYours = Some (state.ResponseRefused refusal.NotYours)
refused_state response.Over = Some state.NotFound
refused_state response.Withdrawn = Some state.Withdrawn
refused_state response.Expired = Some state.Expired
refused_state response.OtherSide = Some (state.ResponseRefused refusal.Side)
refused_state response.SideMissing = None
refused_state response.NoPrice = Some (state.ResponseRefused refusal.InvalidPrice)

-- this cause refuses only responses to a quote in a room of the sender's own
abbrev pub is_own_room : ResponseCause → Bool
is_own_room response.Unsupported = false
is_own_room response.UnknownQuote = false
is_own_room response.NotYours = false
is_own_room response.Over = true
is_own_room response.Withdrawn = true
is_own_room response.Expired = true
is_own_room response.OtherSide = true
is_own_room response.SideMissing = true
is_own_room response.NoPrice = true
