use Rattle.std.specs.Prelude.{ℕ, ◌+◌, min, Bool, true, false, not, ◌&&◌, ◌==◌, nat_lt, nat_le, List, [], ◌∷◌, map, filter, filter_map, length, Option, is_none}
use Rattle.std.specs.List.{list_any}
use Rattle.fix_dictionary.specs.declared.messages.QuoteRequest.{QuoteRequest}
use Rattle.sef_moment.specs.Utc.{greatest}
use Rattle.venue_rules.specs.declared.facts.Fact.TheVariants.{Asked}
use Rattle.venue_rules.specs.declared.facts.Room.{Room}
use Rattle.venue_rules.specs.declared.refusals.RequestRefusal.{RequestRefusal}
use Rattle.venue_rules.specs.declared.refusals.RequestRefusal.TheVariants.{DuplicateRequest, UnknownInstrument, QuantityBelowLeast, UnknownParticipant, RequesterAmongRecipients, RecipientTwice, TooManyRecipients, TooFewRecipients, RecipientsNotUnrelated, TooManyRequests}
use Rattle.venue_rules.specs.declared.replies.ReplyBody.TheVariants.{RequestRefused, RequestSent}
use Rattle.participants.specs.Relations.{find_participant, three_unrelated}
use Rattle.instruments.specs.Listing.{instrument_of, is_unknown_instrument, least_of, request_life_of, symbol_of}
use Rattle.venue_rules.specs.declared.replies.Reply.{Reply}
use Rattle.venue_rules.specs.Market.{Market}
use Rattle.venue_rules.specs.Facts.{History, is_request_id_used, next_room}
use Rattle.venue_rules.specs.Rooms.{open_rooms}
use Rattle.venue_rules.specs.Answer.{Answer, Sender, answers, first_of, reply}

-- the most recipients of a request, and the most open rooms
abbrev pub recipient_room : ℕ
recipient_room = 12

abbrev pub open_room : ℕ
open_room = 1000

-- the parties with source D and role 35 (liquidity provider), each as a place in the participant file or none
abbrev pub named_recipients : Market → QuoteRequest → List (Option ℕ)
named_recipients m d = map (λ p. find_participant m.participants p.id) (filter (λ p. p.source == 68 && p.role == 35) d.parties)

abbrev pub recipients : Market → QuoteRequest → List ℕ
recipients m d = filter_map (λ r. r) (named_recipients m d)

-- a number occurs twice in the list
abbrev pub has_twice : List ℕ → Bool
has_twice [] = false
has_twice (r ∷ rs) = elim (list_any (λ q. q == r) rs) [ true ↦ true | false ↦ has_twice rs ]

abbrev pub request_refused : Sender → QuoteRequest → RequestRefusal → Answer
request_refused s d cause = answers (reply s.who (RequestRefused (record { id = d.request_id; symbol = d.symbol; cause = cause })) ∷ [])

-- the room that a request opens
abbrev pub opened : Market → History → Sender → QuoteRequest → ℕ → Room
opened m h s d t =
    let x = instrument_of m.instruments d.symbol in
    record { number = next_room h.facts; requester = s.who; id = d.request_id; instrument = x; side = d.side; quantity = d.quantity; recipients = recipients m d; end = min (t + request_life_of m.instruments x) greatest }

-- a request, as sent to one recipient
abbrev pub request_sent : Market → Room → ℕ → Reply
request_sent m r recipient = reply recipient (RequestSent (record { room = r.number; symbol = symbol_of m.instruments r.instrument; side = r.side; quantity = r.quantity }))

-- a request goes to all its recipients in one answer (17 CFR 37.9(a)(3))
abbrev pub request_accepted : Market → Room → Answer
request_accepted m r = record {
  facts = Asked r ∷ [];
  replies = map (request_sent m r) r.recipients;
}

-- causes that refuse a request, in order
abbrev pub request_refusals : Market → History → Sender → QuoteRequest → ℕ → List (Bool × Answer)
request_refusals m h s d t =
    let refuse = request_refused s d in
    let rs = recipients m d in
    (is_request_id_used h.facts s.who d.request_id, refuse DuplicateRequest)
    ∷ (is_unknown_instrument m.instruments d.symbol, refuse UnknownInstrument)
    ∷ (nat_lt d.quantity (least_of m.instruments (instrument_of m.instruments d.symbol)), refuse QuantityBelowLeast)
    ∷ (list_any is_none (named_recipients m d), refuse UnknownParticipant)
    ∷ (list_any (λ r. r == s.who) rs, refuse RequesterAmongRecipients)
    ∷ (has_twice rs, refuse RecipientTwice)
    ∷ (nat_lt recipient_room (length rs), refuse TooManyRecipients)
    ∷ (nat_lt (length rs) 3, refuse TooFewRecipients)
    ∷ (not (three_unrelated m.participants s.who rs), refuse RecipientsNotUnrelated)
    ∷ (nat_le open_room (length (open_rooms h.facts t)), refuse TooManyRequests)
    ∷ []

-- the answer to a QuoteRequest (R)
abbrev pub answer_request : Market → History → Sender → QuoteRequest → ℕ → Answer
answer_request m h s d t = first_of (request_refusals m h s d t) (request_accepted m (opened m h s d t))
