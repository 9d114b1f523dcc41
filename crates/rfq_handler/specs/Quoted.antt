use Rattle.std.specs.Prelude.{◌≡◌, ℕ, Bool, List, [], ◌∷◌, ◌++◌, Some, is_some, MatchOption}
use Rattle.fix_dictionary.specs.declared.messages.Quote.{Quote}
use Rattle.participants.specs.ParticipantFile.{ParticipantFile}
use Rattle.instruments.specs.declared.instruments.Instrument.{Instrument}
use Rattle.instruments.specs.Listing.{symbol_of}
use Rattle.venue_rules.specs.declared.facts.Fact.{Fact}
use Rattle.venue_rules.specs.declared.facts.Fact.TheVariants.{Quoted}
use Rattle.venue_rules.specs.declared.facts.Room.{Room}
use Rattle.venue_rules.specs.declared.facts.RoomQuote.{RoomQuote}
use Rattle.venue_rules.specs.declared.replies.QuoteState.TheVariants as state
use Rattle.venue_rules.specs.declared.replies.Reply.{Reply}
use Rattle.venue_rules.specs.Answer.{Answer, Sender}
use Rattle.venue_rules.specs.Quotes.{quote_status}
use Rattle.venue_rules.specs.Rooms.{find_room, first_quote}
use Rattle.rfq_room.specs.Plans.{quote_made}
use Rattle.rfq_handler.specs.Sent.{quote_sent, rests, shown_unless}

-- the replies to a quote in a room: to its maker, then to the requester the book snapshot, unless the room was quoted,
-- and the quote
unfoldable pub quote_replies : ParticipantFile → List Fact → Sender → Quote → Bool → Room → List ℕ → RoomQuote → List Reply
quote_replies participants book s d quoted r symbol q =
    (quote_status s d (Some symbol) state.Accepted ∷ shown_unless quoted r symbol (rests book r.instrument)) ++ quote_sent participants r symbol q ∷ []

-- the answer to an accepted quote in a room, by the facts of the rooms and of the book
abbrev pub quote_answer : ParticipantFile → List Instrument → List Fact → List Fact → Sender → Quote → Room → Answer
quote_answer participants instruments rooms book s d r =
    let q = quote_made rooms s.who r d in
    record { facts = Quoted q ∷ []; replies = quote_replies participants book s d (is_some (first_quote rooms r.number)) r (symbol_of instruments r.instrument) q }

-- that answer, in the room that the quote names
abbrev pub IsQuoteAnswer : ParticipantFile → List Instrument → List Fact → List Fact → Sender → Quote → Answer → Type 0
IsQuoteAnswer participants instruments rooms book s d a = MatchOption (find_room rooms d.request_id) ⊥ (λ r. a ≡ quote_answer participants instruments rooms book s d r)
