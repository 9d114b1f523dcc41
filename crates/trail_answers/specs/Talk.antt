-- The conversation of a room on a day: the request that opened it, each quote that names it, each response to a quote
-- of it, each withdrawal of such a quote that is reported to its requester, and the trade.
--
-- A quote that the venue sends on to the requester gets a number, Q1: by it a response (117) and the requester's report
-- of a withdrawal name the quote. A report to a maker names the maker's own identifier, which may look the same.
use Rattle.std.specs.Prelude.{ℕ, Bool, false, not, ◌&&◌, ◌||◌, ◌==◌, List, [], ◌∷◌, ◌++◌, Option, Some, None, bytes_eq, if◌then◌else◌}
use Rattle.std.specs.List.{flat_map, list_any}
use Rattle.fix_dictionary.specs.declared.messages.App.{App}
use Rattle.fix_dictionary.specs.declared.messages.App.TheVariants.{Quote, QuoteCancel, QuoteResponse}
use Rattle.venue_rules.specs.declared.replies.Reply.{Reply}
use Rattle.venue_rules.specs.declared.replies.ReplyBody.{ReplyBody}
use Rattle.venue_rules.specs.declared.replies.ReplyBody.TheVariants as what
use Rattle.venue_rules.specs.Rooms.{printed}
use Rattle.venue_rules.specs.Run.{Input, Message, Tick}
use Rattle.trail_answers.specs.declared.talk.Talk as kept

-- what is known of a room after rows of a day
pub record Talk : Type 0 where
  -- a request was sent in it
  pub opened : Bool
  -- the last row is part of its conversation
  pub here : Bool
  -- the numbers of the quotes that were sent on in it
  pub quotes : List ℕ

-- as it is kept
abbrev pub talk_of : kept.Talk → Talk
talk_of t = record { opened = t.opened; here = t.here; quotes = t.quotes.items }

-- before the first row
abbrev pub unopened : Talk
unopened = record { opened = false; here = false; quotes = [] }

-- a reply sends its request to a recipient
unfoldable pub opens : ℕ → ReplyBody → Bool
opens room (what.RequestSent r) = r.room == room
opens room _ = false

-- or reports its trade
unfoldable pub trades : ℕ → ReplyBody → Bool
trades room (what.RoomTraded r) = r.room == room
trades room _ = false

-- a number of a list, as the venue prints it
abbrev pub is_quote : List ℕ → List ℕ → Bool
is_quote quotes id = list_any (λ n. bytes_eq (printed 81 n) id) quotes

abbrev pub is_quote_given : List ℕ → Option (List ℕ) → Bool
is_quote_given quotes None = false
is_quote_given quotes (Some id) = is_quote quotes id

unfoldable pub reports_quote : List ℕ → ReplyBody → Bool
reports_quote quotes (what.QuoteStatus s) = is_quote_given quotes s.quote_id
reports_quote quotes _ = false

-- a report to somebody else than the maker, on a quote of the room
abbrev pub reports_to_another : List ℕ → ℕ → Reply → Bool
reports_to_another quotes maker r = not (r.to == maker) && reports_quote quotes r.what

-- a quote that names the room
unfoldable pub quotes_in : ℕ → App → Bool
quotes_in room (Quote d) = bytes_eq (printed 82 room) d.request_id
quotes_in room _ = false

-- a response to a quote of it, or a withdrawal of one
unfoldable pub names_quote : List ℕ → ℕ → App → List Reply → Bool
names_quote quotes who (QuoteResponse d) replies = is_quote quotes d.quote_id
names_quote quotes who (QuoteCancel d) replies = list_any (reports_to_another quotes who) replies
names_quote quotes who _ replies = false

abbrev pub is_quoted : ℕ → Input → Bool
is_quoted room (Message taken t) = quotes_in room taken.item.app
is_quoted room (Tick t) = false

abbrev pub is_answered : List ℕ → Input → List Reply → Bool
is_answered quotes (Message taken t) replies = names_quote quotes taken.from taken.item.app replies
is_answered quotes (Tick t) replies = false

abbrev pub is_said : ℕ → Talk → Input → List Reply → Bool
is_said room t i replies = list_any (λ r. opens room r.what) replies || (list_any (λ r. trades room r.what) replies || (is_quoted room i || is_answered t.quotes i replies))

-- the numbers of the quotes that are sent on
unfoldable pub sent_on : ReplyBody → List ℕ
sent_on (what.QuoteSent q) = q.quote ∷ []
sent_on _ = []

abbrev pub quotes_after : ℕ → List ℕ → Input → List Reply → List ℕ
quotes_after room quotes i replies = if is_quoted room i then quotes ++ flat_map (λ r. sent_on r.what) replies else quotes

abbrev pub is_opened : ℕ → Talk → List Reply → Bool
is_opened room t replies = t.opened || list_any (λ r. opens room r.what) replies

-- after a row: what comes before the request is no part of the conversation
abbrev pub after_row : ℕ → Talk → Input → List Reply → Talk
after_row room t i replies = record { opened = is_opened room t replies; here = is_opened room t replies && is_said room t i replies; quotes = quotes_after room t.quotes i replies }

-- a room that is not sought has no conversation
abbrev pub talk_after : Option ℕ → Talk → Input → List Reply → Talk
talk_after None t i replies = t
talk_after (Some room) t i replies = after_row room t i replies
