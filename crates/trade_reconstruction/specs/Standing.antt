-- Orders that rested before the filled one when the entering order came: those of its side that come before it, by
-- better price and then by earlier entry, in the book that the venue shows for the instrument (17 CFR 37.9(a)(3)).
use Rattle.std.specs.Prelude.{ℕ, ◌==◌, Bool, true, List, [], ◌∷◌, ◌++◌, length, Option, Some, None, if◌then◌else◌}
use Rattle.std.specs.List.{list_any}
use Rattle.fix_dictionary.specs.declared.messages.App.TheVariants.{MarketDataRequest}
use Rattle.instruments.specs.Listing.{instrument_of, is_unknown_instrument}
use Rattle.venue_rules.specs.declared.replies.FilledReport.{FilledReport}
use Rattle.venue_rules.specs.declared.replies.SnapshotEntry.{SnapshotEntry}
use Rattle.venue_rules.specs.declared.replies.Reply.{Reply}
use Rattle.venue_rules.specs.declared.replies.ReplyBody.{ReplyBody}
use Rattle.venue_rules.specs.declared.replies.ReplyBody.TheVariants as what
use Rattle.venue_rules.specs.declared.trail.Taken.{Taken}
use Rattle.venue_rules.specs.Book.{is_side, picture}
use Rattle.venue_rules.specs.Facts.{History}
use Rattle.venue_rules.specs.Market.{Market}
use Rattle.venue_rules.specs.Run.{Input, Message, Tick}
use Rattle.trade_reconstruction.specs.declared.standing.Met.{Met}
use Rattle.trade_reconstruction.specs.declared.evidence_event.EventKind.TheVariants as said
use Rattle.trade_reconstruction.specs.declared.evidence_event.EvidenceEvent.{EvidenceEvent}
use Rattle.trade_reconstruction.specs.EventKinds.{word}

-- a message taken at a moment, or else a tick
abbrev pub input_of : Option Taken → ℕ → Input
input_of (Some taken) t = Message taken t
input_of None t = Tick t

-- The resting order that the trade with a number filled: of the two reports of a fill its own is the second.

abbrev pub met_of : ℕ → FilledReport → Option ℕ → Option Met
met_of to f None = None
met_of to f (Some order) = Some (record { resting = order; side = f.order.side; symbol = f.order.symbol; who = to })

abbrev pub met_filled : ℕ → ℕ → FilledReport → Option Met
met_filled number to f = if f.trade == number then met_of to f f.order.order else None

abbrev pub met_what : ℕ → ℕ → ReplyBody → Option Met
met_what number to (what.OrderFilled f) = met_filled number to f
met_what number to _ = None

abbrev pub met_by : ℕ → Reply → Option Met
met_by number r = met_what number r.to r.what

abbrev pub later : Option Met → Option Met → Option Met
later before None = before
later before (Some met) = Some met

abbrev pub met_after : ℕ → Option Met → List Reply → Option Met
met_after number met [] = met
met_after number met (r ∷ rs) = met_after number (later met (met_by number r)) rs

-- What rested before it.

abbrev pub stood_word : ℕ → ℕ → Met → SnapshotEntry → EvidenceEvent
stood_word row moment met e = word row moment met.who (said.RestedBefore (record { resting = met.resting; side = e.side; price = e.price; left = e.left; order = e.order }))

abbrev pub counted_word : ℕ → ℕ → Met → ℕ → EvidenceEvent
counted_word row moment met count = word row moment met.who (said.RestedCount (record { resting = met.resting; count = count }))

abbrev pub stood_if : ℕ → ℕ → Met → SnapshotEntry → List EvidenceEvent
stood_if row moment met e = if is_side e.side met.side then stood_word row moment met e ∷ [] else []

-- those of its side, up to it
abbrev pub stood_from : ℕ → ℕ → Met → List SnapshotEntry → List EvidenceEvent
stood_from row moment met [] = []
stood_from row moment met (e ∷ es) = if e.order == met.resting then [] else stood_if row moment met e ++ stood_from row moment met es

-- and their count
unfoldable pub stood_words : ℕ → ℕ → Met → List SnapshotEntry → List EvidenceEvent
stood_words row moment met es = stood_from row moment met es ++ counted_word row moment met (length (stood_from row moment met es)) ∷ []

-- every resting order of the instrument with a symbol, best first on each side
abbrev pub prices_of : Market → History → List ℕ → List SnapshotEntry
prices_of m h symbol = if is_unknown_instrument m.instruments symbol then [] else picture h.facts (instrument_of m.instruments symbol)

abbrev pub stood_met : Market → History → ℕ → ℕ → Option Met → List EvidenceEvent
stood_met m h row moment None = []
stood_met m h row moment (Some met) = stood_words row moment met (prices_of m h met.symbol)

-- what rested before the order that the trade with a number filled, where these replies report the trade
abbrev pub stood_at : Market → History → ℕ → ℕ → ℕ → List Reply → List EvidenceEvent
stood_at m h number row moment replies = stood_met m h row moment (met_after number None replies)

-- The trades that replies report, each once, out of those that are watched: one, or all.

abbrev pub is_watched : Option ℕ → ℕ → Bool
is_watched None number = true
is_watched (Some watched) number = watched == number

abbrev pub watched_in : Option ℕ → Option ℕ → Option ℕ
watched_in watch None = None
watched_in watch (Some number) = if is_watched watch number then Some number else None

abbrev pub trade_what : ReplyBody → Option ℕ
trade_what (what.OrderFilled f) = Some f.trade
trade_what (what.RoomTraded r) = Some r.trade
trade_what _ = None

abbrev pub with_number : List ℕ → Option ℕ → List ℕ
with_number numbers None = numbers
with_number numbers (Some number) = if list_any (λ n. n == number) numbers then numbers else numbers ++ number ∷ []

abbrev pub numbers_after : Option ℕ → List ℕ → List Reply → List ℕ
numbers_after watch numbers [] = numbers
numbers_after watch numbers (r ∷ rs) = numbers_after watch (with_number numbers (watched_in watch (trade_what r.what))) rs

-- The market data request.

abbrev pub asks : ℕ → List ℕ → Taken
asks who symbol = record {
  from = who;
  item = record { era = 1; number = 1; app = MarketDataRequest (record { request_id = symbol; subscription_type = 48; depth = 0; entry_types = 48 ∷ []; symbol = symbol }) };
}

abbrev pub entries_what : ReplyBody → List SnapshotEntry
entries_what (what.BookSnapshot p) = p.entries
entries_what _ = []

abbrev pub entries_in : List Reply → List SnapshotEntry
entries_in [] = []
entries_in (r ∷ rs) = entries_what r.what
