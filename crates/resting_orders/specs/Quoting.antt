-- Quotes, as they are kept while rows are replayed: the quote that an input makes, by the replies to it, as its maker
-- sent it, and as it was sent on to the requester; and those that are live.
use Rattle.std.specs.Prelude.{ℕ, ◌==◌, Bool, true, false, nat_le, List, [], ◌∷◌, ◌++◌, filter, Option, Some, None, if◌then◌else◌}
use Rattle.std.specs.List.{filter_map}
use Rattle.fix_dictionary.specs.declared.messages.App.{App}
use Rattle.fix_dictionary.specs.declared.messages.App.TheVariants.{Quote, QuoteCancel}
use Rattle.fix_dictionary.specs.declared.messages.Quote.{Quote as QuoteMessage}
use Rattle.instruments.specs.Listing.{symbol_of}
use Rattle.venue_rules.specs.declared.facts.Fact.{Fact}
use Rattle.venue_rules.specs.declared.facts.Room.{Room}
use Rattle.venue_rules.specs.declared.facts.RoomQuote.{RoomQuote}
use Rattle.venue_rules.specs.declared.replies.QuoteState.{QuoteState}
use Rattle.venue_rules.specs.declared.replies.QuoteState.TheVariants.{Withdrawn}
use Rattle.venue_rules.specs.declared.replies.Reply.{Reply}
use Rattle.venue_rules.specs.declared.replies.ReplyBody.{ReplyBody}
use Rattle.venue_rules.specs.declared.replies.ReplyBody.TheVariants as what
use Rattle.venue_rules.specs.declared.trail.Taken.{Taken}
use Rattle.venue_rules.specs.Facts.{History, no_history, quotes}
use Rattle.venue_rules.specs.Market.{Market}
use Rattle.venue_rules.specs.Rooms.{is_live, printed}
use Rattle.venue_rules.specs.Run.{Input, Message, Tick, after, answer_input}
use Rattle.resting_orders.specs.declared.quoting.OwnQuote.{OwnQuote}

-- a quote of the rules, in its room: the maker names the room as the venue does (131)
abbrev pub own_quote : Market → Room → RoomQuote → OwnQuote
own_quote m r q = record { number = q.number; maker = q.maker; id = q.id; request = printed 82 r.number; symbol = symbol_of m.instruments r.instrument; bid = q.bid; offer = q.offer; quantity = r.quantity; end = q.end }

-- the quote of a message, by the reply that sends it on to the requester

abbrev pub quoted_what : ℕ → QuoteMessage → ReplyBody → Option OwnQuote
quoted_what who d (what.QuoteSent q) = Some (record { number = q.quote; maker = who; id = d.quote_id; request = d.request_id; symbol = q.symbol; bid = q.bid; offer = q.offer; quantity = q.quantity; end = q.end })
quoted_what who d _ = None

abbrev pub quoted_by : ℕ → QuoteMessage → Reply → Option OwnQuote
quoted_by who d r = quoted_what who d r.what

abbrev pub quoted_in : App → Option QuoteMessage
quoted_in (Quote d) = Some d
quoted_in _ = None

abbrev pub quoted_as : ℕ → Option QuoteMessage → List Reply → List OwnQuote
quoted_as who None replies = []
quoted_as who (Some d) replies = filter_map (quoted_by who d) replies

-- the quote that an input makes, if it does
abbrev pub quoted_at : Input → List Reply → List OwnQuote
quoted_at (Message taken t) replies = quoted_as taken.from (quoted_in taken.item.app) replies
quoted_at (Tick t) replies = []

-- those of inputs, one after another, from a history on
abbrev pub quoted_from : Market → History → List Input → List OwnQuote
quoted_from m h [] = []
quoted_from m h (i ∷ is) = quoted_at i (answer_input m h i).replies ++ quoted_from m (after h (answer_input m h i)) is

-- and of a day
abbrev pub quoted_on : Market → List Input → List OwnQuote
quoted_on m is = quoted_from m no_history is

-- of quotes of the rules, and the same as they are kept, those that are live at t by the facts
abbrev pub live_own : List Fact → ℕ → List RoomQuote → List OwnQuote → List OwnQuote
live_own facts t [] ks = []
live_own facts t (q ∷ qs) [] = []
live_own facts t (q ∷ qs) (k ∷ ks) = if is_live facts t q then k ∷ live_own facts t qs ks else live_own facts t qs ks

-- of all quotes; none where there is no moment
abbrev pub live_at : List Fact → Option ℕ → List OwnQuote → List OwnQuote
live_at facts None ks = []
live_at facts (Some t) ks = live_own facts t (quotes facts) ks

-- How it is found whether one is live: would the venue withdraw it for its maker?

-- the withdrawal of a quote by its maker (298=5)
abbrev pub withdrawal : OwnQuote → Taken
withdrawal k = record { from = k.maker; item = record { era = 1; number = 1; app = QuoteCancel (record { quote_id = Some k.id; cancel_type = 5 }) } }

abbrev pub is_withdrawn_state : QuoteState → Bool
is_withdrawn_state Withdrawn = true
is_withdrawn_state _ = false

abbrev pub withdraws_what : ReplyBody → Bool
withdraws_what (what.QuoteStatus s) = is_withdrawn_state s.state
withdraws_what _ = false

abbrev pub first_withdraws : List Reply → Bool
first_withdraws [] = false
first_withdraws (r ∷ rs) = withdraws_what r.what

abbrev pub still_live : Market → History → ℕ → OwnQuote → Bool
still_live m h t k = if nat_le t k.end then first_withdraws (answer_input m h (Message (withdrawal k) t)).replies else false

abbrev pub still_live_at : Market → History → Option ℕ → List OwnQuote → List OwnQuote
still_live_at m h None ks = []
still_live_at m h (Some t) ks = filter (still_live m h t) ks
