-- What the page says became of a quote, and what the rules say of it.
use Rattle.std.specs.Prelude.{◌≡◌, ℕ, ◌+◌, ◌<◌, ◌^◌, Bool, true, false, List, Contains, Option, Some}
use Rattle.std.specs.List.{enumerate_from}
use Rattle.venue_rules.specs.declared.facts.Fact.{Fact}
use Rattle.venue_rules.specs.declared.facts.Fact.TheVariants.{Quoted as WasQuoted}
use Rattle.venue_rules.specs.declared.facts.RoomQuote.{RoomQuote}
use Rattle.venue_rules.specs.declared.facts.Trade.{Trade}
use Rattle.venue_rules.specs.declared.facts.TradeSource.TheVariants.{Room as InRoom}
use Rattle.venue_rules.specs.declared.trail.TrailRow.{TrailRow}
use Rattle.venue_rules.specs.Facts.{trades}
use Rattle.venue_rules.specs.Market.{Market}
use Rattle.venue_rules.specs.Rooms.{is_live, is_withdrawn}
use Rattle.venue_rules.specs.Run.{Input, run}
use Rattle.venue_core.specs.Replay.{AreEmitted}
use Rattle.day_events.specs.declared.event.Event.{Event}
use Rattle.day_events.specs.declared.event.NewQuote.{NewQuote}
use Rattle.day_events.specs.declared.event.What.TheVariants as what
use Rattle.day_events.specs.Days.{events}
use Rattle.request_sections.specs.declared.fate.Fate.{Fate}
use Rattle.request_sections.specs.declared.fate.Fate.TheVariants.{Hit, Live, Passed, Withdrawn}
use Rattle.request_sections.specs.Fate.{outcome_of}
use Rattle.request_sections.specs.Picks.{names_room}
use Rattle.request_sections.specs.Requests.{quoted_of}

-- the numbers of quotes and of rooms are of 64 bits, as the program's are
abbrev pub AreSmall : List Fact → Type 0
AreSmall facts = (q : RoomQuote) → Contains facts (WasQuoted q) → (q.number < 2 ^ 64) × (q.room < 2 ^ 64)

-- an event is of a quote in a room, as the page lists it
pub record IsQuoteOf (es : List Event) (room : ℕ) (e : Event) (q : NewQuote) : Type 0 where
  pub listed : Contains es e
  pub quote : e.what ≡ what.Quoted q
  pub here : names_room room e.at.named ≡ true
  pub small : room < 2 ^ 64

-- what the page says became of it by a moment
abbrev pub outcome : List Event → ℕ → Event → NewQuote → Option ℕ → Fate
outcome es room e q last = outcome_of (quoted_of room e q) last es es

-- it was withdrawn or passed
abbrev pub is_gone : Fate → Bool
is_gone (Withdrawn row) = true
is_gone (Passed row) = true
is_gone _ = false

-- the trade with this number, from 1 on, is a hit of this quote in this room
abbrev pub IsTradeOf : List Fact → ℕ → ℕ → ℕ → Type 0
IsTradeOf facts n room quote = (t : Trade) × Contains (enumerate_from 1 (trades facts)) (n, t) × (t.place ≡ InRoom room quote)

-- The quote is recorded as it is listed. It was hit in a trade if that trade is of the quote, and only then, whatever
-- else happened. It is live at a moment, or was withdrawn or passed, if the rules say so, and only then.
pub record FollowsRules (facts : List Fact) (es : List Event) (room : ℕ) (e : Event) (q : NewQuote) : Type 0 where
  pub recorded : RoomQuote
  pub quoted : Contains facts (WasQuoted recorded)
  pub number : recorded.number ≡ q.quote
  pub in_room : recorded.room ≡ room
  pub maker : recorded.maker + 1 ≡ e.at.from
  pub end : recorded.end ≡ q.end
  pub hit_traded : (last : Option ℕ) (n : ℕ) → outcome es room e q last ≡ Hit n → IsTradeOf facts n room q.quote
  pub traded_hit : (last : Option ℕ) (n : ℕ) → IsTradeOf facts n room q.quote → outcome es room e q last ≡ Hit n
  pub shown_live : (t : ℕ) → outcome es room e q (Some t) ≡ Live → is_live facts t recorded ≡ true
  pub gone : (last : Option ℕ) → is_gone (outcome es room e q last) ≡ is_withdrawn facts recorded.number
  pub live_shown : (t : ℕ) → is_live facts t recorded ≡ true → outcome es room e q (Some t) ≡ Live

-- so it is of each quote of a day
abbrev pub OutcomesAgree : Type 0
OutcomesAgree =
    (m : Market) (rs : List TrailRow) (is : List Input) → AreEmitted rs is → AreSmall (run m is).history.facts
    → (room : ℕ) (e : Event) (q : NewQuote) → IsQuoteOf (events m rs is) room e q → FollowsRules (run m is).history.facts (events m rs is) room e q

-- each recorded quote is listed, in its room
abbrev pub QuotesAreListed : Type 0
QuotesAreListed =
    (m : Market) (rs : List TrailRow) (is : List Input) → AreEmitted rs is → AreSmall (run m is).history.facts
    → (recorded : RoomQuote) → Contains (run m is).history.facts (WasQuoted recorded) → (e : Event) × (q : NewQuote) × IsQuoteOf (events m rs is) recorded.room e q × (q.quote ≡ recorded.number)
