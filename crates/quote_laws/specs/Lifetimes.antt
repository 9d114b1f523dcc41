-- Until when the page says that a quote was live, and what the rules say.
use Rattle.std.specs.Prelude.{◌≡◌, ℕ, ◌≤◌, true, false, List, [], ◌∷◌, ◌++◌, Contains, Some}
use Rattle.venue_rules.specs.declared.facts.Fact.{Fact}
use Rattle.venue_rules.specs.declared.facts.Fact.TheVariants.{Quoted as WasQuoted}
use Rattle.venue_rules.specs.declared.facts.RoomQuote.{RoomQuote}
use Rattle.venue_rules.specs.declared.trail.TrailRow.{TrailRow}
use Rattle.venue_rules.specs.Market.{Market}
use Rattle.venue_rules.specs.Rooms.{is_live}
use Rattle.venue_rules.specs.Run.{Input, run}
use Rattle.venue_core.specs.Replay.{AreEmitted}
use Rattle.day_events.specs.declared.event.Event.{Event}
use Rattle.day_events.specs.declared.event.NewQuote.{NewQuote}
use Rattle.day_events.specs.Days.{events}
use Rattle.request_sections.specs.Lives.{live_until}
use Rattle.request_sections.specs.Requests.{quoted_of}
use Rattle.quote_laws.specs.Outcomes.{AreSmall, IsQuoteOf}

-- until when the page says that a quote was live, by a day whose last row has this moment
abbrev pub until : List Event → ℕ → Event → NewQuote → ℕ → ℕ
until es room e q last = live_until (quoted_of room e q) (Some last) es es

-- rows at this moment or before, and rows at this moment or later

abbrev pub AreUpTo : ℕ → List TrailRow → Type 0
AreUpTo t [] = Unit {0}
AreUpTo t (r ∷ rs) = (r.moment ≤ t) × AreUpTo t rs

abbrev pub AreFrom : ℕ → List TrailRow → Type 0
AreFrom t [] = Unit {0}
AreFrom t (r ∷ rs) = (t ≤ r.moment) × AreFrom t rs

-- what the rules say at a moment of a recorded quote, and until when the page has it live
pub record EndsByRules (facts : List Fact) (t : ℕ) (q : NewQuote) (u : ℕ) : Type 0 where
  pub recorded : RoomQuote
  pub quoted : Contains facts (WasQuoted recorded)
  pub number : recorded.number ≡ q.quote
  pub live : is_live facts t recorded ≡ true → t ≤ u
  pub over : is_live facts t recorded ≡ false → u ≤ t

-- At each moment between a day's first rows and its later ones: where a quote of the first rows is live by the rules,
-- the page has it live until then or longer. Where it is not, the page has its end then or before.
abbrev pub LivesAgree : Type 0
LivesAgree =
    (m : Market) (rs later : List TrailRow) (is more : List Input) → AreEmitted rs is → AreEmitted later more → AreSmall (run m (is ++ more)).history.facts
    → (t last : ℕ) → AreUpTo t rs → AreFrom t later → t ≤ last
    → (room : ℕ) (e : Event) (q : NewQuote) → IsQuoteOf (events m rs is) room e q → EndsByRules (run m is).history.facts t q (until (events m (rs ++ later) (is ++ more)) room e q last)
