-- What the answers of a day say, row by row.
use Rattle.std.specs.Prelude.{◌≡◌, ℕ, List, [], ◌∷◌, ◌++◌, Option, None, Some}
use Rattle.venue_rules.specs.declared.replies.Reply.{Reply}
use Rattle.venue_rules.specs.declared.trail.Taken.{Taken}
use Rattle.venue_rules.specs.declared.trail.TrailRow.{TrailRow}
use Rattle.venue_rules.specs.Answer.{Answer}
use Rattle.venue_rules.specs.Facts.{History, no_history}
use Rattle.venue_rules.specs.Market.{Market}
use Rattle.venue_rules.specs.Run.{Input, Message, Tick, after, answer_input}
use Rattle.venue_core.specs.Replay.{AreEmitted, Emits}
use Rattle.venue_core.specs.State.{State}
use Rattle.venue_core.specs.Taking.{Stands, Takes}
use Rattle.venue_core.specs.VenueFacts.{IsHistory}
use Rattle.day_events.specs.declared.best.Best.{Best}
use Rattle.day_events.specs.declared.event.Event.{Event}
use Rattle.day_events.specs.declared.shown.ShownPrice.{ShownPrice}
use Rattle.day_events.specs.Bests.{bests, reported_in}
use Rattle.day_events.specs.Events.{events_at}
use Rattle.day_events.specs.ShownPrices.{shown_at}

-- the message of an input, or none of a tick
abbrev pub taken_in : Input → Option Taken
taken_in (Message taken t) = Some taken
taken_in (Tick t) = None

-- what is read off the answers to rows, one row's after another's, by the rows from a history on
abbrev pub said_from : {A : Type 0} → (TrailRow → Option Taken → List Reply → List A) → Market → History → List TrailRow → List Input → List A
said_from says m h [] is = []
said_from says m h (r ∷ rs) [] = []
said_from says m h (r ∷ rs) (i ∷ is) =
    says r (taken_in i) (answer_input m h i).replies ++ said_from says m (after h (answer_input m h i)) rs is

-- what the answers of a day say
abbrev pub events : Market → List TrailRow → List Input → List Event
events m rs is = said_from events_at m no_history rs is

-- the prices shown with the quotes of a day
abbrev pub shown : Market → List TrailRow → List Input → List ShownPrice
shown m rs is = said_from shown_at m no_history rs is

-- a venue processes the input of a row, and what its answer says and shows was added; the answer begins with the report
-- of an order of this instrument, or of none
pub record TakesEvents (r : TrailRow) (s s' : State) (es es' : List Event) (ps ps' : List ShownPrice) (x : Option ℕ) : Type 0 where
  pub input : Input
  pub answer : Answer
  pub emits : Emits r input
  pub takes : Takes s input answer s'
  pub answered : (h : History) → IsHistory s h → es' ≡ es ++ events_at r (taken_in input) (answer_input s.market h input).replies
  pub shown : (h : History) → IsHistory s h → ps' ≡ ps ++ shown_at r (taken_in input) (answer_input s.market h input).replies
  pub reported : (h : History) → IsHistory s h → x ≡ reported_in s.market.instruments (answer_input s.market h input).replies

-- a venue stands where the inputs of these rows lead, and this is what their answers say and show
pub record AreEvents (m : Market) (rs : List TrailRow) (s : State) (es : List Event) (ps : List ShownPrice) : Type 0 where
  pub items : List Input
  pub emitted : AreEmitted rs items
  pub stands : Stands m items s
  pub answered : es ≡ events m rs items
  pub shown : ps ≡ shown m rs items

-- and these are the changes of its best prices
pub record ArePriced (m : Market) (rs : List TrailRow) (s : State) (es : List Event) (ps : List ShownPrice) (bs : List Best) : Type 0 where
  pub events : AreEvents m rs s es ps
  pub bests : bs ≡ bests m rs events.items
