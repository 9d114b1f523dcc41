-- Why a message is refused: which cause it is, and from when on that cause no longer holds.
use Rattle.std.specs.Prelude.{◌≡◌, ◌≤◌, ◌<◌, ◌+◌, ℕ, true, false, List, length, Option, Some, None, Contains}
use Rattle.sef_moment.specs.Utc.{greatest}
use Rattle.fix_dictionary.specs.declared.messages.App.{App}
use Rattle.fix_dictionary.specs.declared.messages.App.TheVariants as app
use Rattle.fix_dictionary.specs.declared.messages.OrderCancelReplaceRequest.{OrderCancelReplaceRequest as Replacement}
use Rattle.instruments.specs.Listing.{delay_of}
use Rattle.venue_rules.specs.declared.facts.OrderFact.{OrderFact}
use Rattle.venue_rules.specs.declared.replies.Reply.{Reply}
use Rattle.venue_rules.specs.declared.trail.Taken.{Taken}
use Rattle.venue_rules.specs.Answer.{Sender}
use Rattle.venue_rules.specs.Answers.{answer, type_of}
use Rattle.venue_rules.specs.Book.{Fill, fills, is_linked}
use Rattle.venue_rules.specs.Changes.{Named, IsResting, IsHeld, IsUnknown, named, replacement}
use Rattle.venue_rules.specs.Crosses.{first_side, side_order}
use Rattle.venue_rules.specs.Delay.{due}
use Rattle.venue_rules.specs.Facts.{History}
use Rattle.venue_rules.specs.Market.{Market}
use Rattle.venue_rules.specs.Orders.{order_asked}
use Rattle.venue_rules.specs.Run.{Input, Message, Tick, answer_input}
use Rattle.refusal_causes.specs.Causes.{Causes, IsFirst, causes_of, due_causes}
use Rattle.refusal_causes.specs.Places.{count, due_count, due_named, first_named, place, waits}

abbrev pub sender_of : Taken → Sender
sender_of taken = record { who = taken.from; number = taken.item.number; kind = type_of taken.item.app }

-- the causes for which a message that is taken at a moment may be refused, or at a tick the held side that is due
abbrev pub causes_at : Market → History → Input → Causes
causes_at m h (Message taken t) = causes_of m h (sender_of taken) taken.item.app t
causes_at m h (Tick t) = due_causes m h (due h.facts t)

-- the number of the cause that the replies name, and how many there are
abbrev pub place_at : Input → List Reply → ℕ
place_at (Message taken t) rs = place taken.item.app rs
place_at (Tick t) rs = first_named due_named rs

abbrev pub count_at : Input → List Reply → ℕ
count_at (Message taken t) rs = count taken.item.app rs
count_at (Tick t) rs = first_named due_count rs

-- of the causes for which the rules may refuse at this input, in a list of this length, this one is the first that
-- holds: those before it do not
pub record IsRefusedFor (m : Market) (h : History) (i : Input) (cause of : ℕ) : Type 0 where
  pub first : IsFirst 1 (causes_at m h i) cause
  pub many : length (causes_at m h i) ≡ of

-- the cause for which a message is refused at a moment is one that ends by time alone
abbrev pub Waits : Market → History → Taken → ℕ → Type 0
Waits m h taken t = waits taken.item.app (answer m h taken t).replies ≡ true

abbrev pub WaitsNoMore : Market → History → Taken → ℕ → Type 0
WaitsNoMore m h taken t = waits taken.item.app (answer m h taken t).replies ≡ false

-- The cause holds at t and at each moment before `passes`, and at `passes` it does not, if nothing else happens before.
pub record PassesFrom (m : Market) (h : History) (taken : Taken) (t passes : ℕ) : Type 0 where
  pub later : t < passes
  pub before : (u : ℕ) → t ≤ u → u < passes → Waits m h taken u
  pub then : WaitsNoMore m h taken passes

-- the longest life of a request, in milliseconds: longer than each delay between linked orders
abbrev pub longest_wait : ℕ
longest_wait = 86400000

-- the cause holds at t and at each moment within the longest wait
abbrev pub NeverPasses : Market → History → Taken → ℕ → Type 0
NeverPasses m h taken t = (u : ℕ) → t ≤ u → u ≤ t + longest_wait → u ≤ greatest → Waits m h taken u

-- the first moment at which the cause no longer holds; none where it does not end by time alone, or not within the
-- longest wait
abbrev pub IsPassing : Option ℕ → Market → History → Input → Type 0
IsPassing (Some passes) m h (Message taken t) = PassesFrom m h taken t passes
IsPassing None m h (Message taken t) = Waits m h taken t → NeverPasses m h taken t
IsPassing (Some passes) m h (Tick t) = ⊥
IsPassing None m h (Tick t) = Unit {0}

-- between these moments is the first at which the cause no longer holds
pub record IsBetween (m : Market) (h : History) (taken : Taken) (t low high : ℕ) : Type 0 where
  pub from : t ≤ low
  pub holds : Waits m h taken low
  pub passed : WaitsNoMore m h taken high

-- the order that a message would enter, if it does: a new one, one that replaces a resting one, a cross's first side
abbrev pub replacing : Replacement → Named → Option OrderFact
replacing d (IsResting r) = Some (replacement d r)
replacing d (IsHeld k) = None
replacing d IsUnknown = None

abbrev pub order_entering : Market → History → ℕ → App → Option OrderFact
order_entering m h who (app.NewOrderSingle d) = Some (order_asked m who d)
order_entering m h who (app.OrderCancelReplaceRequest d) = replacing d (named h who d.original_id)
order_entering m h who (app.NewOrderCross d) = Some (side_order m who d (first_side d))
order_entering m h who _ = None

-- the order would trade with a linked one that entered just the instrument's delay before this moment
pub record EndsWithLinked (m : Market) (h : History) (o : OrderFact) (passes : ℕ) : Type 0 where
  pub fill : Fill
  pub filled : Contains (fills h.facts o) fill
  pub linked : is_linked m o fill.resting.entry.order ≡ true
  pub apart : fill.resting.entry.moment + delay_of m.instruments o.instrument ≡ passes

-- Laws.

-- where an answer names a cause, it is the first of the list that holds
abbrev pub CausesAreFirst : Type 0
CausesAreFirst = (m : Market) (h : History) (i : Input) → 1 ≤ place_at i (answer_input m h i).replies → IsRefusedFor m h i (place_at i (answer_input m h i).replies) (count_at i (answer_input m h i).replies)

-- a cause that ends by time and holds at a moment holds at each earlier one
abbrev pub HoldsBefore : Type 0
HoldsBefore = (m : Market) (h : History) (taken : Taken) (u t : ℕ) → u ≤ t → Waits m h taken t → Waits m h taken u

-- where it passes from a moment on, it would trade with a linked order that entered just the delay before
abbrev pub PassesAfterLinked : Type 0
PassesAfterLinked = (m : Market) (h : History) (taken : Taken) (o : OrderFact) (t passes : ℕ) → order_entering m h taken.from taken.item.app ≡ Some o → PassesFrom m h taken t passes → EndsWithLinked m h o passes
