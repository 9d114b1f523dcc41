-- A venue that takes the inputs of rows, with what is kept.
use Rattle.std.specs.Prelude.{◌≡◌, ℕ, List, [], ◌++◌}
use Rattle.std.specs.List.{cons_option}
use Rattle.venue_rules.specs.declared.facts.HeldSide.{HeldSide}
use Rattle.venue_rules.specs.declared.trail.TrailRow.{TrailRow}
use Rattle.venue_rules.specs.declared.replies.Reply.{Reply}
use Rattle.venue_rules.specs.Answer.{Answer}
use Rattle.venue_rules.specs.Delay.{held}
use Rattle.venue_rules.specs.Facts.{History}
use Rattle.venue_rules.specs.Market.{Market}
use Rattle.venue_rules.specs.Run.{Input, answer_input, run}
use Rattle.venue_core.specs.Replay.{AreEmitted, Emits}
use Rattle.venue_core.specs.State.{State}
use Rattle.venue_core.specs.Taking.{Stands, Takes}
use Rattle.venue_core.specs.VenueFacts.{IsHistory}
use Rattle.resting_orders.specs.declared.noted.EnteredOrder.{EnteredOrder}
use Rattle.resting_orders.specs.declared.replaying.Kept.{Kept}
use Rattle.resting_orders.specs.declared.asking.Request.{Request}
use Rattle.resting_orders.specs.declared.quoting.OwnQuote.{OwnQuote}
use Rattle.resting_orders.specs.Asking.{asked_at, closed_at, closings, requests}
use Rattle.resting_orders.specs.Holding.{entry_moment, held_after}
use Rattle.resting_orders.specs.Noting.{entered_on, orders_after}
use Rattle.resting_orders.specs.Quoting.{quoted_at, quoted_on}

-- what is kept: the orders that entered, the sides that are held, the requests for quotes, the rooms that traded, and
-- the quotes
pub record Notes : Type 0 where
  pub orders : List EnteredOrder
  pub held : List HeldSide
  pub requests : List Request
  pub closed : List ℕ
  pub quotes : List OwnQuote

-- the same of what the program keeps
abbrev pub notes_of : Kept → Notes
notes_of k = record { orders = k.orders.items; held = k.held.items; requests = k.requests.items; closed = k.closed.items; quotes = k.quotes.items }

-- what is kept after the answer to the input of a row
abbrev pub notes_after : Market → TrailRow → Input → List Reply → Notes → Notes
notes_after m r i replies n = record {
  orders = orders_after (record { row = r.n; moment = entry_moment n.held i }) n.orders replies;
  held = held_after m.instruments n.held i replies;
  requests = n.requests ++ cons_option (asked_at m.instruments i replies) [];
  closed = n.closed ++ cons_option (closed_at i replies) [];
  quotes = n.quotes ++ quoted_at i replies;
}

-- a venue takes the input of a row, and what it changes is kept
pub record NotesRow (r : TrailRow) (s s' : State) (before after : Notes) : Type 0 where
  pub input : Input
  pub answer : Answer
  pub emits : Emits r input
  pub takes : Takes s input answer s'
  pub notes : (h : History) → IsHistory s h → after ≡ notes_after s.market r input (answer_input s.market h input).replies before

-- what is kept is what the facts say: every order that entered, with its row, every side that is held, every request,
-- every room that traded, and every quote, as it was sent on to the requester
abbrev pub notes_on : Market → List TrailRow → List Input → Notes
notes_on m rs is =
    let facts = (run m is).history.facts in
    record { orders = entered_on m rs is; held = held facts; requests = requests facts; closed = closings facts; quotes = quoted_on m is }

-- a venue is where the inputs of these rows lead, and so is what is kept
pub record IsNoted (m : Market) (rs : List TrailRow) (s : State) (n : Notes) : Type 0 where
  pub items : List Input
  pub emitted : AreEmitted rs items
  pub stands : Stands m items s
  pub notes : n ≡ notes_on m rs items
