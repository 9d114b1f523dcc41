-- The state once the sessions have ended and both boards are closed.
use Rattle.std.specs.Prelude.{◌≡◌, List, ◌++◌, Bool, true, false, Option}
use Rattle.std.specs.Option.{option_to_list}
use Rattle.fix_dictionary.specs.declared.messages.App.{App}
use Rattle.fix_dictionary.specs.declared.messages.Item.{Item}
use Rattle.fix_session.specs.Chain.{accepted}
use Rattle.fix_session.specs.Reader.{Reader}
use Rattle.fix_session.specs.State.{State}
use Rattle.outbound_queue.specs.declared.outgoing.Outgoing.{Outgoing}
use Rattle.gateway.specs.Calls.{heard_of, without_cuts}
use Rattle.gateway.specs.Thread.{Thread, TurnRecord, events_of}

-- the replies numbered for the counterparty, then what is left in its seat, then what waits for it, are what it is
-- owed; of one that was cut, the sentinel aside, these are a first part of it
abbrev pub Reached : List App → List App → List Outgoing → List Outgoing → Bool → Type 0
Reached owed numbered left waiting false = numbered ++ without_cuts (left ++ waiting) ≡ owed
Reached owed numbered left waiting true = (rest : List App) × ((numbered ++ without_cuts (left ++ waiting)) ++ rest ≡ owed)

-- the messages taken of a new session in these turns, then the one left in its seat, then those ready, are what its
-- heard frames spell
abbrev pub IsTakenWhole : Thread → List TurnRecord → State → List Item → Option Item → Type 0
IsTakenWhole start turn_records session taken left =
    (r : Reader) → taken ++ (option_to_list left ++ session.ready) ≡ accepted (heard_of r start.session (events_of turn_records))
